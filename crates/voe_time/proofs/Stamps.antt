-- A stamp's characters, and that a moment has one stamp.
use Rattle.std.proofs.Common.{◌≡◌, ℕ, suc, ◌+◌, ◌-◌, ◌*◌, ◌/◌, ◌%◌, ◌<◌, ◌≤◌, Bool, true, List, [], ◌∷◌, ◌++◌, length, refl, sym, ap, ◌∙◌, arith, pos, negsuc, subst}
use Rattle.std.specs.Prelude.{◌&&◌, ℤ, None, nat_le, nat_lt, slice_index, codes}
use Rattle.std.specs.List.{list_all}
use Rattle.std.proofs.lemmas.Bool.{and_from}
use Rattle.std.proofs.lemmas.Bool.Decides.{nat_tests}
use Rattle.std.proofs.lemmas.List.Folds.{list_all-append}
use Rattle.jiff.specs.Types.{DateTime}
use Rattle.jiff.specs.Words.{civil_nanos, IsYear, date_text}
use Rattle.jiff.proofs.SpanFacts.{signed_arith}
use Rattle.jiff_core.proofs.CalendarLemmas.{days_in_month_bounds}
use Rattle.jiff_core.proofs.DateLemmas.{epoch_day_injective}
use Rattle.jiff_core.proofs.DateTimeLemmas.{civil_nanos-civil_seconds, civil_nanos_injective, time_nanos_injective}
use Rattle.jiff_fmt.specs.Text.{fraction_part, pad2, pad4, year_text}
use Rattle.voe_time.specs.Stamp.{IsStamp}

-- ---- characters

abbrev is_printable : ℕ → Bool
is_printable b = nat_le 32 b && nat_lt b 127

digit : (n : ℕ) → n < 10 → is_printable (48 + n) ≡ true
digit n h = grind (arith, nat_tests)

both : (xs ys : List ℕ) → list_all is_printable xs ≡ true → list_all is_printable ys ≡ true → list_all is_printable (xs ++ ys) ≡ true
both xs ys h k = list_all-append is_printable xs ys ∙ and_from (list_all is_printable xs) (list_all is_printable ys) h k

two : (n : ℕ) → n < 100 → list_all is_printable (pad2 n) ≡ true
two n h = and_from (is_printable (48 + n / 10)) (list_all is_printable ((48 + n % 10) ∷ [])) (digit (n / 10) (omega arith)) (and_from (is_printable (48 + n % 10)) true (digit (n % 10) (omega arith)) refl)

four : (n : ℕ) → n < 10000 → list_all is_printable (pad4 n) ≡ true
four n h = both (pad2 (n / 100)) (pad2 (n % 100)) (two (n / 100) (omega arith)) (two (n % 100) (omega arith))

year : (y : ℤ) → IsYear y → list_all is_printable (year_text y) ≡ true
year (pos n) h = four n (omega (arith, signed_arith, h.1))
year (negsuc n) h = both (codes "-00") (pad4 (suc n)) refl (four (suc n) (omega (arith, signed_arith, h.0)))

-- ---- a date and a whole second

-- what is written of the parts
abbrev text_of : ℤ → ℕ → ℕ → ℕ → ℕ → ℕ → List ℕ
text_of y m d hour minute second =
    (year_text y ++ 45 ∷ [] ++ pad2 m ++ 45 ∷ [] ++ pad2 d) ++ 84 ∷ (pad2 hour ++ 58 ∷ pad2 minute ++ 58 ∷ pad2 second ++ [])

abbrev stamp_of : DateTime → List ℕ
stamp_of c = text_of c.date.year c.date.month c.date.day c.time.hour c.time.minute c.time.second ++ codes "Z"

whole_second : (moment : ℕ) (c : DateTime) → civil_nanos c ≡ pos (moment / 1000 * 1_000_000_000) → c.time.subsec_nanosecond ≡ 0
whole_second moment c h =
    let parts = civil_nanos-civil_seconds c in
    let small = c.time.subsec_in in
    omega (arith, signed_arith, h, parts, small)

stamp_is : (moment : ℕ) (s : List ℕ) (is : IsStamp moment s) → s ≡ stamp_of is.civil
stamp_is moment s is =
    is.written ∙ ap (λ n. (date_text is.civil.date ++ 84 ∷ (pad2 is.civil.time.hour ++ 58 ∷ pad2 is.civil.time.minute ++ 58 ∷ pad2 is.civil.time.second ++ fraction_part None n)) ++ codes "Z") (whole_second moment is.civil is.second)

date_printable : (y : ℤ) (m d : ℕ) → IsYear y → m < 100 → d < 100 → list_all is_printable (year_text y ++ 45 ∷ [] ++ pad2 m ++ 45 ∷ [] ++ pad2 d) ≡ true
date_printable y m d a b c =
    both (year_text y ++ 45 ∷ [] ++ pad2 m ++ 45 ∷ []) (pad2 d)
    (both (year_text y ++ 45 ∷ [] ++ pad2 m) (45 ∷ [])
    (both (year_text y ++ 45 ∷ []) (pad2 m) (both (year_text y) (45 ∷ []) (year y a) refl) (two m b)) refl)
    (two d c)

time_printable : (hour minute second : ℕ) → hour < 100 → minute < 100 → second < 100 → list_all is_printable (pad2 hour ++ 58 ∷ pad2 minute ++ 58 ∷ pad2 second ++ []) ≡ true
time_printable hour minute second a b c = both (pad2 hour) (58 ∷ pad2 minute ++ 58 ∷ pad2 second ++ []) (two hour a) (both (pad2 minute) (58 ∷ pad2 second ++ []) (two minute b) (both (pad2 second) [] (two second c) refl))

stamp_printable : (c : DateTime) → list_all is_printable (stamp_of c) ≡ true
stamp_printable c =
    let month = c.date.month_in in
    let day = c.date.day_in in
    let days = days_in_month_bounds c.date.year c.date.month in
    let hour = c.time.hour_in in
    let minute = c.time.minute_in in
    let second = c.time.second_in in
    both (text_of c.date.year c.date.month c.date.day c.time.hour c.time.minute c.time.second) (codes "Z")
    (both (year_text c.date.year ++ 45 ∷ [] ++ pad2 c.date.month ++ 45 ∷ [] ++ pad2 c.date.day) (84 ∷ (pad2 c.time.hour ++ 58 ∷ pad2 c.time.minute ++ 58 ∷ pad2 c.time.second ++ []))
    (date_printable c.date.year c.date.month c.date.day c.date.year_in (omega (arith, month)) (omega (arith, day, days)))
    (time_printable c.time.hour c.time.minute c.time.second (omega (arith, hour)) (omega (arith, minute)) (omega (arith, second))))
    refl

pub printable : (moment : ℕ) (s : List ℕ) → IsStamp moment s → list_all (λ b. nat_le 32 b && nat_lt b 127) s ≡ true
printable moment s is = ap (list_all is_printable) (stamp_is moment s is) ∙ stamp_printable is.civil

first_of : (y : ℤ) (m d hour minute second : ℕ) → 32 < slice_index (text_of y m d hour minute second ++ codes "Z") 0
first_of (pos n) m d hour minute second = omega arith
first_of (negsuc n) m d hour minute second = omega arith

last_of : (y : ℤ) (m d hour minute second : ℕ) → slice_index (text_of y m d hour minute second ++ codes "Z") (length (text_of y m d hour minute second ++ codes "Z") - 1) ≡ 90
last_of (pos n) m d hour minute second = refl
last_of (negsuc n) m d hour minute second = refl

length_of : (y : ℤ) (m d hour minute second : ℕ) → length (text_of y m d hour minute second ++ codes "Z") ≤ 23
length_of (pos n) m d hour minute second = omega arith
length_of (negsuc n) m d hour minute second = omega arith

pub first : (moment : ℕ) (s : List ℕ) → IsStamp moment s → 32 < slice_index s 0
first moment s is = let c = is.civil in subst (λ (t : List ℕ). 32 < slice_index t 0) (sym (stamp_is moment s is)) (first_of c.date.year c.date.month c.date.day c.time.hour c.time.minute c.time.second)

pub last : (moment : ℕ) (s : List ℕ) → IsStamp moment s → 32 < slice_index s (length s - 1)
last moment s is =
    let c = is.civil in
    let ends : slice_index s (length s - 1) ≡ 90 = ap (λ (t : List ℕ). slice_index t (length t - 1)) (stamp_is moment s is) ∙ last_of c.date.year c.date.month c.date.day c.time.hour c.time.minute c.time.second in
    omega arith

pub short : (moment : ℕ) (s : List ℕ) → IsStamp moment s → length s ≤ 23
short moment s is = let c = is.civil in subst (λ (t : List ℕ). length t ≤ 23) (sym (stamp_is moment s is)) (length_of c.date.year c.date.month c.date.day c.time.hour c.time.minute c.time.second)

-- ---- one stamp

pub one : (moment : ℕ) (s t : List ℕ) → IsStamp moment s → IsStamp moment t → s ≡ t
one moment s t a b =
    let nanos = civil_nanos_injective a.civil b.civil (a.second ∙ sym b.second) in
    let date = epoch_day_injective a.civil.date b.civil.date nanos.0 in
    let clock = time_nanos_injective a.civil.time b.civil.time nanos.1 in
    stamp_is moment s a ∙ (λ i. text_of (date.0 i) (date.1 i) (date.2 i) (clock.0 i) (clock.1 i) (clock.2 i) ++ codes "Z") ∙ sym (stamp_is moment t b)
