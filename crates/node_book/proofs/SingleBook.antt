-- A file keeps one configuration and one list of records, or is refused for one cause.
use Rattle.std.proofs.Common.{◌≡◌, ◌⊎◌, inl, inr, ℕ, true, length, List, [], ◌∷◌, ◌++◌, map, Some, refl, sym, ap, subst, ◌∙◌, append_assoc}
use Rattle.std.proofs.lemmas.Bool.{and_parts}
use Rattle.std.proofs.lemmas.List.{append-nil}
use Rattle.gate_journal.specs.declared.fault.JournalFault.TheVariants as journal
use Rattle.gate_journal.specs.Fault.{IsMissing as IsJournalMissing}
use Rattle.gate_journal.specs.Format.{front, Stands}
use Rattle.gate_journal.specs.Reading.{IsRefusal as IsJournalRefusal}
use Rattle.gate_journal.specs.declared.fault.JournalFault.{JournalFault}
use Rattle.gate_journal.proofs.OneReading.{one_list, not_refused, one_refusal as one_journal_refusal}
use Rattle.node_notes.specs.declared.config.Config.{Config}
use Rattle.net_model.specs.declared.note.Note.{Note}
use Rattle.node_book.specs.declared.fault.BookFault.{BookFault}
use Rattle.node_book.specs.declared.fault.BookFault.TheVariants.{Unmade, NotJournal, Damaged, Full, AlreadyMade, DiskFault, Stopped, NoMemory, BadNote}
use Rattle.node_notes.specs.Spelling.{note_payload, config_payload}
use Rattle.node_notes.specs.Reading.{config_of}
use Rattle.node_notes.specs.Forms.{is_config, keeps_form, may_follow, is_next}
use Rattle.node_notes.specs.Tells.{AreInOrder, Tells}
use Rattle.node_book.specs.Keeps.{Keeps}
use Rattle.node_book.specs.Reading.{IsRefusal, IsBadBehind, HasBadAt, IsBadAt}
use Rattle.node_book.specs.Fault.{ComesFromDisk, IsMissing, book_fault}
use Rattle.node_notes.proofs.Payloads.{config_again}
use Rattle.node_notes.proofs.Shapes.{config_fits}
use Rattle.node_book.proofs.Telling.{same_note}

same_config : (one two : Config) → is_config one ≡ true → is_config two ≡ true → config_payload one ≡ config_payload two → one ≡ two
same_config one two one_fits two_fits same =
    let first = config_again one (config_fits one one_fits) in
    let second = config_again two (config_fits two two_fits) in
    let across = sym first ∙ ap config_of same ∙ second in
    cc

first_same : {a b : List ℕ} {xs ys : List (List ℕ)} → a ∷ xs ≡ b ∷ ys → a ≡ b
first_same is = cc

others_same : {a b : List ℕ} {xs ys : List (List ℕ)} → a ∷ xs ≡ b ∷ ys → xs ≡ ys
others_same is = cc

keeps_of : (config : Config) (before : List Note) (note : Note) → is_next config before note ≡ true → keeps_form config note ≡ true
keeps_of config before note next = (and_parts (keeps_form config note) (may_follow before note) next).0

same_notes : (config : Config) (b1 b2 one two : List Note) → is_config config ≡ true → AreInOrder config b1 one → AreInOrder config b2 two → map note_payload one ≡ map note_payload two → one ≡ two
same_notes config b1 b2 [] [] fits o1 o2 same = refl
same_notes config b1 b2 [] (n ∷ two) fits o1 o2 same = absurd (cc same)
same_notes config b1 b2 (m ∷ one) [] fits o1 o2 same = absurd (cc same)
same_notes config b1 b2 (m ∷ one) (n ∷ two) fits o1 o2 same =
    let here = same_note config m n fits (keeps_of config b1 m o1.0) (keeps_of config b2 n o2.0) (first_same same) in
    let rest = same_notes config (b1 ++ m ∷ []) (b2 ++ n ∷ []) one two fits o1.1 o2.1 (others_same same) in
    λ i. here i ∷ rest i

pub one_record_list : (payloads : List (List ℕ)) (c1 c2 : Config) (r1 r2 : List Note) → Tells payloads c1 r1 → Tells payloads c2 r2 → (c1 ≡ c2) × (r1 ≡ r2)
one_record_list payloads c1 c2 r1 r2 one two =
    let all = sym one.payloads_are ∙ two.payloads_are in
    let config = same_config c1 c2 one.config_fits two.config_fits (first_same all) in
    let order = subst (λ (c : Config). AreInOrder c [] r2) (sym config) two.in_order in
    (config, same_notes c1 [] [] r1 r2 one.config_fits one.in_order order (others_same all))

pub one_book : (file : List ℕ) (c1 c2 : Config) (r1 r2 : List Note) → Keeps file c1 r1 → Keeps file c2 r2 → (c1 ≡ c2) × (r1 ≡ r2)
one_book file c1 c2 r1 r2 one two =
    let same = one_list file one.payloads two.payloads one.stands two.stands in
    one_record_list two.payloads c1 c2 r1 r2 (subst (λ (p : List (List ℕ)). Tells p c1 r1) same one.tells) two.tells

-- the record behind a front of records
next_is : (config : Config) (before front all : List Note) (bad : List ℕ) (rest : List (List ℕ)) → is_config config ≡ true → AreInOrder config before front → AreInOrder config before all
    → map note_payload all ≡ map note_payload front ++ bad ∷ rest → (note : Note) × (is_next config (before ++ front) note ≡ true) × (bad ≡ note_payload note)
next_is config before [] [] bad rest fits o1 o2 same = absurd (cc same)
next_is config before [] (n ∷ all) bad rest fits o1 o2 same = (n, subst (λ (l : List Note). is_next config l n ≡ true) (sym (append-nil before)) o2.0, sym (first_same same))
next_is config before (m ∷ front) [] bad rest fits o1 o2 same = absurd (cc same)
next_is config before (m ∷ front) (n ∷ all) bad rest fits o1 o2 same =
    let here = same_note config n m fits (keeps_of config before n o2.0) (keeps_of config before m o1.0) (first_same same) in
    let found = next_is config (before ++ m ∷ []) front all bad rest fits o1.1 (subst (λ (x : Note). AreInOrder config (before ++ x ∷ []) all) here o2.1) (others_same same) in
    (found.0, subst (λ (l : List Note). is_next config l found.0 ≡ true) (append_assoc before (m ∷ []) front) found.1, found.2)

pub keeps_or_refused : (file : List ℕ) (config : Config) (notes : List Note) (fault : BookFault) → Keeps file config notes → IsRefusal fault (Some file) → ComesFromDisk fault
keeps_or_refused file config notes Unmade keeps (inl why) = absurd (not_refused file keeps.payloads journal.Unmade keeps.stands why)
keeps_or_refused file config notes Unmade keeps (inr none) =
    let same = one_list file [] keeps.payloads none keeps.stands ∙ keeps.tells.payloads_are in
    absurd (cc same)
keeps_or_refused file config notes (NotJournal place) keeps why = absurd (not_refused file keeps.payloads (journal.NotJournal place) keeps.stands why)
keeps_or_refused file config notes (Damaged place) keeps why = absurd (not_refused file keeps.payloads (journal.Damaged place) keeps.stands why)
keeps_or_refused file config notes Full keeps why = why
keeps_or_refused file config notes AlreadyMade keeps why = why
keeps_or_refused file config notes DiskFault keeps why = tt
keeps_or_refused file config notes Stopped keeps why = tt
keeps_or_refused file config notes NoMemory keeps why = tt
keeps_or_refused file config notes (BadNote place) keeps why =
    let bad = why.has_bad in
    let all = sym keeps.tells.payloads_are ∙ one_list file keeps.payloads why.payloads keeps.stands why.stands ∙ bad.payloads_are in
    elim bad.is_bad [
      | inl first ↦ absurd (first.1 config keeps.tells.config_fits (sym (first_same (all ∙ ap (λ (l : List (List ℕ)). l ++ bad.bad ∷ bad.rest) first.0))))
      | inr later ↦
          let tells = later.2 in
          let whole = all ∙ ap (λ (l : List (List ℕ)). l ++ bad.bad ∷ bad.rest) tells.payloads_are in
          let same = same_config config later.0 keeps.tells.config_fits tells.config_fits (first_same whole) in
          let order = subst (λ (c : Config). AreInOrder c [] notes) same keeps.tells.in_order in
          let found = next_is later.0 [] later.1 notes bad.bad bad.rest tells.config_fits tells.in_order order (others_same whole) in
          absurd (later.3 found.0 found.1 found.2)
    ]

-- ---- a file is refused for one cause, at one place

-- one front of a list is the other, or one goes on where the other ends
abbrev Fronts : List (List ℕ) → List ℕ → List (List ℕ) → List (List ℕ) → List ℕ → List (List ℕ) → Type 0
Fronts a x b c y d = (a ≡ c) ⊎ (((more : List (List ℕ)) × (c ≡ a ++ x ∷ more)) ⊎ ((more : List (List ℕ)) × (a ≡ c ++ y ∷ more)))

fronts_more : (p q : List ℕ) (a : List (List ℕ)) (x : List ℕ) (b c : List (List ℕ)) (y : List ℕ) (d : List (List ℕ)) → p ≡ q → Fronts a x b c y d → Fronts (p ∷ a) x b (q ∷ c) y d
fronts_more p q a x b c y d same (inl is) = inl (λ i. same i ∷ is i)
fronts_more p q a x b c y d same (inr (inl longer)) = inr (inl (longer.0, (λ i. sym same i ∷ longer.1 i)))
fronts_more p q a x b c y d same (inr (inr longer)) = inr (inr (longer.0, (λ i. same i ∷ longer.1 i)))

fronts : (a : List (List ℕ)) (x : List ℕ) (b c : List (List ℕ)) (y : List ℕ) (d : List (List ℕ)) → a ++ x ∷ b ≡ c ++ y ∷ d → Fronts a x b c y d
fronts [] x b [] y d is = inl refl
fronts [] x b (q ∷ c) y d is = inr (inl (c, (λ i. sym (first_same is) i ∷ c)))
fronts (p ∷ a) x b [] y d is = inr (inr (a, (λ i. first_same is i ∷ a)))
fronts (p ∷ a) x b (q ∷ c) y d is = fronts_more p q a x b c y d (first_same is) (fronts a x b c y d (others_same is))

-- what is bad is in no front that is good
in_no_front : (good : List (List ℕ)) (bad : List ℕ) (more front : List (List ℕ)) (other : List ℕ) → IsBadBehind good bad → front ≡ good ++ bad ∷ more → IsBadBehind front other → ⊥
in_no_front good bad more front other one is (inl none) =
    let clash = sym none.0 ∙ is in
    nothing_there good clash
  where
    nothing_there : (xs : List (List ℕ)) → [] ≡ xs ++ bad ∷ more → ⊥
    nothing_there [] e = cc
    nothing_there (x ∷ xs) e = cc
in_no_front good bad more front other (inl first) is (inr later) =
    let all = sym later.2.payloads_are ∙ is ∙ ap (λ (l : List (List ℕ)). l ++ bad ∷ more) first.0 in
    first.1 later.0 later.2.config_fits (sym (first_same all))
in_no_front good bad more front other (inr one) is (inr later) =
    let all = sym later.2.payloads_are ∙ is ∙ ap (λ (l : List (List ℕ)). l ++ bad ∷ more) one.2.payloads_are in
    let same = same_config later.0 one.0 later.2.config_fits one.2.config_fits (first_same all) in
    let order = subst (λ (c : Config). AreInOrder c [] later.1) same later.2.in_order in
    let found = next_is one.0 [] one.1 later.1 bad more one.2.config_fits one.2.in_order order (others_same all) in
    one.3 found.0 found.1 found.2

one_place : (payloads : List (List ℕ)) (p q : ℕ) → HasBadAt payloads p → HasBadAt payloads q → p ≡ q
one_place payloads p q one two =
    elim (fronts one.good one.bad one.rest two.good two.bad two.rest (sym one.payloads_are ∙ two.payloads_are)) [
      | inl same ↦ one.place_is ∙ ap (λ (l : List (List ℕ)). length (front l)) same ∙ sym two.place_is
      | inr (inl longer) ↦ absurd (in_no_front one.good one.bad longer.0 two.good two.bad one.is_bad longer.1 two.is_bad)
      | inr (inr longer) ↦ absurd (in_no_front two.good two.bad longer.0 one.good one.bad two.is_bad longer.1 one.is_bad)
    ]

-- nothing but the book refuses a file that stands for payloads, and none is bad in no payloads
stood : (file : List ℕ) (payloads : List (List ℕ)) (fault : JournalFault) → IsJournalMissing fault → Stands file payloads → IsJournalRefusal fault (Some file) → ⊥
stood file payloads fault missing stands why = missing (not_refused file payloads fault stands why)

none_bad : (file : List ℕ) (place : ℕ) → Stands file [] → IsBadAt file place → ⊥
none_bad file place empty bad =
    let none = one_list file [] bad.payloads empty bad.stands ∙ bad.has_bad.payloads_are in
    nothing_there bad.has_bad.good bad.has_bad.bad bad.has_bad.rest none
  where
    nothing_there : (xs : List (List ℕ)) (y : List ℕ) (ys : List (List ℕ)) → [] ≡ xs ++ y ∷ ys → ⊥
    nothing_there [] y ys e = cc
    nothing_there (x ∷ xs) y ys e = cc

bad_places : (file : List ℕ) (p q : ℕ) → IsBadAt file p → IsBadAt file q → BadNote p ≡ BadNote q
bad_places file p q one two =
    let same = one_list file one.payloads two.payloads one.stands two.stands in
    ap (λ (n : ℕ). BadNote n) (one_place two.payloads p q (subst (λ (l : List (List ℕ)). HasBadAt l p) same one.has_bad) two.has_bad)

-- of two refusals that are the journal's
journals : (file : List ℕ) (a b : JournalFault) → IsJournalMissing a → IsJournalMissing b → IsJournalRefusal a (Some file) → IsJournalRefusal b (Some file) → book_fault a ≡ book_fault b
journals file a b one two why how = ap book_fault (one_journal_refusal file a b one two why how)

pub one_refusal : (file : List ℕ) (a b : BookFault) → IsMissing a → IsMissing b → IsRefusal a (Some file) → IsRefusal b (Some file) → a ≡ b
one_refusal file Full b one two why how = absurd why
one_refusal file AlreadyMade b one two why how = absurd why
one_refusal file DiskFault b one two why how = absurd (one tt)
one_refusal file Stopped b one two why how = absurd (one tt)
one_refusal file NoMemory b one two why how = absurd (one tt)
one_refusal file a Full one two why how = absurd how
one_refusal file a AlreadyMade one two why how = absurd how
one_refusal file a DiskFault one two why how = absurd (two tt)
one_refusal file a Stopped one two why how = absurd (two tt)
one_refusal file a NoMemory one two why how = absurd (two tt)
one_refusal file Unmade Unmade one two why how = refl
one_refusal file Unmade (NotJournal q) one two (inl why) how = journals file journal.Unmade (journal.NotJournal q) (λ no. no) (λ no. no) why how
one_refusal file Unmade (NotJournal q) one two (inr empty) how = absurd (stood file [] (journal.NotJournal q) (λ no. no) empty how)
one_refusal file Unmade (Damaged q) one two (inl why) how = journals file journal.Unmade (journal.Damaged q) (λ no. no) (λ no. no) why how
one_refusal file Unmade (Damaged q) one two (inr empty) how = absurd (stood file [] (journal.Damaged q) (λ no. no) empty how)
one_refusal file Unmade (BadNote q) one two (inl why) how = absurd (stood file how.payloads journal.Unmade (λ no. no) how.stands why)
one_refusal file Unmade (BadNote q) one two (inr empty) how = absurd (none_bad file q empty how)
one_refusal file (NotJournal p) Unmade one two why (inl how) = journals file (journal.NotJournal p) journal.Unmade (λ no. no) (λ no. no) why how
one_refusal file (NotJournal p) Unmade one two why (inr empty) = absurd (stood file [] (journal.NotJournal p) (λ no. no) empty why)
one_refusal file (NotJournal p) (NotJournal q) one two why how = journals file (journal.NotJournal p) (journal.NotJournal q) (λ no. no) (λ no. no) why how
one_refusal file (NotJournal p) (Damaged q) one two why how = journals file (journal.NotJournal p) (journal.Damaged q) (λ no. no) (λ no. no) why how
one_refusal file (NotJournal p) (BadNote q) one two why how = absurd (stood file how.payloads (journal.NotJournal p) (λ no. no) how.stands why)
one_refusal file (Damaged p) Unmade one two why (inl how) = journals file (journal.Damaged p) journal.Unmade (λ no. no) (λ no. no) why how
one_refusal file (Damaged p) Unmade one two why (inr empty) = absurd (stood file [] (journal.Damaged p) (λ no. no) empty why)
one_refusal file (Damaged p) (NotJournal q) one two why how = journals file (journal.Damaged p) (journal.NotJournal q) (λ no. no) (λ no. no) why how
one_refusal file (Damaged p) (Damaged q) one two why how = journals file (journal.Damaged p) (journal.Damaged q) (λ no. no) (λ no. no) why how
one_refusal file (Damaged p) (BadNote q) one two why how = absurd (stood file how.payloads (journal.Damaged p) (λ no. no) how.stands why)
one_refusal file (BadNote p) Unmade one two why (inl how) = absurd (stood file why.payloads journal.Unmade (λ no. no) why.stands how)
one_refusal file (BadNote p) Unmade one two why (inr empty) = absurd (none_bad file p empty why)
one_refusal file (BadNote p) (NotJournal q) one two why how = absurd (stood file why.payloads (journal.NotJournal q) (λ no. no) why.stands how)
one_refusal file (BadNote p) (Damaged q) one two why how = absurd (stood file why.payloads (journal.Damaged q) (λ no. no) why.stands how)
one_refusal file (BadNote p) (BadNote q) one two why how = bad_places file p q why how
