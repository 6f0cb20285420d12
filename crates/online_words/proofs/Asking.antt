-- What the words ask for is found, or isn't there.
use Rattle.std.proofs.Common.{◌≡◌, ◌<◌, ◌∙◌, ◌⊎◌, inl, inr, ℕ, List, [], ◌∷◌, length, map, refl, ap, ap₂, sym, subst, arith, slice_index}
use Rattle.std.specs.Prelude.{Option, Some, None, Result, Ok, Err, MatchOption, unwrap_or, option_map, codes}
use Rattle.clap.specs.Walk.{Row, Text, all_of, first_of}
use Rattle.clap.specs.Simple.{subcommand_of}
use Rattle.clap.specs.Faults.{fault_of}
use Rattle.clap.specs.Kinds.{HasKind, IsAmong, Kinds}
use Rattle.clap.specs.Values.{kind_of}
use Rattle.clap.specs.declared.error.Error.{Error}
use Rattle.clap.specs.declared.error.kind.ErrorKind.TheVariants as kind
use Rattle.online_words.specs.Network.{network_app}
use Rattle.online_words.specs.Requests.{Asks, AsksIn, AsksOrFaulty, IsCount, IsCountOf, IsPause, IsRequest, RequestOrFaulty, upstream_in}
use Rattle.online_words.specs.declared.request.Request.{Request}
use Rattle.online_words.specs.declared.request.Request.TheVariants.{Submit, Listen, Serve}
use Rattle.online_words.specs.declared.request.WordsFault.{WordsFault}
use Rattle.online_words.specs.declared.request.WordsFault.TheVariants.{Faulty, NoMemory}

nothing_is : {T : Type 0} {C : Type 0} (x : T) → None ≡ Some x → C
nothing_is x e = absurd (let no = e in cc)

same : {T : Type 0} (x y : T) → Some x ≡ Some y → x ≡ y
same x y e = ap (λ o. unwrap_or o x) e

unequal : (m n : ℕ) → m ≡ n → (m < n) ⊎ (n < m) → ⊥
unequal m n e (inl less) = omega (arith, e, less)
unequal m n e (inr more) = omega (arith, e, more)

-- ---- numbers

pub no_word : (id : Text) (rows : List Row) → None ≡ first_of id rows → (most n : ℕ) → IsCountOf most id rows n → ⊥
no_word id rows none most n c = nothing_is c.text (none ∙ c.found)

pub word_counts : (most : ℕ) (id : Text) (rows : List Row) (text : Text) → Some text ≡ first_of id rows → (r : Option ℕ)
    → MatchOption r ((n : ℕ) → IsCount most text n → ⊥) (IsCount most text)
    → MatchOption r ((n : ℕ) → IsCountOf most id rows n → ⊥) (IsCountOf most id rows)
word_counts most id rows text is (Some n) count = record { text = text; found = sym is; count = count }
word_counts most id rows text is None lacks = λ n c. lacks n (subst (λ t. IsCount most t n) (sym (same text c.text (is ∙ c.found))) c.count)

pub no_pause : (rows : List Row) (text : Text) → Some text ≡ first_of (codes "redial") rows → ((n : ℕ) → IsCount 86400 text n → ⊥) → (pause : Option ℕ) → IsPause rows pause → ⊥
no_pause rows text is lacks None pause = nothing_is text (sym (is ∙ pause))
no_pause rows text is lacks (Some n) pause = lacks n (subst (λ t. IsCount 86400 t n) (sym (same text pause.text (is ∙ pause.found))) pause.count)

pub is_pause : (rows : List Row) (text : Text) (n : ℕ) → Some text ≡ first_of (codes "redial") rows → IsCount 86400 text n → IsPause rows (Some n)
is_pause rows text n is count = record { text = text; found = sym is; count = count }

-- ---- what each command lacks

pub no_submit : (rows : List Row) → None ≡ first_of (codes "ADDRESS") rows → (request : Request) → Asks (codes "submit") rows request → ⊥
no_submit rows none (Submit address) asks = nothing_is address (none ∙ asks.1)
no_submit rows none (Listen address count) asks = unequal 115 108 (ap (λ (t : Text). slice_index t 0) asks.0) (inr (omega arith))
no_submit rows none (Serve redial authors subscribers sessions upstream) asks = unequal 6 5 (ap (λ (t : Text). length t) asks.0) (inr (omega arith))

pub no_listen : (rows : List Row) → (None ≡ first_of (codes "ADDRESS") rows) ⊎ ((n : ℕ) → IsCountOf 1000000 (codes "COUNT") rows n → ⊥) → (request : Request) → Asks (codes "listen") rows request → ⊥
no_listen rows lacks (Submit address) asks = unequal 108 115 (ap (λ (t : Text). slice_index t 0) asks.0) (inl (omega arith))
no_listen rows (inl none) (Listen address count) asks = nothing_is address (none ∙ asks.1)
no_listen rows (inr none) (Listen address count) asks = none count asks.2
no_listen rows lacks (Serve redial authors subscribers sessions upstream) asks = unequal 6 5 (ap (λ (t : Text). length t) asks.0) (inr (omega arith))

pub no_serve : (rows : List Row) → ((pause : Option ℕ) → IsPause rows pause → ⊥) ⊎ ((None ≡ first_of (codes "AUTHORS") rows) ⊎ ((None ≡ first_of (codes "SUBSCRIBERS") rows) ⊎ ((n : ℕ) → IsCountOf 1000000 (codes "SESSIONS") rows n → ⊥))) → (request : Request) → Asks (codes "serve") rows request → ⊥
no_serve rows lacks (Submit address) asks = unequal 5 6 (ap (λ (t : Text). length t) asks.0) (inl (omega arith))
no_serve rows lacks (Listen address count) asks = unequal 5 6 (ap (λ (t : Text). length t) asks.0) (inl (omega arith))
no_serve rows (inl none) (Serve redial authors subscribers sessions upstream) asks = none redial asks.1
no_serve rows (inr (inl none)) (Serve redial authors subscribers sessions upstream) asks = nothing_is authors (none ∙ asks.2)
no_serve rows (inr (inr (inl none))) (Serve redial authors subscribers sessions upstream) asks = nothing_is subscribers (none ∙ asks.3)
no_serve rows (inr (inr (inr none))) (Serve redial authors subscribers sessions upstream) asks = none sessions asks.4

-- no command has this name
pub no_name : (name : Text) (rows : List Row) → (name ≡ codes "submit" → ⊥) → (name ≡ codes "listen" → ⊥) → (name ≡ codes "serve" → ⊥) → (request : Request) → Asks name rows request → ⊥
no_name name rows submit listen serve (Submit address) asks = submit asks.0
no_name name rows submit listen serve (Listen address count) asks = listen asks.0
no_name name rows submit listen serve (Serve redial authors subscribers sessions upstream) asks = serve asks.0

-- ---- the parse

pub entered : {B : Type 0} (f : B → Text) (g : B → List Row) (o : Option B) (name : Text) (rows : List Row)
    → Some name ≡ option_map f o → Some rows ≡ option_map (λ (p : Text × List Row). p.1) (option_map {U = Text × List Row} (λ b. (f b, g b)) o)
    → option_map {U = Text × List Row} (λ b. (f b, g b)) o ≡ Some (name, rows)
entered f g None name rows names has = nothing_is name (sym names)
entered f g (Some b) name rows names has = ap₂ (λ n r. Some (n, r)) (sym (same name (f b) names)) (sym (same rows (g b) has))

pub named : (words : List Text) (name : Text) (rows : List Row) (r : Result Request WordsFault) → fault_of network_app words ≡ [] → subcommand_of network_app words ≡ Some (name, rows) → AsksOrFaulty name rows r → RequestOrFaulty words r
named words name rows (Ok request) none is asks = record { taken = none; asks = subst (λ o. AsksIn o request) (sym is) asks }
named words name rows (Err Faulty) none is lacks = λ request asked. lacks request (subst (λ o. AsksIn o request) is asked.asks)
named words name rows (Err NoMemory) none is asks = tt

pub unnamed : (words : List Text) → subcommand_of network_app words ≡ None → (request : Request) → IsRequest words request → ⊥
unnamed words is request asked = subst (λ o. AsksIn o request) is asked.asks

among_none : (k : _) (kinds : Kinds) → kinds ≡ [] → IsAmong k kinds → ⊥
among_none k kinds none among = subst (λ ks. IsAmong k ks) none among

pub refused : (words : List Text) (e : Error) → HasKind (fault_of network_app words) e → (fault : WordsFault) → (fault ≡ Faulty → kind_of e ≡ kind.OutOfMemory → ⊥) → RequestOrFaulty words (Err fault)
refused words e (inl memory) Faulty mended = absurd (mended refl memory)
refused words e (inr among) Faulty mended = λ request asked. among_none (kind_of e) _ asked.taken among
refused words e has NoMemory mended = tt
