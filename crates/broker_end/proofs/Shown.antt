-- What a guest is given.
use Rattle.std.proofs.Common.{◌≡◌, ℕ, ◌+◌, ◌<◌, ◌≤◌, zero, suc, Bool, true, false, List, [], ◌∷◌, ◌++◌, length, Some, None, refl, sym, ◌∙◌, ap, subst, arith}
use Rattle.std.specs.Prelude.{Option, cond, IsTrue, ◌↔◌, nat_lt, slice_get}
use Rattle.std.proofs.lemmas.Bool.{and_parts, leb-true}
use Rattle.std.proofs.lemmas.Bool.Decides.{nat_tests}
use Rattle.xml_lexer.specs.Characters.{Text}
use Rattle.voe_tree.specs.Document.{Spells}
use Rattle.voe_tree.specs.declared.element.Element.{Element}
use Rattle.net_model.specs.Notes.{Offer, Placed, first_from, offer, or_later, to_show}
use Rattle.net_model.specs.declared.note.Note.{Note}
use Rattle.net_model.specs.declared.note.Note.TheVariants.{Wrote, Acked, Refused, Accept, Done, Enter}
use Rattle.node_notes.specs.Forms.{is_packet, keeps_form}
use Rattle.node_notes.specs.Tells.{AreInOrder}
use Rattle.node_notes.specs.declared.config.Config.{Config}
use Rattle.path_filter.specs.Sets.{BytesPass, Filters, SetPasses}
use Rattle.path_filter.proofs.LinkUnique.{one_tree}
use Rattle.broker_end.specs.Broker.{IsShort, IsShown, IsShownBy, NoneIsShown}

-- ---- notes in order are short

short_packet : (packet : List ℕ) → is_packet packet ≡ true → length packet ≤ 1048576
unfolding is_packet
short_packet packet is = leb-true (length packet) 1048576 (and_parts _ _ is).1

short_form : (config : Config) (note : Note) → keeps_form config note ≡ true → IsShort note
unfolding keeps_form
short_form config (Accept identifier links packet) is = short_packet packet (and_parts _ _ (and_parts _ _ is).0).1
short_form config (Wrote identifier packet) is = tt
short_form config (Enter identifier packet) is = tt
short_form config (Acked line identifier) is = tt
short_form config (Refused line identifier) is = tt
short_form config (Done link identifier) is = tt

some_note : {a c : Note} → Some a ≡ Some c → a ≡ c
some_note e = cc

pub short_at : (config : Config) (before notes : List Note) (at : ℕ) (note : Note) → AreInOrder config before notes → slice_get notes at ≡ Some note → IsShort note
short_at config before [] at note order e = absurd (cc)
short_at config before (first ∷ notes) zero note order e =
    subst IsShort (some_note e) (short_form config first (and_parts (keeps_form config first) _ order.0).0)
short_at config before (first ∷ notes) (suc at) note order e = short_at config (before ++ first ∷ []) notes at note order.1 e

-- ---- what is found

none_of : (b : Bool) (x : Option Offer) → (b ≡ false → x ≡ None) → cond b None x ≡ None
none_of true x h = refl
none_of false x h = h refl

later_none : (place : ℕ) (this : Option Offer) (rest found : Option Placed) → this ≡ None → rest ≡ found → or_later place this rest ≡ found
later_none place this rest found e f = ap (λ (t : Option Offer). or_later place t rest) e ∙ f

this_some : (place : ℕ) (this : Option Offer) (rest : Option Placed) (o : Offer) → this ≡ Some o → or_later place this rest ≡ Some (place, o)
this_some place this rest o e = ap (λ (t : Option Offer). or_later place t rest) e

reaches : (place after : ℕ) → nat_lt place after ≡ false → after ≤ place
reaches place after e = grind (arith, nat_tests)

reached : (place after : ℕ) → after ≤ place → nat_lt place after ≡ false
reached place after low = grind (arith, nat_tests)

-- none of these notes gives anything from a place on
abbrev pub NoneGives : (Note → Option Offer) → ℕ → ℕ → List Note → ℕ → Type 0
NoneGives gives after place notes until = (k : ℕ) (note : Note) → k < until → after ≤ place + k → slice_get notes k ≡ Some note → gives note ≡ None

shifted : (gives : Note → Option Offer) (after place : ℕ) (first : Note) (notes : List Note) (until : ℕ) → NoneGives gives after place (first ∷ notes) (suc until)
    → NoneGives gives after (place + 1) notes until
shifted gives after place first notes until none k note low past at = none (suc k) note (omega (arith, low)) (omega (arith, past)) at

head_none : (gives : Note → Option Offer) (after place : ℕ) (first : Note) (notes : List Note) (until : ℕ) → NoneGives gives after place (first ∷ notes) (suc until)
    → cond (nat_lt place after) None (gives first) ≡ None
head_none gives after place first notes until none =
    none_of (nat_lt place after) (gives first) (λ e. none 0 first (omega arith) (let r = reaches place after e in omega (arith, r)) refl)

pub found_none : (gives : Note → Option Offer) (after place : ℕ) (notes : List Note) → NoneGives gives after place notes (length notes) → first_from gives after place notes ≡ None
found_none gives after place [] none = refl
found_none gives after place (first ∷ notes) none =
    later_none place _ _ None (head_none gives after place first notes (length notes) none)
    (found_none gives after (place + 1) notes (shifted gives after place first notes (length notes) none))

pub found_some : (gives : Note → Option Offer) (after place : ℕ) (notes : List Note) (at : ℕ) (note : Note) (o : Offer) → slice_get notes at ≡ Some note → gives note ≡ Some o
    → after ≤ place + at → NoneGives gives after place notes at → first_from gives after place notes ≡ Some (place + at, o)
found_some gives after place [] at note o is given past none = absurd (cc)
found_some gives after place (first ∷ notes) zero note o is given past none =
    let here : gives first ≡ Some o = ap gives (some_note is) ∙ given in
    let low : nat_lt place after ≡ false = reached place after (omega (arith, past)) in
    let zero_more : place ≡ place + 0 = omega arith in
    this_some place (cond (nat_lt place after) None (gives first)) _ o (ap (λ (b : Bool). cond b None (gives first)) low ∙ here) ∙ ap (λ (p : ℕ). Some (p, o)) zero_more
found_some gives after place (first ∷ notes) (suc at) note o is given past none =
    let more : place + 1 + at ≡ place + suc at = omega arith in
    later_none place _ _ (Some (place + suc at, o)) (head_none gives after place first notes at none)
    (found_some gives after (place + 1) notes at note o is given (omega (arith, past)) (shifted gives after place first notes at none) ∙ ap (λ (p : ℕ). Some (p, o)) more)

-- ---- by what the filters pass

cond_false : (b : Bool) (o : Offer) → (IsTrue b → ⊥) → cond b (Some o) None ≡ None
cond_false true o h = absurd (h refl)
cond_false false o h = refl

pub cond_true : (b : Bool) (o : Offer) → IsTrue b → cond b (Some o) None ≡ Some o
cond_true true o h = refl
cond_true false o h = absurd (let bad : false ≡ true = h in cc)

none_shown : (shows : List ℕ → Bool) (filters : Filters) (notes : List Note) (k : ℕ) (note : Note) → IsShownBy notes filters shows → slice_get notes k ≡ Some note
    → (IsShown filters (slice_get notes k) → ⊥) → to_show shows note ≡ None
none_shown shows filters notes k (Accept i l p) by at none =
    cond_false (shows p) (offer i p) (λ t. none (subst (λ (n : Option Note). IsShown filters n) (sym at) ((by k i p l at).0 t)))
none_shown shows filters notes k (Wrote i p) by at none = refl
none_shown shows filters notes k (Enter i p) by at none = refl
none_shown shows filters notes k (Acked l i) by at none = refl
none_shown shows filters notes k (Refused l i) by at none = refl
none_shown shows filters notes k (Done l i) by at none = refl

pub none_given : (shows : List ℕ → Bool) (filters : Filters) (notes : List Note) (after until : ℕ) → IsShownBy notes filters shows → NoneIsShown notes filters after until
    → NoneGives (to_show shows) after 0 notes until
none_given shows filters notes after until by none k note low past at =
    let here : after ≤ k = omega (arith, past) in
    none_shown shows filters notes k note by at (none k here low)

-- the note that is found accepts a packet
pub record Accepted (filters : Filters) (notes : List Note) (at : ℕ) : Type 0 where
  pub identifier : List ℕ
  pub links : List ℕ
  pub packet : List ℕ
  pub at_is : slice_get notes at ≡ Some (Accept identifier links packet)
  pub passes : BytesPass filters packet

accepted_by : (filters : Filters) (notes : List Note) (at : ℕ) (found : Option Note) → slice_get notes at ≡ found → IsShown filters found → Accepted filters notes at
accepted_by filters notes at None e shown = absurd shown
accepted_by filters notes at (Some (Accept i l p)) e shown = record { identifier = i; links = l; packet = p; at_is = e; passes = shown }
accepted_by filters notes at (Some (Wrote i p)) e shown = absurd shown
accepted_by filters notes at (Some (Enter i p)) e shown = absurd shown
accepted_by filters notes at (Some (Acked l i)) e shown = absurd shown
accepted_by filters notes at (Some (Refused l i)) e shown = absurd shown
accepted_by filters notes at (Some (Done l i)) e shown = absurd shown

pub accepted_at : (filters : Filters) (notes : List Note) (at : ℕ) → IsShown filters (slice_get notes at) → Accepted filters notes at
accepted_at filters notes at shown = accepted_by filters notes at (slice_get notes at) refl shown

-- ---- trees

pub tree_passes : (filters : Filters) (packet : Text) (root : Element) (b : Bool) → Spells root packet → IsTrue b ↔ SetPasses filters root → IsTrue b ↔ BytesPass filters packet
tree_passes filters packet root b spells is = (
  λ t. (root, spells, is.0 t),
  λ (other, other_spells, passes). is.1 (subst (λ (e : Element). SetPasses filters e) (one_tree packet other root other_spells spells) passes),
)
