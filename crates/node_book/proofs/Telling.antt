-- Payloads that tell a configuration and records, before and after one is added.
use Rattle.std.proofs.Common.{◌≡◌, inl, inr, ℕ, Bool, true, false, List, [], ◌∷◌, ◌++◌, map, None, refl, sym, ap, subst, ◌∙◌, append_assoc}
use Rattle.std.specs.Prelude.{Option, cond, slice_get}
use Rattle.std.proofs.lemmas.Bool.{and_parts}
use Rattle.std.proofs.lemmas.List.{append-nil}
use Rattle.gate_journal.specs.Format.{Stands, StandsBeforeOrAfter, is_kept, kept}
use Rattle.node_notes.specs.declared.config.Config.{Config}
use Rattle.net_model.specs.declared.note.Note.{Note}
use Rattle.node_notes.specs.Spelling.{note_payload, config_payload}
use Rattle.node_notes.specs.Reading.{note_of}
use Rattle.node_notes.specs.Forms.{is_config, keeps_form, may_follow, is_next}
use Rattle.node_notes.specs.Tells.{AreInOrder, payloads_of, Tells}
use Rattle.node_book.specs.Keeps.{Keeps, KeepsBeforeOrAfter, kept_notes}
use Rattle.node_book.specs.Records.{AreKept, payloads_in}
use Rattle.node_book.specs.declared.records.Records.{Records}
use Rattle.node_notes.proofs.Payloads.{note_again}
use Rattle.node_notes.proofs.Shapes.{note_spells}

pub in_order_more : (config : Config) (before notes : List Note) (note : Note) → AreInOrder config before notes → is_next config (before ++ notes) note ≡ true → AreInOrder config before (notes ++ note ∷ [])
in_order_more config before [] note each next = (subst (λ (l : List Note). is_next config l note ≡ true) (append-nil before) next, tt)
in_order_more config before (n ∷ notes) note each next =
    (each.0, in_order_more config (before ++ n ∷ []) notes note each.1 (subst (λ (l : List Note). is_next config l note ≡ true) (sym (append_assoc before (n ∷ []) notes)) next))

payloads_more : (notes : List Note) (note : Note) → map note_payload (notes ++ note ∷ []) ≡ map note_payload notes ++ note_payload note ∷ []
payloads_more [] note = refl
payloads_more (n ∷ notes) note = ap (λ (l : List (List ℕ)). note_payload n ∷ l) (payloads_more notes note)

pub payloads_of-append : (config : Config) (notes : List Note) (note : Note) → payloads_of config (notes ++ note ∷ []) ≡ payloads_of config notes ++ note_payload note ∷ []
payloads_of-append config notes note = ap (λ (l : List (List ℕ)). config_payload config ∷ l) (payloads_more notes note)

pub tells_more : (payloads : List (List ℕ)) (config : Config) (notes : List Note) (note : Note) → Tells payloads config notes → is_next config notes note ≡ true → Tells (payloads ++ note_payload note ∷ []) config (notes ++ note ∷ [])
tells_more payloads config notes note tells next = record {
  config_fits = tells.config_fits;
  in_order = in_order_more config [] notes note tells.in_order next;
  payloads_are = ap (λ (l : List (List ℕ)). l ++ note_payload note ∷ []) tells.payloads_are ∙ ap (λ (l : List (List ℕ)). config_payload config ∷ l) (sym (payloads_more notes note));
}

pub either_keeps : (payloads : List (List ℕ)) (config : Config) (notes : List Note) (note : Note) → Tells payloads config notes → is_next config notes note ≡ true
    → (image : List ℕ) → StandsBeforeOrAfter payloads (note_payload note) image → KeepsBeforeOrAfter config notes note image
either_keeps payloads config notes note tells next image (inl stands) = inl (record { payloads = payloads; stands = stands; tells = tells })
either_keeps payloads config notes note tells next image (inr stands) =
    inr (record { payloads = payloads ++ note_payload note ∷ []; stands = stands; tells = tells_more payloads config notes note tells next })

-- records in memory
pub kept_tells : (records : Records) → AreKept records → Tells (payloads_in records) records.config records.notes.items
kept_tells records kept = record { config_fits = kept.config_fits; in_order = kept.in_order; payloads_are = refl }

-- one payload, one record
pub same_note : (config : Config) (one two : Note) → is_config config ≡ true → keeps_form config one ≡ true → keeps_form config two ≡ true → note_payload one ≡ note_payload two → one ≡ two
same_note config one two fits one_keeps two_keeps same =
    let first = note_again one (note_spells config one fits one_keeps) in
    let second = note_again two (note_spells config two fits two_keeps) in
    let across = sym first ∙ ap note_of same ∙ second in
    cc

pub no_other : (config : Config) (notes : List Note) (found : Note) (payload : List ℕ) → is_config config ≡ true → keeps_form config found ≡ true → payload ≡ note_payload found → may_follow notes found ≡ false
    → (note : Note) → is_next config notes note ≡ true → payload ≡ note_payload note → ⊥
no_other config notes found payload fits keeps spelled breaks note next other =
    let parts = and_parts (keeps_form config note) (may_follow notes note) next in
    let same = same_note config found note fits keeps parts.0 (sym spelled ∙ other) in
    let both = sym breaks ∙ ap (may_follow notes) same ∙ parts.1 in
    cc

pub nil_from_none : {X : Type 0} (xs : List X) → None ≡ slice_get xs 0 → xs ≡ []
nil_from_none [] is = refl
nil_from_none (x ∷ xs) is = absurd (cc is)

-- what a stop leaves
pub kept_keeps : (payloads : List (List ℕ)) (config : Config) (notes : List Note) (note : Note) → Tells payloads config notes → is_next config notes note ≡ true
    → (calls : Option ℕ) (fill : ℕ) (image : List ℕ) → Stands image (kept calls fill payloads (note_payload note)) → Keeps image config (kept_notes calls fill notes note)
kept_keeps payloads config notes note tells next calls fill image = by (is_kept calls fill)
  where
    by : (b : Bool) → Stands image (cond b (payloads ++ note_payload note ∷ []) payloads) → Keeps image config (cond b (notes ++ note ∷ []) notes)
    by true stands = record { payloads = payloads ++ note_payload note ∷ []; stands = stands; tells = tells_more payloads config notes note tells next }
    by false stands = record { payloads = payloads; stands = stands; tells = tells }
