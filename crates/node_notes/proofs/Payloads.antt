-- The two laws of payloads: what is read is spelled so, and what is spelled so is read.
use Rattle.std.proofs.Common.{◌≡◌, ◌⊎◌, inl, inr, ℕ, Bool, true, false, cond, eqb, List, [], ◌∷◌, ◌++◌, length, Some, None, refl, sym, ap, subst, ◌∙◌, arith}
use Rattle.std.specs.List.{AllByRecursion}
use Rattle.std.proofs.lemmas.Bool.{eqb-true}
use Rattle.std.proofs.lemmas.List.{append-nil, nil_from_length}
use Rattle.node_notes.specs.declared.config.Config.{Config}
use Rattle.node_notes.specs.declared.config.LinkConfig.{LinkConfig}
use Rattle.voe_values.specs.declared.kind.NodeKind.{NodeKind}
use Rattle.voe_values.specs.declared.kind.NodeKind.TheVariants.{Author, Broker, Subscriber}
use Rattle.net_model.specs.declared.note.Note.{Note}
use Rattle.net_model.specs.declared.note.Note.TheVariants.{Wrote, Acked, Refused, Accept, Done, Enter}
use Rattle.node_notes.specs.Spelling.{number, name, packet, counted, brought, answered, accepted, note_payload, kind_byte, link_text, config_payload, IsShort, IsNumber, IsLong, HasSpelling}
use Rattle.node_notes.specs.Reading.{◌>>=◌, Field, byte_at, number_at, name_at, end_name_at, filter_at, packet_at, counted_at, brought_at, answered_at, accepted_at, note_behind, whole, note_of, kind_of, kind_at, link_at, config_at, config_of}
use Rattle.node_notes.proofs.Fields.{IsBytes, IsBytes-rest, IsField, Takes, bind_some, guard_ended, some_is, number_field, name_field, tested_field, packet_field}
use Rattle.node_notes.proofs.Texts.{name_small, filter_small}
use Rattle.node_notes.specs.Forms.{is_name, is_filter}
use Rattle.node_notes.proofs.Many.{two, three, counted_field}

-- ---- what a tag has behind it

brought_field : IsField (λ (x : List ℕ × List ℕ). brought x.0 x.1) (λ x. IsShort x.0 × IsLong x.1) brought_at
unfolding brought brought_at
brought_field = two name IsShort name_at packet IsLong packet_at (λ i p. (i, p)) (λ x. x.0) (λ x. x.1) (λ x. brought x.0 x.1) (λ x. IsShort x.0 × IsLong x.1) name_field packet_field (λ c. refl) (λ a b. refl) (λ c fits. fits)

answered_field : IsField (λ (x : ℕ × List ℕ). answered x.0 x.1) (λ x. IsNumber x.0 × IsShort x.1) answered_at
unfolding answered answered_at
answered_field = two number IsNumber number_at name IsShort name_at (λ n i. (n, i)) (λ x. x.0) (λ x. x.1) (λ x. answered x.0 x.1) (λ x. IsNumber x.0 × IsShort x.1) number_field name_field (λ c. refl) (λ a b. refl) (λ c fits. fits)

accepted_field : IsField (λ (x : List ℕ × List ℕ × List ℕ). accepted x.0 x.1 x.2) (λ x. IsShort x.0 × AllByRecursion IsNumber x.1 × IsLong x.2) accepted_at
unfolding accepted accepted_at
accepted_field = three name IsShort name_at (counted number) (AllByRecursion IsNumber) (counted_at number_at) packet IsLong packet_at (λ i l p. (i, l, p)) (λ x. x.0) (λ x. x.1) (λ x. x.2)
    (λ x. accepted x.0 x.1 x.2) (λ x. IsShort x.0 × AllByRecursion IsNumber x.1 × IsLong x.2)
    name_field (counted_field number IsNumber number_at number_field) packet_field (λ d. refl) (λ a b c. refl) (λ d fits. fits)

abbrev pub LinkFits : LinkConfig → Type 0
LinkFits link = (is_name link.name ≡ true) × AllByRecursion (λ text. is_filter text ≡ true) link.filters

abbrev pub ConfigFits : Config → Type 0
ConfigFits config = (is_name config.name ≡ true) × AllByRecursion LinkFits config.links

end_name_field : IsField name (λ text. is_name text ≡ true) end_name_at
unfolding end_name_at
end_name_field = tested_field is_name (λ text is. let small = name_small text is in omega (arith, small.1))

filter_field : IsField name (λ text. is_filter text ≡ true) filter_at
unfolding filter_at
filter_field = tested_field is_filter (λ text is. let small = filter_small text is in omega (arith, small))

link_field : IsField link_text LinkFits link_at
unfolding link_text link_at
link_field = two name (λ text. is_name text ≡ true) end_name_at (counted name) (AllByRecursion (λ text. is_filter text ≡ true)) (counted_at filter_at) (λ n f. record { name = n; filters = f }) (λ l. l.name) (λ l. l.filters) link_text LinkFits
    end_name_field (counted_field name (λ text. is_filter text ≡ true) filter_at filter_field) (λ c. refl) (λ a b. refl) (λ c fits. fits)

-- ---- notes

chosen : {A : Type 0} (b : Bool) (x y z : A) → cond b x y ≡ z → ((b ≡ true) × (x ≡ z)) ⊎ ((b ≡ false) × (y ≡ z))
chosen true x y z e = inl (refl, e)
chosen false x y z e = inr (refl, e)

arm : {X : Type 0} (spell : X → List ℕ) (Fits : X → Type 0) (read : List ℕ → Field X) (make : X → Note) (own tag : ℕ) (bytes : List ℕ) (y : Note × List ℕ) → IsField spell Fits read
    → ((x : X) → note_payload (make x) ≡ own ∷ spell x) → eqb tag own ≡ true → IsBytes bytes → (read bytes >>= λ x. Some (make x.0, x.1)) ≡ Some y → tag ∷ bytes ≡ note_payload y.0 ++ y.1
arm spell Fits read make own tag bytes y field spelled is fits e =
    let x = bind_some (read bytes) (λ x. Some (make x.0, x.1)) y e in
    let taken = field.takes bytes x.0.0 x.0.1 fits x.1 in
    let made : Note × List ℕ = (make x.0.0, x.0.1) in
    subst (λ (z : Note × List ℕ). tag ∷ bytes ≡ note_payload z.0 ++ z.1) (some_is made y x.2)
    (ap (λ (t : ℕ). t ∷ bytes) (eqb-true _ _ is) ∙ ap (λ (l : List ℕ). own ∷ l) taken.parts ∙ ap (λ (l : List ℕ). l ++ x.0.1) (sym (spelled x.0.0)))

behind_takes : (tag : ℕ) (bytes : List ℕ) (y : Note × List ℕ) → IsBytes bytes → note_behind tag bytes ≡ Some y → tag ∷ bytes ≡ note_payload y.0 ++ y.1
unfolding note_behind
behind_takes tag bytes y fits e =
    elim (chosen (eqb tag 1) _ _ _ e) [
      | inl one ↦ arm (λ (x : List ℕ × List ℕ). brought x.0 x.1) (λ x. IsShort x.0 × IsLong x.1) brought_at (λ x. Wrote x.0 x.1) 1 tag bytes y brought_field (λ x. refl) one.0 fits one.1
      | inr e1 ↦ elim (chosen (eqb tag 2) _ _ _ e1.1) [
        | inl one ↦ arm (λ (x : ℕ × List ℕ). answered x.0 x.1) (λ x. IsNumber x.0 × IsShort x.1) answered_at (λ x. Acked x.0 x.1) 2 tag bytes y answered_field (λ x. refl) one.0 fits one.1
        | inr e2 ↦ elim (chosen (eqb tag 3) _ _ _ e2.1) [
          | inl one ↦ arm (λ (x : ℕ × List ℕ). answered x.0 x.1) (λ x. IsNumber x.0 × IsShort x.1) answered_at (λ x. Refused x.0 x.1) 3 tag bytes y answered_field (λ x. refl) one.0 fits one.1
          | inr e3 ↦ elim (chosen (eqb tag 4) _ _ _ e3.1) [
            | inl one ↦ arm (λ (x : List ℕ × List ℕ × List ℕ). accepted x.0 x.1 x.2) (λ x. IsShort x.0 × AllByRecursion IsNumber x.1 × IsLong x.2) accepted_at (λ x. Accept x.0 x.1 x.2) 4 tag bytes y accepted_field (λ x. refl) one.0 fits one.1
            | inr e4 ↦ elim (chosen (eqb tag 5) _ _ _ e4.1) [
              | inl one ↦ arm (λ (x : ℕ × List ℕ). answered x.0 x.1) (λ x. IsNumber x.0 × IsShort x.1) answered_at (λ x. Done x.0 x.1) 5 tag bytes y answered_field (λ x. refl) one.0 fits one.1
              | inr e5 ↦ elim (chosen (eqb tag 6) _ _ _ e5.1) [
                | inl one ↦ arm (λ (x : List ℕ × List ℕ). brought x.0 x.1) (λ x. IsShort x.0 × IsLong x.1) brought_at (λ x. Enter x.0 x.1) 6 tag bytes y brought_field (λ x. refl) one.0 fits one.1
                | inr e6 ↦ absurd (let h = e6.1 in cc)
              ]
            ]
          ]
        ]
      ]
    ]

whole_takes : {X : Type 0} (read : Field X) (x : X) → whole read ≡ Some x → read ≡ Some (x, [])
whole_takes read x e =
    let y = bind_some read (λ y. cond (eqb (length y.1) 0) (Some y.0) None) x e in
    let g = guard_ended (eqb (length y.0.1) 0) y.0.0 x y.2 in
    let none : y.0.1 ≡ [] = nil_from_length y.0.1 (eqb-true _ _ g.0) in
    y.1 ∙ ap (λ (l : List ℕ). Some (y.0.0, l)) none ∙ ap (λ (v : _). Some (v, [])) g.1

-- the spelling that a payload is read from
pub note_takes : (bytes : List ℕ) (n : Note) → IsBytes bytes → note_of bytes ≡ Some n → bytes ≡ note_payload n
unfolding note_of byte_at
note_takes [] n fits e = absurd cc
note_takes (tag ∷ bytes) n fits e =
    behind_takes tag bytes (n, []) (IsBytes-rest tag bytes fits) (whole_takes (note_behind tag bytes) n e) ∙ append-nil (note_payload n)

arm_again : {X : Type 0} (spell : X → List ℕ) (Fits : X → Type 0) (read : List ℕ → Field X) (make : X → Note) (x : X) → IsField spell Fits read → Fits x → whole (read (spell x) >>= λ x. Some (make x.0, x.1)) ≡ Some (make x)
arm_again spell Fits read make x field fits =
    ap (λ (l : List ℕ). whole (read l >>= λ x. Some (make x.0, x.1))) (sym (append-nil (spell x))) ∙ ap (λ (r : Field _). whole (r >>= λ x. Some (make x.0, x.1))) (field.again x [] fits)

pub note_again : (n : Note) → HasSpelling n → note_of (note_payload n) ≡ Some n
unfolding note_of byte_at note_behind
note_again (Wrote i p) fits = arm_again (λ (x : List ℕ × List ℕ). brought x.0 x.1) (λ x. IsShort x.0 × IsLong x.1) brought_at (λ x. Wrote x.0 x.1) (i, p) brought_field fits
note_again (Acked n i) fits = arm_again (λ (x : ℕ × List ℕ). answered x.0 x.1) (λ x. IsNumber x.0 × IsShort x.1) answered_at (λ x. Acked x.0 x.1) (n, i) answered_field fits
note_again (Refused n i) fits = arm_again (λ (x : ℕ × List ℕ). answered x.0 x.1) (λ x. IsNumber x.0 × IsShort x.1) answered_at (λ x. Refused x.0 x.1) (n, i) answered_field fits
note_again (Accept i l p) fits = arm_again (λ (x : List ℕ × List ℕ × List ℕ). accepted x.0 x.1 x.2) (λ x. IsShort x.0 × AllByRecursion IsNumber x.1 × IsLong x.2) accepted_at (λ x. Accept x.0 x.1 x.2) (i, l, p) accepted_field (fits.0, fits.1.0, fits.2)
note_again (Done n i) fits = arm_again (λ (x : ℕ × List ℕ). answered x.0 x.1) (λ x. IsNumber x.0 × IsShort x.1) answered_at (λ x. Done x.0 x.1) (n, i) answered_field fits
note_again (Enter i p) fits = arm_again (λ (x : List ℕ × List ℕ). brought x.0 x.1) (λ x. IsShort x.0 × IsLong x.1) brought_at (λ x. Enter x.0 x.1) (i, p) brought_field fits

-- ---- configurations

kind_takes : (byte : ℕ) (kind : NodeKind) → kind_of byte ≡ Some kind → byte ≡ kind_byte kind
kind_takes byte kind e =
    elim (chosen (eqb byte 97) _ _ _ e) [
      | inl one ↦ eqb-true _ _ one.0 ∙ ap kind_byte (some_is Author kind one.1)
      | inr e1 ↦ elim (chosen (eqb byte 98) _ _ _ e1.1) [
        | inl one ↦ eqb-true _ _ one.0 ∙ ap kind_byte (some_is Broker kind one.1)
        | inr e2 ↦ elim (chosen (eqb byte 115) _ _ _ e2.1) [
          | inl one ↦ eqb-true _ _ one.0 ∙ ap kind_byte (some_is Subscriber kind one.1)
          | inr e3 ↦ absurd (let h = e3.1 in cc)
        ]
      ]
    ]

kind_at_takes : (bytes : List ℕ) (kind : NodeKind) (rest : List ℕ) → IsBytes bytes → kind_at bytes ≡ Some (kind, rest) → Takes bytes (kind_byte kind ∷ []) rest
unfolding kind_at byte_at
kind_at_takes [] kind rest fits e = absurd cc
kind_at_takes (byte ∷ bytes) kind rest fits e =
    let k = bind_some (kind_of byte) (λ k. Some (k, bytes)) (kind, rest) e in
    let made : NodeKind × List ℕ = (k.0, bytes) in
    subst (λ (x : NodeKind × List ℕ). Takes (byte ∷ bytes) (kind_byte x.0 ∷ []) x.1) (some_is made (kind, rest) k.2)
    (record { parts = ap (λ (b : ℕ). b ∷ bytes) (kind_takes byte k.0 k.1); rest_fits = IsBytes-rest byte bytes fits })

kind_at_again : (kind : NodeKind) (rest : List ℕ) → kind_at (kind_byte kind ∷ rest) ≡ Some (kind, rest)
unfolding kind_at byte_at
kind_at_again Author rest = refl
kind_at_again Broker rest = refl
kind_at_again Subscriber rest = refl

kind_field : IsField (λ (kind : NodeKind). kind_byte kind ∷ []) (λ kind. Unit {0}) kind_at
kind_field = record { takes = kind_at_takes; again = λ kind rest fits. kind_at_again kind rest }

abbrev behind_zero : Config → List ℕ
behind_zero config = kind_byte config.kind ∷ (name config.name ++ counted link_text config.links)

config_field : IsField behind_zero ConfigFits config_at
unfolding config_at
config_field = three (λ (kind : NodeKind). kind_byte kind ∷ []) (λ kind. Unit {0}) kind_at name (λ text. is_name text ≡ true) end_name_at (counted link_text) (AllByRecursion LinkFits) (counted_at link_at)
    (λ k n l. record { kind = k; name = n; links = l }) (λ c. c.kind) (λ c. c.name) (λ c. c.links) behind_zero ConfigFits
    kind_field end_name_field (counted_field link_text LinkFits link_at link_field) (λ d. refl) (λ a b c. refl) (λ d fits. (tt, fits.0, fits.1))

pub config_takes : (bytes : List ℕ) (config : Config) → IsBytes bytes → config_of bytes ≡ Some config → bytes ≡ config_payload config
unfolding config_of byte_at
config_takes [] config fits e = absurd cc
config_takes (tag ∷ bytes) config fits e =
    elim (chosen (eqb tag 0) _ _ _ e) [
      | inl one ↦ ap (λ (t : ℕ). t ∷ bytes) (eqb-true _ _ one.0)
          ∙ ap (λ (l : List ℕ). 0 ∷ l) ((config_field.takes bytes config [] (IsBytes-rest tag bytes fits) (whole_takes (config_at bytes) config one.1)).parts ∙ append-nil (behind_zero config))
      | inr other ↦ absurd (let h = other.1 in cc)
    ]

pub config_again : (config : Config) → ConfigFits config → config_of (config_payload config) ≡ Some config
unfolding config_of byte_at
config_again config fits = ap (λ (l : List ℕ). whole (config_at l)) (sym (append-nil (behind_zero config))) ∙ ap (λ (r : Field Config). whole r) (config_field.again config [] fits)
