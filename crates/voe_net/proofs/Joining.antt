-- The first sessions of a broker's links.
use Rattle.std.proofs.Common.{◌≡◌, ◌⊎◌, inl, inr, ℕ, ◌+◌, ◌<◌, ◌≤◌, zero, suc, true, false, List, [], ◌∷◌, length, map, Some, None, refl, sym, ◌∙◌, ap, subst, arith}
use Rattle.std.specs.Prelude.{Option, slice_get, slice_set, unwrap_or}
use Rattle.std.proofs.lemmas.Option.{slice_get_within, slice_get-get_or, get_or_from_slice_get}
use Rattle.std.proofs.lemmas.List.{append-nil, get_or-set_other, length-map, length-set}
use Rattle.voe_disk.specs.declared.disk.Disk.{Ghosts}
use Rattle.net_model.specs.Rules.{NodeRules}
use Rattle.net_model.specs.Steps.{broker_join, broker_joins, join_link, next_session, says}
use Rattle.net_model.specs.declared.step.Judged.TheVariants.{BadTree}
use Rattle.net_model.specs.declared.note.Note.{Note}
use Rattle.node_notes.specs.declared.config.LinkConfig.{LinkConfig}
use Rattle.node_notes.specs.declared.config.Config.{Config}
use Rattle.node_book.specs.Ends.{EndView}
use Rattle.node_book.specs.EndSteps.{Fate, Happens, answered, is_down, lacked_memory}
use Rattle.voe_net.specs.Nodes.{AreDistinct, names_of}
use Rattle.voe_net.specs.Sessions.{IsJoined}
use Rattle.voe_net.proofs.Asked.{get_set, name_at, place_is}

-- a session of the link of this number begins
pub joins_at : (links : List LinkConfig) (notes : List Note) (sessions : List ℕ) (at : ℕ) (link : LinkConfig) → AreDistinct (names_of links) → slice_get links at ≡ Some link
    → (broker_join (names_of links) notes sessions link.name).sessions ≡ join_link sessions at
joins_at links notes sessions at link distinct found =
    ap (λ (o : Option ℕ). (broker_joins notes sessions o).sessions) (place_is (names_of links) link.name at (name_at links at link found) distinct)

-- the links below this number are in their first session, and no session of the others has begun
pub record IsBegunBelow {D : Type 0} (end : EndView D) (count : ℕ) : Type 0 where
  pub each : length end.sessions ≡ length end.config.links
  pub first : (link : ℕ) → link < count → slice_get end.sessions link ≡ Some 1
  pub rest : (link : ℕ) → count ≤ link → link < length end.config.links → slice_get end.sessions link ≡ Some 0

get_set_other : (xs : List ℕ) (at other v x : ℕ) → (other ≡ at → ⊥) → slice_get xs other ≡ Some x → slice_get (slice_set xs at v) other ≡ Some x
get_set_other xs at other v x differ is =
    let low : other < length xs = slice_get_within xs other x is in
    let sized : length (slice_set xs at v) ≡ length xs = length-set xs at v in
    let within : other < length (slice_set xs at v) = omega (arith, low, sized) in
    slice_get-get_or (slice_set xs at v) other 0 within
    ∙ ap (λ (n : ℕ). Some n) (get_or-set_other xs at other v 0 differ ∙ get_or_from_slice_get xs other x 0 is)

module _ {D : Type 0} (old new : EndView D) (count : ℕ) (begun : IsBegunBelow old count) (low : count < length old.config.links) (config_is : new.config ≡ old.config)
    (joined : new.sessions ≡ join_link old.sessions count) where
  joined_is : new.sessions ≡ slice_set old.sessions count 1
  joined_is =
      let none : slice_get old.sessions count ≡ Some 0 = begun.rest count (omega arith) low in
      joined ∙ ap (λ (o : Option ℕ). slice_set old.sessions count (next_session (unwrap_or o 0))) none

  kept_other : (link x : ℕ) → (link ≡ count → ⊥) → slice_get old.sessions link ≡ Some x → slice_get new.sessions link ≡ Some x
  kept_other link x differ is = ap (λ (l : List ℕ). slice_get l link) joined_is ∙ get_set_other old.sessions count link 1 x differ is

  first_more : (link : ℕ) → link < count + 1 → (link ≡ count) ⊎ (link < count) → slice_get new.sessions link ≡ Some 1
  first_more link less (inl here) =
      let within : count < length old.sessions = omega (arith, low, begun.each) in
      let its : slice_get new.sessions count ≡ Some 1 = ap (λ (l : List ℕ). slice_get l count) joined_is ∙ get_set old.sessions count 1 within in
      subst (λ (n : ℕ). slice_get new.sessions n ≡ Some 1) (sym here) its
  first_more link less (inr before) = kept_other link 1 (λ same. omega (arith, before, same)) (begun.first link before)

  -- one link more is in its first session
  pub begun_more : IsBegunBelow new (count + 1)
  begun_more =
      let links : length new.config.links ≡ length old.config.links = ap (λ (c : Config). length c.links) config_is in
      let sized : length new.sessions ≡ length old.sessions = ap length joined_is ∙ length-set old.sessions count 1 in
      record {
        each = omega (arith, links, sized, begun.each);
        first = λ link less. first_more link less (at_or_below link less);
        rest = λ link above within. kept_other link 0 (λ same. omega (arith, above, same)) (begun.rest link (omega (arith, above)) (omega (arith, within, links)));
      }
    where
      at_or_below : (link : ℕ) → link < count + 1 → (link ≡ count) ⊎ (link < count)
      at_or_below link less = grind arith

all_ones : (sessions : List ℕ) (links : List LinkConfig) → length sessions ≡ length links → ((link : ℕ) → link < length links → slice_get sessions link ≡ Some 1)
    → sessions ≡ map {B = ℕ} (λ link. 1) links
all_ones [] [] same each = refl
all_ones [] (link ∷ links) same each = absurd (cc)
all_ones (last ∷ sessions) [] same each = absurd (cc)
all_ones (last ∷ sessions) (link ∷ links) same each =
    let rest : length sessions ≡ length links = cc in
    let first : Some last ≡ Some 1 = each 0 (omega arith) in
    let one : last ≡ 1 = cc in
    ap (λ (n : ℕ). n ∷ sessions) one
    ∙ ap (λ (l : List ℕ). 1 ∷ l) (all_ones sessions links rest (λ at low. each (suc at) (omega (arith, low))))

-- once no link is left
pub all_begun : {D : Type 0} (end : EndView D) (links : List LinkConfig) → end.config.links ≡ links → IsBegunBelow end (length links) → end.sessions ≡ map {B = ℕ} (λ link. 1) links
all_begun end links is begun =
    let sized : length end.sessions ≡ length links = begun.each ∙ ap length is in
    all_ones end.sessions links sized begun.first

zero_at : (links : List LinkConfig) (at : ℕ) → at < length links → slice_get (map {B = ℕ} (λ link. 0) links) at ≡ Some 0
zero_at [] at low = absurd (omega (arith, low))
zero_at (link ∷ links) zero low = refl
zero_at (link ∷ links) (suc at) low = zero_at links at (omega (arith, low))

-- before the first link
pub none_begun : {D : Type 0} (end : EndView D) → end.sessions ≡ map {B = ℕ} (λ link. 0) end.config.links → IsBegunBelow end 0
none_begun end is = record {
  each = ap length is ∙ length-map end.config.links (λ link. 0);
  first = λ link less. absurd (omega (arith, less));
  rest = λ link above within. ap (λ (l : List ℕ). slice_get l link) is ∙ zero_at end.config.links link within;
}

module _ {D : Type 0} (disk : Ghosts D) where
  pub joined_itself : (end : EndView D) → end.down ≡ None → IsJoined disk end end
  joined_itself end up = record { config_is = refl; notes_are = refl; is_up = up; arming = refl; faults = refl; exact_image = λ fill. refl }

  pub joined_twice : (first second third : EndView D) → IsJoined disk first second → IsJoined disk second third → IsJoined disk first third
  joined_twice first second third one two = record {
    config_is = two.config_is ∙ one.config_is;
    notes_are = two.notes_are ∙ one.notes_are;
    is_up = two.is_up;
    arming = two.arming ∙ one.arming;
    faults = two.faults ∙ one.faults;
    exact_image = λ fill. two.exact_image fill ∙ one.exact_image fill;
  }

  -- a step without a record changes nothing but sessions
  pub joined_by : {A : Type 0} (old new : EndView D) (said answer : A) (fate : Fate) → new.config ≡ old.config → Happens disk old new (says said) answer fate → IsJoined disk old new
  joined_by old new said answer answered config_is h =
      let same : new.disk ≡ old.disk = h.no_call refl in
      record {
        config_is = config_is;
        notes_are = h.notes_are ∙ append-nil old.notes;
        is_up = h.still_up;
        arming = ap disk.arming same;
        faults = ap disk.faults same;
        exact_image = λ fill. ap (λ (d : D). disk.crash_image d fill) same;
      }
  joined_by old new said answer (is_down faults stopped) config_is h = absurd (h.adds_note refl)
  joined_by old new said answer lacked_memory config_is h = record {
    config_is = config_is;
    notes_are = h.notes_are;
    is_up = h.still_up;
    arming = h.untouched.arming;
    faults = h.untouched.faults;
    exact_image = h.untouched.exact_image;
  }

-- the links below this number are begun, and nothing else has changed
pub record HasBegun {D : Type 0} (disk : Ghosts D) (old new : EndView D) (count : ℕ) : Type 0 where
  pub same : IsJoined disk old new
  pub begun : IsBegunBelow new count

-- rules as good as any, where no record is added
pub no_rules : NodeRules
no_rules = record { judge = λ bytes. BadTree 0; digest_of = λ bytes. bytes; passes = λ link bytes. false; has_room = λ notes note. true }
