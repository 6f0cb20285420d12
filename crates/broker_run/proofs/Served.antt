-- A run that has served, put together.
use Rattle.std.proofs.Common.{◌≡◌, ℕ, ◌+◌, Bool, true, false, None, Some, if◌then◌else◌, sym, ap, subst, ◌∙◌, arith}
use mathlib.Core.Logic.{∥∥₁_map₂}
use Rattle.std.specs.declared.option.Option.{Option}
use Rattle.voe_outside.specs.Returns.{Returns}
use Rattle.voe_outside.specs.declared.link.Link.{Ghosts as LinkGhosts}
use Rattle.voe_world.specs.Parts.{Parts, added}
use Rattle.vtp_session.specs.declared.side.Side.{Side}
use Rattle.vtp_session.specs.declared.side.Side.TheVariants.{Line, Feed, Take}
use Rattle.broker_run.specs.Back.{TookTalks, TookMoreTalks, AddUpTo}
use Rattle.broker_run.specs.Run.{EndsInTalk, HasPutBack, HasRun, IfTold, ServedGuests}

module _ {L : Type 0} (link : LinkGhosts L) where
  add_up : (one other : Side) (n m all : ℕ) (x y : Option (Returns L)) → TookTalks one link n x → TookTalks other link m y → n + m ≡ all → AddUpTo all x y
  add_up one other n m all None y a b e = tt
  add_up one other n m all (Some r) None a b e = tt
  add_up one other n m all (Some r) (Some s) a b e = omega (arith, a.0, b.0)

  ends : (side : Side) (back : ℕ) (x : Option (Returns L)) → TookTalks side link back x → EndsInTalk side link x
  ends side back None took = tt
  ends side back (Some r) took = λ some. took.1 (omega (arith, took.0, some))

  pub guests_served : {Li : Type 0} (returns_of : Li → Option (Returns L)) (accepts_of : Li → ℕ) (sessions : ℕ) (authors subscribers : Li) (authors_back subscribers_back : ℕ) → accepts_of authors + accepts_of subscribers ≡ sessions → authors_back + subscribers_back ≡ sessions → ∥ TookTalks Line link authors_back (returns_of authors) ∥₁ → ∥ TookTalks Feed link subscribers_back (returns_of subscribers) ∥₁ → ∥ ServedGuests returns_of accepts_of link sessions authors subscribers ∥₁
  guests_served returns_of accepts_of sessions authors subscribers authors_back subscribers_back handed all one other =
      ∥∥₁_map₂ one other (λ a b. record {
        handed_out = handed;
        all_back = add_up Line Feed authors_back subscribers_back sessions (returns_of authors) (returns_of subscribers) a b all;
        authors_talked = ends Line authors_back (returns_of authors) a;
        subscribers_talked = ends Feed subscribers_back (returns_of subscribers) b;
      })

-- what holds of both holds where they are told
pub if_told : {Li : Type 0} (P : Li → Li → Type 0) (tells : Bool) (x : Option (Li × Li)) (one other : Li) → x ≡ (if tells then Some (one, other) else None) → P one other → IfTold x P
if_told {Li} P true x one other is holds = subst (λ (o : Option (Li × Li)). IfTold o P) (sym is) holds
if_told {Li} P false x one other is holds = subst (λ (o : Option (Li × Li)). IfTold o P) (sym is) tt

-- the same run, seen from before and from behind
pub run_seen : {So Si D Di Li Sp L : Type 0} (begun_of : Sp → ℕ) (returns_of : Di → Option (Returns L)) (link : LinkGhosts L) (old first last new : Parts So Si D Di Li Sp) (sessions lines served : ℕ)
    → first.spawner ≡ old.spawner → first.dialer ≡ old.dialer → new.spawner ≡ last.spawner → new.dialer ≡ last.dialer
    → HasRun begun_of returns_of link first last sessions lines served → HasRun begun_of returns_of link old new sessions lines served
run_seen {So} {Si} {D} {Di} {Li} {Sp} {L} begun_of returns_of link old first last new sessions lines served a b c d run = record {
  all = run.all;
  begun = ap begun_of c ∙ (run.begun ∙ ap (λ (s : Sp). added (begun_of s) served) a);
  lines_back =
      subst (λ (x : Di). ∥ TookMoreTalks Take link lines (returns_of x) (returns_of new.dialer) ∥₁) b
      (subst (λ (x : Di). ∥ TookMoreTalks Take link lines (returns_of first.dialer) (returns_of x) ∥₁) (sym d) run.lines_back);
}

-- the parts of equal worlds are equal
module _ {So Si D Di Li Sp : Type 0} where
  pub spawner_same : {p q : Parts So Si D Di Li Sp} → p ≡ q → p.spawner ≡ q.spawner
  spawner_same e = ap (λ (x : Parts So Si D Di Li Sp). x.spawner) e

  pub dialer_same : {p q : Parts So Si D Di Li Sp} → p ≡ q → p.dialer ≡ q.dialer
  dialer_same e = ap (λ (x : Parts So Si D Di Li Sp). x.dialer) e

  pub accepted_same : {p q : Parts So Si D Di Li Sp} → p ≡ q → p.accepted ≡ q.accepted
  accepted_same e = ap (λ (x : Parts So Si D Di Li Sp). x.accepted) e

  pub listeners_same : {p q : Parts So Si D Di Li Sp} → p ≡ q → p.listeners ≡ q.listeners
  listeners_same e = ap (λ (x : Parts So Si D Di Li Sp). x.listeners) e

  pub tells_same : {p q : Parts So Si D Di Li Sp} → p ≡ q → p.tells ≡ q.tells
  tells_same e = ap (λ (x : Parts So Si D Di Li Sp). x.tells) e

-- listeners that were put back after a run in which the world stayed but for what starts
pub has_put_back : {So Si D Di Li Sp : Type 0} (accepts_of : Li → ℕ) (old mid new : Parts So Si D Di Li Sp) (authors subscribers : Li)
    → mid.tells ≡ old.tells → mid.accepted ≡ old.accepted → new.listeners ≡ (if mid.tells then Some (authors, subscribers) else None) → new.accepted ≡ added mid.accepted (accepts_of authors + accepts_of subscribers)
    → HasPutBack accepts_of old new
has_put_back {So} {Si} {D} {Di} {Li} {Sp} accepts_of old mid new authors subscribers tells accepted told handed = record {
  authors = authors;
  subscribers = subscribers;
  told = told ∙ ap (λ (t : Bool). if t then Some (authors, subscribers) else None) tells;
  handed_out = handed ∙ ap (λ (x : ℕ). added x (accepts_of authors + accepts_of subscribers)) accepted;
}
