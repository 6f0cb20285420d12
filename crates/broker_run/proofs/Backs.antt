-- Links that were taken back, one after another.
use Rattle.std.proofs.Common.{◌≡◌, ℕ, ◌+◌, ◌-◌, ◌^◌, ◌≤◌, min, Bool, true, false, ◌||◌, None, Some, refl, sym, subst, arith}
use mathlib.Core.Logic.{∥∥₁_map₂}
use Rattle.std.specs.declared.option.Option.{Option}
use Rattle.voe_outside.specs.Returns.{Returns, TakesBack}
use Rattle.voe_outside.specs.declared.link.Link.{Ghosts as LinkGhosts}
use Rattle.voe_world.specs.Parts.{HasNoneBack}
use Rattle.vtp_session.specs.declared.side.Side.{Side}
use Rattle.broker_run.specs.Back.{TookTalks, TookMoreTalks}
use Rattle.broker_run.specs.Talks.{WasTalk}

pub neither : (a b : Bool) → (a || b) ≡ false → (a ≡ false) × (b ≡ false)
neither true b e = absurd (let no : true ≡ false = e in cc)
neither false b e = (refl, e)

module _ {L : Type 0} (side : Side) (ghosts : LinkGhosts L) where
  pub took_none : (returns : Option (Returns L)) → HasNoneBack returns → TookTalks side ghosts 0 returns
  took_none None none = tt
  took_none (Some r) none = (none, λ some. absurd (omega (arith, some)))

  pub took_one_more : (back : ℕ) (old new : Option (Returns L)) (link : L) → back ≤ 2 ^ 64 - 1 → TookTalks side ghosts back old → TakesBack old new link → WasTalk side ghosts link → TookTalks side ghosts (min (back + 1) (2 ^ 64 - 1)) new
  took_one_more back None new link few took takes talk = subst (TookTalks side ghosts (min (back + 1) (2 ^ 64 - 1))) (sym takes) tt
  took_one_more back (Some r) new link few took takes talk =
      let number = took.0 in
      subst (TookTalks side ghosts (min (back + 1) (2 ^ 64 - 1))) (sym takes) (omega (arith, number, few), λ some. talk)

  pub took_no_more : (returns : Option (Returns L)) → TookMoreTalks side ghosts 0 returns returns
  took_no_more None = refl
  took_no_more (Some r) = (omega arith, λ none. refl, λ some. absurd (omega (arith, some)))

  pub took_more : (back : ℕ) (first old new : Option (Returns L)) (link : L) → TookMoreTalks side ghosts back first old → TakesBack old new link → WasTalk side ghosts link → TookMoreTalks side ghosts (min (back + 1) (2 ^ 64 - 1)) first new
  took_more back None None new link took takes talk = takes
  took_more back None (Some s) new link took takes talk = absurd (let no : Some s ≡ None = took in cc)
  took_more back (Some r) None new link took takes talk = absurd took
  took_more back (Some r) (Some s) new link took takes talk =
      let number = took.0 in
      subst (TookMoreTalks side ghosts (min (back + 1) (2 ^ 64 - 1)) (Some r)) (sym takes) (omega (arith, number), λ none. absurd (omega (arith, none)), λ some. talk)

  -- the same, of what is known unless a connection lacked memory
  pub took_back : (lacked spent : Bool) (back : ℕ) (old new : Option (Returns L)) (link : L) → back ≤ 2 ^ 64 - 1 → (lacked ≡ false → ∥ TookTalks side ghosts back old ∥₁) → TakesBack old new link → (spent ≡ false → ∥ WasTalk side ghosts link ∥₁) → (lacked || spent) ≡ false → ∥ TookTalks side ghosts (min (back + 1) (2 ^ 64 - 1)) new ∥₁
  took_back lacked spent back old new link few took takes talk none =
      let both = neither lacked spent none in
      ∥∥₁_map₂ (took both.0) (talk both.1) (λ a b. took_one_more back old new link few a takes b)

  pub took_more_back : (lacked spent : Bool) (back : ℕ) (first old new : Option (Returns L)) (link : L) → (lacked ≡ false → ∥ TookMoreTalks side ghosts back first old ∥₁) → TakesBack old new link → (spent ≡ false → ∥ WasTalk side ghosts link ∥₁) → (lacked || spent) ≡ false → ∥ TookMoreTalks side ghosts (min (back + 1) (2 ^ 64 - 1)) first new ∥₁
  took_more_back lacked spent back first old new link took takes talk none =
      let both = neither lacked spent none in
      ∥∥₁_map₂ (took both.0) (talk both.1) (λ a b. took_more back first old new link a takes b)
