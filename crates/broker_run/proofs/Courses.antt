-- The parts of a world over a run.
use Rattle.std.proofs.Common.{◌≡◌, ℕ, ◌+◌, ◌-◌, ◌^◌, ◌≤◌, min, Bool, true, false, refl, sym, ap, ◌∙◌, arith}
use Rattle.voe_outside.specs.Causes.{count_after, counted}
use Rattle.voe_world.specs.Parts.{Parts, added}
use Rattle.broker_run.specs.Course.{IsSameButStarts}

module _ {So Si D Di Li Sp : Type 0} where
  pub same_itself : (p : Parts So Si D Di Li Sp) → IsSameButStarts p p
  same_itself p = refl

  pub same_then : (p q r : Parts So Si D Di Li Sp) → IsSameButStarts p q → IsSameButStarts q r → IsSameButStarts p r
  same_then p q r one two = two ∙ ap (λ (x : Parts So Si D Di Li Sp). record x { dialer = r.dialer; spawner = r.spawner }) one

  pub dialer_then : (p q r : Parts So Si D Di Li Sp) → q ≡ record p { dialer = q.dialer } → r ≡ record q { dialer = r.dialer } → r ≡ record p { dialer = r.dialer }
  dialer_then p q r one two = two ∙ ap (λ (x : Parts So Si D Di Li Sp). record x { dialer = r.dialer }) one

  pub same_by_dialer : (p q : Parts So Si D Di Li Sp) → q ≡ record p { dialer = q.dialer } → IsSameButStarts p q
  same_by_dialer p q one = one ∙ ap (λ (s : Sp). record p { dialer = q.dialer; spawner = s }) (sym (ap (λ (x : Parts So Si D Di Li Sp). x.spawner) one))

  pub same_by_spawner : (p q : Parts So Si D Di Li Sp) → q ≡ record p { spawner = q.spawner } → IsSameButStarts p q
  same_by_spawner p q one = one ∙ ap (λ (d : Di). record p { dialer = d; spawner = q.spawner }) (sym (ap (λ (x : Parts So Si D Di Li Sp). x.dialer) one))

-- a count never falls
pub never_less : (n : ℕ) (came : Bool) → n ≤ count_after n came
never_less n true = omega arith
never_less n false = omega arith

-- one more, behind so many
pub one_added : (n started : ℕ) → counted (added n started) ≡ added n (min (started + 1) (2 ^ 64 - 1))
one_added n started = omega arith
