-- How far a broker's run has come.
use Rattle.std.specs.Prelude.{◌≡◌, ℕ, ◌≤◌, Bool, false, Option}
use Rattle.voe_outside.specs.Returns.{Returns}
use Rattle.voe_outside.specs.declared.link.Link.{Ghosts as LinkGhosts}
use Rattle.voe_world.specs.Parts.{Parts, added}
use Rattle.broker_run.specs.Back.{TookMoreTalks}
use Rattle.vtp_session.specs.declared.side.Side.TheVariants.{Take}

-- A dialer since the run began: its faults did not fall, and unless a connection lacked memory, it took back so many
-- links of ended talks.
pub record HasTaken {Di L : Type 0} (returns_of : Di → Option (Returns L)) (dial_faults : Di → ℕ) (link : LinkGhosts L) (first now : Di) (back : ℕ) (lacked : Bool) : Type 0 where
  pub no_less : dial_faults first ≤ dial_faults now
  pub talked : lacked ≡ false → ∥ TookMoreTalks Take link back (returns_of first) (returns_of now) ∥₁

-- A spawner since the run began: its faults did not fall, and so many jobs were begun.
pub record HasBegun {Sp : Type 0} (start_faults begun_of : Sp → ℕ) (first now : Sp) (started : ℕ) : Type 0 where
  pub no_less : start_faults first ≤ start_faults now
  pub begun : begun_of now ≡ added (begun_of first) started

-- only the dialer and the spawner may have changed
abbrev pub IsSameButStarts : {So Si D Di Li Sp : Type 0} → Parts So Si D Di Li Sp → Parts So Si D Di Li Sp → Type 0
IsSameButStarts old new = new ≡ record old { dialer = new.dialer; spawner = new.spawner }

-- only what a run uses may have changed
abbrev pub IsSameButRun : {So Si D Di Li Sp : Type 0} → Parts So Si D Di Li Sp → Parts So Si D Di Li Sp → Type 0
IsSameButRun old new = new ≡ record old { dialer = new.dialer; spawner = new.spawner; listeners = new.listeners; accepted = new.accepted; faults = new.faults }
