-- The moments of a session and of its clock.
use Rattle.std.specs.Prelude.{◌≡◌, ◌≤◌, ℕ}
use Rattle.vtp_session.specs.Watch.{Watch}
use Rattle.vtp_server.specs.declared.breach.Breach.{Breach}
use Rattle.vtp_server.specs.declared.breach.Breach.TheVariants.{Silent}
use Rattle.vtp_server.specs.declared.breach.Parted.{Parted}
use Rattle.vtp_server.specs.declared.breach.Parted.TheVariants.{Broken, Stopped}

-- the session's latest moment is the clock's
pub record InTime (w : Watch) (moment : ℕ) : Type 0 where
  pub heard : w.heard ≤ w.latest
  pub latest : w.latest ≡ moment

-- time has gone on, and nothing was unheard
pub record GoesOnInTime (w : Watch) (v : Watch) (moment : ℕ) : Type 0 where
  pub in_time : InTime v moment
  pub heard : w.heard ≤ v.heard

-- a silence ends at the clock's last moment, and began no earlier than the talk
abbrev pub SilentInTime : Breach → Watch → ℕ → Type 0
SilentInTime (Silent heard now) w moment = (w.heard ≤ heard) × (now ≡ moment)
SilentInTime _ w moment = Unit {0}

abbrev pub PartsInTime : {E : Type 0} → Parted E → Watch → ℕ → Type 0
PartsInTime (Broken breach) w moment = SilentInTime breach w moment
PartsInTime (Stopped stop) w moment = Unit {0}
