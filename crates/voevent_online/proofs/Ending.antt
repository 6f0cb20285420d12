-- What follows from how a connection ended.
use Rattle.std.proofs.Common.{◌≡◌, ℕ, ◌≤◌, Bool, true, Some, None, refl, ap, ◌∙◌, arith}
use Rattle.std.proofs.lemmas.Bool.Decides.{nat_tests}
use Rattle.std.specs.Prelude.{Option, nat_lt}
use Rattle.voe_disk.specs.declared.disk.Disk.{Ghosts as DiskGhosts}
use Rattle.voe_disk.specs.declared.fail.DiskFail.{DiskFail}
use Rattle.voe_outside.specs.Causes.{Rose, counted, count_after}
use Rattle.vtp_server.specs.Endings.{listen_ended}
use Rattle.vtp_server.specs.OneEnd.{down_of}
use Rattle.vtp_server.specs.declared.breach.Breach.TheVariants as breach
use Rattle.vtp_server.specs.declared.breach.Parted.{Parted}
use Rattle.vtp_server.specs.declared.breach.Parted.TheVariants.{Broken, Stopped}
use Rattle.vtp_server.specs.declared.ended.Ended.TheVariants as ended
use Rattle.vtp_server.specs.declared.ended.ListenStop.{ListenStop}
use Rattle.vtp_server.specs.declared.ended.ListenStop.TheVariants as stop

-- ---- counts

-- a count that was 0 and rose is 1 at least
pub risen : (before now : ℕ) → before ≡ 0 → Rose before now → 1 ≤ now
risen before now none rose = omega (arith, none, rose)

some_lt : (n : ℕ) → 1 ≤ n → nat_lt 0 n ≡ true
some_lt n some = grind (arith, nat_tests)

-- a dialer counts a link that has failed
pub link_counted : (dials after faults : ℕ) → after ≡ count_after dials (nat_lt 0 faults) → 1 ≤ faults → Rose dials after
link_counted dials after faults is some =
    let one : after ≡ counted dials = is ∙ ap (λ (b : Bool). count_after dials b) (some_lt faults some) in
    omega (arith, one)

-- ---- the reason

pub silent_of : (parted : Parted ListenStop) (heard now : ℕ) → ended.Silent heard now ≡ listen_ended parted → parted ≡ Broken (breach.Silent heard now)
silent_of (Broken (breach.Silent h n)) heard now e = cc
silent_of (Broken breach.PeerClosed) heard now e = absurd (cc)
silent_of (Broken (breach.Garbage place why)) heard now e = absurd (cc)
silent_of (Broken breach.LinkFault) heard now e = absurd (cc)
silent_of (Broken breach.SinkFault) heard now e = absurd (cc)
silent_of (Broken breach.NoMemory) heard now e = absurd (cc)
silent_of (Stopped stop.Counted) heard now e = absurd (cc)
silent_of (Stopped (stop.Down faults)) heard now e = absurd (cc)
silent_of (Stopped stop.NoMemory) heard now e = absurd (cc)

-- ---- the end

pub is_up : {D : Type 0} (disk : DiskGhosts D) (state : D) (down : Option DiskFail) → down_of disk state down ≡ None → down ≡ None
is_up disk state None e = refl
is_up disk state (Some fail) e = absurd (let no : Some (disk.faults state) ≡ None = e in cc)

pub is_down : {D : Type 0} (disk : DiskGhosts D) (state : D) (down : Option DiskFail) (faults : ℕ) → down_of disk state down ≡ Some faults → down ≡ None → ⊥
is_down disk state None faults e up = absurd (let no : None ≡ Some faults = e in cc)
is_down disk state (Some fail) faults e up = absurd (cc)
