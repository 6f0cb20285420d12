-- What is known of links that were taken back.
use Rattle.std.specs.Prelude.{◌≡◌, ℕ, ◌+◌, ◌<◌, Option, Some, None, Result, Ok, Err, ⊤}
use Rattle.voe_outside.specs.Returns.{Returns}
use Rattle.voe_outside.specs.declared.link.Link.{Ghosts as LinkGhosts}
use Rattle.voe_world.specs.Parts.{added}
use Rattle.vtp_session.specs.declared.side.Side.{Side}
use Rattle.broker_run.specs.Talks.{WasTalk}

-- there is a last link, and it was such a talk
abbrev pub IsLastTalk : {L : Type 0} → Side → LinkGhosts L → Option L → Type 0
IsLastTalk side link None = ⊥
IsLastTalk side link (Some l) = WasTalk side link l

-- So many links were taken back by what had taken none back before, where it tells them. The last one was such a talk.
abbrev pub TookTalks : {L : Type 0} → Side → LinkGhosts L → ℕ → Option (Returns L) → Type 0
TookTalks side link back None = ⊤
TookTalks side link back (Some r) = (r.number ≡ back) × (0 < back → IsLastTalk side link r.last)

-- So many links were taken back since, where they are told. The last one is the same, or it was such a talk.
abbrev pub TookMoreTalks : {L : Type 0} → Side → LinkGhosts L → ℕ → Option (Returns L) → Option (Returns L) → Type 0
TookMoreTalks side link back None now = now ≡ None
TookMoreTalks side link back (Some r) None = ⊥
TookMoreTalks side link back (Some r) (Some s) = (s.number ≡ added r.number back) × (back ≡ 0 → s.last ≡ r.last) × (0 < back → IsLastTalk side link s.last)

-- both together took back so many, where both tell it
abbrev pub AddUpTo : {L : Type 0} → ℕ → Option (Returns L) → Option (Returns L) → Type 0
AddUpTo all None other = ⊤
AddUpTo all (Some r) None = ⊤
AddUpTo all (Some r) (Some s) = r.number + s.number ≡ all

-- how many links a look gave
abbrev pub taken_of : {L E : Type 0} → Result (Option L) E → ℕ
taken_of (Ok (Some link)) = 1
taken_of (Ok None) = 0
taken_of (Err e) = 0
