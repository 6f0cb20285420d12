-- What a subscriber's end did with a broker that was dialed, and how the command ends with it.
use Rattle.std.specs.Prelude.{◌≡◌, ◌⊎◌, ℕ, nat_lt, List, [], length}
use Rattle.std.specs.declared.option.Option.{Option}
use Rattle.voe_disk.specs.declared.disk.Disk.{Ghosts as DiskGhosts}
use Rattle.voe_outside.specs.Causes.{counted, count_after}
use Rattle.voe_outside.specs.Returns.{Returns, TakesBack}
use Rattle.voe_outside.specs.Traffic.{IsUnused}
use Rattle.voe_outside.specs.declared.link.Link.{Ghosts as LinkGhosts}
use Rattle.voe_outside.specs.declared.stream.Sink.{Ghosts as SinkGhosts}
use Rattle.net_model.specs.declared.step.SubscriberStep.{SubscriberStep}
use Rattle.node_book.specs.Ends.{EndView}
use Rattle.vtp_session.specs.declared.side.Side.TheVariants as side
use Rattle.vtp_session.specs.declared.side.Timers.{Timers}
use Rattle.vtp_server.specs.Calls.{IsFollowed, IsSilentInTime, terms_by}
use Rattle.vtp_server.specs.Entered.{HasEntered}
use Rattle.vtp_server.specs.OneEnd.{IsSubscriberTurn, state_of}
use Rattle.vtp_server.specs.declared.ended.Ended.{Ended}
use Rattle.vtp_server.specs.declared.ended.Ended.TheVariants as ended
use Rattle.voevent_online.specs.declared.status.Status.{Status}
use Rattle.voevent_online.specs.declared.status.Status.TheVariants as status

-- a side that beats does so after a minute, and a peer that says nothing for three is silent
abbrev pub timers : Timers
timers = record { beat = 60000; silence = 180000 }

-- how the command ends with a connection that has ended so
abbrev pub status_of_ended : Ended → Status
status_of_ended ended.Counted = status.Done
status_of_ended ended.PeerClosed = status.Ended
status_of_ended (ended.Garbage place why) = status.Ended
status_of_ended (ended.Silent heard now) = status.Ended
status_of_ended ended.LinkFault = status.LinkFault
status_of_ended ended.SinkFault = status.WriteFault
status_of_ended (ended.HubDown faults) = status.DiskFault
status_of_ended ended.NoMemory = status.NoMemory
status_of_ended (ended.Replaced newer) = status.NoMemory

module _ {D Si Di L : Type 0} (disk : DiskGhosts D) (sink : SinkGhosts Si) (link : LinkGhosts L) (returns : Di → Option (Returns L)) (faults : Di → ℕ) where
  -- a turn on a packet at the end
  abbrev pub Turns : EndView D → List ℕ → SubscriberStep → ℕ → ℕ → EndView D → Type 0
  Turns before packet reply place front after = IsSubscriberTurn disk before packet reply place front after

  -- The end followed the broker over a link that was dialed and is the last that was taken back, and the connection ended so. The
  -- link's bytes are those of a talk, whose turns are the end's steps; the sink got its lines.
  pub record Follows (count : ℕ) (why : Ended) (before after : EndView D) (start stop : ℕ) (out out_after : Si) (dials dials_after : Di) : Type 0 where
    pub fresh : L
    pub last : L
    pub unused : IsUnused (link.fault_count fresh) (link.idle_count fresh) (link.end_count fresh) (link.traffic fresh)
    pub taken_back : TakesBack (returns dials) (returns dials_after) last
    pub dial_faults : faults dials_after ≡ count_after (faults dials) (nat_lt 0 (link.fault_count last))
    pub entered : HasEntered count (state_of disk before) (state_of disk after) why (sink.held out) (sink.held out_after)
    pub talk : IsFollowed Turns link sink (terms_by side.Take timers before.config.name []) count (length before.notes) start why before after fresh last out out_after
    pub in_time : IsSilentInTime why start stop

  -- the broker was not reached, which is counted, and nothing else was done
  pub record IsUnreached (before after : EndView D) (start stop : ℕ) (out out_after : Si) (dials dials_after : Di) : Type 0 where
    pub same_end : after ≡ before
    pub same_moment : stop ≡ start
    pub same_sink : out_after ≡ out
    pub none_back : returns dials_after ≡ returns dials
    pub dial_faults : faults dials_after ≡ counted (faults dials)

  -- what was done, and how the command ends
  abbrev pub FollowsOrNot : ℕ → Status → EndView D → EndView D → ℕ → ℕ → Si → Si → Di → Di → Type 0
  FollowsOrNot count result before after start stop out out_after dials dials_after =
      ((why : Ended) × (result ≡ status_of_ended why) × Follows count why before after start stop out out_after dials dials_after)
      ⊎ ((result ≡ status.LinkFault) × IsUnreached before after start stop out out_after dials dials_after)
