use Rattle.std.proofs.Common.{◌≡◌, Some, None, ap, inl, inr, subst, ◌∙◌}
use Rattle.voe_world.specs.Parts.{Parts}
use Rattle.voevent_online.specs.Loading.{AnswersUnloaded}
use Rattle.voevent_online.proofs.Brokers.{keeps_broker, run_so_seen, sink_same}
use Rattle.voevent_online.proofs.serving.serve.Goals as goal

module _ {So Si D Di Li Sp : Type 0} where
  turned : (p m n q : Parts So Si D Di Li Sp) (back : D) → m ≡ record p { disk = None } → n ≡ record m { disk = Some back } → q ≡ record n { sink = q.sink } → q ≡ record p { disk = Some back; sink = q.sink }
  turned p m n q back one two three = three ∙ ap (λ (x : Parts So Si D Di Li Sp). record x { sink = q.sink }) (two ∙ ap (λ (x : Parts So Si D Di Li Sp). record x { disk = Some back }) one)

pub returns-in-Ok : goal.returns-in-Ok
returns-in-Ok g c =
    let old = g.W.World.parts c.args.world.now in
    let first = g.W.World.parts c.take_disk-disk.new.world in
    let new = g.W.World.parts c.run_and_answer.new.world in
    let own = c.take_disk-disk.result in
    let end = c.in-Ok.end in
    let loaded = c.in-Ok.ensures.ok in
    let keeps = keeps_broker (g.W.D.Disk.reads own) end.config end.notes loaded.3.told (loaded.1, loaded.2) in (
      own,
      c.take_disk-disk.ensures.taken,
      inl (run_so_seen g.W.Di.Dialer.fault_count g.W-Sp-Spawner.fault_count g.W-Sp-Spawner.begin_count g.W.Di.Dialer.returns g.W.Di.L.Link g.W.Li.Listener.returns g.W.Li.Listener.accept_count g.W.Li.L.Link c.args.sessions _ c.args.dialing None g.W.Si.Sink g.W.D.Disk own old first new c.run_and_answer.result c.take_disk-disk.ensures.parts (c.run_and_answer.ensures own keeps)),
    )

pub returns-in-Err : goal.returns-in-Err
returns-in-Err g c =
    let p = g.W.World.parts c.args.world.now in
    let m = g.W.World.parts c.take_disk-disk.new.world in
    let n = g.W.World.parts c.put_back.new.world in
    let q = g.W.World.parts c.answer_unloaded.new.world in
    let one = c.take_disk-disk.ensures.parts in
    let two = c.put_back.ensures.parts in (
      c.take_disk-disk.result,
      c.take_disk-disk.ensures.taken,
      inr (record {
        back = c.in-Err.disk;
        fault = c.in-Err.fault;
        refused = c.in-Err.ensures.err;
        told = subst (λ (k : g.row.W-Si.Denot). AnswersUnloaded g.W.Si.Sink c.in-Err.fault c.answer_unloaded.result k q.sink) (sink_same two ∙ sink_same one) c.answer_unloaded.ensures.answer;
        parts = turned p m n q c.in-Err.disk one two c.answer_unloaded.ensures.parts;
      }),
    )
