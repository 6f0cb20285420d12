-- A node at its beginning.
use Rattle.std.proofs.Common.{◌≡◌, inl, ℕ, List, [], Some, None, ◌∙◌, subst}
use Rattle.std.specs.Prelude.{Option, IsSome, IfSome}
use Rattle.voe_disk.specs.declared.disk.Disk.{Ghosts}
use Rattle.gate_journal.specs.Reading.{IsUnmade}
use Rattle.node_notes.specs.declared.config.Config.{Config}
use Rattle.node_book.specs.Ends.{EndView}
use Rattle.node_book.specs.EndMaking.{IsNotMade}
use Rattle.node_book.specs.Making.{IsMakeRefusal}
use Rattle.node_book.specs.declared.fault.BookFault.{BookFault}
use Rattle.node_book.specs.declared.fault.BookFault.TheVariants.{DiskFault}
use Rattle.node_book.proofs.Free.{free_is}
use Rattle.net_machine.specs.declared.fault.EndFault.{EndFault}
use Rattle.net_machine.specs.declared.fault.EndFault.TheVariants.{Disk}
use Rattle.voe_net.specs.Lost.{IsLost}
use Rattle.voe_net.specs.Nodes.{IsBegun, IsNotBegun, first_sessions}
use Rattle.voe_net.proofs.Loading.{lost_of, some_of, told}
use Rattle.voe_net.proofs.Views.{up_shows, view_is}

module _ {D : Type 0} (disk : Ghosts D) (config : Config) (old : D) (unarmed : (disk.arming old).calls ≡ None) where
  -- a making fails for nothing but the disk and memory
  pub make_lost : IsSome (disk.reads old) → IfSome (disk.reads old) IsUnmade → (new : D) (fault : BookFault) → IsNotMade disk config old new fault → IsLost fault
  make_lost some unmade new fault why =
      let file = told (disk.reads old) some in
      let free : IsUnmade file.0 = some_of (disk.reads old) IsUnmade file.0 file.1 unmade in
      let refused : IsMakeRefusal fault (Some file.0) = subst (λ (r : Option (List ℕ)). IsMakeRefusal fault r) file.1 why.refused in
      lost_of fault (free_is file.0 fault (inl free) refused) (λ stopped.
      let at_end : (disk.arming new).calls ≡ Some 0 = why.stopped stopped in
      let none : (disk.arming new).calls ≡ None = why.same_disk.unarmed unarmed in
      cc)

  pub not_begun : (new : D) (fault : BookFault) (said : EndFault) → IsNotMade disk config old new fault → (said ≡ Disk → fault ≡ DiskFault) → IsNotBegun disk old new said
  not_begun new fault said why same =
      record { later = why.same_disk.faults; rose = λ is. why.rose (same is); unarmed = why.same_disk.unarmed unarmed }

  pub begun : (end : EndView D) → end.config ≡ config → end.notes ≡ [] → end.down ≡ None → end.sessions ≡ first_sessions config.kind config.links
      → disk.faults end.disk ≡ disk.faults old → ((fill : ℕ) → IsSome (disk.crash_image old fill) → IsSome (disk.crash_image end.disk fill)) → IsBegun disk config old (Some end)
  begun end config_is notes_are up sessions_are same_count tells = record {
    shown = up_shows end up ∙ view_is end.config config end.notes [] end.sessions (first_sessions config.kind config.links) config_is notes_are sessions_are;
    same_count = same_count;
    told = λ all fill. tells fill (all fill);
  }
