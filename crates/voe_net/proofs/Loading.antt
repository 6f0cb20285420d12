-- What is loaded again is what was kept.
use Rattle.std.proofs.Common.{◌≡◌, ◌⊎◌, inl, inr, ℕ, List, Some, None, refl, ◌∙◌, ap, subst}
use Rattle.std.specs.Prelude.{Option, IsSome, IfSome}
use Rattle.voe_disk.specs.declared.disk.Disk.{Ghosts}
use Rattle.voe_values.specs.declared.kind.NodeKind.{NodeKind}
use Rattle.net_model.specs.declared.note.Note.{Note}
use Rattle.node_notes.specs.declared.config.Config.{Config}
use Rattle.node_book.specs.Ends.{EndView}
use Rattle.node_book.specs.EndMaking.{IsEndRefusal, IsLoaded, IsNotLoaded}
use Rattle.node_book.specs.Fault.{ComesFromDisk}
use Rattle.node_book.specs.Keeps.{Keeps}
use Rattle.node_book.specs.declared.fault.BookFault.{BookFault}
use Rattle.node_book.specs.declared.fault.BookFault.TheVariants.{Unmade, NotJournal, Damaged, Full, AlreadyMade, DiskFault, Stopped, NoMemory, BadNote}
use Rattle.node_book.proofs.SingleBook.{keeps_or_refused, one_book}
use Rattle.path_filter.specs.Links.{HasRefused}
use Rattle.voe_net.specs.Crashes.{IsLoadedFrom, KeepsNode, ReadsNode, no_sessions}
use Rattle.voe_net.specs.Kept.{IsConfigured}
use Rattle.voe_net.specs.Lost.{IsLost}
use Rattle.voe_net.proofs.Readable.{none_refused}

-- what an end of this kind refuses
abbrev pub IsUnfit : NodeKind → Config → Type 0
IsUnfit kind config = (config.kind ≡ kind → ⊥) ⊎ HasRefused config.links

fit : (kind : NodeKind) (file : List ℕ) (node : KeepsNode kind file) (config : Config) (notes : List Note) → Keeps file config notes → IsUnfit kind config → ⊥
fit kind file node config notes keeps (inl other) = other (ap (λ (c : Config). c.kind) (one_book file config node.config notes node.notes keeps node.keeps).0 ∙ node.kind_is)
fit kind file node config notes keeps (inr refused) =
    let same : config ≡ node.config = (one_book file config node.config notes node.notes keeps node.keeps).0 in
    none_refused node.config node.form node.filters (subst (λ (c : Config). HasRefused c.links) same refused)

comes : (kind : NodeKind) (file : List ℕ) (fault : BookFault) → KeepsNode kind file → IsEndRefusal (IsUnfit kind) fault (Some file) → ComesFromDisk fault
comes kind file fault node (inl refusal) = keeps_or_refused file node.config node.notes fault node.keeps refusal
comes kind file fault node (inr (bad, (config, notes, keeps, unfit))) = absurd (fit kind file node config notes keeps unfit)

-- what comes from a disk that has not stopped
pub lost_of : (fault : BookFault) → ComesFromDisk fault → (fault ≡ Stopped → ⊥) → IsLost fault
lost_of Unmade from other = absurd from
lost_of (NotJournal place) from other = absurd from
lost_of (Damaged place) from other = absurd from
lost_of Full from other = absurd from
lost_of AlreadyMade from other = absurd from
lost_of DiskFault from other = inl refl
lost_of Stopped from other = absurd (other refl)
lost_of NoMemory from other = inr refl
lost_of (BadNote place) from other = absurd from

-- what is there is something
pub told : {X : Type 0} (o : Option X) → IsSome o → (x : X) × (o ≡ Some x)
told None some = absurd (cc)
told (Some x) some = (x, refl)

pub some_of : {X : Type 0} (o : Option X) (P : X → Type 0) (x : X) → o ≡ Some x → IfSome o P → P x
some_of o P x is holds = subst (λ v. IfSome v P) is holds

module _ {D : Type 0} (disk : Ghosts D) (kind : NodeKind) (old : D) (reads : ReadsNode disk kind old) where
  -- a load fails for nothing but the disk and memory
  pub load_lost : (new : D) (fault : BookFault) → (disk.arming old).calls ≡ None → IsNotLoaded disk (IsUnfit kind) old new fault → IsLost fault
  load_lost new fault unarmed why =
      let refused : IsEndRefusal (IsUnfit kind) fault (Some reads.0) = subst (λ (r : Option (List ℕ)). IsEndRefusal (IsUnfit kind) fault r) reads.1 why.refused in
      lost_of fault (comes kind reads.0 fault reads.2 refused) (λ stopped.
      let at_end : (disk.arming new).calls ≡ Some 0 = why.stopped stopped in
      let free : (disk.arming new).calls ≡ None = why.same_disk.unarmed unarmed in
      cc)

  module _ (end : EndView D) (loaded : IsLoaded disk old end) where
    keeps : Keeps reads.0 end.config end.notes
    keeps = some_of (disk.reads old) (λ file. Keeps file end.config end.notes) reads.0 reads.1 loaded.told

    pub load_configured : IsConfigured disk end
    load_configured =
        let node : KeepsNode kind reads.0 = reads.2 in
        let same : node.config ≡ end.config = (one_book reads.0 node.config end.config node.notes end.notes node.keeps keeps).0 in
        subst (λ (c : Config). IsConfigured disk (record end { config = c })) same
        (record { form = node.form; filters = node.filters; names = node.names })

    pub load_from : end.sessions ≡ no_sessions end.config.kind end.config.links → IsLoadedFrom disk old end
    load_from sessions = record {
      keeps = λ file is. some_of (disk.reads old) (λ file. Keeps file end.config end.notes) file is loaded.told;
      sessions_are = sessions;
      is_up = loaded.is_up;
      told = λ fill some. (loaded.same_disk.tells_exact fill).1 some;
    }
