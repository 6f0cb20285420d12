-- How an end is before and after its steps.
use Rattle.std.proofs.Common.{◌≡◌, ℕ, Bool, List, Some, None, refl, sym, ap, ◌∙◌, arith}
use Rattle.std.specs.Prelude.{Option}
use Rattle.voe_disk.specs.declared.disk.Disk.{Ghosts}
use Rattle.gate_journal.specs.Device.{IsSameDisk}
use Rattle.net_model.specs.declared.note.Note.{Note}
use Rattle.node_book.specs.Ends.{EndView, fail_of}
use Rattle.vtp_server.specs.NodeState.{NodeState, fallen, up_with}
use Rattle.vtp_server.specs.OneEnd.{IsSameEnd, down_of, state_of}

module _ {D : Type 0} (disk : Ghosts D) where
  pub same_end : (end : EndView D) → IsSameEnd disk end end
  same_end end = record {
    config = refl;
    same_disk = record {
      tells = (λ x. x, λ x. x);
      tells_images = (λ x. x, λ x. x);
      tells_exact = λ fill. (λ x. x, λ x. x);
      fill = refl;
      unarmed = λ none. none;
      faults = omega arith;
    };
  }

  same_disk_on : (a b c : D) → IsSameDisk disk a b → IsSameDisk disk b c → IsSameDisk disk a c
  same_disk_on a b c h k = record {
    tells = (λ x. h.tells.0 (k.tells.0 x), λ x. k.tells.1 (h.tells.1 x));
    tells_images = (λ x. h.tells_images.0 (k.tells_images.0 x), λ x. k.tells_images.1 (h.tells_images.1 x));
    tells_exact = λ fill. (λ x. (h.tells_exact fill).0 ((k.tells_exact fill).0 x), λ x. (k.tells_exact fill).1 ((h.tells_exact fill).1 x));
    fill = k.fill ∙ h.fill;
    unarmed = λ none. k.unarmed (h.unarmed none);
    faults = omega (arith, h.faults, k.faults);
  }

  pub same_end_on : (a b c : EndView D) → IsSameEnd disk a b → c.config ≡ b.config → IsSameDisk disk b.disk c.disk → IsSameEnd disk a c
  same_end_on a b c h config same = record { config = config ∙ h.config; same_disk = same_disk_on a.disk b.disk c.disk h.same_disk same }

  module _ (old new : EndView D) where
    pub same_state : new.notes ≡ old.notes → new.down ≡ None → old.down ≡ None → state_of disk new ≡ state_of disk old
    same_state notes up was_up =
        let down : down_of disk new.disk new.down ≡ down_of disk old.disk old.down = ap (down_of disk new.disk) up ∙ sym (ap (down_of disk old.disk) was_up) in
        λ i. record { notes = notes i; down = down i }

    pub up_state : (notes : List Note) → new.notes ≡ notes → new.down ≡ None → state_of disk new ≡ up_with notes
    up_state notes is up = let down : down_of disk new.disk new.down ≡ None = ap (down_of disk new.disk) up in λ i. record { notes = is i; down = down i }

    pub fallen_state : (faults : ℕ) (stopped : Bool) → new.notes ≡ old.notes → new.down ≡ Some (fail_of stopped) → faults ≡ disk.faults new.disk → state_of disk new ≡ fallen (state_of disk old) faults
    fallen_state faults stopped notes fell count =
        let down : down_of disk new.disk new.down ≡ Some faults = ap (down_of disk new.disk) fell ∙ ap Some (sym count) in
        λ i. record { notes = notes i; down = down i }
