-- An end that does nothing.
use Rattle.std.proofs.Common.{◌≡◌, inl, ℕ, false, List, [], Option, None, refl, sym, ap, ◌∙◌}
use Rattle.std.specs.Prelude.{is_some}
use Rattle.voe_disk.specs.declared.disk.Disk.{Ghosts}
use Rattle.net_model.specs.Rules.{NodeRules}
use Rattle.net_model.specs.declared.state.Verdict.{Verdict}
use Rattle.node_book.specs.Ends.{EndView, IsSound}
use Rattle.node_book.specs.EndSteps.{IsReady}
use Rattle.node_book.proofs.EndReady.{rest_itself, says_so, unchanged_itself}
use Rattle.net_machine.specs.Works.{is_step, work_added}
use Rattle.net_machine.specs.declared.work.Work.{Work}
use Rattle.net_machine.specs.declared.work.Work.TheVariants.{Hear}
use Rattle.voe_net.specs.Nodes.{show_up}
use Rattle.voe_net.specs.Worked.{HasWorked, outcome_of}
use Rattle.voe_net.specs.declared.working.Worked.TheVariants.{Answered, NoMemory}

module _ {D : Type 0} (disk : Ghosts D) where
  -- what a disk says of a moment
  pub record IsStill : Type 0 where
    pub since_itself : (state : D) → disk.is_since state state
    pub one_moment : (state : D) (image : List ℕ) → disk.left_since state state image → disk.may_leave state image
    pub reserved_itself : (state : D) → disk.only_reserved state state

  pub ready : IsStill → (end : EndView D) → end.down ≡ None → IsSound disk end → IsReady disk end
  ready still end up sound = record {
    up = up;
    sound = sound;
    rests = record { later = still.since_itself end.disk; each = λ image left. (sound.up up).images image (still.one_moment end.disk image left) };
    untouched = record {
      no_call = still.reserved_itself end.disk;
      reading = refl;
      images = λ image. (λ x. x, λ x. x);
      exact_image = λ fill. refl;
      moments = record { later = still.since_itself end.disk; moments = λ image left. inl (still.one_moment end.disk image left) };
      arming = refl;
      failing = refl;
      faults = refl;
    };
  }

  -- there was no memory before the step
  pub lacked : (end : EndView D) (work : Work) → IsReady disk end → HasWorked disk work end end NoMemory
  lacked end work ready = record {
    config_is = refl;
    sessions_are = refl;
    same_disk = (rest_itself disk end ready).same_disk;
    sound = ready.sound;
    happens = λ rules packets about right. unchanged_itself disk end ready;
    brings = ([], λ note none. absurd none, unchanged_itself disk end ready);
    answers = λ answer is. absurd (cc);
    steps = λ answer is step. absurd (cc);
  }

  -- an answer about which there is nothing to do
  pub passed : (end : EndView D) (number session : ℕ) (said : Verdict) → IsReady disk end
      → ((rules : NodeRules) → work_added rules (show_up end None) (Hear number session said) ≡ [])
      → is_step end.config.kind (Hear number session said) ≡ false → HasWorked disk (Hear number session said) end end (Answered None)
  passed end number session said ready none no_step = record {
    config_is = refl;
    sessions_are = refl;
    same_disk = (rest_itself disk end ready).same_disk;
    sound = ready.sound;
    happens = λ rules packets about right. says_so disk end (outcome_of rules end (Hear number session said)) None ready (none rules) refl;
    brings = ([], λ note is. absurd is, says_so disk end (record { added = []; answer = None }) None ready refl refl);
    answers = λ answer is. nothing answer is;
    steps = λ answer is step. absurd (let bad = sym no_step ∙ step in cc);
  }
    where
      nothing : (answer : Option Verdict) → Answered None ≡ Answered answer → is_some answer ≡ false
      nothing answer is = (let same : None ≡ answer = cc in sym (ap (λ (a : Option Verdict). is_some a) same))
