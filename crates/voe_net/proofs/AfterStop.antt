-- A node that was stopped is what the model says.
use Rattle.std.proofs.Common.{◌≡◌, ◌⊎◌, inl, inr, ℕ, Bool, true, false, List, ◌++◌, map, Some, None, refl, sym, ◌∙◌, ap, subst}
use Rattle.std.specs.Prelude.{IsSome}
use Rattle.voe_disk.specs.declared.disk.Disk.{Ghosts}
use Rattle.net_model.specs.Laws.{IsIn}
use Rattle.net_model.specs.Rules.{NodeRules}
use Rattle.net_model.specs.Runs.{is_kept}
use Rattle.net_model.specs.declared.note.Note.{Note}
use Rattle.net_model.proofs.Members.{IsIn-append}
use Rattle.node_notes.specs.declared.config.Config.{Config}
use Rattle.node_book.specs.Ends.{EndView}
use Rattle.node_book.specs.Keeps.{Keeps}
use Rattle.net_machine.specs.Ends as net
use Rattle.net_machine.specs.Works.{IsAbout, OnlyBrings, brought, cut_short, work_added}
use Rattle.net_machine.specs.declared.work.Work.{Work}
use Rattle.voe_net.specs.Crashes.{IsLoadedAgain, no_sessions}
use Rattle.voe_net.specs.Nodes.{TellsCrash, show}
use Rattle.voe_net.specs.Right.{IsRight}
use Rattle.voe_net.specs.Stopping.{IsStopped}
use Rattle.voe_net.specs.Worked.{AllBring}
use Rattle.voe_net.proofs.Loading.{told}
use Rattle.voe_net.proofs.Stopped.{HasRun, after_stop}
use Rattle.voe_net.proofs.Views.{loaded_shows, up_shows, view_of}

cut : (kept : Bool) (rules : NodeRules) (config : Config) (notes : List Note) (sessions : List ℕ) (work : Work)
    → view_of config (after_stop kept notes (work_added rules (view_of config notes sessions) work)) (map (λ last. 0) sessions) ≡ cut_short kept rules (view_of config notes sessions) work
cut true rules config notes sessions work = refl
cut false rules config notes sessions work = refl

one_of : (work : Work) (added : List Note) → AllBring work added → (notes : List Note) (note : Note) → IsIn note (notes ++ added) → IsIn note notes ⊎ (net.note_packet note ≡ brought work)
one_of work added bring notes note is = elim (IsIn-append note notes added is) [ inl old ↦ inl old | inr new ↦ inr (bring note new) ]

brings : (work : Work) (kept : Bool) (config : Config) (notes added : List Note) (sessions : List ℕ) → AllBring work added
    → OnlyBrings work (view_of config notes sessions) (view_of config (after_stop kept notes added) sessions)
brings work true config notes added sessions bring = record { same = refl; only = one_of work added bring notes }
brings work false config notes added sessions bring = record { same = refl; only = λ note is. inl is }

module _ {D : Type 0} (disk : Ghosts D) (calls fill : ℕ) (work : Work) (old new : EndView D) (state : D)
    (up : old.down ≡ None) (begun : map (λ last. 0) old.sessions ≡ no_sessions old.config.kind old.config.links)
    (filled : (disk.arming state).fill ≡ fill) (tells : (byte : ℕ) → IsSome (disk.crash_image old.disk byte) → IsSome (disk.crash_image state byte))
    (loaded : IsLoadedAgain disk state new) where
  shows : (notes : List Note) → Keeps loaded.image old.config notes → show (Some new) ≡ view_of old.config notes (map (λ last. 0) old.sessions)
  shows notes keeps = loaded_shows old.config notes (map (λ last. 0) old.sessions) loaded.image new begun keeps loaded.keeps loaded.is_up loaded.sessions_are

  either_shows : (added : List Note) → HasRun disk calls fill old.config old.notes added state
      → (kept : Bool) × (show (Some new) ≡ view_of old.config (after_stop kept old.notes added) (map (λ last. 0) old.sessions))
  either_shows added run = elim (run.either loaded.image loaded.left) [
    | inl before ↦ (false, shows old.notes before)
    | inr after ↦ (true, shows (old.notes ++ added) after)
  ]

  exact_shows : (added : List Note) → HasRun disk calls fill old.config old.notes added state → TellsCrash disk (Some old)
      → show (Some new) ≡ view_of old.config (after_stop (is_kept calls fill) old.notes added) (map (λ last. 0) old.sessions)
  exact_shows added run all =
      let image = told (disk.crash_image state fill) (tells fill (all fill)) in
      let same : loaded.image ≡ image.0 = loaded.exact image.0 (subst (λ (byte : ℕ). disk.crash_image state byte ≡ Some image.0) (sym filled) image.1) in
      shows (after_stop (is_kept calls fill) old.notes added)
      (subst (λ (i : List ℕ). Keeps i old.config (after_stop (is_kept calls fill) old.notes added)) (sym same) (run.exact image.0 image.1))

  only_brings : (added : List Note) → AllBring work added → HasRun disk calls fill old.config old.notes added state → OnlyBrings work (net.crashed (show (Some old))) (show (Some new))
  only_brings added bring run =
      let known = either_shows added run in
      let P : net.EndView → net.EndView → Type 0 = λ before after. OnlyBrings work (net.crashed before) after in
      subst (λ (v : net.EndView). P v (show (Some new))) (sym (up_shows old up))
      (subst (λ (v : net.EndView). P (view_of old.config old.notes old.sessions) v) (sym known.1)
      (brings work known.0 old.config old.notes added (map (λ last. 0) old.sessions) bring))

  -- the records that the model adds were run, by all right rules, and others that bring the work's packet alone
  pub is_stopped : ((rules : NodeRules) (packets : List (List ℕ)) → IsAbout work packets → IsRight old.config packets rules
      → HasRun disk calls fill old.config old.notes (work_added rules (view_of old.config old.notes old.sessions) work) state)
      → (added : List Note) → AllBring work added → HasRun disk calls fill old.config old.notes added state → IsStopped disk calls fill work old new
  is_stopped ran added bring run =
      let view = view_of old.config old.notes old.sessions in
      let seen : show (Some old) ≡ view_of old.config old.notes old.sessions = up_shows old up in
      let right : (packets : List (List ℕ)) (rules : NodeRules) → IsRight (show (Some old)).config packets rules → IsRight old.config packets rules =
      λ packets rules is. subst (λ (v : net.EndView). IsRight v.config packets rules) seen is in
      record {
        exact = λ told rules packets about is.
            let its = ran rules packets about (right packets rules is) in
            exact_shows (work_added rules view work) its told ∙ (cut (is_kept calls fill) rules old.config old.notes old.sessions work
            ∙ ap (λ (v : net.EndView). cut_short (is_kept calls fill) rules v work) (sym seen));
        either = λ rules packets about is.
            let known = either_shows (work_added rules view work) (ran rules packets about (right packets rules is)) in
            (known.0, known.1 ∙ (cut known.0 rules old.config old.notes old.sessions work ∙ ap (λ (v : net.EndView). cut_short known.0 rules v work) (sym seen)));
        only = only_brings added bring run;
        told = λ told fill. loaded.told fill (tells fill (told fill));
      }
