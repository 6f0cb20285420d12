-- A node before and after a crash.
use Rattle.std.proofs.Common.{◌≡◌, ℕ, true, List, [], length, map, Some, None, refl, sym, ◌∙◌, ap, subst}
use Rattle.std.specs.List.{list_all}
use Rattle.std.specs.Prelude.{Option, IsSome, IfSome, ◌&&◌, nat_le}
use Rattle.std.specs.Str.{is_utf8}
use Rattle.voe_disk.specs.declared.disk.Disk.{Ghosts}
use Rattle.voe_disk.specs.declared.fail.DiskFail.{DiskFail}
use Rattle.gate_journal.specs.Journal.{EachFile}
use Rattle.voe_values.specs.EndName.{is_end_name}
use Rattle.voe_values.specs.declared.kind.NodeKind.{NodeKind}
use Rattle.voe_values.specs.declared.kind.NodeKind.TheVariants as kinds
use Rattle.node_notes.specs.declared.config.Config.{Config}
use Rattle.node_notes.specs.Forms.{is_config, is_link, is_name}
use Rattle.node_notes.specs.declared.config.LinkConfig.{LinkConfig}
use Rattle.node_book.specs.Ends.{EndView, IsSound}
use Rattle.node_book.specs.Keeps.{Keeps}
use Rattle.path_filter.specs.Links.{AreReadable}
use Rattle.net_machine.specs.Ends.{crashed}
use Rattle.voe_net.specs.Crashes.{IsLoadedAgain, IsLoadedFrom, LeavesItself, LeavesNode, ReadsNode}
use Rattle.voe_net.specs.Kept.{HasKind, IsConfigured, IsKeptNode, end_of}
use Rattle.voe_net.specs.Nodes.{AreDistinct, TellsCrash, names_of, show, show_up}
use Rattle.voe_net.specs.Worked.{kind_of}
use Rattle.voe_net.specs.declared.kept.Kept.{Kept}
use Rattle.voe_net.specs.declared.kept.Kept.TheVariants.{Author, Broker, Subscriber, Bare}
use Rattle.voe_net.proofs.Loading.{some_of, told}
use Rattle.voe_net.proofs.Readable.{both}
use Rattle.voe_net.proofs.Views.{forgotten, loaded_shows, up_shows}

-- what holds of a node that was taken out and of the one that was put back holds before and after
pub moved : (X : Type 0) (P : Option X → Option X → Type 0) (x y : X) (before after : Option X) → Some x ≡ before → after ≡ Some y → P (Some x) (Some y) → P before after
moved X P x y before after one two holds = subst (λ (o : Option X). P o after) one (subst (λ (o : Option X). P (Some x) o) (sym two) holds)

-- an end that is up is of a kind
pub kind_known : {D : Type 0} (node : Kept D) → HasKind node → (end_of node).down ≡ None → (kind : NodeKind) × (kind_of node ≡ Some kind) × ((end_of node).config.kind ≡ kind)
kind_known (Author end) has up = (kinds.Author, refl, has)
kind_known (Broker end) has up = (kinds.Broker, refl, has)
kind_known (Subscriber end) has up = (kinds.Subscriber, refl, has)
kind_known (Bare disk) has up = absurd (cc)

-- with a configuration that an end is made of
pub configured : {D : Type 0} (disk : Ghosts D) (end : EndView D) (config : Config) → end.config ≡ config → is_config config ≡ true → AreReadable config.links → AreDistinct (names_of config.links)
    → IsConfigured disk end
configured disk end config is form filters names =
    subst (λ (c : Config). IsConfigured disk (record end { config = c })) (sym is) (record { form = form; filters = filters; names = names })

module _ {D : Type 0} (disk : Ghosts D) (old state : D) (tells : IsSome (disk.reads state)) (image : IfSome (disk.reads state) (disk.may_leave old)) where
  -- what a crash leaves is read
  pub reads_left : (kind : NodeKind) → LeavesNode disk kind old → ReadsNode disk kind state
  reads_left kind leaves =
      let file = told (disk.reads state) tells in
      (file.0, file.1, leaves file.0 (some_of (disk.reads state) (disk.may_leave old) file.0 file.1 image))

  -- an end that is loaded from what a crash leaves
  pub loaded_again : ((other : List ℕ) → disk.crash_image old (disk.arming old).fill ≡ Some other → disk.reads state ≡ Some other)
      → ((fill : ℕ) → IfSome (disk.crash_image old fill) (λ whole. disk.crash_image state fill ≡ disk.reads state)) → (end : EndView D) → IsLoadedFrom disk state end
      → IsLoadedAgain disk old end
  loaded_again exact exact_told end from =
      let file = told (disk.reads state) tells in
      record {
        image = file.0;
        left = some_of (disk.reads state) (disk.may_leave old) file.0 file.1 image;
        exact = λ other is. (let one : disk.reads state ≡ Some other = exact other is in let two : disk.reads state ≡ Some file.0 = file.1 in cc);
        keeps = from.keeps file.0 file.1;
        sessions_are = from.sessions_are;
        is_up = from.is_up;
        told = λ fill some. (
            let whole = told (disk.crash_image old fill) some in
            let same : disk.crash_image state fill ≡ disk.reads state =
            some_of (disk.crash_image old fill) (λ whole. disk.crash_image state fill ≡ disk.reads state) whole.0 whole.1 (exact_told fill) in
            from.told fill (subst (λ (o : Option (List ℕ)). IsSome o) (sym same) tells));
      }

module _ {D : Type 0} (disk : Ghosts D) (node : Kept D) (is : IsKeptNode disk node) (up : (end_of node).down ≡ None) (sound : IsSound disk (end_of node)) where
  -- whatever a crash leaves keeps the end
  pub leaves : LeavesItself disk node
  leaves =
      let kind = kind_known node is.kind up in
      let good : IsConfigured disk (end_of node) = is.configured up in (
        kind.0,
        kind.1,
        λ image left. record {
          config = (end_of node).config;
          notes = (end_of node).notes;
          keeps = (sound.up up).images image left;
          kind_is = kind.2;
          form = good.form;
          filters = good.filters;
          names = good.names;
        },
      )

  -- the end that is loaded again has lost its sessions alone
  pub crash_shown : (new : EndView D) → IsLoadedAgain disk (end_of node).disk new → show (Some new) ≡ crashed (show (Some (end_of node)))
  crash_shown new loaded =
      let end = end_of node in
      let kind = kind_known node is.kind up in
      loaded_shows end.config end.notes (map {B = ℕ} (λ last. 0) end.sessions) loaded.image new (forgotten node kind.0 kind.1 is.kind is.sessions)
      ((sound.up up).images loaded.image loaded.left) loaded.keeps loaded.is_up loaded.sessions_are
      ∙ sym (ap crashed (up_shows end up))

  pub crash_told : (new : EndView D) → IsLoadedAgain disk (end_of node).disk new → TellsCrash disk (Some (end_of node)) → TellsCrash disk (Some new)
  crash_told new loaded all fill = loaded.told fill (all fill)

kept_by : {D : Type 0} (disk : Ghosts D) (end : EndView D) (state : D) (down : Option DiskFail) → (down ≡ None → EachFile disk state (λ file. Keeps file end.config end.notes))
    → is_config (show_up end down).config ≡ true → EachFile disk state (λ file. Keeps file (show_up end down).config (show_up end down).notes)
unfolding is_config is_name is_end_name
kept_by disk end state None keeps form = keeps refl
kept_by disk end state (Some fail) keeps form =
    let named : is_name [] ≡ true =
    (both (is_name []) (nat_le (length {A = LinkConfig} []) 64) (both (is_name [] && nat_le (length {A = LinkConfig} []) 64) (list_all is_link []) form).0).0 in
    let bad : is_end_name [] ≡ true = (both (is_utf8 []) (is_end_name []) named).1 in
    absurd (cc)

-- what a disk keeps, as the network sees it
pub kept_shown : {D : Type 0} (disk : Ghosts D) (end : EndView D) (state : D) → (end.down ≡ None → EachFile disk state (λ file. Keeps file end.config end.notes))
    → is_config (show (Some end)).config ≡ true → EachFile disk state (λ file. Keeps file (show (Some end)).config (show (Some end)).notes)
kept_shown disk end state keeps form = kept_by disk end state end.down keeps form
