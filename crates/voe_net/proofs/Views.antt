-- What the network sees of an end before and after a crash.
use Rattle.std.proofs.Common.{◌≡◌, ℕ, List, [], ◌∷◌, length, map, Some, None, refl, sym, ◌∙◌, ap}
use Rattle.std.specs.Prelude.{Option}
use Rattle.voe_disk.specs.declared.fail.DiskFail.{DiskFail}
use Rattle.voe_values.specs.declared.kind.NodeKind.{NodeKind}
use Rattle.net_model.specs.declared.note.Note.{Note}
use Rattle.node_notes.specs.declared.config.Config.{Config}
use Rattle.node_notes.specs.declared.config.LinkConfig.{LinkConfig}
use Rattle.node_book.specs.Ends.{EndView}
use Rattle.node_book.specs.Keeps.{Keeps}
use Rattle.node_book.proofs.SingleBook.{one_book}
use Rattle.net_machine.specs.Ends as net
use Rattle.voe_net.specs.Crashes.{no_sessions}
use Rattle.voe_net.specs.Kept.{HasKind, HasSessions, end_of}
use Rattle.voe_net.specs.Nodes.{show, show_up}
use Rattle.voe_net.specs.Worked.{kind_of}
use Rattle.voe_net.specs.declared.kept.Kept.{Kept}
use Rattle.voe_net.specs.declared.kept.Kept.TheVariants.{Author, Broker, Subscriber, Bare}

abbrev pub view_of : Config → List Note → List ℕ → net.EndView
view_of config notes sessions = record { config = config; notes = notes; sessions = sessions }

pub view_is : (config other : Config) (notes others : List Note) (sessions rest : List ℕ) → config ≡ other → notes ≡ others → sessions ≡ rest
    → view_of config notes sessions ≡ view_of other others rest
view_is config other notes others sessions rest one two three =
    ap (λ (c : Config). view_of c notes sessions) one ∙ (ap (λ (l : List Note). view_of other l sessions) two ∙ ap (λ (l : List ℕ). view_of other others l) three)

pub up_shows : {D : Type 0} (end : EndView D) → end.down ≡ None → show (Some end) ≡ view_of end.config end.notes end.sessions
up_shows end up = ap (λ (o : Option DiskFail). show_up end o) up

same_zeros : (sessions : List ℕ) (links : List LinkConfig) → length sessions ≡ length links → map {B = ℕ} (λ last. 0) sessions ≡ map {B = ℕ} (λ link. 0) links
same_zeros [] [] same = refl
same_zeros [] (link ∷ links) same = absurd (cc)
same_zeros (last ∷ sessions) [] same = absurd (cc)
same_zeros (last ∷ sessions) (link ∷ links) same =
    let rest : length sessions ≡ length links = cc in
    ap (λ (l : List ℕ). 0 ∷ l) (same_zeros sessions links rest)

-- what a crash makes of the last sessions
pub forgotten : {D : Type 0} (node : Kept D) (kind : NodeKind) → kind_of node ≡ Some kind → HasKind node → HasSessions node
    → map (λ last. 0) (end_of node).sessions ≡ no_sessions (end_of node).config.kind (end_of node).config.links
forgotten (Author end) kind is has none = ap (map (λ last. 0)) none ∙ sym (ap (λ (k : NodeKind). no_sessions k end.config.links) has)
forgotten (Broker end) kind is has each = same_zeros end.sessions end.config.links each ∙ sym (ap (λ (k : NodeKind). no_sessions k end.config.links) has)
forgotten (Subscriber end) kind is has none = ap (map (λ last. 0)) none ∙ sym (ap (λ (k : NodeKind). no_sessions k end.config.links) has)
forgotten (Bare disk) kind is has none = absurd (cc)

-- an end that was loaded from an image shows what the image keeps
pub loaded_shows : {D : Type 0} (config : Config) (notes : List Note) (sessions : List ℕ) (image : List ℕ) (new : EndView D) → sessions ≡ no_sessions config.kind config.links
    → Keeps image config notes → Keeps image new.config new.notes → new.down ≡ None → new.sessions ≡ no_sessions new.config.kind new.config.links
    → show (Some new) ≡ view_of config notes sessions
loaded_shows config notes sessions image new begun keeps has up none =
    let same = one_book image new.config config new.notes notes has keeps in
    up_shows new up
    ∙ view_is new.config config new.notes notes new.sessions sessions same.0 same.1
    (none ∙ (ap (λ (c : Config). no_sessions c.kind c.links) same.0 ∙ sym begun))
