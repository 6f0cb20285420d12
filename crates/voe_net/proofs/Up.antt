-- A node that is up, as the network sees it.
use Rattle.std.proofs.Common.{◌≡◌, ◌≤◌, ℕ, ◌+◌, true, List, Option, Some, None, length, refl, sym, ap, subst, add-one}
use Rattle.std.specs.Prelude.{nat_le, ◌&&◌}
use Rattle.std.specs.List.{list_all}
use Rattle.std.proofs.lemmas.Bool.{and_parts, leb-true}
use Rattle.voe_disk.specs.declared.disk.Disk.{Ghosts}
use Rattle.voe_disk.specs.declared.fail.DiskFail.{DiskFail}
use Rattle.net_model.specs.Laws.{IsIn}
use Rattle.net_model.specs.Rules.{NodeRules}
use Rattle.net_model.specs.declared.note.Note.{Note}
use Rattle.net_model.specs.declared.step.Judged.{Judged}
use Rattle.voe_validity.specs.Judging.{IsJudged}
use Rattle.voe_validity.proofs.Once.{judged_once}
use Rattle.node_notes.specs.Forms.{is_config, is_link, is_name}
use Rattle.node_notes.specs.Open.{count_open}
use Rattle.node_notes.specs.declared.config.Config.{Config}
use Rattle.node_book.specs.Book.{BookView}
use Rattle.node_book.specs.Ends.{EndView, book_of}
use Rattle.net_machine.specs.Owed.{owing}
use Rattle.voe_net.specs.Kept.{IsNode, end_of}
use Rattle.voe_net.specs.Nodes.{nothing, show, show_up}
use Rattle.voe_net.specs.Right.{IsRight}
use Rattle.voe_net.specs.Up.{book_if, book_up}
use Rattle.voe_net.specs.declared.kept.Kept.{Kept}
use Rattle.std.specs.Option.{option_map}

-- what the network sees of a book
pub record IsSeen {D : Type 0} (end : Option (EndView D)) (book : BookView D) : Type 0 where
  pub config_is : (show end).config ≡ book.config
  pub notes_are : (show end).notes ≡ book.notes

seen_if : {D : Type 0} (end : EndView D) (down : Option DiskFail) (book : BookView D) → Some book ≡ book_if (book_of end) down
    → ((show_up end down).config ≡ book.config) × ((show_up end down).notes ≡ book.notes)
seen_if end None book is = (let same : book ≡ book_of end = cc in (ap (λ (b : BookView _). b.config) (sym same), ap (λ (b : BookView _). b.notes) (sym same)))
seen_if end (Some fail) book is = absurd (cc)

pub seen : {D : Type 0} (end : Option (EndView D)) (book : BookView D) → Some book ≡ book_up end → IsSeen end book
seen None book is = absurd (cc)
seen (Some end) book is = (let both = seen_if end end.down book is in record { config_is = both.0; notes_are = both.1 })

unseen_if : {D : Type 0} (end : EndView D) (down : Option DiskFail) → None ≡ book_if (book_of end) down → show_up end down ≡ nothing
unseen_if end None is = absurd (cc)
unseen_if end (Some fail) is = refl

pub unseen : {D : Type 0} (end : Option (EndView D)) → None ≡ book_up end → show end ≡ nothing
unseen None is = refl
unseen (Some end) is = unseen_if end end.down is

up_if : {D : Type 0} (end : EndView D) (down : Option DiskFail) (book : BookView D) → Some book ≡ book_if (book_of end) down → (down ≡ None) × (book ≡ book_of end)
up_if end None book is = (refl, cc)
up_if end (Some fail) book is = absurd (cc)

few : (config : Config) → is_config config ≡ true → length config.links ≤ 64
unfolding is_config
few config is = leb-true (length config.links) 64 (and_parts (is_name config.name) (nat_le (length config.links) 64) (and_parts (is_name config.name && nat_le (length config.links) 64) (list_all is_link config.links) is).0).1

-- the book of a node has at most 64 links
pub few_links : {D : Type 0} (disk : Ghosts D) (kept : Option (Kept D)) (book : BookView D) → IsNode disk kept → Some book ≡ book_up (option_map end_of kept) → length book.config.links ≤ 64
few_links disk None book node is = absurd node
few_links disk (Some kept) book node is =
    let up = up_if (end_of kept) (end_of kept).down book is in
    let fits : length (end_of kept).config.links ≤ 64 = few (end_of kept).config (node.configured up.0).form in
    rw up.1 fits

-- one link more is owed on
pub owing_more : (notes : List Note) (link : ℕ) → owing notes (link + 1) ≡ owing notes link + count_open notes link
owing_more notes link = rw (add-one link) refl

-- all rules that are right judge a packet alike
pub judged_as : (config : Config) (packets : List (List ℕ)) (rules : NodeRules) (bytes packet : List ℕ) (one other : Judged) → bytes ≡ packet → one ≡ other → IsJudged bytes one
    → IsIn packet packets → IsRight config packets rules → rules.judge packet ≡ other
judged_as config packets rules bytes packet one other same is judged among right =
    let here : IsJudged packet other = subst (λ (j : Judged). IsJudged packet j) is (subst (λ (s : List ℕ). IsJudged s one) same judged) in
    judged_once packet (rules.judge packet) other (right.judge packet among) here
