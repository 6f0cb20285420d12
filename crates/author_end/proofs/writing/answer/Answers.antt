use Rattle.std.proofs.Common.{◌≡◌, ℕ, ◌<◌, Bool, true, false, List, length, sym, subst, ◌∙◌}
use Rattle.std.specs.Prelude.{IsUtf8}
use Rattle.voe_values.specs.declared.kind.NodeKind.TheVariants.{Author}
use Rattle.net_model.specs.Notes.{is_open}
use Rattle.net_model.specs.Steps.{answer_note}
use Rattle.net_model.specs.declared.note.Note.{Note}
use Rattle.node_notes.specs.Forms.{is_identifier, is_next}
use Rattle.node_notes.specs.declared.config.Config.{Config}
use Rattle.node_book.proofs.EndReplies.{acked_next, named, open_at, refused_next}
use Rattle.author_end.proofs.writing.answer.Goals as goal

answered_next : (config : Config) (notes : List Note) (line : ℕ) (identifier : List ℕ) (ack : Bool) → config.kind ≡ Author → is_identifier identifier ≡ true → line < length config.links
    → is_open notes line identifier ≡ true → is_next config notes (answer_note ack line identifier) ≡ true
answered_next config notes line identifier true kind is low open_there = acked_next config notes line identifier kind is low open_there
answered_next config notes line identifier false kind is low open_there = refused_next config notes line identifier kind is low open_there

pub add-requires-clause-next : goal.add-requires-clause-next
add-requires-clause-next g c =
    let end = c.args.end.now in
    let i = c.args.identifier.now in
    let bytes : c.as_bytes-name.result.now ≡ i = c.as_bytes-name.ensures.value ∙ c.as_str.ensures.text in
    let opened = open_at end c.book.result.now c.args.line c.as_bytes-name.result.now i true c.book.ensures bytes c.if-not-is_open.ensures in
    let text : IsUtf8 i = subst IsUtf8 bytes c.as_bytes-name.ensures.utf8 in
    let next = answered_next end.config end.notes c.args.line i c.args.ack c.requires.kind (named i text c.as_str.ensures.identifier) c.requires.line opened in
    let own : c.in-Ok.identifier ≡ i = c.in-Ok.ensures ∙ bytes in
    let P : List ℕ → Type 0 = λ k. is_next end.config end.notes (answer_note c.args.ack c.args.line k) ≡ true in
    let Q : Note → Type 0 = λ n. is_next end.config end.notes n ≡ true in
    subst Q (sym c.answer_note.ensures) (subst P (sym own) next)
