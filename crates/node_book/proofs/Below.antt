-- The edge of an answer is configured.
use Rattle.std.proofs.Common.{◌≡◌, ◌<◌, ℕ, true, ◌&&◌, List, length, sym, ap, ◌∙◌}
use Rattle.std.specs.Prelude.{nat_lt}
use Rattle.std.proofs.lemmas.Bool.{and_parts, ltb-true}
use Rattle.net_model.specs.declared.note.Note.{Note}
use Rattle.net_model.specs.declared.note.Note.TheVariants.{Acked, Refused, Done}
use Rattle.node_notes.specs.declared.config.Config.{Config}
use Rattle.node_notes.specs.Forms.{is_author, is_broker, is_identifier, keeps_form}

pub acked_below : (config : Config) (note : Note) (line : ℕ) (i : List ℕ) → keeps_form config note ≡ true → note ≡ Acked line i → line < length config.links
unfolding keeps_form
acked_below config note line i keeps is =
    let a = and_parts (is_author config.kind && is_identifier i) (nat_lt line (length config.links)) (sym (ap (keeps_form config) is) ∙ keeps) in
    ltb-true line (length config.links) a.1

pub refused_below : (config : Config) (note : Note) (line : ℕ) (i : List ℕ) → keeps_form config note ≡ true → note ≡ Refused line i → line < length config.links
unfolding keeps_form
refused_below config note line i keeps is =
    let a = and_parts (is_author config.kind && is_identifier i) (nat_lt line (length config.links)) (sym (ap (keeps_form config) is) ∙ keeps) in
    ltb-true line (length config.links) a.1

pub done_below : (config : Config) (note : Note) (link : ℕ) (i : List ℕ) → keeps_form config note ≡ true → note ≡ Done link i → link < length config.links
unfolding keeps_form
done_below config note link i keeps is =
    let a = and_parts (is_broker config.kind && is_identifier i) (nat_lt link (length config.links)) (sym (ap (keeps_form config) is) ∙ keeps) in
    ltb-true link (length config.links) a.1
