-- The command with its three subcommands, as the parser's exact meaning reads it.
use Rattle.std.specs.Prelude.{codes, true, Some, pos}
use Rattle.clap.specs.Walk.{Rule, Text}
use Rattle.clap.specs.Lexer.{usize_max}
use Rattle.clap.specs.Simple.{App, new_app, new_rule, with_rule, with_subcommand, on_top}
use Rattle.clap.specs.declared.builder.action.ArgAction.TheVariants.{Set, Append}
use Rattle.clap.specs.declared.builder.value_parser.ValueParser.TheVariants as parser

-- a required word
abbrev pub word_rule : Text → Rule
word_rule name = record (new_rule name) { required = true; action = Some Set }

-- a required number from 1 to 1,000,000
abbrev pub number_rule : Text → Rule
number_rule name = record (word_rule name) { parser = Some (parser.Signed (pos 1) (pos 1_000_000)) }

abbrev pub submit_app : App
submit_app = with_rule (new_app (codes "submit")) (word_rule (codes "ADDRESS"))

abbrev pub listen_app : App
listen_app = with_rule (with_rule (new_app (codes "listen")) (word_rule (codes "ADDRESS"))) (number_rule (codes "COUNT"))

-- any number of upstream addresses
abbrev pub upstream_rule : Rule
upstream_rule = record (new_rule (codes "UPSTREAM")) { action = Some Append; range = Some (record { start_inclusive = 0; end_inclusive = usize_max }) }

-- an option with a number of seconds, from 1 to 86,400
abbrev pub redial_rule : Rule
redial_rule = record (new_rule (codes "redial")) { long = Some (codes "redial"); action = Some Set; parser = Some (parser.Signed (pos 1) (pos 86_400)) }

abbrev pub serve_words_app : App
serve_words_app = with_rule (with_rule (with_rule (with_rule (new_app (codes "serve")) (word_rule (codes "AUTHORS"))) (word_rule (codes "SUBSCRIBERS"))) (number_rule (codes "SESSIONS"))) upstream_rule

abbrev pub serve_app : App
serve_app = with_rule serve_words_app redial_rule

-- no word is the program's name
abbrev pub unnamed_app : App
unnamed_app = on_top (λ s. record s { no_binary_name = true }) (new_app (codes "voevent"))

-- one of the subcommands must stand
abbrev pub voevent_app : App
voevent_app = on_top (λ s. record s { subcommand_required = true }) unnamed_app

-- the whole command
abbrev pub network_app : App
network_app = with_subcommand (with_subcommand (with_subcommand voevent_app submit_app.top) listen_app.top) serve_app.top
