-- How long the texts of a message are.
use Rattle.std.specs.Prelude.{ℕ, ◌+◌, length, Option, Some, None}
use Rattle.xml_lexer.specs.Characters.{Text}
use Rattle.voe_packet.specs.Drafts.{params_size}
use Rattle.vtp_messages.specs.declared.message.Message.{Message}

abbrev pub size_if : Option Text → ℕ
size_if None = 0
size_if (Some text) = length text

-- the bytes of its names, stamp, named values and result
abbrev pub texts_size : Message → ℕ
texts_size m = length m.origin + size_if m.response + size_if m.stamp + params_size m.params + size_if m.result
