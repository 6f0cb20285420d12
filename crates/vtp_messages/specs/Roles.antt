-- The roles of messages.
use Rattle.std.specs.Prelude.{if◌then◌else◌, Option, Some, None, codes}
use Rattle.xml_lexer.specs.Characters.{Text}
use Rattle.xml_lexer.specs.Spelling.{same}
use Rattle.vtp_messages.specs.declared.role.MessageRole.{MessageRole}
use Rattle.vtp_messages.specs.declared.role.MessageRole.TheVariants.{IAmAlive, Authenticate, Ack, Nak}

abbrev pub role_word : MessageRole → Text
role_word IAmAlive = codes "iamalive"
role_word Authenticate = codes "authenticate"
role_word Ack = codes "ack"
role_word Nak = codes "nak"

-- nothing where the word is none of the four
abbrev pub role_named : Text → Option MessageRole
role_named word =
    if same word (codes "iamalive") then Some IAmAlive else (if same word (codes "authenticate") then Some Authenticate
    else (if same word (codes "ack") then Some Ack else (if same word (codes "nak") then Some Nak else None)))
