-- The text of a message, as the tokens that it has.
use Rattle.std.specs.Prelude.{Bool, true, false, if◌then◌else◌, List, [], ◌∷◌, ◌++◌, length, map, Option, Some, None, codes}
use Rattle.xml_lexer.specs.Characters.{Text}
use Rattle.xml_lexer.specs.Token.{Token, start, end, Spelled}
use Rattle.voe_tree.specs.Canonical.{all_written, is_short, text_tokens}
use Rattle.voe_packet.specs.Params.{param_token}
use Rattle.voe_packet.specs.declared.param.Param.{Param}
use Rattle.vtp_messages.specs.Roles.{role_word}
use Rattle.vtp_messages.specs.declared.message.Message.{Message}
use Rattle.vtp_messages.specs.declared.role.MessageRole.{MessageRole}

-- the namespace that the root is written in
abbrev pub transport_space : Text
transport_space = codes "http://telescope-networks.org/schema/Transport/v1.1"

abbrev pub root_name : Text
root_name = codes "trn:Transport"

abbrev pub root_attributes : MessageRole → List Spelled
root_attributes role =
    record { name = codes "xmlns:trn"; value = transport_space } ∷ record { name = codes "role"; value = role_word role }
    ∷ record { name = codes "version"; value = codes "1.0" } ∷ []

-- an element of that name with a text
abbrev pub leaf : Text → Text → List Token
leaf name text = start name [] false ∷ text_tokens text ++ end name ∷ []

-- none without a text
abbrev pub leaf_if : Text → Option Text → List Token
leaf_if name None = []
leaf_if name (Some text) = leaf name text

-- there is a named value or a result
abbrev pub has_meta : List Param → Option Text → Bool
has_meta [] None = false
has_meta [] (Some result) = true
has_meta (param ∷ params) result = true

-- what stands in `Meta`
abbrev pub meta_inner : List Param → Option Text → List Token
meta_inner params result = map param_token params ++ leaf_if (codes "Result") result

-- `Meta` stands where it has something
abbrev pub meta : List Param → Option Text → List Token
meta params result =
    if has_meta params result then start (codes "Meta") [] false ∷ meta_inner params result ++ end (codes "Meta") ∷ [] else []

-- what stands in the root
abbrev pub inner : Message → List Token
inner m =
    leaf (codes "Origin") m.origin
    ++ (leaf_if (codes "Response") m.response ++ (leaf_if (codes "TimeStamp") m.stamp ++ meta m.params m.result))

abbrev pub message_tokens : Message → List Token
message_tokens m = start root_name (root_attributes m.role) false ∷ inner m ++ end root_name ∷ []

-- The text of a message.
abbrev pub spelling : Message → Text
spelling m = all_written (message_tokens m)

-- the text is short enough to be read
abbrev pub is_writable_message : Message → Bool
is_writable_message m = is_short (length (spelling m)) (message_tokens m)
