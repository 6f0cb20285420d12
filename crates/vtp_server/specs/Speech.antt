-- The messages in which an end says what.
use Rattle.std.specs.Prelude.{◌≡◌, ℕ, ◌+◌, ◌/◌, ◌%◌, cond, List, [], ◌∷◌, ◌++◌, map, Option, Some, None, codes}
use Rattle.xml_lexer.specs.Characters.{Text}
use Rattle.voe_packet.specs.declared.param.Param.{Param}
use Rattle.voe_time.specs.Stamp.{IsStamp}
use Rattle.net_model.specs.declared.state.NakCode.{NakCode}
use Rattle.net_model.specs.declared.state.NakCode.TheVariants.{Tree, Validity, Conflict, Full}
use Rattle.net_model.specs.declared.state.Verdict.{Verdict}
use Rattle.net_model.specs.declared.state.Verdict.TheVariants as verdict
use Rattle.node_notes.specs.Forms.{is_name}
use Rattle.vtp_messages.specs.Spelling.{spelling}
use Rattle.vtp_messages.specs.declared.message.Message.{Message}
use Rattle.vtp_messages.specs.declared.role.MessageRole.{MessageRole}
use Rattle.vtp_messages.specs.declared.role.MessageRole.TheVariants.{IAmAlive, Authenticate, Ack, Nak}
use Rattle.vtp_server.specs.declared.speech.Speech.{Speech}
use Rattle.vtp_server.specs.declared.speech.Speech.TheVariants.{Alive, AliveTo, WhoAreYou, IAm, Answer}
use Rattle.vtp_server.specs.declared.speech.Voice.{Voice}

-- ---- a packet's verdict

-- a rule's number, in two digits
abbrev pub two_digits : ℕ → Text
two_digits n = (48 + n / 10 % 10) ∷ (48 + n % 10) ∷ []

-- why a packet is refused
abbrev pub reason : NakCode → Text
reason (Tree number) = codes "refused T" ++ two_digits number
reason (Validity number) = codes "refused V" ++ two_digits number
reason Conflict = codes "refused conflict"
reason Full = codes "refused full"

-- The packet's identifier, where it may stand in a message, else the own name. An identifier that was read from a packet always may.
abbrev pub named_or : List ℕ → List ℕ → List ℕ
named_or identifier name = cond (is_name identifier) identifier name

abbrev pub verdict_role : Verdict → MessageRole
verdict_role (verdict.Ack identifier) = Ack
verdict_role (verdict.Nak identifier code) = Nak

abbrev pub verdict_origin : List ℕ → Verdict → List ℕ
verdict_origin name (verdict.Ack identifier) = named_or identifier name
verdict_origin name (verdict.Nak (Some identifier) code) = named_or identifier name
verdict_origin name (verdict.Nak None code) = name

abbrev pub verdict_reason : Verdict → Option Text
verdict_reason (verdict.Ack identifier) = None
verdict_reason (verdict.Nak identifier code) = Some (reason code)

-- ---- the parts of the message

abbrev pub role_of : Speech → MessageRole
role_of Alive = IAmAlive
role_of (AliveTo asker) = IAmAlive
role_of WhoAreYou = Authenticate
role_of (IAm asker) = Authenticate
role_of (Answer given) = verdict_role given

abbrev pub origin_of : List ℕ → Speech → List ℕ
origin_of name Alive = name
origin_of name (AliveTo asker) = asker
origin_of name WhoAreYou = name
origin_of name (IAm asker) = asker
origin_of name (Answer given) = verdict_origin name given

-- whoever answers names itself
abbrev pub response_of : List ℕ → Speech → Option (List ℕ)
response_of name Alive = None
response_of name (AliveTo asker) = Some name
response_of name WhoAreYou = None
response_of name (IAm asker) = Some name
response_of name (Answer given) = Some name

abbrev pub filter_param : Text → Param
filter_param text = record { name = codes "xpath-filter"; value = text }

abbrev pub params_of : List Text → Speech → List Param
params_of filters Alive = []
params_of filters (AliveTo asker) = []
params_of filters WhoAreYou = []
params_of filters (IAm asker) = map filter_param filters
params_of filters (Answer given) = []

abbrev pub result_of : Speech → Option Text
result_of Alive = None
result_of (AliveTo asker) = None
result_of WhoAreYou = None
result_of (IAm asker) = None
result_of (Answer given) = verdict_reason given

-- the stamp is that of a moment
abbrev pub IsStampIf : ℕ → Option Text → Type 0
IsStampIf moment None = ⊥
IsStampIf moment (Some text) = IsStamp moment text

-- This is the message in which a voice says so at a moment.
pub record IsMessageSo (voice : Voice) (speech : Speech) (moment : ℕ) (message : Message) : Type 0 where
  pub role : message.role ≡ role_of speech
  pub origin : message.origin ≡ origin_of voice.name speech
  pub response : message.response ≡ response_of voice.name speech
  pub stamp : IsStampIf moment message.stamp
  pub params : message.params ≡ params_of voice.filters speech
  pub result : message.result ≡ result_of speech

-- These bytes are its text.
pub record IsSpelled (voice : Voice) (speech : Speech) (moment : ℕ) (bytes : List ℕ) : Type 0 where
  pub message : Message
  pub is_so : IsMessageSo voice speech moment message
  pub text : bytes ≡ spelling message
