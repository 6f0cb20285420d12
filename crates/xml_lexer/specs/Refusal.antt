-- What each fault says of the bytes. Want of memory says nothing.
use Rattle.std.specs.Prelude.{true, false}
use Rattle.xml_lexer.specs.Characters.{Text}
use Rattle.xml_lexer.specs.Phases.{RefusesText, RefusesToken, RefusesMany}
use Rattle.xml_lexer.specs.declared.fault.TokenFault.{TokenFault}
use Rattle.xml_lexer.specs.declared.fault.TokenFault.TheVariants.{NotText, BadToken, Doctype, TooManyTokens, NoMemory}

abbrev pub Refuses : Text → TokenFault → Type 0
Refuses bytes (NotText place) = RefusesText bytes place
Refuses bytes (BadToken place) = RefusesToken bytes false place
Refuses bytes (Doctype place) = RefusesToken bytes true place
Refuses bytes TooManyTokens = RefusesMany bytes
Refuses bytes NoMemory = Unit {0}
