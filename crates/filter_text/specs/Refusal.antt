-- What each fault says of the text. Want of memory says nothing.
use Rattle.filter_text.specs.Filter.{Text}
use Rattle.filter_text.specs.Reading.{HasLength, HasBadToken, IsOutOfProfile, HasBadSyntax, IsTooDeep, IsNoPath}
use Rattle.filter_text.specs.declared.fault.FilterFault.{FilterFault}
use Rattle.filter_text.specs.declared.fault.FilterFault.TheVariants.{Length, BadToken, OutOfProfile, Syntax, TooDeep, NotPath, NoMemory}

abbrev pub Refuses : Text → FilterFault → Type 0
Refuses s (Length place) = HasLength s place
Refuses s (BadToken place) = HasBadToken s place
Refuses s (OutOfProfile place) = IsOutOfProfile s place
Refuses s (Syntax place) = HasBadSyntax s place
Refuses s (TooDeep place) = IsTooDeep s place
Refuses s (NotPath place) = IsNoPath s place
Refuses s NoMemory = Unit {0}
