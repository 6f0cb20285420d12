-- What the sections of a packet are called.
use Rattle.std.specs.Prelude.{codes}
use Rattle.xml_lexer.specs.Characters.{Text}
use Rattle.rule_table.specs.declared.section.Section.{Section}
use Rattle.rule_table.specs.declared.section.Section.TheVariants.{Who, What, WhereWhen, How, Why, Citations}

abbrev pub section_name : Section → Text
section_name Who = codes "Who"
section_name What = codes "What"
section_name WhereWhen = codes "WhereWhen"
section_name How = codes "How"
section_name Why = codes "Why"
section_name Citations = codes "Citations"
