use Rattle.xml_lexer.proofs.NameTable.{in_table}
use Rattle.xml_lexer.proofs.characters.is_in_name.Goals as goal

pub returns : goal.returns
returns c = in_table c.args.b c.ranges.b.fits
