use Rattle.voe_tree.proofs.WrittenXml.{ascii_xml}
use Rattle.voe_tree.proofs.laws.printable_is_xml.Goals as goal

pub returns : goal.returns
returns c = ascii_xml
