use Rattle.vtp_messages.proofs.Printable.{printable_xml, stands}
use Rattle.vtp_messages.proofs.laws.printable_texts_stand.Goals as goal

pub returns : goal.returns
returns c = record { stripped = stands; xml = printable_xml }
