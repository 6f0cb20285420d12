use Rattle.xml_lexer.proofs.FirstPlaces.{finds}
use Rattle.xml_lexer.proofs.markup.find.Goals as goal

pub returns : goal.returns
returns c =
    let f = finds c.as_bytes.result.now c.args.text.now c.as_bytes-2.result.now c.args.ending.now c.find.result c.as_bytes.ensures.value c.as_bytes-2.ensures.value c.requires c.find.ensures in
    record { value = f.value; within = f.within; first = f.first }
