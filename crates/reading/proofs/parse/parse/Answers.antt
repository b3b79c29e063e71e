-- `reading::parse::parse` meets its contract: a text is read from its first byte, where no code was seen.
use Rattle.reading.proofs.Parsing.{parsed-whole}
use Rattle.reading.proofs.parse.parse.Goals as goal

pub returns : goal.returns
returns c =
    parsed-whole c.args.text.now c.parse_from.result c.args.codes.now c.parse_from.new.codes c.parse_from.new.out
    c.parse_from.ensures
