-- `lines::flags::put_flags` meets its contract: parse's table has the flags of the text's guard, and where the text is refused there are none.
use native.Mathlib.Omega.{arith}
use Rattle.notation.specs.Reading.{reading}
use Rattle.reading.proofs.Serving.{guard-found, refusal-found}
use Rattle.lines.proofs.Tables.{parsed-table, refused-put}
use Rattle.lines.proofs.flags.put_flags.Goals as goal

pub put_values-requires : goal.put_values-requires
put_values-requires c =
    let text = c.args.text.now in
    let C = c.parse.new.codes in
    let O = c.parse.new.out in
    let t = parsed-table text c.in-Ok.guard C O (guard-found text (reading text) c.parse.result C O c.parse.ensures
    c.in-Ok.guard c.in-Ok.is) in
    record {
      code_table = t;
      flags_in_bounds = omega (arith, t.few, c.requires);
    }

pub returns-in_default : goal.returns-in_default
returns-in_default c =
    let text = c.args.text.now in
    let f = c.in_default.field-0 in
    refused-put text f (refusal-found text (reading text) c.parse.result c.parse.new.codes c.parse.new.out c.parse.ensures f c.in_default.is)
    c.args.state c.args.out.now c.args.at
