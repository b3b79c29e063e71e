-- `reading::name::part` meets its contract: the part where it lies in the text, and an empty one otherwise.
use native.Mathlib.Omega.{arith}
use Rattle.reading.proofs.Serving.{part_in, part-refused, part_out}
use Rattle.reading.proofs.name.part.Goals as goal

pub returns-in_default : goal.returns-in_default
returns-in_default g c =
    part-refused c.args.text.now c.args.named _ c.in_default.is

pub returns-then-text-start : goal.returns-then-text-start
returns-then-text-start g c =
    part_out c.args.text.now c.args.named c.in-Ok.field-0 c.in-Ok.is (omega arith)

pub returns-then-text-start-2 : goal.returns-then-text-start-2
returns-then-text-start-2 g c =
    part_out c.args.text.now c.args.named c.in-Ok.field-0 c.in-Ok.is (omega arith)

pub returns : goal.returns
returns g c =
    part_in c.args.text.now c.args.named c.in-Ok.field-0 c.in-Ok.is (omega arith) (omega arith)
