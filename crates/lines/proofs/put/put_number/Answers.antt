-- `lines::put::put_number` meets its contract: a number of 64 bits has no more digits than there is room for.
use native.Mathlib.Omega.{arith}
use Rattle.lines.proofs.Decimal.{number_short}
use Rattle.lines.proofs.put.put_number.Goals as goal

pub put_decimal-requires : goal.put_decimal-requires
put_decimal-requires c =
    omega (arith, c.requires, number_short c.args.n (omega arith))

pub returns : goal.returns
returns c =
    record { puts = c.put_decimal.ensures; within = omega (arith, c.put_decimal.ensures.next, number_short c.args.n (omega arith)) }
