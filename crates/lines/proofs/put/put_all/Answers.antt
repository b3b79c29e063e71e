-- `lines::put::put_all` meets its contract: the bytes stand from the place on, and all else is as it was.
use Rattle.std.proofs.Common.{arith}
use Rattle.std.proofs.lemmas.Grind.{common_steps}
use Rattle.lines.proofs.put.put_all.Goals as goal

pub returns : goal.returns
returns c = record { next = omega arith; holds = grind (arith, common_steps); long = grind (arith, common_steps) }
