-- `building::moved` meets its contract: what is below the first triplet's literal stays, and the others move.
use native.Mathlib.Omega.{arith}
use mathlib.Core.Path.{sym}
use Rattle.building.proofs.Moving.{stays, moves}
use Rattle.building.proofs.moved.Goals as goal

pub returns-then-literal : goal.returns-then-literal
returns-then-literal c =
    sym (stays c.args.before c.args.literal (omega arith))

pub returns : goal.returns
returns c =
    sym (moves c.args.before c.args.literal (omega arith))
