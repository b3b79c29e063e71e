-- `guard_check::answer::by_tables` meets its contract: the first gap is the answer at every depth not below the number of flags.
use mathlib.Core.Path.{refl}
use native.Mathlib.Omega.{arith}
use lib.Pow.{pow_pos}
use Rattle.guard_check.proofs.Tables.{fully-found}
use Rattle.guard_check.proofs.answer.by_tables.Goals as goal

pub returns : goal.returns
returns c =
    fully-found c.args.formula.now.triplets.now c.args.formula.now.count c.args.formula.now.flags c.args.formula.now.root (c.requires)
    c.search-found.result c.verdict_of.result c.search-found.ensures
    refl
    c.verdict_of.ensures
