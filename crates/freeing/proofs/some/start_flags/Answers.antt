use native.Mathlib.Omega.{arith}
use native.Mathlib.Numerals.{add-one}
use Rattle.freeing.specs.clauses.Some.{keeps}
use Rattle.freeing.proofs.Freeing.{begun-none, begun_more, free-below}
use Rattle.freeing.proofs.some.start_flags.Goals as goal

pub loop-i-init : goal.loop-i-init
loop-i-init c =
    begun-none _ _ _ _ c.requires.2 c.requires.3

pub start_flag-free-requires : goal.start_flag-free-requires
start_flag-free-requires c = (
  omega (arith, c.loop-i.invariant.free, free-below (keeps c.args.n c.args.keep) c.loop-i.i),
  omega
      (arith, c.loop-i-test.true, c.requires.0, c.requires.1, c.loop-i.invariant.long),
  omega (arith, c.loop-i-test.true, c.requires.0),
)

pub loop-i-preserved : goal.loop-i-preserved
loop-i-preserved c =
    rw add-one (begun_more _ _ _ _ _ _ _ _ _ _ _ c.loop-i.invariant (rw add-one at c.is_set-kept.ensures) (rw add-one at c.is_set-value.ensures)
    (rw add-one at c.start_flag-free.ensures.0) c.start_flag-free.ensures.1)
