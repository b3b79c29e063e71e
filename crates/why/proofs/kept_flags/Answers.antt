use Prim.Native.Nat.{ℕ, ◌-◌}
use mathlib.Core.Path.{ap}
use native.Mathlib.Omega.{arith}
use native.Mathlib.Numerals.{add-one}
use Rattle.truth.specs.clauses.Formulas.{value_of}
use Rattle.why.proofs.Turns.{shifted, turn-fits, keeping_start, keeping-more}
use Rattle.why.proofs.kept_flags.Goals as goal

pub loop-i-init : goal.loop-i-init
loop-i-init c =
    keeping_start c.args.formula.now.flags (value_of c.args.formula.now) c.args.state _
    (ap (λ (z : ℕ). z - 1) (shifted c.args.formula.now.flags (omega (arith, c.args.formula.now.proper.flags))))

pub turn-keep-requires : goal.turn-keep-requires
turn-keep-requires c = (
  omega (arith, c.args.formula.now.proper.flags),
  rw add-one (turn-fits c.args.formula.now.flags (value_of c.args.formula.now) c.args.state
      c.loop-i.i c.loop-i.keep c.loop-i.invariant (omega (arith, c.loop-i-test.true))),
)

pub loop-i-preserved : goal.loop-i-preserved
loop-i-preserved c =
    rw add-one (keeping-more c.args.formula.now.flags (value_of c.args.formula.now) c.args.state c.loop-i.i c.loop-i.keep
    c.turn-keep.result c.loop-i.invariant (omega (arith, c.loop-i-test.true)) (rw add-one at c.turn-keep.ensures))
