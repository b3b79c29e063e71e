-- `steps::step::pattern_of` meets its contract: the three places within their bounds.
use Prim.Native.Nat.{ℕ, ◌+◌, ◌*◌}
use mathlib.Core.Path.{ap₂}
use native.Mathlib.Omega.{arith}
use Rattle.steps.proofs.Placing.{x-most, y-most, z-most}
use Rattle.steps.proofs.step.pattern_of.Goals as goal

pub overflow_mul-result : goal.overflow_mul-result
overflow_mul-result c =
    omega (arith, c.x_place-x.ensures, x-most c.args.a, y-most c.args.a c.args.b, z-most c.args.a c.args.b c.args.c)

pub overflow_mul-result-2 : goal.overflow_mul-result-2
overflow_mul-result-2 c =
    omega (arith, c.y_place-y.ensures, x-most c.args.a, y-most c.args.a c.args.b, z-most c.args.a c.args.b c.args.c)

pub overflow_add-result : goal.overflow_add-result
overflow_add-result c =
    omega (arith, c.x_place-x.ensures, c.y_place-y.ensures, x-most c.args.a, y-most c.args.a c.args.b, z-most c.args.a c.args.b c.args.c)

pub overflow_add-result-2 : goal.overflow_add-result-2
overflow_add-result-2 c =
    omega (
      arith,
      c.x_place-x.ensures,
      c.y_place-y.ensures,
      c.z_place-z.ensures,
      x-most c.args.a,
      y-most c.args.a c.args.b,
      z-most c.args.a
          c.args.b c.args.c,
    )

pub returns : goal.returns
returns c =
    record {
      names = ap₂ ◌+◌ (ap₂ (λ (i j : ℕ). 35 * i + 7 * j) c.x_place-x.ensures c.y_place-y.ensures) c.z_place-z.ensures;
      below = omega (
        arith,
        c.x_place-x.ensures,
        c.y_place-y.ensures,
        c.z_place-z.ensures,
        x-most c.args.a,
        y-most c.args.a c.args.b,
        z-most c.args.a c.args.b
            c.args.c,
      );
    }
