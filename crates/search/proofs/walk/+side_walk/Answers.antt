use Prim.Native.Nat.{ℕ, suc, ◌-◌, ◌≤◌, ◌<◌}
use mathlib.Core.Path.{◌≡◌}
use native.Mathlib.Omega.{arith}
use Rattle.gaps.proofs.Written.{writes-room}
use Rattle.search.proofs.Walks.{walked-before, walked-true, walked-left, walked_both, walked_stop, stretch-lower, stretch-upper}
use Rattle.search.proofs.Walks.{half-lower, half-upper, shifted, rows-again}
use Rattle.search.proofs.walk.+side_walk.Goals as goal

-- where more flags than the low ones are left, there is one before them
before-it : (n low : ℕ) → low ≤ n → (n ≡ low → ⊥) → suc (n - 1) ≡ n
before-it n low h f = omega arith

one-before : (n low : ℕ) → low < n → suc (n - 1) ≡ n
one-before n low h = omega arith

pub side-returns-then-last-place : goal.side-returns-then-last-place
side-returns-then-last-place t c =
    walked-before _ _ _ _ _ _ _ _ _ (omega arith) c.requires.rows.2 c.requires.rows.0.right

pub side-returns-then-left-eq0 : goal.side-returns-then-left-eq0
side-returns-then-left-eq0 t c =
    walked-true _ _ _ _ _ _ _ _ c.fix_first-left.ensures.fixed _ (one-before _ c.args.low c.requires.low_lt_flags.0) _ _ _ _ _ _ _
    c.requires.low_lt_flags.2 c.if-left-eq0.true c.requires.rows.2 c.requires.rows.0.right

pub side-returns : goal.side-returns
side-returns t c =
    walked-left _ _ _ _ _ _ _ _ c.fix_first-left.ensures.fixed _ (one-before _ c.args.low c.requires.low_lt_flags.0) _ _ _ _ _ _ _
    c.requires.low_lt_flags.2 _ _ (rw c.fix_first-left.ensures.flags at c.walk.ensures)

pub walk-side-found-requires : goal.walk-side-found-requires
walk-side-found-requires t c =
    let e = before-it c.args.formula.now.flags c.args.low c.requires.low_le_flags.0 c.if-formula-low.false in (
      omega arith,
      (
        (c.requires.rows.0, stretch-lower _ _ _ _ e c.requires.rows.1, c.requires.rows.2),
        (omega arith, c.requires.low_le_flags.1, half-lower _ _ _ _ e c.requires.rows.1),
      ),
    )

pub walk-returns-in_default : goal.walk-returns-in_default
walk-returns-in_default t c =
    rw (before-it c.args.formula.now.flags c.args.low c.requires.low_le_flags.0 c.if-formula-low.false) at
    (walked_stop _ _ _ _ _ _ _ _ _ _ _ _ _ c.in_default.is c.side-found.ensures)

pub walk-side-requires : goal.walk-side-requires
walk-side-requires t c =
    let e = before-it c.args.formula.now.flags c.args.low c.requires.low_le_flags.0 c.if-formula-low.false in
    let s = shifted (c.args.formula.now.flags - 1) (omega arith) in (
      omega arith,
      (
        (
          rows-again _ _ _ _ c.requires.rows.0 c.side-found.auto.rows c.side-found.ensures.right,
          stretch-upper _ _ _ _ _ e s c.requires.rows.1,
          rw c.side-found.auto.out (writes-room _ _ _ _ _ _ c.in-Done.is c.side-found.ensures.writes),
        ),
        (omega arith, rw c.side-found.auto.to c.requires.low_le_flags.1, half-upper _ _ _ _ _ e s c.requires.rows.1),
      ),
    )

pub walk-returns : goal.walk-returns
walk-returns t c =
    rw (before-it c.args.formula.now.flags c.args.low c.requires.low_le_flags.0 c.if-formula-low.false) at
    (walked_both _ _ _ _ _ _ _ _ _ _ _ _ _ _ _ c.in-Done.is c.side-found.ensures
    (rw (shifted (c.args.formula.now.flags - 1) (omega arith)) at c.side.ensures))
