use Prim.Native.Nat.{◌+◌, ◌-◌}
use native.Mathlib.Omega.{arith}
use borrow.Author.Rules.{rules}
use Rattle.rows.specs.clauses.Rows.{WordOf}
use Rattle.rows.proofs.RowsMade.{row-as}
use Rattle.rows.proofs.Flags.{first-none, first_more}
use Rattle.rows.proofs.flag_rows.Goals as goal

pub loop-i-init : goal.loop-i-init
loop-i-init c =
    first-none _ _ _ _ (row-as _ _ _ _ _ _ c.make_row.ensures (λ w r h e. search rules))

pub loop-i-preserved : goal.loop-i-preserved
loop-i-preserved c =
    first_more _ _ _ _ _ _ _ c.loop-i.invariant
    (row-as _ _ _ _ (WordOf (c.args.n - (c.loop-i.i + 1))) _ c.make_row-in-loop-i.ensures (λ w r h e. search rules)) (omega arith)
