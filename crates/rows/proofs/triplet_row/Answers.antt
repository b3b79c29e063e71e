-- `rows::triplet_row` meets its contract: the operands' rows lie before the triplet's own, which is made of them.
use Prim.Native.Nat.{ℕ, suc, ◌+◌, ◌*◌, ◌≤◌, ◌<◌}
use mathlib.Core.Path.{◌≡◌, ap}
use native.Mathlib.Omega.{arith}
use borrow.Author.Rules.{rules}
use Rattle.rows.proofs.RowsMade.{row-as}
use Rattle.notation.specs.Ceilings.{flag_ceiling}
use Rattle.notation.specs.Triplets.{triplet_variable}
use Rattle.rows.proofs.Gates.{rows_apart, or-made, xor-made}
use Rattle.rows.proofs.triplet_row.Goals as goal

-- the operands' rows lie before the triplet's own, and that within the rows
own : (j width : ℕ) → (flag_ceiling + 1 + j) * width ≡ triplet_variable (suc j) * width
own j width = let e : flag_ceiling + 1 + j ≡ triplet_variable (suc j) = omega arith in ap (λ u. u * width) e

before : (j v width : ℕ) → v < triplet_variable (suc j) → v * width + width ≤ (flag_ceiling + 1 + j) * width
before j v width h = rows_apart v (flag_ceiling + 1 + j) width (omega arith)

within : (j width n : ℕ) → triplet_variable (suc (suc j)) * width ≤ n → (flag_ceiling + 1 + j) * width + width ≤ n
within j width n h = omega arith

pub join_rows-requires-clause-within : goal.join_rows-requires-clause-within
join_rows-requires-clause-within c =
    (before c.args.j _ c.args.width c.requires.2, before c.args.j _ c.args.width c.requires.3, within c.args.j c.args.width _ c.requires.4)

pub returns-then-xs-j-eq0 : goal.returns-then-xs-j-eq0
returns-then-xs-j-eq0 c =
    or-made _ _ _ _ _ _ _ _ (own c.args.j c.args.width) c.turn-ty.ensures c.turn-tz.ensures c.if-xs-j-eq0.true
    (row-as _ _ _ _ _ _ c.join_rows.ensures (λ w r h e. search rules))

pub returns-else-xs-j-eq0 : goal.returns-else-xs-j-eq0
returns-else-xs-j-eq0 c =
    xor-made _ _ _ _ _ _ _ _ (own c.args.j c.args.width) c.turn-ty.ensures c.turn-tz.ensures c.if-xs-j-eq0.false
    (row-as _ _ _ _ _ _ c.join_rows-else-xs-j-eq0.ensures (λ w r h e. search rules))
