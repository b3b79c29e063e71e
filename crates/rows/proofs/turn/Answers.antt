-- `rows::turn` meets its contract: each test is the definition's.
use Prim.Native.Nat.{ℕ, ◌%◌}
use mathlib.Core.Path.{◌≡◌, sym}
use borrow.Author.Tests.{eq-eqb, ne_eqb}
use Rattle.rows.specs.clauses.Rows.{turned}
use Rattle.rows.proofs.turn.Goals as goal

by_zero : (l : ℕ) → l % 2 ≡ 0 → turned l ≡ 0
unfolding turned
by_zero l e = rw (eq-eqb (l % 2) 0 e)

by_one : (l : ℕ) → (l % 2 ≡ 0 → ⊥) → turned l ≡ 18446744073709551615
unfolding turned
by_one l e = rw (ne_eqb (l % 2) 0 e)

pub returns-then-l-eq0 : goal.returns-then-l-eq0
returns-then-l-eq0 c =
    sym (by_zero _ c.if-l-eq0.true)

pub returns : goal.returns
returns c =
    sym (by_one _ c.if-l-eq0.false)
