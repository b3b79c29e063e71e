-- `truth::values::literal_value` meets its contract: an odd literal is negated.
use Prim.Native.Nat.{ℕ, ◌/◌, ◌%◌}
use mathlib.Core.Path.{◌≡◌}
use mathlib.Core.Bool.{Bool, false, not}
use mathlib.Core.List.{List}
use lib.ListN.{get_or}
use borrow.Author.Tests.{eq-eqb, ne_eqb}
use Rattle.truth.specs.clauses.Computed.{literal_value}
use Rattle.truth.specs.clauses.Values.{value_in}
use Rattle.truth.proofs.values.literal_value.Goals as goal

by-even : (values : List Bool) (l : ℕ) → l % 2 ≡ 0 → get_or values (l / 2) false ≡ literal_value (value_in values) l
unfolding literal_value value_in
by-even values l e = rw (eq-eqb (l % 2) 0 e)

by-odd : (values : List Bool) (l : ℕ) → (l % 2 ≡ 0 → ⊥) → not (get_or values (l / 2) false) ≡ literal_value (value_in values) l
unfolding literal_value value_in
by-odd values l n = rw (ne_eqb (l % 2) 0 n)

pub returns-then-literal-eq0 : goal.returns-then-literal-eq0
returns-then-literal-eq0 c =
    by-even c.args.values.now c.args.literal c.if-literal-eq0.true

pub returns : goal.returns
returns c =
    by-odd c.args.values.now c.args.literal c.if-literal-eq0.false
