-- The pairs of a line, row by row: those of the first variant, then those of the second, and so on.
use Prim.Native.Nat.{ℕ, suc, ◌+◌, ◌≤◌, ◌<◌}
use mathlib.Core.Path.{◌≡◌, sym, subst}
use mathlib.Core.Logic.{⊎_elim}
use mathlib.Core.List.{List}
use native.Mathlib.Omega.{arith}
use Rattle.ground.proofs.Cases.{lt-or-ge}
use Rattle.saturation.specs.declared.verdict.Verdict.{Verdict}
use Rattle.saturation.specs.declared.verdict.Verdict.TheVariants.{Covered}
use Rattle.building.specs.declared.spans.GuardSpan.{GuardSpan}
use Rattle.pack_check.specs.clauses.Asking.{PairAnswered, RowCovered, RowFound, RowAnswered, RowsCovered, PairsAnswered}
use Rattle.pack_check.specs.declared.verdict.Overlap.{Overlap}
use Rattle.std.specs.Prelude.{Option, Some, None}

module _ (pool : List ℕ) (spans : List GuardSpan) (n variants depth : ℕ) where
  -- no pair of variant i stands before the one after it
  pub row-begins : (i : ℕ) → RowCovered pool spans n variants depth i (i + 1)
  row-begins i b h l = absurd (omega arith)

  -- one pair more is covered
  pub row_goes : (i j : ℕ) → RowCovered pool spans n variants depth i j → PairAnswered pool spans n variants depth i j Covered
      → RowCovered pool spans n variants depth i (j + 1)
  row_goes i j r p b h l =
      ⊎_elim (λ (k : b < j). r b h k) (λ (k : j ≤ b). let e : b ≡ j = omega arith in rw e p)
      (lt-or-ge b j)

  -- no variant stands before the first
  pub rows-begin : RowsCovered pool spans n variants depth 1
  rows-begin a h l = absurd (omega arith)

  -- one row more is covered
  pub rows-go : (i : ℕ) → RowsCovered pool spans n variants depth i → RowCovered pool spans n variants depth i (suc variants)
      → RowsCovered pool spans n variants depth (i + 1)
  rows-go i r p a h l =
      ⊎_elim (λ (k : a < i). r a h k) (λ (k : i ≤ a). let e : a ≡ i = omega arith in rw e p)
      (lt-or-ge a i)

  -- all rows are covered, the last variant having no pair of its own
  pub rows_all : (i : ℕ) → variants ≤ i → RowsCovered pool spans n variants depth i → PairsAnswered pool spans n variants depth None
  rows_all i h r rule vs held many a b p = r a p.first (omega (arith, p.below, p.last, many)) b p.below (omega (arith, p.last, many)) rule vs held many

  -- the first pair of a row that is not covered, where all rows before it are
  pub rows-found : (i first j : ℕ) (v : Verdict) → 0 < i → RowsCovered pool spans n variants depth i
      → RowFound pool spans n variants depth i first j v → PairsAnswered pool spans n variants depth (Some (record { first = first; second = j; verdict = v }))
  rows-found i first j v h r f rule vs held many =
      record {
        pair = record { first = omega (arith, f.same); below = omega (arith, f.same, f.below); last = omega (arith, f.last, many) };
        answer = rw f.same (f.answer rule vs held many);
        not_covered = f.not_covered;
        before = λ a b p q.
            ⊎_elim
            (λ (k : a < first). r a p.first (omega (arith, f.same)) b p.below (omega (arith, p.last, many)) rule vs held many)
            (λ (e : (a ≡ first) × (b < j)).
            rw (e.0, f.same) (f.before b (omega (arith, p.below, e.0, f.same)) e.1 rule vs held many))
            q;
      }

  -- the same, by what the row answered
  pub row-closed : (i : ℕ) (r : Option Overlap) → r ≡ None → RowAnswered pool spans n variants depth i r
      → RowCovered pool spans n variants depth i (suc variants)
  row-closed i r e a = subst (λ u. RowAnswered pool spans n variants depth i u) e a

  pub row_open : (i : ℕ) (o : Overlap) (r : Option Overlap) → r ≡ Some o → 0 < i → RowsCovered pool spans n variants depth i
      → RowAnswered pool spans n variants depth i r → PairsAnswered pool spans n variants depth r
  row_open i o r e h c a =
      subst (λ u. PairsAnswered pool spans n variants depth u) (sym e)
      (rows-found i o.first o.second o.verdict h c (subst (λ u. RowAnswered pool spans n variants depth i u) e a))
