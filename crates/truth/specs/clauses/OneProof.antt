-- That triplets are over n flags with a root that they name has one proof at most, so that a type can keep it.
use Rattle.std.specs.Prelude.{ℕ, ◌≤◌, List}
use Rattle.std.proofs.Common.{ap, inl, inr, arith}
use Rattle.std.specs.Coded.{×_prop, le_prop}
use Rattle.notation.specs.Ceilings.{flag_ceiling}
use Rattle.notation.specs.clauses.Shape.{Names, Shape, y_at, z_at}
use Rattle.truth.specs.clauses.Computed.{Triplets}

names-prop : (n c l : ℕ) → n ≤ flag_ceiling → IsProp (Names n c l)
names-prop n c l h (inl a) (inl b) = ap inl (le_prop a b)
names-prop n c l h (inl a) (inr b) = absurd (omega (arith, a, b.0, h))
names-prop n c l h (inr a) (inl b) = absurd (omega (arith, a.0, b, h))
names-prop n c l h (inr a) (inr b) = ap inr (×_prop le_prop le_prop a b)

shape-prop : (n c : ℕ) (xs : List ℕ) → n ≤ flag_ceiling → IsProp (Shape n c xs)
shape-prop n c xs h a b =
    λ i. record {
      kinds = λ j p. le_prop (a.kinds j p) (b.kinds j p) i;
      ys = λ j p. names-prop n j (y_at xs j) h (a.ys j p) (b.ys j p) i;
      zs = λ j p. names-prop n j (z_at xs j) h (a.zs j p) (b.zs j p) i;
    }

pub triplets-prop : (n : ℕ) (xs : List ℕ) (c root : ℕ) → IsProp (Triplets n xs c root)
triplets-prop n xs c root a b =
    λ i. record {
      flags = le_prop a.flags b.flags i;
      count = ×_prop le_prop le_prop a.count b.count i;
      shape = shape-prop n c xs a.flags a.shape b.shape i;
      named = names-prop n c root a.flags a.named b.named i;
    }
