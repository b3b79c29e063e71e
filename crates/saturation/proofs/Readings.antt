-- What a saturator keeps of its triplets is what holds of all triplets that can be read.
use Prim.Native.Nat.{ℕ, ◌≤◌}
use mathlib.Core.List.{List}
use mathlib.Core.Logic.{inl, inr}
use native.Mathlib.Omega.{arith}
use Rattle.notation.specs.Ceilings.{flag_ceiling}
use Rattle.notation.specs.clauses.Shape.{Names, y_at, z_at}
use Rattle.truth.specs.clauses.Computed.{Triplets}
use Rattle.steps.specs.clauses.Resting.{Readable}

-- with more flags no fewer literals are named
named-more : (n m c l : ℕ) → n ≤ m → Names n c l → Names m c l
named-more n m c l h (inl p) = inl (omega arith)
named-more n m c l h (inr p) = inr p

pub readable-all : (xs : List ℕ) (c : ℕ) → Readable xs c → Triplets flag_ceiling xs c 0
readable-all xs c r =
    let t : Triplets r.0 xs c r.1 = r.2 in
    record {
      flags = omega arith;
      count = t.count;
      shape = record {
        kinds = t.shape.kinds;
        ys = λ j h. named-more r.0 flag_ceiling j (y_at xs j) t.flags (t.shape.ys j h);
        zs = λ j h. named-more r.0 flag_ceiling j (z_at xs j) t.flags (t.shape.zs j h);
      };
      named = inl (omega arith);
    }
