-- A list whose triplets are known one by one can be rested on.
use Prim.Native.Nat.{ℕ, ◌+◌, ◌*◌, ◌/◌, ◌≤◌, ◌<◌}
use mathlib.Core.Path.{◌≡◌}
use mathlib.Core.List.{List}
use mathlib.Core.Logic.{inl, inr, ⊎_elim}
use native.Mathlib.Omega.{arith}
use lib.ListN.{length}
use Rattle.notation.specs.Ceilings.{flag_ceiling, connective_ceiling}
use Rattle.notation.specs.Triplets.{triplet_variable}
use Rattle.notation.specs.clauses.Shape.{Names, kind_at, y_at, z_at}
use Rattle.ground.proofs.Cases.{lt-or-ge, split-eq}
use Rattle.steps.specs.clauses.Resting.{Readable}
use Rattle.test_rest.specs.clauses.Known.{Known}

-- each of the first j triplets is known
abbrev pub KnownBelow : List ℕ → ℕ → Type 0
KnownBelow xs j = (i : ℕ) → i < j → Known i (kind_at xs i) (y_at xs i) (z_at xs i)

pub known_next : (xs : List ℕ) (j : ℕ) → KnownBelow xs j → Known j (kind_at xs j) (y_at xs j) (z_at xs j) → KnownBelow xs (j + 1)
known_next xs j all here i h =
    ⊎_elim
    (λ (q : i ≡ j). rw q here)
    (λ (q : i ≡ j → ⊥). all i (omega arith))
    (split-eq i j)

named : (j l : ℕ) → l / 2 ≤ triplet_variable j → Names flag_ceiling j l
named j l h =
    ⊎_elim
    (λ (p : l / 2 < flag_ceiling + 1). inl (omega arith))
    (λ (p : flag_ceiling + 1 ≤ l / 2). inr (omega arith, omega arith))
    (lt-or-ge (l / 2) (flag_ceiling + 1))

pub readable : (xs : List ℕ) (c : ℕ) → c ≤ connective_ceiling → 3 * c ≤ length xs → KnownBelow xs c → Readable xs c
readable xs c few long all = (
  flag_ceiling,
  0,
  record {
    flags = omega arith;
    count = (few, long);
    shape = record {
      kinds = λ j h. (all j h).kinds;
      ys = λ j h. named j (y_at xs j) (all j h).of-y;
      zs = λ j h. named j (z_at xs j) (all j h).of-z;
    };
    named = inl (omega arith);
  },
)
