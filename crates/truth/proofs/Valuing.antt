-- A list of truth values that is filled, variable by variable, has the values that the triplets compute.
use Prim.Native.Nat.{ℕ, suc, ◌+◌, ◌-◌, ◌/◌, ◌%◌, ◌^◌, ◌≤◌, ◌<◌}
use mathlib.Core.Path.{◌≡◌, refl, ◌∙◌}
use mathlib.Core.Bool.{Bool, true, false}
use mathlib.Core.List.{List}
use mathlib.Core.Logic.{⊎_elim}
use native.Mathlib.Omega.{arith}
use native.Mathlib.Numerals.{add-one}
use lib.ListN.{length, set, length-set}
use lib.Dec.{eqb}
use lib.Seq.{get_or-set_same, get_or-set_other}
use Rattle.notation.specs.Ceilings.{connective_ceiling}
use Rattle.notation.specs.Triplets.{triplet_variable, negation}
use Rattle.notation.proofs.Shaped.{negation-half}
use Rattle.notation.specs.clauses.Shape.{kind_at, y_at, z_at}
use Rattle.ground.proofs.Cases.{split-eq, lt-or-ge}
use Rattle.ground.specs.Bits.{bit}
use Rattle.truth.specs.Connectives.{gate}
use Rattle.truth.specs.clauses.Computed.{literal_value, computed, Valued, root_value, Triplets}
use Rattle.truth.specs.clauses.Values.{value_in, FlagsSet}
use Rattle.truth.proofs.Computing.{valued, valued-more, valued-unique}

-- ---- one value is set
set_here : (values : List Bool) (v : ℕ) (b : Bool) → v < length values → value_in (set values v b) v ≡ b
unfolding value_in
set_here values v b h = get_or-set_same values v b false h

set-elsewhere : (values : List Bool) (v w : ℕ) (b : Bool) → (w ≡ v → ⊥) → value_in (set values v b) w ≡ value_in values w
unfolding value_in
set-elsewhere values v w b h = get_or-set_other values v w b false h

-- ---- the flags
pub bit-read : (s i : ℕ) → eqb (s / 2 ^ i % 2) 1 ≡ bit s i
unfolding bit
bit-read s i = refl

pub flags-none : (n s : ℕ) (values : List Bool) → 0 < length values → FlagsSet n s 0 (set values 0 true) (set values 0 true)
flags-none n s values h = record { long = refl; top = set_here values 0 true h; flags = λ i p q. absurd (omega arith) }

pub flags-more : (n s k : ℕ) (values after : List Bool) (b : Bool) → FlagsSet n s k values after → k + 1 < length after → b ≡ bit s (n - (k + 1))
    → FlagsSet n s (k + 1) values (set after (k + 1) b)
flags-more n s k values after b f h e =
    record {
      long = length-set after (k + 1) b ∙ f.long;
      top = set-elsewhere after (k + 1) 0 b (λ q. omega arith) ∙ f.top;
      flags = λ i p q. ⊎_elim (λ (a : i ≡ k + 1). rw a (set_here after (k + 1) b h ∙ e))
          (λ (a : i ≡ k + 1 → ⊥). set-elsewhere after (k + 1) i b a ∙ f.flags i p (below i a q)) (split-eq i (k + 1));
    }
  where
    below : (i : ℕ) → (i ≡ k + 1 → ⊥) → i ≤ k + 1 → i ≤ k
    below i a q = ⊎_elim (λ (l : k < i). absurd (a (omega arith))) (λ (l : i ≤ k). l) (lt-or-ge k i)

-- ---- the other sign of the root is named too
pub triplets-negated : (n : ℕ) (xs : List ℕ) (c r u : ℕ) → Triplets n xs c r → u ≡ negation r → Triplets n xs c u
triplets-negated n xs c r u t e = record { flags = t.flags; count = t.count; shape = t.shape; named = rw (e, negation-half r) t.named }

-- ---- the triplets
module _ (n s c root : ℕ) (xs : List ℕ) (t : Triplets n xs c root) where
  -- one more triplet is set, among as many variables as there may be
  pub valued_set : (j x : ℕ) (values : List Bool) (b : Bool) → j < c → Valued n s j xs (value_in values) → x ≡ triplet_variable (suc j)
      → length values ≡ triplet_variable (suc connective_ceiling)
      → b ≡ gate (kind_at xs j) (literal_value (value_in values) (y_at xs j)) (literal_value (value_in values) (z_at xs j))
      → Valued n s (j + 1) xs (value_in (set values x b))
  valued_set j x values b h old at long e =
      let few = t.count in
      let more : Valued n s (suc j) xs (value_in (set values x b)) =
      valued-more n s c xs t.flags t.shape j (value_in values) (value_in (set values x b)) h old
      (λ u p. set-elsewhere values x u b (λ q. omega arith))
      (rw (← at) (set_here values x b (omega arith) ∙ e)) in
      rw add-one more

  -- once all triplets are set, the root has the value that they compute
  pub root-set : (values : List Bool) → Valued n s c xs (value_in values) → literal_value (value_in values) root ≡ root_value n xs c root s
  unfolding root_value
  root-set values v =
      valued-unique n s c xs (value_in values) (computed n s xs c) t.flags t.shape v (valued n s xs t.flags c t.shape) c (omega arith) root
      t.named
