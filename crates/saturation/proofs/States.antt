-- The flags of a state, as bits and as literals: those of its first flags are those of a shorter state.
use Prim.Native.Nat.{ℕ, zero, suc, ◌+◌, ◌*◌, ◌-◌, ◌/◌, ◌%◌, ◌^◌, ◌≤◌, ◌<◌}
use mathlib.Core.Path.{◌≡◌, refl, ap, ◌∙◌}
use mathlib.Core.Bool.{Bool, true, not}
use mathlib.Core.List.{List, [], ◌∷◌}
use mathlib.Core.Logic.{⊎_elim}
use native.Mathlib.Omega.{arith}
use native.Mathlib.Nat.{div-one}
use lib.Dec.{eqb}
use lib.Pow.{shr-shr}
use Rattle.notation.specs.Triplets.{negation}
use Rattle.relation.specs.Relation.{Rel, IsRelation, Within}
use Rattle.ground.specs.Bits.{bit}
use Rattle.truth.specs.clauses.Computed.{literal_value}
use Rattle.truth.proofs.Literals.{literal-even, literal-odd}
use Rattle.ground.proofs.Cases.{split-eq, parity}
use Rattle.saturation.specs.Answer.{flag_as, flags_as}
use Rattle.saturation.proofs.Taking.{HoldsAll}
use Rattle.saturation.proofs.Truth.{AllTrue}
use Rattle.saturation.proofs.Fixed.{literal_for}

-- the state of the first i of n flags
abbrev pub first_of : ℕ → ℕ → ℕ → ℕ
first_of n s i = s / 2 ^ (n - i)

pub first-all : (n s : ℕ) → first_of n s n ≡ s
first-all n s = let e : n - n ≡ 0 = omega arith in rw e (div-one s)

-- no bit is both
pub not-both : (b : ℕ) → b ≡ 1 → b ≡ 0 → ⊥
not-both b p q = omega arith

-- one flag less is half the state
pub first-half : (n s i : ℕ) → suc i ≤ n → first_of n s (suc i) / 2 ≡ first_of n s i
first-half n s i h =
    let e : n - suc i + 1 ≡ n - i = omega arith in
    rw e at (shr-shr s (n - suc i) 1)

-- the last of the first flags is the lowest bit
pub first_bit : (n s i : ℕ) → bit s (n - i) ≡ eqb (first_of n s i % 2) 1
unfolding bit
first_bit n s i = refl

-- the literals of the first flags of a state are true in it
module _ (n s : ℕ) (v : ℕ → Bool) (flags : (i : ℕ) → 0 < i → i ≤ n → v i ≡ bit s (n - i)) where
  flag_true : (i : ℕ) → suc i ≤ n → literal_value v (flag_as (suc i) (first_of n s (suc i) % 2)) ≡ true
  flag_true i h =
      ⊎_elim
      (λ (p : first_of n s (suc i) % 2 ≡ 0).
      rw p
      (literal-odd v (2 * suc i + 1) (suc i) refl
      ∙ ap not (flags (suc i) (omega arith) h ∙ first_bit n s (suc i) ∙ ap (λ (b : ℕ). eqb b 1) p)))
      (λ (p : first_of n s (suc i) % 2 ≡ 1).
      rw p
      (literal-even v (2 * suc i) (suc i) refl
      ∙ flags (suc i) (omega arith) h ∙ first_bit n s (suc i) ∙ ap (λ (b : ℕ). eqb b 1) p))
      (parity (first_of n s (suc i)))

  pub first-true : (i : ℕ) → i ≤ n → AllTrue v (flags_as i (first_of n s i))
  unfolding flags_as
  first-true zero h = tt
  first-true (suc i) h = (flag_true i h, rw (first-half n s i h) (first-true i (omega arith)))

-- what holds a flag's literal as true ties the flag
pub flag-tied : (A : Rel) → IsRelation A → (i b : ℕ) → b < 2 → A (flag_as i b) 0 ≡ true → A (2 * i) (literal_for (eqb b 1)) ≡ true
unfolding negation
flag-tied A relation i zero h e =
    let p : 2 * ((2 * i + 1) / 2) + (2 * i + 1 + 1) % 2 ≡ 2 * i = omega arith in
    rw p at (relation.negating (2 * i + 1) 0 e)
flag-tied A relation i (suc zero) h e = e
flag-tied A relation i (suc (suc b)) h e = absurd (omega arith)

-- what holds the literals of a state ties each flag to its bit
module _ (n s : ℕ) (A : Rel) (relation : IsRelation A) where
  pub first-tied : (i : ℕ) → i ≤ n → HoldsAll A (flags_as i (first_of n s i)) → (j : ℕ) → 0 < j → j ≤ i → A (2 * j)
      (literal_for (bit s (n - j))) ≡ true
  unfolding flags_as
  first-tied zero h e j p q = absurd (omega arith)
  first-tied (suc i) h e j p q =
      ⊎_elim
      (λ (d : j ≡ suc i).
      rw (d, first_bit n s (suc i)) (flag-tied A relation (suc i) (first_of n s (suc i) % 2) (omega arith) e.0))
      (λ (d : j ≡ suc i → ⊥).
      first-tied i (omega arith) (rw (first-half n s i h) at e.1) j p (omega arith))
      (split-eq j (suc i))

pub holds_more : (A B : Rel) (ls : List ℕ) → Within A B → HoldsAll A ls → HoldsAll B ls
holds_more A B [] w h = tt
holds_more A B (l ∷ ls) w h = (w l 0 h.0, holds_more A B ls w h.1)
