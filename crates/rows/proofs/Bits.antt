-- Bit i of a word, as a Bool: of a shifted word, of two words joined, of a word that is all ones or zero, and the lowest one that is set.
use Prim.Native.Nat.{ℕ, zero, suc, ◌+◌, ◌*◌, ◌/◌, ◌%◌, ◌^◌, ◌≤◌, ◌<◌, min, max}
use mathlib.Core.Path.{◌≡◌, refl, sym, ◌∙◌}
use mathlib.Core.Bool.{Bool, true, false, not, ◌&&◌, ◌||◌}
use mathlib.Core.Logic.{⊎_elim}
use native.Mathlib.Omega.{arith}
use native.Mathlib.Nat.{pow-suc, zero-div, eq-or-lt_of_le, le_of_suc-le-suc}
use lib.Dec.{T, eqb}
use lib.Pow.{shr-shr}
use lib.Bits.{bit_and, bit_or, bit_xor, differ, and_shr, and_step, or_shr, xor_shr, or_step, xor_step}
use lib.Count.{count_trailing_zeros}
use Rattle.truth.specs.Connectives.{table}
use Rattle.ground.specs.Bits.{bit}
use Rattle.notation.specs.Tokens.{same}
use Rattle.ground.proofs.Cases.{digit, parity}
use Rattle.rows.specs.clauses.Rows.{all_ones}
use Rattle.truth.specs.clauses.Words.{word_bits}

-- bit i of a shifted word is bit a + i of the word
pub bit_shifted : (w a i : ℕ) → bit (w / 2 ^ a) i ≡ bit w (a + i)
unfolding bit
bit_shifted w a i = rw (shr-shr w a i)

pub bit-halved : (w i : ℕ) → bit (w / 2) i ≡ bit w (suc i)
bit-halved w i = let e : suc i ≡ 1 + i = omega arith in rw e (bit_shifted w 1 i)

-- what holds of the four pairs of digits holds of every pair
digits : (P : ℕ → ℕ → Type 0) → P 0 0 → P 0 1 → P 1 0 → P 1 1 → (a b : ℕ) → a < 2 → b < 2 → P a b
digits P nn ny yn yy a b p q =
    ⊎_elim
    (λ (x : a ≡ 0). rw x (⊎_elim (λ (y : b ≡ 0). rw y nn) (λ (y : b ≡ 1). rw y ny) (digit b q)))
    (λ (x : a ≡ 1). rw x (⊎_elim (λ (y : b ≡ 0). rw y yn) (λ (y : b ≡ 1). rw y yy) (digit b q)))
    (digit a p)

-- the lowest digits of two words, joined
or-digit : (a b : ℕ) → a < 2 → b < 2 → eqb (max a b) 1 ≡ (eqb a 1 || eqb b 1)
or-digit = digits (λ a b. eqb (max a b) 1 ≡ (eqb a 1 || eqb b 1)) refl refl refl refl

xor-digit : (a b : ℕ) → a < 2 → b < 2 → eqb (differ a b) 1 ≡ not (table same (eqb a 1) (eqb b 1))
unfolding table
xor-digit = digits (λ a b. eqb (differ a b) 1 ≡ not (table same (eqb a 1) (eqb b 1))) refl refl refl refl

or-lowest : (a b : ℕ) → bit_or a b % 2 ≡ max (a % 2) (b % 2)
or-lowest a b =
    let p : a % 2 < 2 = omega arith in
    let q : b % 2 < 2 = omega arith in
    rw or_step (omega arith)

xor-small : (a b : ℕ) → a < 2 → b < 2 → differ a b < 2
xor-small = digits (λ a b. differ a b < 2) (omega arith) (omega arith) (omega arith) (omega arith)

xor-lowest : (a b : ℕ) → bit_xor a b % 2 ≡ differ (a % 2) (b % 2)
xor-lowest a b =
    let p : differ (a % 2) (b % 2) < 2 = xor-small (a % 2) (b % 2) (omega arith) (omega arith) in
    rw xor_step (omega arith)

pub bit-or : (a b i : ℕ) → bit (bit_or a b) i ≡ (bit a i || bit b i)
unfolding bit
bit-or a b i = rw (or_shr a b i, or-lowest (a / 2 ^ i) (b / 2 ^ i)) (or-digit (a / 2 ^ i % 2) (b / 2 ^ i % 2) (omega arith) (omega arith))

and-digit : (a b : ℕ) → a < 2 → b < 2 → eqb (min a b) 1 ≡ (eqb a 1 && eqb b 1)
and-digit = digits (λ a b. eqb (min a b) 1 ≡ (eqb a 1 && eqb b 1)) refl refl refl refl

and-lowest : (a b : ℕ) → bit_and a b % 2 ≡ min (a % 2) (b % 2)
and-lowest a b =
    let p : a % 2 < 2 = omega arith in
    let q : b % 2 < 2 = omega arith in
    rw and_step (omega arith)

pub bit-and : (a b i : ℕ) → bit (bit_and a b) i ≡ (bit a i && bit b i)
unfolding bit
bit-and a b i = rw (and_shr a b i, and-lowest (a / 2 ^ i) (b / 2 ^ i)) (and-digit (a / 2 ^ i % 2) (b / 2 ^ i % 2) (omega arith) (omega arith))

-- the bits of two words differ
pub bit-xor : (a b i : ℕ) → bit (bit_xor a b) i ≡ not (table same (bit a i) (bit b i))
unfolding bit
bit-xor a b i = rw (xor_shr a b i, xor-lowest (a / 2 ^ i) (b / 2 ^ i)) (xor-digit (a / 2 ^ i % 2) (b / 2 ^ i % 2) (omega arith) (omega arith))

-- the lowest set bit: none below it is set, and it is where it lies within the k digits
pub record Lowest (w k t : ℕ) : Type 0 where
  pub below : (i : ℕ) → i < t → bit w i ≡ false
  pub here : t < k → bit w t ≡ true
  pub within : t ≤ k

bit-zero : (w : ℕ) → bit w 0 ≡ eqb (w % 2) 1
unfolding bit
bit-zero w = let e : w / 1 ≡ w = omega arith in rw e

lowest-even : (w k t : ℕ) → w % 2 ≡ 0 → Lowest (w / 2) k t → Lowest w (suc k) (suc t)
lowest-even w k t e l =
    record { below = λ i h. under-it i h; here = λ h. sym (bit-halved w t) ∙ l.here (omega arith); within = omega (arith, l.within) }
  where
    under-it : (i : ℕ) → i < suc t → bit w i ≡ false
    under-it zero h = bit-zero w ∙ (rw e)
    under-it (suc i) h = sym (bit-halved w i) ∙ l.below i (omega arith)

lowest-odd : (w k : ℕ) → w % 2 ≡ 1 → Lowest w (suc k) 0
lowest-odd w k e = record { below = λ i h. absurd (omega arith); here = λ h. bit-zero w ∙ (rw e); within = omega arith }

pub lowest : (k w : ℕ) → Lowest w k (count_trailing_zeros k w)
unfolding count_trailing_zeros
lowest zero w = record { below = λ i h. absurd (omega arith); here = λ h. absurd (omega arith); within = omega arith }
lowest (suc k) w =
    ⊎_elim
    (λ (e : w % 2 ≡ 0). rw e (lowest-even w k (count_trailing_zeros k (w / 2)) e (lowest k (w / 2))))
    (λ (e : w % 2 ≡ 1). rw e (lowest-odd w k e))
    (parity w)

-- a word of j digits that is not 0 has a set bit among them
pub lowest-found : (j k w : ℕ) → j ≤ k → w < 2 ^ j → (w ≡ 0 → ⊥) → count_trailing_zeros k w < j
unfolding count_trailing_zeros
lowest-found zero k w l h n = absurd (n (omega arith))
lowest-found (suc j) zero w l h n = absurd (omega arith)
lowest-found (suc j) (suc k) w l h n =
    let p : w < 2 ^ j * 2 = rw pow-suc at h in
    ⊎_elim
    (λ (e : w % 2 ≡ 0). rw e (omega (arith, lowest-found j k (w / 2) (omega arith) (omega arith) (λ z. n (omega arith)))))
    (λ (e : w % 2 ≡ 1). rw e (omega arith))
    (parity w)

-- no bit of 0 is set
pub bit-none : (i : ℕ) → bit 0 i ≡ false
unfolding bit
bit-none i = rw zero-div

-- a test of every number below k
unfoldable pub every : (ℕ → Bool) → ℕ → Bool
every p zero = true
every p (suc k) = elim (p k) [ true ↦ every p k | false ↦ false ]

every-step : (p : ℕ → Bool) (k : ℕ) → T (every p (suc k)) → (p k ≡ true) × T (every p k)
unfolding every
every-step p k t = go (p k) refl t
  where
    go : (b : Bool) → p k ≡ b → T (elim b [ true ↦ every p k | false ↦ false ]) → (p k ≡ true) × T (every p k)
    go true e u = (e, u)
    go false e u = absurd u

-- what a test of every number below k computed holds of each
pub every-at : (p : ℕ → Bool) (k : ℕ) → T (every p k) → (i : ℕ) → i < k → p i ≡ true
every-at p zero t i h = absurd (omega arith)
every-at p (suc k) t i h =
    let s = every-step p k t in
    ⊎_elim
    (λ (e : i ≡ k). rw e s.0)
    (λ (l : i < k). every-at p k s.1 i l)
    (eq-or-lt_of_le (le_of_suc-le-suc h))

ones-all : T (every (λ k. bit all_ones k) word_bits)
unfolding every bit
ones-all = tt

-- every bit of the word of all ones is set
pub bit-ones : (i : ℕ) → i < word_bits → bit all_ones i ≡ true
bit-ones i h = every-at (λ k. bit all_ones k) word_bits ones-all i h
