-- The states that the set bits of a word stand for, from the lowest on.
use Prim.Native.Nat.{ℕ, suc, ◌+◌, ◌-◌, ◌/◌, ◌^◌, ◌≤◌, ◌<◌}
use mathlib.Core.Path.{◌≡◌, sym, ap, ◌∙◌}
use mathlib.Core.Bool.{Bool, false, not}
use mathlib.Core.List.{List, [], ◌∷◌}
use native.Mathlib.Omega.{arith}
use lib.Count.{count_trailing_zeros}
use lib.Pow.{shr-shr, shr_lt}
use lib.ListN.{length, set, length-set}
use Rattle.gaps.specs.declared.writing.Found.{Found}
use Rattle.gaps.specs.declared.writing.Found.TheVariants.{Done, More}
use Rattle.gaps.specs.clauses.Rows.{Writes}
use Rattle.gaps.proofs.Written.{writes-none, writes_one, writes-full}
use Rattle.ground.specs.Bits.{bit}
use Rattle.gaps.specs.Gaps.{false_from}
use Rattle.rows.proofs.Bits.{bit_shifted, bit-halved, bit-none, Lowest, lowest, lowest-found}
use Rattle.gaps.proofs.Ascending.{false-one, false_same, false-none, false-parts}
use Rattle.truth.specs.clauses.Words.{word_bits}

-- the word stands for the states from `from` on
abbrev pub marked : ℕ → ℕ → ℕ → Bool
marked w from s = not (bit w (s - from))

-- no bit is set
pub word_none : (w from k : ℕ) → w ≡ 0 → false_from (marked w from) from k ≡ []
word_none w from k e = false-none (marked w from) from k (λ s p q. rw e (ap not (bit-none (s - from))))

-- the lowest bit that is set, and then those above it
pub word_next : (w from j k t : ℕ) → Lowest w word_bits t → t < word_bits → j ≡ t + suc k
    → false_from (marked w from) from j ≡ (from + t) ∷ false_from (marked (w / 2 ^ t / 2) (from + t + 1)) (from + t + 1) k
word_next w from j k t l h e =
    let v : ℕ → Bool = marked w from in
    let none : false_from v from t ≡ [] = false-none v from t (λ s p q. ap not (l.below (s - from) (omega arith))) in
    let i : from + t - from ≡ t = omega arith in
    let here : v (from + t) ≡ false = rw i (ap not (l.here h)) in
    let f : from + t + 1 ≡ suc (from + t) = omega arith in
    rw (e, false-parts v from t (suc k), none, false-one v (from + t) k here, f)
    (ap (λ r. (from + t) ∷ r) (false_same v (marked (w / 2 ^ t / 2) (suc (from + t))) (suc (from + t)) k (λ s p q. ap not (above s p))))
  where
    above : (s : ℕ) → suc (from + t) ≤ s → bit w (s - from) ≡ bit (w / 2 ^ t / 2) (s - suc (from + t))
    above s p =
        let i : s - from ≡ t + suc (s - suc (from + t)) = omega arith in
        rw i (sym (bit-halved (w / 2 ^ t) (s - suc (from + t)) ∙ bit_shifted w t (suc (s - suc (from + t)))))

-- a word of which the states below `at` are written: whatever is written of the rest is what the whole word asks
pub record Rest (word base from : ℕ) (out₀ out : List ℕ) (rest at m : ℕ) : Type 0 where
  pub same : length out ≡ length out₀
  pub room : m ≤ length out
  pub lower : base ≤ at
  pub upper : at ≤ base + word_bits
  pub small : rest < 2 ^ (base + word_bits - at)
  pub go : (r : Found) (after : List ℕ) → Writes out m (false_from (marked rest at) at (base + word_bits - at)) r after
      → Writes out₀ from (false_from (marked word base) base word_bits) r after

module _ (word base from : ℕ) (out₀ out : List ℕ) (rest at m : ℕ) (i : Rest word base from out₀ out rest at m) where
  pub rest-done : rest ≡ 0 → Writes out₀ from (false_from (marked word base) base word_bits) (Done m) out
  rest-done e = i.go (Done m) out (rw (word_none rest at (base + word_bits - at) e) (writes-none out m i.room))

  module _ (n : rest ≡ 0 → ⊥) where
    -- the lowest bit lies within the word
    pub rest-within : at + count_trailing_zeros word_bits rest < base + word_bits
    rest-within = omega (arith, lowest-found (base + word_bits - at) word_bits rest (omega (arith, i.lower)) i.small n, i.upper)

    rest-next : false_from (marked rest at) at (base + word_bits - at)
        ≡ (at + count_trailing_zeros word_bits rest) ∷ false_from (marked (rest / 2 ^ count_trailing_zeros word_bits rest / 2) (at +
        count_trailing_zeros word_bits rest + 1))
        (at + count_trailing_zeros word_bits rest + 1) (base + word_bits - (at + count_trailing_zeros word_bits rest + 1))
    rest-next =
        word_next rest at (base + word_bits - at) (base + word_bits - (at + count_trailing_zeros word_bits rest + 1))
        (count_trailing_zeros word_bits rest) (lowest word_bits rest)
        (omega (arith, rest-within, i.lower)) (omega (arith, rest-within, i.upper))

    pub rest-full : m ≡ length out → Writes out₀ from (false_from (marked word base) base word_bits) (More m (at + count_trailing_zeros word_bits rest)) out
    rest-full e = i.go (More m (at + count_trailing_zeros word_bits rest)) out (rw rest-next (writes-full out m (at + count_trailing_zeros word_bits rest) _ e))

    rest-smaller : rest / 2 ^ count_trailing_zeros word_bits rest / 2 < 2 ^ (base + word_bits - (at + count_trailing_zeros word_bits rest + 1))
    rest-smaller =
        let t : ℕ = count_trailing_zeros word_bits rest in
        let e : base + word_bits - at ≡ base + word_bits - (at + t + 1) + (t + 1) = omega (arith, rest-within, i.upper) in
        rw (shr-shr rest t 1) (shr_lt (base + word_bits - (at + t + 1)) (t + 1) (rw e at i.small))

    pub rest_more : (m ≡ length out → ⊥) → Rest word base from out₀ (set out m (at + count_trailing_zeros word_bits rest))
        (rest / 2 ^ count_trailing_zeros word_bits rest / 2) (at + count_trailing_zeros word_bits rest + 1) (m + 1)
    rest_more f =
        let t : ℕ = count_trailing_zeros word_bits rest in
        let h : m < length out = omega (arith, i.room) in
        let l : length (set out m (at + t)) ≡ length out = length-set out m (at + t) in
        record {
          same = l ∙ i.same;
          room = omega arith;
          lower = omega (arith, i.lower);
          upper = omega (arith, rest-within);
          small = rest-smaller;
          go = λ r after w. i.go r after (rw rest-next (writes_one out m (at + t) _ r after h w));
        }
