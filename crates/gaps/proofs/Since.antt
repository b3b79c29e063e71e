-- What counts from a start on, and what of it a word or a row of words holds.
use Prim.Native.Nat.{ℕ, ◌+◌, ◌*◌, ◌-◌, ◌/◌, ◌^◌, ◌≤◌, ◌<◌}
use mathlib.Core.Path.{◌≡◌, sym, ap, ◌∙◌, subst}
use mathlib.Core.Bool.{Bool, true, false, not, beq}
use mathlib.Core.List.{List, [], ◌∷◌, append-nil}
use native.Mathlib.Omega.{arith}
use lib.ListN.{get_or}
use lib.Pow.{pow-add, pow_mono, shr_lt}
use lib.Dec.{T, ltb}
use borrow.Author.Tests.{lt-ltb, le-ltb}
use Rattle.ground.specs.Choice.{choose}
use Rattle.ground.specs.Bits.{bit}
use Rattle.gaps.specs.Gaps.{false_from}
use Rattle.gaps.specs.clauses.Rows.{since, words_of, LiveWord}
use Rattle.rows.proofs.Bits.{bit_shifted, bit-ones, every, every-at}
use Rattle.gaps.proofs.Ascending.{false_same, false-none, false-parts}
use Rattle.ground.proofs.Truths.{beq-eq}
use Rattle.gaps.proofs.Words.{marked}
use Rattle.rows.specs.clauses.Rows.{word_flags, all_ones}
use Rattle.truth.specs.clauses.Words.{word_bits}

pub since-on : (start : ℕ) (v : ℕ → Bool) (s : ℕ) → start ≤ s → since start v s ≡ v s
unfolding since
since-on start v s h = rw (le-ltb s start h)

pub since-off : (start : ℕ) (v : ℕ → Bool) (s : ℕ) → s < start → since start v s ≡ true
unfolding since
since-off start v s h = rw (lt-ltb s start h)

-- a stretch that starts at the start or after it
pub since-whole : (start : ℕ) (v : ℕ → Bool) (lo k : ℕ) → start ≤ lo → false_from (since start v) lo k ≡ false_from v lo k
since-whole start v lo k h = false_same (since start v) v lo k (λ s p q. since-on start v s (omega arith))

-- a stretch that ends before the start
pub since_none : (start : ℕ) (v : ℕ → Bool) (lo k : ℕ) → lo + k ≤ start → false_from (since start v) lo k ≡ []
since_none start v lo k h = false-none (since start v) lo k (λ s p q. since-off start v s (omega arith))

-- two functions that agree on a stretch
pub since-same : (start : ℕ) (v w : ℕ → Bool) (lo k : ℕ) → ((s : ℕ) → lo ≤ s → s < lo + k → v s ≡ w s)
    → false_from (since start v) lo k ≡ false_from (since start w) lo k
unfolding since
since-same start v w lo k h = false_same (since start v) (since start w) lo k (λ s p q. ap (choose (ltb s start) true) (h s p q))

-- a word of 64 digits has no bit from 64 on
high-none : (w i : ℕ) → w < 2 ^ word_bits → word_bits ≤ i → bit w i ≡ false
unfolding bit
high-none w i h b =
    let z : 0 + i ≡ i = omega arith in
    let m : w < 2 ^ (0 + i) = rw z (omega (arith, pow_mono {i = word_bits} {j = i} b)) in
    let e : w / 2 ^ i ≡ 0 = omega (arith, shr_lt 0 i m) in
    rw e

-- a word that the start cuts
pub since-cut : (start word base : ℕ) → word < 2 ^ word_bits → base < start → start - base < word_bits
    → false_from (since start (marked word base)) base word_bits ≡ false_from (marked (word / 2 ^ (start - base)) start) start word_bits
since-cut start word base h b c =
    let k : ℕ = start - base in
    let v : ℕ → Bool = marked word base in
    let w : ℕ → Bool = marked (word / 2 ^ k) start in
    let e : word_bits ≡ k + (word_bits - k) = omega arith in
    let f : word_bits ≡ (word_bits - k) + k = omega arith in
    let g : base + k ≡ start = omega arith in
    let left : false_from (since start v) base word_bits ≡ false_from v start (word_bits - k) =
    ap (false_from (since start v) base) e ∙ false-parts (since start v) base k (word_bits - k)
    ∙ (rw (since_none start v base k (omega arith), g) (since-whole start v start (word_bits - k) (omega arith))) in
    let right : false_from w start word_bits ≡ false_from w start (word_bits - k) =
    ap (false_from w start) f ∙ false-parts w start (word_bits - k) k
    ∙ (rw (false-none w (start + (word_bits - k)) k (λ s p q. ap not (bit_shifted word k (s - start) ∙ high-none word (k + (s - start)) h (omega arith))))
    (append-nil (false_from w start (word_bits - k)))) in
    left ∙ false_same v w start (word_bits - k) (λ s p q. ap not (along s p)) ∙ sym right
  where
    along : (s : ℕ) → start ≤ s → bit word (s - base) ≡ bit (word / 2 ^ (start - base)) (s - start)
    along s p =
        let i : s - base ≡ (start - base) + (s - start) = omega arith in
        ap (bit word) i ∙ sym (bit_shifted word (start - base) (s - start))

-- the bits below 2^n, for n below 6
abbrev pub few : List ℕ
few = 1 ∷ 3 ∷ 15 ∷ 255 ∷ 65535 ∷ 4294967295 ∷ []

few-right : T (every (λ n. every (λ b. beq (bit (get_or few n 0) b) (ltb b (2 ^ n))) word_bits) word_flags)
unfolding every bit
few-right = tt

few-bit : (n b : ℕ) → n < word_flags → b < word_bits → bit (get_or few n 0) b ≡ ltb b (2 ^ n)
few-bit n b h i =
    beq-eq (bit (get_or few n 0) b) (ltb b (2 ^ n))
    (every-at (λ u. beq (bit (get_or few n 0) u) (ltb u (2 ^ n))) word_bits
    (subst T (sym (every-at (λ m. every (λ u. beq (bit (get_or few m 0) u) (ltb u (2 ^ m))) word_bits) word_flags few-right n h)) tt) b i)

pub words-few : (n : ℕ) → n < word_flags → words_of n ≡ 1
unfolding words_of
words-few n h = rw (lt-ltb n word_flags h)

pub words-many : (n : ℕ) → word_flags ≤ n → words_of n ≡ 2 ^ (n - word_flags)
unfolding words_of
words-many n h = rw (le-ltb n word_flags h)

-- from 6 flags on the words hold the states exactly
pub words-exact : (n : ℕ) → word_flags ≤ n → word_bits * words_of n ≡ 2 ^ n
words-exact n h =
    let e : n ≡ word_flags + (n - word_flags) = omega arith in
    rw (words-many n h) (sym (ap (λ u. 2 ^ u) e ∙ pow-add 2 word_flags (n - word_flags)))

pub live-few : (n : ℕ) → n < word_flags → LiveWord n (get_or few n 0)
live-few n h w b p q =
    let z : w ≡ 0 = omega (arith, rw (words-few n h) at p) in
    let e : word_bits * w + b ≡ b = omega arith in
    rw e (few-bit n b h q)

pub live_all : (n : ℕ) → word_flags ≤ n → LiveWord n all_ones
live_all n h w b p q = bit-ones b q ∙ sym (lt-ltb (word_bits * w + b) (2 ^ n) (omega (arith, words-exact n h)))
