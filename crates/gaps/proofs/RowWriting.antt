-- Writing a row: word by word, the states in which a literal is false.
use Prim.Native.Nat.{ℕ, ◌+◌, ◌*◌, ◌-◌, ◌/◌, ◌%◌, ◌^◌, ◌≤◌, ◌<◌}
use mathlib.Core.Path.{◌≡◌, refl, ap, ◌∙◌}
use mathlib.Core.Bool.{Bool, true, false, not, ◌&&◌, not-not, and-true, and-false}
use mathlib.Core.List.{List, ◌++◌, append-nil}
use mathlib.Core.Logic.{⊎_elim}
use native.Mathlib.Omega.{arith}
use lib.ListN.{length, take, get_or}
use lib.Pow.{pow_mono, pow_pos}
use lib.Bits.{bit_and, bit_xor}
use lib.Dec.{eqb, ltb}
use borrow.Author.Tests.{lt-ltb, le-ltb, ltb-true, ltb-false}
use Rattle.ground.specs.Choice.{choose}
use Rattle.ground.specs.Bits.{bit}
use Rattle.truth.specs.clauses.Computed.{literal_value}
use Rattle.gaps.specs.declared.writing.Found.{Found}
use Rattle.gaps.specs.declared.writing.Found.TheVariants.{Done, More}
use Rattle.gaps.specs.Gaps.{false_from}
use Rattle.rows.specs.clauses.Rows.{word_flags, in_row, turned}
use Rattle.truth.specs.clauses.Words.{word_bits}
use Rattle.gaps.specs.clauses.Rows.{Writes, since, words_of, LiveWord}
use Rattle.rows.proofs.Bits.{bit-and}
use Rattle.rows.proofs.Gates.{turned-other}
use Rattle.gaps.proofs.Ascending.{false-none, false-parts}
use Rattle.gaps.proofs.Since.{since-same, words-few, words-exact}
use Rattle.gaps.proofs.Words.{marked}
use Rattle.ground.proofs.Cases.{either}
use Rattle.gaps.proofs.Written.{found-done, writes-none, writes_then, writes-stop}

-- a stretch of which the first j numbers are written: whatever is written of the rest is what the whole asks
pub record Stretch (v : ℕ → Bool) (base len from : ℕ) (out₀ out : List ℕ) (j m : ℕ) : Type 0 where
  pub same : length out ≡ length out₀
  pub room : m ≤ length out
  pub within : j ≤ len
  pub go : (r : Found) (after : List ℕ) → Writes out m (false_from v (base + j) (len - j)) r after → Writes out₀ from (false_from v base len) r after

module _ (v : ℕ → Bool) (base len from : ℕ) (out₀ out : List ℕ) (j m : ℕ) (i : Stretch v base len from out₀ out j m) where
  stretch-parts : (d : ℕ) → j + d ≤ len → false_from v (base + j) (len - j) ≡ false_from v (base + j) d ++ false_from v (base + (j + d)) (len - (j + d))
  stretch-parts d h =
      let e : len - j ≡ d + (len - (j + d)) = omega arith in
      let f : base + j + d ≡ base + (j + d) = omega arith in
      ap (false_from v (base + j)) e ∙ false-parts v (base + j) d (len - (j + d)) ∙ (rw f)

  pub stretch-more : (d k : ℕ) (r : Found) (after : List ℕ) → r ≡ Done k → j + d ≤ len → length after ≡ length out → Writes out m
      (false_from v (base + j) d) r after
      → Stretch v base len from out₀ after (j + d) k
  stretch-more d k r after e h l u =
      let w : Writes out m (false_from v (base + j) d) (Done k) after = rw e at u in
      record {
        same = l ∙ i.same;
        room = rw l (done-room out m (false_from v (base + j) d) k after w);
        within = h;
        go = λ q end x. i.go q end (rw (stretch-parts d h) (writes_then out after end m k (false_from v (base + j) d)
            (false_from v (base + (j + d)) (len - (j + d))) q w x));
      }
    where
      done-room : (o : List ℕ) (m : ℕ) (l : List ℕ) (k : ℕ) (o' : List ℕ) → Writes o m l (Done k) o' → k ≤ length o
      done-room o m l k o' w = let d = found-done o (take m o ++ l) k w.answers in omega (arith, d.0, d.1)

  pub stretch-stop : (d k x : ℕ) (r : Found) (after : List ℕ) → r ≡ More k x → j + d ≤ len → Writes out m (false_from v (base + j) d) r after
      → Writes out₀ from (false_from v base len) r after
  stretch-stop d k x r after e h u =
      let w : Writes out m (false_from v (base + j) d) (More k x) after = rw e at u in
      rw e
      (i.go (More k x) after (rw (stretch-parts d h) (writes-stop out after m k x (false_from v (base + j) d) (false_from v (base + (j + d)) (len - (j + d)))
      w)))

  pub stretch-done : len ≤ j → Writes out₀ from (false_from v base len) (Done m) out
  stretch-done h =
      let e : len - j ≡ 0 = omega arith in
      i.go (Done m) out (rw (e, false-none v (base + j) 0 (λ s p q. absurd (omega arith))) (writes-none out m i.room))

-- the states of n flags hold the value of a literal, as its row has it; what lies behind them does not count
unfoldable pub row_value : List ℕ → ℕ → ℕ → ℕ → ℕ → ℕ → Bool
row_value rows root n width base s = choose (ltb (s - base) (2 ^ n)) (literal_value (in_row rows width (s - base)) root) true

dead : (l b : Bool) → not (not l && b) ≡ choose b l true
dead l true = ap not (and-true (not l)) ∙ not-not l
dead l false = ap not (and-false (not l))

literal-in-row : (rows : List ℕ) (root width w i : ℕ) → i < word_bits
    → literal_value (in_row rows width (word_bits * w + i)) root
    ≡ choose (eqb (root % 2) 0) (bit (get_or rows (root / 2 * width + w) 0) i) (not (bit (get_or rows (root / 2 * width + w) 0) i))
unfolding literal_value in_row
literal-in-row rows root width w i h =
    let e : (word_bits * w + i) / word_bits ≡ w = omega arith in
    let f : (word_bits * w + i) % word_bits ≡ i = omega arith in
    rw (e, f)

module _ (rows : List ℕ) (root n width base start : ℕ) where
  -- a word of the row, turned and cut to what is live, stands for the states in which the literal is false
  pub row_word : (w t live : ℕ) → t ≡ turned (root + 1) → LiveWord n live → w < words_of n
      → false_from (since start (marked (bit_and (bit_xor (get_or rows (root / 2 * width + w) 0) t) live) (base + word_bits * w)))
      (base + word_bits * w) word_bits
      ≡ false_from (since start (row_value rows root n width base)) (base + word_bits * w) word_bits
  unfolding row_value
  row_word w t live e l h =
      since-same start _ _ (base + word_bits * w) word_bits (λ s p q. at s p q)
    where
      at : (s : ℕ) → base + word_bits * w ≤ s → s < base + word_bits * w + word_bits
          → marked (bit_and (bit_xor (get_or rows (root / 2 * width + w) 0) t) live) (base + word_bits * w) s ≡ choose (ltb (s - base) (2 ^ n))
          (literal_value (in_row rows width (s - base)) root) true
      at s p q =
          let i : ℕ = s - (base + word_bits * w) in
          let b : i < word_bits = omega arith in
          let f : s - base ≡ word_bits * w + i = omega arith in
          rw (
            f,
            bit-and (bit_xor (get_or rows (root / 2 * width + w) 0) t) live i,
            l w i h b,
            e,
            turned-other root (get_or rows (root / 2 * width + w) 0) i b,
            literal-in-row rows root width w i b,
          )
          (dead (choose (eqb (root % 2) 0) (bit (get_or rows (root / 2 * width + w) 0) i) (not (bit (get_or rows (root / 2 * width + w) 0) i)))
          (ltb (word_bits * w + i) (2 ^ n)))

  words-enough : 2 ^ n ≤ word_bits * words_of n
  words-enough =
      ⊎_elim
      (λ (b : ltb n word_flags ≡ true). let h : n < word_flags = ltb-true n word_flags b in rw (words-few n h)
      (omega (arith, pow_mono {i = n} {j = word_flags} (omega arith))))
      (λ (b : ltb n word_flags ≡ false). omega (arith, words-exact n (ltb-false n word_flags b)))
      (either (ltb n word_flags))

  pub words-within : 2 ^ n ≤ word_bits * width → words_of n ≤ width
  words-within h =
      ⊎_elim
      (λ (b : ltb n word_flags ≡ true). rw (words-few n (ltb-true n word_flags b)) (omega (arith, pow_pos n)))
      (λ (b : ltb n word_flags ≡ false). omega (arith, words-exact n (ltb-false n word_flags b)))
      (either (ltb n word_flags))

  row-live : (s : ℕ) → s - base < 2 ^ n → row_value rows root n width base s ≡ literal_value (in_row rows width (s - base)) root
  unfolding row_value
  row-live s h = rw (lt-ltb (s - base) (2 ^ n) h)

  row-dead : (s : ℕ) → 2 ^ n ≤ s - base → since start (row_value rows root n width base) s ≡ true
  unfolding row_value since
  row-dead s h = rw (le-ltb (s - base) (2 ^ n) h) (always (ltb s start))
    where
      always : (b : Bool) → choose b true true ≡ true
      always true = refl
      always false = refl

  -- the words hold the states of n flags
  pub row-whole : false_from (since start (row_value rows root n width base)) base (word_bits * words_of n)
      ≡ false_from (since start (λ s. literal_value (in_row rows width (s - base)) root)) base (2 ^ n)
  row-whole =
      let v : ℕ → Bool = since start (row_value rows root n width base) in
      let h : 2 ^ n ≤ word_bits * words_of n = words-enough in
      let e : word_bits * words_of n ≡ 2 ^ n + (word_bits * words_of n - 2 ^ n) = omega arith in
      ap (false_from v base) e ∙ false-parts v base (2 ^ n) (word_bits * words_of n - 2 ^ n)
      ∙ (rw (false-none v (base + 2 ^ n) (word_bits * words_of n - 2 ^ n) (λ s p q. row-dead s (omega arith))) (append-nil (false_from v base (2 ^ n))))
      ∙ since-same start (row_value rows root n width base) (λ s. literal_value (in_row rows width (s - base)) root) base (2 ^ n)
      (λ s p q. row-live s (omega arith))
