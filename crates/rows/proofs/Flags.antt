-- The rows of flags: bit p of each of the 64 states of a word.
use Prim.Native.Nat.{ℕ, zero, suc, ◌+◌, ◌*◌, ◌-◌, ◌/◌, ◌%◌, ◌≤◌, ◌<◌}
use mathlib.Core.Path.{◌≡◌, refl, sym, ap, ◌∙◌, subst}
use mathlib.Core.Bool.{true, false, beq}
use mathlib.Core.List.{List, [], ◌∷◌}
use mathlib.Core.Logic.{⊎_elim}
use native.Mathlib.Omega.{arith}
use native.Mathlib.Nat.{eq-or-lt_of_le}
use lib.ListN.{length, get_or}
use lib.Arith.{digits_lt}
use lib.Dec.{T}
use Rattle.ground.specs.Bits.{bit}
use Rattle.rows.specs.clauses.Rows.{word_flags, all_ones, in_row, WordOf, RowMade}
use Rattle.truth.specs.clauses.Words.{word_bits}
use Rattle.rows.proofs.Bits.{bit_shifted, bit-none, bit-ones, every, every-at}
use Rattle.ground.proofs.Truths.{beq-eq}

-- bit p of the numbers 0 to 63, for each p below 6
abbrev pub low : List ℕ
low = 0xAAAAAAAAAAAAAAAA ∷ 0xCCCCCCCCCCCCCCCC ∷ 0xF0F0F0F0F0F0F0F0 ∷ 0xFF00FF00FF00FF00 ∷ 0xFFFF0000FFFF0000 ∷ 0xFFFFFFFF00000000 ∷ []

low-right : T (every (λ p. every (λ b. beq (bit (get_or low p 0) b) (bit b p)) word_bits) word_flags)
unfolding every bit
low-right = tt

low_bit : (p b : ℕ) → p < word_flags → b < word_bits → bit (get_or low p 0) b ≡ bit b p
low_bit p b h i =
    beq-eq (bit (get_or low p 0) b) (bit b p)
    (every-at (λ u. beq (bit (get_or low p 0) u) (bit u p)) word_bits
    (subst T (sym (every-at (λ q. every (λ u. beq (bit (get_or low q 0) u) (bit u q)) word_bits) word_flags low-right p h)) tt) b i)

-- below 6 the word's number makes no difference
inside : (p w b : ℕ) → p < word_flags → bit (word_bits * w + b) p ≡ bit b p
unfolding bit
inside zero w b h = let e : (word_bits * w + b) / 1 % 2 ≡ b / 1 % 2 = omega arith in rw e
inside (suc zero) w b h = let e : (word_bits * w + b) / 2 % 2 ≡ b / 2 % 2 = omega arith in rw e
inside (suc (suc zero)) w b h = let e : (word_bits * w + b) / 4 % 2 ≡ b / 4 % 2 = omega arith in rw e
inside (suc (suc (suc zero))) w b h = let e : (word_bits * w + b) / 8 % 2 ≡ b / 8 % 2 = omega arith in rw e
inside (suc (suc (suc (suc zero)))) w b h = let e : (word_bits * w + b) / 16 % 2 ≡ b / 16 % 2 = omega arith in rw e
inside (suc (suc (suc (suc (suc zero))))) w b h = let e : (word_bits * w + b) / 32 % 2 ≡ b / 32 % 2 = omega arith in rw e
inside (suc (suc (suc (suc (suc (suc p)))))) w b h = absurd (omega arith)

-- from 6 on it alone makes one
outside : (p w b : ℕ) → word_flags ≤ p → b < word_bits → bit (word_bits * w + b) p ≡ bit w (p - word_flags)
outside p w b h i =
    let e : p ≡ word_flags + (p - word_flags) = omega arith in
    let f : (word_bits * w + b) / word_bits ≡ w = omega arith in
    ap (bit (word_bits * w + b)) e ∙ sym (bit_shifted (word_bits * w + b) word_flags (p - word_flags)) ∙ ap (λ u. bit u (p - word_flags)) f

pub word_low : (p w : ℕ) → p < word_flags → WordOf p w (get_or low p 0)
word_low p w h b i = low_bit p b h i ∙ sym (inside p w b h)

pub word-zeros : (p w : ℕ) → word_flags ≤ p → bit w (p - word_flags) ≡ false → WordOf p w 0
word-zeros p w h e b i = bit-none b ∙ sym (outside p w b h i ∙ e)

pub word_ones : (p w : ℕ) → word_flags ≤ p → bit w (p - word_flags) ≡ true → WordOf p w all_ones
word_ones p w h e b i = bit-ones b i ∙ sym (outside p w b h i ∙ e)

-- the rows of true and of the first i of n flags are made
pub record FirstFlags (n width i : ℕ) (rows after : List ℕ) : Type 0 where
  pub long : length after ≡ length rows
  pub top : (s : ℕ) → s < word_bits * width → in_row after width s 0 ≡ true
  pub flags : (s j : ℕ) → s < word_bits * width → 0 < j → j ≤ i → in_row after width s j ≡ bit s (n - j)

true-there : (rows : List ℕ) (width s : ℕ) → get_or rows (0 + s / word_bits) 0 ≡ all_ones → in_row rows width s 0 ≡ true
unfolding in_row
true-there rows width s e =
    let z : 0 * width ≡ 0 = omega arith in
    rw (z, e) (bit-ones (s % word_bits) (omega arith))

pub first-none : (n width : ℕ) (rows after : List ℕ) → RowMade rows 0 width (λ _ r. r ≡ all_ones) after → FirstFlags n width 0 after after
first-none n width rows after m =
    record { long = refl; top = λ s h. true-there after width s (m.made (s / word_bits) (omega arith)); flags = λ s j h p q. absurd (omega arith) }

flag-there : (rows : List ℕ) (width s j p : ℕ) → WordOf p (s / word_bits) (get_or rows (j * width + s / word_bits) 0) → in_row rows width s j ≡ bit s p
unfolding in_row
flag-there rows width s j p o =
    let e : word_bits * (s / word_bits) + s % word_bits ≡ s = omega arith in
    o (s % word_bits) (omega arith) ∙ ap (λ u. bit u p) e

row_kept : (rows after : List ℕ) (width s i j : ℕ) → s < word_bits * width → j < i
    → ((k : ℕ) → k < i * width → get_or after k 0 ≡ get_or rows k 0) → in_row after width s j ≡ in_row rows width s j
unfolding in_row
row_kept rows after width s i j h b kept = ap (λ u. bit u (s % word_bits)) (kept (j * width + s / word_bits) (digits_lt b (omega arith)))

pub first_more : (n width i p : ℕ) (rows rows' after : List ℕ) → FirstFlags n width i rows rows' → RowMade rows' ((i + 1) * width) width
    (WordOf p) after
    → p ≡ n - (i + 1) → FirstFlags n width (i + 1) rows after
first_more n width i p rows rows' after f made e =
    let m : RowMade rows' ((i + 1) * width) width (WordOf (n - (i + 1))) after = rw e at made in
    record {
      long = m.long ∙ f.long;
      top = λ s h. row_kept rows' after width s (i + 1) 0 h (omega arith) m.kept ∙ f.top s h;
      flags = λ s j h p q. ⊎_elim
          (λ (e : j ≡ i + 1). rw e (flag-there after width s (i + 1) (n - (i + 1)) (m.made (s / word_bits) (omega arith))))
          (λ (l : j < i + 1). row_kept rows' after width s (i + 1) j h l m.kept ∙ f.flags s j h p (omega arith))
          (eq-or-lt_of_le q);
    }
