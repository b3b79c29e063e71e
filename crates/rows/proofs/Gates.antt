-- The row of a triplet: word by word, what the rows of its operands make of it, is so in every state.
use Prim.Native.Nat.{ℕ, zero, suc, ◌+◌, ◌*◌, ◌/◌, ◌%◌, ◌≤◌, ◌<◌}
use mathlib.Core.Path.{◌≡◌, refl, sym, ap, ◌∙◌}
use mathlib.Core.Bool.{Bool, true, false, not, ◌||◌, not-not}
use mathlib.Core.List.{List}
use mathlib.Core.Logic.{⊎_elim}
use native.Mathlib.Omega.{arith}
use native.Mathlib.Nat.{suc-mul, mul-le-mul_right}
use lib.ListN.{get_or}
use lib.Arith.{digits_lt}
use lib.Bits.{bit_or, bit_xor}
use lib.Dec.{eqb}
use borrow.Author.Tests.{eq-eqb, ne_eqb}
use Rattle.notation.specs.Tokens.{same, implies}
use Rattle.ground.specs.Choice.{choose}
use Rattle.notation.specs.Triplets.{triplet_variable}
use Rattle.notation.specs.clauses.Shape.{kind_at, y_at, z_at}
use Rattle.truth.specs.Connectives.{table, gate}
use Rattle.ground.specs.Bits.{bit}
use Rattle.truth.specs.clauses.Computed.{literal_value}
use Rattle.ground.proofs.Cases.{parity}
use Rattle.rows.specs.clauses.Rows.{all_ones, in_row, turned, RowMade, RowOf, TripletMade}
use Rattle.truth.specs.clauses.Words.{word_bits}
use Rattle.rows.proofs.Bits.{bit-or, bit-xor, bit-none, bit-ones}

same_false : (u : Bool) → not (table same u false) ≡ u
unfolding table
same_false true = refl
same_false false = refl

same_true : (u : Bool) → not (table same u true) ≡ not u
unfolding table
same_true true = refl
same_true false = refl

implies-or : (a b : Bool) → (not a || b) ≡ table implies a b
unfolding table
implies-or true b = refl
implies-or false b = refl

-- where two differ, and two others, is where the first of each differ, and the second
same-turned : (u t p q : Bool) → not (table same (not (table same u t)) (not (table same p q))) ≡ not
    (table same (not (table same u p)) (not (table same t q)))
unfolding table
same-turned true true true true = refl
same-turned true true true false = refl
same-turned true true false true = refl
same-turned true true false false = refl
same-turned true false true true = refl
same-turned true false true false = refl
same-turned true false false true = refl
same-turned true false false false = refl
same-turned false true true true = refl
same-turned false true true false = refl
same-turned false true false true = refl
same-turned false true false false = refl
same-turned false false true true = refl
same-turned false false true false = refl
same-turned false false false true = refl
same-turned false false false false = refl

same_not : (a b : Bool) → not (table same (not a) b) ≡ table same a b
unfolding table
same_not true true = refl
same_not true false = refl
same_not false true = refl
same_not false false = refl

-- a word turned by a literal's sign: each bit, as the literal has it
turned_bit : (l a b : ℕ) → b < word_bits → bit (bit_xor a (turned l)) b ≡ choose (eqb (l % 2) 0) (bit a b) (not (bit a b))
unfolding turned
turned_bit l a b h =
    ⊎_elim
    (λ (e : l % 2 ≡ 0). rw (eq-eqb (l % 2) 0 e, bit-xor a 0 b, bit-none b) (same_false (bit a b)))
    (λ (e : l % 2 ≡ 1). rw (ne_eqb (l % 2) 0 (λ (z : l % 2 ≡ 0). omega arith), bit-xor a all_ones b, bit-ones b h) (same_true (bit a b)))
    (parity l)

-- turned by the other sign
pub turned-other : (l a b : ℕ) → b < word_bits → bit (bit_xor a (turned (l + 1))) b ≡ not (choose (eqb (l % 2) 0) (bit a b) (not (bit a b)))
turned-other l a b h =
    ⊎_elim
    (λ (e : l % 2 ≡ 0). rw (turned_bit (l + 1) a b h, eq-eqb (l % 2) 0 e, ne_eqb ((l + 1) % 2) 0 (λ (z : (l + 1) % 2 ≡ 0). omega arith)))
    (λ (e : l % 2 ≡ 1). rw (turned_bit (l + 1) a b h, ne_eqb (l % 2) 0 (λ (z : l % 2 ≡ 0). omega arith), eq-eqb ((l + 1) % 2) 0 (omega arith))
    (sym (not-not (bit a b))))
    (parity l)

-- two words that differ, turned together, are where each of them, turned, differs
turned-both : (a b p q i : ℕ) → bit (bit_xor (bit_xor a b) (bit_xor p q)) i ≡ not (table same (bit (bit_xor a p) i) (bit (bit_xor b q) i))
turned-both a b p q i =
    rw (bit-xor (bit_xor a b) (bit_xor p q) i, bit-xor a b i, bit-xor p q i, bit-xor a p i, bit-xor b q i)
    (same-turned (bit a i) (bit b i) (bit p i) (bit q i))

-- a kind other than 0 is `same`
gate-other : (k : ℕ) (a b : Bool) → (k ≡ 0 → ⊥) → gate k a b ≡ table same a b
unfolding gate
gate-other zero a b n = absurd (n refl)
gate-other (suc k) a b n = refl

gate-zero : (k : ℕ) (a b : Bool) → k ≡ 0 → gate k a b ≡ table implies a b
unfolding gate
gate-zero k a b e = rw e

-- the row of one variable lies before that of a higher one
pub rows_apart : (v x width : ℕ) → v < x → v * width + width ≤ x * width
rows_apart v x width h = rw (← suc-mul v width) (mul-le-mul_right width h)

module _ (xs : List ℕ) (j : ℕ) (rows : List ℕ) (width : ℕ) (after : List ℕ) where
  -- a row that is kept word by word is kept
  kept_row : (x : ℕ) (R : ℕ → ℕ → Type 0) → x ≡ triplet_variable (suc j) * width → RowMade rows x width R after
      → (s v : ℕ) → s < word_bits * width → v < triplet_variable (suc j) → in_row after width s v ≡ in_row rows width s v
  unfolding in_row
  kept_row x R ex m s v h b = ap (λ u. bit u (s % word_bits)) (m.kept (v * width + s / word_bits) (rw ex (digits_lt b (omega arith))))

  pub or-made : (x ty tz : ℕ) → x ≡ triplet_variable (suc j) * width → ty ≡ turned (y_at xs j + 1) → tz ≡ turned (z_at xs j) → kind_at xs j ≡ 0
      → RowOf (λ a b. bit_or (bit_xor a ty) (bit_xor b tz)) rows x (y_at xs j / 2 * width) (z_at xs j / 2 * width) width after
      → TripletMade xs j rows width after
  unfolding in_row literal_value
  or-made x ty tz ex ey ez k m =
      record {
        long = m.long;
        made = λ s h.
            rw (
              ← ex,
              m.made (s / word_bits) (omega arith),
              ey,
              ez,
              bit-or
                  (bit_xor (get_or rows (y_at xs j / 2 * width + s / word_bits) 0) (turned (y_at xs j + 1)))
                  (bit_xor (get_or rows (z_at xs j / 2 * width + s / word_bits) 0) (turned (z_at xs j))) (s % word_bits),
              turned-other (y_at xs j)
                  (get_or rows (y_at xs j / 2 * width + s / word_bits) 0) (s % word_bits) (omega arith),
              turned_bit (z_at xs j)
                  (get_or rows (z_at xs j / 2 * width + s / word_bits) 0) (s % word_bits) (omega arith),
            )
            (implies-or _ _ ∙ sym (gate-zero (kind_at xs j) _ _ k));
        kept = kept_row x _ ex m;
      }

  pub xor-made : (x ty tz : ℕ) → x ≡ triplet_variable (suc j) * width → ty ≡ turned (y_at xs j + 1) → tz ≡ turned (z_at xs j)
      → (kind_at xs j ≡ 0 → ⊥)
      → RowOf (λ a b. bit_xor (bit_xor a b) (bit_xor ty tz)) rows x (y_at xs j / 2 * width) (z_at xs j / 2 * width) width after
      → TripletMade xs j rows width after
  unfolding in_row literal_value
  xor-made x ty tz ex ey ez k m =
      record {
        long = m.long;
        made = λ s h.
            rw (
              ← ex,
              m.made (s / word_bits) (omega arith),
              ey,
              ez,
              turned-both (get_or rows (y_at xs j / 2 * width + s / word_bits) 0)
                  (get_or rows (z_at xs j / 2 * width + s / word_bits) 0) (turned (y_at xs j + 1)) (turned (z_at xs j)) (s % word_bits),
              turned-other (y_at xs j)
                  (get_or rows (y_at xs j / 2 * width + s / word_bits) 0) (s % word_bits) (omega arith),
              turned_bit (z_at xs j)
                  (get_or rows (z_at xs j / 2 * width + s / word_bits) 0) (s % word_bits) (omega arith),
            )
            (same_not _ _ ∙ sym (gate-other (kind_at xs j) _ _ k));
        kept = kept_row x _ ex m;
      }
