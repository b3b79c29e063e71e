-- The walk: a side with nothing to find, a side by what is left of it, and both sides one after the other.
use Prim.Native.Nat.{ℕ, suc, ◌+◌, ◌*◌, ◌-◌, ◌/◌, ◌%◌, ◌^◌, ◌≤◌, ◌<◌}
use mathlib.Core.Path.{◌≡◌, refl, sym, ap, ◌∙◌}
use mathlib.Core.Bool.{Bool, true, false}
use mathlib.Core.List.{List, ◌++◌}
use native.Mathlib.Omega.{arith}
use native.Mathlib.Nat.{pow-suc, mul_comm, mul_assoc, suc-mul, zero-mod}
use native.Mathlib.Numerals.{add-one}
use lib.ListN.{length}
use lib.Pow.{low, high, pow_pos, pow-add, pow_mono, shl_exact}
use lib.Dec.{eqb, ltb}
use Rattle.notation.specs.Ceilings.{flag_ceiling, connective_ceiling}
use Rattle.ground.specs.Bits.{bit}
use Rattle.ground.proofs.Truths.{either_way}
use Rattle.truth.specs.clauses.Computed.{computed, root_value}
use Rattle.truth.proofs.Literals.{literal-even}
use Rattle.truth.proofs.Computing.{flag-kept, true-at-start}
use Rattle.gaps.specs.declared.writing.Found.{Found}
use Rattle.gaps.specs.declared.writing.Found.TheVariants.{Done, More}
use Rattle.gaps.specs.Gaps.{false_from}
use Rattle.notation.specs.Triplets.{triplet_variable}
use Rattle.rows.specs.clauses.Rows.{word_flags, FlagRows, FlagsMade}
use Rattle.truth.specs.clauses.Words.{word_bits}
use Rattle.gaps.specs.clauses.Rows.{Writes, since}
use Rattle.fixing.specs.clauses.Fixing.{Fixed}
use Rattle.search.specs.clauses.Walking.{widest, Rows, Stretch, Walked}
use Rattle.gaps.proofs.Ascending.{false-none, false-parts}
use Rattle.gaps.proofs.Since.{since-same, since_none, since-whole}
use Rattle.search.proofs.Blocks.{multiple}
use Rattle.gaps.proofs.Written.{writes-none, writes_then, writes-stop}

-- a stretch that lies before the start
pub walked-before : (v : ℕ → Bool) (start base n low width from : ℕ) (out rows : List ℕ) → base + (2 ^ n - 1) < start → from ≤ length out
    → FlagRows low width rows
    → Walked v start base n low width from out (Done from) out rows
walked-before v start base n low width from out rows h b f =
    record { writes = rw (since_none start v base (2 ^ n) (omega (arith, pow_pos n))) (writes-none out from b); right = f }

always-since : (start : ℕ) (v : ℕ → Bool) (s : ℕ) → v s ≡ true → since start v s ≡ true
unfolding since
always-since start v s e = rw e (either_way (ltb s start))

module _ (n : ℕ) (b : Bool) (xs : List ℕ) (count root : ℕ) (ys : List ℕ) (c r : ℕ) (f : Fixed n b xs count root ys c r) (m : ℕ)
    (one : suc n ≡ m) where
  fixed-value : (s : ℕ) → bit s n ≡ b → root_value n ys c r s ≡ root_value m xs count root s
  unfolding root_value
  fixed-value s h = rw (← one) (f.valued s h)

  true-value : (s : ℕ) → r ≡ 0 → root_value n ys c r s ≡ true
  unfolding root_value
  true-value s e = rw e (literal-even (computed n s ys c) 0 0 refl ∙ flag-kept n s ys c 0 (omega arith) ∙ true-at-start n s ys)

  module _ (start base low width from : ℕ) (out rows : List ℕ) (half : (s : ℕ) → base ≤ s → s < base + 2 ^ n → bit s n ≡ b) where
    -- what is left is true: there is nothing to find
    pub walked-true : r ≡ 0 → from ≤ length out → FlagRows low width rows → Walked (root_value m xs count root) start base n low width from out
        (Done from) out rows
    walked-true e h g =
        record {
          writes =
              rw (false-none (since start (root_value m xs count root)) base (2 ^ n)
              (λ s p q. always-since start (root_value m xs count root) s (sym (fixed-value s (half s p q)) ∙ true-value s e)))
              (writes-none out from h);
          right = g;
        }

    -- what is left has the same values
    pub walked-left : (out' : List ℕ) (x : Found) → Walked (root_value n ys c r) start base n low width from out x out' rows
        → Walked (root_value m xs count root) start base n low width from out x out' rows
    walked-left out' x w =
        record {
          writes = rw (since-same start (root_value n ys c r) (root_value m xs count root) base (2 ^ n) (λ s p q. fixed-value s (half s p q))) at
              w.writes;
          right = w.right;
        }

-- the two halves of a stretch
module _ (m base : ℕ) (aligned : base % 2 ^ suc m ≡ 0) where
  q : ℕ
  q = base / 2 ^ suc m

  halves : base ≡ q * 2 * 2 ^ m
  unfolding q
  halves = multiple base (suc m) aligned ∙ (rw (pow-suc 2 m, mul_comm (2 ^ m) 2) (sym (mul_assoc (base / (2 * 2 ^ m)) 2 (2 ^ m))))

  pub lower-aligned : base % 2 ^ m ≡ 0
  lower-aligned =
      let e : base ≡ q * 2 * 2 ^ m + 0 = omega (arith, halves) in
      ap (λ u. u % 2 ^ m) e ∙ low (q * 2) m {lo = 0} (pow_pos m)

  next-half : base + 2 ^ m ≡ (q * 2 + 1) * 2 ^ m
  next-half = ap (λ u. u + 2 ^ m) halves ∙ (rw (add-one (q * 2), suc-mul (q * 2) (2 ^ m)))

  pub upper-aligned : (base + 2 ^ m) % 2 ^ m ≡ 0
  upper-aligned =
      let e : base + 2 ^ m ≡ (q * 2 + 1) * 2 ^ m + 0 = omega (arith, next-half) in
      ap (λ u. u % 2 ^ m) e ∙ low (q * 2 + 1) m {lo = 0} (pow_pos m)

  bit-of : (s h : ℕ) → s / 2 ^ m ≡ h → bit s m ≡ eqb (h % 2) 1
  unfolding bit
  bit-of s h e = rw e

  pub lower-bit : (s : ℕ) → base ≤ s → s < base + 2 ^ m → bit s m ≡ false
  lower-bit s a b =
      let e : s ≡ q * 2 * 2 ^ m + (s - base) = omega (arith, halves) in
      let z : q * 2 % 2 ≡ 0 = omega arith in
      bit-of s (q * 2) (ap (λ u. u / 2 ^ m) e ∙ high (q * 2) m (omega arith)) ∙ (rw z)

  pub upper-bit : (s : ℕ) → base + 2 ^ m ≤ s → s < base + 2 ^ m + 2 ^ m → bit s m ≡ true
  upper-bit s a b =
      let e : s ≡ (q * 2 + 1) * 2 ^ m + (s - (base + 2 ^ m)) = omega (arith, next-half) in
      let z : (q * 2 + 1) % 2 ≡ 1 = omega arith in
      bit-of s (q * 2 + 1) (ap (λ u. u / 2 ^ m) e ∙ high (q * 2 + 1) m (omega arith)) ∙ (rw z)

double : (m : ℕ) → 2 ^ suc m ≡ 2 ^ m + 2 ^ m
double m = pow-suc 2 m ∙ twice (2 ^ m)
  where
    twice : (a : ℕ) → a * 2 ≡ a + a
    twice a = omega arith

module _ (v : ℕ → Bool) (start base m low width from : ℕ) (out : List ℕ) where
  both-parts : false_from (since start v) base (2 ^ suc m) ≡ false_from (since start v) base (2 ^ m) ++ false_from (since start v) (base + 2 ^ m) (2 ^ m)
  both-parts = ap (false_from (since start v) base) (double m) ∙ false-parts (since start v) base (2 ^ m) (2 ^ m)

  -- one side after the other
  pub walked_both : (k : ℕ) (x r : Found) (mid after rows rows' : List ℕ) → x ≡ Done k → Walked v start base m low width from out x mid rows
      → Walked v start (base + 2 ^ m) m low width k mid r after rows' → Walked v start base (suc m) low width from out r after rows'
  walked_both k x r mid after rows rows' e w u =
      record { writes = rw both-parts (writes_then out mid after from k _ _ r (rw e at w.writes) u.writes); right = u.right }

  -- the slice is full after the first
  pub walked_stop : (k y : ℕ) (x : Found) (after rows : List ℕ) → x ≡ More k y → Walked v start base m low width from out x after rows
      → Walked v start base (suc m) low width from out x after rows
  walked_stop k y x after rows e w =
      record { writes = rw (both-parts, e) (writes-stop out after from k y _ _ (rw e at w.writes)); right = w.right }

-- each half is a stretch
pub stretch-lower : (m n width base : ℕ) → suc m ≡ n → Stretch n width base → Stretch m width base
stretch-lower m n width base e s =
    let p : 2 ^ n ≡ 2 ^ m + 2 ^ m = ap (λ u. 2 ^ u) (sym e) ∙ double m in
    record { aligned = lower-aligned m base (rw e s.aligned); small = omega (arith, s.small) }

pub stretch-upper : (m n width base h : ℕ) → suc m ≡ n → h ≡ 2 ^ m → Stretch n width base → Stretch m width (base + h)
stretch-upper m n width base h e f s =
    let p : 2 ^ n ≡ 2 ^ m + 2 ^ m = ap (λ u. 2 ^ u) (sym e) ∙ double m in
    record { aligned = rw f (upper-aligned m base (rw e s.aligned)); small = omega (arith, s.small) }

pub half-lower : (m n width base : ℕ) → suc m ≡ n → Stretch n width base → (s : ℕ) → base ≤ s → s < base + 2 ^ m → bit s m ≡ false
half-lower m n width base e st = lower-bit m base (rw e st.aligned)

pub half-upper : (m n width base h : ℕ) → suc m ≡ n → h ≡ 2 ^ m → Stretch n width base → (s : ℕ) → base + h ≤ s → s < base + h + 2 ^ m
    → bit s m ≡ true
half-upper m n width base h e f st s a b = upper-bit m base (rw e st.aligned) s (omega arith) (omega arith)

-- 1 shifted left
pub shifted : (m : ℕ) → m < word_bits → 1 * 2 ^ m % 2 ^ word_bits ≡ 2 ^ m
shifted m h = shl_exact {a = 1} 1 m word_bits (omega arith) (omega arith) ∙ one-times (2 ^ m)
  where
    one-times : (a : ℕ) → 1 * a ≡ a
    one-times a = omega arith

pub rows-again : (low width : ℕ) (rows rows' : List ℕ) → Rows low width rows → length rows' ≡ length rows → FlagRows low width rows'
    → Rows low width rows'
rows-again low width rows rows' r e f = record { enough = r.enough; long = rw e r.long; right = f }

-- what counts from the start on, in all states, is what is false from the start on
from_start : (v : ℕ → Bool) (start n : ℕ) → start ≤ n → false_from (since start v) 0 n ≡ false_from v start (n - start)
from_start v start n h =
    let e : n ≡ start + (n - start) = omega arith in
    let z : 0 + start ≡ start = omega arith in
    ap (false_from (since start v) 0) e ∙ false-parts (since start v) 0 start (n - start)
    ∙ (rw (since_none start v 0 start (omega arith), z) (since-whole start v start (n - start) (omega arith)))

pub searched : (v : ℕ → Bool) (start n low width : ℕ) (out out' rows : List ℕ) (r : Found) → start ≤ 2 ^ n → Walked v start 0 n low width 0
    out r out' rows
    → Writes out 0 (false_from v start (2 ^ n - start)) r out'
searched v start n low width out out' rows r h w = rw (from_start v start (2 ^ n) h) at w.writes

-- all states are a stretch
pub stretch-all : (n width : ℕ) → n ≤ flag_ceiling → width ≤ 2 ^ widest → Stretch n width 0
stretch-all n width h b =
    record { aligned = zero-mod (2 ^ n); small = omega (arith, pow_mono {i = n} {j = flag_ceiling} h) }

-- rows that hold the states of so many flags
pub rows_all : (low most width : ℕ) (rows after : List ℕ) → low ≤ most → 2 ^ most ≤ word_bits * width → triplet_variable (suc connective_ceiling) *
    width ≤ length rows
    → FlagsMade low width rows after → Rows low width after
rows_all low most width rows after h b l f =
    record { enough = omega (arith, pow_mono {i = low} {j = most} h); long = rw f.long l; right = f.right }

-- 2^more words hold the states of so many more flags than one word
pub words-hold : (more : ℕ) → 2 ^ (word_flags + more) ≤ word_bits * 2 ^ more
words-hold more = omega (arith, pow-add 2 word_flags more)
