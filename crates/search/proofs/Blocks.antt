-- A block: the rows have the value of the triplets in every state of a stretch.
use Prim.Native.Nat.{ℕ, suc, ◌+◌, ◌*◌, ◌-◌, ◌/◌, ◌%◌, ◌^◌, ◌≤◌, ◌<◌}
use mathlib.Core.Path.{◌≡◌, sym, ap, ◌∙◌}
use mathlib.Core.Bool.{Bool}
use mathlib.Core.List.{List}
use native.Mathlib.Omega.{arith}
use native.Mathlib.Nat.{div-add-mod'}
use lib.Pow.{field, mod-mod-pow, low}
use Rattle.ground.specs.Bits.{bit}
use Rattle.truth.specs.clauses.Computed.{literal_value, computed, Valued, root_value, Triplets}
use Rattle.truth.proofs.Computing.{valued, valued-unique}
use Rattle.gaps.specs.declared.writing.Found.{Found}
use Rattle.gaps.specs.Gaps.{false_from}
use Rattle.rows.specs.clauses.Rows.{in_row, Evaluated}
use Rattle.truth.specs.clauses.Words.{word_bits}
use Rattle.gaps.specs.clauses.Rows.{Writes, since}
use Rattle.search.specs.clauses.Walking.{Walked}
use Rattle.rows.proofs.Evaluating.{flags-kept}
use Rattle.gaps.proofs.Since.{since-same}

-- the bits below n are those of what is left over by 2^n
pub bit-low : (s n p : ℕ) → p < n → bit (s % 2 ^ n) p ≡ bit s p
unfolding bit
bit-low s n p h =
    let e : n ≡ (n - suc p) + (1 + p) = omega arith in
    let lhs : s % 2 ^ n / 2 ^ p % 2 ≡ s % 2 ^ n % 2 ^ (1 + p) / 2 ^ p = sym (field (s % 2 ^ n) 1 p) in
    let mid : s % 2 ^ n % 2 ^ (1 + p) ≡ s % 2 ^ (1 + p) = ap (λ u. s % 2 ^ u % 2 ^ (1 + p)) e ∙ mod-mod-pow s (n - suc p) (1 + p) in
    rw (lhs, mid, field s 1 p)

-- a stretch starts at a multiple
pub multiple : (base n : ℕ) → base % 2 ^ n ≡ 0 → base ≡ base / 2 ^ n * 2 ^ n
multiple base n e = let d : base / 2 ^ n * 2 ^ n + base % 2 ^ n ≡ base = div-add-mod' base (2 ^ n) in omega arith

-- states that agree in their low bits have the same valuations
valued-low : (n s t c : ℕ) (xs : List ℕ) (v : ℕ → Bool) → ((p : ℕ) → p < n → bit s p ≡ bit t p) → Valued n s c xs v → Valued n t c xs v
valued-low n s t c xs v h p = record { top = p.top; flags = λ i a b. p.flags i a b ∙ h (n - i) (omega arith); gates = p.gates }

-- a state of the stretch, less its start, has the same low bits
offset-bits : (n base s : ℕ) → base % 2 ^ n ≡ 0 → base ≤ s → s < base + 2 ^ n → (p : ℕ) → p < n → bit (s - base) p ≡ bit s p
offset-bits n base s e a b p h =
    let q : ℕ = base / 2 ^ n in
    let m : base ≡ q * 2 ^ n = multiple base n e in
    let f : s ≡ q * 2 ^ n + (s - base) = omega arith in
    let g : s % 2 ^ n ≡ s - base = ap (λ u. u % 2 ^ n) f ∙ low q n (omega arith) in
    rw (← g) (bit-low s n p h)

row-right : (n width base c root s : ℕ) (xs rows after : List ℕ) → Triplets n xs c root → 2 ^ n ≤ word_bits * width → base % 2 ^ n ≡ 0 → base
    ≤ s → s < base + 2 ^ n
    → Evaluated n width xs c rows after → literal_value (in_row after width (s - base)) root ≡ root_value n xs c root s
unfolding root_value
row-right n width base c root s xs rows after t w al a b e =
    valued-unique n s c xs (in_row after width (s - base)) (computed n s xs c) t.flags t.shape
    (valued-low n (s - base) s c xs (in_row after width (s - base)) (offset-bits n base s al a b) (e.valued (s - base) (omega arith)))
    (valued n s xs t.flags c t.shape) c (omega arith) root t.named

-- what the row of the root says is what the triplets say
pub block_walked : (n width base start c root from : ℕ) (xs rows after out out' : List ℕ) (r : Found) → Triplets n xs c root → 2 ^ n ≤ word_bits *
    width → base % 2 ^ n ≡ 0
    → Evaluated n width xs c rows after
    → Writes out from (false_from (since start (λ s. literal_value (in_row after width (s - base)) root)) base (2 ^ n)) r out'
    → Walked (root_value n xs c root) start base n n width from out r out' after
block_walked n width base start c root from xs rows after out out' r t w al e u =
    record {
      writes = rw (since-same start (λ s. literal_value (in_row after width (s - base)) root) (root_value n xs c root) base (2 ^ n)
          (λ s a b. row-right n width base c root s xs rows after t w al a b e)) at u;
      right = flags-kept n width c xs rows after e;
    }
