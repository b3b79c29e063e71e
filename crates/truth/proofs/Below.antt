-- A number below 2^n has no bit from n on.
use Prim.Native.Nat.{ℕ, ◌*◌, ◌/◌, ◌^◌, ◌≤◌, ◌<◌}
use mathlib.Core.Path.{◌≡◌, sym, ◌∙◌}
use mathlib.Core.Logic.{⊎_elim}
use native.Mathlib.Omega.{arith}
use native.Mathlib.Nat.{div-lt_iff_lt-mul}
use lib.Dec.{eqb, ltb}
use lib.Pow.{pow_pos}
use borrow.Author.Tests.{eq-eqb, ne_eqb, lt-ltb, le-ltb}
use Rattle.ground.proofs.Cases.{lt-or-ge}

pub no-bit-left : (s n : ℕ) → eqb (s / 2 ^ n) 0 ≡ ltb s (2 ^ n)
no-bit-left s n =
    ⊎_elim
    (λ (h : s < 2 ^ n).
    let p : s < 1 * 2 ^ n = omega arith in
    let q : s / 2 ^ n < 1 = (div-lt_iff_lt-mul (pow_pos n)).1 p in
    eq-eqb (s / 2 ^ n) 0 (omega arith) ∙ sym (lt-ltb s (2 ^ n) h))
    (λ (h : 2 ^ n ≤ s).
    ne_eqb (s / 2 ^ n) 0
    (λ e.
    let q : s / 2 ^ n < 1 = omega arith in
    let p : s < 1 * 2 ^ n = (div-lt_iff_lt-mul (pow_pos n)).0 q in omega arith)
    ∙ sym (le-ltb s (2 ^ n) h))
    (lt-or-ge s (2 ^ n))
