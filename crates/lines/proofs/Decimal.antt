-- Decimal digits: the last one stands after those of the tenth, and a number below a power of ten has no more of them.
use Prim.Native.Nat.{ℕ, zero, suc, ◌+◌, ◌/◌, ◌%◌, ◌^◌, ◌≤◌, ◌<◌}
use native.Mathlib.Omega.{arith}
use mathlib.Core.Path.{◌≡◌}
use mathlib.Core.List.{[], ◌∷◌, ◌++◌}
use mathlib.Core.Logic.{⊎_elim}
use lib.ListN.{length, length-append}
use borrow.Author.Tests.{lt-ltb, le-ltb}
use Rattle.ground.proofs.Cases.{lt-or-ge}
use Rattle.lines.specs.Printed.{digit, decimal_at, decimal}
use Rattle.lines.specs.clauses.Put.{number_room}

-- one more digit than fits makes no difference
enough : (k m n : ℕ) → n < k → n < m → decimal_at k n ≡ decimal_at m n
unfolding decimal_at
enough zero m n a b = absurd (omega arith)
enough (suc k) zero n a b = absurd (omega arith)
enough (suc k) (suc m) n a b =
    ⊎_elim
    (λ (h : n < 10). rw (lt-ltb n 10 h))
    (λ (h : 10 ≤ n). rw (le-ltb n 10 h, enough k m (n / 10) (omega arith) (omega arith)))
    (lt-or-ge n 10)

pub decimal-one : (n : ℕ) → n < 10 → decimal n ≡ digit n ∷ []
unfolding decimal decimal_at
decimal-one n h = rw (lt-ltb n 10 h)

pub decimal-more : (n : ℕ) → 10 ≤ n → decimal n ≡ decimal (n / 10) ++ (digit (n % 10) ∷ [])
unfolding decimal decimal_at
decimal-more n h = rw (le-ltb n 10 h, enough n (suc (n / 10)) (n / 10) (omega arith) (omega arith))

pub one-long : (n : ℕ) → n < 10 → length (decimal n) ≡ 1
one-long n h = rw (decimal-one n h)

pub more-long : (n : ℕ) → 10 ≤ n → length (decimal n) ≡ length (decimal (n / 10)) + 1
more-long n h = rw (decimal-more n h, length-append)

-- a number below a power of ten
few-digits : (k n : ℕ) → n < 10 ^ suc k → length (decimal n) ≤ suc k
few-digits zero n h = rw (decimal-one n (omega arith)) (omega arith)
few-digits (suc k) n h =
    ⊎_elim
    (λ (l : n < 10). rw (decimal-one n l) (omega arith))
    (λ (l : 10 ≤ n).
    let tenth : length (decimal (n / 10)) ≤ suc k = few-digits k (n / 10) (omega arith) in
    rw (decimal-more n l, length-append) (omega arith))
    (lt-or-ge n 10)

-- a number of 64 bits
pub number_short : (n : ℕ) → n < 2 ^ 64 → length (decimal n) ≤ number_room
number_short n h = few-digits 19 n (omega arith)
