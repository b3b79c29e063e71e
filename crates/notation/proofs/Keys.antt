-- A key tells a code of at most eight bytes: no other code as long has it.
use Prim.Native.Nat.{ℕ, zero, suc, ◌+◌, ◌*◌, ◌%◌, ◌^◌, ◌≤◌, ◌<◌}
use native.Mathlib.Omega.{arith}
use mathlib.Core.Path.{◌≡◌, refl, sym, ap, subst, ◌∙◌}
use mathlib.Core.Bool.{Bool, true, false, ◌&&◌}
use lib.Dec.{eqb}
use lib.Pointwise.{pointwise}
use Rattle.ground.specs.Choice.{choose}
use mathlib.Core.List.{List, [], ◌∷◌}
use lib.ListN.{length, get_or, take, drop}
use borrow.Author.Tests.{eq-eqb}
use Rattle.notation.specs.Walk.{same_code}
use Rattle.notation.specs.Tokens.{Code}
use Rattle.notation.specs.clauses.Codes.{key_from, key_of}

-- a key k has room for n bytes more
abbrev Fits : ℕ → ℕ → Type 0
Fits k zero = k < 2 ^ 64
Fits k (suc n) = Fits (k * 256 + 255) n

fits-less : (k l n : ℕ) → k ≤ l → Fits l n → Fits k n
fits-less k l zero h f = omega arith
fits-less k l (suc n) h f = fits-less (k * 256 + 255) (l * 256 + 255) n (omega arith) f

fits_low : (k n : ℕ) → Fits k n → k < 2 ^ 64
fits_low k zero f = f
fits_low k (suc n) f = let h : k * 256 + 255 < 2 ^ 64 = fits_low (k * 256 + 255) n f in omega arith

-- nothing is cut off such a key
fits_whole : (k n : ℕ) → Fits k (suc n) → k % 2 ^ 56 ≡ k
fits_whole k n f = let h : k * 256 + 255 < 2 ^ 64 = fits_low (k * 256 + 255) n f in omega arith

-- the bytes of a list
abbrev pub Bytes : List ℕ → Type 0
Bytes [] = Unit {0}
Bytes (b ∷ bs) = (b < 256) × Bytes bs

pub bytes_of : (xs : List ℕ) → ((i : ℕ) → get_or xs i 0 < 256) → Bytes xs
bytes_of [] h = tt
bytes_of (b ∷ xs) h = (h 0, bytes_of xs (λ i. h (suc i)))

bytes_take : (n : ℕ) (xs : List ℕ) → Bytes xs → Bytes (take n xs)
bytes_take zero xs h = tt
bytes_take (suc n) [] h = tt
bytes_take (suc n) (b ∷ xs) h = (h.0, bytes_take n xs h.1)

bytes_drop : (n : ℕ) (xs : List ℕ) → Bytes xs → Bytes (drop n xs)
bytes_drop zero xs h = h
bytes_drop (suc n) [] h = tt
bytes_drop (suc n) (b ∷ xs) h = bytes_drop n xs h.1

-- two keys are the same only where all their bytes are
key-told : (c d : Code) (k l n : ℕ) → length c ≡ n → length d ≡ n → Fits k n → Fits l n → Bytes c → Bytes d → key_from k c ≡ key_from l d
    → (k ≡ l) × (c ≡ d)
unfolding key_from
key-told [] [] k l n p q f g x y e = (e, refl)
key-told [] (b ∷ d) k l n p q f g x y e = absurd (omega arith)
key-told (a ∷ c) [] k l n p q f g x y e = absurd (omega arith)
key-told (a ∷ c) (b ∷ d) k l zero p q f g x y e = absurd (omega arith)
key-told (a ∷ c) (b ∷ d) k l (suc n) p q f g x y e =
    let k' : k % 2 ^ 56 ≡ k = fits_whole k n f in
    let l' : l % 2 ^ 56 ≡ l = fits_whole l n g in
    let a' : a < 256 = x.0 in
    let b' : b < 256 = y.0 in
    let r = key-told c d (k % 2 ^ 56 * 256 + a) (l % 2 ^ 56 * 256 + b) n (omega arith) (omega arith)
    (fits-less (k % 2 ^ 56 * 256 + a) (k * 256 + 255) n (omega arith) f) (fits-less (l % 2 ^ 56 * 256 + b) (l * 256 + 255) n (omega arith) g) x.1 y.1 e in
    let s : k % 2 ^ 56 * 256 + a ≡ l % 2 ^ 56 * 256 + b = r.0 in
    let t : a ≡ b = omega arith in
    (omega arith, ap (λ (z : ℕ). z ∷ c) t ∙ ap (λ (z : List ℕ). b ∷ z) r.1)

fits-eight : (n : ℕ) → n ≤ 8 → Fits 0 n
fits-eight zero h = omega arith
fits-eight (suc zero) h = omega arith
fits-eight (suc (suc zero)) h = omega arith
fits-eight (suc (suc (suc zero))) h = omega arith
fits-eight (suc (suc (suc (suc zero)))) h = omega arith
fits-eight (suc (suc (suc (suc (suc zero))))) h = omega arith
fits-eight (suc (suc (suc (suc (suc (suc zero)))))) h = omega arith
fits-eight (suc (suc (suc (suc (suc (suc (suc zero))))))) h = omega arith
fits-eight (suc (suc (suc (suc (suc (suc (suc (suc zero)))))))) h = omega arith
fits-eight (suc (suc (suc (suc (suc (suc (suc (suc (suc n))))))))) h = absurd (omega arith)

-- a code is the same as itself
pub same_self : (c : Code) → same_code c c ≡ true
unfolding same_code
same_self [] = refl
same_self (a ∷ c) = rw (eq-eqb a a refl) (same_self c)

-- codes with the same key, of the same length up to eight, are the same
pub same_key : (c d : Code) → Bytes c → Bytes d → length c ≡ length d → length c ≤ 8 → key_of c ≡ key_of d → same_code c d ≡ true
same_key c d x y l small e =
    let r = key-told c d 0 0 (length c) refl (sym l) (fits-eight (length c) small) (fits-eight (length c) small) x y e in
    subst (λ (z : Code). same_code c z ≡ true) r.1 (same_self c)

-- a part of a text of bytes
pub bytes-part : (text : List ℕ) → ((i : ℕ) → get_or text i 0 < 256) → (a n : ℕ) → Bytes (take n (drop a text))
bytes-part text h a n = bytes_take n (drop a text) (bytes_drop a text (bytes_of text h))

-- comparing two codes as lists tells whether they are the same
pub same_lists : (c d : Code) → pointwise eqb c d ≡ same_code c d
unfolding same_code
same_lists [] [] = refl
same_lists [] (b ∷ d) = refl
same_lists (a ∷ c) [] = refl
same_lists (a ∷ c) (b ∷ d) = by_first (eqb a b) (same_lists c d)
  where
    by_first : (t : Bool) → pointwise eqb c d ≡ same_code c d → (t && pointwise eqb c d) ≡ choose t (same_code c d) false
    by_first true h = h
    by_first false h = refl
