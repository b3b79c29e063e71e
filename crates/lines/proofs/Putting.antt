-- What is appended piece by piece is appended whole.
use Prim.Native.Nat.{ℕ, ◌+◌, ◌-◌, ◌≤◌, ◌<◌}
use native.Mathlib.Omega.{arith}
use native.Mathlib.Numerals.{add-one}
use mathlib.Core.Path.{◌≡◌, refl, sym, ap, ◌∙◌, subst}
use mathlib.Core.List.{List, [], ◌∷◌, ◌++◌, append_assoc, append-nil}
use mathlib.Core.Logic.{⊎_elim}
use lib.ListN.{length, take, drop, set, get_or, length-append, length-set, take-append-drop, drop_of_length-le}
use lib.Seq.{take-suc, take-suc-set, take_all, take_at, drop_at, drop-drop, drop-set-lt, length-take-le}
use Rattle.ground.proofs.Cases.{lt-or-ge}
use Rattle.lines.specs.clauses.Put.{Puts}

-- ---- cut at r: up to there the bytes after what stood before them, from there on what stood there
pub puts_of : {a : List ℕ} {p : ℕ} {x b : List ℕ} {r : ℕ} → r ≡ p + length x → take r b ≡ take p a ++ x → drop r b ≡ drop r a → length b
    ≡ length a → Puts a p x b r
puts_of {a} {p} {x} {b} {r} n w k l =
    record {
      next = n;
      holds =
          sym (take-append-drop r b)
          ∙ ap (λ (u : List ℕ). u ++ drop r b) w
          ∙ ap (λ (u : List ℕ). (take p a ++ x) ++ u) k
          ∙ append_assoc (take p a) x (drop r a);
      long = l;
    }

pub puts-cut : {a : List ℕ} {p : ℕ} {x b : List ℕ} {r : ℕ} → Puts a p x b r → (take r b ≡ take p a ++ x) × (drop r b ≡ drop r a)
puts-cut {a} {p} {x} {b} {r} f =
    let n : r ≡ p + length x = f.next in
    let l : length b ≡ length a = f.long in
    let front : List ℕ = take p a ++ x in
    let whole : b ≡ front ++ drop r a = f.holds ∙ sym (append_assoc (take p a) x (drop r a)) in
    ⊎_elim
    (λ (h : length a < p).
    let past : length a ≤ r = omega (arith, n, h) in
    let beyond : length b ≤ r = omega (arith, past, l) in
    let none : drop r a ≡ [] = drop_of_length-le a past in
    let all : b ≡ front = whole ∙ ap (λ (u : List ℕ). front ++ u) none ∙ append-nil front in
    (take_all r b beyond ∙ all, drop_of_length-le b beyond ∙ sym none))
    (λ (h : p ≤ length a).
    let seam : length front ≡ r = length-append (take p a) x ∙ ap (λ (k : ℕ). k + length x) (length-take-le p a h) ∙ sym n in
    (ap (λ (u : List ℕ). take r u) whole ∙ take_at front (drop r a) r seam, ap (λ (u : List ℕ). drop r u) whole ∙ drop_at front (drop r a) r seam))
    (lt-or-ge (length a) p)

-- what stands from a place on still does from a later one on
pub kept-later : (a b : List ℕ) (q r : ℕ) → q ≤ r → drop q b ≡ drop q a → drop r b ≡ drop r a
kept-later a b q r h e =
    let later : q + (r - q) ≡ r = omega arith in
    rw (← later, ← drop-drop (r - q) q b, ← drop-drop (r - q) q a, e)

-- nothing, where it stands
pub puts_none : (out : List ℕ) (at : ℕ) → Puts out at [] out at
puts_none out at = puts_of (omega arith) (sym (append-nil (take at out))) refl refl

-- one byte
pub puts-byte : (out : List ℕ) (at b : ℕ) → at < length out → Puts out at (b ∷ []) (set out at b) (at + 1)
puts-byte out at b h = puts_of (omega arith) (rw add-one (take-suc-set out at b h)) (drop-set-lt (at + 1) out at b (omega arith)) (length-set out at b)

-- one thing, then another after it
pub puts_then : {a : List ℕ} {p : ℕ} {x b : List ℕ} {q : ℕ} {y c : List ℕ} {r : ℕ} → Puts a p x b q → Puts b q y c r → Puts a p (x ++ y) c r
puts_then {a} {p} {x} {b} {q} {y} {c} {r} f g =
    puts_of
    (omega (arith, f.next, g.next, length-append x y))
    ((puts-cut g).0 ∙ ap (λ (l : List ℕ). l ++ y) (puts-cut f).0 ∙ append_assoc (take p a) x y)
    ((puts-cut g).1 ∙ kept-later a b q r (omega (arith, g.next)) (puts-cut f).1)
    (g.long ∙ f.long)

-- what is put is what is said to be
pub puts-as : {a : List ℕ} {p : ℕ} {x y b : List ℕ} {q r : ℕ} → x ≡ y → q ≡ r → Puts a p x b q → Puts a p y b r
puts-as {a} {p} {x} {y} {b} {q} {r} e f h = subst (λ (n : ℕ). Puts a p y b n) f (subst (λ (l : List ℕ). Puts a p l b q) e h)

-- ---- a slice, one byte after the other
pub puts-more : (out : List ℕ) (at : ℕ) (bytes now : List ℕ) (i : ℕ) → i < length bytes → at + i < length now
    → Puts out at (take i bytes) now (at + i) → Puts out at (take (i + 1) bytes) (set now (at + i) (get_or bytes i 0)) (at + (i + 1))
puts-more out at bytes now i h l p =
    puts-as (sym (take-suc bytes i 0 h) ∙ rw add-one) (omega arith) (puts_then p (puts-byte now (at + i) (get_or bytes i 0) l))

pub puts_whole : (out : List ℕ) (at : ℕ) (bytes now : List ℕ) (i : ℕ) → length bytes ≤ i → Puts out at (take i bytes) now (at + i) → Puts out
    at bytes now (at + i)
puts_whole out at bytes now i h p = puts-as (take_all i bytes h) refl p

-- ---- what is put lies within the slice
pub puts-inside : {a : List ℕ} {p : ℕ} {x b : List ℕ} {r : ℕ} → p ≤ length a → Puts a p x b r → r ≤ length b
puts-inside {a} {p} {x} {b} {r} h f =
    let first : length (take p a) ≡ p = length-take-le p a h in
    let whole : length b ≡ p + (length x + length (drop r a)) = ap (λ (l : List ℕ). length l) f.holds ∙ length-append (take p a) (x ++ drop r a)
    ∙ rw (first, length-append) in
    omega (arith, whole, f.next)
