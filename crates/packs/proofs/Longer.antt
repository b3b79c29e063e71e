-- A table of codes over the first bytes of a file is one over more of them.
use Prim.Native.Nat.{ℕ, zero, suc, ◌+◌, ◌-◌, ◌≤◌, ◌<◌}
use native.Mathlib.Omega.{arith}
use mathlib.Core.Path.{◌≡◌, refl, sym, ap, ◌∙◌}
use mathlib.Core.List.{List, [], ◌∷◌}
use lib.ListN.{length, take, drop}
use lib.Seq.{take-take, length-take-le}
use Rattle.notation.specs.clauses.Codes.{start_of, end_of, key_of, flags_in, InText}
use Rattle.notation.specs.declared.codes.Code.{Code}
use Rattle.notation.specs.clauses.Cut.{part}

-- what stands in the first bytes stands in the list
pub inner : (s k m : ℕ) (l : List ℕ) → s + k ≤ m → take k (drop s (take m l)) ≡ take k (drop s l)
inner zero k m l h = take-take k m l (omega arith)
inner (suc s) k zero l h = absurd (omega arith)
inner (suc s) k (suc m) [] h = refl
inner (suc s) k (suc m) (x ∷ l) h = inner s k m l (omega arith)

-- a table of codes is one of fewer
pub fewer : (text : List ℕ) (codes : List Code) (n m : ℕ) → n ≤ m → InText text codes m → InText text codes n
fewer text codes n m h t = record {
  room = omega (arith, t.room);
  starts = λ j b. t.starts j (omega arith);
  ends = λ j b. t.ends j (omega arith);
  keys = λ j b. t.keys j (omega arith);
}

module _ (file : List ℕ) (codes : List Code) (at e : ℕ) (h : at ≤ e) (i : e ≤ length file) where
  same-part : (s t : ℕ) → s ≤ t → t ≤ at → part s t (take e file) ≡ part s t (take at file)
  same-part s t a b = inner s (t - s) e file (omega arith) ∙ sym (inner s (t - s) at file (omega arith))

  long : length (take at file) ≡ at
  long = length-take-le at file (omega arith)

  long_after : length (take e file) ≡ e
  long_after = length-take-le e file i

  module _ (n : ℕ) (t : InText (take at file) codes n) where
    -- a code of the table has the same bytes
    same_code : (j : ℕ) → j < n → part (start_of codes j) (end_of codes j) (take e file) ≡ part (start_of codes j) (end_of codes j) (take at file)
    same_code j b = same-part (start_of codes j) (end_of codes j) (t.starts j b) (omega (arith, t.ends j b, long))

    pub longer-in : InText (take e file) codes n
    longer-in = record {
      room = t.room;
      starts = t.starts;
      ends = λ j b. omega (arith, t.ends j b, long, long_after);
      keys = λ j b. t.keys j b ∙ ap key_of (sym (same_code j b));
    }

  pub longer-flags : (n : ℕ) → InText (take at file) codes n → flags_in (take e file) codes n ≡ flags_in (take at file) codes n
  unfolding flags_in
  longer-flags zero t = refl
  longer-flags (suc n) t = rw (longer-flags n (fewer (take at file) codes n (suc n) (omega arith) t), same_code (suc n) t n (omega arith))
