-- What is written, step by step: nothing, one state, a full slice, and one list of states after another.
use Prim.Native.Nat.{ℕ, zero, suc, ◌+◌, ◌≤◌, ◌<◌}
use mathlib.Core.Path.{◌≡◌, refl, sym, ap, ◌∙◌}
use mathlib.Core.Bool.{true, false}
use mathlib.Core.List.{List, [], ◌∷◌, ◌++◌, append_assoc, append-nil}
use mathlib.Core.Logic.{⊎_elim}
use native.Mathlib.Omega.{arith}
use native.Mathlib.Numerals.{add-one}
use lib.ListN.{length, take, drop, get_or, set, length-set, length-append, length-drop, take-append-drop, get_or-append}
use lib.Seq.{drop-nil, take-suc-set, drop-set-lt, take-length, take_all, take-append-le, take_at, get_or_at, length-take-le, drop-drop, drop-append-add}
use lib.Dec.{leb}
use borrow.Author.Tests.{le-leb, lt-leb, leb-true, leb-false}
use Rattle.ground.proofs.Cases.{either}
use Rattle.gaps.specs.declared.writing.Found.{Found}
use Rattle.gaps.specs.declared.writing.Found.TheVariants.{Done, More}
use Rattle.gaps.specs.Writing.{found, placed}
use Rattle.gaps.specs.clauses.Rows.{Writes}

-- nothing lies past the end
drop_past : (n : ℕ) (l : List ℕ) → length l ≤ n → drop n l ≡ []
drop_past n [] h = drop-nil n
drop_past zero (x ∷ l) h = absurd (omega arith)
drop_past (suc n) (x ∷ l) h = drop_past n l (omega arith)

module _ (out : List ℕ) where
  found_all : (l : List ℕ) → length l ≤ length out → found l (length out) ≡ Done (length l)
  unfolding found
  found_all l h = rw (le-leb (length l) (length out) h)

  found-more : (l : List ℕ) → length out < length l → found l (length out) ≡ More (length out) (get_or l (length out) 0)
  unfolding found
  found-more l h = rw (lt-leb (length l) (length out) h)

  placed-all : (l : List ℕ) → length l ≤ length out → placed l out ≡ l ++ drop (length l) out
  unfolding placed
  placed-all l h = rw (take_all (length out) l h)

  placed-more : (l : List ℕ) → length out ≤ length l → placed l out ≡ take (length out) l
  unfolding placed
  placed-more l h = rw (drop_past (length l) out h) (append-nil (take (length out) l))

-- all were written: there was room for them
pub found-done : (out l : List ℕ) (k : ℕ) → Done k ≡ found l (length out) → (length l ≤ length out) × (k ≡ length l)
found-done out l k e =
    ⊎_elim
    (λ (b : leb (length l) (length out) ≡ true).
    let h : length l ≤ length out = leb-true (length l) (length out) b in
    let p : Done k ≡ Done (length l) = e ∙ found_all out l h in
    (h, cc))
    (λ (b : leb (length l) (length out) ≡ false).
    let h : length out < length l = leb-false (length l) (length out) b in
    let p : Done k ≡ More (length out) (get_or l (length out) 0) = e ∙ found-more out l h in
    let z : ◌≡◌ {A = ℕ} 0 1 = cc in
    absurd (omega arith))
    (either (leb (length l) (length out)))

-- not all were written: there was no room for them
found-short : (out l : List ℕ) (k x : ℕ) → More k x ≡ found l (length out) → length out < length l
found-short out l k x e =
    ⊎_elim
    (λ (b : leb (length l) (length out) ≡ true).
    let h : length l ≤ length out = leb-true (length l) (length out) b in
    let p : More k x ≡ Done (length l) = e ∙ found_all out l h in
    let z : ◌≡◌ {A = ℕ} 0 1 = cc in
    absurd (omega arith))
    (λ (b : leb (length l) (length out) ≡ false). leb-false (length l) (length out) b)
    (either (leb (length l) (length out)))

-- nothing is written
pub writes-none : (out : List ℕ) (m : ℕ) → m ≤ length out → Writes out m [] (Done m) out
writes-none out m h =
    let n : length (take m out) ≡ m = length-take-le m out h in
    let b : length (take m out) ≤ length out = omega arith in
    record {
      answers = rw append-nil (sym (found_all out (take m out) b ∙ ap Done n));
      holds = rw append-nil (sym (placed-all out (take m out) b ∙ (rw (n, take-append-drop))));
    }

-- what was stored before the end of what is placed makes no difference
placed-set : (out : List ℕ) (m s : ℕ) (l : List ℕ) → m < length l → placed l (set out m s) ≡ placed l out
unfolding placed
placed-set out m s l h = rw (length-set out m s, drop-set-lt (length l) out m s h)

-- one state, and then the others
pub writes_one : (out : List ℕ) (m s : ℕ) (l : List ℕ) (r : Found) (after : List ℕ) → m < length out
    → Writes (set out m s) (m + 1) l r after → Writes out m (s ∷ l) r after
writes_one out m s l r after h w =
    let e : take (m + 1) (set out m s) ++ l ≡ take m out ++ (s ∷ l) = rw (add-one, take-suc-set) (append_assoc (take m out) (s ∷ []) l) in
    let f : length (set out m s) ≡ length out = length-set out m s in
    record {
      answers = rw (e, f) at w.answers;
      holds = (rw e at w.holds) ∙ placed-set out m s (take m out ++ (s ∷ l))
          (rw (length-append, length-take-le m out (omega arith)) (omega arith));
    }

-- the slice is full
pub writes-full : (out : List ℕ) (m s : ℕ) (l : List ℕ) → m ≡ length out → Writes out m (s ∷ l) (More m s) out
writes-full out m s l h =
    let e : take m out ≡ out = rw h (take-length out) in
    let b : length out < length (out ++ (s ∷ l)) = rw length-append (omega arith) in
    record {
      answers = rw (e, h) (sym (found-more out (out ++ (s ∷ l)) b ∙ ap (More (length out)) (get_or_at out s l 0 (length out) refl)));
      holds = rw e (sym (placed-more out (out ++ (s ∷ l)) (omega arith) ∙ take_at out (s ∷ l) (length out) refl));
    }

-- what stands after a list that was placed is what stood there
placed-then : (out l l' : List ℕ) → length l ≤ length out → placed (l ++ l') (l ++ drop (length l) out) ≡ placed (l ++ l') out
unfolding placed
placed-then out l l' h =
    let n : length (l ++ drop (length l) out) ≡ length out = rw (length-append, length-drop) (omega arith) in
    let d : drop (length (l ++ l')) (l ++ drop (length l) out) ≡ drop (length (l ++ l')) out = rw
    (length-append l l', drop-append-add l (drop (length l) out) (length l'), drop-drop (length l') (length l) out) in
    rw (n, d)

-- one list after another
pub writes_then : (out mid after : List ℕ) (m k : ℕ) (l l' : List ℕ) (r : Found)
    → Writes out m l (Done k) mid → Writes mid k l' r after → Writes out m (l ++ l') r after
writes_then out mid after m k l l' r v w =
    let all : List ℕ = take m out ++ l in
    let d = found-done out all k v.answers in
    let h : length all ≤ length out = d.0 in
    let i : mid ≡ all ++ drop (length all) out = v.holds ∙ placed-all out all h in
    let n : length mid ≡ length out = rw (i, length-append, length-drop) (omega arith) in
    let t : take k mid ≡ all = rw i (take_at all (drop (length all) out) k (sym d.1)) in
    let e : take k mid ++ l' ≡ take m out ++ (l ++ l') = rw t (append_assoc (take m out) l l') in
    record {
      answers = rw (e, n) at w.answers;
      holds = w.holds ∙ (rw (e, i) (rw (← append_assoc (take m out) l l') (placed-then out all l' h)));
    }

-- what does not fit stays so
pub writes-stop : (out after : List ℕ) (m k x : ℕ) (l l' : List ℕ) → Writes out m l (More k x) after → Writes out m (l ++ l') (More k x) after
writes-stop out after m k x l l' w =
    let all : List ℕ = take m out ++ l in
    let h : length out < length all = found-short out all k x w.answers in
    let e : take m out ++ (l ++ l') ≡ all ++ l' = sym (append_assoc (take m out) l l') in
    let b : length out < length (all ++ l') = rw length-append (omega arith) in
    record {
      answers = rw e (w.answers ∙ found-more out all h ∙ sym
          (found-more out (all ++ l') b ∙ ap (More (length out)) (get_or-append all l' 0 (length out) h)));
      holds = rw e (w.holds ∙ placed-more out all (omega arith) ∙ sym
          (placed-more out (all ++ l') (omega arith) ∙ take-append-le (length out) all l' (omega arith)));
    }

-- where all were written, they stand within the slice
pub writes-room : (out after : List ℕ) (m k : ℕ) (l : List ℕ) (r : Found) → r ≡ Done k → Writes out m l r after → k ≤ length out
writes-room out after m k l r e w =
    let d = found-done out (take m out ++ l) k (sym e ∙ w.answers) in
    omega (arith, d.0, d.1)
