-- Lines are cut off one at a time: the bytes passed so far, none of them LF, stand before the first line of what is left.
use Prim.Native.Nat.{ℕ, suc, ◌+◌, ◌-◌, ◌≤◌, ◌<◌}
use native.Mathlib.Omega.{arith}
use native.Mathlib.Numerals.{add-one}
use mathlib.Core.Path.{◌≡◌, refl, sym, ap, ◌∙◌}
use mathlib.Core.List.{List, [], ◌∷◌, ◌++◌, append_assoc}
use lib.ListN.{length, drop, get_or, length-append, length-drop, drop_of_length-le}
use lib.Seq.{drop-cons, take-suc, get_or-drop}
use borrow.Author.Tests.{eq-eqb, ne_eqb}
use Rattle.notation.specs.clauses.Cut.{part}
use Rattle.notation.proofs.Coding.{part_length}
use Rattle.lines.specs.Lines.{line_feed, onto, lines}
use Rattle.lines.specs.clauses.Cutting.{LineEnd, Through, ended, line, LinesBefore, LineAt}

-- bytes in front of the first line
unfoldable pub before : List ℕ → List (List ℕ) → List (List ℕ)
before [] ls = ls
before (b ∷ p) ls = onto b (before p ls)

before_more : (p : List ℕ) (b : ℕ) (ls : List (List ℕ)) → before p (onto b ls) ≡ before (p ++ (b ∷ [])) ls
unfolding before
before_more [] b ls = refl
before_more (a ∷ p) b ls = ap (onto a) (before_more p b ls)

before-line : (p : List ℕ) (ls : List (List ℕ)) → before p ([] ∷ ls) ≡ p ∷ ls
unfolding before onto
before-line [] ls = refl
before-line (b ∷ p) ls = ap (onto b) (before-line p ls)

before-none : (p : List ℕ) → 0 < length p → before p [] ≡ p ∷ []
unfolding before onto
before-none [] h = absurd (omega arith)
before-none (b ∷ []) h = refl
before-none (b ∷ a ∷ p) h = ap (onto b) (before-none (a ∷ p) (omega arith))

module _ (input : List ℕ) where
  lines-feed : (i : ℕ) → i < length input → get_or input i 0 ≡ line_feed → lines (drop i input) ≡ [] ∷ lines (drop (i + 1) input)
  unfolding lines
  lines-feed i h e = rw (add-one, drop-cons input i 0 h, eq-eqb (get_or input i 0) line_feed e)

  lines_other : (i : ℕ) → i < length input → (get_or input i 0 ≡ line_feed → ⊥) → lines (drop i input) ≡ onto (get_or input i 0)
      (lines (drop (i + 1) input))
  unfolding lines
  lines_other i h n = rw (add-one, drop-cons input i 0 h, ne_eqb (get_or input i 0) line_feed n)

  lines-past : (i : ℕ) → length input ≤ i → lines (drop i input) ≡ []
  unfolding lines
  lines-past i h = rw (drop_of_length-le input h)

  part-more : (start i : ℕ) → start ≤ i → i < length input → part start (i + 1) input ≡ part start i input ++ (get_or input i 0 ∷ [])
  part-more start i l h =
      let m : i + 1 - start ≡ suc (i - start) = omega arith in
      let e : start + (i - start) ≡ i = omega arith in
      rw (m, take-suc (drop start input) (i - start) 0 (rw length-drop (omega arith)), get_or-drop start input (i - start) 0, e)

  -- the bytes from start up to a place are no LF
  abbrev pub Passed : ℕ → ℕ → Type 0
  Passed start i = lines (drop start input) ≡ before (part start i input) (lines (drop i input))

  pub passed_none : (start : ℕ) → Passed start start
  unfolding before
  passed_none start = let z : start - start ≡ 0 = omega arith in rw z

  pub passed-more : (start i : ℕ) → start ≤ i → i < length input → (get_or input i 0 ≡ line_feed → ⊥) → Passed start i → Passed start (i + 1)
  passed-more start i l h n p =
      p ∙ ap (before (part start i input)) (lines_other i h n)
      ∙ before_more (part start i input) (get_or input i 0) (lines (drop (i + 1) input))
      ∙ ap (λ (q : List ℕ). before q (lines (drop (i + 1) input))) (sym (part-more start i l h))

  pub end-at-feed : (start i : ℕ) → start ≤ i → i < length input → get_or input i 0 ≡ line_feed → Passed start i → LineEnd input start i
  end-at-feed start i l h e p =
      record {
        later = l;
        inside = omega arith;
        cut = p ∙ ap (before (part start i input)) (lines-feed i h e) ∙ before-line (part start i input) (lines (drop (i + 1) input));
      }

  pub end-at-end : (start i : ℕ) → start < length input → i ≡ length input → Passed start i → LineEnd input start i
  end-at-end start i h e p =
      let l : length (part start i input) ≡ i - start = part_length input start i (omega arith) in
      record {
        later = omega arith;
        inside = omega arith;
        cut =
            p ∙ ap (before (part start i input)) (lines-past i (omega arith)) ∙ before-none (part start i input) (omega arith)
            ∙ ap (λ (ls : List (List ℕ)). part start i input ∷ ls) (sym (lines-past (i + 1) (omega arith)));
      }

  -- no second end
  pub line-end-unique : (start r s : ℕ) → LineEnd input start r → LineEnd input start s → r ≡ s
  line-end-unique start r s a b =
      let e : part start r input ∷ lines (drop (r + 1) input) ≡ part start s input ∷ lines (drop (s + 1) input) = sym a.cut ∙ b.cut in
      let p : part start r input ≡ part start s input = cc in
      omega (arith, part_length input start r a.inside, part_length input start s b.inside, ap (λ (q : List ℕ). length q) p, a.later, b.later)

  -- cutting from a place on goes through exactly the lines from there on
  pub through-lines : {start : ℕ} {ls : List (List ℕ)} → Through input start ls → ls ≡ lines (drop start input)
  through-lines {start} (ended h) = sym (lines-past start h)
  through-lines {start} (line {r} {ls} h e t) = ap (λ (x : List (List ℕ)). part start r input ∷ x) (through-lines t) ∙ sym e.cut

  -- ---- the number of a line
  pub before-first : LinesBefore input 0 0
  before-first = record { passed = []; count = refl; whole = refl }

  pub before-next : (n start r : ℕ) → LinesBefore input n start → LineEnd input start r → LinesBefore input (n + 1) (r + 1)
  before-next n start r b e =
      record {
        passed = b.passed ++ (part start r input ∷ []);
        count = length-append b.passed (part start r input ∷ []) ∙ ap (λ (m : ℕ). m + 1) b.count;
        whole =
            b.whole ∙ ap (λ (ls : List (List ℕ)). b.passed ++ ls) e.cut
            ∙ sym (append_assoc b.passed (part start r input ∷ []) (lines (drop (r + 1) input)));
      }

  pub numbered : (n start r : ℕ) → LinesBefore input n start → LineEnd input start r → LineAt input (n + 1) start r
  numbered n start r b e =
      record {
        passed = b.passed;
        left = lines (drop (r + 1) input);
        count = ap (λ (m : ℕ). m + 1) b.count;
        whole = b.whole ∙ ap (λ (ls : List (List ℕ)). b.passed ++ ls) e.cut;
        later = e.later;
        inside = e.inside;
      }

  -- ---- how many lines there are
  pub before-all : (n start : ℕ) → LinesBefore input n start → length input ≤ start → n ≡ length (lines input)
  before-all n start b h =
      let e : lines input ≡ b.passed ++ [] = b.whole ∙ ap (λ (ls : List (List ℕ)). b.passed ++ ls) (lines-past start h) in
      omega (arith, b.count, ap (λ (ls : List (List ℕ)). length ls) e, length-append b.passed [])

  pub before-some : (n start r : ℕ) → LinesBefore input n start → LineEnd input start r → n < length (lines input)
  before-some n start r b e =
      let l : LineAt input (n + 1) start r = numbered n start r b e in
      omega (arith, l.count, ap (λ (ls : List (List ℕ)). length ls) l.whole, length-append l.passed (part start r input ∷ l.left))

-- cutting an input from its start goes through exactly its lines
pub through-input : (input : List ℕ) (ls : List (List ℕ)) → Through input 0 ls → ls ≡ lines input
through-input input ls t = through-lines input t
