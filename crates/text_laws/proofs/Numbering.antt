-- The flags of a tree are numbered by first appearance in the text: its leaves are the text's codes, each by its number.
use Prim.Native.Nat.{ℕ, zero, suc, ◌≤◌, ◌<◌}
use native.Mathlib.Numerals.{add-one}
use native.Mathlib.Omega.{arith}
use mathlib.Core.Path.{◌≡◌, refl, sym, ap, ◌∙◌}
use mathlib.Core.Logic.{⊎_elim}
use mathlib.Core.Bool.{true, false}
use mathlib.Core.List.{List, [], ◌∷◌, ◌++◌, map, map-append, append-nil}
use lib.ListN.{length, length-append}
use lib.Dec.{eqb}
use borrow.Author.Tests.{eq-eqb, ne_eqb}
use Rattle.notation.specs.Tokens.{Code, Tokens, end, at, tokens}
use Rattle.ground.specs.Choice.{choose}
use Rattle.notation.specs.Walk.{Flag, known, seen}
use Rattle.notation.specs.Guard.{Guard, flag, truth, negated, joined}
use Rattle.notation.specs.Grammar.{number}
use Rattle.notation.specs.Reading.{reading, guard}
use Rattle.ground.proofs.Cases.{either, lt-or-ge}
use Rattle.notation.proofs.Numbered.{known-within, seen-fine}
use Rattle.reading_back.specs.Written.{among, met, order, up_to}
use Rattle.ground.proofs.Truths.{either_way}
use Rattle.text_laws.specs.Texts.{code_of, codes_in, leaves, seen_at, seen_in}
use Rattle.text_laws.proofs.Passing.{numbers_at, numbers_in}
use Rattle.text_laws.proofs.Found.{is_read}
use Rattle.text_laws.proofs.Flags.{number-new, seen-new, seen-known, number-seen, Keeps, keeps_on, keeps-at, keeps-in}
use Rattle.text_laws.proofs.Naming.{seen_all}

-- ---- the numbers of the codes
-- the number that a code gets when it is seen is the one that it has among all codes seen in the end
numbers-at : (p : ℕ) (u : List Flag) (cs : List Code) (w : List Flag) → Keeps (seen_at p cs u) w → numbers_at p u cs ≡ map (λ c. number c w) cs
unfolding numbers_at seen_at
numbers-at p u [] w k = refl
numbers-at p u (c ∷ cs) w k =
    let all : Keeps (seen p c u) w = keeps_on (keeps-at p cs (seen p c u)) k in
    let is : number c w ≡ number c u = all.same c (omega (arith, number-seen p c u, (seen-fine p c u).2)) ∙ number-seen p c u in
    rw (is, numbers-at p (seen p c u) cs w k)

numbers-in : (u : List Flag) (ts : Tokens) → numbers_in u ts ≡ map (λ c. number c (seen_in u ts)) (codes_in ts)
unfolding numbers_in seen_in codes_in
numbers-in u (end p) = refl
numbers-in u (at p t ts) =
    rw (
      map-append,
      numbers-at p u (code_of t) (seen_in (seen_at p (code_of t) u) ts) (keeps-in (seen_at p (code_of t) u) ts),
      numbers-in (seen_at p
          (code_of t) u) ts,
    )

-- ---- the order of the flags
-- the flags met after w by going through a list of them
met_in : List ℕ → List ℕ → List ℕ
met_in w [] = w
met_in w (i ∷ is) = met_in (met w (flag i)) is

met-append : (w is js : List ℕ) → met_in w (is ++ js) ≡ met_in (met_in w is) js
unfolding met_in
met-append w [] js = refl
met-append w (i ∷ is) js = met-append (met w (flag i)) is js

met-leaves : (w : List ℕ) (g : Guard) → met w g ≡ met_in w (leaves g)
unfolding met_in met leaves
met-leaves w (flag i) = refl
met-leaves w (truth b) = refl
met-leaves w (negated g) = met-leaves w g
met-leaves w (joined s g h) = met-leaves (met w g) h ∙ ap (λ (v : List ℕ). met_in v (leaves h)) (met-leaves w g) ∙ sym
    (met-append w (leaves g) (leaves h))

among-append : (i : ℕ) (w v : List ℕ) → among i (w ++ v) ≡ choose (among i w) true (among i v)
unfolding among
among-append i [] v = refl
among-append i (j ∷ w) v =
    ⊎_elim (λ (e : eqb i j ≡ true). rw e) (λ (e : eqb i j ≡ false). rw (e, among-append i w v)) (either (eqb i j))

-- 1 to n are among 1 to n, and no later number is
up-to-has : (n i : ℕ) → 0 < i → i ≤ n → among i (up_to n) ≡ true
unfolding up_to among
up-to-has zero i h l = absurd (omega arith)
up-to-has (suc n) i h l =
    ⊎_elim
    (λ (e : i < suc n). rw (among-append i (up_to n) (suc n ∷ []), up-to-has n i h (omega arith)))
    (λ (e : suc n ≤ i).
    let is : i ≡ suc n = omega arith in
    rw (among-append i (up_to n) (suc n ∷ []), eq-eqb i (suc n) is) (either_way (among i (up_to n))))
    (lt-or-ge i (suc n))

up-to-ends : (n i : ℕ) → n < i → among i (up_to n) ≡ false
unfolding up_to among
up-to-ends zero i h = refl
up-to-ends (suc n) i h =
    rw (among-append i (up_to n) (suc n ∷ []), up-to-ends n i (omega arith), ne_eqb i (suc n) (λ (e : i ≡ suc n). omega arith))

-- one more code is met as the flag with its number
met-seen : (p : ℕ) (c : Code) (u : List Flag) → met (up_to (length u)) (flag (number c u)) ≡ up_to (length (seen p c u))
unfolding met up_to
met-seen p c u =
    ⊎_elim
    (λ (e : known c u ≡ true).
    rw (up-to-has (length u) (number c u) (seen-fine p c u).1 (known-within c u e), seen-known p c u e))
    (λ (e : known c u ≡ false).
    let is : number c u ≡ suc (length u) = omega (arith, number-new c u e) in
    let long : length (seen p c u) ≡ suc (length u) =
    ap length (seen-new p c u e) ∙ length-append u (record { place = p; name = c } ∷ []) ∙ add-one (length u) in
    rw (long, is, up-to-ends (length u) (suc (length u)) (omega arith)))
    (either (known c u))

met_at : (p : ℕ) (u : List Flag) (cs : List Code) → met_in (up_to (length u)) (numbers_at p u cs) ≡ up_to (length (seen_at p cs u))
unfolding met_in numbers_at seen_at
met_at p u [] = refl
met_at p u (c ∷ cs) = ap (λ (w : List ℕ). met_in w (numbers_at p (seen p c u) cs)) (met-seen p c u) ∙ met_at p (seen p c u) cs

met-in : (u : List Flag) (ts : Tokens) → met_in (up_to (length u)) (numbers_in u ts) ≡ up_to (length (seen_in u ts))
unfolding met_in numbers_in seen_in
met-in u (end p) = refl
met-in u (at p t ts) =
    let v : List Flag = seen_at p (code_of t) u in
    met-append (up_to (length u)) (numbers_at p u (code_of t)) (numbers_in v ts)
    ∙ ap (λ (w : List ℕ). met_in w (numbers_in v ts)) (met_at p u (code_of t))
    ∙ met-in v ts

-- ---- a whole text
module _ (text : List ℕ) (g : Guard) (u : List Flag) (read : reading text ≡ guard g u) where
  leaves_in : leaves g ≡ numbers_in [] (tokens text)
  unfolding numbers_in
  leaves_in = sym (append-nil (leaves g)) ∙ (is_read text g u read).passes.numbers

  -- the flags of the tree from the left are the codes of the text from the left, each by its number among the flags
  pub leaves-are-codes : leaves g ≡ map (λ c. number c u) (codes_in (tokens text))
  leaves-are-codes =
      leaves_in ∙ numbers-in [] (tokens text) ∙ ap (λ (v : List Flag). map (λ c. number c v) (codes_in (tokens text))) (sym (seen_all text g u read))

  -- the flags of the tree by first appearance are 1 to n
  pub flags-in-order : order g ≡ up_to (length u)
  unfolding order up_to
  flags-in-order =
      met-leaves [] g ∙ ap (met_in []) leaves_in ∙ met-in [] (tokens text) ∙ ap (λ (v : List Flag). up_to (length v)) (sym (seen_all text g u read))
