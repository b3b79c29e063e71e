-- A guard whose flags are already numbered by first appearance is read back as it is.
use Prim.Native.Nat.{ℕ, zero, suc, ◌+◌}
use native.Mathlib.Omega.{arith}
use mathlib.Core.Path.{◌≡◌, refl, sym, ap, ◌∙◌}
use mathlib.Core.Logic.{inl, inr, ⊎_elim}
use mathlib.Core.Bool.{true, false, false≢true}
use mathlib.Core.List.{List, [], ◌∷◌, ◌++◌}
use lib.ListN.{length, length-append}
use lib.Dec.{eqb}
use borrow.Author.Tests.{eq-eqb}
use Rattle.notation.specs.Tokens.{Code}
use Rattle.notation.specs.Guard.{Guard, flag, truth, negated, joined}
use Rattle.notation.specs.Reading.{reading, guard}
use Rattle.ground.proofs.Cases.{either}
use Rattle.reading_back.specs.Written.{Stands, among, order, place_in, renamed, renumbered, up_to, flags_of, written, WithinCeilings}
use Rattle.reading_back.proofs.Order.{among-last, stands-order}
use Rattle.reading_back.proofs.ReadBack.{read_back}

-- the place of a number that stands in the first list, or that the second begins with
place-first : (i : ℕ) (w v : List ℕ) → among i w ≡ true → place_in (w ++ v) i ≡ place_in w i
unfolding place_in among
place-first i [] v h = absurd (false≢true h)
place-first i (j ∷ w) v h =
    ⊎_elim
    (λ (e : eqb i j ≡ true). rw e)
    (λ (e : eqb i j ≡ false). let t : among i w ≡ true = rw e at h in rw (e, place-first i w v t))
    (either (eqb i j))

place-next : (i : ℕ) (w : List ℕ) → among i w ≡ false → place_in (w ++ (i ∷ [])) i ≡ length w + 1
unfolding place_in among
place-next i [] h = rw (eq-eqb i i refl)
place-next i (j ∷ w) h =
    ⊎_elim
    (λ (e : eqb i j ≡ true). let t : true ≡ false = rw e at h in absurd (false≢true (sym t)))
    (λ (e : eqb i j ≡ false). let t : among i w ≡ false = rw e at h in rw (e, place-next i w t) (omega arith))
    (either (eqb i j))

up-to-length : (n : ℕ) → length (up_to n) ≡ n
unfolding up_to
up-to-length zero = refl
up-to-length (suc n) = rw (length-append, up-to-length n) (omega arith)

-- each of 1 to n has its own place
place-up-to : (n i : ℕ) → among i (up_to n) ≡ true → place_in (up_to n) i ≡ i
unfolding up_to among
place-up-to zero i h = absurd (false≢true h)
place-up-to (suc n) i h =
    ⊎_elim
    (λ (e : among i (up_to n) ≡ true). place-first i (up_to n) (suc n ∷ []) e ∙ place-up-to n i e)
    (λ (e : among i (up_to n) ≡ false).
    ⊎_elim
    (λ (t : among i (up_to n) ≡ true). absurd (false≢true (sym e ∙ t)))
    (λ (t : i ≡ suc n).
    ap (λ (k : ℕ). place_in (up_to n ++ (k ∷ [])) i) (sym t) ∙ place-next i (up_to n) e ∙ omega (arith, up-to-length n))
    (among-last i (suc n) (up_to n) h))
    (either (among i (up_to n)))

-- numbers that stay as they are leave the guard
renamed-same : (f : ℕ → ℕ) (g : Guard) → ((i : ℕ) → Stands i g → f i ≡ i) → renamed f g ≡ g
unfolding renamed
renamed-same f (flag i) h = ap flag (h i refl)
renamed-same f (truth b) h = refl
renamed-same f (negated g) h = ap negated (renamed-same f g h)
renamed-same f (joined s g k) h = rw (renamed-same f g (λ i e. h i (inl e)), renamed-same f k (λ i e. h i (inr e)))

-- where the flags by first appearance are 1 to n, renumbering changes nothing
pub renumbered-same : (n : ℕ) (g : Guard) → order g ≡ up_to n → renumbered g ≡ g
unfolding renumbered
renumbered-same n g e =
    renamed-same (place_in (order g)) g
    (λ i h. let there : among i (up_to n) ≡ true = rw e at (stands-order i g h) in rw e (place-up-to n i there))

pub read-back-same : (codes : ℕ → Code) (n : ℕ) (g : Guard) → WithinCeilings codes g → order g ≡ up_to n → reading (written codes 0 g) ≡ guard
    g (flags_of codes g)
read-back-same codes n g c e = read_back codes g c ∙ ap (λ (h : Guard). guard h (flags_of codes g)) (renumbered-same n g e)
