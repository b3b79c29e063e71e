-- Guards as text: brackets stand where the levels need them and nowhere else, and a guard that is out of order is read back renumbered.
use Prim.Native.Nat.{ℕ, ◌+◌}
use native.Mathlib.Omega.{arith}
use mathlib.Core.Path.{◌≡◌, refl, sym, subst}
use mathlib.Core.Bool.{false}
use mathlib.Core.Logic.{◌⊎◌, inr, ⊎_elim}
use mathlib.Core.List.{[], ◌∷◌}
use Rattle.notation.specs.Tokens.{Code, same, implies, or, and, code_byte, among}
use Rattle.notation.specs.Guard.{Guard, flag, truth, negated, joined, connectives}
use Rattle.notation.specs.Reading.{reading, guard}
use Rattle.reading_back.specs.Written as text
use Rattle.reading_back.specs.Written.{sign_byte, level_of, left_of, right_of, bracketed, written, nesting, Stands, met, order, place_in, renamed}
use Rattle.reading_back.specs.Written.{renumbered, before, flags_of, code_bytes, IsCode, WithinCeilings}
use Rattle.reading_back.proofs.ReadBack.{read_back}

-- flag 1 is `A`, flag 2 is `B`, flag 3 is `C`
letters : ℕ → Code
letters i = (64 + i) ∷ []

-- `(A|B)&!(B>A)`
brackets-needed : written letters 0 (joined and (joined or (flag 1) (flag 2)) (negated (joined implies (flag 2) (flag 1))))
    ≡ 40 ∷ 65 ∷ 124 ∷ 66 ∷ 41 ∷ 38 ∷ 33 ∷ 40 ∷ 66 ∷ 62 ∷ 65 ∷ 41 ∷ []
unfolding written bracketed sign_byte level_of left_of right_of letters
brackets-needed = refl

-- `A=B>C|#0&!A`
no-brackets : written letters 0 (joined same (flag 1) (joined implies (flag 2) (joined or (flag 3) (joined and (truth false) (negated (flag 1))))))
    ≡ 65 ∷ 61 ∷ 66 ∷ 62 ∷ 67 ∷ 124 ∷ 35 ∷ 48 ∷ 38 ∷ 33 ∷ 65 ∷ []
unfolding written bracketed sign_byte level_of left_of right_of letters
no-brackets = refl

-- `A>B>C` groups to the right, `(A>B)>C` does not
to-the-right : written letters 0 (joined implies (flag 1) (joined implies (flag 2) (flag 3))) ≡ 65 ∷ 62 ∷ 66 ∷ 62 ∷ 67 ∷ []
unfolding written bracketed sign_byte level_of left_of right_of letters
to-the-right = refl

not-to-the-right : written letters 0 (joined implies (joined implies (flag 1) (flag 2)) (flag 3)) ≡ 40 ∷ 65 ∷ 62 ∷ 66 ∷ 41 ∷ 62 ∷ 67 ∷ []
unfolding written bracketed sign_byte level_of left_of right_of letters
not-to-the-right = refl

-- `A|B|C` groups to the left, `A|(B|C)` does not
to-the-left : written letters 0 (joined or (joined or (flag 1) (flag 2)) (flag 3)) ≡ 65 ∷ 124 ∷ 66 ∷ 124 ∷ 67 ∷ []
unfolding written bracketed sign_byte level_of left_of right_of letters
to-the-left = refl

not-to-the-left : written letters 0 (joined or (flag 1) (joined or (flag 2) (flag 3))) ≡ 65 ∷ 124 ∷ 40 ∷ 66 ∷ 124 ∷ 67 ∷ 41 ∷ []
unfolding written bracketed sign_byte level_of left_of right_of letters
not-to-the-left = refl

-- `B|A&B`
unordered : Guard
unordered = joined or (flag 2) (joined and (flag 1) (flag 2))

one-or-two : (i : ℕ) → Stands i unordered → (i ≡ 1) ⊎ (i ≡ 2)
unfolding unordered
one-or-two i h =
    ⊎_elim (λ (e : i ≡ 2). inr e) (λ (t : (i ≡ 1) ⊎ (i ≡ 2)). t) h

letter-one : IsCode (letters 1)
unfolding letters code_bytes code_byte among
letter-one = record { some = omega arith; short = omega arith; bytes = refl }

letter-two : IsCode (letters 2)
unfolding letters code_bytes code_byte among
letter-two = record { some = omega arith; short = omega arith; bytes = refl }

-- it is within the ceilings
unordered-within : WithinCeilings letters unordered
unfolding letters order met text.among connectives nesting written bracketed sign_byte level_of left_of right_of unordered
unordered-within = record {
  coded = λ i h.
      ⊎_elim
      (λ (e : i ≡ 1). subst (λ (j : ℕ). IsCode (letters j)) (sym e) letter-one)
      (λ (e : i ≡ 2). subst (λ (j : ℕ). IsCode (letters j)) (sym e) letter-two)
      (one-or-two i h);
  apart = λ i j h k e. let same_byte : 64 + i ≡ 64 + j = cc in omega arith;
  flags = omega arith;
  connectives = omega arith;
  brackets = omega arith;
  text = omega arith;
}

-- and is read with `B` as flag 1, at place 0, and `A` as flag 2, at place 2
unordered-read : reading (66 ∷ 124 ∷ 65 ∷ 38 ∷ 66 ∷ [])
    ≡ guard (joined or (flag 1) (joined and (flag 2) (flag 1))) (record { place = 0; name = 66 ∷ [] } ∷ record { place = 2; name = 65 ∷ [] } ∷ [])
unfolding letters order met text.among place_in renamed renumbered before flags_of written bracketed sign_byte level_of left_of right_of unordered
unordered-read = read_back letters unordered unordered-within
