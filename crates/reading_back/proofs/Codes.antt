-- The codes that the walk has seen are those of the flags met, in the same order: so a flag's number is its place among them.
use Prim.Native.Nat.{ℕ, suc, ◌≤◌}
use native.Mathlib.Omega.{arith}
use mathlib.Core.Path.{◌≡◌, refl, sym, ap, ◌∙◌}
use mathlib.Core.Logic.{⊎_elim}
use mathlib.Core.Bool.{true, false, false≢true}
use mathlib.Core.List.{List, [], ◌∷◌, ◌++◌, append_assoc}
use lib.ListN.{length, length-append}
use lib.Dec.{eqb}
use borrow.Author.Tests.{eq-eqb, ne_eqb}
use Rattle.notation.specs.Tokens.{Code}
use Rattle.notation.specs.Walk.{Flag, same_code, known, seen}
use Rattle.notation.specs.Guard.{Guard, flag, truth, negated, joined}
use Rattle.notation.specs.Grammar.{number}
use Rattle.ground.proofs.Cases.{either, split-eq}
use Rattle.reading_back.specs.Written.{among, met, place_in, Placed, EachPlaced}
use Rattle.notation.proofs.Keys.{same_self}

-- two codes that are the same have the same bytes
same_bytes : (c d : Code) → same_code c d ≡ true → c ≡ d
unfolding same_code
same_bytes [] [] h = refl
same_bytes [] (b ∷ d) h = absurd (false≢true h)
same_bytes (a ∷ c) [] h = absurd (false≢true h)
same_bytes (a ∷ c) (b ∷ d) h =
    ⊎_elim
    (λ (e : a ≡ b). let t : same_code c d ≡ true = rw (eq-eqb a b e) at h in let r : c ≡ d = same_bytes c d t in cc)
    (λ (n : a ≡ b → ⊥). let t : false ≡ true = rw (ne_eqb a b n) at h in absurd (false≢true t))
    (split-eq a b)

-- the list all begins with w
pub record Begins (w all : List ℕ) : Type 0 where
  pub more : List ℕ
  pub split : w ++ more ≡ all

begins-before : (w x all : List ℕ) → Begins (w ++ x) all → Begins w all
begins-before w x all b = record { more = x ++ b.more; split = sym (append_assoc w x b.more) ∙ b.split }

-- flags are only added at the end
pub begins-earlier : (w : List ℕ) (g : Guard) (all : List ℕ) → Begins (met w g) all → Begins w all
unfolding met
begins-earlier w (flag i) all b =
    ⊎_elim
    (λ (e : among i w ≡ true). rw e at b)
    (λ (e : among i w ≡ false). let c : Begins (w ++ (i ∷ [])) all = rw e at b in begins-before w (i ∷ []) all c)
    (either (among i w))
begins-earlier w (truth b) all h = h
begins-earlier w (negated g) all h = begins-earlier w g all h
begins-earlier w (joined s g k) all h = begins-earlier w g all (begins-earlier (met w g) k all h)

pub begins-length : (w all : List ℕ) → Begins w all → length w ≤ length all
begins-length w all b = omega (arith, length-append w b.more, ap length b.split)

-- the codes of flags with the property P are told apart; what was seen of them has the property Q
module _ (codes : ℕ → Code) (P : ℕ → Type 0) (Q : Flag → Type 0) (apart : (i j : ℕ) → P i → P j → codes i ≡ codes j → i ≡ j) where
  -- the codes seen are those of the flags w
  pub data Matches : List ℕ → List Flag → Type 0 where
    nothing : Matches [] []
    one : {j : ℕ} {w : List ℕ} {f : Flag} {u : List Flag} → P j → Q f → f.name ≡ codes j → Matches w u → Matches (j ∷ w) (f ∷ u)

  same-is : (i j : ℕ) → P i → P j → same_code (codes i) (codes j) ≡ eqb i j
  same-is i j p q =
      ⊎_elim
      (λ (e : i ≡ j). ap (λ (k : ℕ). same_code (codes i) (codes k)) (sym e) ∙ same_self (codes i) ∙ sym (eq-eqb i j e))
      (λ (n : i ≡ j → ⊥).
      ⊎_elim
      (λ (t : same_code (codes i) (codes j) ≡ true). absurd (n (apart i j p q (same_bytes (codes i) (codes j) t))))
      (λ (t : same_code (codes i) (codes j) ≡ false). t ∙ sym (ne_eqb i j n))
      (either (same_code (codes i) (codes j))))
      (split-eq i j)

  -- the same test of the code seen
  seen-is : (i j : ℕ) (f : Flag) → P i → P j → f.name ≡ codes j → same_code (codes i) f.name ≡ eqb i j
  seen-is i j f p q e = ap (same_code (codes i)) e ∙ same-is i j p q

  pub matches-length : {w : List ℕ} {u : List Flag} → Matches w u → length u ≡ length w
  matches-length nothing = refl
  matches-length (one p z e m) = ap suc (matches-length m)

  -- what is seen of each
  pub matches-each : (text : List ℕ) → ((f : Flag) → Q f → Placed text f) → {w : List ℕ} {u : List Flag} → Matches w u → EachPlaced text u
  matches-each text is nothing = tt
  matches-each text is (one {j} {w} {f} {u} p z e m) = (is f z, matches-each text is m)

  -- a code is known where its flag has been met
  pub known_is : {w : List ℕ} {u : List Flag} (i : ℕ) → P i → Matches w u → known (codes i) u ≡ among i w
  unfolding known among
  known_is i p nothing = refl
  known_is i p (one {j} {w} {f} {u} q z e m) = rw (seen-is i j f p q e, known_is i p m)

  matches-end : {w : List ℕ} {u : List Flag} (i : ℕ) (f : Flag) → P i → Q f → f.name ≡ codes i → Matches w u → Matches (w ++ (i ∷ []))
      (u ++ (f ∷ []))
  matches-end i f p z e nothing = one p z e nothing
  matches-end i f p z e (one q y d m) = one q y d (matches-end i f p z e m)

  -- one more code seen
  pub matches-seen : {w : List ℕ} {u : List Flag} (i at : ℕ) → P i → Q (record { place = at; name = codes i }) → Matches w u → Matches
      (met w (flag i)) (seen at (codes i) u)
  unfolding met seen
  matches-seen {w} {u} i at p z m =
      ⊎_elim
      (λ (e : among i w ≡ true). rw (known_is i p m, e) m)
      (λ (e : among i w ≡ false). rw (known_is i p m, e) (matches-end i (record { place = at; name = codes i }) p z refl m))
      (either (among i w))

  number-met : {w : List ℕ} {u : List Flag} (i : ℕ) (more : List ℕ) → P i → Matches w u → among i w ≡ true → number (codes i) u ≡ place_in
      (w ++ more) i
  unfolding number place_in among
  number-met i more p nothing h = absurd (false≢true h)
  number-met i more p (one {j} {w} {f} {u} q z e m) h =
      ⊎_elim
      (λ (t : eqb i j ≡ true). rw (seen-is i j f p q e, t))
      (λ (t : eqb i j ≡ false). let k : among i w ≡ true = rw t at h in rw (seen-is i j f p q e, t, number-met i more p m k))
      (either (eqb i j))

  number-new : {w : List ℕ} {u : List Flag} (i : ℕ) (more : List ℕ) → P i → Matches w u → among i w ≡ false → number (codes i) u ≡ place_in
      ((w ++ (i ∷ [])) ++ more) i
  unfolding number place_in among
  number-new i more p nothing h = rw (eq-eqb i i refl)
  number-new i more p (one {j} {w} {f} {u} q z e m) h =
      ⊎_elim
      (λ (t : eqb i j ≡ true). let k : true ≡ false = rw t at h in absurd (false≢true (sym k)))
      (λ (t : eqb i j ≡ false). let k : among i w ≡ false = rw t at h in rw (seen-is i j f p q e, t, number-new i more p m k))
      (either (eqb i j))

  -- the number of a code is the place of its flag among all that will be met
  pub number_is : {w : List ℕ} {u : List Flag} (i : ℕ) (all : List ℕ) → P i → Matches w u → Begins (met w (flag i)) all → number (codes i) u
      ≡ place_in all i
  unfolding met
  number_is {w} {u} i all p m b =
      ⊎_elim
      (λ (e : among i w ≡ true).
      let s : w ++ b.more ≡ all = rw e at b.split in
      number-met i b.more p m e ∙ ap (λ (x : List ℕ). place_in x i) s)
      (λ (e : among i w ≡ false).
      let s : (w ++ (i ∷ [])) ++ b.more ≡ all = rw e at b.split in
      number-new i b.more p m e ∙ ap (λ (x : List ℕ). place_in x i) s)
      (either (among i w))
