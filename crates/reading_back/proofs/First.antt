-- The flags seen after the text of a guard are those met, each at the place where it first stands.
use Prim.Native.Nat.{ℕ, suc, ◌+◌}
use native.Mathlib.Omega.{arith}
use mathlib.Core.Path.{◌≡◌, refl}
use mathlib.Core.Logic.{◌⊎◌, inl, inr, ⊎_elim}
use mathlib.Core.Bool.{Bool, true, false}
use mathlib.Core.List.{List, [], map, map-append}
use lib.ListN.{length}
use lib.Dec.{ltb}
use Rattle.notation.specs.Tokens.{Code}
use Rattle.ground.specs.Choice.{choose}
use Rattle.notation.specs.Walk.{Flag, seen}
use Rattle.notation.specs.Guard.{Guard, flag, truth, negated, joined}
use Rattle.ground.proofs.Cases.{either, never}
use Rattle.reading_back.specs.Written.{level_of, left_of, right_of, written, Stands, among, met, order, before, flags_of}
use Rattle.reading_back.proofs.Codes.{Matches, nothing, known_is, matches-seen}
use Rattle.reading_back.proofs.Order.{stays_met, stands-met, order-stands, stands-order}
use Rattle.reading_back.proofs.Trees.{seen_after}

-- a bracket before a text moves it by one
moved : (b : Bool) (p x y : ℕ) → y ≡ p + (choose b 1 0 + x) → y ≡ choose b (suc p) p + x
moved true p x y e = omega arith
moved false p x y e = omega arith

-- what has not been met after w and g was in neither
not-before : (i : ℕ) (w : List ℕ) (g : Guard) → among i (met w g) ≡ false → among i w ≡ false
not-before i w g n =
    ⊎_elim (λ (e : among i w ≡ true). absurd (never (among i (met w g)) (stays_met i w g e) n)) (λ (e : among i w ≡ false). e) (either (among i w))

not_in : (i : ℕ) (w : List ℕ) (g : Guard) → among i (met w g) ≡ false → among i (order g) ≡ false
not_in i w g n =
    ⊎_elim
    (λ (e : among i (order g) ≡ true). absurd (never (among i (met w g)) (stands-met i w g (order-stands i g e)) n))
    (λ (e : among i (order g) ≡ false). e)
    (either (among i (order g)))

-- the flags with the property P have codes that are told apart, and stand first where first says
module _ (codes : ℕ → Code) (P : ℕ → Type 0) (apart : (i j : ℕ) → P i → P j → codes i ≡ codes j → i ≡ j) (first : ℕ → ℕ) where
  abbrev flag_at : ℕ → Flag
  flag_at i = record { place = first i; name = codes i }

  -- the flags w have been seen, each where it first stands
  record SeenFirst (w : List ℕ) (u : List Flag) : Type 0 where
    matches : Matches codes P (λ f. Unit {0}) apart w u
    all : u ≡ map flag_at w

  -- a flag of g that has not been met yet stands first in g, whose text is at place p
  abbrev Firsts : ℕ → Guard → ℕ → List ℕ → Type 0
  Firsts l g p w = (i : ℕ) → Stands i g → among i w ≡ false → first i ≡ p + before codes l g i

  seen-flag : (i p : ℕ) (w : List ℕ) (u : List Flag) → P i → SeenFirst w u → (among i w ≡ false → first i ≡ p) → seen p (codes i) u ≡ map
      flag_at (met w (flag i))
  unfolding seen met
  seen-flag i p w u h x f =
      ⊎_elim
      (λ (e : among i w ≡ true). rw (known_is codes P (λ f. Unit {0}) apart i h x.matches, e) x.all)
      (λ (e : among i w ≡ false).
      rw (known_is codes P (λ f. Unit {0}) apart i h x.matches, e)
      (rw (map-append, x.all, f e)))
      (either (among i w))

  -- the left side of a sign, and the right side behind it
  module _ (g h : Guard) (l r p n : ℕ) (w : List ℕ) (b : Bool)
      (f : (i : ℕ) → Stands i g ⊎ Stands i h → among i w ≡ false →
      first i ≡ p + (choose b 1 0 + choose (among i (order g)) (before codes l g i) (n + 1 + before codes r h i))) where
    left-firsts : Firsts l g (choose b (suc p) p) w
    left-firsts i e a =
        let x : first i ≡ p + (choose b 1 0 + before codes l g i) = rw (stands-order i g e) at (f i (inl e) a) in
        moved b p (before codes l g i) (first i) x

    right-firsts : Firsts r h (suc (choose b (suc p) p + n)) (met w g)
    right-firsts i e a =
        let x : first i ≡ p + (choose b 1 0 + (n + 1 + before codes r h i)) = rw (not_in i w g a) at (f i (inr e) (not-before i w g a)) in
        let y : first i ≡ choose b (suc p) p + (n + 1 + before codes r h i) = moved b p (n + 1 + before codes r h i) (first i) x in
        omega arith

  -- every guard
  seen_first : (l : ℕ) (g : Guard) (p : ℕ) (w : List ℕ) (u : List Flag) → ((i : ℕ) → Stands i g → P i) → SeenFirst w u → Firsts l g p w →
      SeenFirst (met w g) (seen_after codes l g p u)
  unfolding seen_after before met
  seen_first l (flag i) p w u h x f = record {
    matches = matches-seen codes P (λ f. Unit {0}) apart i p (h i refl) tt x.matches;
    all = seen-flag i p w u (h i refl) x (λ e. omega (arith, f i refl e));
  }
  seen_first l (truth b) p w u h x f = x
  seen_first l (negated g) p w u h x f = seen_first 4 g (suc p) w u h x (λ i e a. omega (arith, f i e a))
  seen_first l (joined s g k) p w u h x f =
      let b : Bool = ltb (level_of s) l in
      let n : ℕ = length (written codes (left_of s) g) in
      seen_first (right_of s) k (suc (choose b (suc p) p + n)) (met w g) (seen_after codes (left_of s) g (choose b (suc p) p) u) (λ i e. h i (inr e))
      (seen_first (left_of s) g (choose b (suc p) p) w u (λ i e. h i (inl e)) x (left-firsts g k (left_of s) (right_of s) p n w b f))
      (right-firsts g k (left_of s) (right_of s) p n w b f)

-- the flags seen after the whole text of a guard
pub all_seen : (codes : ℕ → Code) (g : Guard) → ((i j : ℕ) → Stands i g → Stands j g → codes i ≡ codes j → i ≡ j) → seen_after codes 0 g
    0 [] ≡ flags_of codes g
unfolding flags_of order
all_seen codes g apart =
    (seen_first codes (λ i. Stands i g) apart (before codes 0 g) 0 g 0 [] [] (λ i e. e)
    (record { matches = nothing; all = refl }) (λ i e a. omega arith)).all
