-- The part that name gives for a flag of a text is that flag's code, where it first stands.
use Prim.Native.Nat.{ℕ, zero, suc, ◌+◌, ◌-◌, ◌≤◌}
use native.Mathlib.Omega.{arith}
use mathlib.Core.Path.{◌≡◌, sym, ap, subst, ◌∙◌}
use mathlib.Core.Logic.{⊎_elim}
use mathlib.Core.Bool.{false}
use mathlib.Core.List.{List, [], ◌∷◌}
use lib.ListN.{length, take, drop}
use Rattle.notation.specs.Tokens.{Code, Tokens, tokens}
use Rattle.notation.specs.Walk.{Flag, known}
use Rattle.notation.specs.Guard.{Guard}
use Rattle.notation.specs.Grammar.{number}
use Rattle.notation.specs.Reading.{Reading, reading, guard}
use Rattle.reading.specs.Service.{name_in, name_answer, part_of, part_with}
use Rattle.reading.proofs.Serving.{part_in}
use Rattle.text_laws.specs.Texts.{seen_in, Stands, IsFlag}
use Rattle.text_laws.proofs.Found.{is_read}
use Rattle.text_laws.proofs.Flags.{Own, own_in}
use Rattle.text_laws.proofs.Standing.{text-spelt, Ascending, text-ascending, First, firsts}

name_in_lem : (u : List Flag) (i : ℕ) (f : Flag) → IsFlag i f u → name_in u i ≡ part_with f.place (length f.name)
unfolding name_in
name_in_lem [] i f e = absurd e
name_in_lem (g ∷ u) zero f e = absurd e
name_in_lem (g ∷ u) (suc zero) f e = ap (λ (h : Flag). part_with h.place (length h.name)) (sym e)
name_in_lem (g ∷ u) (suc (suc i)) f e = name_in_lem u (suc i) f e

-- the place of each flag of a text is where its code first stands
first-in : (ts : Tokens) (i : ℕ) (f : Flag) → Ascending ts → IsFlag i f (seen_in [] ts) → First f ts
first-in ts i f a e =
    ⊎_elim (λ (h : IsFlag i f []). absurd h) (λ (h : (known f.name [] ≡ false) × First f ts). h.1) (firsts ts [] a i f e)

module _ (text : List ℕ) (g : Guard) (u : List Flag) (read : reading text ≡ guard g u) where
  -- the flags of a text are its codes by first appearance
  pub seen_all : u ≡ seen_in [] (tokens text)
  unfolding seen_in
  seen_all = (is_read text g u read).passes.flags

  module _ (i : ℕ) (f : Flag) (is : IsFlag i f u) where
    -- the code of flag i stands at the flag's place, and nowhere before
    pub name-first : Stands f.place f.name (tokens text) × ((p : ℕ) → Stands p f.name (tokens text) → f.place ≤ p)
    name-first = first-in (tokens text) i f (text-ascending text) (subst (λ (v : List Flag). IsFlag i f v) seen_all is)

    -- the part that name gives for flag i is where its code first stands, and the bytes there are the code
    pub name-is-code : (name_answer (reading text) i ≡ part_with f.place (length f.name)) × (part_of text (name_answer (reading text) i) ≡ f.name)
    unfolding name_answer
    name-is-code =
        let part : name_answer (reading text) i ≡ part_with f.place (length f.name) = ap (λ (r : Reading). name_answer r i) read ∙ name_in_lem u i f is in
        let there : (take (length f.name) (drop f.place text) ≡ f.name) × (f.place + length f.name ≤ length text) =
        text-spelt text f.place f.name name-first.0 in
        let long : f.place + length f.name - f.place ≡ length f.name = omega arith in
        let cut : take (f.place + length f.name - f.place) (drop f.place text) ≡ part_of text (name_answer (reading text) i) =
        part_in text (name_answer (reading text) i) (record { start = f.place; len = length f.name }) part (omega (arith, there.1)) (omega (arith, there.1)) in
        (part, sym cut ∙ ap (λ (n : ℕ). take n (drop f.place text)) long ∙ there.0)

    -- a flag is found by its code under its own number
    pub own-number : number f.name u ≡ i
    own-number = subst (λ (v : List Flag). Own v) (sym seen_all) (own_in [] (tokens text) (λ j h e. absurd e)) i f is

  -- flags have different codes
  pub codes-apart : (i j : ℕ) (f h : Flag) → IsFlag i f u → IsFlag j h u → f.name ≡ h.name → i ≡ j
  codes-apart i j f h a b e = sym (own-number i f a) ∙ ap (λ (c : Code). number c u) e ∙ own-number j h b
