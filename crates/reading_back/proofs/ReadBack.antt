-- Reading back: the text of a tree within the ceilings is read as that tree, its flags numbered by first appearance.
use Prim.Native.Nat.{ℕ, ◌≤◌}
use native.Mathlib.Omega.{arith}
use mathlib.Core.Path.{◌≡◌, refl, sym, ap, ◌∙◌}
use mathlib.Core.List.{List, [], ◌++◌, append-nil}
use lib.ListN.{length}
use borrow.Author.Tests.{le-leb}
use Rattle.notation.specs.Ceilings.{text_ceiling, connective_ceiling}
use Rattle.notation.specs.Tokens.{Code, Tokens, tokens, tokens_from}
use Rattle.notation.specs.Walk.{Flag, accepted, walk, operand, after}
use Rattle.notation.specs.Guard.{Guard}
use Rattle.notation.specs.Grammar.{found, same_of, tree_of, tree}
use Rattle.levels.specs.clauses.Levels.{operands_at, Reads}
use Rattle.notation.specs.Reading.{reading, judged, guard}
use Rattle.reading_back.specs.Written.{met, order, place_in, renamed, renumbered, written, nesting, Stands, flags_of, Placed, EachPlaced, WithinCeilings}
use Rattle.reading_back.proofs.Codes.{nothing, matches-each}
use Rattle.reading_back.proofs.Cutting.{end-parted, end-stops}
use Rattle.reading_back.proofs.Levels.{Ready, Back}
use Rattle.reading_back.proofs.First.{all_seen}
use Rattle.reading_back.proofs.Trees.{levels_at, seen_after, reads-back}

-- where the walk accepts and the loosest level finds a guard, that guard is read
read_found : (text : List ℕ) (g : Guard) (u : List Flag) (m : ℕ) (ts : Tokens) → length text ≤ text_ceiling →
    walk operand 0 [] 0 (tokens_from 0 0 text) ≡ accepted u m → same_of (operands_at 0) [] (tokens_from 0 0 text) ≡ found g u ts → reading text ≡ guard
    g u
unfolding reading judged tree tree_of tokens
read_found text g u m ts h w f = rw (le-leb (length text) text_ceiling h, w) (ap (λ (x : Guard). guard x u) (ap tree_of f))

-- past the last byte nothing is left to read
end-walked : (u : List Flag) (m q : ℕ) → walk after 0 u m (tokens_from q 0 []) ≡ accepted u m
unfolding walk tokens_from
end-walked u m q = refl

module _ (codes : ℕ → Code) (g : Guard) (ceilings : WithinCeilings codes g) where
  -- the whole text may be read from its start
  ready : Ready codes g ceilings (nesting 0 g) 4 g 0 0 0 [] [] (written codes 0 g) []
  unfolding order
  ready = record {
    here = sym (append-nil (written codes 0 g));
    brackets = omega (arith, ceilings.brackets);
    signs = omega (arith, ceilings.connectives);
    matches = nothing;
    begins = record { more = []; split = append-nil (met [] g) };
    parted = end-parted;
    stops = end-stops 4;
  }

  whole : Back codes g ceilings
      (λ v i q. Reads (levels_at 0 0) 0 4 [] 0 (tokens_from 0 0 (written codes 0 g ++ [])) (renamed (place_in (order g)) g) v i (tokens_from q 0 []))
      0 [] [] (written codes 0 g) [] (seen_after codes 0 g) g
  whole = (reads-back codes g ceilings g (λ i e. e)).level 0 (omega arith) 0 0 0 [] [] [] ready

  -- the flags that are seen
  flags-are : whole.flags ≡ flags_of codes g
  flags-are = whole.flags_are ∙ all_seen codes g ceilings.apart

  -- reading what is written of a guard gives that guard, its flags numbered by first appearance
  pub read_back : reading (written codes 0 g) ≡ guard (renumbered g) (flags_of codes g)
  unfolding renumbered
  read_back =
      let nil : written codes 0 g ++ [] ≡ written codes 0 g = append-nil (written codes 0 g) in
      read_found (written codes 0 g) (renumbered g) whole.flags whole.count (tokens_from whole.place 0 []) ceilings.text
      (rw nil at (whole.holds.walked ∙ end-walked whole.flags whole.count whole.place))
      (rw nil at (whole.holds.parsed connective_ceiling (omega arith)))
      ∙ ap (guard (renumbered g)) flags-are

  -- each code stands in the text at the place of its flag
  pub codes_placed : EachPlaced (written codes 0 g) (flags_of codes g)
  codes_placed =
      rw flags-are at (matches-each codes (λ i. Stands i g) (Placed (written codes 0 g)) ceilings.apart (written codes 0 g) (λ f q. q) whole.matches)
