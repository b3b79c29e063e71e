-- What numbers say that begin with the triplets of a guard: their shape, their root and their value are the guard's.
use Prim.Native.Nat.{ℕ, ◌+◌, ◌*◌, ◌/◌, ◌≤◌, ◌<◌}
use mathlib.Core.Path.{◌≡◌, sym, ap, ◌∙◌}
use mathlib.Core.List.{List}
use native.Mathlib.Omega.{arith}
use lib.ListN.{length, get_or}
use lib.Seq.{get_or-take}
use Rattle.notation.specs.Ceilings.{connective_ceiling}
use Rattle.notation.specs.Guard.{Guard}
use Rattle.notation.specs.Triplets.{triplets, numbers}
use Rattle.notation.specs.clauses.Shape.{Names, Shape}
use Rattle.notation.proofs.Shaped.{shaped, root-named}
use Rattle.truth.specs.Value.{value}
use Rattle.truth.specs.clauses.Computed.{computed, root_value, Triplets}
use Rattle.truth.specs.clauses.Written.{Begins}
use Rattle.truth.proofs.Literals.{literal-agrees}
use Rattle.truth.proofs.Computing.{computed_same}
use Rattle.truth.proofs.Root.{root-value}

module _ (n c root : ℕ) (g : Guard) (xs : List ℕ) (b : Begins n c root g xs) where
  agree : (k : ℕ) → k < 3 * c → get_or xs k 0 ≡ get_or (numbers (triplets 0 g)) k 0
  agree k h = sym (get_or-take (3 * c) xs k 0 h) ∙ ap (λ (ys : List ℕ). get_or ys k 0) b.written

  written-shaped : Shape n c xs
  written-shaped =
      let s : Shape n c (numbers (triplets 0 g)) = rw b.count (shaped n g b.within) in
      record {
        kinds = λ j h. rw (agree (3 * j) (omega arith)) (s.kinds j h);
        ys = λ j h. rw (agree (3 * j + 1) (omega arith)) (s.ys j h);
        zs = λ j h. rw (agree (3 * j + 2) (omega arith)) (s.zs j h);
      }

  written-root : Names n c root
  written-root = rw (b.literal, b.count) (root-named n g b.within)

  -- they are triplets with a root, where there is room for them
  pub written-triplets : c ≤ connective_ceiling → 3 * c ≤ length xs → Triplets n xs c root
  written-triplets short long = record { flags = b.few; count = (short, long); shape = written-shaped; named = written-root }

  -- what they compute at the root, in every state, is the guard's value
  pub written-value : (s : ℕ) → root_value n xs c root s ≡ value n s g
  unfolding root_value
  written-value s =
      literal-agrees (computed n s xs c) (computed n s (numbers (triplets 0 g)) c) root
      (computed_same n s c (numbers (triplets 0 g)) xs agree (root / 2))
      ∙ rw (b.literal, b.count) (root-value n s g b.few b.within (shaped n g b.within))
