-- The questions of a line have its flags, and at most as many connectives as a guard may have.
use Prim.Native.Nat.{ℕ, suc, ◌≤◌, ◌<◌}
use native.Mathlib.Omega.{arith}
use mathlib.Core.Bool.{false}
use mathlib.Core.List.{List, [], ◌∷◌}
use lib.ListN.{length, get_or}
use Rattle.notation.specs.Ceilings.{connective_ceiling}
use Rattle.notation.specs.Tokens.{or}
use Rattle.notation.specs.Guard.{Guard, truth, joined, connectives}
use Rattle.notation.specs.clauses.Shape.{FlagsWithin}
use Rattle.building.specs.declared.spans.GuardSpan.{GuardSpan}
use Rattle.questions.specs.Questions.{or_all, any_of, whole_of, apart, guard_at, pair_of}
use Rattle.questions.specs.clauses.Laying.{LineHeld}
use Rattle.questions.proofs.Connectives.{whole-connectives, apart-connectives}
use Rattle.questions.proofs.Guards.{pair_fits}

or-within : (n : ℕ) (g : Guard) (hs : List Guard) → FlagsWithin n g → ((m : ℕ) → m < length hs → FlagsWithin n (get_or hs m (truth false)))
    → FlagsWithin n (or_all g hs)
unfolding or_all
or-within n g [] w each = w
or-within n g (h ∷ hs) w each = or-within n (joined or g h) hs (w, each 0 (omega arith)) (λ m b. each (suc m) (omega (arith, b)))

pub any-within : (n : ℕ) (vs : List Guard) → ((m : ℕ) → m < length vs → FlagsWithin n (get_or vs m (truth false))) → FlagsWithin n (any_of vs)
unfolding any_of
any-within n [] each = tt
any-within n (v ∷ vs) each = or-within n v vs (each 0 (omega arith)) (λ m b. each (suc m) (omega (arith, b)))

module _ (n : ℕ) (rule : Guard) (vs : List Guard) (spans : List GuardSpan) (pool : List ℕ) (h : LineHeld n rule vs spans pool) where
  pub whole-within : FlagsWithin n (whole_of rule vs)
  unfolding whole_of
  whole-within = ((h.held 0 (omega arith)).within, any-within n vs (λ m b. (h.held (suc m) (omega (arith, b))).within))

  pub whole-fits : connectives (whole_of rule vs) ≤ connective_ceiling
  whole-fits = omega (arith, whole-connectives rule vs h.some, h.fits)

  pub pair-within : (i j : ℕ) → i ≤ length vs → j ≤ length vs → FlagsWithin n (pair_of rule vs i j)
  unfolding apart
  pair-within i j a b = ((h.held 0 (omega arith)).within, ((h.held i a).within, (h.held j b).within))

  pub pair-in-ceiling : (i j : ℕ) → 0 < i → i < j → j ≤ length vs → connectives (pair_of rule vs i j) ≤ connective_ceiling
  pair-in-ceiling i j a b c =
      omega (arith, apart-connectives rule (guard_at rule vs i) (guard_at rule vs j), pair_fits rule vs i j a b c, h.fits)
