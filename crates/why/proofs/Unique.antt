-- No second answer satisfies why's statement: there is one way only to go through the flags.
use Prim.Native.Nat.{ℕ, zero, suc, ◌^◌}
use mathlib.Core.Path.{◌≡◌, sym, ap, ◌∙◌}
use mathlib.Core.Bool.{Bool, true, false}
use mathlib.Core.Logic.{⊎_elim}
use lib.ListN.{length}
use lib.Dec.{ltb}
use Rattle.ground.specs.Choice.{choose}
use Rattle.notation.specs.Guard.{Guard}
use Rattle.notation.specs.Reading.{Reading, refusal, guard}
use Rattle.truth.specs.Value.{value}
use Rattle.why.specs.Numbered.{state_with}
use Rattle.why.specs.Kept.{Forces, without, Turn, Went}
use Rattle.why.specs.Explained.{Explanation, KeptOf, Explains}
use Rattle.std.specs.Prelude.{Ok, Err}
use Rattle.notation.specs.Refusals.{fault}
use Rattle.notation.specs.declared.refusal.Reason.TheVariants.{NoState, NoGap}

module _ (n : ℕ) (v : ℕ → Bool) (gap : ℕ) where
  turn-unique : (i : ℕ) (was k m : ℕ → Bool) → Turn n v gap i was k → Turn n v gap i was m → k ≡ m
  turn-unique i was k m a b =
      ⊎_elim
      (λ (x : Forces n v gap (without was i) × (k ≡ without was i)).
      ⊎_elim
      (λ (y : Forces n v gap (without was i) × (m ≡ without was i)). x.1 ∙ sym y.1)
      (λ (y : (Forces n v gap (without was i) → ⊥) × (m ≡ was)). absurd (y.0 x.0))
      b)
      (λ (x : (Forces n v gap (without was i) → ⊥) × (k ≡ was)).
      ⊎_elim
      (λ (y : Forces n v gap (without was i) × (m ≡ without was i)). absurd (x.0 y.0))
      (λ (y : (Forces n v gap (without was i) → ⊥) × (m ≡ was)). x.1 ∙ sym y.1)
      b)
      a

  turn-same : (i : ℕ) (a b k m : ℕ → Bool) → a ≡ b → Turn n v gap i a k → Turn n v gap i b m → k ≡ m
  turn-same i a b k m e x y = turn-unique i b k m (rw e at x) y

  -- there is only one way to go through the flags
  pub went-unique : (i : ℕ) (k m : ℕ → Bool) → Went n v gap i k → Went n v gap i m → k ≡ m
  went-unique zero k m p q = p ∙ sym q
  went-unique (suc i) k m p q = turn-same (suc i) p.0 q.0 k m (went-unique i p.0 q.0 p.1 q.1) p.2 q.2

kept-unique : (n : ℕ) (g : Guard) (state : ℕ) (r s : Explanation) → KeptOf n g state r → KeptOf n g state s → r ≡ s
kept-unique n g state r s p q =
    p.2 ∙ ap (λ (k : ℕ → Bool). Ok (state_with n k)) (went-unique n (λ s. value n s g) state n p.0 q.0 p.1 q.1) ∙ sym q.2

by_value : (n : ℕ) (g : Guard) (state : ℕ) (b : Bool) (x r s : Explanation)
    → choose b (r ≡ x) (KeptOf n g state r) → choose b (s ≡ x) (KeptOf n g state s) → r ≡ s
by_value n g state true x r s p q = p ∙ sym q
by_value n g state false x r s p q = kept-unique n g state r s p q

by_state : (n : ℕ) (g : Guard) (state : ℕ) (a b : Bool) (x y r s : Explanation)
    → choose a (choose b (r ≡ x) (KeptOf n g state r)) (r ≡ y) → choose a (choose b (s ≡ x) (KeptOf n g state s)) (s ≡ y) → r ≡ s
by_state n g state true b x y r s p q = by_value n g state b x r s p q
by_state n g state false b x y r s p q = p ∙ sym q

-- no second answer satisfies why's statement
pub why-unique : (t : Reading) (state : ℕ) (r s : Explanation) → Explains t state r → Explains t state s → r ≡ s
why-unique (refusal reason p) state r s a b = a ∙ sym b
why-unique (guard g codes) state r s a b =
    by_state (length codes) g state (ltb state (2 ^ length codes)) (value (length codes) state g)
    (Err (fault NoGap 0)) (Err (fault NoState 0)) r s a b
