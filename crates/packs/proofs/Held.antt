-- Guards that stay in the pool while others are put behind them, and the guards of a line by number.
use Prim.Native.Nat.{ℕ, zero, suc, ◌+◌, ◌*◌, ◌≤◌}
use native.Mathlib.Omega.{arith}
use mathlib.Core.Path.{◌≡◌, refl, sym, ap, ◌∙◌}
use mathlib.Core.List.{List, [], ◌∷◌, ◌++◌}
use mathlib.Core.Bool.{false}
use lib.ListN.{length, take, drop, get_or-append}
use lib.Seq.{get_or_at}
use Rattle.notation.specs.Walk.{Flag}
use Rattle.notation.specs.Guard.{Guard, truth, connectives}
use Rattle.notation.proofs.Numbered.{within_more}
use Rattle.building.specs.clauses.Held.{Held}
use Rattle.questions.specs.Questions.{sum_of}
use Rattle.packs.specs.Pack.{Line, varied}
use Rattle.packs.specs.clauses.Taken.{guard_of}
use Rattle.packs.proofs.Longer.{inner}

-- a guard stays in the pool where more flags are known, and more stands behind
pub held_more : (n m : ℕ) (g : Guard) (t t' o c r o' c' r' : ℕ) (pool pool' : List ℕ) → n ≤ m → t ≤ t'
    → take (3 * t) pool' ≡ take (3 * t) pool
    → o' ≡ o → c' ≡ c → r' ≡ r → Held n g t o c r pool → Held m g t' o' c' r' pool'
held_more n m g t t' o c r o' c' r' pool pool' a b e x y z h = record {
  within = within_more n m g a h.within;
  count = y ∙ h.count;
  root = z ∙ h.root;
  inside = omega (arith, h.inside, x);
  stands =
      rw x
      (sym (inner (3 * o) (3 * connectives g) (3 * t) pool' (omega (arith, h.inside)))
      ∙ ap (λ (l : List ℕ). take (3 * connectives g) (drop (3 * o) l)) e
      ∙ inner (3 * o) (3 * connectives g) (3 * t) pool (omega (arith, h.inside))
      ∙ h.stands);
}

pub guard-last : (l : Line) (g : Guard) (u : List Flag) → guard_of (varied l g u) (suc (length l.variants)) ≡ g
guard-last l g u = get_or_at l.variants g [] (truth false) (length l.variants) refl

pub guard-earlier : (l : Line) (g : Guard) (u : List Flag) (k : ℕ) → k ≤ length l.variants → guard_of (varied l g u) k ≡ guard_of l k
guard-earlier l g u zero h = refl
guard-earlier l g u (suc k) h = get_or-append l.variants (g ∷ []) (truth false) k h

pub sum-append : (gs : List Guard) (g : Guard) → sum_of (gs ++ (g ∷ [])) ≡ sum_of gs + connectives g
unfolding sum_of
sum-append [] g = omega arith
sum-append (h ∷ gs) g = omega (arith, sum-append gs g)

pub sum-none : (gs : List Guard) → length gs ≡ 0 → sum_of gs ≡ 0
unfolding sum_of
sum-none [] h = refl
sum-none (g ∷ gs) h = absurd (omega arith)
