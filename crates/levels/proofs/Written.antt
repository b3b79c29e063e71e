-- Joining two guards writes their triplets and its own.
use Prim.Native.Nat.{ℕ, ◌+◌, ◌*◌, ◌≤◌, ◌<◌}
use native.Mathlib.Omega.{arith}
use mathlib.Core.Path.{◌≡◌, refl, ap, ◌∙◌}
use mathlib.Core.List.{List, [], ◌∷◌, ◌++◌, append_assoc}
use lib.ListN.{length}
use Rattle.notation.specs.Ceilings.{connective_ceiling}
use Rattle.notation.specs.Tokens.{Sign, same, implies, or, and}
use Rattle.notation.specs.Guard.{Guard, joined, connectives}
use Rattle.notation.specs.Triplets.{triplet_of, literal_of, literal, triplets, numbers, triplet_variable, literal_ceiling}
use Rattle.notation.specs.clauses.Writing.{triplet_at}
use Rattle.notation.proofs.Writing.{numbers-append, take_put}
use Rattle.levels.specs.clauses.Levels.{Writes}

pub connectives-joined : (s : Sign) (g h : Guard) → connectives (joined s g h) ≡ connectives g + connectives h + 1
unfolding connectives
connectives-joined s g h = refl

literal-small : (s : Sign) (c : ℕ) → c < connective_ceiling → literal_of s (triplet_variable (c + 1)) ≤ literal_ceiling
unfolding literal_of
literal-small same c h = omega arith
literal-small implies c h = omega arith
literal-small or c h = omega arith
literal-small and c h = omega arith

-- joining two guards writes their triplets and its own
pub writes-joined : (s : Sign) (c c₁ c₂ : ℕ) (o o₁ o₂ : List ℕ) (g h : Guard) (l r : ℕ) → Writes c c₁ o o₁ g l → Writes c₁ c₂ o₁
    o₂ h r →
    c₂ < connective_ceiling → length o₂ ≡ 3 * connective_ceiling →
    Writes c (c₂ + 1) o (triplet_at o₂ c₂ (triplet_of s l r)) (joined s g h) (literal_of s (triplet_variable (c₂ + 1)))
unfolding triplets literal
writes-joined s c c₁ c₂ o o₁ o₂ g h l r v w i e =
    let count : c₂ + 1 ≡ c + connectives (joined s g h) = omega (arith, v.count, w.count, connectives-joined s g h) in
    record {
      literal = ap (λ (n : ℕ). literal_of s (triplet_variable n)) count;
      small = literal-small s c₂ i;
      count = count;
      written =
          take_put o₂ c₂ (triplet_of s l r) (omega arith)
          ∙ ap (λ (x : List ℕ). x ++ numbers (triplet_of s l r ∷ [])) (w.written ∙ ap (λ (x : List ℕ). x ++ numbers (triplets c₁ h)) v.written)
          ∙ rw (v.literal, w.literal, v.count, numbers-append, numbers-append, append_assoc, append_assoc);
    }
