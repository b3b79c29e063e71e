-- The triplets of a guard after c others are those after none, moved.
use Prim.Native.Nat.{ℕ, suc, ◌+◌, ◌*◌, ◌/◌, ◌%◌, ◌≤◌, ◌<◌}
use mathlib.Core.Path.{◌≡◌, refl, sym, ap, ◌∙◌}
use mathlib.Core.Bool.{true, false}
use mathlib.Core.List.{List, [], ◌∷◌, ◌++◌}
use mathlib.Core.Logic.{⊎_elim}
use native.Mathlib.Omega.{arith}
use Rattle.ground.proofs.Cases.{lt-or-ge}
use borrow.Author.Tests.{lt-ltb, le-ltb}
use Rattle.notation.specs.Ceilings.{flag_ceiling}
use Rattle.notation.specs.Tokens.{Sign, same, implies, or, and}
use Rattle.notation.specs.Guard.{Guard, flag, truth, negated, joined, connectives}
use Rattle.notation.specs.Triplets.{Triplet, triplet_variable, negation, triplet_of, literal_of, literal, triplets}
use Rattle.notation.specs.clauses.Shape.{FlagsWithin}
use Rattle.building.specs.clauses.Moved.{moved, moved_all}

pub stays : (c l : ℕ) → l < 2 * triplet_variable 1 → moved c l ≡ l
unfolding moved
stays c l h = rw (lt-ltb l (2 * triplet_variable 1) h)

pub moves : (c l : ℕ) → 2 * triplet_variable 1 ≤ l → moved c l ≡ l + 2 * c
unfolding moved
moves c l h = rw (le-ltb l (2 * triplet_variable 1) h)

negation-moved : (c l : ℕ) → negation (moved c l) ≡ moved c (negation l)
unfolding negation
negation-moved c l =
    ⊎_elim
    (λ (h : l < 2 * triplet_variable 1). rw (stays c l h, stays c (2 * (l / 2) + (l + 1) % 2) (omega (arith, h))))
    (λ (h : 2 * triplet_variable 1 ≤ l). rw (moves c l h, moves c (2 * (l / 2) + (l + 1) % 2) (omega (arith, h))) (omega arith))
    (lt-or-ge l (2 * triplet_variable 1))

literal_of-moved : (s : Sign) (b c k : ℕ) → literal_of s (triplet_variable (b + c + suc k)) ≡ moved c (literal_of s (triplet_variable (b + suc k)))
unfolding literal_of
literal_of-moved same b c k = rw (moves c (2 * triplet_variable (b + suc k)) (omega arith)) (omega arith)
literal_of-moved implies b c k = rw (moves c (2 * triplet_variable (b + suc k)) (omega arith)) (omega arith)
literal_of-moved or b c k = rw (moves c (2 * triplet_variable (b + suc k)) (omega arith)) (omega arith)
literal_of-moved and b c k = rw (moves c (2 * triplet_variable (b + suc k) + 1) (omega arith)) (omega arith)

pub literal-moved : (n : ℕ) → n ≤ flag_ceiling → (b c : ℕ) (g : Guard) → FlagsWithin n g → literal (b + c) g ≡ moved c (literal b g)
unfolding literal connectives
literal-moved n h b c (flag i) w = sym (stays c (2 * i) (omega (arith, h, w.1)))
literal-moved n h b c (truth true) w = sym (stays c 0 (omega arith))
literal-moved n h b c (truth false) w = sym (stays c 1 (omega arith))
literal-moved n h b c (negated g) w = ap negation (literal-moved n h b c g w) ∙ negation-moved c (literal b g)
literal-moved n h b c (joined s g k) w =
    let e : b + c + (connectives g + connectives k + 1) ≡ b + c + suc (connectives g + connectives k) = omega arith in
    let f : b + (connectives g + connectives k + 1) ≡ b + suc (connectives g + connectives k) = omega arith in
    rw (e, f) (literal_of-moved s b c (connectives g + connectives k))

triplet_of-moved : (s : Sign) (c x y : ℕ) → triplet_of s (moved c x) (moved c y) ∷ [] ≡ moved_all c (triplet_of s x y ∷ [])
unfolding triplet_of moved_all
triplet_of-moved same c x y = refl
triplet_of-moved implies c x y = refl
triplet_of-moved or c x y = rw (negation-moved c x)
triplet_of-moved and c x y = rw (negation-moved c y)

pub moved_all-append : (c : ℕ) (a b : List Triplet) → moved_all c (a ++ b) ≡ moved_all c a ++ moved_all c b
unfolding moved_all
moved_all-append c [] b = refl
moved_all-append c (t ∷ a) b = ap (λ (l : List Triplet). record { kind = t.kind; y = moved c t.y; z = moved c t.z } ∷ l) (moved_all-append c a b)

pub triplets-moved : (n : ℕ) → n ≤ flag_ceiling → (b c : ℕ) (g : Guard) → FlagsWithin n g → triplets (b + c) g ≡ moved_all c (triplets b g)
unfolding triplets moved_all
triplets-moved n h b c (flag i) w = refl
triplets-moved n h b c (truth t) w = refl
triplets-moved n h b c (negated g) w = triplets-moved n h b c g w
triplets-moved n h b c (joined s g k) w =
    let e : b + c + connectives g ≡ b + connectives g + c = omega arith in
    let d : ℕ = b + connectives g in
    let mine : List Triplet = triplet_of s (literal b g) (literal d k) ∷ [] in
    let own : triplet_of s (literal (b + c) g) (literal (d + c) k) ∷ [] ≡ moved_all c mine
    = rw (literal-moved n h b c g w.0, literal-moved n h d c k w.1) (triplet_of-moved s c (literal b g) (literal d k)) in
    rw (
      e,
      triplets-moved n h b c g w.0,
      triplets-moved n h d c k w.1,
      own,
      moved_all-append c (triplets b g) (triplets d k ++ mine),
      moved_all-append c (triplets d k) mine,
    )
