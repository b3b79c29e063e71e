-- A step by its entry: nothing where the entry is the pattern itself, the contradiction, or the three equalities that it names.
use Prim.Native.Nat.{ℕ, zero, suc, ◌/◌, ◌≤◌, ◌<◌}
use mathlib.Core.Path.{◌≡◌, refl, sym, subst, subst₃}
use mathlib.Core.Bool.{true, false}
use mathlib.Core.List.{List}
use mathlib.Core.Logic.{⊎_elim}
use native.Mathlib.Omega.{arith}
use Rattle.relation.specs.Relation.{Rel, IsRelation, Within}
use Rattle.relation.specs.Least.{Holds}
use Rattle.relation.specs.clauses.Classes.{lead, entry as at, contradictory as broken, kept, Classes}
use Rattle.relation.specs.clauses.Keeping.{Joined}
use Rattle.ground.proofs.Cases.{either}
use Rattle.notation.proofs.Shaped.{negation-half}
use Rattle.relation.proofs.RelationLaws.{least-none, least-then, least-same}
use Rattle.relation.proofs.ClassLaws.{relation-all, is-relation, true-leads}
use Rattle.truth.specs.Connectives.{table, gate}
use Rattle.steps.specs.Step.{Side, never, always, own_x, not-x, own-y, not-y, own-z, not-z, literal_at, HoldsStep}
use Rattle.steps.specs.Table.{x_named, y_named, z_named, pattern, pattern_of, follows, contradictory, entry, NamesHold}
use Rattle.steps.specs.clauses.Leading.{Patterned}
use Rattle.steps.specs.clauses.Resting.{Named, Stepped}
use Rattle.steps.proofs.Patterns.{pattern-below}
use Rattle.steps.proofs.Strongest.{follows-closed, entry-names, entry-consistent}
use Rattle.steps.proofs.StepLaws.{step-contradicts, contradicts-step, step-names, names-step, settled}
use Rattle.steps.proofs.Placing.{pattern-leads}

-- an entry that is not the contradiction is a pattern
pub entry-below : (kind p : ℕ) → (entry kind p ≡ contradictory → ⊥) → entry kind p < 105
entry-below kind p d =
    subst (λ (e : ℕ). e < 105) (sym (entry-names kind p (entry-consistent kind p d)))
    (pattern-below (follows kind p) (follows-closed kind p))

-- where nothing is known, nothing follows
pub entry-own : (kind : ℕ) → kind ≤ 1 → entry kind 104 ≡ 104
unfolding entry follows pattern gate table
entry-own zero h = refl
entry-own (suc zero) h = refl
entry-own (suc (suc kind)) h = absurd (omega arith)

-- each side is a literal of a variable in use
pub literal-inside : (n x y z : ℕ) → x / 2 < n → y / 2 < n → z / 2 < n → (s : Side) → literal_at x y z s / 2 < n
literal-inside n x y z a b c never = omega arith
literal-inside n x y z a b c always = omega arith
literal-inside n x y z a b c own_x = a
literal-inside n x y z a b c not-x = omega (arith, negation-half x)
literal-inside n x y z a b c own-y = b
literal-inside n x y z a b c not-y = omega (arith, negation-half y)
literal-inside n x y z a b c own-z = c
literal-inside n x y z a b c not-z = omega (arith, negation-half z)

-- a pattern of literals is one of those that they are equal to
pub patterned : {a b c a' b' c' p : ℕ} → a ≡ a' → b ≡ b' → c ≡ c' → Patterned a b c p → Patterned a' b' c' p
patterned {a} {b} {c} {a'} {b'} {c'} {p} i j k h =
    subst₃ (λ (u v w : ℕ). Patterned u v w p) i j k h

-- three joins hold what a pattern names
pub named-three : (n e x y z : ℕ) (xs as' bs ys : List ℕ) (p q r : ℕ)
    → p ≡ literal_at x y z (x_named e) → q ≡ literal_at x y z (y_named e) → r ≡ literal_at x y z (z_named e)
    → Joined n xs x p as' → Joined n as' y q bs → Joined n bs z r ys → Named n e x y z xs ys
named-three n e x y z xs as' bs ys p q r a b c i j k =
    record {
      classes = k.classes;
      least =
          least-same (λ (A : Rel). (Holds x p A × Holds y q A) × Holds z r A) (NamesHold e x y z) (kept xs) (kept ys)
          (λ A s w h. record { of-x = rw (← a) h.0.0; of-y = rw (← b) h.0.1; of-z = rw (← c) h.1 })
          (λ A s w h. ((rw a h.of-x, rw b h.of-y), rw c h.of-z))
          (least-then (λ (A : Rel). Holds x p A × Holds y q A) (Holds z r) (kept xs) (kept bs) (kept ys)
          (λ A B w h. (w x p h.0, w y q h.1))
          (least-then (Holds x p) (Holds y q) (kept xs) (kept as') (kept bs) (λ A B w h. w x p h) i.least j.least)
          k.least);
    }

module _ (n kind x y z p : ℕ) (xs : List ℕ) (k : Classes n xs) (pat : Patterned (lead (at xs) x) (lead (at xs) y) (lead (at xs) z) p) where
  -- in a consistent array p is the pattern of the relation
  here : broken (at xs) ≡ false → p ≡ pattern_of (kept xs) x y z
  here c = pattern-leads (at xs) (true-leads n (at xs) k.canonical c) x y z p pat

  -- above a contradictory relation every property that asks for equalities holds
  whole : broken (at xs) ≡ true → (A : Rel) → IsRelation A → Within (kept xs) A → HoldsStep kind x y z (kept xs) A
  whole c A a w = contradicts-step kind x y z (kept xs) (is-relation (at xs)) A a (w 0 1 (relation-all (at xs) c 0 1))

  pub stepped-none : entry kind p ≡ p → Stepped n kind x y z xs xs
  stepped-none e =
      record {
        classes = k;
        least = least-none (HoldsStep kind x y z (kept xs)) (kept xs) (is-relation (at xs))
            (⊎_elim
            (λ (c : broken (at xs) ≡ true). whole c (kept xs) (is-relation (at xs)) (λ l m q. q))
            (λ (c : broken (at xs) ≡ false).
            settled kind x y z (kept xs) (is-relation (at xs)) (subst (λ (u : ℕ). entry kind u ≡ u) (here c) e))
            (either (broken (at xs))));
      }

  pub stepped-broken : (ys : List ℕ) → entry kind p ≡ contradictory → Joined n xs 0 1 ys → Stepped n kind x y z xs ys
  stepped-broken ys e j =
      record {
        classes = j.classes;
        least =
            least-same (Holds 0 1) (HoldsStep kind x y z (kept xs)) (kept xs) (kept ys)
            (λ A a w h. contradicts-step kind x y z (kept xs) (is-relation (at xs)) A a h)
            (λ A a w h.
            ⊎_elim
            (λ (c : broken (at xs) ≡ true). w 0 1 (relation-all (at xs) c 0 1))
            (λ (c : broken (at xs) ≡ false).
            step-contradicts kind x y z (kept xs) (is-relation (at xs)) A a (subst (λ (u : ℕ). entry kind u ≡ contradictory) (here c) e) h)
            (either (broken (at xs))))
            j.least;
      }

  pub stepped-named : (ys : List ℕ) → (entry kind p ≡ contradictory → ⊥) → Named n (entry kind p) x y z xs ys → Stepped n kind x y z xs ys
  stepped-named ys d j =
      record {
        classes = j.classes;
        least =
            least-same (NamesHold (entry kind p) x y z) (HoldsStep kind x y z (kept xs)) (kept xs) (kept ys)
            (λ A a w h.
            ⊎_elim
            (λ (c : broken (at xs) ≡ true). whole c A a w)
            (λ (c : broken (at xs) ≡ false).
            names-step kind x y z (kept xs) (is-relation (at xs)) A a w
            (subst (λ (u : ℕ). entry kind u ≡ contradictory → ⊥) (here c) d)
            (subst (λ (u : ℕ). NamesHold (entry kind u) x y z A) (here c) h))
            (either (broken (at xs))))
            (λ A a w h.
            ⊎_elim
            (λ (c : broken (at xs) ≡ true). record {
              of-x = w _ _ (relation-all (at xs) c _ _);
              of-y = w _ _ (relation-all (at xs) c _ _);
              of-z = w _ _ (relation-all (at xs) c _ _);
            })
            (λ (c : broken (at xs) ≡ false).
            subst (λ (u : ℕ). NamesHold (entry kind u) x y z A) (sym (here c))
            (step-names kind x y z (kept xs) (is-relation (at xs)) A (subst (λ (u : ℕ). entry kind u ≡ contradictory → ⊥) (here c) d) h))
            (either (broken (at xs))))
            j.least;
      }
