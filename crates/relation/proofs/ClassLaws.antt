-- What an array of classes keeps is a relation, and each literal equals the one to which it leads.
use Prim.Native.Nat.{ℕ, zero, suc, ◌+◌, ◌*◌, ◌/◌, ◌%◌, ◌≤◌, ◌<◌}
use mathlib.Core.Path.{◌≡◌, refl, sym, ◌∙◌, ap, ap₂, subst}
use mathlib.Core.Bool.{Bool, true, false}
use mathlib.Core.Logic.{◌⊎◌, inl, inr, ⊎_elim}
use mathlib.Core.List.{List, [], ◌∷◌}
use native.Mathlib.Omega.{arith}
use native.Mathlib.Nat.{not-suc-le-zero, le_of_suc-le-suc}
use lib.ListN.{length, get_or, set, get_or-eq_default}
use lib.Seq.{get_or-set_same, get_or-set_other}
use lib.Dec.{eqb, ltb}
use borrow.Author.Tests.{eqb-true, eqb-false, eq-eqb, lt-ltb, ltb-true}
use Rattle.notation.specs.Triplets.{negation}
use Rattle.notation.specs.clauses.Writing.{signed}
use Rattle.relation.specs.Relation.{Rel, IsRelation}
use Rattle.relation.specs.clauses.Classes.{variable_ceiling, entry, lead, relation, contradictory, Canonical, Classes}
use Rattle.relation.specs.clauses.Keeping.{Lower, tied}
use Rattle.relation.proofs.RelationLaws.{bool_eq}
use Rattle.ground.proofs.Cases.{either, split-eq, lt-or-ge, parity}
use Rattle.notation.proofs.Shaped.{negation-half}
use Rattle.relation.proofs.LiteralLaws.{signed-even, signed_odd, signed-half, signed-sign, literal-eq, negation-sign, negation-differs}

-- within an array it does not matter what is given past its end
pub entry_at : (xs : List ℕ) (v d : ℕ) → v < length xs → get_or xs v d ≡ entry xs v
entry_at xs v d h = any xs v d (2 * v) h
  where
    any : (xs : List ℕ) (v d e : ℕ) → v < length xs → get_or xs v d ≡ get_or xs v e
    any [] v d e h = absurd (not-suc-le-zero h)
    any (x ∷ xs) zero d e h = refl
    any (x ∷ xs) (suc v) d e h = any xs v d e (le_of_suc-le-suc h)

pub lead-half : (f : ℕ → ℕ) (l : ℕ) → lead f l / 2 ≡ f (l / 2) / 2
unfolding lead
lead-half f l = signed-half (f (l / 2)) l

pub lead-sign : (f : ℕ → ℕ) (l : ℕ) → lead f l % 2 ≡ (f (l / 2) + l) % 2
unfolding lead
lead-sign f l = signed-sign (f (l / 2)) l

-- a literal that leads to a given variable and sign leads to that literal
pub lead_is : (f : ℕ → ℕ) (l r : ℕ) → f (l / 2) / 2 ≡ r / 2 → (f (l / 2) + l) % 2 ≡ r % 2 → lead f l ≡ r
lead_is f l r p q = literal-eq (lead f l) r (lead-half f l ∙ p) (lead-sign f l ∙ q)

-- the literal of a variable leads where the variable does
pub lead-variable : (f : ℕ → ℕ) (v : ℕ) → lead f (2 * v) ≡ f v
lead-variable f v = lead_is f (2 * v) (f v) (ap (λ (u : ℕ). f u / 2) here) (ap (λ (u : ℕ). (f u + 2 * v) % 2) here ∙ even)
  where
    here : 2 * v / 2 ≡ v
    here = omega arith

    even : (f v + 2 * v) % 2 ≡ f v % 2
    even = omega arith

pub lead-negation : (f : ℕ → ℕ) (l : ℕ) → lead f (negation l) ≡ negation (lead f l)
lead-negation f l =
    lead_is f (negation l) (negation (lead f l))
    (ap (λ (u : ℕ). f u / 2) (negation-half l) ∙ sym (negation-half (lead f l) ∙ lead-half f l))
    (ap (λ (u : ℕ). (f u + negation l) % 2) (negation-half l) ∙ signs)
  where
    signs : (f (l / 2) + negation l) % 2 ≡ negation (lead f l) % 2
    signs = omega (arith, negation-sign l, negation-sign (lead f l), lead-sign f l)

-- in a contradictory relation all literals are equal
pub relation-all : (f : ℕ → ℕ) → contradictory f ≡ true → (l m : ℕ) → relation f l m ≡ true
unfolding relation
relation-all f c l m = rw c

-- in any other, equal literals are those that lead to the same
pub relation-leads : (f : ℕ → ℕ) → contradictory f ≡ false → (l m : ℕ) → relation f l m ≡ eqb (lead f l) (lead f m)
unfolding relation
relation-leads f c l m = rw c

pub same-leads : (f : ℕ → ℕ) → contradictory f ≡ false → (l m : ℕ) → relation f l m ≡ true → lead f l ≡ lead f m
same-leads f c l m e = eqb-true (lead f l) (lead f m) (sym (relation-leads f c l m) ∙ e)

pub leads-same : (f : ℕ → ℕ) (l m : ℕ) → lead f l ≡ lead f m → relation f l m ≡ true
leads-same f l m e =
    ⊎_elim
    (λ (c : contradictory f ≡ true). relation-all f c l m)
    (λ (c : contradictory f ≡ false). relation-leads f c l m ∙ eq-eqb (lead f l) (lead f m) e)
    (either (contradictory f))

-- whatever an array holds, what it keeps is a relation
pub is-relation : (f : ℕ → ℕ) → IsRelation (relation f)
is-relation f = ⊎_elim (λ (c : contradictory f ≡ true). whole c) (λ (c : contradictory f ≡ false). parts c) (either (contradictory f))
  where
    whole : contradictory f ≡ true → IsRelation (relation f)
    whole c =
        record {
          reflexive = λ l. relation-all f c l l;
          symmetric = λ l m e. relation-all f c m l;
          transitive = λ l m k e d. relation-all f c l k;
          negating = λ l m e. relation-all f c (negation l) (negation m);
          contradiction = λ l e m k. relation-all f c m k;
        }

    parts : contradictory f ≡ false → IsRelation (relation f)
    parts c =
        record {
          reflexive = λ l. leads-same f l l refl;
          symmetric = λ l m e. leads-same f m l (sym (same-leads f c l m e));
          transitive = λ l m k e d. leads-same f l k (same-leads f c l m e ∙ same-leads f c m k d);
          negating = λ l m e.
              leads-same f (negation l) (negation m)
              (lead-negation f l ∙ ap negation (same-leads f c l m e) ∙ sym (lead-negation f m));
          contradiction = λ l e m k.
              absurd (negation-differs (lead f l) (same-leads f c l (negation l) e ∙ lead-negation f l));
        }

-- in a canonical array true leads to true or to false
pub true-leads : (n : ℕ) (f : ℕ → ℕ) → Canonical n f → contradictory f ≡ false → f 0 ≡ 0
true-leads n f k c = omega (arith, eqb-false (f 0) 1 c, k.lower 0)

pub contradictory-at : (f : ℕ → ℕ) → f 0 ≡ 0 → contradictory f ≡ false
contradictory-at f e = rw e

-- the variable of a leader stands for itself
pub leader-stands : (n : ℕ) (f : ℕ → ℕ) → Canonical n f → contradictory f ≡ false → (v : ℕ) → f (f v / 2) ≡ 2 * (f v / 2)
leader-stands n f k c v = go (f v / 2) refl
  where
    go : (u : ℕ) → f v / 2 ≡ u → f (f v / 2) ≡ 2 * (f v / 2)
    go zero e = rw e (true-leads n f k c)
    go (suc u) e = k.leader v (omega arith)

-- leading twice is leading once
pub lead-twice : (n : ℕ) (f : ℕ → ℕ) → Canonical n f → contradictory f ≡ false → (l : ℕ) → lead f (lead f l) ≡ lead f l
lead-twice n f k c l =
    lead_is f (lead f l) (lead f l)
    (stands ∙ omega arith)
    signs
  where
    there : f (lead f l / 2) ≡ 2 * (lead f l / 2)
    there = rw (lead-half f l) (leader-stands n f k c (l / 2))

    stands : f (lead f l / 2) / 2 ≡ 2 * (lead f l / 2) / 2
    stands = ap (λ (w : ℕ). w / 2) there

    signs : (f (lead f l / 2) + lead f l) % 2 ≡ lead f l % 2
    signs = omega (arith, there)

-- a literal equals the one to which it leads
pub leads-to : (n : ℕ) (f : ℕ → ℕ) → Canonical n f → (l : ℕ) → relation f l (lead f l) ≡ true
leads-to n f k l =
    ⊎_elim
    (λ (c : contradictory f ≡ true). relation-all f c l (lead f l))
    (λ (c : contradictory f ≡ false). leads-same f l (lead f l) (sym (lead-twice n f k c l)))
    (either (contradictory f))

-- a literal leads to no higher variable
pub lead-lower : (n : ℕ) (f : ℕ → ℕ) → Canonical n f → (l : ℕ) → lead f l / 2 ≤ l / 2
lead-lower n f k l = omega (arith, lead-half f l, k.lower (l / 2))

-- more variables may be in use than are
pub canonical-more : (n m : ℕ) (f : ℕ → ℕ) → n ≤ m → Canonical n f → Canonical m f
canonical-more n m f h k =
    record { lower = k.lower; leader = k.leader; beyond = λ v p. k.beyond v (omega arith) }

-- a sign goes through to where a literal leads
pub lead-signed : (f : ℕ → ℕ) (l s : ℕ) → lead f (signed l s) ≡ signed (lead f l) s
lead-signed f l s =
    ⊎_elim
    (λ (p : s % 2 ≡ 0). ap (lead f) (signed-even l s p) ∙ sym (signed-even (lead f l) s p))
    (λ (p : s % 2 ≡ 1). ap (lead f) (signed_odd l s p) ∙ lead-negation f l ∙ sym (signed_odd (lead f l) s p))
    (parity s)

-- in a consistent relation true is not false
pub apart : (f : ℕ → ℕ) → contradictory f ≡ false → relation f 0 1 ≡ true → ⊥
apart f c e =
    let same : lead f 0 ≡ lead f 1 = same-leads f c 0 1 e in
    omega (arith, same, lead-sign f 0, lead-sign f 1)

-- a relation is contradictory where true is false in it
pub contradictory-is : (f : ℕ → ℕ) → contradictory f ≡ relation f 0 1
contradictory-is f =
    bool_eq (contradictory f) (relation f 0 1) (λ c. relation-all f c 0 1)
    (λ e.
    ⊎_elim (λ (c : contradictory f ≡ true). c) (λ (c : contradictory f ≡ false). absurd (apart f c e)) (either (contradictory f)))

-- what an array says of contradiction, asked by a test
pub contradictory-told : (xs : List ℕ) {a b : Bool} → a ≡ relation (entry xs) 0 1 → a ≡ b → contradictory (entry xs) ≡ b
contradictory-told xs e t = contradictory-is (entry xs) ∙ sym e ∙ t

-- a variable is tied where it equals true or false
pub tied-cases : (R : Rel) (v : ℕ) → tied R v ≡ true → (R (2 * v) 0 ≡ true) ⊎ (R (2 * v) 1 ≡ true)
unfolding tied
tied-cases R v e =
    ⊎_elim
    (λ (p : R (2 * v) 0 ≡ true). inl p)
    (λ (p : R (2 * v) 0 ≡ false). inr (rw p at e))
    (either (R (2 * v) 0))

pub tied-true : (R : Rel) (v : ℕ) → R (2 * v) 0 ≡ true → tied R v ≡ true
unfolding tied
tied-true R v p = rw p

pub tied-false : (R : Rel) (v : ℕ) → R (2 * v) 1 ≡ true → tied R v ≡ true
unfolding tied
tied-false R v p =
    ⊎_elim (λ (q : R (2 * v) 0 ≡ true). rw q) (λ (q : R (2 * v) 0 ≡ false). rw q p) (either (R (2 * v) 0))

-- in a consistent array a variable is tied where it leads to true or false
pub tied-leads : (f : ℕ → ℕ) (v : ℕ) → f 0 ≡ 0 → tied (relation f) v ≡ ltb (f v) 2
tied-leads f v z = bool_eq (tied (relation f) v) (ltb (f v) 2) below above
  where
    c : contradictory f ≡ false
    c = contradictory-at f z

    at_true : lead f 0 ≡ 0
    at_true = lead_is f 0 0 (ap (λ (w : ℕ). w / 2) z) (ap (λ (w : ℕ). (w + 0) % 2) z)

    at-false : lead f 1 ≡ 1
    at-false = lead_is f 1 1 (ap (λ (w : ℕ). w / 2) z) (ap (λ (w : ℕ). (w + 1) % 2) z)

    below : tied (relation f) v ≡ true → ltb (f v) 2 ≡ true
    below e =
        lt-ltb (f v) 2
        (⊎_elim
        (λ (p : relation f (2 * v) 0 ≡ true). omega (arith, sym (lead-variable f v) ∙ same-leads f c (2 * v) 0 p ∙ at_true))
        (λ (p : relation f (2 * v) 1 ≡ true). omega (arith, sym (lead-variable f v) ∙ same-leads f c (2 * v) 1 p ∙ at-false))
        (tied-cases (relation f) v e))

    zero-or-one : (w : ℕ) → w < 2 → (w ≡ 0 → ⊥) → w ≡ 1
    zero-or-one w h d = omega arith

    above : ltb (f v) 2 ≡ true → tied (relation f) v ≡ true
    above e =
        ⊎_elim
        (λ (p : f v ≡ 0). tied-true (relation f) v (leads-same f (2 * v) 0 (lead-variable f v ∙ p ∙ sym at_true)))
        (λ (p : f v ≡ 0 → ⊥).
        tied-false (relation f) v
        (leads-same f (2 * v) 1 (lead-variable f v ∙ zero-or-one (f v) (ltb-true (f v) 2 e) p ∙ sym at-false)))
        (split-eq (f v) 0)

-- an array in which each variable stands for itself
pub fresh-canonical : (f : ℕ → ℕ) → ((v : ℕ) → f v ≡ 2 * v) → Canonical 0 f
fresh-canonical f e =
    record {
      lower = λ v. omega (arith, e v);
      leader = λ v h. e (f v / 2);
      beyond = λ v h. e v;
    }

pub fresh-only : (f : ℕ → ℕ) → ((v : ℕ) → f v ≡ 2 * v) → (l m : ℕ) → relation f l m ≡ eqb l m
fresh-only f e l m = relation-leads f (contradictory-at f (e 0)) l m ∙ ap₂ eqb (itself l) (itself m)
  where
    itself : (j : ℕ) → lead f j ≡ j
    itself j = lead_is f j j (omega (arith, e (j / 2))) (omega (arith, e (j / 2)))

-- an array whose entries stand for themselves as far as it is long
pub fresh-done : (xs : List ℕ) (n : ℕ) → length xs ≤ n → ((v : ℕ) → v < n → entry xs v ≡ 2 * v) → (v : ℕ) → entry xs v ≡ 2 * v
fresh-done xs n h all v =
    ⊎_elim (λ (p : v < n). all v p) (λ (p : n ≤ v). get_or-eq_default xs (2 * v) (omega arith)) (lt-or-ge v n)

-- after a store at v: what holds of the entries below v and of what is stored holds below v + 1
pub stored-below : (P : ℕ → ℕ) (xs : List ℕ) (v w : ℕ) → v < length xs → ((u : ℕ) → u < v → entry xs u ≡ P u) → w ≡ P v
    → (u : ℕ) → u < v + 1 → entry (set xs v w) u ≡ P u
stored-below P xs v w h all here u p =
    ⊎_elim
    (λ (q : u ≡ v). rw q (get_or-set_same xs v w (2 * v) h ∙ here))
    (λ (q : u ≡ v → ⊥). get_or-set_other xs v u w (2 * u) q ∙ all u (omega arith))
    (split-eq u v)

-- and an entry at any other place stays
pub stored_other : (xs : List ℕ) (v w u : ℕ) → (u ≡ v → ⊥) → entry (set xs v w) u ≡ entry xs u
stored_other xs v w u d = get_or-set_other xs v u w (2 * u) d

pub lowers : (n : ℕ) (xs : List ℕ) → Classes n xs → Lower xs
lowers n xs k = record { long = k.long; lower = k.canonical.lower }

pub classes-more : (n m : ℕ) (xs : List ℕ) → n ≤ m → m ≤ variable_ceiling → Classes n xs → Classes m xs
classes-more n m xs h fits k =
    record { long = k.long; fits = fits; canonical = canonical-more n m (entry xs) h k.canonical }

-- by another name of the number of variables
pub classes-at : {n m : ℕ} {xs : List ℕ} → n ≡ m → Classes n xs → Classes m xs
classes-at {n} {m} {xs} e = subst (λ (i : ℕ). Classes i xs) e
