-- Any two literals can be joined: the least relation above a relation that holds them equal exists, and it ties no variable
-- that neither of them, nor the relation, ties.
use Prim.Native.Nat.{ℕ, ◌/◌, ◌≤◌, ◌<◌}
use mathlib.Core.Path.{◌≡◌, refl, sym, ap, ◌∙◌}
use mathlib.Core.Bool.{Bool, true, false}
use mathlib.Core.Logic.{⊎_elim}
use native.Mathlib.Omega.{arith}
use lib.Dec.{eqb}
use borrow.Author.Tests.{eqb-true, eq-eqb}
use Rattle.ground.specs.Choice.{choose}
use Rattle.notation.specs.Triplets.{negation}
use Rattle.ground.proofs.Cases.{split-eq, either, never}
use Rattle.notation.proofs.Shaped.{negation-half}
use Rattle.relation.specs.Relation.{Rel, IsRelation, Within}
use Rattle.relation.specs.Least.{Least, Holds}
use Rattle.relation.proofs.LiteralLaws.{negation-differs}
use Rattle.relation.proofs.RelationLaws.{bool_eq}
use Rattle.steps.proofs.Sides.{negation-twice}
use Rattle.steps.proofs.StepLaws.{all-equal}

-- S ties no variable from M on, unless it is contradictory
abbrev pub Small : ℕ → Rel → Type 0
Small M S = (a b : ℕ) → M ≤ a / 2 → (a ≡ b → ⊥) → S a b ≡ true → S 0 1 ≡ true

-- ---- nothing is equal, and all is
pub alone : Rel
alone l m = eqb l m

pub alone-same : (l m : ℕ) → alone l m ≡ true → l ≡ m
unfolding alone
alone-same l m e = eqb-true l m e

pub same-alone : (l m : ℕ) → l ≡ m → alone l m ≡ true
unfolding alone
same-alone l m e = eq-eqb l m e

pub alone-relation : IsRelation alone
alone-relation =
    record {
      reflexive = λ l. same-alone l l refl;
      symmetric = λ l m e. same-alone m l (sym (alone-same l m e));
      transitive = λ l m k e f. same-alone l k (alone-same l m e ∙ alone-same m k f);
      negating = λ l m e. same-alone (negation l) (negation m) (ap negation (alone-same l m e));
      contradiction = λ l e. absurd (negation-differs l (alone-same l (negation l) e));
    }

pub alone-small : (M : ℕ) → Small M alone
alone-small M a b h n e = absurd (n (alone-same a b e))

everything : Rel
everything l m = true

everything-relation : IsRelation everything
unfolding everything
everything-relation =
    record {
      reflexive = λ l. refl;
      symmetric = λ l m e. refl;
      transitive = λ l m k e f. refl;
      negating = λ l m e. refl;
      contradiction = λ l e m k. refl;
    }

module _ (S : Rel) (r : IsRelation S) (l m : ℕ) where
  -- what equals m goes to l, and what equals not m to not l
  abbrev pick : Bool → Bool → ℕ → ℕ
  pick p q a = choose p l (choose q (negation l) a)

  abbrev turned : ℕ → ℕ
  turned a = pick (S a m) (S a (negation m)) a

  abbrev joined : Rel
  joined a b = S (turned a) (turned b)

  -- equal literals equal the same ones
  same_at : (a b c : ℕ) → S a b ≡ true → S a c ≡ S b c
  same_at a b c e = bool_eq (S a c) (S b c) (λ h. r.transitive b a c (r.symmetric a b e) h) (λ h. r.transitive a b c e h)

  picked : (p q : Bool) (a b : ℕ) → S a b ≡ true → S (pick p q a) (pick p q b) ≡ true
  picked true q a b e = r.reflexive l
  picked false true a b e = r.reflexive (negation l)
  picked false false a b e = e

  alike : Within S joined
  alike a b e = rw (same_at a b m e, same_at a b (negation m) e) (picked (S b m) (S b (negation m)) a b e)

  -- a negation goes where what it negates goes, negated
  crossed : (a c : ℕ) → S (negation a) c ≡ S a (negation c)
  crossed a c =
      bool_eq (S (negation a) c) (S a (negation c))
      (λ h. rw (negation-twice a) at (r.negating (negation a) c h))
      (λ h. rw (negation-twice c) at (r.negating a (negation c) h))

  negated-pick : (a : ℕ) (p q : Bool) → S a m ≡ p → S a (negation m) ≡ q → S (pick q p (negation a)) (negation (pick p q a)) ≡ true
  negated-pick a true true e f = r.contradiction m (r.transitive m a (negation m) (r.symmetric a m e) f) _ _
  negated-pick a true false e f = r.reflexive (negation l)
  negated-pick a false true e f = rw (negation-twice l) (r.reflexive l)
  negated-pick a false false e f = r.reflexive (negation a)

  negated : (a : ℕ) → S (turned (negation a)) (negation (turned a)) ≡ true
  negated a =
      rw (crossed a m, crossed a (negation m), negation-twice m) (negated-pick a (S a m) (S a (negation m)) refl refl)

  joined-relation : IsRelation joined
  joined-relation =
      record {
        reflexive = λ a. r.reflexive (turned a);
        symmetric = λ a b e. r.symmetric (turned a) (turned b) e;
        transitive = λ a b c e f. r.transitive (turned a) (turned b) (turned c) e f;
        negating = λ a b e.
            r.transitive (turned (negation a)) (negation (turned a)) (turned (negation b)) (negated a)
            (r.transitive (negation (turned a)) (negation (turned b)) (turned (negation b)) (r.negating (turned a) (turned b) e)
            (r.symmetric (turned (negation b)) (negation (turned b)) (negated b)));
        contradiction = λ a e b c.
            r.contradiction (turned a) (r.transitive (turned a) (turned (negation a)) (negation (turned a)) e (negated a)) (turned b) (turned c);
      }

  -- where l and not m are not equal, this is the least that holds l = m
  stays-l : (p : Bool) → pick p false l ≡ l
  stays-l true = refl
  stays-l false = refl

  joined-holds : S l (negation m) ≡ false → joined l m ≡ true
  joined-holds off = rw (off, r.reflexive m, stays-l (S l m)) (r.reflexive l)

  back : (A : Rel) → IsRelation A → Within S A → A l m ≡ true → (a : ℕ) (p q : Bool) → S a m ≡ p → S a (negation m) ≡ q → A a
      (pick p q a) ≡ true
  back A c w h a true q e f = c.transitive a m l (w a m e) (c.symmetric l m h)
  back A c w h a false true e f =
      c.transitive a (negation m) (negation l) (w a (negation m) f) (c.negating m l (c.symmetric l m h))
  back A c w h a false false e f = c.reflexive a

  joined-least : S l (negation m) ≡ false → Least (Holds l m) S joined
  joined-least off =
      record {
        relation = joined-relation;
        above = alike;
        has = joined-holds off;
        forced = λ a b e A c w h.
            let to : (d : ℕ) → A d (turned d) ≡ true = λ d. back A c w h d (S d m) (S d (negation m)) refl refl in
            c.transitive a (turned a) b (to a)
            (c.transitive (turned a) (turned b) b (w (turned a) (turned b) e) (c.symmetric b (turned b) (to b)));
      }

  -- where they are, it is the contradiction
  everything-least : S l (negation m) ≡ true → Least (Holds l m) S everything
  unfolding everything
  everything-least on =
      record {
        relation = everything-relation;
        above = λ a b e. refl;
        has = refl;
        forced = λ a b e A c w h. c.contradiction m (c.transitive m l (negation m) (c.symmetric l m h) (w l (negation m) on)) a b;
      }

  module _ (M : ℕ) (small : Small M S) (lower-l : l / 2 < M) (lower-m : m / 2 < M) where
    -- a literal from M on equals itself alone
    apart : S 0 1 ≡ false → (a c : ℕ) → M ≤ a / 2 → S a c ≡ true → a ≡ c
    apart off a c h e = ⊎_elim (λ (p : a ≡ c). p) (λ (p : a ≡ c → ⊥). absurd (never (S 0 1) (small a c h p e) off)) (split-eq a c)

    not-to : S 0 1 ≡ false → (a c : ℕ) → M ≤ a / 2 → c / 2 < M → S a c ≡ false
    not-to off a c h k =
        ⊎_elim
        (λ (e : S a c ≡ true). let same : a ≡ c = apart off a c h e in let half : a / 2 ≡ c / 2 = ap (λ (d : ℕ). d / 2) same in absurd (omega arith))
        (λ (e : S a c ≡ false). e)
        (either (S a c))

    only-itself : (a b : ℕ) → M ≤ a / 2 → (p q : Bool) → a ≡ pick p q b → a ≡ b
    only-itself a b h true q e = let half : a / 2 ≡ l / 2 = ap (λ (d : ℕ). d / 2) e in absurd (omega arith)
    only-itself a b h false true e =
        let half : a / 2 ≡ negation l / 2 = ap (λ (d : ℕ). d / 2) e in absurd (omega (arith, negation-half l))
    only-itself a b h false false e = e

    joined_small : Small M joined
    joined_small a b h n e =
        ⊎_elim
        (λ (on : S 0 1 ≡ true). all-equal S r on (turned 0) (turned 1))
        (λ (off : S 0 1 ≡ false).
        let itself : turned a ≡ a = rw (not-to off a m h lower-m, not-to off a (negation m) h (rw (negation-half m) lower-m)) in
        absurd (n (only-itself a b h (S b m) (S b (negation m)) (apart off a (turned b) h (rw itself at e)))))
        (either (S 0 1))

-- two literals can be joined
pub join-exists : (M : ℕ) (S : Rel) → IsRelation S → Small M S → (l m : ℕ) → l / 2 < M → m / 2 < M
    → (T : Rel) × Least (Holds l m) S T × Small M T
unfolding everything
join-exists M S r small l m p q =
    ⊎_elim
    (λ (on : S l (negation m) ≡ true). (everything, everything-least S r l m on, λ a b h n e. refl))
    (λ (off : S l (negation m) ≡ false). (joined S r l m, joined-least S r l m off, joined_small S r l m M small p q))
    (either (S l (negation m)))
