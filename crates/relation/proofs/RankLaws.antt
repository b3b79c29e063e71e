-- The rank: a relation above another has no greater rank, and with no smaller one it is the same relation.
use Prim.Native.Nat.{ℕ, zero, suc, ◌+◌, ◌*◌, ◌/◌, ◌≤◌, ◌<◌}
use mathlib.Core.Path.{◌≡◌, refl, sym, ◌∙◌, ap, subst}
use mathlib.Core.Bool.{Bool, true, false}
use mathlib.Core.Logic.{⊎_elim}
use native.Mathlib.Omega.{arith}
use native.Mathlib.Numerals.{add-one}
use lib.Dec.{eqb}
use mir.Val.{bool_byte}
use borrow.Author.Tests.{eq-eqb, ne_eqb}
use Rattle.ground.specs.Choice.{choose}
use Rattle.relation.specs.Relation.{Within}
use Rattle.relation.specs.clauses.Classes.{lead, relation, contradictory, Canonical, own, rank}
use Rattle.ground.proofs.Cases.{either, split-eq, lt-or-ge}
use Rattle.relation.proofs.RelationLaws.{across}
use Rattle.relation.proofs.ClassLaws.{lead-half, lead_is, lead-variable, relation-all, same-leads, leads-same, is-relation, leader-stands, leads-to}

pub own-here : (n : ℕ) (f : ℕ → ℕ) → f n ≡ 2 * n → own (suc n) f ≡ suc (own n f)
unfolding own
own-here n f e = rw (eq-eqb (f n) (2 * n) e) (omega arith)

pub own-not : (n : ℕ) (f : ℕ → ℕ) → (f n ≡ 2 * n → ⊥) → own (suc n) f ≡ own n f
unfolding own
own-not n f e = rw (ne_eqb (f n) (2 * n) e) (omega arith)

-- the count goes up by one where a variable stands for itself
pub own-step : (n : ℕ) (f : ℕ → ℕ) → own (n + 1) f ≡ own n f + choose (eqb (f n) (2 * n)) 1 0
unfolding own
own-step n f = rw (add-one n)

-- a test as a number
pub test-chosen : (b : Bool) → bool_byte b ≡ choose b 1 0
test-chosen true = refl
test-chosen false = refl

pub test-most : (b : Bool) → bool_byte b ≤ 1
test-most true = omega arith
test-most false = omega arith

-- a count of 1 and the variables below v goes on with that of v
pub counted-on : (v : ℕ) (f : ℕ → ℕ) (count one : ℕ) → count ≡ 1 + own v f → one ≡ choose (eqb (f v) (2 * v)) 1 0 → count + one ≡ 1 +
    own (v + 1) f
counted-on v f count one p q = omega (arith, own-step v f)

pub own-none : (f : ℕ → ℕ) → own 0 f ≡ 0
unfolding own
own-none f = refl

-- no more variables stand for themselves than there are
pub own-most : (n : ℕ) (f : ℕ → ℕ) → own n f ≤ n
own-most zero f = omega (arith, own-none f)
own-most (suc n) f =
    ⊎_elim
    (λ (p : f n ≡ 2 * n). omega (arith, own-here n f p, own-most n f))
    (λ (p : f n ≡ 2 * n → ⊥). omega (arith, own-not n f p, own-most n f))
    (split-eq (f n) (2 * n))

-- the variables that stand for themselves in g do so in f
abbrev Fewer : (ℕ → ℕ) → (ℕ → ℕ) → Type 0
Fewer f g = (v : ℕ) → g v ≡ 2 * v → f v ≡ 2 * v

-- then they are no more, and where they are no fewer the converse holds
record Counted (n : ℕ) (f g : ℕ → ℕ) : Type 0 where
  no_more : own n g ≤ own n f
  converse : own n f ≤ own n g → (v : ℕ) → v < n → f v ≡ 2 * v → g v ≡ 2 * v

counted_none : (f g : ℕ → ℕ) → Counted 0 f g
unfolding own
counted_none f g = record { no_more = omega arith; converse = λ e v p q. absurd (omega arith) }

counted-more : (n : ℕ) (f g : ℕ → ℕ) → Fewer f g → Counted n f g → Counted (suc n) f g
counted-more n f g h i =
    ⊎_elim
    (λ (a : g n ≡ 2 * n). both a)
    (λ (a : g n ≡ 2 * n → ⊥). ⊎_elim (λ (b : f n ≡ 2 * n). one a b) (λ (b : f n ≡ 2 * n → ⊥). none a b) (split-eq (f n) (2 * n)))
    (split-eq (g n) (2 * n))
  where
    below : (v : ℕ) → v < suc n → (v ≡ n → ⊥) → v < n
    below v p d = omega arith

    both : g n ≡ 2 * n → Counted (suc n) f g
    both a =
        record {
          no_more = omega (arith, own-here n g a, own-here n f (h n a), i.no_more);
          converse = λ e v p q.
              ⊎_elim
              (λ (z : v ≡ n). rw z a)
              (λ (z : v ≡ n → ⊥). i.converse (omega (arith, own-here n g a, own-here n f (h n a))) v (below v p z) q)
              (split-eq v n);
        }

    one : (g n ≡ 2 * n → ⊥) → f n ≡ 2 * n → Counted (suc n) f g
    one a b =
        record {
          no_more = omega (arith, own-not n g a, own-here n f b, i.no_more);
          converse = λ e v p q. absurd (omega (arith, own-not n g a, own-here n f b, i.no_more));
        }

    none : (g n ≡ 2 * n → ⊥) → (f n ≡ 2 * n → ⊥) → Counted (suc n) f g
    none a b =
        record {
          no_more = omega (arith, own-not n g a, own-not n f b, i.no_more);
          converse = λ e v p q.
              ⊎_elim
              (λ (z : v ≡ n). absurd (b (rw z at q)))
              (λ (z : v ≡ n → ⊥). i.converse (omega (arith, own-not n g a, own-not n f b)) v (below v p z) q)
              (split-eq v n);
        }

counted : (n : ℕ) (f g : ℕ → ℕ) → Fewer f g → Counted n f g
counted zero f g h = counted_none f g
counted (suc n) f g h = counted-more n f g h (counted n f g h)

pub rank-contradictory : (n : ℕ) (f : ℕ → ℕ) → contradictory f ≡ true → rank n f ≡ 0
unfolding rank
rank-contradictory n f c = rw c

pub rank-consistent : (n : ℕ) (f : ℕ → ℕ) → contradictory f ≡ false → rank n f ≡ 1 + own n f
unfolding rank
rank-consistent n f c = rw c

-- the rank is bounded by the number of variables
pub rank_most : (n : ℕ) (f : ℕ → ℕ) → rank n f ≤ 1 + n
rank_most n f =
    ⊎_elim
    (λ (c : contradictory f ≡ true). omega (arith, rank-contradictory n f c))
    (λ (c : contradictory f ≡ false). omega (arith, rank-consistent n f c, own-most n f))
    (either (contradictory f))

-- a variable that leads to none lower stands for itself
stands-not-lower : (n : ℕ) (f : ℕ → ℕ) → Canonical n f → contradictory f ≡ false → (v : ℕ) → v ≤ f v / 2 → f v ≡ 2 * v
stands-not-lower n f k c v h = subst (λ (u : ℕ). f u ≡ 2 * u) here (leader-stands n f k c v)
  where
    here : f v / 2 ≡ v
    here = omega (arith, k.lower v)

-- two consistent arrays, the relation of the second above that of the first
record Above (n : ℕ) (f g : ℕ → ℕ) : Type 0 where
  first : Canonical n f
  second : Canonical n g
  consistent : contradictory f ≡ false
  consistent' : contradictory g ≡ false
  within : Within (relation f) (relation g)

-- what stands for itself above stands for itself below
above-fewer : (n : ℕ) (f g : ℕ → ℕ) → Above n f g → Fewer f g
above-fewer n f g a v e = stands-not-lower n f a.first a.consistent v low
  where
    same : lead g (2 * v) ≡ lead g (lead f (2 * v))
    same = same-leads g a.consistent' (2 * v) (lead f (2 * v)) (a.within (2 * v) (lead f (2 * v)) (leads-to n f a.first (2 * v)))

    there : 2 * v ≡ lead g (f v)
    there = sym e ∙ sym (lead-variable g v) ∙ same ∙ ap (lead g) (lead-variable f v)

    low : v ≤ f v / 2
    low = omega (arith, there, lead-half g (f v), a.second.lower (f v / 2))

-- with as many classes below as above, nothing was joined
above_same : (n : ℕ) (f g : ℕ → ℕ) → Above n f g → ((v : ℕ) → f v ≡ 2 * v → g v ≡ 2 * v) → Within (relation g) (relation f)
above_same n f g a h l m e = leads-same f l m (sym (fixed l) ∙ same-leads g a.consistent' (lead f l) (lead f m) leaders ∙ fixed m)
  where
    old : (j : ℕ) → relation g j (lead f j) ≡ true
    old j = a.within j (lead f j) (leads-to n f a.first j)

    leaders : relation g (lead f l) (lead f m) ≡ true
    leaders = across (relation g) (is-relation g) l (lead f l) m (lead f m) (old l) (old m) e

    own-leader : (j : ℕ) → g (lead f j / 2) ≡ 2 * (lead f j / 2)
    own-leader j = h (lead f j / 2) (rw (lead-half f j) (leader-stands n f a.first a.consistent (j / 2)))

    fixed : (j : ℕ) → lead g (lead f j) ≡ lead f j
    fixed j =
        lead_is g (lead f j) (lead f j)
        (ap (λ (w : ℕ). w / 2) (own-leader j) ∙ omega arith)
        (omega (arith, own-leader j))

-- where the new relation is above the old one and its rank is no smaller, it is also below it
pub rank-settles : (n : ℕ) (f g : ℕ → ℕ) → Canonical n f → Canonical n g → Within (relation f) (relation g) → rank n f ≤ rank n g → Within
    (relation g) (relation f)
rank-settles n f g k k' w h =
    ⊎_elim
    (λ (c : contradictory f ≡ true). λ l m e. relation-all f c l m)
    (λ (c : contradictory f ≡ false).
    ⊎_elim
    (λ (d : contradictory g ≡ true). absurd (omega (arith, rank-consistent n f c, rank-contradictory n g d)))
    (λ (d : contradictory g ≡ false). settled c d)
    (either (contradictory g)))
    (either (contradictory f))
  where
    settled : contradictory f ≡ false → contradictory g ≡ false → Within (relation g) (relation f)
    settled c d = above_same n f g a back
      where
        a : Above n f g
        a = record { first = k; second = k'; consistent = c; consistent' = d; within = w }

        count : Counted n f g
        count = counted n f g (above-fewer n f g a)

        as_many : own n f ≤ own n g
        as_many = omega (arith, rank-consistent n f c, rank-consistent n g d)

        back : (v : ℕ) → f v ≡ 2 * v → g v ≡ 2 * v
        back v e =
            ⊎_elim
            (λ (p : v < n). count.converse as_many v p e)
            (λ (p : n ≤ v). k'.beyond v p)
            (lt-or-ge v n)
