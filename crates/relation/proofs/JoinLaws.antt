-- Joining two classes: the higher leader becomes the lower, its sign included, and the relation is the least that holds it.
use Prim.Native.Nat.{ℕ, ◌+◌, ◌*◌, ◌/◌, ◌%◌, ◌≤◌, ◌<◌}
use mathlib.Core.Path.{◌≡◌, refl, sym, ◌∙◌, ap, subst, fun_ext}
use mathlib.Core.Bool.{true, false}
use mathlib.Core.Logic.{⊎_elim}
use mathlib.Core.List.{List}
use native.Mathlib.Omega.{arith}
use lib.ListN.{length, set, length-set}
use lib.Seq.{get_or-set_same}
use borrow.Author.Tests.{eq-eqb, ne_eqb}
use Rattle.relation.specs.Relation.{Rel, IsRelation, Within}
use Rattle.relation.specs.Least.{Least, Holds}
use Rattle.notation.specs.clauses.Writing.{signed}
use Rattle.relation.specs.clauses.Classes.{variable_ceiling, entry, lead, relation, contradictory, moved, kept, Canonical, Classes}
use Rattle.relation.specs.clauses.Keeping.{Leaders, Joined}
use Rattle.ground.proofs.Cases.{split-eq}
use Rattle.relation.proofs.LiteralLaws.{sign-add, signed-half, signed-sign, literal-eq, same-variable}
use Rattle.relation.proofs.RelationLaws.{signed-both, least-none, least-across, least-turned}
use Rattle.relation.proofs.ClassLaws.{lead-half, lead-sign, lead_is, relation-all, same-leads, leads-same, is-relation, true-leads}
use Rattle.relation.proofs.ClassLaws.{contradictory-at, leader-stands, lead-twice, lead-lower, leads-to, stored_other}

pub moved-goes : (lo hi w : ℕ) → w / 2 ≡ hi / 2 → moved lo hi w ≡ signed lo (w + hi)
unfolding moved
moved-goes lo hi w e = rw (eq-eqb (w / 2) (hi / 2) e)

pub moved-stays : (lo hi w : ℕ) → (w / 2 ≡ hi / 2 → ⊥) → moved lo hi w ≡ w
unfolding moved
moved-stays lo hi w e = rw (ne_eqb (w / 2) (hi / 2) e)

-- all entries with hi become lo
abbrev pub merged : (ℕ → ℕ) → ℕ → ℕ → ℕ → ℕ
merged f lo hi v = moved lo hi (f v)

-- a literal leads to what its old leader has become
pub leads-merged : (f : ℕ → ℕ) (lo hi l : ℕ) → lead (merged f lo hi) l ≡ moved lo hi (lead f l)
leads-merged f lo hi l =
    ⊎_elim
    (λ (p : f (l / 2) / 2 ≡ hi / 2). goes p)
    (λ (p : f (l / 2) / 2 ≡ hi / 2 → ⊥). stays p)
    (split-eq (f (l / 2) / 2) (hi / 2))
  where
    regroup : lo + (f (l / 2) + hi) + l ≡ f (l / 2) + l + (lo + hi)
    regroup = omega arith

    forward : lo + (lead f l + hi) ≡ lead f l + (lo + hi)
    forward = omega arith

    signs : (signed lo (f (l / 2) + hi) + l) % 2 ≡ signed lo (lead f l + hi) % 2
    signs =
        sign-add (signed lo (f (l / 2) + hi)) (lo + (f (l / 2) + hi)) l (signed-sign lo (f (l / 2) + hi))
        ∙ ap (λ (w : ℕ). w % 2) regroup
        ∙ sym (signed-sign lo (lead f l + hi) ∙ ap (λ (w : ℕ). w % 2) forward ∙ sign-add (lead f l) (f (l / 2) + l) (lo + hi) (lead-sign f l))

    goes : f (l / 2) / 2 ≡ hi / 2 → lead (merged f lo hi) l ≡ moved lo hi (lead f l)
    goes p =
        rw (moved-goes lo hi (lead f l) (lead-half f l ∙ p))
        (lead_is (merged f lo hi) l (signed lo (lead f l + hi))
        (rw (moved-goes lo hi (f (l / 2)) p) (signed-half lo (f (l / 2) + hi) ∙ sym (signed-half lo (lead f l + hi))))
        (rw (moved-goes lo hi (f (l / 2)) p)
        signs))

    stays : (f (l / 2) / 2 ≡ hi / 2 → ⊥) → lead (merged f lo hi) l ≡ moved lo hi (lead f l)
    stays p =
        rw (moved-stays lo hi (lead f l) (λ q. p (sym (lead-half f l) ∙ q)))
        (lead_is (merged f lo hi) l (lead f l)
        (rw (moved-stays lo hi (f (l / 2)) p) (sym (lead-half f l)))
        (rw (moved-stays lo hi (f (l / 2)) p) (sym (lead-sign f l))))

-- the variable of a literal that leads to itself stands for itself
pub stands : (n : ℕ) (f : ℕ → ℕ) → Canonical n f → contradictory f ≡ false → (l : ℕ) → lead f l ≡ l → f (l / 2) ≡ 2 * (l / 2)
stands n f k c l e = subst (λ (u : ℕ). f u ≡ 2 * u) here (leader-stands n f k c (l / 2))
  where
    here : f (l / 2) / 2 ≡ l / 2
    here = sym (lead-half f l) ∙ ap (λ (w : ℕ). w / 2) e

merged-canonical : (n : ℕ) (f : ℕ → ℕ) (lo hi : ℕ) → Canonical n f → Leaders n f lo hi → Canonical n (merged f lo hi)
merged-canonical n f lo hi k s =
    record {
      lower = λ v. ⊎_elim (λ (p : f v / 2 ≡ hi / 2). low_goes v p) (λ (p : f v / 2 ≡ hi / 2 → ⊥). low-stays v p) (split-eq (f v / 2) (hi / 2));
      leader = λ v h. ⊎_elim (λ (p : f v / 2 ≡ hi / 2). at_goes v p) (λ (p : f v / 2 ≡ hi / 2 → ⊥). at-stays v p) (split-eq (f v / 2) (hi / 2));
      beyond = λ v h. past v h;
    }
  where
    low_goes : (v : ℕ) → f v / 2 ≡ hi / 2 → moved lo hi (f v) / 2 ≤ v
    low_goes v p = rw (moved-goes lo hi (f v) p) (omega (arith, signed-half lo (f v + hi), k.lower v, s.less))

    low-stays : (v : ℕ) → (f v / 2 ≡ hi / 2 → ⊥) → moved lo hi (f v) / 2 ≤ v
    low-stays v p = rw (moved-stays lo hi (f v) p) (k.lower v)

    stays_at : (u : ℕ) → (u ≡ hi / 2 → ⊥) → f u ≡ 2 * u → moved lo hi (f u) ≡ 2 * u
    stays_at u d e = ap (moved lo hi) e ∙ moved-stays lo hi (2 * u) (λ q. d (omega arith))

    half : (v : ℕ) → f v / 2 ≡ hi / 2 → moved lo hi (f v) / 2 ≡ lo / 2
    half v p = ap (λ (w : ℕ). w / 2) (moved-goes lo hi (f v) p) ∙ signed-half lo (f v + hi)

    at_goes : (v : ℕ) → f v / 2 ≡ hi / 2 → moved lo hi (f (moved lo hi (f v) / 2)) ≡ 2 * (moved lo hi (f v) / 2)
    at_goes v p = rw (half v p) (stays_at (lo / 2) (λ q. omega (arith, s.less)) (stands n f k s.consistent lo s.low))

    at-stays : (v : ℕ) → (f v / 2 ≡ hi / 2 → ⊥) → moved lo hi (f (moved lo hi (f v) / 2)) ≡ 2 * (moved lo hi (f v) / 2)
    at-stays v p = rw (moved-stays lo hi (f v) p) (stays_at (f v / 2) p (leader-stands n f k s.consistent v))

    past : (v : ℕ) → n ≤ v → moved lo hi (f v) ≡ 2 * v
    past v h = stays_at v (λ q. omega (arith, s.inside)) (k.beyond v h)

merged-consistent : (n : ℕ) (f : ℕ → ℕ) (lo hi : ℕ) → Canonical n f → Leaders n f lo hi → contradictory (merged f lo hi) ≡ false
merged-consistent n f lo hi k s =
    contradictory-at (merged f lo hi)
    (ap (moved lo hi) (true-leads n f k s.consistent) ∙ moved-stays lo hi 0 (λ q. omega (arith, s.less)))

-- every relation above that of f with lo = hi holds that a literal equals what its leader has become
leads-forced : (n : ℕ) (f : ℕ → ℕ) (lo hi : ℕ) → Canonical n f → Leaders n f lo hi → (A : Rel) → IsRelation A → Within (relation f) A
    → A lo hi ≡ true → (l : ℕ) → A l (moved lo hi (lead f l)) ≡ true
leads-forced n f lo hi k s A r w h l =
    ⊎_elim
    (λ (p : lead f l / 2 ≡ hi / 2). goes p)
    (λ (p : lead f l / 2 ≡ hi / 2 → ⊥). rw (moved-stays lo hi (lead f l) p) old)
    (split-eq (lead f l / 2) (hi / 2))
  where
    old : A l (lead f l) ≡ true
    old = w l (lead f l) (leads-to n f k l)

    again : lead f l / 2 ≡ hi / 2 → signed hi (lead f l + hi) ≡ lead f l
    again p =
        literal-eq (signed hi (lead f l + hi)) (lead f l)
        (signed-half hi (lead f l + hi) ∙ sym p)
        (omega (arith, signed-sign hi (lead f l + hi)))

    goes : lead f l / 2 ≡ hi / 2 → A l (moved lo hi (lead f l)) ≡ true
    goes p =
        rw (moved-goes lo hi (lead f l) p)
        (r.transitive l (lead f l) (signed lo (lead f l + hi)) old
        (subst (λ (u : ℕ). A u (signed lo (lead f l + hi)) ≡ true) (again p)
        (signed-both A r hi lo (lead f l + hi) (r.symmetric lo hi h))))

-- joining two leaders of a consistent array
pub merging : (n : ℕ) (f : ℕ → ℕ) (lo hi : ℕ) → Canonical n f → Leaders n f lo hi → Canonical n (merged f lo hi) × Least (Holds lo hi)
    (relation f) (relation (merged f lo hi))
merging n f lo hi k s = (
  merged-canonical n f lo hi k s,
  record {
    relation = is-relation (merged f lo hi);
    above = λ l m e.
        leads-same (merged f lo hi) l m
        (leads-merged f lo hi l ∙ ap (moved lo hi) (same-leads f s.consistent l m e) ∙ sym (leads-merged f lo hi m));
    has = leads-same (merged f lo hi) lo hi (leads-merged f lo hi lo ∙ together ∙ sym (leads-merged f lo hi hi));
    forced = λ l m e A r w h.
        r.transitive l (moved lo hi (lead f l)) m (leads-forced n f lo hi k s A r w h l)
        (subst (λ (u : ℕ). A u m ≡ true)
        (sym (sym (leads-merged f lo hi l) ∙ same-leads (merged f lo hi) (merged-consistent n f lo hi k s) l m e ∙ leads-merged f lo hi m))
        (r.symmetric m (moved lo hi (lead f m)) (leads-forced n f lo hi k s A r w h m)));
  },
)
  where
    differ : lo / 2 ≡ hi / 2 → ⊥
    differ q = omega (arith, s.less)

    turned : signed lo (hi + hi) ≡ lo
    turned = literal-eq (signed lo (hi + hi)) lo (signed-half lo (hi + hi)) (omega (arith, signed-sign lo (hi + hi)))

    together : moved lo hi (lead f lo) ≡ moved lo hi (lead f hi)
    together =
        ap (moved lo hi) s.low ∙ moved-stays lo hi lo differ
        ∙ sym (ap (moved lo hi) s.high ∙ moved-goes lo hi hi refl ∙ turned)

-- joining a literal and its negation: all are equal
pub breaking : (n : ℕ) (f g : ℕ → ℕ) (a b : ℕ) → Canonical n f → lead f a / 2 ≡ lead f b / 2 → (lead f a ≡ lead f b → ⊥)
    → contradictory g ≡ true → Least (Holds a b) (relation f) (relation g)
breaking n f g a b k p d c =
    record {
      relation = is-relation g;
      above = λ l m e. relation-all g c l m;
      has = relation-all g c a b;
      forced = λ l m e A r w h.
          r.contradiction (lead f a)
          (subst (λ (u : ℕ). A (lead f a) u ≡ true) (same-variable (lead f a) (lead f b) p d)
          (r.transitive (lead f a) a (lead f b)
          (r.symmetric a (lead f a) (w a (lead f a) (leads-to n f k a)))
          (r.transitive a b (lead f b) h (w b (lead f b) (leads-to n f k b)))))
          l m;
    }

-- an entry of a variable below that of hi does not move
pub moved-low : (n : ℕ) (f : ℕ → ℕ) (lo hi v : ℕ) → Canonical n f → v < hi / 2 → f v ≡ moved lo hi (f v)
moved-low n f lo hi v k h = sym (moved-stays lo hi (f v) (λ q. omega (arith, k.lower v)))

-- nor does one of a variable that is not in use
pub moved-beyond : (n : ℕ) (f : ℕ → ℕ) (lo hi v : ℕ) → Canonical n f → Leaders n f lo hi → n ≤ v → f v ≡ moved lo hi (f v)
moved-beyond n f lo hi v k s h = sym (moved-stays lo hi (f v) (λ q. omega (arith, k.beyond v h, s.inside)))

-- an array of which each entry has moved keeps the joined relation
pub merge-done : (n : ℕ) (xs ys : List ℕ) (lo hi : ℕ) → Classes n xs → Leaders n (entry xs) lo hi → length ys ≡ variable_ceiling
    → ((v : ℕ) → entry ys v ≡ moved lo hi (entry xs v)) → Joined n xs lo hi ys
merge-done n xs ys lo hi k s long all =
    record {
      classes = record { long = long; fits = k.fits; canonical = subst (λ (g : ℕ → ℕ). Canonical n g) done joined.0 };
      least = subst (λ (g : ℕ → ℕ). Least (Holds lo hi) (relation (entry xs)) (relation g)) done joined.1;
    }
  where
    done : merged (entry xs) lo hi ≡ entry ys
    done = fun_ext (λ v. sym (all v))

    joined : Canonical n (merged (entry xs) lo hi) × Least (Holds lo hi) (relation (entry xs)) (relation (merged (entry xs) lo hi))
    joined = merging n (entry xs) lo hi k.canonical s

-- a contradictory array stays canonical
pub broken-canonical : (n : ℕ) (f g : ℕ → ℕ) → 0 < n → Canonical n f → g 0 ≡ 1 → ((v : ℕ) → (v ≡ 0 → ⊥) → g v ≡ f v)
    → Canonical n g
broken-canonical n f g h k z e =
    record {
      lower = λ v. ⊎_elim (λ (p : v ≡ 0). rw (p, z) (omega arith)) (λ (p : v ≡ 0 → ⊥). rw (e v p) (k.lower v)) (split-eq v 0);
      leader = λ v q. ⊎_elim (λ (p : v ≡ 0). absurd (none v p q)) (λ (p : v ≡ 0 → ⊥). at v p q) (split-eq v 0);
      beyond = λ v q. e v (λ p. omega arith) ∙ k.beyond v q;
    }
  where
    none : (v : ℕ) → v ≡ 0 → 0 < g v / 2 → ⊥
    none v p q = let there : g v ≡ 1 = ap g p ∙ z in omega arith

    at : (v : ℕ) → (v ≡ 0 → ⊥) → 0 < g v / 2 → g (g v / 2) ≡ 2 * (g v / 2)
    at v p q = e (g v / 2) (λ r. omega arith) ∙ subst (λ (w : ℕ). f (w / 2) ≡ 2 * (w / 2)) (sym (e v p)) (k.leader v (rw (← e v p) q))

-- two literals that lead apart give leaders to join
pub leaders-of : (n : ℕ) (f : ℕ → ℕ) (l m a b : ℕ) → Canonical n f → contradictory f ≡ false → a ≡ lead f l → b ≡ lead f m → a / 2
    < b / 2 → m / 2 < n → Leaders n f a b
leaders-of n f l m a b k c p q h i =
    record {
      consistent = c;
      low = ap (lead f) p ∙ lead-twice n f k c l ∙ sym p;
      high = ap (lead f) q ∙ lead-twice n f k c m ∙ sym q;
      less = h;
      inside = omega (arith, q, lead-lower n f k m);
    }

-- joining where two literals lead is joining the literals
pub joined-leads : (n : ℕ) (xs ys : List ℕ) (l m a b : ℕ) → Classes n xs → a ≡ lead (entry xs) l → b ≡ lead (entry xs) m → Joined n xs a b
    ys → Joined n xs l m ys
joined-leads n xs ys l m a b k p q j =
    record {
      classes = j.classes;
      least = least-across (kept xs) (kept ys) l a m b (is-relation (entry xs)) (rw p (leads-to n (entry xs) k.canonical l))
          (rw q (leads-to n (entry xs) k.canonical m)) j.least;
    }

pub joined-turned : (n : ℕ) (xs ys : List ℕ) (l m : ℕ) → Joined n xs m l ys → Joined n xs l m ys
joined-turned n xs ys l m j = record { classes = j.classes; least = least-turned (kept xs) (kept ys) l m j.least }

-- literals that are equal already need no joining
pub joined-none : (n : ℕ) (xs : List ℕ) (l m : ℕ) → Classes n xs → kept xs l m ≡ true → Joined n xs l m xs
joined-none n xs l m k e =
    record { classes = k; least = least-none (Holds l m) (kept xs) (is-relation (entry xs)) e }

-- a literal and its negation are joined by making true false
pub joined-broken : (n : ℕ) (xs : List ℕ) (l m : ℕ) → Classes n xs → l / 2 < n → lead (entry xs) l / 2 ≡ lead (entry xs) m / 2
    → (lead (entry xs) l ≡ lead (entry xs) m → ⊥) → Joined n xs l m (set xs 0 1)
joined-broken n xs l m k i p d =
    record {
      classes = record {
        long = length-set xs 0 1 ∙ k.long;
        fits = k.fits;
        canonical = broken-canonical n (entry xs) (entry (set xs 0 1)) (omega arith) k.canonical false-is (λ v q. stored_other xs 0 1 v q);
      };
      least = breaking n (entry xs) (entry (set xs 0 1)) l m k.canonical p d (eq-eqb (entry (set xs 0 1) 0) 1 false-is);
    }
  where
    false-is : entry (set xs 0 1) 0 ≡ 1
    false-is = get_or-set_same xs 0 1 0 (omega (arith, k.long))

-- by another name of the number of variables
pub joined-at : {n m l j : ℕ} {xs ys : List ℕ} → n ≡ m → Joined n xs l j ys → Joined m xs l j ys
joined-at {n} {m} {l} {j} {xs} {ys} e = subst (λ (i : ℕ). Joined i xs l j ys) e
