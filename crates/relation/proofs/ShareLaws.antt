-- What two relations share: each variable leads to the lowest variable that equals it in both.
use Prim.Native.Nat.{ℕ, ◌+◌, ◌*◌, ◌/◌, ◌%◌, ◌≤◌, ◌<◌, max}
use mathlib.Core.Path.{◌≡◌, refl, sym, ◌∙◌, ap, ap₂, subst}
use mathlib.Core.Bool.{Bool, true, false}
use mathlib.Core.List.{List}
use mathlib.Core.Logic.{⊎_elim}
use native.Mathlib.Omega.{arith}
use lib.ListN.{length, get_or}
use lib.Dec.{eqb}
use borrow.Author.Tests.{eqb-true, eq-eqb}
use Rattle.ground.specs.Choice.{choose}
use Rattle.relation.specs.Relation.{Rel}
use Rattle.notation.specs.clauses.Writing.{signed}
use Rattle.relation.specs.clauses.Classes.{variable_ceiling, entry, lead, relation, contradictory, Canonical, Classes}
use Rattle.relation.specs.clauses.Keeping.{Lower, SharedLeader, Shared, common}
use Rattle.ground.proofs.Cases.{either, split-eq, lt-or-ge, never}
use Rattle.relation.proofs.LiteralLaws.{sign-add, signed-half, signed-sign, literal-eq}
use Rattle.relation.proofs.RelationLaws.{bool_eq}
use Rattle.relation.proofs.ClassLaws.{entry_at, lead-half, lead-sign, lead-variable, lead-signed, same-leads, leads-same, contradictory-at}

-- no literal of a variable below u leads, in f and in g, where the variable v does
abbrev pub NoneBelow : (ℕ → ℕ) → (ℕ → ℕ) → ℕ → ℕ → Type 0
NoneBelow f g v u = (k : ℕ) → k / 2 < u → lead f k ≡ f v → lead g k ≡ g v → ⊥

-- none below the higher leader
pub none-start : (f g : ℕ → ℕ) (v : ℕ) → ((u : ℕ) → f u / 2 ≤ u) → ((u : ℕ) → g u / 2 ≤ u) → NoneBelow f g v (max (f v / 2) (g v / 2))
none-start f g v a b k h p q = omega (arith, p, q, lead-half f k, lead-half g k, a (k / 2), b (k / 2))

signed-twice : (w s : ℕ) → signed (signed w s) s ≡ w
signed-twice w s = literal-eq (signed (signed w s) s) w (signed-half (signed w s) s ∙ signed-half w s) signs
  where
    signs : signed (signed w s) s % 2 ≡ w % 2
    signs =
        signed-sign (signed w s) s ∙ sign-add (signed w s) (w + s) s (signed-sign w s) ∙ even
      where
        even : (w + s + s) % 2 ≡ w % 2
        even = omega arith

-- the test of a variable u: with the sign s it leads, in f and in g, where the variable v does
abbrev pub agrees : (ℕ → ℕ) → (ℕ → ℕ) → ℕ → ℕ → ℕ → Bool
agrees f g v u s = choose (eqb (signed (f u) s) (f v)) (eqb (signed (g u) s) (g v)) false

-- that sign is the literal's own
own_sign : (c a k : ℕ) → signed c k ≡ a → (a + c) % 2 ≡ k % 2
own_sign c a k e =
    let s : a % 2 ≡ (c + k) % 2 = sym (ap (λ (w : ℕ). w % 2) e) ∙ signed-sign c k in
    omega (arith, s)

signed-like : (w s t : ℕ) → s % 2 ≡ t % 2 → signed w s ≡ signed w t
signed-like w s t e =
    literal-eq (signed w s) (signed w t) (signed-half w s ∙ sym (signed-half w t))
    (omega (arith, signed-sign w s, signed-sign w t))

lead-at : (f : ℕ → ℕ) (k u : ℕ) → k / 2 ≡ u → lead f k ≡ signed (f u) k
unfolding lead
lead-at f k u e = ap (λ (w : ℕ). signed (f w) k) e

agrees-true : (f g : ℕ → ℕ) (v u s : ℕ) → signed (f u) s ≡ f v → signed (g u) s ≡ g v → agrees f g v u s ≡ true
agrees-true f g v u s p q = rw (eq-eqb (signed (f u) s) (f v) p) (eq-eqb (signed (g u) s) (g v) q)

agrees-both : (f g : ℕ → ℕ) (v u s : ℕ) → agrees f g v u s ≡ true → (signed (f u) s ≡ f v) × (signed (g u) s ≡ g v)
agrees-both f g v u s e =
    ⊎_elim
    (λ (p : eqb (signed (f u) s) (f v) ≡ true). (eqb-true (signed (f u) s) (f v) p, eqb-true (signed (g u) s) (g v) (rw p at e)))
    (λ (p : eqb (signed (f u) s) (f v) ≡ false). absurd (never false (rw p at e) refl))
    (either (eqb (signed (f u) s) (f v)))

-- one variable more, which does not agree
pub none-next : (f g : ℕ → ℕ) (v u s : ℕ) → s ≡ (f v + f u) % 2 → NoneBelow f g v u → agrees f g v u s ≡ false → NoneBelow f g v (u + 1)
none-next f g v u s z none d k h p q =
    ⊎_elim
    (λ (e : k / 2 ≡ u). never (agrees f g v u s) (both e) d)
    (λ (e : k / 2 ≡ u → ⊥). none k (omega arith) p q)
    (split-eq (k / 2) u)
  where
    like : k / 2 ≡ u → s % 2 ≡ k % 2
    like e = omega (arith, own_sign (f u) (f v) k (sym (lead-at f k u e) ∙ p))

    both : k / 2 ≡ u → agrees f g v u s ≡ true
    both e =
        agrees-true f g v u s
        (signed-like (f u) s k (like e) ∙ sym (lead-at f k u e) ∙ p)
        (signed-like (g u) s k (like e) ∙ sym (lead-at g k u e) ∙ q)

-- a variable that agrees is the lowest
pub shared-found : (f g : ℕ → ℕ) (v u s : ℕ) → s < 2 → u < v → NoneBelow f g v u → agrees f g v u s ≡ true → SharedLeader f g v (2 * u + s)
shared-found f g v u s b h none d =
    record {
      low = omega arith;
      first = lead-at f (2 * u + s) u here ∙ signed-like (f u) (2 * u + s) s sign ∙ (agrees-both f g v u s d).0;
      second = lead-at g (2 * u + s) u here ∙ signed-like (g u) (2 * u + s) s sign ∙ (agrees-both f g v u s d).1;
      lowest = λ k i p q. ⊎_elim (λ (e : k / 2 < u). absurd (none k e p q)) (λ (e : u ≤ k / 2). omega arith) (lt-or-ge (k / 2) u);
    }
  where
    here : (2 * u + s) / 2 ≡ u
    here = omega arith

    sign : (2 * u + s) % 2 ≡ s % 2
    sign = omega arith

-- the test as it is made on two arrays, with the sign that u has against v
abbrev pub tested : List ℕ → List ℕ → ℕ → ℕ → ℕ → Bool
tested xs ys v u s = choose (eqb (signed (get_or xs u 0) s) (get_or xs v 0)) (eqb (signed (get_or ys u 0) s) (get_or ys v 0)) false

abbrev pub against : List ℕ → ℕ → ℕ → ℕ
against xs v u = (get_or xs v 0 + get_or xs u 0) % 2

tested-agrees : (xs ys : List ℕ) (v u s : ℕ) → v < length xs → v < length ys → u < v → tested xs ys v u s ≡ agrees (entry xs) (entry ys) v u s
tested-agrees xs ys v u s a b h =
    rw (entry_at xs u 0 (omega arith), entry_at xs v 0 a, entry_at ys u 0 (omega arith), entry_at ys v 0 b) refl

pub test-found : (xs ys : List ℕ) (v u : ℕ) (b : Bool) → v < length xs → v < length ys → u < v → NoneBelow (entry xs) (entry ys) v u → b
    ≡ tested xs ys v u (against xs v u) → b ≡ true → SharedLeader (entry xs) (entry ys) v (2 * u + against xs v u)
test-found xs ys v u b p q h none e t =
    shared-found (entry xs) (entry ys) v u (against xs v u) (omega arith) h none
    (sym (tested-agrees xs ys v u (against xs v u) p q h) ∙ sym e ∙ t)

pub test-next : (xs ys : List ℕ) (v u : ℕ) (b : Bool) → v < length xs → v < length ys → u < v → NoneBelow (entry xs) (entry ys) v u → b
    ≡ tested xs ys v u (against xs v u) → b ≡ false → NoneBelow (entry xs) (entry ys) v (u + 1)
test-next xs ys v u b p q h none e t =
    none-next (entry xs) (entry ys) v u (against xs v u)
    (ap₂ (λ (a c : ℕ). (a + c) % 2) (entry_at xs v 0 p) (entry_at xs u 0 (omega arith))) none
    (sym (tested-agrees xs ys v u (against xs v u) p q h) ∙ sym e ∙ t)

-- where none lower agrees a variable stands for itself
pub shared_last : (f g : ℕ → ℕ) (v : ℕ) → NoneBelow f g v v → SharedLeader f g v (2 * v)
shared_last f g v none =
    record {
      low = omega arith;
      first = lead-variable f v;
      second = lead-variable g v;
      lowest = λ k i p q. ⊎_elim (λ (e : k / 2 < v). absurd (none k e p q)) (λ (e : v ≤ k / 2). omega arith) (lt-or-ge (k / 2) v);
    }

-- a search for v meets no entry above v
pub shared_same : (f h g : ℕ → ℕ) (v r : ℕ) → ((u : ℕ) → u < v + 1 → h u ≡ f u) → SharedLeader h g v r → SharedLeader f g v r
shared_same f h g v r e s =
    record {
      low = s.low;
      first = sym (same r s.low) ∙ s.first ∙ e v (omega arith);
      second = s.second;
      lowest = λ k i p q. s.lowest k i (same k i ∙ p ∙ sym (e v (omega arith))) q;
    }
  where
    same : (k : ℕ) → k / 2 ≤ v → lead h k ≡ lead f k
    same k i = lead-at h k (k / 2) refl ∙ ap (λ (w : ℕ). signed w k) (e (k / 2) (omega arith)) ∙ sym (lead-at f k (k / 2) refl)

-- a variable that is not in use stands for itself
pub shared-beyond : (n : ℕ) (f g : ℕ → ℕ) (v : ℕ) → Canonical n f → n ≤ v → SharedLeader f g v (2 * v)
shared-beyond n f g v k h = shared_last f g v (λ j i p q. omega (arith, p, lead-half f j, k.lower (j / 2), k.beyond v h))

-- h leads each variable to the lowest that equals it in f and in g, none of the two contradictory
pub record Meet (n : ℕ) (f g h : ℕ → ℕ) : Type 0 where
  pub first : Canonical n f
  pub second : Canonical n g
  pub true-first : f 0 ≡ 0
  pub true-second : g 0 ≡ 0
  pub leaders : (v : ℕ) → SharedLeader f g v (h v)

-- a literal equals, in f and in g, the one to which it leads in h
meet-leads : (n : ℕ) (f g h : ℕ → ℕ) → Meet n f g h → (l : ℕ) → (lead f (lead h l) ≡ lead f l) × (lead g (lead h l) ≡ lead g l)
meet-leads n f g h m l =
    (through f (m.leaders (l / 2)).first, through g (m.leaders (l / 2)).second)
  where
    through : (e : ℕ → ℕ) → lead e (h (l / 2)) ≡ e (l / 2) → lead e (lead h l) ≡ lead e l
    through e p =
        ap (lead e) (lead-at h l (l / 2) refl)
        ∙ lead-signed e (h (l / 2)) l
        ∙ ap (λ (w : ℕ). signed w l) p
        ∙ sym (lead-at e l (l / 2) refl)

-- a literal that equals l in f and in g is of no lower variable than the one to which l leads in h
meet-lowest : (n : ℕ) (f g h : ℕ → ℕ) → Meet n f g h → (l b : ℕ) → lead f b ≡ lead f l → lead g b ≡ lead g l → lead h l / 2 ≤ b / 2
meet-lowest n f g h m l b p q =
    ⊎_elim
    (λ (i : b / 2 < l / 2 + 1).
    omega (arith, lead-half h l, signed-half b l, (m.leaders (l / 2)).lowest (signed b l) (omega (arith, signed-half b l)) (back f p) (back g q)))
    (λ (i : l / 2 + 1 ≤ b / 2). omega (arith, lead-half h l, (m.leaders (l / 2)).low))
    (lt-or-ge (b / 2) (l / 2 + 1))
  where
    back : (e : ℕ → ℕ) → lead e b ≡ lead e l → lead e (signed b l) ≡ e (l / 2)
    back e p =
        lead-signed e b l
        ∙ ap (λ (w : ℕ). signed w l) (p ∙ lead-at e l (l / 2) refl)
        ∙ signed-twice (e (l / 2)) l

-- so literals that are equal in f and in g lead to the same in h
meet-joins : (n : ℕ) (f g h : ℕ → ℕ) → Meet n f g h → (l j : ℕ) → lead f l ≡ lead f j → lead g l ≡ lead g j → lead h l ≡ lead h j
meet-joins n f g h m l j p q = literal-eq (lead h l) (lead h j) halves signs
  where
    a : (lead f (lead h l) ≡ lead f l) × (lead g (lead h l) ≡ lead g l)
    a = meet-leads n f g h m l

    b : (lead f (lead h j) ≡ lead f j) × (lead g (lead h j) ≡ lead g j)
    b = meet-leads n f g h m j

    halves : lead h l / 2 ≡ lead h j / 2
    halves =
        omega (
          arith,
          meet-lowest n f g h m l (lead h j) (b.0 ∙ sym p) (b.1 ∙ sym q),
          meet-lowest n f g h m j (lead h l) (a.0 ∙ p) (a.1 ∙ q),
        )

    same : signed (f (lead h l / 2)) (lead h l) ≡ signed (f (lead h l / 2)) (lead h j)
    same = sym (lead-at f (lead h l) (lead h l / 2) refl) ∙ a.0 ∙ p ∙ sym b.0 ∙ lead-at f (lead h j) (lead h l / 2) (sym halves)

    signs : lead h l % 2 ≡ lead h j % 2
    signs =
        omega (arith, same, signed-sign (f (lead h l / 2)) (lead h l), signed-sign (f (lead h l / 2)) (lead h j))

meet-true : (n : ℕ) (f g h : ℕ → ℕ) → Meet n f g h → h 0 ≡ 0
meet-true n f g h m = literal-eq (h 0) 0 (omega (arith, (m.leaders 0).low)) (even (h 0) (m.leaders 0).low (m.leaders 0).first)
  where
    even : (r : ℕ) → r / 2 ≤ 0 → lead f r ≡ f 0 → r % 2 ≡ 0
    even r i p =
        let at : lead f r ≡ signed (f 0) r = lead-at f r 0 (omega arith) in
        omega (arith, at, p, m.true-first, signed-sign (f 0) r)

meet-canonical : (n : ℕ) (f g h : ℕ → ℕ) → Meet n f g h → Canonical n h
meet-canonical n f g h m =
    record {
      lower = λ v. (m.leaders v).low;
      leader = λ v i. stands v;
      beyond = λ v i. past v i;
    }
  where
    past : (v : ℕ) → n ≤ v → h v ≡ 2 * v
    past v i = literal-eq (h v) (2 * v) half sign
      where
        own : f v ≡ 2 * v
        own = m.first.beyond v i

        half : h v / 2 ≡ 2 * v / 2
        half = omega (arith, own, (m.leaders v).low, (m.leaders v).first, lead-half f (h v), m.first.lower (h v / 2))

        at : lead f (h v) ≡ signed (f v) (h v)
        at = lead-at f (h v) v (omega (arith, half))

        sign : h v % 2 ≡ 2 * v % 2
        sign = omega (arith, own, at, (m.leaders v).first, signed-sign (f v) (h v))

    stands : (v : ℕ) → h (h v / 2) ≡ 2 * (h v / 2)
    stands v = omega (arith, again, lead-half h (h v), lead-sign h (h v))
      where
        again : lead h (h v) ≡ h v
        again =
            ap (lead h) (sym (lead-variable h v))
            ∙ meet-joins n f g h m (lead h (2 * v)) (2 * v) (meet-leads n f g h m (2 * v)).0 (meet-leads n f g h m (2 * v)).1
            ∙ lead-variable h v

pub common-true : (R S : Rel) (l m : ℕ) → R l m ≡ true → S l m ≡ true → common R S l m ≡ true
unfolding common
common-true R S l m p q = rw p q

pub common-both : (R S : Rel) (l m : ℕ) → common R S l m ≡ true → (R l m ≡ true) × (S l m ≡ true)
unfolding common
common-both R S l m e =
    ⊎_elim
    (λ (p : R l m ≡ true). (p, rw p at e))
    (λ (p : R l m ≡ false). absurd (never false (rw p at e) refl))
    (either (R l m))

-- the relation of h is what those of f and g share
pub meeting : (n : ℕ) (f g h : ℕ → ℕ) → Meet n f g h → Canonical n h × ((l m : ℕ) → relation h l m ≡ common (relation f) (relation g) l m)
meeting n f g h m = (meet-canonical n f g h m, λ l j. bool_eq (relation h l j) (common (relation f) (relation g) l j) (there l j) (back l j))
  where
    c : contradictory h ≡ false
    c = contradictory-at h (meet-true n f g h m)

    there : (l j : ℕ) → relation h l j ≡ true → common (relation f) (relation g) l j ≡ true
    there l j e =
        common-true (relation f) (relation g) l j
        (leads-same f l j (sym (meet-leads n f g h m l).0 ∙ ap (lead f) (same-leads h c l j e) ∙ (meet-leads n f g h m j).0))
        (leads-same g l j (sym (meet-leads n f g h m l).1 ∙ ap (lead g) (same-leads h c l j e) ∙ (meet-leads n f g h m j).1))

    back : (l j : ℕ) → common (relation f) (relation g) l j ≡ true → relation h l j ≡ true
    back l j e =
        let both : (relation f l j ≡ true) × (relation g l j ≡ true) = common-both (relation f) (relation g) l j e in
        leads-same h l j
        (meet-joins n f g h m l j
        (same-leads f (contradictory-at f m.true-first) l j both.0)
        (same-leads g (contradictory-at g m.true-second) l j both.1))

-- what is common to a contradictory relation and another is the other
pub common-first : (R S : Rel) → ((l m : ℕ) → S l m ≡ true) → (l m : ℕ) → R l m ≡ common R S l m
common-first R S all l m =
    bool_eq (R l m) (common R S l m) (λ p. common-true R S l m p (all l m)) (λ p. (common-both R S l m p).0)

pub common-second : (R S : Rel) → ((l m : ℕ) → R l m ≡ true) → (l m : ℕ) → S l m ≡ common R S l m
common-second R S all l m =
    bool_eq (S l m) (common R S l m) (λ p. common-true R S l m (all l m) p) (λ p. (common-both R S l m p).1)

-- while some variables have their shared leader and the others are the old ones, none leads upwards
pub still-lower : (n : ℕ) (xs zs ys : List ℕ) (v : ℕ) → Classes n xs → length zs ≡ variable_ceiling
    → ((u : ℕ) → u < v → entry zs u ≡ entry xs u) → ((u : ℕ) → v ≤ u → SharedLeader (entry xs) (entry ys) u (entry zs u)) → Lower zs
still-lower n xs zs ys v k long old new =
    record {
      long = long;
      lower = λ u.
          ⊎_elim
          (λ (p : u < v). rw (old u p) (k.canonical.lower u))
          (λ (p : v ≤ u). (new u p).low)
          (lt-or-ge u v);
    }

-- when each variable has its shared leader, the array keeps what the two share
pub shared-done : (n : ℕ) (xs ys zs : List ℕ) → Classes n xs → Classes n ys → entry xs 0 ≡ 0 → entry ys 0 ≡ 0 → length zs
    ≡ variable_ceiling → ((v : ℕ) → SharedLeader (entry xs) (entry ys) v (entry zs v)) → Shared n xs ys zs
shared-done n xs ys zs k k' a b long all =
    record { classes = record { long = long; fits = k.fits; canonical = met.0 }; both = met.1 }
  where
    met : Canonical n (entry zs) × ((l m : ℕ) → relation (entry zs) l m ≡ common (relation (entry xs)) (relation (entry ys)) l m)
    met =
        meeting n (entry xs) (entry ys) (entry zs)
        (record { first = k.canonical; second = k'.canonical; true-first = a; true-second = b; leaders = all })

-- by another name of the number of variables
pub shared-at : {n m : ℕ} {xs ys zs : List ℕ} → n ≡ m → Shared n xs ys zs → Shared m xs ys zs
shared-at {n} {m} {xs} {ys} {zs} e = subst (λ (i : ℕ). Shared i xs ys zs) e
