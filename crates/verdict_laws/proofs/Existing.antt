-- Saturations exist at every depth: what a relation that is not stable lacks can be found, and joined.
use Prim.Native.Nat.{ℕ, zero, suc, ◌+◌, ◌*◌, ◌/◌, ◌≤◌, ◌<◌}
use mathlib.Core.Path.{◌≡◌}
use mathlib.Core.Bool.{true, false}
use mathlib.Core.List.{List, [], ◌∷◌}
use mathlib.Core.Logic.{◌⊎◌, inl, inr, ⊎_elim}
use native.Mathlib.Omega.{arith}
use Rattle.notation.specs.Triplets.{Triplet, triplet_variable, Each}
use Rattle.ground.proofs.Cases.{split-eq, lt-or-ge, either, never}
use Rattle.notation.proofs.Shaped.{negation-half}
use Rattle.relation.specs.Relation.{Rel, IsRelation, Within}
use Rattle.relation.proofs.RelationLaws.{within-refl}
use Rattle.steps.specs.Step.{Side, never as no-side, always, own_x, not-x, own-y, not-y, own-z, not-z, literal_at, HoldsStep}
use Rattle.steps.specs.Table.{x_named, y_named, z_named, pattern_of, contradictory, entry, NamesHold}
use Rattle.steps.specs.Rest.{HoldsStepOn}
use Rattle.steps.proofs.Sides.{Closed, held, held-closed}
use Rattle.steps.proofs.Strongest.{x-holds, y-holds, z-holds}
use Rattle.steps.proofs.StepLaws.{all-equal, contradicts-step, names-step, entry-contradicted, entry-held}
use Rattle.saturation.specs.Saturation.{taking, Stable, SaturationOf, Flags}
use Rattle.saturation.specs.clauses.Saturating.{HoldsSplit}
use Rattle.saturation.proofs.Splits.{split_below, split-held}
use Rattle.saturation.proofs.Saturating.{saturated-joined}
use Rattle.verdict_laws.proofs.Joins.{Small, join-exists}
use Rattle.verdict_laws.proofs.Growing.{look, Lacks, Exists, least-exists}

-- the variables of a triplet with the literal x are below M
abbrev pub Low : ℕ → Triplet → ℕ → Type 0
Low M t x = (x / 2 < M) × (t.y / 2 < M) × (t.z / 2 < M)

side-low : (M x y z : ℕ) → 0 < M → x / 2 < M → y / 2 < M → z / 2 < M → (s : Side) → literal_at x y z s / 2 < M
side-low M x y z o a b c no-side = omega arith
side-low M x y z o a b c always = omega arith
side-low M x y z o a b c own_x = a
side-low M x y z o a b c not-x = rw (negation-half x) a
side-low M x y z o a b c own-y = b
side-low M x y z o a b c not-y = rw (negation-half y) b
side-low M x y z o a b c own-z = c
side-low M x y z o a b c not-z = rw (negation-half z) c

-- ---- a step adds nothing, or what it adds is lacking
module _ (M : ℕ) (some : 0 < M) (P : Rel → Type 0) (S : Rel) (r : IsRelation S) where
  module _ (kind x y z : ℕ) (a : x / 2 < M) (b : y / 2 < M) (c : z / 2 < M) (rests : (A : Rel) → P A → HoldsStep kind x y z A A) where
    abbrev after : ℕ
    after = entry kind (pattern_of S x y z)

    named : (A : Rel) → Within S A → NamesHold (pattern_of S x y z) x y z A
    named A w =
        let closed : Closed (held S x y z) = held-closed S x y z r in
        record {
          of-x = w x _ (x-holds (held S x y z) closed);
          of-y = w y _ (y-holds (held S x y z) closed);
          of-z = w z _ (z-holds (held S x y z) closed);
        }

    lacks-names : (l : ℕ) (s : Side) → l / 2 < M → S l (literal_at x y z s) ≡ false
        → ((A : Rel) → NamesHold after x y z A → A l (literal_at x y z s) ≡ true) → (after ≡ contradictory → ⊥) → Lacks M P S
    lacks-names l s low off at_Names n =
        record {
          l = l;
          m = literal_at x y z s;
          low-l = low;
          low-m = side-low M x y z some a b c s;
          lacked = off;
          forced = λ A q w p. at_Names A (entry-held kind x y z (pattern_of S x y z) A q (named A w) (rests A p) n);
        }

    step-contradicts : after ≡ contradictory → HoldsStep kind x y z S S ⊎ Lacks M P S
    step-contradicts e =
        ⊎_elim
        (λ (on : S 0 1 ≡ true). inl (contradicts-step kind x y z S r S r on))
        (λ (off : S 0 1 ≡ false).
        inr (record {
          l = 0;
          m = 1;
          low-l = some;
          low-m = some;
          lacked = off;
          forced = λ A q w p. entry-contradicted kind x y z (pattern_of S x y z) A q (named A w) (rests A p) e;
        }))
        (either (S 0 1))

    step-names : (after ≡ contradictory → ⊥) → HoldsStep kind x y z S S ⊎ Lacks M P S
    step-names n =
        ⊎_elim
        (λ (p : S x (literal_at x y z (x_named after)) ≡ true).
        ⊎_elim
        (λ (q : S y (literal_at x y z (y_named after)) ≡ true).
        ⊎_elim
        (λ (o : S z (literal_at x y z (z_named after)) ≡ true).
        inl (names-step kind x y z S r S r (within-refl S) n (record { of-x = p; of-y = q; of-z = o })))
        (λ (o : S z (literal_at x y z (z_named after)) ≡ false). inr (lacks-names z (z_named after) c o (λ A h. h.of-z) n))
        (either (S z (literal_at x y z (z_named after)))))
        (λ (q : S y (literal_at x y z (y_named after)) ≡ false). inr (lacks-names y (y_named after) b q (λ A h. h.of-y) n))
        (either (S y (literal_at x y z (y_named after)))))
        (λ (p : S x (literal_at x y z (x_named after)) ≡ false). inr (lacks-names x (x_named after) a p (λ A h. h.of-x) n))
        (either (S x (literal_at x y z (x_named after))))

    step-either : HoldsStep kind x y z S S ⊎ Lacks M P S
    step-either =
        ⊎_elim (λ (e : after ≡ contradictory). step-contradicts e) (λ (n : after ≡ contradictory → ⊥). step-names n)
        (split-eq after contradictory)

  steps-either : (c : ℕ) (ts : List Triplet) → Each (Low M) c ts → ((A : Rel) → P A → Each (HoldsStepOn A A) c ts)
      → Each (HoldsStepOn S S) c ts ⊎ Lacks M P S
  steps-either c [] low rests = inl tt
  steps-either c (t ∷ ts) low rests =
      let x : ℕ = 2 * triplet_variable (c + 1) in
      ⊎_elim
      (λ (here : HoldsStepOn S S t x).
      ⊎_elim
      (λ (more : Each (HoldsStepOn S S) (c + 1) ts). inl (here, more))
      (λ (k : Lacks M P S). inr k)
      (steps-either (c + 1) ts low.1 (λ A p. (rests A p).1)))
      (λ (k : Lacks M P S). inr k)
      (step-either t.kind x t.y t.z low.0.0 low.0.1 low.0.2 (λ A p. (rests A p).0))

-- ---- saturation at each depth
module _ (M n : ℕ) (ts : List Triplet) (low : Each (Low M) 0 ts) (flags : n < M) where
  -- every small relation has a small saturation at depth k
  abbrev pub Saturates : ℕ → Type 0
  Saturates k = (S : Rel) → IsRelation S → Small M S → Exists M (Stable (Flags n) ts k) S

  -- so has one with a literal taken as true
  pub taking-exists : (k : ℕ) → Saturates k → (S : Rel) → IsRelation S → Small M S → (l : ℕ) → l / 2 < M
      → (T : Rel) × SaturationOf (Flags n) ts k (taking S l) T × Small M T
  taking-exists k saturates S r s l h =
      let j = join-exists M S r s l 0 h (omega arith) in
      let t : Exists M (Stable (Flags n) ts k) j.0 = saturates j.0 j.1.relation j.2 in
      (t.0, saturated-joined (Flags n) ts k l S j.0 t.0 j.1 t.1, t.2)

  -- ---- a split adds nothing, or what it adds is lacking
  module _ (k f : ℕ) (flag : Flags n f) (S T F : Rel) (r : IsRelation S) (small-T : Small M T) (small-F : Small M F)
      (on : SaturationOf (Flags n) ts k (taking S (2 * f)) T) (off : SaturationOf (Flags n) ts k (taking S (2 * f + 1)) F) where
    abbrev Shared : ℕ → ℕ → Type 0
    Shared l m = T l m ≡ true → F l m ≡ true → S l m ≡ true

    pair : (l m : ℕ) → l / 2 < M → m / 2 < M → Lacks M (Stable (Flags n) ts (suc k)) S ⊎ Shared l m
    pair l m a b =
        ⊎_elim
        (λ (e : S l m ≡ true). inr (λ t o. e))
        (λ (e : S l m ≡ false).
        ⊎_elim
        (λ (t : T l m ≡ true).
        ⊎_elim
        (λ (o : F l m ≡ true).
        inl (record {
          l = l;
          m = m;
          low-l = a;
          low-m = b;
          lacked = e;
          forced = λ A q w h. split_below (Flags n) ts k f S T F on off flag A q w h l m t o;
        }))
        (λ (o : F l m ≡ false). inr (λ t o'. absurd (never (F l m) o' o)))
        (either (F l m)))
        (λ (t : T l m ≡ false). inr (λ t' o. absurd (never (T l m) t' t)))
        (either (T l m)))
        (either (S l m))

    row : (l : ℕ) → l / 2 < M → Lacks M (Stable (Flags n) ts (suc k)) S ⊎ ((m : ℕ) → m < 2 * M → Shared l m)
    row l a =
        ⊎_elim
        (λ (p : (m : ℕ) × Lacks M (Stable (Flags n) ts (suc k)) S). inl p.1)
        (λ (q : (m : ℕ) → m < 2 * M → Shared l m). inr q)
        (look (λ m. Lacks M (Stable (Flags n) ts (suc k)) S) (λ m. Shared l m) (2 * M) (λ m b. pair l m a (omega arith)))

    -- what is shared below M is all that is shared
    all-shared : ((l : ℕ) → l < 2 * M → (m : ℕ) → m < 2 * M → Shared l m) → (l m : ℕ) → Shared l m
    all-shared h l m t o =
        ⊎_elim
        (λ (a : l / 2 < M).
        ⊎_elim (λ (b : m / 2 < M). h l (omega arith) m (omega arith) t o)
        (λ (b : M ≤ m / 2). r.symmetric m l (far m l b (on.relation.symmetric l m t) (off.relation.symmetric l m o)))
        (lt-or-ge (m / 2) M))
        (λ (a : M ≤ l / 2). far l m a t o)
        (lt-or-ge (l / 2) M)
      where
        far : (c d : ℕ) → M ≤ c / 2 → T c d ≡ true → F c d ≡ true → S c d ≡ true
        far c d a p q =
            ⊎_elim
            (λ (e : c ≡ d). rw e (r.reflexive d))
            (λ (e : c ≡ d → ⊥). all-equal S r (h 0 (omega arith) 1 (omega arith) (small-T c d a e p) (small-F c d a e q)) c d)
            (split-eq c d)

    split-either : HoldsSplit (Flags n) ts k f S ⊎ Lacks M (Stable (Flags n) ts (suc k)) S
    split-either =
        ⊎_elim
        (λ (p : (l : ℕ) × Lacks M (Stable (Flags n) ts (suc k)) S). inr p.1)
        (λ (q : (l : ℕ) → l < 2 * M → (m : ℕ) → m < 2 * M → Shared l m). inl (split-held (Flags n) ts k f S T F on off (all-shared q)))
        (look (λ l. Lacks M (Stable (Flags n) ts (suc k)) S) (λ l. (m : ℕ) → m < 2 * M → Shared l m) (2 * M) (λ l a. row l (omega arith)))

  flag-either : (k : ℕ) → Saturates k → (S : Rel) → IsRelation S → Small M S → (f : ℕ) → Flags n f
      → Lacks M (Stable (Flags n) ts (suc k)) S ⊎ HoldsSplit (Flags n) ts k f S
  flag-either k saturates S r s f flag =
      let on = taking-exists k saturates S r s (2 * f) (omega (arith, flag.1)) in
      let off = taking-exists k saturates S r s (2 * f + 1) (omega (arith, flag.1)) in
      ⊎_elim
      (λ (h : HoldsSplit (Flags n) ts k f S). inr h)
      (λ (h : Lacks M (Stable (Flags n) ts (suc k)) S). inl h)
      (split-either k f flag S on.0 off.0 r on.2 off.2 on.1 off.1)

  -- one deeper: no step enlarges S and each split is held, or something is lacking
  deeper-either : (k : ℕ) → Saturates k → (S : Rel) → IsRelation S → Small M S → Stable (Flags n) ts (suc k) S ⊎ Lacks M
      (Stable (Flags n) ts (suc k)) S
  deeper-either k saturates S r s =
      ⊎_elim
      (λ (rests : Each (HoldsStepOn S S) 0 ts).
      ⊎_elim
      (λ (p : (i : ℕ) × Lacks M (Stable (Flags n) ts (suc k)) S). inr p.1)
      (λ (q : (i : ℕ) → i < n → HoldsSplit (Flags n) ts k (suc i) S). inl (rests, λ f l m d. at_flag q f d l m))
      (look (λ i. Lacks M (Stable (Flags n) ts (suc k)) S) (λ i. HoldsSplit (Flags n) ts k (suc i) S) n
      (λ i h. flag-either k saturates S r s (suc i) (omega arith, h))))
      (λ (h : Lacks M (Stable (Flags n) ts (suc k)) S). inr h)
      (steps-either M (omega arith) (Stable (Flags n) ts (suc k)) S r 0 ts low (λ A h. h.0))
    where
      at_flag : ((i : ℕ) → i < n → HoldsSplit (Flags n) ts k (suc i) S) → (f : ℕ) → Flags n f → HoldsSplit (Flags n) ts k f S
      at_flag q zero d = absurd (omega (arith, d.0))
      at_flag q (suc i) d = q i d.1

  -- every small relation has a saturation at every depth
  pub saturation-exists : (k : ℕ) → Saturates k
  saturation-exists zero S r s =
      least-exists M (Stable (Flags n) ts 0) (λ A a b. steps-either M (omega arith) (Stable (Flags n) ts 0) A a 0 ts low (λ B h. h)) S r s
  saturation-exists (suc k) S r s =
      least-exists M (Stable (Flags n) ts (suc k)) (λ A a b. deeper-either k (λ B c d. saturation-exists k B c d) A a b) S r s
