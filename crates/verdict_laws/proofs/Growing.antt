-- A least relation with a property exists wherever a relation without it lacks an equality that the property forces: joining
-- what is lacking, again and again, comes to an end.
use Prim.Native.Nat.{ℕ, zero, suc, ◌+◌, ◌*◌, ◌/◌, ◌≤◌, ◌<◌}
use mathlib.Core.Path.{◌≡◌, refl}
use mathlib.Core.Bool.{Bool, true, false, false≢true}
use mathlib.Core.Logic.{◌⊎◌, inl, inr, ⊎_elim}
use native.Mathlib.Omega.{arith}
use Rattle.ground.specs.Choice.{choose}
use Rattle.ground.proofs.Cases.{split-eq}
use Rattle.relation.specs.Relation.{Rel, IsRelation, Within}
use Rattle.relation.specs.Least.{Least, Holds}
use Rattle.relation.proofs.RelationLaws.{least-none, least-below, within-trans}
use Rattle.verdict_laws.proofs.Joins.{Small, join-exists}

-- ---- looking through the numbers below k
pub look : (P Q : ℕ → Type 0) (k : ℕ) → ((i : ℕ) → i < k → P i ⊎ Q i) → ((i : ℕ) × P i) ⊎ ((i : ℕ) → i < k → Q i)
look P Q zero each = inr (λ i h. absurd (omega arith))
look P Q (suc k) each =
    ⊎_elim
    (λ (p : P k). inl (k, p))
    (λ (q : Q k).
    ⊎_elim
    (λ (f : (i : ℕ) × P i). inl f)
    (λ (f : (i : ℕ) → i < k → Q i).
    inr (λ i h. ⊎_elim (λ (e : i ≡ k). rw e q) (λ (e : i ≡ k → ⊥). f i (omega arith)) (split-eq i k)))
    (look P Q k (λ i h. each i (omega arith))))
    (each k (omega arith))

-- ---- how many equalities of the variables below M are lacking
sum : (ℕ → ℕ) → ℕ → ℕ
sum h zero = 0
sum h (suc k) = sum h k + h k

sum_less : (h g : ℕ → ℕ) → ((i : ℕ) → h i ≤ g i) → (k : ℕ) → sum h k ≤ sum g k
unfolding sum
sum_less h g l zero = omega arith
sum_less h g l (suc k) = omega (arith, l k, sum_less h g l k)

sum_below : (h g : ℕ → ℕ) → ((i : ℕ) → h i ≤ g i) → (k i : ℕ) → i < k → h i < g i → sum h k < sum g k
unfolding sum
sum_below h g l zero i a b = absurd (omega arith)
sum_below h g l (suc k) i a b =
    ⊎_elim
    (λ (e : i ≡ k). let c : h k < g k = rw e at b in omega (arith, sum_less h g l k))
    (λ (e : i ≡ k → ⊥). omega (arith, l k, sum_below h g l k i (omega arith) b))
    (split-eq i k)

one : Bool → ℕ
one b = choose b 0 1

one_less : (a b : Bool) → (b ≡ true → a ≡ true) → one a ≤ one b
unfolding one
one_less true b h = omega arith
one_less false true h = absurd (false≢true (h refl))
one_less false false h = omega arith

one_below : (a b : Bool) → a ≡ true → b ≡ false → one a < one b
unfolding one
one_below a b e f = rw (e, f) (omega arith)

lacking : ℕ → Rel → ℕ
lacking M S = sum (λ l. sum (λ m. one (S l m)) (2 * M)) (2 * M)

lacks_less : (M : ℕ) (S T : Rel) (l m : ℕ) → Within S T → l / 2 < M → m / 2 < M → S l m ≡ false → T l m ≡ true → lacking M T < lacking M S
unfolding lacking
lacks_less M S T l m w a b e f =
    sum_below (λ i. sum (λ j. one (T i j)) (2 * M)) (λ i. sum (λ j. one (S i j)) (2 * M))
    (λ i. sum_less (λ j. one (T i j)) (λ j. one (S i j)) (λ j. one_less (T i j) (S i j) (w i j)) (2 * M)) (2 * M) l (omega arith)
    (sum_below (λ j. one (T l j)) (λ j. one (S l j)) (λ j. one_less (T l j) (S l j) (w l j)) (2 * M) m (omega arith)
    (one_below (T l m) (S l m) f e))

module _ (M : ℕ) (P : Rel → Type 0) where
  -- S lacks an equality of two variables below M that every relation above it with P holds
  pub record Lacks (S : Rel) : Type 0 where
    pub l : ℕ
    pub m : ℕ
    pub low-l : l / 2 < M
    pub low-m : m / 2 < M
    pub lacked : S l m ≡ false
    pub forced : (A : Rel) → IsRelation A → Within S A → P A → A l m ≡ true

  -- a relation that is small, and the least above S with P
  abbrev pub Exists : Rel → Type 0
  Exists S = (T : Rel) × Least P S T × Small M T

  joined-more : (S J T : Rel) (k : Lacks S) → Least (Holds k.l k.m) S J → Least P J T → Least P S T
  joined-more S J T k j t =
      record {
        relation = t.relation;
        above = within-trans S J T j.above t.above;
        has = t.has;
        forced = λ a b e A c w p. t.forced a b e A c (least-below (Holds k.l k.m) S J A j c w (k.forced A c w p)) p;
      }

  module _ (either_way : (S : Rel) → IsRelation S → Small M S → P S ⊎ Lacks S) where
    grown : (fuel : ℕ) (S : Rel) → IsRelation S → Small M S → lacking M S < fuel → Exists S
    grown zero S r s h = absurd (omega arith)
    grown (suc fuel) S r s h =
        ⊎_elim (λ (p : P S). (S, least-none P S r p, s))
        (λ (k : Lacks S).
        let j = join-exists M S r s k.l k.m k.low-l k.low-m in
        let less : lacking M j.0 < lacking M S = lacks_less M S j.0 k.l k.m j.1.above k.low-l k.low-m k.lacked j.1.has in
        let t : Exists j.0 = grown fuel j.0 j.1.relation j.2 (omega arith) in
        (t.0, joined-more S j.0 t.0 k j.1 t.1, t.2))
        (either_way S r s)

    pub least-exists : (S : Rel) → IsRelation S → Small M S → Exists S
    least-exists S r s = grown (suc (lacking M S)) S r s (omega arith)
