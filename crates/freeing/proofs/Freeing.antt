-- Fixing some flags: the table at the start, flag by flag, and what it reads.
use Prim.Native.Nat.{ℕ, zero, suc, ◌+◌, ◌*◌, ◌-◌, ◌/◌, ◌≤◌, ◌<◌}
use mathlib.Core.Path.{◌≡◌, refl, sym, ap, ◌∙◌}
use mathlib.Core.Bool.{Bool, true, false}
use mathlib.Core.List.{List, []}
use mathlib.Core.Logic.{⊎_elim}
use native.Mathlib.Omega.{arith}
use native.Mathlib.Nat.{eq-or-lt_of_le, le_of_suc-le-suc}
use lib.ListN.{get_or}
use Rattle.ground.specs.Choice.{choose}
use Rattle.notation.specs.Triplets.{negation}
use Rattle.ground.specs.Bits.{bit}
use Rattle.truth.specs.clauses.Computed.{literal_value, computed}
use Rattle.truth.proofs.Literals.{literal-even}
use Rattle.truth.proofs.Computing.{true-at-start, flag-at-start}
use Rattle.fixing.specs.clauses.Fixing.{PutAt}
use Rattle.fixing.specs.clauses.Folding.{Table, Reads, Folded, reading}
use Rattle.fixing.proofs.Standing.{constant-value, constant_of}
use Rattle.freeing.specs.clauses.Some.{keeps, free_of, flag_literal, StandsFor, Begun, FixedSome}

-- how many are free
one_at_most : (b : Bool) → choose b 0 1 ≤ 1
one_at_most true = omega arith
one_at_most false = omega arith

pub free-below : (k : ℕ → Bool) (i : ℕ) → free_of k i ≤ i
unfolding free_of
free-below k zero = omega arith
free-below k (suc i) = omega (arith, free-below k i, one_at_most (k (suc i)))

free_more : (k : ℕ → Bool) (i d : ℕ) → free_of k i ≤ free_of k (i + d)
unfolding free_of
free_more k i zero = let e : i + 0 ≡ i = omega arith in rw e (omega arith)
free_more k i (suc d) = let e : i + suc d ≡ suc (i + d) = omega arith in rw e (omega (arith, free_more k i d))

pub free-within : (k : ℕ → Bool) (i n : ℕ) → i ≤ n → free_of k i ≤ free_of k n
free-within k i n h = let e : i + (n - i) ≡ n = omega (arith, h) in rw e at (free_more k i (n - i))

pub free-next : (k : ℕ → Bool) (i : ℕ) → free_of k (suc i) ≡ free_of k i + choose (k (suc i)) 0 1
unfolding free_of
free-next k i = refl

-- a free flag has a number
pub free-some : (k : ℕ → Bool) (i : ℕ) → 0 < i → k i ≡ false → 0 < free_of k i
free-some k zero p h = absurd (omega (arith, p))
free-some k (suc i) p h = rw (free-next k i, h) (omega arith)

-- the number of a kept flag does not matter
kept-number : (k : Bool) (v : Bool) (a : ℕ) → flag_literal k v (suc a) ≡ flag_literal k v (a + choose k 0 1)
kept-number true v a = refl
kept-number false v a = let e : suc a ≡ a + 1 = omega arith in ap (λ (x : ℕ). 2 * x) e

pub begun-none : (n keep state : ℕ) (to : List ℕ) → get_or to 0 0 ≡ 0 → get_or to 1 0 ≡ 1 → Begun n keep state 0 to to 0
unfolding free_of
begun-none n keep state to a b =
    record {
      long = refl;
      free = refl;
      top = a;
      bottom = b;
      even = λ k p q. absurd (omega (arith, p, q));
      odd = λ k p q. absurd (omega (arith, p, q));
    }

pub begun_more : (n keep state i : ℕ) (to₀ to to' : List ℕ) (free free' : ℕ) (kept value : Bool) → Begun n keep state i to₀ to free
    → kept ≡ keeps n keep (suc i) → value ≡ bit state (n - suc i)
    → PutAt to (suc i) (flag_literal kept value (suc free)) to' → free' ≡ free + choose kept 0 1
    → Begun n keep state (suc i) to₀ to' free'
begun_more n keep state i to₀ to to' free free' kept value b ek ev p e =
    let next : free' ≡ free_of (keeps n keep) (suc i) = rw (free-next (keeps n keep) i, ← b.free, ← ek) e in
    record {
      long = p.long ∙ b.long;
      free = next;
      top = p.others 0 (λ (z : 0 / 2 ≡ suc i). omega (arith, z)) ∙ b.top;
      bottom = p.others 1 (λ (z : 1 / 2 ≡ suc i). omega (arith, z)) ∙ b.bottom;
      even = λ k x y. ⊎_elim
          (λ (z : k ≡ suc i). rw (z, ← next, ← ek, ← ev) (p.even ∙ kept-number kept value free
          ∙ ap (λ (u : ℕ). flag_literal kept value u) (sym e)))
          (λ (z : k < suc i). p.others (2 * k) (λ (q : 2 * k / 2 ≡ suc i). omega (arith, q, z)) ∙ b.even k x (le_of_suc-le-suc z))
          (eq-or-lt_of_le y);
      odd = λ k x y. ⊎_elim
          (λ (z : k ≡ suc i). rw z (p.odd ∙ ap negation (sym p.even)))
          (λ (z : k < suc i). p.others (2 * k + 1) (λ (q : (2 * k + 1) / 2 ≡ suc i). omega (arith, q, z)) ∙ b.odd k x (le_of_suc-le-suc z)
          ∙ ap negation (sym (p.others (2 * k) (λ (q : 2 * k / 2 ≡ suc i). omega (arith, q, z)))))
          (eq-or-lt_of_le y);
    }

-- what a flag became names true or a free flag
literal-within : (k v : Bool) (a m : ℕ) → a ≤ m → flag_literal k v a / 2 ≤ m
literal-within true v a m h = rw (constant_of v).0 (omega arith)
literal-within false v a m h = omega (arith, h)

-- and has its value
literal-reads : (m s : ℕ) (k v : Bool) (a : ℕ) → (k ≡ false → 0 < a)
    → literal_value (computed m s [] 0) (flag_literal k v a) ≡ choose k v (bit s (m - a))
literal-reads m s true v a h = constant-value (computed m s [] 0) (true-at-start m s []) v
literal-reads m s false v a h = literal-even (computed m s [] 0) (2 * a) a refl ∙ flag-at-start m s [] a (h refl)

module _ (n keep state : ℕ) (to after : List ℕ) (m : ℕ) (b : Begun n keep state n to after m) where
  pub table-some : Table m n (reading after)
  table-some =
      record {
        top = b.top;
        bottom = b.bottom;
        within = λ i p q. rw (b.even i p q) (literal-within (keeps n keep i) (bit state (n - i)) (free_of (keeps n keep) i) m
            (rw b.free (free-within (keeps n keep) i n q)));
        odd = λ i p q. b.odd i p q;
      }

  pub reads-some : (s t : ℕ) → StandsFor n (keeps n keep) state s t → Reads m n (reading after) s t
  reads-some s t h i p q =
      rw (b.even i p q)
      (literal-reads m s (keeps n keep i) (bit state (n - i)) (free_of (keeps n keep) i) (free-some (keeps n keep) i p)
      ∙ ap (λ (x : ℕ). choose (keeps n keep i) (bit state (n - i)) (bit s (x - free_of (keeps n keep) i))) b.free
      ∙ sym (h i p q))

  pub fixed-some : (xs : List ℕ) (count root : ℕ) (ys : List ℕ) (c r : ℕ) → Folded m n (reading after) xs count root ys c r
      → FixedSome n keep state xs count root ys m c r
  fixed-some xs count root ys c r w =
      record { flags = b.free; few = w.few; shape = w.shape; named = w.named; valued = λ s t h. w.valued s t (reads-some s t h) }

  pub free-few : m ≤ n
  free-few = rw b.free (free-below (keeps n keep) n)
