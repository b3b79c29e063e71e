-- What triplets compute is what their operands make of them, where the operands are known before them.
use Prim.Native.Nat.{ℕ, zero, suc, ◌+◌, ◌*◌, ◌-◌, ◌/◌, ◌≤◌, ◌<◌}
use mathlib.Core.Path.{◌≡◌, refl, sym, ap, ap₂, ◌∙◌, fun_ext}
use mathlib.Core.Bool.{Bool, true}
use mathlib.Core.List.{List}
use mathlib.Core.Logic.{◌⊎◌, inl, inr, ⊎_elim}
use native.Mathlib.Omega.{arith}
use native.Mathlib.Nat.{eq-or-lt_of_le, le_of_suc-le-suc}
use lib.ListN.{get_or}
use borrow.Author.Tests.{eq-eqb, ne_eqb}
use Rattle.notation.specs.Ceilings.{flag_ceiling}
use Rattle.notation.specs.Triplets.{triplet_variable}
use Rattle.notation.specs.clauses.Shape.{Names, Shape, kind_at, y_at, z_at}
use Rattle.ground.specs.Bits.{bit}
use Rattle.truth.specs.Connectives.{gate}
use Rattle.truth.specs.clauses.Computed.{literal_value, computed, Valued}
use Rattle.truth.proofs.Literals.{literal-agrees}

module _ (n s : ℕ) (xs : List ℕ) where
  -- a variable that is no triplet keeps its value
  pub flag-kept : (c v : ℕ) → v ≤ flag_ceiling → computed n s xs c v ≡ computed n s xs 0 v
  unfolding computed
  flag-kept zero v h = refl
  flag-kept (suc c) v h = rw (ne_eqb v (triplet_variable (suc c)) (λ e. omega arith)) (flag-kept c v h)

  -- a triplet keeps the value that it was given
  pub triplet-kept : (d j v : ℕ) → v ≤ triplet_variable j → computed n s xs (j + d) v ≡ computed n s xs j v
  unfolding computed
  triplet-kept zero j v h = let e : j + 0 ≡ j = omega arith in rw e
  triplet-kept (suc d) j v h =
      let e : j + suc d ≡ suc (j + d) = omega arith in
      rw (e, ne_eqb v (triplet_variable (suc (j + d))) (λ p. omega arith)) (triplet-kept d j v h)

  pub true-at-start : computed n s xs 0 0 ≡ true
  unfolding computed
  true-at-start = refl

  pub flag-at-start : (i : ℕ) → 0 < i → computed n s xs 0 i ≡ bit s (n - i)
  unfolding computed
  flag-at-start i h = rw (ne_eqb i 0 (λ e. omega arith))

  pub triplet-made : (j : ℕ) → computed n s xs (suc j) (triplet_variable (suc j)) ≡ gate (kind_at xs j) (literal_value (computed n s xs j) (y_at xs j))
      (literal_value (computed n s xs j) (z_at xs j))
  unfolding computed
  triplet-made j = rw (eq-eqb (triplet_variable (suc j)) (triplet_variable (suc j)) refl)

  module _ (small : n ≤ flag_ceiling) where
    -- what is named before triplet j keeps its value
    pub named-kept : (c j l : ℕ) → j ≤ c → Names n j l → literal_value (computed n s xs c) l ≡ literal_value (computed n s xs j) l
    named-kept c j l h m =
        let e : c ≡ j + (c - j) = omega arith in
        rw e
        (literal-agrees (computed n s xs (j + (c - j))) (computed n s xs j) l
        (triplet-kept (c - j) j (l / 2) (⊎_elim (λ (p : l / 2 ≤ n). omega arith)
        (λ (p : (triplet_variable 0 < l / 2) × (l / 2 ≤ triplet_variable j)). omega arith) m)))

    triplet-holds : (c j : ℕ) → Shape n c xs → j < c
        → computed n s xs c (triplet_variable (suc j)) ≡ gate (kind_at xs j) (literal_value (computed n s xs c) (y_at xs j))
        (literal_value (computed n s xs c) (z_at xs j))
    triplet-holds c j shape h =
        let e : c ≡ suc j + (c - suc j) = omega arith in
        let made : computed n s xs c (triplet_variable (suc j)) ≡ computed n s xs (suc j) (triplet_variable (suc j)) = ap
        (λ k. computed n s xs k (triplet_variable (suc j))) e ∙ triplet-kept (c - suc j) (suc j) (triplet_variable (suc j)) (omega arith) in
        rw (made, triplet-made j, named-kept c j (y_at xs j) (omega arith) (shape.ys j h), named-kept c j (z_at xs j) (omega arith) (shape.zs j h))

    -- what is computed gives every variable its value
    pub valued : (c : ℕ) → Shape n c xs → Valued n s c xs (computed n s xs c)
    valued c shape = record {
      top = flag-kept c 0 (omega arith) ∙ true-at-start;
      flags = λ i p q. flag-kept c i (omega arith) ∙ flag-at-start i p;
      gates
          = λ j h. triplet-holds c j shape h;
    }

-- what is computed of c triplets goes by their numbers alone
pub computed_same : (n s c : ℕ) (xs ys : List ℕ) → ((k : ℕ) → k < 3 * c → get_or ys k 0 ≡ get_or xs k 0) → (v : ℕ) → computed n s ys c v
    ≡ computed n s xs c v
unfolding computed
computed_same n s zero xs ys h v = refl
computed_same n s (suc c) xs ys h v =
    let e : computed n s ys c ≡ computed n s xs c = fun_ext (computed_same n s c xs ys (λ k p. h k (omega arith))) in
    rw (e, h (3 * c) (omega arith), h (3 * c + 1) (omega arith), h (3 * c + 2) (omega arith))

-- what is named before triplet j lies below it
pub named-below : (n j l : ℕ) → n ≤ flag_ceiling → Names n j l → l / 2 < triplet_variable (suc j)
named-below n j l small m =
    ⊎_elim
    (λ (p : l / 2 ≤ n). omega arith)
    (λ (p : (triplet_variable 0 < l / 2) × (l / 2 ≤ triplet_variable j)). omega arith)
    m

-- what is named before triplet j + 1 was named before j, or is triplet j itself
pub named-cases : (n j l : ℕ) → n ≤ flag_ceiling → Names n (suc j) l → Names n j l ⊎ (l / 2 ≡ triplet_variable (suc j))
named-cases n j l small m =
    ⊎_elim
    (λ (p : l / 2 ≤ n). inl (inl p))
    (λ (p : (triplet_variable 0 < l / 2) × (l / 2 ≤ triplet_variable (suc j))).
    ⊎_elim
    (λ (e : l / 2 ≡ triplet_variable (suc j)). inr e)
    (λ (h : l / 2 < triplet_variable (suc j)). inl (inr (p.0, lower (l / 2) h)))
    (eq-or-lt_of_le p.1))
    m
  where
    lower : (k : ℕ) → k < triplet_variable (suc j) → k ≤ triplet_variable j
    lower k h = omega arith

module _ (n s c : ℕ) (xs : List ℕ) (small : n ≤ flag_ceiling) (shape : Shape n c xs) where
  -- one more triplet gets its value, and nothing below it changes
  pub valued-more : (j : ℕ) (v w : ℕ → Bool) → j < c → Valued n s j xs v
      → ((u : ℕ) → u < triplet_variable (suc j) → w u ≡ v u)
      → w (triplet_variable (suc j)) ≡ gate (kind_at xs j) (literal_value v (y_at xs j)) (literal_value v (z_at xs j))
      → Valued n s (suc j) xs w
  valued-more j v w h old kept made =
      record {
        top = kept 0 (omega arith) ∙ old.top;
        flags = λ i p q. kept i (omega arith) ∙ old.flags i p q;
        gates = λ k p. ⊎_elim (λ (e : k ≡ j). rw e (made ∙ both j h (omega arith)))
            (λ (l : k < j). kept (triplet_variable (suc k)) (omega arith) ∙ old.gates k l ∙ both k (omega arith) (omega arith))
            (eq-or-lt_of_le (le_of_suc-le-suc p));
      }
    where
      both : (k : ℕ) → k < c → k ≤ j
          → gate (kind_at xs k) (literal_value v (y_at xs k)) (literal_value v (z_at xs k)) ≡ gate (kind_at xs k) (literal_value w (y_at xs k))
          (literal_value w (z_at xs k))
      both k l b =
          ap₂ (gate (kind_at xs k))
          (literal-agrees v w (y_at xs k) (sym (kept (y_at xs k / 2) (omega (arith, named-below n k (y_at xs k) small (shape.ys k l))))))
          (literal-agrees v w (z_at xs k) (sym (kept (z_at xs k / 2) (omega (arith, named-below n k (z_at xs k) small (shape.zs k l))))))

-- two valuations of the same triplets in the same state agree on what is named
pub valued-unique : (n s c : ℕ) (xs : List ℕ) (v w : ℕ → Bool) → n ≤ flag_ceiling → Shape n c xs → Valued n s c xs v → Valued n s c xs w
    → (j : ℕ) → j ≤ c → (l : ℕ) → Names n j l → literal_value v l ≡ literal_value w l
valued-unique n s c xs v w small shape p q zero h l m =
    ⊎_elim
    (λ (b : l / 2 ≤ n). literal-agrees v w l (at (l / 2) b))
    (λ (b : (triplet_variable 0 < l / 2) × (l / 2 ≤ triplet_variable 0)). absurd (omega arith))
    m
  where
    at : (i : ℕ) → i ≤ n → v i ≡ w i
    at zero b = p.top ∙ sym q.top
    at (suc i) b = p.flags (suc i) (omega arith) b ∙ sym (q.flags (suc i) (omega arith) b)
valued-unique n s c xs v w small shape p q (suc j) h l m =
    ⊎_elim
    (λ (a : Names n j l). valued-unique n s c xs v w small shape p q j (omega arith) l a)
    (λ (e : l / 2 ≡ triplet_variable (suc j)).
    literal-agrees v w l
    (rw e
    (p.gates j h
    ∙ ap₂ (gate (kind_at xs j)) (valued-unique n s c xs v w small shape p q j (omega arith) (y_at xs j) (shape.ys j h))
    (valued-unique n s c xs v w small shape p q j (omega arith) (z_at xs j) (shape.zs j h))
    ∙ sym (q.gates j h))))
    (named-cases n j l small m)
