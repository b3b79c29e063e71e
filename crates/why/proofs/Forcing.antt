-- Whether the kept flags force a gap is whether the triplets with these flags fixed are false in every state of the free flags.
use Prim.Native.Nat.{ℕ, zero, suc, ◌+◌, ◌*◌, ◌-◌, ◌/◌, ◌^◌, ◌≤◌, ◌<◌}
use native.Mathlib.Omega.{arith}
use native.Mathlib.Nat.{pow-suc}
use mathlib.Core.Path.{◌≡◌, refl, sym, ap, ◌∙◌}
use mathlib.Core.Bool.{Bool, true, false, not}
use mathlib.Core.List.{List, [], ◌∷◌}
use mathlib.Core.Logic.{◌⊎◌, ⊎_elim}
use lib.ListN.{length}
use lib.Dec.{leb}
use borrow.Author.Tests.{leb-true, leb-false}
use Rattle.ground.specs.Choice.{choose}
use Rattle.notation.specs.Triplets.{negation}
use Rattle.ground.proofs.Cases.{split-eq, either}
use Rattle.ground.specs.Bits.{bit}
use Rattle.truth.specs.clauses.Computed.{computed, root_value}
use Rattle.truth.proofs.Literals.{literal-negation}
use Rattle.rows.proofs.Bits.{bit-halved}
use Rattle.gaps.specs.Gaps.{false_from}
use Rattle.gaps.specs.Writing.{found}
use Rattle.gaps.proofs.Ascending.{false-not, false-one, false-none}
use Rattle.freeing.specs.clauses.Some.{keeps, free_of, FixedSome}
use Rattle.freeing.proofs.Freeing.{free-next, free-within}
use Rattle.why.specs.Numbered.{state_with}
use Rattle.why.specs.Kept.{Forces}
use Rattle.why.specs.clauses.Keeping.{none_found, Decides, free_state}
use Rattle.why.proofs.Stating.{last_bit, bit-of, state-below, state-bit}

module _ (k b : ℕ → Bool) where
  state-kept : (i : ℕ) → k (suc i) ≡ true → free_state k b (suc i) ≡ free_state k b i
  unfolding free_state
  state-kept i h = rw h

  state-free : (i : ℕ) → k (suc i) ≡ false → free_state k b (suc i) ≡ 2 * free_state k b i + choose (b (suc i)) 1 0
  unfolding free_state
  state-free i h = rw h

  number-kept : (i : ℕ) → k (suc i) ≡ true → free_of k (suc i) ≡ free_of k i
  number-kept i h = rw (free-next k i, h) (omega arith)

  number-free : (i : ℕ) → k (suc i) ≡ false → free_of k (suc i) ≡ suc (free_of k i)
  number-free i h = rw (free-next k i, h) (omega arith)

  pub free-state-below : (n : ℕ) → free_state k b n < 2 ^ free_of k n
  unfolding free_state free_of
  free-state-below zero = omega arith
  free-state-below (suc n) =
      ⊎_elim
      (λ (h : k (suc n) ≡ true). rw (state-kept n h, number-kept n h) (free-state-below n))
      (λ (h : k (suc n) ≡ false). rw (state-free n h, number-free n h, pow-suc 2 (free_of k n))
      (omega (arith, free-state-below n, bit-of (b (suc n)))))
      (either (k (suc n)))

  pub free-state-bit : (n i : ℕ) → 0 < i → i ≤ n → k i ≡ false → bit (free_state k b n) (free_of k n - free_of k i) ≡ b i
  free-state-bit zero i p q f = absurd (omega (arith, p, q))
  free-state-bit (suc n) i p q f =
      ⊎_elim
      (λ (e : i ≡ suc n).
      let f' : k (suc n) ≡ false = rw e at f in
      let z : free_of k (suc n) - free_of k (suc n) ≡ 0 = omega arith in
      rw (e, z, state-free n f') (last_bit (free_state k b n) (b (suc n))))
      (λ (e : i ≡ suc n → ⊥).
      let l : i ≤ n = omega (arith, e, q) in
      ⊎_elim
      (λ (h : k (suc n) ≡ true). rw (state-kept n h, number-kept n h) (free-state-bit n i p l f))
      (λ (h : k (suc n) ≡ false).
      let z : suc (free_of k n) - free_of k i ≡ suc (free_of k n - free_of k i) = omega (arith, free-within k i n l) in
      let half : (2 * free_state k b n + choose (b (suc n)) 1 0) / 2 ≡ free_state k b n = omega (arith, bit-of (b (suc n))) in
      rw (state-free n h, number-free n h, z)
      (sym (bit-halved (2 * free_state k b n + choose (b (suc n)) 1 0) (free_of k n - free_of k i))
      ∙ ap (λ (x : ℕ). bit x (free_of k n - free_of k i)) half ∙ free-state-bit n i p l f))
      (either (k (suc n))))
      (split-eq i (suc n))

chosen-kept : (k : Bool) (a b : Bool) → k ≡ true → choose k a b ≡ a
chosen-kept k a b h = rw h

module _ (n keep gap : ℕ) (xs : List ℕ) (count root : ℕ) (ys : List ℕ) (m c r : ℕ) (w : FixedSome n keep gap xs count root ys m c r) where
  abbrev k : ℕ → Bool
  k = keeps n keep

  -- both ways between the states of the free flags and the states that agree
  pub all-forced : ((s : ℕ) → s < 2 ^ m → root_value m ys c r s ≡ false) → Forces n (root_value n xs count root) gap (keeps n keep)
  unfolding root_value
  all-forced f t small a =
      let s : ℕ = free_state (keeps n keep) (λ i. bit t (n - i)) n in
      let below : s < 2 ^ m = rw w.flags (free-state-below (keeps n keep) (λ i. bit t (n - i)) n) in
      sym (w.valued s t (λ i p q. stands i p q (either (keeps n keep i)))) ∙ f s below
    where
      stands : (i : ℕ) → 0 < i → i ≤ n → (keeps n keep i ≡ true) ⊎ (keeps n keep i ≡ false)
          → bit t (n - i) ≡ choose (keeps n keep i) (bit gap (n - i))
          (bit (free_state (keeps n keep) (λ i. bit t (n - i)) n) (free_of (keeps n keep) n - free_of (keeps n keep) i))
      stands i p q o =
          ⊎_elim
          (λ (h : keeps n keep i ≡ true). rw h (a i p q h))
          (λ (h : keeps n keep i ≡ false). rw h (sym (free-state-bit (keeps n keep) (λ i. bit t (n - i)) n i p q h)))
          o

  pub forced-all : Forces n (root_value n xs count root) gap (keeps n keep) → (s : ℕ) → s < 2 ^ m → root_value m ys c r s ≡ false
  unfolding root_value
  forced-all f s small =
      let b : ℕ → Bool = λ i. choose (keeps n keep i) (bit gap (n - i)) (bit s (free_of (keeps n keep) n - free_of (keeps n keep) i)) in
      w.valued s (state_with n b) (λ i p q. state-bit n b i p q)
      ∙ f (state_with n b) (state-below n b) (λ i p q h. state-bit n b i p q
      ∙ chosen-kept (keeps n keep i) (bit gap (n - i)) (bit s (free_of (keeps n keep) n - free_of (keeps n keep) i)) h)

-- where nothing is listed, nothing is false
none-false : (v : ℕ → Bool) (lo j : ℕ) → length (false_from v lo j) ≤ 0 → (s : ℕ) → lo ≤ s → s < lo + j → v s ≡ true
none-false v lo zero h s p q = absurd (omega (arith, p, q))
none-false v lo (suc j) h s p q =
    ⊎_elim
    (λ (t : v lo ≡ true).
    ⊎_elim
    (λ (e : s ≡ lo). rw e t)
    (λ (e : s ≡ lo → ⊥). none-false v (suc lo) j (rw (false-not v lo j t) at h) s (omega (arith, e, p)) (omega (arith, q)))
    (split-eq s lo))
    (λ (f : v lo ≡ false). absurd (some (false_from v (suc lo) j) (rw (false-one v lo j f) at h)))
    (either (v lo))
  where
    some : (l : List ℕ) → length (lo ∷ l) ≤ 0 → ⊥
    some l z = omega (arith, z)

pub none-where-room : (l : List ℕ) (room : ℕ) → none_found (found l room) ≡ leb (length l) room
unfolding none_found found
none-where-room l room = ⊎_elim (λ (h : leb (length l) room ≡ true). rw h) (λ (h : leb (length l) room ≡ false). rw h) (either (leb (length l) room))

unturned : (b : Bool) → not b ≡ true → b ≡ false
unturned true h = sym h
unturned false h = refl

module _ (n keep gap : ℕ) (xs : List ℕ) (count root : ℕ) (ys : List ℕ) (m c r : ℕ) (w : FixedSome n keep gap xs count root ys m c r) where
  turned-value : (s : ℕ) → root_value m ys c (negation r) s ≡ not (root_value m ys c r s)
  unfolding root_value
  turned-value s = literal-negation (computed m s ys c) r

  abbrev listed : List ℕ
  listed = false_from (root_value m ys c (negation r)) 0 (2 ^ m - 0)

  pub forced-decides : (b : Bool) → b ≡ leb (length listed) 0 → Decides b (Forces n (root_value n xs count root) gap (keeps n keep))
  forced-decides true e =
      let z : length listed ≤ 0 = leb-true (length listed) 0 (sym e) in
      all-forced n keep gap xs count root ys m c r w
      (λ s h. unturned (root_value m ys c r s) (sym (turned-value s) ∙ none-false (root_value m ys c (negation r)) 0 (2 ^ m - 0) z s (omega arith)
      (omega (arith, h))))
  forced-decides false e =
      λ f.
      let z : 0 < length listed = leb-false (length listed) 0 (sym e) in
      let l : listed ≡ [] = false-none (root_value m ys c (negation r)) 0 (2 ^ m - 0) (λ s p q. turned-value s
      ∙ ap not (forced-all n keep gap xs count root ys m c r w f s (omega (arith, q)))) in
      let y : 0 < length {A = ℕ} [] = rw l at z in
      omega (arith, y)
