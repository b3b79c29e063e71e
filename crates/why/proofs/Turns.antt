-- The turn of a flag on the mask, what the search tells of it, and the ways of why.
use Prim.Native.Nat.{ℕ, zero, suc, ◌+◌, ◌*◌, ◌-◌, ◌%◌, ◌^◌, ◌≤◌, ◌<◌}
use native.Mathlib.Omega.{arith}
use mathlib.Core.Path.{◌≡◌, refl, sym, ap, ◌∙◌, fun_ext}
use mathlib.Core.Bool.{Bool, true, false}
use mathlib.Core.List.{List}
use mathlib.Core.Logic.{inl, inr, ⊎_elim}
use lib.ListN.{length}
use lib.Dec.{leb, ltb}
use lib.Pow.{pow-lt}
use Rattle.notation.specs.declared.codes.Code.{Code}
use Rattle.notation.specs.Triplets.{negation}
use Rattle.notation.specs.Reading.{refusal, reading}
use Rattle.notation.specs.declared.refusal.Reason.TheVariants.{NoGap}
use Rattle.notation.specs.declared.refusal.Refusal.{Refusal}
use Rattle.reading.specs.declared.parse.Guard as counted
use Rattle.reading.proofs.Serving as serving
use Rattle.truth.specs.Value.{value}
use Rattle.truth.specs.declared.formula.Formula.{Formula}
use Rattle.truth.specs.clauses.Computed.{root_value}
use Rattle.truth.specs.clauses.Formulas.{value_of}
use Rattle.truth.specs.clauses.Words.{word_bits}
use Rattle.truth.proofs.Written.{written-value}
use Rattle.read_truth.proofs.Begun.{read_flags, read-begins}
use Rattle.gaps.specs.Gaps.{false_from}
use Rattle.gaps.specs.clauses.Rows.{Writes}
use Rattle.gaps.specs.declared.writing.Found.{Found}
use Rattle.freeing.specs.clauses.Some.{keeps, FixedSome}
use Rattle.why.specs.Numbered.{state_with}
use Rattle.why.specs.Kept.{Forces, every, without, Went}
use Rattle.why.specs.clauses.Keeping.{none_found, Decides, Turned, Keeping}
use Rattle.why.specs.Explained.{Explains}
use Rattle.std.specs.Prelude.{Ok, Err}
use Rattle.notation.specs.Refusals.{fault}
use Rattle.why.proofs.Stating.{state-bit}
use Rattle.why.proofs.Masks.{stays, mask-every, mask-without}
use Rattle.why.proofs.Forcing.{none-where-room, forced-decides}

pub shifted : (n : ℕ) → n < word_bits → 1 * 2 ^ n % 18446744073709551616 ≡ 2 ^ n
shifted n h = let l : 2 ^ n < 2 ^ 64 = pow-lt h in omega (arith, l)

-- a search with no room, at the other sign of what is left, tells whether the kept flags force a gap
pub forced-says : (n keep gap : ℕ) (xs : List ℕ) (count root : ℕ) (ys : List ℕ) (m c r : ℕ) → FixedSome n keep gap xs count root ys m c r
    → (f : Formula) → f.triplets.now ≡ ys → f.count ≡ c → f.root ≡ negation r → f.flags ≡ m
    → (out after : List ℕ) (b : Bool) (t : Found) → length out ≡ 0
    → Writes out 0 (false_from (value_of f) 0 (2 ^ f.flags - 0)) t after → b ≡ none_found t
    → Decides b (Forces n (root_value n xs count root) gap (keeps n keep))
forced-says n keep gap xs count root ys m c r w f et ec er ef out after b t z p q =
    let same : b ≡ leb (length (false_from (value_of f) 0 (2 ^ f.flags - 0))) (length out) = q ∙ ap none_found p.answers
    ∙ none-where-room (false_from (value_of f) 0 (2 ^ f.flags - 0)) (length out) in
    let told : b ≡ leb (length (false_from (root_value m ys c (negation r)) 0 (2 ^ m - 0))) 0 = rw (z, et, ec, er, ef) at same in
    forced-decides n keep gap xs count root ys m c r w b told

-- one turn
pub turn-held : (n : ℕ) (v : ℕ → Bool) (gap keep place e : ℕ) (b : Bool) → e ≡ 2 ^ place → b ≡ false
    → Decides b (Forces n v gap (keeps n (keep - e))) → Turned n v gap keep place keep
turn-held n v gap keep place e b h t d = let d' : Forces n v gap (keeps n (keep - e)) → ⊥ = rw t at d in inr (rw h at d', refl)

every-kept : (j : ℕ) → every j ≡ true
unfolding every
every-kept j = refl

module _ (n : ℕ) (v : ℕ → Bool) (gap : ℕ) where
  -- flags that are the same among the first n force the same
  pub forces-same : (k m : ℕ → Bool) → ((i : ℕ) → 0 < i → i ≤ n → k i ≡ m i) → Forces n v gap k → Forces n v gap m
  forces-same k m e f s small a = f s small (λ i p q h. a i p q (sym (e i p q) ∙ h))

  -- the flags after i are all kept
  went-later : (i : ℕ) (k : ℕ → Bool) → Went n v gap i k → (j : ℕ) → i < j → k j ≡ true
  went-later zero k p j l = rw p (every-kept j)
  went-later (suc i) k p j l =
      ⊎_elim
      (λ (x : Forces n v gap (without p.0 (suc i)) × (k ≡ without p.0 (suc i))).
      rw x.1 (stays p.0 (suc i) j (λ (z : j ≡ suc i). omega (arith, z, l)) ∙ went-later i p.0 p.1 j (omega (arith, l))))
      (λ (x : (Forces n v gap (without p.0 (suc i)) → ⊥) × (k ≡ p.0)). rw x.1 (went-later i p.0 p.1 j (omega (arith, l))))
      p.2

  mask-less : (i keep : ℕ) (k : ℕ → Bool) → Went n v gap i k → keep ≡ state_with n k → suc i ≤ n
      → state_with n (without k (suc i)) + 2 ^ (n - suc i) ≡ keep
  mask-less i keep k w e h = mask-without n k (suc i) (omega arith) h (went-later i k w (suc i) (omega arith)) ∙ sym e

  pub turn-fits : (i keep : ℕ) → Keeping n v gap i keep → suc i ≤ n → 2 ^ (n - suc i) ≤ keep
  turn-fits i keep p h = omega (arith, mask-less i keep p.0 p.1 p.2 h)

  pub keeping_start : (keep : ℕ) → keep ≡ 2 ^ n - 1 → Keeping n v gap 0 keep
  keeping_start keep e = (every, refl, e ∙ sym (mask-every n))

  pub keeping-more : (i keep r : ℕ) → Keeping n v gap i keep → suc i ≤ n → Turned n v gap keep (n - suc i) r → Keeping n v gap (suc i) r
  keeping-more i keep r p h t = next p.0 p.1 p.2 t
    where
      next : (k : ℕ → Bool) → Went n v gap i k → keep ≡ state_with n k → Turned n v gap keep (n - suc i) r → Keeping n v gap (suc i) r
      next k w e t =
          let less : keep - 2 ^ (n - suc i) ≡ state_with n (without k (suc i)) = omega (arith, mask-less i keep k w e h) in
          ⊎_elim
          (λ (x : Forces n v gap (keeps n (keep - 2 ^ (n - suc i))) × (r ≡ keep - 2 ^ (n - suc i))).
          let f : Forces n v gap (keeps n (state_with n (without k (suc i)))) = rw less at x.0 in (
            without k (suc i),
            (
              k,
              w,
              inl (
                forces-same (keeps n (state_with n (without k (suc i)))) (without k (suc i))
                    (λ j a b. state-bit n (without k (suc i)) j a b) f,
                refl,
              ),
            ),
            x.1 ∙ less,
          ))
          (λ (x : (Forces n v gap (keeps n (keep - 2 ^ (n - suc i))) → ⊥) × (r ≡ keep)).
          let f : Forces n v gap (keeps n (state_with n (without k (suc i)))) → ⊥ = rw less at x.0 in (
            k,
            (
              k,
              w,
              inr (
                (λ y. f (forces-same (without k (suc i)) (keeps n (state_with n (without k (suc i))))
                    (λ j a b. sym (state-bit n (without k (suc i)) j a b)) y)),
                refl,
              ),
            ),
            x.1 ∙ e,
          ))
          t

-- the ways of why
keeping-same : (n m : ℕ) (v w : ℕ → Bool) (gap keep : ℕ) → n ≡ m → v ≡ w → Keeping n v gap n keep → Keeping m w gap m keep
keeping-same n m v w gap keep e f k = rw (← e, ← f) k

module _ (text : List ℕ) (state : ℕ) where
  pub explains-refusal : (f : Refusal) → reading text ≡ refusal f.reason f.place → Explains (reading text) state (Err f)
  explains-refusal f e = rw e refl

  module _ (x : counted.Guard) (codes : List Code) (xs : List ℕ) (f : serving.Found text (reading text) x codes xs) where
    of_tree : (s : ℕ) → root_value x.flags xs x.count x.root s ≡ value (length f.flags) s f.tree
    of_tree s = written-value x.flags x.count x.root f.tree xs (read-begins text x codes xs f) s
        ∙ ap (λ (n : ℕ). value n s f.tree) (read_flags text x codes xs f)

    pub explains-no-gap : ltb state (2 ^ x.flags) ≡ true → root_value x.flags xs x.count x.root state ≡ true → (k : Refusal)
        → k ≡ fault NoGap 0
        → Explains (reading text) state (Err k)
    explains-no-gap h e k d =
        let soon : ltb state (2 ^ length f.flags) ≡ true = rw (read_flags text x codes xs f) at h in
        let v : value (length f.flags) state f.tree ≡ true = sym (of_tree state) ∙ e in
        rw (f.says, soon, v) (ap Err d)

    pub explains-kept : ltb state (2 ^ x.flags) ≡ true → root_value x.flags xs x.count x.root state ≡ false
        → (keep : ℕ) → Keeping x.flags (root_value x.flags xs x.count x.root) state x.flags keep
        → Explains (reading text) state (Ok keep)
    explains-kept h e keep k =
        let soon : ltb state (2 ^ length f.flags) ≡ true = rw (read_flags text x codes xs f) at h in
        let v : value (length f.flags) state f.tree ≡ false = sym (of_tree state) ∙ e in
        let t : Keeping (length f.flags) (λ s. value (length f.flags) s f.tree) state (length f.flags) keep =
        keeping-same x.flags (length f.flags) (root_value x.flags xs x.count x.root) (λ s. value (length f.flags) s f.tree) state
        keep (read_flags text x codes xs f) (fun_ext of_tree) k in
        rw (f.says, soon, v) (t.0, t.1, ap Ok t.2)
