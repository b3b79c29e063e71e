-- Where why answers flags, they are the reason of the gap: by the guard's truth table, and by what evaluate answers of the text.
use Prim.Native.Nat.{ℕ, ◌^◌, ◌≤◌, ◌<◌}
use mathlib.Core.Path.{◌≡◌, refl, sym, ap, ◌∙◌}
use mathlib.Core.Bool.{Bool, true, false}
use mathlib.Core.List.{List}
use native.Mathlib.Omega.{arith}
use lib.ListN.{length}
use lib.Dec.{eqb, ltb}
use borrow.Author.Tests.{ltb-true, lt-ltb}
use Rattle.ground.specs.Choice.{choose}
use Rattle.notation.specs.declared.refusal.Reason.TheVariants.{NoState, NoGap}
use Rattle.notation.specs.declared.refusal.Refusal.{Refusal}
use Rattle.notation.specs.Walk.{Flag}
use Rattle.notation.specs.Guard.{Guard}
use Rattle.notation.specs.Reading.{Reading, refusal, guard, reading}
use Rattle.truth.specs.Value.{value}
use Rattle.evaluate.specs.Evaluated.{Evaluation, evaluated}
use Rattle.why.specs.Numbered.{state_with}
use Rattle.why.specs.Kept.{Forces, without, Went}
use Rattle.std.specs.Prelude.{Ok, Err}
use Rattle.notation.specs.Refusals.{fault}
use Rattle.why.specs.Explained.{Explanation, KeptOf, Explains}
use Rattle.why.proofs.Stating.{state-below, state-bit}
use Rattle.why.proofs.Turns.{forces-same}
use Rattle.why_laws.specs.Reason.{held_by, Reason, AllFalse, TextReason}
use Rattle.why_laws.proofs.Keeping.{kept-forces, none_dropped}

-- the flags that the answer holds are the kept ones
held : (n : ℕ) (k : ℕ → Bool) (i : ℕ) → 0 < i → i ≤ n → held_by n (state_with n k) i ≡ k i
held n k i p q = state-bit n k i p q

held-without : (n : ℕ) (k : ℕ → Bool) (j i : ℕ) → 0 < i → i ≤ n → without (held_by n (state_with n k)) j i ≡ without k j i
unfolding without
held-without n k j i p q = ap (λ (b : Bool). choose (eqb i j) false b) (held n k i p q)

kept-reason : (n : ℕ) (v : ℕ → Bool) (gap : ℕ) (k : ℕ → Bool) → gap < 2 ^ n → v gap ≡ false → Went n v gap n k
    → Reason n v gap (state_with n k)
kept-reason n v gap k small here w =
    record {
      state = small;
      false-here = here;
      small = state-below n k;
      forces = forces-same n v gap k (held_by n (state_with n k)) (λ i p q. sym (held n k i p q)) (kept-forces n v gap small here n k w);
      needed = λ j p q h f. none_dropped n v gap n k w j p q (sym (held n k j p q) ∙ h)
          (forces-same n v gap (without (held_by n (state_with n k)) j) (without k j) (λ i a b. held-without n k j i a b) f);
    }

-- an answer of flags is no refusal, and one of its flags only
abbrev mask_in : Explanation → ℕ
mask_in (Ok m) = m
mask_in (Err f) = 0

abbrev is_refused : Explanation → ℕ
is_refused (Ok m) = 0
is_refused (Err f) = 1

kept-or-refused : (m : ℕ) (f : Refusal) → Ok m ≡ Err f → ⊥
kept-or-refused m f e = let z : ◌≡◌ {A = ℕ} 0 1 = ap is_refused e in omega arith

-- where flags are answered, the number is a state, and false
by-gap : (n : ℕ) (g : Guard) (state : ℕ) (b : Bool) (m : ℕ) → b ≡ value n state g → state < 2 ^ n
    → choose b (Ok m ≡ Err (fault NoGap 0)) (KeptOf n g state (Ok m)) → Reason n (λ s. value n s g) state m
by-gap n g state true m e h p = absurd (kept-or-refused m (fault NoGap 0) p)
by-gap n g state false m e h p =
    let k : m ≡ state_with n p.0 = ap mask_in p.2 in
    rw k (kept-reason n (λ s. value n s g) state p.0 h (sym e) p.1)

by_number : (n : ℕ) (g : Guard) (state : ℕ) (a : Bool) (m : ℕ) → a ≡ ltb state (2 ^ n)
    → choose a (choose (value n state g) (Ok m ≡ Err (fault NoGap 0)) (KeptOf n g state (Ok m))) (Ok m ≡ Err (fault NoState 0))
    → Reason n (λ s. value n s g) state m
by_number n g state true m e p = by-gap n g state (value n state g) m refl (ltb-true state (2 ^ n) (sym e)) p
by_number n g state false m e p = absurd (kept-or-refused m (fault NoState 0) p)

-- where why answers flags of a guard, they are the gap's reason
pub guard-reason : (g : Guard) (codes : List Flag) (state m : ℕ) → Explains (guard g codes) state (Ok m)
    → Reason (length codes) (λ s. value (length codes) s g) state m
guard-reason g codes state m p = by_number (length codes) g state (ltb state (2 ^ length codes)) m refl p

abbrev value_in : Evaluation → Bool
value_in (Ok b) = b
value_in (Err f) = true

module _ (text : List ℕ) (g : Guard) (codes : List Flag) (e : reading text ≡ guard g codes) where
  -- evaluate answers the guard's value in a state
  answers-value : (s : ℕ) → s < 2 ^ length codes → evaluated (reading text) s ≡ Ok (value (length codes) s g)
  unfolding evaluated
  answers-value s h = rw (e, lt-ltb s (2 ^ length codes) h) refl

  all-false : (gap : ℕ) (k : ℕ → Bool) → Forces (length codes) (λ s. value (length codes) s g) gap k → AllFalse text (length codes) gap k
  all-false gap k f s h a = answers-value s h ∙ ap Ok (f s h a)

  forced : (gap : ℕ) (k : ℕ → Bool) → AllFalse text (length codes) gap k → Forces (length codes) (λ s. value (length codes) s g) gap k
  forced gap k f s h a = ap value_in (sym (answers-value s h) ∙ f s h a)

  of_guard : (gap m : ℕ) → Reason (length codes) (λ s. value (length codes) s g) gap m → TextReason text gap m
  of_guard gap m r =
      record {
        g = g;
        codes = codes;
        reads = e;
        state = r.state;
        false-here = answers-value gap r.state ∙ ap Ok r.false-here;
        small = r.small;
        forces = all-false gap (held_by (length codes) m) r.forces;
        needed = λ j p q h f. r.needed j p q h (forced gap (without (held_by (length codes) m) j) f);
      }

by-reading : (text : List ℕ) (t : Reading) (state m : ℕ) → reading text ≡ t → Explains t state (Ok m) → TextReason text state m
by-reading text (refusal reason p) state m e q = absurd (kept-or-refused m (fault reason p) q)
by-reading text (guard g codes) state m e p = of_guard text g codes e state m (guard-reason g codes state m p)

-- the reader's theorem: where why answers flags of a text, evaluate answers false wherever a state has the gap's values at them, and not so with one dropped
pub why-reason : (text : List ℕ) (state m : ℕ) → Explains (reading text) state (Ok m) → TextReason text state m
why-reason text state m p = by-reading text (reading text) state m refl p
