-- At a depth not below the number of flags the first gap is the answer.
use Prim.Native.Nat.{ℕ, zero, suc, ◌+◌, ◌-◌, ◌^◌, ◌≤◌, ◌<◌}
use mathlib.Core.Path.{◌≡◌, refl, sym, ◌∙◌}
use mathlib.Core.Bool.{Bool, true, false}
use mathlib.Core.List.{List, [], ◌∷◌}
use mathlib.Core.Logic.{⊎_elim}
use native.Mathlib.Omega.{arith}
use lib.ListN.{length}
use lib.Dec.{leb}
use borrow.Author.Tests.{lt-leb}
use Rattle.notation.specs.Guard.{Guard}
use Rattle.notation.specs.Triplets.{triplets}
use Rattle.ground.proofs.Cases.{either, split-eq}
use Rattle.truth.specs.Value.{value}
use Rattle.truth.specs.clauses.Computed.{root_value, Triplets}
use Rattle.truth.specs.clauses.Written.{Proper, Begins}
use Rattle.truth.proofs.Written.{written-triplets, written-value}
use Rattle.notation.proofs.Shaped.{count-triplets}
use Rattle.steps.specs.clauses.Resting.{triplets_at}
use Rattle.steps.proofs.Listing.{triplets-read}
use Rattle.saturation.specs.Saturation.{Flags}
use Rattle.saturation.specs.Answer.{Checked}
use Rattle.saturation.proofs.Confirmed.{full-covered, full-gap}
use Rattle.gaps.specs.Gaps.{false_from}
use Rattle.gaps.specs.Writing.{found}
use Rattle.gaps.specs.clauses.Rows.{Writes}
use Rattle.gaps.proofs.Ascending.{false-not, false-one}
use Rattle.guard_check.specs.clauses.Deciding.{FromGuard, Decided, FullyDecided, first_gap}
use Rattle.gaps.specs.declared.writing.Found.{Found}
use Rattle.gaps.specs.declared.writing.Found.TheVariants.{Done, More}
use Rattle.saturation.specs.declared.verdict.Verdict.{Verdict}
use Rattle.saturation.specs.declared.verdict.Verdict.TheVariants.{Covered, Gap}

-- ---- what a list of states says
pub first_of : (v : ℕ → Bool) (lo k s : ℕ) (l : List ℕ) → false_from v lo k ≡ s ∷ l
    → (lo ≤ s) × (s < lo + k) × (v s ≡ false) × ((t : ℕ) → lo ≤ t → t < s → v t ≡ true)
unfolding false_from
first_of v lo zero s l e = let z : ◌≡◌ {A = ℕ} 0 1 = cc in absurd (omega arith)
first_of v lo (suc k) s l e =
    ⊎_elim
    (λ (p : v lo ≡ true).
    let h : (suc lo ≤ s) × (s < suc lo + k) × (v s ≡ false) × ((t : ℕ) → suc lo ≤ t → t < s → v t ≡ true) =
    first_of v (suc lo) k s l (sym (false-not v lo k p) ∙ e) in (
      omega arith,
      omega arith,
      h.2,
      λ t a b.
          ⊎_elim (λ (q : t ≡ lo). rw q p) (λ (q : t ≡ lo → ⊥). h.3 t (omega arith) b) (split-eq t lo),
    ))
    (λ (p : v lo ≡ false).
    let here : lo ∷ false_from v (suc lo) k ≡ s ∷ l = sym (false-one v lo k p) ∙ e in
    let q : lo ≡ s = cc in (omega arith, omega arith, rw q at p, λ t a b. absurd (omega arith)))
    (either (v lo))

pub none_of : (v : ℕ → Bool) (lo k : ℕ) → false_from v lo k ≡ [] → (t : ℕ) → lo ≤ t → t < lo + k → v t ≡ true
none_of v lo zero e t a b = absurd (omega arith)
none_of v lo (suc k) e t a b =
    ⊎_elim
    (λ (p : v lo ≡ true).
    ⊎_elim (λ (q : t ≡ lo). rw q p)
    (λ (q : t ≡ lo → ⊥). none_of v (suc lo) k (sym (false-not v lo k p) ∙ e) t (omega arith) (omega arith))
    (split-eq t lo))
    (λ (p : v lo ≡ false).
    let here : lo ∷ false_from v (suc lo) k ≡ [] = sym (false-one v lo k p) ∙ e in
    let z : ◌≡◌ {A = ℕ} 0 1 = cc in absurd (omega arith))
    (either (v lo))

-- where there is no room, the first state is the next one
found_none : found [] 0 ≡ Done 0
unfolding found
found_none = refl

found-one : (s : ℕ) (l : List ℕ) → found (s ∷ l) 0 ≡ More 0 s
unfolding found
found-one s l = let h : leb (length (s ∷ l)) 0 ≡ false = lt-leb (length (s ∷ l)) 0 (omega arith) in rw h

-- ---- what the numbers of a guard's triplets are
module _ (xs : List ℕ) (c n root : ℕ) (g : Guard) (begins : Begins n c root g xs) where
  pub listed : triplets_at xs c ≡ triplets 0 g
  listed =
      let e : length (triplets 0 g) ≡ c = count-triplets 0 g ∙ sym begins.count in
      rw e at (triplets-read xs (triplets 0 g) (rw e begins.written))

  pub at-guard : (k : ℕ) (r : Verdict) → Checked n g k r → Decided xs c n root k r
  at-guard k r a = rw (listed, begins.literal) a

  pub of_guard : (k : ℕ) (r : Verdict) → Decided xs c n root k r → Checked n g k r
  of_guard k r a = rw (listed, begins.literal) at a

module _ (xs : List ℕ) (c n root : ℕ) (from : FromGuard xs c n root) where
  abbrev g : Guard
  g = from.guard

  proper : Proper n g
  proper = record { few = from.begins.few; within = from.begins.within }

  pub searchable : Triplets n xs c root
  searchable = written-triplets n c root g xs from.begins from.room.0 from.room.1

  its-value : (s : ℕ) → root_value n xs c root s ≡ value n s g
  its-value = written-value n c root g xs from.begins

  its-answer : (k : ℕ) (r : Verdict) → Checked n g k r → Decided xs c n root k r
  its-answer = at-guard xs c n root g from.begins

  -- what is decided of the triplets is the verdict on the guard
  pub guard-says : (k : ℕ) (r : Verdict) → Decided xs c n root k r → Checked n g k r
  guard-says = of_guard xs c n root g from.begins

  -- the list of all gaps, with nothing written of it, says the answer
  fully : (l : List ℕ) → false_from (root_value n xs c root) 0 (2 ^ n - 0) ≡ l → FullyDecided xs c n root (first_gap (found l 0))
  fully [] e k h =
      rw (found_none)
      (its-answer k Covered
      (full-covered (Flags n) n g proper (λ f d. d) k h
      (λ s b. sym (its-value s) ∙ none_of (root_value n xs c root) 0 (2 ^ n - 0) e s (omega arith) (omega arith))))
  fully (s ∷ l) e k h =
      let p : (0 ≤ s) × (s < 0 + (2 ^ n - 0)) × (root_value n xs c root s ≡ false)
      × ((t : ℕ) → 0 ≤ t → t < s → root_value n xs c root t ≡ true) =
      first_of (root_value n xs c root) 0 (2 ^ n - 0) s l e in
      rw (found-one s l)
      (its-answer k (Gap s)
      (full-gap (Flags n) n g proper (λ f d. d) k h s (omega (arith, p.1)) (sym (its-value s) ∙ p.2)
      (λ t b. sym (its-value t) ∙ p.3 t (omega arith) b)))

  pub fully-found : {out after : List ℕ} (r : Found) (d : Verdict) → Writes out 0 (false_from (root_value n xs c root) 0 (2 ^ n - 0)) r after
      → length out ≡ 0 → d ≡ first_gap r → FullyDecided xs c n root d
  fully-found r d w e q = rw (q, w.answers, e) (fully (false_from (root_value n xs c root) 0 (2 ^ n - 0)) refl)
