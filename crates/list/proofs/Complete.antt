-- The list in a reader's words: it has every gap from the start on, nothing else, ascending, and no second answer fits.
use Prim.Native.Nat.{ℕ, zero, suc, ◌+◌, ◌-◌, ◌^◌, ◌≤◌, ◌<◌}
use mathlib.Core.Path.{◌≡◌, sym, ap, ◌∙◌}
use mathlib.Core.Bool.{Bool, true, false, true≢false}
use mathlib.Core.List.{List, ◌++◌}
use mathlib.Core.Logic.{◌⊎◌, inl, inr, ⊎_elim, ◌↔◌}
use native.Mathlib.Omega.{arith}
use native.Mathlib.Nat.{eq-or-lt_of_le}
use lib.ListN.{length, take, drop, get_or, length-take, get_or-append}
use lib.Dec.{leb}
use borrow.Author.Tests.{leb-true, leb-false}
use lib.Seq.{get_or-take, get_or-append-add, get_or-drop, take_all}
use Rattle.notation.specs.Guard.{Guard}
use Rattle.truth.specs.Value.{value}
use Rattle.gaps.specs.declared.writing.Found.TheVariants.{Done, More}
use Rattle.gaps.specs.Gaps.{false_from, gaps_from}
use Rattle.gaps.specs.Writing.{found, placed}
use Rattle.list.specs.Listed.{Listing, Lists, Among, Ascends}
use Rattle.gaps.proofs.Ascending.{false-not, false-one}
use Rattle.ground.proofs.Cases.{either}

-- no second answer, nor a second slice afterwards, satisfies list's statement
pub lists-unique : (text : List ℕ) (start : ℕ) (out : List ℕ) (a b : Listing) (o p : List ℕ) → Lists text start out a o → Lists text start out b p
    → (a ≡ b) × (o ≡ p)
lists-unique text start out a b o p l m = (l.answers ∙ sym m.answers, l.holds ∙ sym m.holds)

module _ (v : ℕ → Bool) where
  -- a number of the stretch at which v is false is listed
  pub false-among : (lo k s : ℕ) → lo ≤ s → s < lo + k → v s ≡ false → Among s (false_from v lo k)
  false-among lo zero s a b e = absurd (omega arith)
  false-among lo (suc k) s a b e =
      ⊎_elim
      (λ (t : v lo ≡ true).
      rw (false-not v lo k t)
      (⊎_elim
      (λ (z : lo ≡ s). absurd (true≢false (sym t ∙ ap v z ∙ e)))
      (λ (l : lo < s). false-among (suc lo) k s l (omega arith) e)
      (eq-or-lt_of_le a)))
      (λ (f : v lo ≡ false).
      rw (false-one v lo k f)
      (⊎_elim (λ (z : lo ≡ s). inl (sym z)) (λ (l : lo < s). inr (false-among (suc lo) k s l (omega arith) e)) (eq-or-lt_of_le a)))
      (either (v lo))

  -- and nothing else is
  pub among-false : (lo k s : ℕ) → Among s (false_from v lo k) → (lo ≤ s) × (s < lo + k) × (v s ≡ false)
  unfolding false_from
  among-false lo zero s m = absurd m
  among-false lo (suc k) s m =
      ⊎_elim
      (λ (t : v lo ≡ true). up (among-false (suc lo) k s (rw (false-not v lo k t) at m)))
      (λ (f : v lo ≡ false).
      ⊎_elim
      (λ (z : s ≡ lo). (omega arith, omega arith, ap v z ∙ f))
      (λ (r : Among s (false_from v (suc lo) k)). up (among-false (suc lo) k s r))
      (rw (false-one v lo k f) at m))
      (either (v lo))
    where
      up : (suc lo ≤ s) × (s < suc lo + k) × (v s ≡ false) → (lo ≤ s) × (s < lo + suc k) × (v s ≡ false)
      up p = (omega arith, omega arith, p.2)

  -- in ascending order, each once
  pub false-ascends : (lo k : ℕ) → Ascends (false_from v lo k)
  unfolding false_from
  false-ascends lo zero = tt
  false-ascends lo (suc k) =
      ⊎_elim
      (λ (t : v lo ≡ true). rw (false-not v lo k t) (false-ascends (suc lo) k))
      (λ (f : v lo ≡ false). rw (false-one v lo k f) ((λ s m. (among-false (suc lo) k s m).0), false-ascends (suc lo) k))
      (either (v lo))

-- a state is listed exactly when it is a gap from the start on
pub gaps-exact : (n : ℕ) (g : Guard) (start s : ℕ) → start ≤ 2 ^ n → Among s (gaps_from n g start)
    ↔ ((start ≤ s) × (s < 2 ^ n) × (value n s g ≡ false))
unfolding gaps_from
gaps-exact n g start s h = (
  (λ m. let p = among-false (λ u. value n u g) start (2 ^ n - start) s m in (p.0, omega (arith, p.1), p.2)),
  (λ p. false-among (λ u. value n u g) start (2 ^ n - start) s p.0 (omega (arith, p.1)) p.2),
)

-- the gaps ascend, each once
pub gaps-ascend : (n : ℕ) (g : Guard) (start : ℕ) → Ascends (gaps_from n g start)
unfolding gaps_from
gaps-ascend n g start = false-ascends (λ u. value n u g) start (2 ^ n - start)

-- all are written exactly where there is room for them, and else the next one is named
pub found-all-or-more : (l : List ℕ) (room : ℕ)
    → ((length l ≤ room) × (found l room ≡ Done (length l))) ⊎ ((room < length l) × (found l room ≡ More room (get_or l room 0)))
unfolding found
found-all-or-more l room =
    ⊎_elim
    (λ (b : leb (length l) room ≡ true). inl (leb-true (length l) room b, rw b))
    (λ (b : leb (length l) room ≡ false). inr (leb-false (length l) room b, rw b))
    (either (leb (length l) room))

-- the first entries of the slice are the first states of the list, as far as both reach
pub placed-written : (l out : List ℕ) (i : ℕ) → i < length l → i < length out → get_or (placed l out) i 0 ≡ get_or l i 0
unfolding placed
placed-written l out i a b =
    get_or-append (take (length out) l) (drop (length l) out) 0 i (rw length-take (omega arith)) ∙ get_or-take (length out) l i 0 b

-- entries behind the states are unchanged
pub placed-kept : (l out : List ℕ) (i : ℕ) → length l ≤ i → i < length out → get_or (placed l out) i 0 ≡ get_or out i 0
unfolding placed
placed-kept l out i h b =
    let e : i ≡ length l + (i - length l) = omega arith in
    rw (take_all (length out) l (omega arith))
    (ap (λ u. get_or (l ++ drop (length l) out) u 0) e ∙ get_or-append-add l (drop (length l) out) (i - length l) 0 ∙ get_or-drop (length l) out (i - length l)
    0 ∙ ap (λ u. get_or out u 0) (sym e))
