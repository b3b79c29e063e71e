-- Check, evaluate and list of one text together: what one of them answers settles what the others answer.
use Rattle.std.specs.Prelude.{ℕ, ◌^◌, ◌≤◌, ◌<◌, ◌≡◌, true, false, List, ◌↔◌, length, get_or, Ok, Err}
use Rattle.notation.specs.Ceilings.{text_ceiling}
use Rattle.notation.specs.Walk.{Flag}
use Rattle.notation.specs.Guard.{Guard}
use Rattle.notation.specs.Reading.{guard, reading}
use Rattle.notation.specs.declared.refusal.Refusal.{Refusal}
use Rattle.reading.specs.Service.{Parsed, ReadSays, name_answer}
use Rattle.evaluate.specs.Evaluated.{evaluated}
use Rattle.gaps.specs.declared.writing.Found.TheVariants.{Done, More}
use Rattle.list.specs.Listed.{Listing, Lists}
use Rattle.guard_check.specs.Check.{depth_ceiling, Checking, CheckSays}
use Rattle.saturation.specs.declared.verdict.Verdict.TheVariants.{Covered, Gap}

-- the text is read: it is a guard with these flags, and its states are the numbers below 2 ^ length flags
pub record IsRead (text : List ℕ) : Type 0 where
  pub tree : Guard
  pub flags : List Flag
  pub says : reading text ≡ guard tree flags

-- covered, a gap or undecided, and no refusal
abbrev pub NoRefusal : Checking → Type 0
NoRefusal (Ok v) = Unit {0}
NoRefusal (Err f) = ⊥

-- whatever list answers for the text from this start on, and leaves in the slice, is as R says of slice, answer and slice afterwards
abbrev pub ListsSo : List ℕ → ℕ → (List ℕ → Listing → List ℕ → Type 0) → Type 0
ListsSo text start R = (out : List ℕ) (answer : Listing) (after : List ℕ) → Lists text start out answer after → R out answer after

-- check named the gap s
pub record GapTogether (text : List ℕ) (s : ℕ) : Type 0 where
  -- evaluate answers false in s, and true in each state before it
  pub false-there : evaluated (reading text) s ≡ Ok false
  pub true-before : (t : ℕ) → t < s → evaluated (reading text) t ≡ Ok true
  -- list from state 0 on writes s first, and where there is no room it answers more with s next
  pub first : ListsSo text 0 (λ out answer after. 0 < length out → get_or after 0 0 ≡ s)
  pub next : ListsSo text 0 (λ out answer after. length out ≡ 0 → answer ≡ Ok (More 0 s))

-- check said covered
pub record CoveredTogether (text : List ℕ) : Type 0 where
  pub read : IsRead text
  -- evaluate answers true in every state
  pub all_true : (t : ℕ) → t < 2 ^ length read.flags → evaluated (reading text) t ≡ Ok true
  -- list, from any state on, writes nothing and answers done
  pub none : (start : ℕ) → start < 2 ^ length read.flags
      → ListsSo text start (λ out answer after. (answer ≡ Ok (Done 0)) × (after ≡ out))

-- list from state 0 on wrote nothing and answered done
pub record NoneTogether (text : List ℕ) : Type 0 where
  pub read : IsRead text
  -- check names a gap at no depth, and from the number of flags up it says covered
  pub no_gap : (depth s : ℕ) → CheckSays text depth (Ok (Gap s)) → ⊥
  pub covered : (depth : ℕ) → length read.flags ≤ depth → depth ≤ depth_ceiling → CheckSays text depth (Ok Covered)

-- list from state 0 on, with no room, answered more with s next
pub record NextTogether (text : List ℕ) (s : ℕ) : Type 0 where
  pub read : IsRead text
  -- check says covered at no depth and names no other gap, and from the number of flags up it names s
  pub not_covered : (depth : ℕ) → CheckSays text depth (Ok Covered) → ⊥
  pub no_other : (depth t : ℕ) → CheckSays text depth (Ok (Gap t)) → t ≡ s
  pub gap : (depth : ℕ) → length read.flags ≤ depth → depth ≤ depth_ceiling → CheckSays text depth (Ok (Gap s))

-- reading refused the text with f: each service answers f, and a lent slice is unchanged
pub record RefusedTogether (text : List ℕ) (f : Refusal) : Type 0 where
  pub read : (room : List ℕ) (r : Parsed) (after : List ℕ) → ReadSays text room r after → (r ≡ Err f) × (after ≡ room)
  pub name : (i : ℕ) → name_answer (reading text) i ≡ Err f
  pub evaluate : (state : ℕ) → evaluated (reading text) state ≡ Err f
  pub list : (start : ℕ) → ListsSo text start (λ out answer after. (answer ≡ Err f) × (after ≡ out))
  -- check answers f, and nothing else, at each depth up to its ceiling; at every depth where the text is too long, since 1 stands before 2
  pub check : (depth : ℕ) → depth ≤ depth_ceiling → (r : Checking) → CheckSays text depth r ↔ (r ≡ Err f)
  pub check-long : text_ceiling < length text → (depth : ℕ) (r : Checking) → CheckSays text depth r ↔ (r ≡ Err f)
