-- The outline's starred examples, one table: each line speaks of a text, and of what the services answer for it.
use Rattle.std.specs.Prelude.{ℕ, ◌*◌, ◌≤◌, ◌≡◌, List, [], ◌∷◌, ◌++◌, length, drop, Ok, Err}
use Prim.Native.String.{String}
use Rattle.notation.specs.Walk.{Flag}
use Rattle.notation.specs.Guard.{Guard}
use Rattle.notation.specs.Triplets.{Triplet, triplet_variable, triplets}
use Rattle.notation.specs.Reading.{guard, reading}
use Rattle.notation.specs.declared.refusal.Reason.{Reason}
use Rattle.notation.specs.declared.refusal.Reason.TheVariants.{NoState}
use Rattle.list.specs.Listed.{Lists}
use Rattle.gaps.specs.declared.writing.Found.TheVariants.{Done, More}
use Rattle.guard_check.specs.Check.{CheckSays}
use Rattle.saturation.specs.declared.verdict.Verdict.{Verdict}
use Rattle.saturation.specs.declared.verdict.Verdict.TheVariants.{Covered, Gap, Undecided}
use Rattle.ground.specs.Bytes.{bytes}

-- the text is a guard with these triplets
abbrev pub Makes : String → List Triplet → Type 0
Makes text ts = (g : Guard) × (u : List Flag) × (reading (bytes text) ≡ guard g u) × (triplets 0 g ≡ ts)

-- x = (y implies z)
abbrev pub implication : ℕ → ℕ → Triplet
implication y z = record { kind = 0; y = y; z = z }

-- from this start on, list writes these states into every slice that has room for them, leaves what lies behind, and answers done
abbrev pub ListsAll : String → ℕ → List ℕ → Type 0
ListsAll text start l =
    (out : List ℕ) → length l ≤ length out → Lists (bytes text) start out (Ok (Done (length l))) (l ++ drop (length l) out)

-- from this start on, list writes these states into every slice that has room for them alone, and answers more with the next
abbrev pub ListsFirst : String → ℕ → List ℕ → ℕ → Type 0
ListsFirst text start l next =
    (out : List ℕ) → length out ≡ length l → Lists (bytes text) start out (Ok (More (length l) next)) l

-- from this start on, list refuses for this reason at place 0, and leaves every slice alone
abbrev pub ListRefuses : String → ℕ → Reason → Type 0
ListRefuses text start reason =
    (out : List ℕ) → Lists (bytes text) start out (Err (record { reason = reason; place = 0 })) out

-- what check answers for the text at the depth
abbrev pub Checks : String → ℕ → Verdict → Type 0
Checks text depth v = CheckSays (bytes text) depth (Ok v)

-- the table
pub record DeskTable : Type 0 where
  -- the list of gaps
  pub same_lists : ListsAll "A=B" 0 (1 ∷ 2 ∷ [])
  pub and-lists : ListsAll "A&B" 0 (0 ∷ 1 ∷ 2 ∷ [])
  pub false-lists : ListsAll "#0" 0 (0 ∷ [])
  pub true-lists : ListsAll "#1" 0 []
  pub same-room-1 : ListsFirst "A=B" 0 (1 ∷ []) 2
  pub same-start-2 : ListsAll "A=B" 2 (2 ∷ [])
  pub same-start-4 : ListRefuses "A=B" 4 NoState
  -- check
  pub both-or-not : Checks "(A&B)|(!A|!B)" 0 Covered
  pub contraposed-0 : Checks "(p>q)=(!q>!p)" 0 Undecided
  pub contraposed-1 : Checks "(p>q)=(!q>!p)" 1 Covered
  pub unless-a-0 : Checks "!a&((p>q)=(!q>!p))" 0 Undecided
  pub unless-a-1 : Checks "!a&((p>q)=(!q>!p))" 1 (Gap 4)
  pub unless-a-lists : ListsAll "!a&((p>q)=(!q>!p))" 0 (4 ∷ 5 ∷ 6 ∷ 7 ∷ [])
  -- the triplets (0, B, C), then (0, A, t1): flag i is the literal 2i
  pub implies-makes : Makes "A>B>C" (implication (2 * 2) (2 * 3) ∷ implication (2 * 1) (2 * triplet_variable 1) ∷ [])
