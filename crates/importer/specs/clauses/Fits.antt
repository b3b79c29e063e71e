-- Answers within their ceilings: a packed number has room for each of them.
use Rattle.std.specs.Prelude.{◌^◌, ◌≤◌, ◌<◌, Bool, Result, Ok, Err}
use Rattle.notation.specs.Ceilings.{text_ceiling, code_ceiling, flag_ceiling, connective_ceiling}
use Rattle.notation.specs.Triplets.{literal_ceiling}
use Rattle.notation.specs.Numbers.{number_of}
use Rattle.notation.specs.declared.refusal.Refusal.{Refusal}
use Rattle.reading.specs.clauses.Parsing.{last_refusal}
use Rattle.reading.specs.declared.parse.Guard as counted
use Rattle.reading.specs.declared.name.Stretch.{Stretch}
use Rattle.gaps.specs.declared.writing.Found.{Found}
use Rattle.gaps.specs.declared.writing.Found.TheVariants as found
use Rattle.saturation.specs.declared.verdict.Verdict.{Verdict}
use Rattle.saturation.specs.declared.verdict.Verdict.TheVariants as verdict

-- a number of the table, and a place within the longest text
pub record RefusalFits (f : Refusal) : Type 0 where
  pub number : number_of f.reason ≤ last_refusal
  pub place : f.place ≤ text_ceiling

-- a gap is a state of so many flags as there may be
abbrev pub VerdictFits : Verdict → Type 0
VerdictFits verdict.Covered = Unit {0}
VerdictFits (verdict.Gap s) = s < 2 ^ flag_ceiling
VerdictFits verdict.Undecided = Unit {0}

-- a truth value has only two numbers
abbrev pub ValueFits : Bool → Type 0
ValueFits b = Unit {0}

-- no more states are written than there may be, and the next gap is one of them
abbrev pub FoundFits : Found → Type 0
FoundFits (found.Done m) = m ≤ 2 ^ flag_ceiling
FoundFits (found.More m next) = next < 2 ^ flag_ceiling

-- the numbers of a guard are within their ceilings
pub record GuardFits (x : counted.Guard) : Type 0 where
  pub flags : x.flags ≤ flag_ceiling
  pub count : x.count ≤ connective_ceiling
  pub root : x.root ≤ literal_ceiling

-- a code stands within the longest text, and is no longer than a code may be
abbrev pub StretchFits : Stretch → Type 0
StretchFits s = (s.start ≤ text_ceiling) × (s.len ≤ code_ceiling)

-- an answer fits by itself, and a refusal as a refusal
abbrev pub AnswerFits : {T : Type 0} → (T → Type 0) → Result T Refusal → Type 0
AnswerFits Fits (Ok x) = Fits x
AnswerFits Fits (Err f) = RefusalFits f
