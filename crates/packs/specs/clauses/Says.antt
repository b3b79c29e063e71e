-- What the steps of the reader of a pack ask and answer, and what reading a pack does.
use Rattle.std.specs.Prelude.{ℕ, suc, ◌*◌, ◌≤◌, ◌<◌, ◌≡◌, List, length, get_or, take, Option, Some, None, Result, Ok, Err}
use Rattle.notation.specs.Ceilings.{flag_ceiling, connective_ceiling}
use Rattle.notation.specs.Refusals.{fault}
use Rattle.notation.specs.Walk.{Flag}
use Rattle.notation.specs.Guard.{Guard, connectives}
use Rattle.notation.specs.Triplets.{literal}
use Rattle.notation.specs.clauses.Codes.{flags_in, InText}
use Rattle.notation.specs.declared.codes.Code.{Code}
use Rattle.notation.specs.Reading as read
use Rattle.notation.specs.Reading.{Reading}
use Rattle.reading.specs.clauses.Parsing.{GuardRead}
use Rattle.notation.specs.declared.refusal.Reason.TheVariants.{WrongField, WrongVariants}
use Rattle.notation.specs.declared.refusal.Refusal.{Refusal}
use Rattle.reading.specs.Service.{Parsed}
use Rattle.fields.specs.clauses.Here.{FieldHere}
use Rattle.building.specs.declared.spans.GuardSpan.{GuardSpan}
use Rattle.building.specs.clauses.Held.{text_at}
use Rattle.questions.specs.Questions.{variant_ceiling}
use Rattle.questions.specs.clauses.Laying.{LineHeld}
use Rattle.packs.specs.Pack as pack
use Rattle.packs.specs.Pack.{PackReading, role_of, fields_say}
use Rattle.packs.specs.clauses.Taken.{guard_ceiling, nowhere, Rooms, Taken, KeepSays, Noted}
use Rattle.packs.specs.declared.due.Due.{Due}
use Rattle.packs.specs.declared.due.Due.TheVariants as due
use Rattle.packs.specs.declared.due.Role.{Role}
use Rattle.packs.specs.declared.steps.Progress.{Progress}
use Rattle.packs.specs.declared.read.Line as counted

-- one field further, the end of a line, or a refusal
abbrev pub Step : Type 0
Step = Result (Option Progress) Refusal

-- how many flags and variants a line has, or the refusal of its pack
abbrev pub Pack : Type 0
Pack = Result counted.Line Refusal

-- some line has been read up to here
pub record Going (file : List ℕ) (codes : List Code) (pool : List ℕ) (spans : List GuardSpan) (p : Progress) : Type 0 where
  pub line : pack.Line
  pub taken : Taken file codes pool spans p line

-- the line that has been read is all that the fields of the pack say
pub record Whole (file : List ℕ) (codes : List Code) (pool : List ℕ) (spans : List GuardSpan) (p : Progress) : Type 0 where
  pub line : pack.Line
  pub taken : Taken file codes pool spans p line
  pub due : p.due ≡ due.VariantOrEnd
  pub means : fields_say file ≡ pack.line line
  pub ends : p.at ≡ length file

-- a field of this role stands where the reader does, its body from s to e
pub record FieldAs (file : List ℕ) (p : Progress) (r : Role) (s e : ℕ) : Type 0 where
  pub tag : ℕ
  pub here : FieldHere file p.at tag s e
  pub role : role_of p.due tag ≡ r

-- what a step over a field asks
pub record StepAsks (file : List ℕ) (codes : List Code) (pool : List ℕ) (spans : List GuardSpan) (p : Progress) (r : Role) (s e : ℕ) : Type 0 where
  pub going : Going file codes pool spans p
  pub field : FieldAs file p r s e

-- what reading a guard of the pack asks
pub record GuardAsks (file : List ℕ) (s e flags total row : ℕ) (codes : List Code) (pool : List ℕ) (spans : List GuardSpan) : Type 0 where
  pub rooms : Rooms codes pool spans
  pub starts : s ≤ e
  pub ends : e ≤ length file
  pub few : flags ≤ flag_ceiling
  pub in_text : InText (take e file) codes flags
  pub small : total ≤ guard_ceiling * connective_ceiling
  pub known : row ≤ variant_ceiling

-- the step at the end of the pack
abbrev pub end_step : Due → ℕ → Step
end_step due.Id at = Err (fault WrongField at)
end_step due.RuleOrVariant at = Err (fault WrongVariants at)
end_step due.Variant at = Err (fault WrongVariants at)
end_step due.Text at = Err (fault WrongField at)
end_step due.VariantOrEnd at = Ok None

-- what a step from p answers, and what the lent tables then hold
abbrev pub StepSays : List ℕ → Progress → Step → List Code → List ℕ → List GuardSpan → Type 0
StepSays file p (Ok (Some q)) codes pool spans = Going file codes pool spans q × (p.at < q.at)
StepSays file p (Ok None) codes pool spans = Whole file codes pool spans p
StepSays file p (Err f) codes pool spans = fields_say file ≡ pack.refusal f

-- a guard of the pack has been read: its flags, its triplets in the pool where they fit, and where they stand
pub record GuardTaken (file : List ℕ) (e row total : ℕ) (g : Guard) (u : List Flag) (r : Parsed) (pool : List ℕ) (spans : List GuardSpan) (codes' : List Code)
    (pool' : List ℕ) (spans' : List GuardSpan) : Type
    0 where
  pub out : List ℕ
  pub found : GuardRead (take e file) g u r codes' out
  pub kept : KeepSays out (connectives g) total pool pool'
  pub noted : Noted row total (connectives g) (literal 0 g) spans spans'

-- what reading a guard of the pack answers, and what the lent tables then hold
abbrev pub GuardTakenSays : Reading → List ℕ → ℕ → ℕ → ℕ → Parsed → List ℕ → List GuardSpan → List Code → List ℕ → List GuardSpan
    → Type 0
GuardTakenSays (read.refusal k p) file e row total r pool spans codes' pool' spans' = r ≡ Err (fault k p)
GuardTakenSays (read.guard g u) file e row total r pool spans codes' pool' spans' = GuardTaken file e row total g u r pool spans codes' pool'
    spans'

-- the line of a pack in the lent tables: its flags, its guards in the pool, and where its texts stand
pub record LineRead (file : List ℕ) (l : pack.Line) (r : Pack) (codes : List Code) (pool : List ℕ) (spans : List GuardSpan) : Type 0 where
  pub answer : r ≡ Ok (record { flags = length l.flags; variants = length l.variants })
  pub rooms : Rooms codes pool spans
  pub flags : flags_in file codes (length l.flags) ≡ l.flags
  pub in_text : InText file codes (length l.flags)
  pub held : LineHeld (length l.flags) l.rule l.variants spans pool
  pub matched : length l.texts ≡ length l.variants
  pub texts : (k : ℕ) → k < length l.texts → text_at spans (suc k) ≡ get_or l.texts k nowhere

-- what reading a pack answers, and what the lent tables then hold
abbrev pub PackSays : List ℕ → PackReading → Pack → List Code → List ℕ → List GuardSpan → Type 0
PackSays file (pack.refusal f) r codes pool spans = r ≡ Err f
PackSays file (pack.line l) r codes pool spans = LineRead file l r codes pool spans
