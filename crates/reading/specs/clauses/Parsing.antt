-- What parse answers, and what the lent tables then hold.
use Rattle.std.specs.Prelude.{ℕ, ◌-◌, ◌*◌, ◌≤◌, ◌<◌, ◌≡◌, List, length, take, leb, ltb, Err}
use Rattle.notation.specs.Ceilings.{flag_ceiling, connective_ceiling}
use Rattle.ground.specs.Choice.{choose}
use Rattle.notation.specs.Walk.{Flag}
use Rattle.notation.specs.Guard.{Guard, connectives}
use Rattle.notation.specs.Triplets.{literal, triplets, numbers}
use Rattle.notation.specs.Reading.{Reading, refusal, guard}
use Rattle.notation.specs.clauses.Cut.{ends}
use Rattle.notation.specs.clauses.Codes.{codes_room, start_of, end_of, flags_in, InText}
use Rattle.notation.specs.declared.codes.Code.{Code}
use Rattle.notation.specs.declared.refusal.Reason.TheVariants.{OutOfPlace, NoFlag}
use Rattle.operands.specs.clauses.Steps.{Part}
use Rattle.reading.specs.Service.{Parsed, Named, guard_with, part_with}
use Rattle.notation.specs.Refusals.{fault}

-- the last number of the table of refusals
abbrev pub last_refusal : ℕ
last_refusal = 12

-- the guard of a text, in lent tables: its flags, and its triplets as numbers
pub record GuardRead (text : List ℕ) (g : Guard) (u : List Flag) (r : Parsed) (codes : List Code) (out : List ℕ) : Type 0 where
  pub answer : r ≡ guard_with (length u) (connectives g) (literal 0 g)
  pub flags : flags_in text codes (length u) ≡ u
  pub in_text : InText text codes (length u)
  pub written : take (3 * connectives g) out ≡ numbers (triplets 0 g)
  pub few : length u ≤ flag_ceiling
  pub short : connectives g ≤ connective_ceiling
  pub table : length codes ≡ codes_room
  pub room : length out ≡ 3 * connective_ceiling

-- what parse answers, and what the lent tables then hold
abbrev pub ParseSays : List ℕ → Reading → Parsed → List Code → List ℕ → Type 0
ParseSays text (refusal k p) r codes out = r ≡ Err (fault k p)
ParseSays text (guard g u) r codes out = GuardRead text g u r codes out

-- a guard that the text ends after
abbrev pub ended_as : Part → Parsed
ended_as p = choose (ends p.at.token.kind) (guard_with p.at.flags p.at.count p.literal) (Err (fault OutOfPlace p.at.token.start))

-- the first k codes of the table end no earlier than they start
pub record Spans (codes : List Code) (k : ℕ) : Type 0 where
  pub room : k ≤ length codes
  pub starts : (i : ℕ) → i < k → start_of codes i ≤ end_of codes i

-- the part that code i of the table is, i counted from 1
abbrev pub named_in : List Code → ℕ → ℕ → Named
named_in codes k i = choose (ltb 0 i) (choose (leb i k) (part_with (start_of codes (i - 1)) (end_of codes (i - 1) - start_of codes (i - 1)))
    (Err (fault NoFlag 0))) (Err (fault NoFlag 0))
