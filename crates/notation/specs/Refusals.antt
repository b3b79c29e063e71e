-- The reasons of refusals in the order of their numbers, and a refusal as definitions make it.
use Rattle.std.specs.Prelude.{ℕ, List, [], ◌∷◌}
use Rattle.notation.specs.declared.refusal.Reason.{Reason}
use Rattle.notation.specs.declared.refusal.Reason.TheVariants.{LongText, HighDepth, StrayByte, LongCode, OutOfPlace, ManyBrackets, ManyFlags}
use Rattle.notation.specs.declared.refusal.Reason.TheVariants.{ManyConnectives, NoState, SmallRoom, NoFlag, MalformedLine, WrongField}
use Rattle.notation.specs.declared.refusal.Reason.TheVariants.{WrongVariants, WrongId, NoGap}
use Rattle.notation.specs.declared.refusal.Refusal.{Refusal}

-- the outline's table: the first reason has the number 1, each further one the next number
unfoldable pub reasons : List Reason
reasons =
    LongText ∷ HighDepth ∷ StrayByte ∷ LongCode ∷ OutOfPlace ∷ ManyBrackets ∷ ManyFlags ∷ ManyConnectives ∷ NoState ∷ SmallRoom
    ∷ NoFlag ∷ MalformedLine ∷ WrongField ∷ WrongVariants ∷ WrongId ∷ NoGap ∷ []

-- the refusal for this reason at this place
abbrev pub fault : Reason → ℕ → Refusal
fault r p = record { reason = r; place = p }
