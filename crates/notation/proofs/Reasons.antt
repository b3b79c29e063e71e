-- A reason's number is its place in the table, so that two reasons with one number are the same.
use Prim.Native.Nat.{ℕ, ◌-◌}
use mathlib.Core.Path.{◌≡◌, ◌∙◌, refl, sym, ap}
use lib.ListN.{get_or}
use Rattle.notation.specs.declared.refusal.Reason.{Reason}
use Rattle.notation.specs.declared.refusal.Reason.TheVariants.{LongText, HighDepth, StrayByte, LongCode, OutOfPlace, ManyBrackets, ManyFlags, ManyConnectives}
use Rattle.notation.specs.declared.refusal.Reason.TheVariants.{NoState, SmallRoom, NoFlag, MalformedLine, WrongField, WrongVariants, WrongId, NoGap}
use Rattle.notation.specs.Refusals.{reasons}
use Rattle.notation.specs.Numbers.{number_of}

-- each stands in the table at its number, counted from 1
pub reason-at : (r : Reason) → get_or reasons (number_of r - 1) LongText ≡ r
unfolding reasons
reason-at LongText = refl
reason-at HighDepth = refl
reason-at StrayByte = refl
reason-at LongCode = refl
reason-at OutOfPlace = refl
reason-at ManyBrackets = refl
reason-at ManyFlags = refl
reason-at ManyConnectives = refl
reason-at NoState = refl
reason-at SmallRoom = refl
reason-at NoFlag = refl
reason-at MalformedLine = refl
reason-at WrongField = refl
reason-at WrongVariants = refl
reason-at WrongId = refl
reason-at NoGap = refl

pub number-apart : (r s : Reason) → number_of r ≡ number_of s → r ≡ s
number-apart r s e = sym (reason-at r) ∙ ap (λ (n : ℕ). get_or reasons (n - 1) LongText) e ∙ reason-at s
