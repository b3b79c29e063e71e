-- The number of each reason is one of the places of the table of reasons, counted from 1.
use Prim.Native.Nat.{ℕ, ◌≤◌, ◌<◌}
use native.Mathlib.Omega.{arith}
use lib.ListN.{length}
use Rattle.notation.specs.declared.refusal.Reason.{Reason}
use Rattle.notation.specs.declared.refusal.Reason.TheVariants.{LongText, HighDepth, StrayByte, LongCode, OutOfPlace, ManyBrackets, ManyFlags, ManyConnectives}
use Rattle.notation.specs.declared.refusal.Reason.TheVariants.{NoState, SmallRoom, NoFlag, MalformedLine, WrongField, WrongVariants, WrongId, NoGap}
use Rattle.notation.specs.Refusals.{reasons}
use Rattle.notation.specs.Numbers.{number_of}

pub number-within : (r : Reason) → (0 < number_of r) × (number_of r ≤ length reasons)
unfolding reasons
number-within LongText = (omega arith, omega arith)
number-within HighDepth = (omega arith, omega arith)
number-within StrayByte = (omega arith, omega arith)
number-within LongCode = (omega arith, omega arith)
number-within OutOfPlace = (omega arith, omega arith)
number-within ManyBrackets = (omega arith, omega arith)
number-within ManyFlags = (omega arith, omega arith)
number-within ManyConnectives = (omega arith, omega arith)
number-within NoState = (omega arith, omega arith)
number-within SmallRoom = (omega arith, omega arith)
number-within NoFlag = (omega arith, omega arith)
number-within MalformedLine = (omega arith, omega arith)
number-within WrongField = (omega arith, omega arith)
number-within WrongVariants = (omega arith, omega arith)
number-within WrongId = (omega arith, omega arith)
number-within NoGap = (omega arith, omega arith)
