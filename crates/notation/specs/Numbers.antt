-- The number of each reason, which is its place in the table (`notation/proofs/Reasons.antt`).
use Rattle.std.specs.Prelude.{ℕ}
use Rattle.notation.specs.declared.refusal.Reason.{Reason}
use Rattle.notation.specs.declared.refusal.Reason.TheVariants as reason

-- the number of a reason in the outline's table
abbrev pub number_of : Reason → ℕ
number_of reason.LongText = 1
number_of reason.HighDepth = 2
number_of reason.StrayByte = 3
number_of reason.LongCode = 4
number_of reason.OutOfPlace = 5
number_of reason.ManyBrackets = 6
number_of reason.ManyFlags = 7
number_of reason.ManyConnectives = 8
number_of reason.NoState = 9
number_of reason.SmallRoom = 10
number_of reason.NoFlag = 11
number_of reason.MalformedLine = 12
number_of reason.WrongField = 13
number_of reason.WrongVariants = 14
number_of reason.WrongId = 15
number_of reason.NoGap = 16
