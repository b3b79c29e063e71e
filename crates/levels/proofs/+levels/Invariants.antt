-- The levels meet their contracts.
-- The needs of `below`.
-- The needs of `both`.
-- The needs of `bracket`.
-- The measures of the levels, what each may assume of the others, and what its loop keeps.
-- The needs of `either`.
-- The needs of `implies`.
-- The needs of `left_chain`.
-- The needs of `operand`.
-- The needs of `plain`.
-- The needs of `same`.
use Rattle.notation.specs.clauses.Cut.{sign_of}
use Rattle.notation.specs.Tokens as tokens
use lib.ListN.{length}
use Rattle.levels.proofs.Turning.{On}
use Rattle.levels.proofs.Nested.{Banged}
use Rattle.levels.proofs.Waiting.{Up, Down}
use Prim.Native.Nat.{◌+◌, ◌-◌, ◌*◌}
use Rattle.levels.proofs.+levels.Given as goal

abbrev pub decreases-below : goal.decreases-below
decreases-below l = 8 * (length l.text.now - l.at.now.token.start) + 7

abbrev pub decreases-both : goal.decreases-both
decreases-both l = 8 * (length l.text.now - l.at.now.token.start) + 3

abbrev pub decreases-bracket : goal.decreases-bracket
decreases-bracket l = 8 * (length l.text.now - l.at.now.token.start) + 0

abbrev pub decreases-either : goal.decreases-either
decreases-either l = 8 * (length l.text.now - l.at.now.token.start) + 4

abbrev pub decreases-implies : goal.decreases-implies
decreases-implies l = 8 * (length l.text.now - l.at.now.token.start) + 5

abbrev pub decreases-left_chain : goal.decreases-left_chain
decreases-left_chain l = 8 * (length l.text.now - l.at.now.token.start) + 0

abbrev pub decreases-operand : goal.decreases-operand
decreases-operand l = 8 * (length l.text.now - l.at.now.token.start) + 2

abbrev pub decreases-plain : goal.decreases-plain
decreases-plain l = 8 * (length l.text.now - l.at.now.token.start) + 1

abbrev pub decreases-same : goal.decreases-same
decreases-same l = 8 * (length l.text.now - l.at.now.token.start) + 6

abbrev pub invariant-implies-loop-at : goal.invariant-implies-loop-at
invariant-implies-loop-at l = Up tokens.implies l.brackets l.text l.base l.initial.last l.initial.at
    l.initial.codes
    l.initial.out l.initial.wait l.last l.at l.codes l.out l.wait

abbrev pub decreases-implies-loop-at : goal.decreases-implies-loop-at
decreases-implies-loop-at l = length l.text - l.at.token.start

abbrev pub invariant-implies-loop-wait : goal.invariant-implies-loop-wait
invariant-implies-loop-wait l = Down tokens.implies l.brackets l.text l.base l.initial.last l.initial.at l.codes l.initial.out l.initial.wait
    l.last l.at l.out l.wait

abbrev pub decreases-implies-loop-wait : goal.decreases-implies-loop-wait
decreases-implies-loop-wait l = l.wait.count

abbrev pub invariant-left_chain-loop-sign : goal.invariant-left_chain-loop-sign
invariant-left_chain-loop-sign l = On
    (sign_of l.sign) l.brackets l.text l.initial.left l.initial.at l.initial.codes l.initial.out l.initial.wait l.left l.at l.codes l.out l.wait

abbrev pub decreases-left_chain-loop-sign : goal.decreases-left_chain-loop-sign
decreases-left_chain-loop-sign l = length l.text - l.at.token.start

abbrev pub invariant-operand-loop-bang : goal.invariant-operand-loop-bang
invariant-operand-loop-bang l = Banged l.text l.initial.at l.at l.odd l.bang

abbrev pub decreases-operand-loop-bang : goal.decreases-operand-loop-bang
decreases-operand-loop-bang l = length l.text - l.at.token.start
