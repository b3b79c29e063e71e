-- No second output line, nor a second room afterwards, nor a second output for a whole input, satisfies its statement.
use Prim.Native.Nat.{ℕ, suc}
use mathlib.Core.Path.{◌≡◌, sym, ap, ap₂, ◌∙◌}
use mathlib.Core.Bool.{true, false}
use mathlib.Core.Logic.{⊎_elim}
use mathlib.Core.List.{List, [], ◌∷◌, ◌++◌}
use lib.ListN.{length, drop}
use lib.Dec.{leb}
use Rattle.ground.proofs.Cases.{either}
use Rattle.std.specs.Prelude.{Option, Some, None}
use Rattle.guard_check.specs.Check.{Checking}
use Rattle.guard_check.proofs.Unique.{check-unique}
use Rattle.lines.specs.Question.{question, guard_of, QuestionSays}
use Rattle.lines.specs.Printed.{printed}
use Rattle.lines.specs.Answer.{AnswerLine, Answers}
use Rattle.lines.specs.Lines.{lines}
use Rattle.lines.specs.Output.{input_ceiling, AnswerLines, Output}
use Rattle.lines.specs.declared.question.Question.{Question}

question-unique : (line : List ℕ) (q : Option Question) (v w : Checking) → QuestionSays line q v → QuestionSays line q w → v ≡ w
question-unique line None v w a b = a ∙ sym b
question-unique line (Some q) v w a b = check-unique (drop q.start line) q.depth v w a b

pub answer-line-unique : (number : ℕ) (line bytes other : List ℕ) → AnswerLine number line bytes → AnswerLine number line other → bytes ≡ other
answer-line-unique number line bytes other a b =
    a.text ∙ ap (printed number (guard_of line)) (question-unique line (question line) a.verdict b.verdict a.says b.says) ∙ sym b.text

pub answers-unique : (number : ℕ) (line before after other : List ℕ) (r s : ℕ) → Answers number line before after r → Answers number line before
    other s → (r ≡ s) × (after ≡ other)
answers-unique number line before after other r s a b =
    let output : a.output ≡ b.output = answer-line-unique number line a.output b.output a.answer b.answer in
    let count : r ≡ s = a.count ∙ ap (λ (u : List ℕ). length u) output ∙ sym b.count in
    (count, a.holds ∙ ap (λ (u : List ℕ). u ++ drop r before) output ∙ ap (λ (k : ℕ). b.output ++ drop k before) count ∙ sym b.holds)

answer-lines-unique : (number : ℕ) (ls : List (List ℕ)) (a b : List ℕ) → AnswerLines number ls a → AnswerLines number ls b → a ≡ b
answer-lines-unique number [] a b p q = p ∙ sym q
answer-lines-unique number (l ∷ ls) a b p q =
    p.4
    ∙ ap₂ (λ (x y : List ℕ). x ++ y) (answer-line-unique number l p.0 q.0 p.2 q.2)
    (answer-lines-unique (suc number) ls p.1 q.1 p.3 q.3)
    ∙ sym q.4

-- an input has one output
pub output-unique : (input a b : List ℕ) → Output input a → Output input b → a ≡ b
output-unique input a b p q =
    ⊎_elim
    (λ (h : leb (length input) input_ceiling ≡ true). answer-lines-unique 1 (lines input) a b (rw h at p) (rw h at q))
    (λ (h : leb (length input) input_ceiling ≡ false). (rw h at p) ∙ sym (rw h at q))
    (either (leb (length input) input_ceiling))
