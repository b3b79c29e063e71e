-- What covercheck prints for an input: the whole of it.
use Rattle.std.specs.Prelude.{ℕ, suc, ◌≡◌, List, [], ◌∷◌, ◌++◌, length, leb}
use Rattle.ground.specs.Choice.{choose}
use Rattle.ground.specs.Bytes.{bytes}
use Rattle.lines.specs.Lines.{line_feed, lines}
use Rattle.lines.specs.Answer.{AnswerLine}

-- bytes of an input
abbrev pub input_ceiling : ℕ
input_ceiling = 65536

-- the output lines for lines of an input, one after the other; the first line has this number
abbrev pub AnswerLines : ℕ → List (List ℕ) → List ℕ → Type 0
AnswerLines number [] output = output ≡ []
AnswerLines number (l ∷ ls) output =
    (first : List ℕ) × (others : List ℕ) × AnswerLine number l first × AnswerLines (suc number) ls others × (output ≡ first ++ others)

-- the output for an input: over the ceiling one line alone, else the answers to its lines, numbered from 1
abbrev pub Output : List ℕ → List ℕ → Type 0
Output input output =
    choose (leb (length input) input_ceiling) (AnswerLines 1 (lines input) output) (output ≡ bytes "input too long" ++ (line_feed ∷ []))
