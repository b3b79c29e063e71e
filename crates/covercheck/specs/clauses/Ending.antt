-- How many lines of an input are answered.
use Rattle.std.specs.Prelude.{ℕ, ◌<◌, ◌≡◌, List, length, Result, Ok, Err}
use Rattle.lines.specs.Lines.{lines}
use Rattle.covercheck.specs.declared.Lost.{Lost}

-- all lines of the input are answered; or an answer was lost, and those before it are answered
abbrev pub EndingSays : List ℕ → Result ℕ Lost → Type 0
EndingSays input (Ok n) = n ≡ length (lines input)
EndingSays input (Err e) = e.answered < length (lines input)
