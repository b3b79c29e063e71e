-- `notation::tokens::run_end` meets its contract: each space passed leaves the tokens as they are.
use mathlib.Core.Path.{◌≡◌}
use Rattle.notation.specs.Tokens.{tokens_at}
use Rattle.notation.proofs.tokens.run_end.Given as goal

abbrev pub invariant-loop-at : goal.invariant-loop-at
invariant-loop-at l = tokens_at l.text l.from ≡ tokens_at l.text l.at
