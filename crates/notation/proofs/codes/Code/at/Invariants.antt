-- `notation::codes::Code::at` meets its contract: each byte takes its place in the key.
use mathlib.Core.Path.{◌≡◌}
use lib.ListN.{drop}
use Rattle.notation.specs.clauses.Codes.{key_from}
use Rattle.notation.proofs.codes.Code.at.Given as goal

abbrev pub invariant-loop-byte : goal.invariant-loop-byte
invariant-loop-byte l = key_from l.key (drop l.byte-index l.byte-items) ≡ key_from 0 l.byte-items
