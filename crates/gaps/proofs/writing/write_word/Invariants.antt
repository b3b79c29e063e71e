-- `writing::write_word` meets its contract: whatever is written of the rest of the word is what the whole word asks.
use Prim.Native.Nat.{◌+◌, ◌-◌}
use Rattle.gaps.proofs.Words.{Rest}
use Rattle.truth.specs.clauses.Words.{word_bits}
use Rattle.gaps.proofs.writing.write_word.Given as goal

abbrev pub invariant-loop-rest : goal.invariant-loop-rest
invariant-loop-rest l = Rest l.word l.base l.from l.initial.out l.out l.rest l.at l.m

abbrev pub decreases-loop-rest : goal.decreases-loop-rest
decreases-loop-rest l = l.base + word_bits - l.at
