-- `writing::write_row` meets its contract: whatever is written of the words left is what the whole row asks.
use Prim.Native.Nat.{◌*◌}
use Rattle.gaps.specs.clauses.Rows.{since}
use Rattle.gaps.proofs.RowWriting.{Stretch, row_value}
use Rattle.truth.specs.clauses.Words.{word_bits}
use Rattle.gaps.proofs.writing.write_row.Given as goal

abbrev pub invariant-loop-w : goal.invariant-loop-w
invariant-loop-w l = Stretch (since l.place.start (row_value l.rows l.root l.n l.width l.place.base)) l.place.base
    (word_bits * l.words) l.place.from l.initial.out l.out (word_bits * l.w) l.m
