use native.Mathlib.Numerals.{add-one}
use Rattle.rows.proofs.Evaluating.{evaluated-more}
use Rattle.rows.proofs.evaluate.Goals as goal

pub loop-j-preserved : goal.loop-j-preserved
loop-j-preserved c =
    rw add-one (evaluated-more _ _ _ _ _ _ _ _ c.requires.n_le_flag_ceiling.0 c.requires.shape c.loop-j-test.true c.loop-j.invariant c.triplet_row.ensures)
