use native.Mathlib.Numerals.{add-one}
use Rattle.fixing.proofs.Folds.{fixing-start, fixing-again}
use Rattle.fixing.proofs.fold.fold.Goals as goal

pub loop-j-init : goal.loop-j-init
loop-j-init c = record { folding = fixing-start _ _ _ _ _ c.requires.table }

pub loop-j-preserved : goal.loop-j-preserved
loop-j-preserved c =
    let t = c.args.formula.now.proper in record {
      folding = rw add-one (fixing-again _ _ _ _ _ _ _ _ _ _ _ c.requires.long.0 t.flags c.loop-j.invariant.folding
          (t.shape.ys _ c.loop-j-test.true) (t.shape.zs _ c.loop-j-test.true) (t.shape.kinds _ c.loop-j-test.true) c.fix_triplet-c.ensures);
    }
