-- `importer::trestulan_evaluate` meets its contract: an evaluation is within its ceilings, so it is packed as it is.
use Rattle.importer.proofs.Fitting.{evaluate-fits}
use Rattle.importer.proofs.trestulan_evaluate.Goals as goal

pub packed-requires : goal.packed-requires
packed-requires c =
    evaluate-fits c.args.text.now c.args.state c.evaluate-evaluation.result c.evaluate-evaluation.ensures
