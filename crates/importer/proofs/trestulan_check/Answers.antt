-- `importer::trestulan_check` meets its contract: a verdict on a text is within its ceilings, so it is packed as it is.
use Rattle.importer.proofs.Fitting.{check-fits}
use Rattle.importer.proofs.trestulan_check.Goals as goal

pub packed-requires : goal.packed-requires
packed-requires c =
    check-fits c.args.text.now c.args.depth c.check-verdict.result c.check-verdict.ensures
