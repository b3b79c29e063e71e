-- `importer::trestulan_name` meets its contract: a part of a text is within its ceilings, so it is packed as it is.
use Rattle.importer.proofs.Fitting.{name-fits}
use Rattle.importer.proofs.trestulan_name.Goals as goal

pub packed-requires : goal.packed-requires
packed-requires c =
    name-fits c.args.text.now c.args.i c.name-named.result c.name-named.ensures
