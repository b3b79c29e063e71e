-- `importer::trestulan_list` meets its contract: a listing is within its ceilings, so it is packed as it is.
use lib.ListN.{length}
use Rattle.importer.proofs.Fitting.{list-fits}
use Rattle.importer.proofs.trestulan_list.Goals as goal

pub packed-requires : goal.packed-requires
packed-requires c =
    list-fits c.args.text.now c.args.start (length c.args.out.now) c.list-listing.result c.list-listing.ensures.answers
