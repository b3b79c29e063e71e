-- `importer::trestulan_read` meets its contract: the numbers of a guard are within their ceilings, so they are packed as they are.
use lib.ListN.{length}
use Rattle.importer.proofs.Fitting.{read_fits}
use Rattle.importer.proofs.trestulan_read.Goals as goal

pub packed-requires : goal.packed-requires
packed-requires c =
    read_fits c.args.text.now (length c.args.room.now) c.read-parsed.result c.read-parsed.ensures.answer
