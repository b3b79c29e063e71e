-- `why::forced` meets its contract: a search with no room tells whether a state is true.
use mathlib.Core.Path.{refl}
use Rattle.why.proofs.Turns.{forced-says}
use Rattle.why.proofs.forced.Goals as goal

pub returns : goal.returns
returns c =
    let n = c.negated-turned.ensures in
    forced-says c.args.formula.now.flags c.args.keep c.args.state c.args.formula.now.triplets.now c.args.formula.now.count c.args.formula.now.root
    _ _ _ _ c.fix_some-left.ensures.fixed c.negated-turned.result n.triplets n.count n.root n.flags _ _ _ _ refl c.search-found.ensures c.is_none.ensures
