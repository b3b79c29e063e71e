-- `packs::read::read_pack` meets its contract: what the fields say from here on is what they say from the start.
use Prim.Native.Nat.{◌-◌}
use lib.ListN.{length}
use Rattle.packs.specs.clauses.Says.{Going}
use Rattle.packs.proofs.read.read_pack.Given as goal

abbrev pub invariant-loop-next : goal.invariant-loop-next
invariant-loop-next l = Going l.file l.codes l.pool l.spans l.p

abbrev pub decreases-loop-next : goal.decreases-loop-next
decreases-loop-next l = length l.file - l.p.at
