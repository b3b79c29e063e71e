-- `saturation::saturate` meets its contract, in a cycle of calls that ends because the depth falls: between the start and every
-- stable relation above it, a split at a time, until a pass over the flags changes nothing.
use Prim.Native.Nat.{◌+◌, ◌*◌, ◌-◌}
use mathlib.Core.Path.{◌≡◌}
use Rattle.saturation.proofs.Saturating.{Sweeping, Saturating}
use Rattle.saturation.proofs.saturate.Saturator.+saturate_split_sweep.Given as goal

abbrev pub decreases-saturate : goal.decreases-saturate
decreases-saturate l = 3 * l.depth

abbrev pub decreases-split : goal.decreases-split
decreases-split l = 3 * l.below + 1

abbrev pub decreases-sweep : goal.decreases-sweep
decreases-sweep l = 3 * l.below + 2

abbrev pub invariant-saturate-loop-left : goal.invariant-saturate-loop-left
invariant-saturate-loop-left l =
    record {
      size : l.relation.size ≡ l.initial.relation.size;
      saturating : Saturating l.self.triplets.now l.self.count l.self.flags (l.depth - 1) l.initial.relation.of l.relation.of l.left l.was;
    }

abbrev pub decreases-saturate-loop-left : goal.decreases-saturate-loop-left
decreases-saturate-loop-left l = l.was

abbrev pub invariant-sweep-loop-flag : goal.invariant-sweep-loop-flag
invariant-sweep-loop-flag l =
    record {
      size : l.relation.size ≡ l.initial.relation.size;
      sweeping : Sweeping l.self.triplets.now l.self.count l.self.flags l.below l.flag l.initial.relation.of l.relation.of;
    }
