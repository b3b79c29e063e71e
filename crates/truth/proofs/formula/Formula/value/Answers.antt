use mathlib.Core.Path.{◌≡◌, ◌∙◌}
use native.Mathlib.Omega.{arith}
use Rattle.truth.proofs.Valuing.{valued_set, root-set}
use Rattle.truth.proofs.formula.Formula.value.Goals as goal

pub loop-j-preserved : goal.loop-j-preserved
loop-j-preserved c =
    valued_set c.args.self.now.flags c.args.state c.args.self.now.count c.args.self.now.root c.args.self.now.triplets.now c.args.self.now.proper
    c.loop-j.j _ _ _ c.loop-j-test.true c.loop-j.invariant (omega arith) c.loop-j-test.array_long c.triplet_value.ensures

pub returns : goal.returns
returns c =
    let e : c.loop-j.j ≡ c.args.self.now.count = omega (arith, c.loop-j-test.false, c.loop-j.auto.j-end) in
    c.literal_value.ensures
    ∙ root-set c.args.self.now.flags c.args.state c.args.self.now.count c.args.self.now.root c.args.self.now.triplets.now c.args.self.now.proper _
    (rw e at c.loop-j.invariant)
