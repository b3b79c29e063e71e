use Prim.Native.Nat.{◌*◌}
use native.Mathlib.Omega.{arith}
use mathlib.Core.Path.{◌≡◌, ap, ◌∙◌}
use mathlib.Core.List.{map}
use lib.ListN.{drop}
use lib.Seq.{paste}
use Rattle.building.specs.clauses.Moved.{moved}
use Rattle.building.proofs.Laying.{again, copied}
use Rattle.building.proofs.copy_few.Goals as goal

pub loop-j-preserved : goal.loop-j-preserved
loop-j-preserved c =
    again c.args.pool.now c.args.out.now c.loop-j.out c.args.off c.args.before c.loop-j.j _ _
    c.loop-j.invariant c.moved-y.ensures c.moved-z.ensures
    (omega (arith, c.requires.stands, c.requires.table)) (omega (arith, c.requires.room, c.requires.fits)) (c.requires.kinds c.loop-j.j (omega arith))

pub returns : goal.returns
returns c =
    let e : 3 * c.loop-j.j ≡ 3 * c.args.count = omega arith in
    copied c.args.pool.now c.args.out.now c.loop-j.out c.args.off c.args.count c.args.before c.requires
    (c.loop-j.invariant ∙ ap (paste c.args.out.now (3 * c.args.before) (map (moved c.args.before) (drop (3 * c.args.off) c.args.pool.now))) e)
