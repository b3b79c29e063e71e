use Prim.Native.Nat.{◌*◌}
use native.Mathlib.Omega.{arith}
use mathlib.Core.Path.{◌≡◌, ap, ◌∙◌}
use mathlib.Core.List.{map}
use lib.ListN.{drop}
use lib.Seq.{paste}
use Rattle.building.specs.clauses.Moved.{moved}
use Rattle.building.proofs.Laying.{number-again, each-small, copied}
use Rattle.building.proofs.copy_many.Goals as goal

pub moved-number-requires : goal.moved-number-requires
moved-number-requires c = (
  each-small c.args.pool.now c.args.out.now c.args.off c.args.count c.args.before c.loop-i.i c.requires (omega arith),
  omega (arith, c.requires.fits),
)

pub loop-i-preserved : goal.loop-i-preserved
loop-i-preserved c =
    number-again c.args.pool.now c.args.out.now c.loop-i.out c.args.off c.args.before c.loop-i.i _
    c.loop-i.invariant c.moved-number.ensures (omega (arith, c.requires.stands, c.requires.table)) (omega (arith, c.requires.room, c.requires.fits))

pub returns : goal.returns
returns c =
    let e : c.loop-i.i ≡ 3 * c.args.count = omega arith in
    copied c.args.pool.now c.args.out.now c.loop-i.out c.args.off c.args.count c.args.before c.requires
    (c.loop-i.invariant ∙ ap (paste c.args.out.now (3 * c.args.before) (map (moved c.args.before) (drop (3 * c.args.off) c.args.pool.now))) e)
