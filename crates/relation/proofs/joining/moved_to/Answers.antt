-- `relation::joining::moved_to` meets its contract: its test is that of the definition.
use mathlib.Core.Path.{◌∙◌, sym}
use Rattle.relation.proofs.JoinLaws.{moved-goes, moved-stays}
use Rattle.relation.proofs.joining.moved_to.Goals as goal

pub returns-then-w-hi : goal.returns-then-w-hi
returns-then-w-hi c =
    c.flipped.ensures ∙ sym (moved-goes c.args.lo c.args.hi c.args.w c.if-w-hi.true)

pub returns : goal.returns
returns c =
    sym (moved-stays c.args.lo c.args.hi c.args.w c.if-w-hi.false)
