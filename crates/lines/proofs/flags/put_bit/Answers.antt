-- `lines::flags::put_bit` meets its contract: one digit, by the value.
use mathlib.Core.Path.{◌≡◌, refl}
use mathlib.Core.List.{[], ◌∷◌}
use Rattle.ground.specs.Choice.{choose}
use Rattle.ground.specs.Bytes.{bytes}
use Rattle.lines.proofs.Putting.{puts-as}
use Rattle.lines.proofs.flags.put_bit.Goals as goal
use Rattle.lines.proofs.flags.put_bit.Goals.{then-value, else-value}

pub returns : goal.returns
unfolding bytes
returns c =
    let digit : c.if-value.digit ∷ [] ≡ bytes (choose c.args.value "1" "0") =
    elim c.if-value.branch [ then-value w ↦ rw (w.digit-is, w.if-value.true) | else-value w ↦ rw (w.digit-is, w.if-value.false) ] in
    puts-as digit refl c.put.ensures
