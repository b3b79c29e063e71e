-- Truth values that a test finds equal, and one that a choice has either way.
use mathlib.Core.Path.{◌≡◌, refl, sym}
use mathlib.Core.Bool.{Bool, true, false, beq}
use Rattle.ground.specs.Choice.{choose}

pub beq-eq : (a b : Bool) → beq a b ≡ true → a ≡ b
beq-eq true true e = refl
beq-eq true false e = sym e
beq-eq false true e = e
beq-eq false false e = refl

pub either_way : (b : Bool) → choose b true true ≡ true
either_way true = refl
either_way false = refl
