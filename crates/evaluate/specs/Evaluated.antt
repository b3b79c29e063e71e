-- What evaluate answers, for every text and every number.
use Rattle.std.specs.Prelude.{ℕ, ◌^◌, Bool, length, ltb, Result, Ok, Err}
use Rattle.ground.specs.Choice.{choose}
use Rattle.notation.specs.Reading.{Reading, refusal, guard}
use Rattle.truth.specs.Value.{value}
use Rattle.notation.specs.declared.refusal.Reason.TheVariants.{NoState}
use Rattle.notation.specs.declared.refusal.Refusal.{Refusal}
use Rattle.notation.specs.Refusals.{fault}

-- a value, or a refusal
abbrev pub Evaluation : Type 0
Evaluation = Result Bool Refusal

-- a refusal of reading is answered; then a number that is no state is refused 9; else the guard's value in the state
unfoldable pub evaluated : Reading → ℕ → Evaluation
evaluated (refusal reason p) state = Err (fault reason p)
evaluated (guard g codes) state =
    choose (ltb state (2 ^ length codes)) (Ok (value (length codes) state g)) (Err (fault NoState 0))
