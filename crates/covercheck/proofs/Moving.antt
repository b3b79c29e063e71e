-- What a read or a write moved lies within what was lent to it, and an input that ended leaves room.
use Prim.Native.Nat.{ℕ, ◌+◌, ◌-◌, ◌≤◌, ◌<◌}
use native.Mathlib.Omega.{arith}
use mathlib.Core.Path.{◌≡◌, subst}
use mathlib.Core.List.{List}
use lib.ListN.{length, take, drop, length-take, length-drop}
use Rattle.covercheck.specs.clauses.Calls.{MovedSays, InputSays}
use Rattle.std.specs.Prelude.{Option, Some, Result, Ok}
use Rattle.covercheck.specs.declared.calls.Told.{Told}

pub moved-within : (most n : ℕ) (r : Result ℕ Told) → r ≡ Ok n → MovedSays most r → n ≤ most
moved-within most n r e h = subst (MovedSays most) e h

-- what was moved of the part of a slice from k on ends within the slice
pub moved_on : (all : List ℕ) (k n : ℕ) (r : Result ℕ Told) → r ≡ Ok n → MovedSays (length (take (length all - k) (drop k all))) r → k ≤ length all
    → k + n ≤ length all
moved_on all k n r e h l =
    omega (arith, moved-within _ n r e h, length-take (length all - k) (drop k all), length-drop k all)

-- an input that ended left room
pub ended-within : (room n : ℕ) (r : Result (Option ℕ) Told) → r ≡ Ok (Some n) → InputSays room r → n < room
ended-within room n r e h = subst (InputSays room) e h
