-- What a read or a write of the operating system may answer.
use Rattle.std.specs.Prelude.{ℕ, ◌≤◌, ◌<◌, Option, Some, None, Result, Ok, Err}
use Rattle.covercheck.specs.declared.calls.Told.{Told}

-- no more bytes are moved than were lent
abbrev pub MovedSays : ℕ → Result ℕ Told → Type 0
MovedSays most (Ok n) = n ≤ most
MovedSays most (Err e) = Unit {0}

-- an input that ended left room in the slice that it was read into
abbrev pub InputSays : ℕ → Result (Option ℕ) Told → Type 0
InputSays room (Ok (Some n)) = n < room
InputSays room (Ok None) = Unit {0}
InputSays room (Err e) = Unit {0}
