-- What is printed for a line.
use Rattle.std.specs.Prelude.{ℕ, zero, suc, ◌+◌, ◌/◌, ◌%◌, Bool, List, [], ◌∷◌, ◌++◌, length, ltb, Ok, Err}
use Rattle.ground.specs.Choice.{choose}
use Rattle.notation.specs.Walk.{Flag}
use Rattle.notation.specs.Numbers.{number_of}
use Rattle.notation.specs.Reading.{Reading, refusal, guard, reading}
use Rattle.ground.specs.Bits.{bit}
use Rattle.ground.specs.Bytes.{bytes}
use Rattle.guard_check.specs.Check.{Checking}
use Rattle.saturation.specs.declared.verdict.Verdict.TheVariants.{Covered, Gap, Undecided}
use Rattle.lines.specs.Lines.{line_feed}

-- the byte of a digit
abbrev pub digit : ℕ → ℕ
digit n = 48 + n

-- at most k digits of a number, the last ones
unfoldable pub decimal_at : ℕ → ℕ → List ℕ
decimal_at zero n = []
decimal_at (suc k) n = choose (ltb n 10) (digit n ∷ []) (decimal_at k (n / 10) ++ (digit (n % 10) ∷ []))

-- a number in decimal digits, without a leading zero
unfoldable pub decimal : ℕ → List ℕ
decimal n = decimal_at (suc n) n

-- a space, the code, `=`, 0 or 1
unfoldable pub flag_value : List ℕ → Bool → List ℕ
flag_value code b = bytes " " ++ (code ++ (bytes "=" ++ bytes (choose b "1" "0")))

-- each flag with its value in flag order; the first flag is the highest bit of the state
unfoldable pub valued : List Flag → ℕ → List ℕ
valued [] state = []
valued (f ∷ u) state = flag_value f.name (bit state (length u)) ++ valued u state

-- the flags of a guard that is read
abbrev pub flags_of : Reading → List Flag
flags_of (refusal reason place) = []
flags_of (guard g u) = u

-- the answer to a question on a guard
unfoldable pub answered : List ℕ → Checking → List ℕ
answered text (Ok Covered) = bytes "covered"
answered text (Ok (Gap state)) = bytes "gap" ++ valued (flags_of (reading text)) state
answered text (Ok Undecided) = bytes "undecided"
answered text (Err f) = bytes "refused " ++ (decimal (number_of f.reason) ++ (bytes " " ++ decimal f.place))

-- the line number, a space, the answer, LF
unfoldable pub printed : ℕ → List ℕ → Checking → List ℕ
printed number text r = decimal number ++ (bytes " " ++ (answered text r ++ (line_feed ∷ [])))
