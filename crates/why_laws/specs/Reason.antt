-- What the reason of a gap is: flags of the gap that alone force one, none to spare.
use Rattle.std.specs.Prelude.{ℕ, ◌-◌, ◌^◌, ◌≤◌, ◌<◌, ◌≡◌, Bool, true, false, List, length}
use Rattle.ground.specs.Bits.{bit}
use Rattle.notation.specs.Walk.{Flag}
use Rattle.notation.specs.Guard.{Guard}
use Rattle.notation.specs.Reading.{guard, reading}
use Rattle.evaluate.specs.Evaluated.{evaluated}
use Rattle.std.specs.Prelude.{Ok}
use Rattle.why.specs.Kept.{Agrees, Forces, without}

-- the flags that a number m holds, of n: those whose bit is set, the first flag the highest
abbrev pub held_by : ℕ → ℕ → ℕ → Bool
held_by n m i = bit m (n - i)

-- in the state gap v is false; the flags that m holds force that, and none of them can be dropped
pub record Reason (n : ℕ) (v : ℕ → Bool) (gap m : ℕ) : Type 0 where
  pub state : gap < 2 ^ n
  pub false-here : v gap ≡ false
  pub small : m < 2 ^ n
  pub forces : Forces n v gap (held_by n m)
  pub needed : (j : ℕ) → 0 < j → j ≤ n → bit m (n - j) ≡ true → Forces n v gap (without (held_by n m) j) → ⊥

-- evaluate answers false in every state that has the gap's values at these flags
abbrev pub AllFalse : List ℕ → ℕ → ℕ → (ℕ → Bool) → Type 0
AllFalse text n gap kept = (s : ℕ) → s < 2 ^ n → Agrees n kept gap s → evaluated (reading text) s ≡ Ok false

-- what the reader of an answer may hold of the text, by what evaluate answers of it
pub record TextReason (text : List ℕ) (gap m : ℕ) : Type 0 where
  pub g : Guard
  pub codes : List Flag
  pub reads : reading text ≡ guard g codes
  pub state : gap < 2 ^ length codes
  pub false-here : evaluated (reading text) gap ≡ Ok false
  pub small : m < 2 ^ length codes
  pub forces : AllFalse text (length codes) gap (held_by (length codes) m)
  pub needed : (j : ℕ) → 0 < j → j ≤ length codes → bit m (length codes - j) ≡ true
      → AllFalse text (length codes) gap (without (held_by (length codes) m) j) → ⊥
