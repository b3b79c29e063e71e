-- What list answers, and what the lent slice holds afterwards, for every text, every start and every slice.
use Rattle.std.specs.Prelude.{ℕ, ◌^◌, ◌<◌, ◌≡◌, List, [], ◌∷◌, ◌⊎◌, length, ltb, Result, Ok, Err}
use Rattle.ground.specs.Choice.{choose}
use Rattle.notation.specs.Reading.{Reading, refusal, guard, reading}
use Rattle.notation.specs.declared.refusal.Reason.TheVariants.{NoState}
use Rattle.notation.specs.declared.refusal.Refusal.{Refusal}
use Rattle.notation.specs.Refusals.{fault}
use Rattle.gaps.specs.declared.writing.Found.{Found}
use Rattle.gaps.specs.Gaps.{gaps_from}
use Rattle.gaps.specs.Writing.{found, placed}

-- what became of the gaps, or a refusal
abbrev pub Listing : Type 0
Listing = Result Found Refusal

-- a refusal of reading is answered; then a start that is no state is refused 9; else the gaps from the start on are written, as far as there is room
unfoldable pub listed : Reading → ℕ → ℕ → Listing
listed (refusal reason p) start room = Err (fault reason p)
listed (guard g codes) start room =
    choose (ltb start (2 ^ length codes)) (Ok (found (gaps_from (length codes) g start) room)) (Err (fault NoState 0))

-- the slice holds the gaps from the start on, as many as it has room for; a refusal leaves it alone
unfoldable pub filled : Reading → ℕ → List ℕ → List ℕ
filled (refusal reason p) start out = out
filled (guard g codes) start out = choose (ltb start (2 ^ length codes)) (placed (gaps_from (length codes) g start) out) out

-- list's statement
pub record Lists (text : List ℕ) (start : ℕ) (out : List ℕ) (answer : Listing) (after : List ℕ) : Type 0 where
  pub answers : answer ≡ listed (reading text) start (length out)
  pub holds : after ≡ filled (reading text) start out

-- s is one of the list
abbrev pub Among : ℕ → List ℕ → Type 0
Among s [] = ⊥
Among s (x ∷ l) = (s ≡ x) ⊎ Among s l

-- each number of the list is below all that follow it
abbrev pub Ascends : List ℕ → Type 0
Ascends [] = Unit {0}
Ascends (x ∷ l) = ((s : ℕ) → Among s l → x < s) × Ascends l
