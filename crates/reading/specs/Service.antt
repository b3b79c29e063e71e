-- What read and name answer, and what the room then holds.
use Rattle.std.specs.Prelude.{ℕ, zero, suc, ◌+◌, ◌*◌, ◌≡◌, List, [], ◌∷◌, ◌++◌, length, take, drop, leb, Result, Ok, Err}
use Rattle.ground.specs.Choice.{choose}
use Rattle.notation.specs.Walk.{Flag}
use Rattle.notation.specs.Guard.{connectives}
use Rattle.notation.specs.Triplets.{literal, triplets, numbers}
use Rattle.notation.specs.Reading.{Reading, refusal, guard, reading}
use Rattle.notation.specs.declared.refusal.Reason.TheVariants.{SmallRoom, NoFlag}
use Rattle.notation.specs.declared.refusal.Refusal.{Refusal}
use Rattle.notation.specs.Refusals.{fault}
use Rattle.reading.specs.declared.parse.Guard as counted
use Rattle.reading.specs.declared.name.Stretch.{Stretch}

-- the numbers of a guard, or the refusal of its text
abbrev pub Parsed : Type 0
Parsed = Result counted.Guard Refusal

-- the part of a text where a flag's code stands, or a refusal
abbrev pub Named : Type 0
Named = Result Stretch Refusal

-- a guard with n flags, c triplets and this root literal
abbrev pub guard_with : ℕ → ℕ → ℕ → Parsed
guard_with n c r = Ok (record { flags = n; count = c; root = r })

-- read needs three numbers a triplet: it answers the guard, or refusal 10 where the room is too small
unfoldable pub read_answer : Reading → ℕ → Parsed
read_answer (refusal k p) room = Err (fault k p)
read_answer (guard g u) room = choose (leb (3 * connectives g) room) (guard_with (length u) (connectives g) (literal 0 g)) (Err (fault SmallRoom 0))

-- the room afterwards: kind, y, z of each triplet from its start, the rest unchanged; a refusal changes nothing
unfoldable pub room_after : Reading → List ℕ → List ℕ
room_after (refusal k p) room = room
room_after (guard g u) room = choose (leb (3 * connectives g) (length room)) (numbers (triplets 0 g) ++ drop (3 * connectives g) room) room

-- read's statement: the answer r, and the room afterwards
pub record ReadSays (text room : List ℕ) (r : Parsed) (after : List ℕ) : Type 0 where
  pub answer : r ≡ read_answer (reading text) (length room)
  pub left : after ≡ room_after (reading text) room

-- the part with this first byte and length
abbrev pub part_with : ℕ → ℕ → Named
part_with s l = Ok (record { start = s; len = l })

-- the part of the text where flag i of the list first stands, i counted from 1; a number that no flag has is refused 11
unfoldable pub name_in : List Flag → ℕ → Named
name_in [] i = Err (fault NoFlag 0)
name_in (f ∷ u) zero = Err (fault NoFlag 0)
name_in (f ∷ u) (suc zero) = part_with f.place (length f.name)
name_in (f ∷ u) (suc (suc i)) = name_in u (suc i)

-- what name answers
unfoldable pub name_answer : Reading → ℕ → Named
name_answer (refusal k p) i = Err (fault k p)
name_answer (guard g u) i = name_in u i

-- the bytes of a part of the text; a refusal, whatever it says, hands back none
unfoldable pub part_of : {E : Type 0} → List ℕ → Result Stretch E → List ℕ
part_of text (Ok p) = choose (leb (p.start + p.len) (length text)) (take p.len (drop p.start text)) []
part_of text (Err f) = []
