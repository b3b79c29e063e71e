-- Fields of a one-byte tag, a two-byte length, high byte first, and a body of that many bytes.
use Rattle.std.specs.Prelude.{ℕ, zero, suc, ◌+◌, ◌*◌, true, false, List, [], ◌∷◌, length, get_or, drop, leb, ltb}
use Rattle.ground.specs.Choice.{choose}
use Rattle.fields.specs.declared.Field.{Field}
use Rattle.fields.specs.declared.Field.TheVariants.{Whole, Cut, End}

-- bytes before a body: the tag and the length
abbrev pub header : ℕ
header = 3

-- the length that the two bytes after a tag say
abbrev pub said : List ℕ → ℕ
said bytes = 256 * get_or bytes 0 0 + get_or bytes 1 0

-- the length that the field at a place says
abbrev pub length_at : List ℕ → ℕ → ℕ
length_at file at = 256 * get_or file (at + 1) 0 + get_or file (at + 2) 0

-- at the end nothing; a header and a body that lie in the file: the field; else one that is cut short
unfoldable pub field_at : List ℕ → ℕ → Field
field_at file at =
    choose (ltb at (length file))
    (choose (leb (at + header + length_at file at) (length file))
    (Whole (get_or file at 0) (at + header) (at + header + length_at file at))
    Cut)
    End

-- the fields of a file from the left: each with its place, its tag and the place where it ends; then the end of the file, or a field that is cut short
pub data Pieces : Type 0 where
  end : ℕ → Pieces
  short : ℕ → Pieces
  field : ℕ → ℕ → ℕ → Pieces → Pieces

-- the fields of bytes that start at place p, of which the first k belong to a field already cut
unfoldable pub pieces_from : ℕ → ℕ → List ℕ → Pieces
pieces_from p k [] = end p
pieces_from p zero (t ∷ bs) =
    elim (leb (2 + said bs) (length bs)) [ true ↦ field p t (p + header + said bs) (pieces_from (suc p) (2 + said bs) bs) | false ↦ short p ]
pieces_from p (suc k) (b ∷ bs) = pieces_from (suc p) k bs

-- the fields of a file from a place on
unfoldable pub pieces_at : List ℕ → ℕ → Pieces
pieces_at file p = pieces_from p 0 (drop p file)
