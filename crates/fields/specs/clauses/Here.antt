-- What the field at a place says of all fields from there on.
use Rattle.std.specs.Prelude.{ℕ, ◌+◌, ◌≤◌, ◌≡◌, List, length}
use Rattle.fields.specs.Fields.{header, end, short, field, pieces_at}
use Rattle.fields.specs.declared.Field.{Field}
use Rattle.fields.specs.declared.Field.TheVariants.{Whole, Cut, End}

-- a whole field stands here, and the others follow it
pub record FieldHere (file : List ℕ) (at tag start after : ℕ) : Type 0 where
  pub pieces : pieces_at file at ≡ field at tag after (pieces_at file after)
  pub starts : start ≡ at + header
  pub later : start ≤ after
  pub inside : after ≤ length file

-- the fields from a place on, by the field there
abbrev pub FieldSays : List ℕ → ℕ → Field → Type 0
FieldSays file at (Whole tag s e) = FieldHere file at tag s e
FieldSays file at Cut = pieces_at file at ≡ short at
FieldSays file at End = pieces_at file at ≡ end at
