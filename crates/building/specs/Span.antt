-- A part of a file.
use Rattle.std.specs.Prelude.{ℕ}

-- where a text starts and ends
pub record Span : Type 0 where
  pub start : ℕ
  pub after : ℕ
