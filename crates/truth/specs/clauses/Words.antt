-- A word, in which a state is kept.
use Rattle.std.specs.Prelude.{ℕ}

-- the bits of a word, of which each flag of a state takes one
abbrev pub word_bits : ℕ
word_bits = 64
