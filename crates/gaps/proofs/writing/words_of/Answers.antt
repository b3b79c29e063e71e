-- `writing::words_of` meets its contract: the test is the definition's.
use Prim.Native.Nat.{ℕ, ◌*◌, ◌-◌}
use mathlib.Core.Path.{◌≡◌, sym, ◌∙◌}
use native.Mathlib.Omega.{arith}
use lib.Pow.{shl_exact}
use Rattle.gaps.proofs.Since.{words-few, words-many}
use Rattle.rows.specs.clauses.Rows.{word_flags}
use Rattle.truth.specs.clauses.Words.{word_bits}
use Rattle.gaps.proofs.writing.words_of.Goals as goal

one-times : (a : ℕ) → 1 * a ≡ a
one-times a = omega arith

pub returns-then-n-lt-WORD_FLAGS : goal.returns-then-n-lt-WORD_FLAGS
returns-then-n-lt-WORD_FLAGS c =
    sym (words-few _ c.if-n-lt-WORD_FLAGS.true)

pub returns : goal.returns
returns c =
    shl_exact {a = 1} 1 (c.args.n - word_flags) word_bits (omega arith) (omega arith) ∙ one-times _ ∙ sym (words-many _ c.if-n-lt-WORD_FLAGS.false)
