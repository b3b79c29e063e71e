-- `rows::flag_word` meets its contract: below 6 a computed table, from 6 on the word's own number.
use mathlib.Core.Path.{sym, ◌∙◌}
use Rattle.rows.proofs.Flags.{word_low, word-zeros, word_ones}
use Rattle.rows.proofs.flag_word.Goals as goal

pub returns-then-p-lt-WORD_FLAGS : goal.returns-then-p-lt-WORD_FLAGS
returns-then-p-lt-WORD_FLAGS c =
    word_low _ _ c.if-p-lt-WORD_FLAGS.true

pub returns-then-is_set : goal.returns-then-is_set
returns-then-is_set c =
    word_ones _ _ c.if-p-lt-WORD_FLAGS.false (sym c.is_set.ensures ∙ c.if-is_set.true)

pub returns-else-is_set : goal.returns-else-is_set
returns-else-is_set c =
    word-zeros _ _ c.if-p-lt-WORD_FLAGS.false (sym c.is_set.ensures ∙ c.if-is_set.false)
