-- `writing::live_word` meets its contract: below 6 flags a computed table, from 6 on every bit.
use Rattle.gaps.proofs.Since.{live-few, live_all}
use Rattle.gaps.proofs.writing.live_word.Goals as goal

pub returns-then-n-lt-WORD_FLAGS : goal.returns-then-n-lt-WORD_FLAGS
returns-then-n-lt-WORD_FLAGS c =
    live-few _ c.if-n-lt-WORD_FLAGS.true

pub returns : goal.returns
returns c =
    live_all _ c.if-n-lt-WORD_FLAGS.false
