-- `writing::write_from` meets its contract: the start lies before the word, behind it or in it.
use native.Mathlib.Omega.{arith}
use Rattle.gaps.proofs.Written.{writes-none}
use Rattle.gaps.proofs.Words.{marked}
use Rattle.gaps.proofs.Since.{since-whole, since_none, since-cut}
use Rattle.truth.specs.clauses.Words.{word_bits}
use Rattle.gaps.proofs.writing.write_from.Goals as goal

pub returns-then-start-base : goal.returns-then-start-base
returns-then-start-base c =
    rw (since-whole c.args.place.start (marked c.args.word c.args.place.base) c.args.place.base word_bits c.if-start-base.true) c.write_word.ensures

pub returns-then-k-ge-WORD_BITS : goal.returns-then-k-ge-WORD_BITS
returns-then-k-ge-WORD_BITS c =
    rw (since_none c.args.place.start (marked c.args.word c.args.place.base) c.args.place.base word_bits (omega arith)) (writes-none _ _ c.requires.0)

pub returns : goal.returns
returns c =
    rw (since-cut c.args.place.start c.args.word c.args.place.base c.ranges.word.fits c.if-start-base.false c.if-k-ge-WORD_BITS.false) c.write_word-2.ensures
