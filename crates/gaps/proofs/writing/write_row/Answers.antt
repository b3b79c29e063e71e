use Prim.Native.Nat.{ℕ, suc, ◌+◌, ◌*◌, ◌/◌, ◌^◌, ◌≤◌, ◌<◌}
use mathlib.Core.Path.{◌≡◌, ap}
use mathlib.Core.List.{List}
use native.Mathlib.Omega.{arith}
use lib.ListN.{length}
use Rattle.rows.proofs.Gates.{rows_apart}
use Rattle.gaps.specs.clauses.Rows.{words_of}
use Rattle.gaps.proofs.RowWriting.{stretch-more, stretch-stop, stretch-done, row_word, row-whole, words-within}
use Rattle.truth.specs.clauses.Words.{word_bits}
use Rattle.gaps.proofs.writing.write_row.Goals as goal

next : (w : ℕ) → word_bits * (w + 1) ≡ word_bits * w + word_bits
next w = omega arith

-- a word that holds states lies in the row, and its states below the limit
in-place : (rows : List ℕ) (root n width base words w : ℕ) → 2 ^ n ≤ word_bits * width → suc (root / 2) * width ≤ length rows
    → base + word_bits * width + word_bits ≤ 2 ^ 32 → words ≡ words_of n → w < words
    → (root / 2 * width + w < length rows) × (base + word_bits * w + 2 * word_bits ≤ 2 ^ 32)
in-place rows root n width base words w many long small e h =
    let few : words_of n ≤ width = words-within rows root n width base 0 many in
    let apart : root / 2 * width + width ≤ suc (root / 2) * width = rows_apart (root / 2) (suc (root / 2)) width (omega arith) in
    (omega (arith, long, e, h, few, apart), omega (arith, small, e, h, few))

pub overflow_add-gap : goal.overflow_add-gap
overflow_add-gap c =
    let h = in-place _ c.args.root _ _ c.args.place.base _ _ c.requires.n_lt_word_bits.1 c.requires.root_bound.1 c.requires.n_lt_word_bits.2
    c.words_of-words.ensures c.loop-w-test.true in record { fits = omega (arith, h.0) }

pub offset_bounds-rows-x : goal.offset_bounds-rows-x
offset_bounds-rows-x c =
    let h = in-place _ c.args.root _ _ c.args.place.base _ _ c.requires.n_lt_word_bits.1 c.requires.root_bound.1 c.requires.n_lt_word_bits.2
    c.words_of-words.ensures c.loop-w-test.true in record { fits = omega (arith, h.0) }

pub bounds-rows-x : goal.bounds-rows-x
bounds-rows-x c =
    let h = in-place _ c.args.root _ _ c.args.place.base _ _ c.requires.n_lt_word_bits.1 c.requires.root_bound.1 c.requires.n_lt_word_bits.2
    c.words_of-words.ensures c.loop-w-test.true in h.0

pub overflow_mul-at : goal.overflow_mul-at
overflow_mul-at c =
    let h = in-place _ c.args.root _ _ c.args.place.base _ _ c.requires.n_lt_word_bits.1 c.requires.root_bound.1 c.requires.n_lt_word_bits.2
    c.words_of-words.ensures c.loop-w-test.true in record { fits = omega (arith, h.1) }

pub overflow_add-at : goal.overflow_add-at
overflow_add-at c =
    let h = in-place _ c.args.root _ _ c.args.place.base _ _ c.requires.n_lt_word_bits.1 c.requires.root_bound.1 c.requires.n_lt_word_bits.2
    c.words_of-words.ensures c.loop-w-test.true in record { fits = omega (arith, h.1) }

pub write_from-found-requires : goal.write_from-found-requires
write_from-found-requires c =
    let h = in-place _ c.args.root _ _ c.args.place.base _ _ c.requires.n_lt_word_bits.1 c.requires.root_bound.1 c.requires.n_lt_word_bits.2
    c.words_of-words.ensures c.loop-w-test.true in (c.loop-w.invariant.room, h.1)

pub returns-in_default : goal.returns-in_default
returns-in_default c =
    rw (← row-whole c.args.rows.now c.args.root c.args.n c.args.width c.args.place.base c.args.place.start)
    (rw (← ap (λ u. word_bits * u) c.words_of-words.ensures) (stretch-stop _ _ _ _ _ _ _ _ c.loop-w.invariant word_bits _ _ _ _ c.in_default.is
    (omega arith) (rw (← row_word c.args.rows.now c.args.root c.args.n c.args.width c.args.place.base c.args.place.start c.loop-w.w
    c.turn-t.result c.live_word-live.result c.turn-t.ensures c.live_word-live.ensures (omega arith)) c.write_from-found.ensures)))

pub loop-w-preserved : goal.loop-w-preserved
loop-w-preserved c =
    rw (next c.loop-w.w) (stretch-more _ _ _ _ _ _ _ _ c.loop-w.invariant word_bits _ _ _ c.in-Done.is (omega arith) c.write_from-found.auto.out
    (rw (← row_word c.args.rows.now c.args.root c.args.n c.args.width c.args.place.base c.args.place.start c.loop-w.w c.turn-t.result
    c.live_word-live.result c.turn-t.ensures c.live_word-live.ensures (omega arith)) c.write_from-found.ensures))

pub returns : goal.returns
returns c =
    rw (← row-whole c.args.rows.now c.args.root c.args.n c.args.width c.args.place.base c.args.place.start)
    (rw (← ap (λ u. word_bits * u) c.words_of-words.ensures) (stretch-done _ _ _ _ _ _ _ _ c.loop-w.invariant (omega arith)))
