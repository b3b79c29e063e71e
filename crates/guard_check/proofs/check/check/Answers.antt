-- `guard_check::check::check` meets its contract: the ceilings refuse first, then parse's refusal or the verdict on its tables is the verdict.
use native.Mathlib.Omega.{arith}
use Rattle.std.proofs.lemmas.Result.{err_from_is_err_and}
use Rattle.notation.specs.Reading.{reading}
use Rattle.reading.proofs.Serving.{guard-found, refusal-found}
use Rattle.read_truth.proofs.Begun.{read-triplets}
use Rattle.guard_check.proofs.Checking.{too_long, too-deep, from-tables, refused-too, tables-say}
use Rattle.guard_check.proofs.check.check.Goals as goal

pub returns-then-text-gt-TEXT : goal.returns-then-text-gt-TEXT
returns-then-text-gt-TEXT c =
    too_long c.args.text.now c.args.depth (omega (arith, c.if-text-gt-TEXT.true))

pub returns-then-depth-gt-DEPTH : goal.returns-then-depth-gt-DEPTH
returns-then-depth-gt-DEPTH c =
    too-deep c.args.text.now c.args.depth (omega (arith, c.if-text-gt-TEXT.false)) (omega (arith, c.if-depth-gt-DEPTH.true))

pub invariant_of-formula : goal.invariant_of-formula
invariant_of-formula c =
    let text = c.args.text.now in
    let codes = c.parse.new.codes in
    let out = c.parse.new.out in
    let x = c.in_ok-guard.guard in
    let f = guard-found text (reading text) c.parse.result codes out c.parse.ensures x c.in_ok-guard.was in
    record { proper = read-triplets text x codes out f (omega (arith, f.read.room)) }

pub answer-verdict-requires : goal.answer-verdict-requires
answer-verdict-requires c =
    let text = c.args.text.now in
    let codes = c.parse.new.codes in
    let out = c.parse.new.out in
    let x = c.in_ok-guard.guard in
    let f = guard-found text (reading text) c.parse.result codes out c.parse.ensures x c.in_ok-guard.was in
    from-tables text codes out x f (omega (arith, f.read.room))

pub returns-in_err-guard : goal.returns-in_err-guard
returns-in_err-guard c =
    let p = err_from_is_err_and c.from_residual.result c.from_residual.ensures.1 in
    let text = c.args.text.now in
    let f = c.in_err-guard.field-0.0 in
    rw (p.1, p.2) (refused-too text c.args.depth (omega (arith, c.if-text-gt-TEXT.false)) (omega (arith, c.if-depth-gt-DEPTH.false)) f
    (refusal-found text (reading text) c.parse.result c.parse.new.codes c.parse.new.out c.parse.ensures f c.in_err-guard.was))

pub returns : goal.returns
returns c =
    let text = c.args.text.now in
    let codes = c.parse.new.codes in
    let out = c.parse.new.out in
    let x = c.in_ok-guard.guard in
    let f = guard-found text (reading text) c.parse.result codes out c.parse.ensures x c.in_ok-guard.was in
    tables-say text c.args.depth (omega (arith, c.if-text-gt-TEXT.false)) (omega (arith, c.if-depth-gt-DEPTH.false)) codes out x
    f (omega (arith, f.read.room)) c.answer-verdict.result c.answer-verdict.ensures
