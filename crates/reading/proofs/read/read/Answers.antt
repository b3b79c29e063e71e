-- `reading::read::read` meets its contract: parse's refusal is passed on, a small room is refused, and else the triplets are copied.
use Rattle.std.proofs.lemmas.Result.{err_from_is_err_and}
use Rattle.notation.specs.Reading.{reading}
use Rattle.reading.proofs.Serving.{guard-found, refusal-found, read-refused, read_small, read_fits}
use Rattle.std.proofs.lemmas.Grind.{common_steps}
use native.Mathlib.Omega.{arith}
use Rattle.reading.proofs.read.read.Goals as goal

pub returns-in_err-guard : goal.returns-in_err-guard
returns-in_err-guard c =
    let p = err_from_is_err_and c.from_residual.result c.from_residual.ensures.1 in
    let f = c.in_err-guard.field-0.0 in
    rw (p.1, p.2) (read-refused c.args.text.now c.args.room.now f
    (refusal-found c.args.text.now (reading c.args.text.now) c.parse.result c.parse.new.codes c.parse.new.out c.parse.ensures f c.in_err-guard.was))

pub returns-then-room-len : goal.returns-then-room-len
returns-then-room-len c =
    let C = c.parse.new.codes in
    let O = c.parse.new.out in
    read_small c.args.text.now c.args.room.now c.in_ok-guard.guard C O
    (guard-found c.args.text.now (reading c.args.text.now) c.parse.result C O c.parse.ensures c.in_ok-guard.guard
    c.in_ok-guard.was) (omega (arith, c.if-room-len.true))

pub returns : goal.returns
returns c =
    let C = c.parse.new.codes in
    let O = c.parse.new.out in
    read_fits c.args.text.now c.args.room.now c.in_ok-guard.guard C O
    (guard-found c.args.text.now (reading c.args.text.now) c.parse.result C O c.parse.ensures c.in_ok-guard.guard
    c.in_ok-guard.was) (omega (arith, c.if-room-len.false)) _ (grind (arith, common_steps))
