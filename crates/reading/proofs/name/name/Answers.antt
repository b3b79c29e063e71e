-- `reading::name::name` meets its contract: parse's refusal is passed on, and its table names the part.
use mathlib.Core.Path.{◌∙◌}
use Rattle.std.proofs.lemmas.Result.{err_from_is_err_and}
use Rattle.notation.specs.Reading.{reading}
use Rattle.reading.proofs.Serving.{guard-found, refusal-found, name-refused, name-found}
use Rattle.reading.proofs.name.name.Goals as goal

pub returns-in_err-guard : goal.returns-in_err-guard
returns-in_err-guard c =
    let p = err_from_is_err_and c.from_residual.result c.from_residual.ensures.1 in
    let f = c.in_err-guard.field-0.0 in
    rw (p.1, p.2) (name-refused c.args.text.now c.args.i f (refusal-found c.args.text.now (reading c.args.text.now)
    c.parse.result c.parse.new.codes c.parse.new.out c.parse.ensures f c.in_err-guard.was))

pub returns : goal.returns
returns c =
    let C = c.parse.new.codes in
    let O = c.parse.new.out in
    c.named_at.ensures ∙ name-found c.args.text.now c.args.i c.in_ok-guard.guard C O
    (guard-found c.args.text.now (reading c.args.text.now) c.parse.result C O c.parse.ensures c.in_ok-guard.guard c.in_ok-guard.was)
