-- `list::list` meets its contract: parse tells a refusal or the guard's tables, and the search writes its gaps.
use mathlib.Core.Path.{sym, ◌∙◌}
use Rattle.std.proofs.lemmas.Result.{err_from_is_err_and}
use Rattle.notation.specs.Reading.{reading}
use Rattle.reading.proofs.Serving.{guard-found, refusal-found}
use Rattle.read_truth.proofs.Begun.{read-triplets}
use Rattle.list.proofs.Listed.{lists-refusal, lists-no-state, lists-searchable, lists-gaps}
use borrow.Author.Rules.{rules}
use Rattle.list.proofs.list.Goals as goal

pub returns-in_err-guard : goal.returns-in_err-guard
returns-in_err-guard c =
    let p = err_from_is_err_and c.from_residual.result c.from_residual.ensures.1 in
    let f = c.in_err-guard.field-0.0 in
    rw (p.1, p.2) (lists-refusal c.args.text.now c.args.start c.args.out.now f
    (refusal-found c.args.text.now (reading c.args.text.now) c.parse.result c.parse.new.codes c.parse.new.out c.parse.ensures
    f c.in_err-guard.was))

pub returns-then-not-is_state : goal.returns-then-not-is_state
returns-then-not-is_state c =
    let f = guard-found c.args.text.now (reading c.args.text.now) c.parse.result c.parse.new.codes c.parse.new.out c.parse.ensures
    c.in_ok-guard.guard c.in_ok-guard.was in
    lists-no-state c.args.text.now c.args.start c.args.out.now c.in_ok-guard.guard c.parse.new.codes c.parse.new.out f
    (sym c.is_state.ensures ∙ c.if-not-is_state.true)

pub invariant_of-formula : goal.invariant_of-formula
invariant_of-formula c =
    let f = guard-found c.args.text.now (reading c.args.text.now) c.parse.result c.parse.new.codes c.parse.new.out c.parse.ensures
    c.in_ok-guard.guard c.in_ok-guard.was in
    record { proper = read-triplets c.args.text.now c.in_ok-guard.guard c.parse.new.codes c.parse.new.out f (search rules) }

pub search-found-requires : goal.search-found-requires
search-found-requires c =
    lists-searchable _ _ (sym c.is_state.ensures ∙ c.if-not-is_state.false)

pub returns : goal.returns
returns c =
    let f = guard-found c.args.text.now (reading c.args.text.now) c.parse.result c.parse.new.codes c.parse.new.out c.parse.ensures
    c.in_ok-guard.guard c.in_ok-guard.was in
    lists-gaps c.args.text.now c.args.start c.args.out.now c.in_ok-guard.guard c.parse.new.codes c.parse.new.out f
    (sym c.is_state.ensures ∙ c.if-not-is_state.false) c.search-found.result c.search-found.new.out c.search-found.ensures
