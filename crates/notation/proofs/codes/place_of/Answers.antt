use mathlib.Core.Path.{refl, ◌∙◌, sym}
use borrow.Author.Rules.{rules}
use Rattle.notation.specs.Grammar.{number}
use Rattle.notation.specs.clauses.Codes.{flags_in}
use Rattle.notation.proofs.Coding.{placed, not-placed}
use Rattle.notation.proofs.codes.place_of.Goals as goal

pub loop-place-init : goal.loop-place-init
unfolding number flags_in
loop-place-init c =
    refl

pub returns-then-same : goal.returns-then-same
returns-then-same c =
    record {
      numbered = placed _ _ _ c.loop-place.place c.loop-place.invariant _ c.loop-place-test.true (sym c.same.ensures ∙ c.if-same.true);
      small = search rules;
    }

pub loop-place-preserved : goal.loop-place-preserved
loop-place-preserved c =
    not-placed _ _ _ c.loop-place.place c.loop-place.invariant (sym c.same.ensures ∙ c.if-same.false)
