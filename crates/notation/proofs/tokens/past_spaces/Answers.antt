-- `notation::tokens::past_spaces` meets its contract: one space is passed over, then another, and past that the run goes on.
use Prim.Native.Nat.{◌+◌, ◌<◌}
use mathlib.Core.Path.{◌≡◌, ◌∙◌}
use native.Mathlib.Omega.{arith}
use lib.ListN.{length}
use Rattle.notation.specs.clauses.Cut.{PastSpaces}
use Rattle.notation.proofs.Cutting.{at-a-space}
use Rattle.notation.proofs.tokens.past_spaces.Goals.{then-next-text-via-then-next-text, then-next-text-via-else-next-text+then-text-next-ne32}
use Rattle.notation.proofs.tokens.past_spaces.Goals as goal

pub returns-then-next-text : goal.returns-then-next-text
returns-then-next-text c =
    let before : c.args.from < length c.args.text.now = omega (arith, c.requires, c.if-from-text.false) in
    elim c.then-next-text.branch [
      | then-next-text-via-then-next-text w ↦ record {
        tokens = at-a-space _ _ before c.if-text-from-ne32.false;
        later = omega arith;
        inside = omega (arith, before);
        stops = λ h e. omega (arith, h, w.if-next-text.true);
      }
      | then-next-text-via-else-next-text+then-text-next-ne32 w ↦ record {
        tokens = at-a-space _ _ before c.if-text-from-ne32.false;
        later = omega arith;
        inside = omega (arith, before);
        stops = λ h e. w.if-text-next-ne32.true e;
      }
    ]

pub returns : goal.returns
returns c =
    let before : c.args.from < length c.args.text.now = omega (arith, c.requires, c.if-from-text.false) in
    let next : c.args.from + 1 < length c.args.text.now = omega (arith, before, c.if-next-text.false) in
    record {
      tokens = at-a-space _ _ before c.if-text-from-ne32.false ∙ at-a-space _ _ next c.if-text-next-ne32.false ∙ c.run_end.ensures.tokens;
      later = omega (arith, c.run_end.ensures.later);
      inside = c.run_end.ensures.inside;
      stops = c.run_end.ensures.stops;
    }
