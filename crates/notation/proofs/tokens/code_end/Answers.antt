use mathlib.Core.Path.{◌∙◌, sym, ap}
use native.Mathlib.Omega.{arith}
use borrow.Author.Rules.{rules}
use lib.ListN.{length}
use Rattle.notation.proofs.Cutting.{run_more, run_none, run_end}
use Rattle.notation.proofs.tokens.code_end.Goals as goal

pub returns-then-not-is_code_byte : goal.returns-then-not-is_code_byte
returns-then-not-is_code_byte c =
    let none = ap length (run_none c.args.text.now c.loop-at.at c.loop-at-test.true (sym c.is_code_byte.ensures ∙ c.if-not-is_code_byte.true)) in
    record { run = omega (arith, none, c.loop-at.invariant); inside = search rules }

pub loop-at-preserved : goal.loop-at-preserved
loop-at-preserved c =
    let more = ap length (run_more c.args.text.now c.loop-at.at c.loop-at-test.true (sym c.is_code_byte.ensures ∙ c.if-not-is_code_byte.false)) in
    omega (arith, more, c.loop-at.invariant)

pub returns : goal.returns
returns c =
    let none = ap length (run_end c.args.text.now c.loop-at.at c.loop-at-test.false) in
    record { run = omega (arith, none, c.loop-at.invariant); inside = search rules }
