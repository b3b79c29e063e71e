-- `operands::code_operand` meets its contract: a code that is known is its flag, a new one is entered, a 25th is refused.
use mathlib.Core.Path.{sym, subst}
use native.Mathlib.Omega.{arith}
use Prim.Native.Nat.{◌+◌}
use lib.ListN.{set}
use Rattle.notation.specs.Guard.{flag}
use Rattle.notation.specs.clauses.Codes.{PlaceOf, Keyed}
use Rattle.operands.specs.clauses.Steps.{place}
use Rattle.operands.proofs.Operands.{OneToken, known-token, new-token, too_many, atom-says, too-many-says}
use Rattle.operands.proofs.code_operand.Goals as goal

pub returns-then-place-flags : goal.returns-then-place-flags
returns-then-place-flags c =
    let text = c.args.text.now in
    let at = place c.args.at.now in
    let r = c.place_of-place.result in
    let placed = subst (λ x. PlaceOf text c.args.codes.now at.flags x r) c.at-code.ensures.code c.place_of-place.ensures in
    atom-says (known-token text at c.args.codes.now c.requires.standing c.requires.at_value r placed c.if-place-flags.true c.flag_literal.result
    c.flag_literal.ensures) c.past_token.ensures

pub returns-then-flags-ge-FLAGS : goal.returns-then-flags-ge-FLAGS
returns-then-flags-ge-FLAGS c =
    let text = c.args.text.now in
    let at = place c.args.at.now in
    let r = c.place_of-place.result in
    let placed = subst (λ x. PlaceOf text c.args.codes.now at.flags x r) c.at-code.ensures.code c.place_of-place.ensures in
    too-many-says (too_many text at c.args.codes.now c.requires.standing c.requires.at_value r placed c.if-place-flags.false
    c.if-flags-ge-FLAGS.true) c.refuse_ahead.ensures.now

pub returns : goal.returns
returns c =
    let text = c.args.text.now in
    let at = place c.args.at.now in
    let r = c.place_of-place.result in
    let placed = subst (λ x. PlaceOf text c.args.codes.now at.flags x r) c.at-code.ensures.code c.place_of-place.ensures in
    let keyed = subst (λ x. Keyed text x) c.at-code.ensures.code c.at-code.ensures.keyed in
    atom-says (subst (λ x. OneToken text at c.args.codes.now (set c.args.codes.now at.flags x) (at.flags + 1) (flag (r + 1)) c.flag_literal-2.result)
    (sym c.at-code.ensures.code)
    (new-token text at c.args.codes.now c.requires.standing c.requires.at_value r placed c.if-place-flags.false
    (omega (arith, c.if-flags-ge-FLAGS.false)) c.flag_literal-2.result c.flag_literal-2.ensures keyed)) c.past_token-2.ensures
