-- `notation::tokens::token_at` meets its contract: past the spaces the first byte's class tells which token starts.
use mathlib.Core.Path.{sym, ◌∙◌}
use Prim.Native.Nat.{◌<◌}
use lib.ListN.{length}
use native.Mathlib.Omega.{arith}
use Rattle.notation.specs.clauses.Cut.{Starts}
use Rattle.notation.proofs.Cutting.{cut-end, cut-mark, cut-no-mark}
use Rattle.notation.proofs.Placing.{cut_later, taken-stored, refused-stored}
use Rattle.notation.proofs.tokens.token_at.Goals as goal

pub returns-then-start-text : goal.returns-then-start-text
returns-then-start-text c =
    taken-stored (cut-end _ _ _ c.past_spaces-start.ensures c.if-start-text.true)

pub returns-in-Mark : goal.returns-in-Mark
returns-in-Mark c =
    let in_text : c.past_spaces-start.result < length c.args.text.now = omega (arith, c.if-start-text.false, c.past_spaces-start.ensures.inside) in
    let starts : Starts c.args.text.now c.past_spaces-start.result _
    = record { inside = in_text; class = sym c.class_of.ensures ∙ c.in-Mark.is; no_space = c.past_spaces-start.ensures.stops in_text } in
    cut_later c.past_spaces-start.ensures (taken-stored (cut-mark _ _ starts))

pub returns-in_default : goal.returns-in_default
returns-in_default c =
    let in_text : c.past_spaces-start.result < length c.args.text.now = omega (arith, c.if-start-text.false, c.past_spaces-start.ensures.inside) in
    let starts : Starts c.args.text.now c.past_spaces-start.result c.class_of.result
    = record { inside = in_text; class = sym c.class_of.ensures; no_space = c.past_spaces-start.ensures.stops in_text } in
    cut_later c.past_spaces-start.ensures
    (refused-stored c.refuse.ensures.now (cut-no-mark _ _ c.class_of.result starts c.in_default.not-Code c.in_default.not-Hash c.in_default.not-Mark))
