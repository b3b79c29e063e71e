-- `notation::tokens::hash_at` meets its contract: the byte after `#` tells the token.
use native.Mathlib.Omega.{arith}
use Rattle.notation.proofs.Cutting.{cut-hash-zero, cut-hash-one, cut-no-digit, cut-lone-hash}
use Rattle.notation.proofs.Placing.{taken-stored, refused-stored}
use Rattle.notation.proofs.tokens.hash_at.Goals as goal
use Rattle.notation.proofs.tokens.hash_at.Goals.{else-digit-ne48-via-then-digit-ne48+else-digit-ne49, else-digit-ne48-via-else-digit-ne48}

pub returns-then-text-next : goal.returns-then-text-next
returns-then-text-next c =
    refused-stored c.refuse.ensures.now (cut-lone-hash _ _ c.requires (omega (arith, c.if-text-next.true)))

pub returns-then-digit-ne49 : goal.returns-then-digit-ne49
returns-then-digit-ne49 c =
    refused-stored c.refuse-then-digit-ne49.ensures.now (cut-no-digit _ _ c.requires (omega (arith, c.if-text-next.false)) c.if-digit-ne48.true
    c.if-digit-ne49.true)

pub returns : goal.returns
returns c =
    elim c.else-digit-ne48.branch [
      | else-digit-ne48-via-then-digit-ne48+else-digit-ne49 w ↦
          taken-stored (cut-hash-one _ _ c.requires (omega (arith, c.if-text-next.false)) w.if-digit-ne49.false)
      | else-digit-ne48-via-else-digit-ne48 w ↦
          taken-stored (cut-hash-zero _ _ c.requires (omega (arith, c.if-text-next.false)) w.if-digit-ne48.false)
    ]
