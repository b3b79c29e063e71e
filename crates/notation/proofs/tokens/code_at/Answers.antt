-- `notation::tokens::code_at` meets its contract: the run's end tells a code from one that is too long.
use native.Mathlib.Omega.{arith}
use Rattle.notation.proofs.Cutting.{cut-code, cut-long}
use Rattle.notation.proofs.Placing.{taken-stored, refused-stored}
use Rattle.notation.proofs.tokens.code_at.Goals as goal

pub returns-then-next-start-gt-CODE : goal.returns-then-next-start-gt-CODE
returns-then-next-start-gt-CODE c =
    refused-stored c.refuse.ensures.now (cut-long _ _ _ c.requires c.code_end-next.ensures (omega (
      arith,
      c.if-next-start-gt-CODE.true,
      c.code_end-next.ensures.run,
    )))

pub returns : goal.returns
returns c =
    taken-stored (cut-code _ _ _ c.requires c.code_end-next.ensures (omega (arith, c.if-next-start-gt-CODE.false, c.code_end-next.ensures.run)))
