use native.Mathlib.Omega.{arith}
use mathlib.Core.Path.{refl, sym}
use Rattle.lines.proofs.Putting.{puts_then, puts-as}
use Rattle.lines.proofs.Decimal.{decimal-one, decimal-more, one-long, more-long}
use Rattle.lines.proofs.put.+put_decimal.Goals as goal

pub put-requires : goal.put-requires
put-requires t c =
    omega (arith, c.requires, one-long c.args.n c.if-n-lt10.true)

pub returns-then-n-lt10 : goal.returns-then-n-lt10
returns-then-n-lt10 t c =
    puts-as (sym (decimal-one c.args.n c.if-n-lt10.true)) refl c.put.ensures

pub put_decimal-next-requires : goal.put_decimal-next-requires
put_decimal-next-requires t c =
    (omega arith, omega (arith, c.requires, more-long c.args.n c.if-n-lt10.false))

pub put-requires-2 : goal.put-requires-2
put-requires-2 t c =
    omega (arith, c.requires, more-long c.args.n c.if-n-lt10.false, c.put_decimal-next.ensures.next, c.put_decimal-next.ensures.long)

pub returns : goal.returns
returns t c =
    puts-as (sym (decimal-more c.args.n c.if-n-lt10.false)) refl (puts_then c.put_decimal-next.ensures c.put-2.ensures)
