-- `lines::put::put_decimal` meets its contract: the tenth's digits, then the last one. The number falls.
use Rattle.lines.proofs.put.+put_decimal.Given as goal

abbrev pub decreases-put_decimal : goal.decreases-put_decimal
decreases-put_decimal l = l.n
