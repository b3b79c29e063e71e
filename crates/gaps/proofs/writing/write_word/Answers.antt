use native.Mathlib.Omega.{arith}
use Rattle.gaps.proofs.Words.{rest-done, rest-within, rest-full, rest_more}
use Rattle.gaps.proofs.writing.write_word.Goals as goal

pub returns-then-m-out : goal.returns-then-m-out
returns-then-m-out c =
    rest-full _ _ _ _ _ _ _ _ c.loop-rest.invariant c.loop-rest-test.true c.if-m-out.true

pub overflow_cast-out : goal.overflow_cast-out
overflow_cast-out c =
    record { fits = omega (arith, rest-within _ _ _ _ _ _ _ _ c.loop-rest.invariant c.loop-rest-test.true, c.requires.1) }

pub loop-rest-preserved : goal.loop-rest-preserved
loop-rest-preserved c =
    rest_more _ _ _ _ _ _ _ _ c.loop-rest.invariant c.loop-rest-test.true c.if-m-out.false

pub returns : goal.returns
returns c =
    rest-done _ _ _ _ _ _ _ _ c.loop-rest.invariant c.loop-rest-test.false
