use mathlib.Core.Path.{sym, ap, ◌∙◌}
use Prim.Native.Nat.{ℕ}
use Rattle.notation.specs.declared.codes.Code.{Code}
use native.Mathlib.Omega.{arith}
use Rattle.notation.proofs.Coding.{key_more, key-done}
use Rattle.notation.proofs.codes.Code.at.Goals as goal

abbrev code_with : ℕ → ℕ → ℕ → Code
code_with s e n = record { start = s; next = e; key = n }

pub loop-byte-preserved : goal.loop-byte-preserved
loop-byte-preserved c =
    sym (key_more _ c.loop-byte.byte-index c.loop-byte.key c.loop-byte-test.true) ∙ c.loop-byte.invariant

pub returns-clause-code : goal.returns-clause-code
returns-clause-code c =
    ap (λ (n : ℕ). code_with c.args.start c.args.next n)
    (sym (key-done _ c.loop-byte.byte-index c.loop-byte.key (omega (arith, c.loop-byte-test.false))) ∙ c.loop-byte.invariant)

pub returns-clause-keyed : goal.returns-clause-keyed
returns-clause-keyed c =
    record {
      span = c.requires.0;
      inside = c.requires.1;
      key = sym (key-done _ c.loop-byte.byte-index c.loop-byte.key (omega (arith, c.loop-byte-test.false))) ∙ c.loop-byte.invariant;
    }
