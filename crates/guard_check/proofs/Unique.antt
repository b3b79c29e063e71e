-- No second verdict satisfies check's statement.
use Prim.Native.Nat.{ℕ}
use mathlib.Core.Path.{◌≡◌, sym, ap, ◌∙◌}
use mathlib.Core.List.{List}
use lib.ListN.{length}
use Rattle.notation.specs.Triplets.{literal, triplets}
use Rattle.notation.specs.Reading.{Reading, refusal, guard}
use Rattle.saturation.specs.Saturation.{Flags}
use Rattle.std.specs.Prelude.{Ok, Err, IsOkAnd}
use Rattle.notation.specs.Guard.{Guard}
use Rattle.saturation.specs.Answer.{Checked}
use Rattle.saturation.proofs.Verdicts.{answer-unique}
use Rattle.guard_check.specs.Check.{asked, Checking, ReadingSays, CheckSays}

verdict-unique : (n : ℕ) (g : Guard) (k : ℕ) (r s : Checking) → IsOkAnd r (Checked n g k) → IsOkAnd s (Checked n g k) → r ≡ s
verdict-unique n g k (Ok v) (Ok w) a b = ap Ok (answer-unique (Flags n) (triplets 0 g) (literal 0 g) k n v w a b)
verdict-unique n g k (Ok v) (Err e) a b = absurd b
verdict-unique n g k (Err e) s a b = absurd a

reading-unique : (x : Reading) (k : ℕ) (r s : Checking) → ReadingSays x k r → ReadingSays x k s → r ≡ s
reading-unique (refusal reason p) k r s a b = a ∙ sym b
reading-unique (guard g u) k r s a b = verdict-unique (length u) g k r s a b

-- no second verdict satisfies check's statement
pub check-unique : (text : List ℕ) (depth : ℕ) (r s : Checking) → CheckSays text depth r → CheckSays text depth s → r ≡ s
check-unique text depth r s a b = reading-unique (asked text depth) depth r s a b
