-- A list of 210 numbers that passes the rule's test at every entry is the step table.
use mathlib.Core.Path.{◌≡◌, ap₂, ◌∙◌}
use mathlib.Core.Bool.{Bool, true}
use mathlib.Core.List.{List}
use Prim.Native.Nat.{ℕ, ◌+◌, ◌*◌, ◌/◌, ◌%◌, ◌≤◌, ◌<◌}
use native.Mathlib.Omega.{arith}
use lib.Dec.{eqb}
use lib.ListN.{length, get_or}
use borrow.Author.Tests.{eqb-true}
use Rattle.steps.specs.Table.{entry}
use Rattle.steps.proofs.Entries.{passes, at}

-- the number at place k is the entry of its kind and pattern
unfoldable pub right : ℕ → ℕ → Bool
right k e = eqb e (entry (k / 105) (k % 105))

pub table : (es : List ℕ) → passes right 0 es ≡ true → length es ≡ 210 → (kind p : ℕ) → kind ≤ 1 → p < 105 → get_or es (105 * kind + p) 0
    ≡ entry kind p
unfolding right
table es right-everywhere long kind p k h =
    eqb-true (get_or es (105 * kind + p) 0) (entry ((105 * kind + p) / 105) ((105 * kind + p) % 105))
    (at right es right-everywhere (105 * kind + p) (omega arith))
    ∙ ap₂ entry (omega arith) (omega arith)
