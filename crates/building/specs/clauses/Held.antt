-- Guards that stand in a pool of triplets, and the table that says where.
use Rattle.std.specs.Prelude.{ℕ, ◌+◌, ◌*◌, ◌≤◌, ◌≡◌, List, get_or, take, drop}
use Rattle.notation.specs.Guard.{Guard, connectives}
use Rattle.notation.specs.Triplets.{literal, triplets, numbers}
use Rattle.notation.specs.clauses.Shape.{FlagsWithin}
use Rattle.building.specs.Span.{Span}
use Rattle.building.specs.declared.spans.GuardSpan.{GuardSpan}

-- a guard of n flags in the pool: its triplets as they are after no others, from o on, among `total`
pub record Held (n : ℕ) (g : Guard) (total o c r : ℕ) (pool : List ℕ) : Type 0 where
  pub within : FlagsWithin n g
  pub count : c ≡ connectives g
  pub root : r ≡ literal 0 g
  pub inside : o + connectives g ≤ total
  pub stands : take (3 * connectives g) (drop (3 * o) pool) ≡ numbers (triplets 0 g)

-- what a table of spans holds where no guard has been noted
abbrev pub no_span : GuardSpan
no_span = record { off = 0; count = 0; root = 0; text_start = 0; text_end = 0 }

-- the table says of guard k where its triplets start in the pool, how many they are, and its root; where its text starts and ends
abbrev pub span_at : List GuardSpan → ℕ → GuardSpan
span_at spans k = get_or spans k no_span

abbrev pub off_at : List GuardSpan → ℕ → ℕ
off_at spans k = (span_at spans k).off

abbrev pub count_at : List GuardSpan → ℕ → ℕ
count_at spans k = (span_at spans k).count

abbrev pub root_at : List GuardSpan → ℕ → ℕ
root_at spans k = (span_at spans k).root

abbrev pub text_at : List GuardSpan → ℕ → Span
text_at spans k = record { start = (span_at spans k).text_start; after = (span_at spans k).text_end }

-- guard k of the table stands in the pool
abbrev pub HeldAt : ℕ → Guard → ℕ → ℕ → List GuardSpan → List ℕ → Type 0
HeldAt n g total k spans pool = Held n g total (off_at spans k) (count_at spans k) (root_at spans k) pool
