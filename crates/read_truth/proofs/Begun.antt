-- What parse leaves behind where it answers a guard: numbers that begin with its triplets.
use Prim.Native.Nat.{ℕ, ◌*◌, ◌≤◌}
use mathlib.Core.Path.{◌≡◌, ap}
use mathlib.Core.List.{List}
use native.Mathlib.Omega.{arith}
use lib.ListN.{length}
use Rattle.notation.specs.declared.codes.Code.{Code}
use Rattle.notation.specs.Ceilings.{connective_ceiling}
use Rattle.notation.specs.Guard.{connectives}
use Rattle.notation.specs.Reading.{reading}
use Rattle.notation.proofs.Accepted.{reading-within}
use Rattle.reading.specs.declared.parse.Guard as counted
use Rattle.reading.proofs.Serving.{Found}
use Rattle.truth.specs.clauses.Computed.{Triplets}
use Rattle.truth.specs.clauses.Written.{Begins}
use Rattle.truth.proofs.Written.{written-triplets}

-- what parse leaves behind where it answers a guard
module _ (text : List ℕ) (x : counted.Guard) (codes : List Code) (xs : List ℕ) (f : Found text (reading text) x codes xs) where
  -- there are as many flags as the text has
  pub read_flags : x.flags ≡ length f.flags
  read_flags = ap (λ (y : counted.Guard). y.flags) f.counts

  read_count : x.count ≡ connectives f.tree
  read_count = ap (λ (y : counted.Guard). y.count) f.counts

  pub read-begins : Begins x.flags x.count x.root f.tree xs
  read-begins =
      record {
        few = rw read_flags f.read.few;
        within = rw read_flags (reading-within text f.tree f.flags f.says);
        count = read_count;
        literal = ap (λ (y : counted.Guard). y.root) f.counts;
        written = rw read_count f.read.written;
      }

  -- and its triplets with their root, in a table for as many as there may be
  pub read-triplets : length xs ≡ 3 * connective_ceiling → Triplets x.flags xs x.count x.root
  read-triplets long =
      let short : x.count ≤ connective_ceiling = rw read_count f.read.short in
      written-triplets x.flags x.count x.root f.tree xs read-begins short (omega arith)
