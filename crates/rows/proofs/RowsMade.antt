-- A row that is made word by word.
use Prim.Native.Nat.{ℕ, ◌+◌, ◌<◌}
use mathlib.Core.List.{List}
use lib.ListN.{get_or}
use Rattle.rows.specs.clauses.Rows.{RowMade}

-- what holds of each word may be said otherwise
pub row-as : (rows : List ℕ) (x width : ℕ) (R R' : ℕ → ℕ → Type 0) (after : List ℕ) → RowMade rows x width R after
    → ((w r : ℕ) → w < width → R w r → R' w r) → RowMade rows x width R' after
row-as rows x width R R' after m f = record { long = m.long; made = λ w h. f w (get_or after (x + w) 0) h (m.made w h); kept = m.kept }
