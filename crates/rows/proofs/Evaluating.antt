-- The rows of all triplets, one after the other.
use Prim.Native.Nat.{ℕ, suc, ◌≤◌, ◌<◌}
use mathlib.Core.Path.{◌∙◌}
use mathlib.Core.List.{List}
use Rattle.notation.specs.Ceilings.{flag_ceiling}
use Rattle.notation.specs.clauses.Shape.{Shape}
use Rattle.truth.proofs.Computing.{valued-more}
use Rattle.rows.specs.clauses.Rows.{in_row, TripletMade, FlagRows, Evaluated}

pub evaluated-more : (n width c j : ℕ) (xs rows rows' after : List ℕ) → n ≤ flag_ceiling → Shape n c xs → j < c
    → Evaluated n width xs j rows rows' → TripletMade xs j rows' width after → Evaluated n width xs (suc j) rows after
evaluated-more n width c j xs rows rows' after small shape h e m =
    record {
      long = m.long ∙ e.long;
      valued = λ s b. valued-more n s c xs small shape j (in_row rows' width s) (in_row after width s) h (e.valued s b) (λ u p. m.kept s u b p)
          (m.made s b);
    }

-- the flags' rows are still right
pub flags-kept : (n width c : ℕ) (xs rows after : List ℕ) → Evaluated n width xs c rows after → FlagRows n width after
flags-kept n width c xs rows after e = record { top = λ s h. (e.valued s h).top; flags = λ s i h p q. (e.valued s h).flags i p q }
