-- What the functions of why say: whether flags force a gap, the turn of a flag, and the mask of the flags kept so far.
use Rattle.std.specs.Prelude.{ℕ, zero, suc, ◌+◌, ◌*◌, ◌-◌, ◌^◌, ◌≡◌, Bool, true, false, ◌⊎◌}
use Rattle.ground.specs.Choice.{choose}
use Rattle.gaps.specs.declared.writing.Found.{Found}
use Rattle.gaps.specs.declared.writing.Found.TheVariants.{Done, More}
use Rattle.freeing.specs.clauses.Some.{keeps}
use Rattle.why.specs.Numbered.{state_with}
use Rattle.why.specs.Kept.{Forces, Went}

-- with no room, all were written only where there are none
unfoldable pub none_found : Found → Bool
none_found (Done k) = true
none_found (More k x) = false

-- b says whether A holds
abbrev pub Decides : Bool → Type 0 → Type 0
Decides true A = A
Decides false A = A → ⊥

-- the turn of the flag at a place of the mask
abbrev pub Turned : ℕ → (ℕ → Bool) → ℕ → ℕ → ℕ → ℕ → Type 0
Turned n v gap keep place r =
    (Forces n v gap (keeps n (keep - 2 ^ place)) × (r ≡ keep - 2 ^ place)) ⊎ ((Forces n v gap (keeps n (keep - 2 ^ place)) → ⊥) × (r ≡ keep))

-- the mask of the flags kept once flags 1 to i are gone through
abbrev pub Keeping : ℕ → (ℕ → Bool) → ℕ → ℕ → ℕ → Type 0
Keeping n v gap i keep = (kept : ℕ → Bool) × Went n v gap i kept × (keep ≡ state_with n kept)

-- the values of the free flags, in order, as a state
unfoldable pub free_state : (ℕ → Bool) → (ℕ → Bool) → ℕ → ℕ
free_state kept b zero = 0
free_state kept b (suc i) = choose (kept (suc i)) (free_state kept b i) (2 * free_state kept b i + choose (b (suc i)) 1 0)
