-- Which flags of a gap are kept: gone through in order, one is dropped where the others still kept force a gap.
use Rattle.std.specs.Prelude.{ℕ, zero, suc, ◌-◌, ◌^◌, ◌≤◌, ◌<◌, ◌≡◌, Bool, true, false, ◌⊎◌, eqb}
use Rattle.ground.specs.Choice.{choose}
use Rattle.ground.specs.Bits.{bit}

-- the state s has the value of the gap at each kept flag
abbrev pub Agrees : ℕ → (ℕ → Bool) → ℕ → ℕ → Type 0
Agrees n kept gap s = (i : ℕ) → 0 < i → i ≤ n → kept i ≡ true → bit s (n - i) ≡ bit gap (n - i)

-- v is false in every state of n flags that agrees with the gap
abbrev pub Forces : ℕ → (ℕ → Bool) → ℕ → (ℕ → Bool) → Type 0
Forces n v gap kept = (s : ℕ) → s < 2 ^ n → Agrees n kept gap s → v s ≡ false

-- all flags are kept
unfoldable pub every : ℕ → Bool
every i = true

-- the flags without flag j
unfoldable pub without : (ℕ → Bool) → ℕ → ℕ → Bool
without kept j i = choose (eqb i j) false (kept i)

-- flag i's turn: it is dropped where the others still kept force a gap, and only there
abbrev pub Turn : ℕ → (ℕ → Bool) → ℕ → ℕ → (ℕ → Bool) → (ℕ → Bool) → Type 0
Turn n v gap i was kept =
    (Forces n v gap (without was i) × (kept ≡ without was i)) ⊎ ((Forces n v gap (without was i) → ⊥) × (kept ≡ was))

-- flags 1 to i are gone through, and these are kept: the earlier ones kept and all later ones
abbrev pub Went : ℕ → (ℕ → Bool) → ℕ → ℕ → (ℕ → Bool) → Type 0
Went n v gap zero kept = kept ≡ every
Went n v gap (suc i) kept = (was : ℕ → Bool) × Went n v gap i was × Turn n v gap (suc i) was kept
