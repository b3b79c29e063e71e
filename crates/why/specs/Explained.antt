-- What why answers, for every text and every number.
use Rattle.std.specs.Prelude.{ℕ, ◌^◌, ◌≡◌, Bool, length, ltb, Result, Ok, Err}
use Rattle.ground.specs.Choice.{choose}
use Rattle.notation.specs.declared.refusal.Reason.TheVariants.{NoState, NoGap}
use Rattle.notation.specs.declared.refusal.Refusal.{Refusal}
use Rattle.notation.specs.Refusals.{fault}
use Rattle.notation.specs.Guard.{Guard}
use Rattle.notation.specs.Reading.{Reading, refusal, guard}
use Rattle.truth.specs.Value.{value}
use Rattle.why.specs.Numbered.{state_with}
use Rattle.why.specs.Kept.{Went}

-- the kept flags, or a refusal
abbrev pub Explanation : Type 0
Explanation = Result ℕ Refusal

-- all n flags are gone through, and the answer holds those kept, as a state holds the flags that are true
abbrev pub KeptOf : ℕ → Guard → ℕ → Explanation → Type 0
KeptOf n g state r = (kept : ℕ → Bool) × Went n (λ s. value n s g) state n kept × (r ≡ Ok (state_with n kept))

-- a refusal of reading is answered; then 9 where the number is no state, then 16 where the state is no gap; else the kept flags
abbrev pub Explains : Reading → ℕ → Explanation → Type 0
Explains (refusal reason p) state r = r ≡ Err (fault reason p)
Explains (guard g codes) state r =
    choose (ltb state (2 ^ length codes))
    (choose (value (length codes) state g) (r ≡ Err (fault NoGap 0)) (KeptOf (length codes) g state r))
    (r ≡ Err (fault NoState 0))
