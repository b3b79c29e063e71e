-- A choice.
use Rattle.std.specs.Prelude.{Bool, true, false}

-- one of two, by a test
abbrev pub choose {ℓ} : {A : Type ℓ} → Bool → A → A → A
choose true a b = a
choose false a b = b
