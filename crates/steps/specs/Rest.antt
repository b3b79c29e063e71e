-- What a step makes of a relation, and a relation that no step enlarges.
use Rattle.std.specs.Prelude.{ℕ, List}
use Rattle.notation.specs.Triplets.{Triplet, Each}
use Rattle.relation.specs.Relation.{Rel}
use Rattle.relation.specs.Least.{Least}
use Rattle.steps.specs.Step.{HoldsStep}

-- A holds all that a step on a triplet with the literal x adds to S
abbrev pub HoldsStepOn : Rel → Rel → Triplet → ℕ → Type 0
HoldsStepOn S A t x = HoldsStep t.kind x t.y t.z S A

-- no step on one of the triplets enlarges S
abbrev pub NoStepEnlarges : List Triplet → Rel → Type 0
NoStepEnlarges ts S = Each (HoldsStepOn S S) 0 ts

-- T is what a step on a triplet with the literal x makes of S: the least relation above S that holds all that it adds
abbrev pub StepOf : Triplet → ℕ → Rel → Rel → Type 0
StepOf t x S T = Least (λ A. HoldsStepOn S A t x) S T

-- T is the 0-saturation of S: the least relation above S that no step enlarges
abbrev pub RestOf : List Triplet → Rel → Rel → Type 0
RestOf ts S T = Least (NoStepEnlarges ts) S T
