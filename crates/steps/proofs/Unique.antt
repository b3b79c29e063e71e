-- No second relation is what a step makes of one, or its 0-saturation.
use Prim.Native.Nat.{ℕ}
use mathlib.Core.Path.{◌≡◌}
use mathlib.Core.List.{List}
use Rattle.notation.specs.Triplets.{Triplet}
use Rattle.relation.specs.Relation.{Rel}
use Rattle.relation.proofs.RelationLaws.{least-unique}
use Rattle.steps.specs.Rest.{HoldsStepOn, NoStepEnlarges, StepOf, RestOf}

pub step-unique : (t : Triplet) (x : ℕ) (S T U : Rel) → StepOf t x S T → StepOf t x S U → (l m : ℕ) → T l m ≡ U l m
step-unique t x S T U = least-unique (λ A. HoldsStepOn S A t x) S T U

pub rest-unique : (ts : List Triplet) (S T U : Rel) → RestOf ts S T → RestOf ts S U → (l m : ℕ) → T l m ≡ U l m
rest-unique ts S T U = least-unique (NoStepEnlarges ts) S T U
