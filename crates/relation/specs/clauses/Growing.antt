-- How far a loop on the way to the least relation has come.
use Rattle.relation.specs.Relation.{Rel, IsRelation, Within}

-- S is above R, and below every relation above R that has the property P
pub record Growth (P : Rel → Type 0) (R S : Rel) : Type 0 where
  pub above : Within R S
  pub below : (A : Rel) → IsRelation A → Within R A → P A → Within S A
