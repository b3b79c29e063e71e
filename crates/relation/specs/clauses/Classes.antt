-- How an array of literals keeps a relation: each variable leads to the literal of the lowest variable of its class.
use Rattle.std.specs.Prelude.{ℕ, zero, suc, ◌+◌, ◌*◌, ◌/◌, ◌≤◌, ◌<◌, ◌≡◌, Bool, true, List, length, get_or, eqb}
use Rattle.notation.specs.Ceilings.{flag_ceiling, connective_ceiling}
use Rattle.ground.specs.Choice.{choose}
use Rattle.notation.specs.clauses.Writing.{signed}
use Rattle.relation.specs.Relation.{Rel}

-- the variables: true, the flags and the triplets
abbrev pub variable_ceiling : ℕ
variable_ceiling = 1 + flag_ceiling + connective_ceiling

-- what an array has for a variable; one past its end stands for itself
abbrev pub entry : List ℕ → ℕ → ℕ
entry xs v = get_or xs v (2 * v)

-- where a literal leads
unfoldable pub lead : (ℕ → ℕ) → ℕ → ℕ
lead f l = signed (f (l / 2)) l

-- true leads to false
abbrev pub contradictory : (ℕ → ℕ) → Bool
contradictory f = eqb (f 0) 1

-- two literals are equal where they lead to the same; in a contradictory relation all are
unfoldable pub relation : (ℕ → ℕ) → Rel
relation f l m = choose (contradictory f) true (eqb (lead f l) (lead f m))

-- no variable leads upwards; the lowest of a class stands for itself; so does each variable from n on
pub record Canonical (n : ℕ) (f : ℕ → ℕ) : Type 0 where
  pub lower : (v : ℕ) → f v / 2 ≤ v
  pub leader : (v : ℕ) → 0 < f v / 2 → f (f v / 2) ≡ 2 * (f v / 2)
  pub beyond : (v : ℕ) → n ≤ v → f v ≡ 2 * v

-- the array xs keeps a relation of the variables below n
pub record Classes (n : ℕ) (xs : List ℕ) : Type 0 where
  pub long : length xs ≡ variable_ceiling
  pub fits : n ≤ variable_ceiling
  pub canonical : Canonical n (entry xs)

-- the relation that an array keeps
abbrev pub kept : List ℕ → Rel
kept xs = relation (entry xs)

-- the literal w once hi has become lo: w goes with hi, its sign with it, where it is of hi's variable
unfoldable pub moved : ℕ → ℕ → ℕ → ℕ
moved lo hi w = choose (eqb (w / 2) (hi / 2)) (signed lo (w + hi)) w

-- how many variables below n stand for themselves
unfoldable pub own : ℕ → (ℕ → ℕ) → ℕ
own zero f = 0
own (suc n) f = own n f + choose (eqb (f n) (2 * n)) 1 0

-- 0 where contradictory, else 1 and the variables below n that stand for themselves
unfoldable pub rank : ℕ → (ℕ → ℕ) → ℕ
rank n f = choose (contradictory f) 0 (1 + own n f)
