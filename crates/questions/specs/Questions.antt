-- The questions that are put of a line, as guards: a rule, and variants by number.
use Rattle.std.specs.Prelude.{ℕ, zero, suc, ◌+◌, Bool, true, false, List, [], ◌∷◌, ◌++◌, map, get_or, leb}
use Rattle.ground.specs.Choice.{choose}
use Rattle.notation.specs.Ceilings.{connective_ceiling}
use Rattle.notation.specs.Tokens.{implies, or, and}
use Rattle.notation.specs.Guard.{Guard, truth, negated, joined, connectives}

-- variants of a line
abbrev pub variant_ceiling : ℕ
variant_ceiling = 16

-- a guard and others joined by `|`, to the left
unfoldable pub or_all : Guard → List Guard → Guard
or_all g [] = g
or_all g (h ∷ hs) = or_all (joined or g h) hs

-- one of the variants holds
unfoldable pub any_of : List Guard → Guard
any_of [] = truth false
any_of (v ∷ vs) = or_all v vs

-- rule > (v1|v2|..)
unfoldable pub whole_of : Guard → List Guard → Guard
whole_of rule variants = joined implies rule (any_of variants)

-- rule > !(v&w)
unfoldable pub apart : Guard → Guard → Guard → Guard
apart rule v w = joined implies rule (negated (joined and v w))

-- the pairs of variants by the first and then the second
unfoldable pub pairs_of : Guard → List Guard → List Guard
pairs_of rule [] = []
pairs_of rule (v ∷ vs) = map (apart rule v) vs ++ pairs_of rule vs

-- the whole question, then those of the pairs
unfoldable pub questions_of : Guard → List Guard → List Guard
questions_of rule variants = whole_of rule variants ∷ pairs_of rule variants

-- each has at most as many connectives as a guard may have
unfoldable pub all_fit : List Guard → Bool
all_fit [] = true
all_fit (q ∷ qs) = choose (leb (connectives q) connective_ceiling) (all_fit qs) false

-- the connectives of guards, together
unfoldable pub sum_of : List Guard → ℕ
sum_of [] = 0
sum_of (g ∷ gs) = connectives g + sum_of gs

-- the connectives of a rule and its variants
abbrev pub total_of : Guard → List Guard → ℕ
total_of rule variants = connectives rule + sum_of variants

-- guard k of a line: the rule is 0, the variants follow from 1 on
abbrev pub guard_at : Guard → List Guard → ℕ → Guard
guard_at rule vs zero = rule
guard_at rule vs (suc k) = get_or vs k (truth false)

-- the question of the variants i and j
abbrev pub pair_of : Guard → List Guard → ℕ → ℕ → Guard
pair_of rule variants i j = apart rule (guard_at rule variants i) (guard_at rule variants j)
