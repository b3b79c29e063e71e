-- The outline's examples of check, by computation.
use Prim.Native.Nat.{ℕ, ◌+◌, ◌*◌, ◌≤◌}
use mathlib.Core.Path.{◌≡◌, refl}
use mathlib.Core.Bool.{true, false}
use mathlib.Core.List.{List, [], ◌∷◌}
use native.Mathlib.Omega.{arith}
use lib.ListN.{length}
use Rattle.notation.specs.Tokens.{same, implies, or, and}
use Rattle.notation.specs.Guard.{Guard, flag, negated, joined, connectives}
use Rattle.notation.specs.Triplets.{triplet_variable, negation, triplet_of, literal_of, literal, triplets}
use Rattle.truth.specs.Connectives.{table, gate}
use Rattle.truth.specs.Value.{value}
use Rattle.ground.specs.Bits.{bit}
use Rattle.steps.specs.Table.{entry, follows, pattern}
use Rattle.saturation.specs.Saturation.{Flags}
use Rattle.truth.specs.clauses.Written.{Proper}
use Rattle.saturation.specs.Answer.{flag_as, flags_as, Refuted, Checked}
use Rattle.notation.specs.clauses.Writing.{signed}
use Rattle.starred.proofs.Sketches.{Binding, replaced, lead, sketched}
use Rattle.starred.proofs.Certificates.{joined as joins, named, stepped, passed, rested, begun, refutes, unmoved, holding, run-refutes, sketch-stands}
use Rattle.saturation.proofs.Depth.{Among}
use Rattle.saturation.specs.declared.verdict.Verdict.TheVariants.{Covered, Gap, Undecided}
use Rattle.saturation.proofs.Verdicts.{not-refuted}
use Rattle.saturation.proofs.Confirmed.{confirmed}

refuted-by : (n : ℕ) (g : Guard) (passes : ℕ) (fs : List ℕ) (k : ℕ) (ls : List ℕ) → length fs ≤ k → Among (Flags n) fs
    → refutes passes fs (triplets 0 g) (begun (negation (literal 0 g) ∷ ls)) ≡ true → Refuted (Flags n) (triplets 0 g) (literal 0 g) k ls
refuted-by n g passes fs k ls h d e = run-refutes (Flags n) (triplets 0 g) passes fs k (negation (literal 0 g) ∷ ls) h d e

not-refuted-by : (n : ℕ) (g : Guard) (bs : List Binding) (ls : List ℕ) → unmoved 0 (triplets 0 g) bs ≡ true
    → holding bs (negation (literal 0 g) ∷ ls) ≡ true → Refuted (Flags n) (triplets 0 g) (literal 0 g) 0 ls → ⊥
not-refuted-by n g bs ls u h = sketch-stands (Flags n) (triplets 0 g) bs (negation (literal 0 g) ∷ ls) u h

abbrev bound : ℕ → ℕ → Binding
bound v l = record { variable = v; literal = l }

-- `(A&B)|(!A|!B)`
abbrev pub both-or-not : Guard
both-or-not = joined or (joined and (flag 1) (flag 2)) (joined or (negated (flag 1)) (negated (flag 2)))

pub both-or-not-covered : Checked 2 both-or-not 0 Covered
unfolding refutes begun rested passed stepped named joins signed replaced lead sketched entry follows pattern gate table triplets literal triplet_of literal_of
    connectives negation
both-or-not-covered = refuted-by 2 both-or-not 3 [] 0 [] (omega arith) tt refl

-- `(p>q)=(!q>!p)`
abbrev pub contraposed : Guard
contraposed = joined same (joined implies (flag 1) (flag 2)) (joined implies (negated (flag 2)) (negated (flag 1)))

pub contraposed-covered : Checked 2 contraposed 1 Covered
unfolding refutes begun rested passed stepped named joins signed replaced lead sketched entry follows pattern gate table triplets literal triplet_of literal_of
    connectives negation
contraposed-covered = refuted-by 2 contraposed 2 (1 ∷ []) 1 [] (omega arith) ((omega arith, omega arith), tt) refl

-- at depth 0 the root leaves both flags open, each is found to be 1, and that is contradictory
pub contraposed-undecided : Checked 2 contraposed 0 Undecided
unfolding refutes begun rested passed stepped named joins signed replaced lead sketched entry follows pattern gate table triplets literal triplet_of literal_of
    connectives negation unmoved holding flags_as
contraposed-undecided = (
  not-refuted-by 2 contraposed (bound (triplet_variable 3) 1 ∷ bound (triplet_variable 2) (2 * triplet_variable 1 + 1) ∷ []) [] refl refl,
  (
    3,
    (
      (refl, (λ o. refuted-by 2 contraposed 2 [] 0 (flag_as 1 0 ∷ []) (omega arith) tt refl, λ r. refl)),
      (λ o. refuted-by 2 contraposed 2 [] 0 (flag_as 2 0 ∷ flag_as 1 1 ∷ []) (omega arith) tt refl, λ r. refl),
    ),
    refuted-by 2 contraposed 2 [] 0 (flag_as 2 1 ∷ flag_as 1 1 ∷ []) (omega arith) tt refl,
  ),
)

-- `!a&((p>q)=(!q>!p))`
abbrev pub unless-a : Guard
unless-a = joined and (negated (flag 1)) (joined same (joined implies (flag 2) (flag 3)) (joined implies (negated (flag 3)) (negated (flag 2))))

unless-a-proper : Proper 3 unless-a
unless-a-proper =
    record {
      few = omega arith;
      within = (
        (omega arith, omega arith),
        (
          ((omega arith, omega arith), (omega arith, omega arith)),
          ((omega arith, omega arith), (omega arith, omega arith)),
        ),
      );
    }

gap-4 : value 3 4 unless-a ≡ false
unfolding value table bit
gap-4 = refl

-- at depth 0 the flag a as 0 is not refuted, and then both others are found to be 1
pub unless-a-undecided : Checked 3 unless-a 0 Undecided
unfolding refutes begun rested passed stepped named joins signed replaced lead sketched entry follows pattern gate table triplets literal triplet_of literal_of
    connectives negation unmoved holding flags_as
unless-a-undecided = (
  not-refuted (Flags 3) 3 unless-a unless-a-proper 0 4 [] gap-4 tt,
  (
    3,
    (
      (
        (
          refl,
          (
            λ o. absurd (omega arith),
            λ r. absurd (not-refuted-by 3 unless-a
                (bound 1 1 ∷ bound (triplet_variable 4) 0 ∷ bound (triplet_variable 3) 1 ∷ bound (triplet_variable 2) (2 * triplet_variable 1 + 1) ∷ [])
                (flag_as 1 0 ∷ []) refl refl r),
          ),
        ),
        (λ o. refuted-by 3 unless-a 3 [] 0 (flag_as 2 0 ∷ flag_as 1 0 ∷ []) (omega arith) tt refl, λ r. refl),
      ),
      (λ o. refuted-by 3 unless-a 3 [] 0 (flag_as 3 0 ∷ flag_as 2 1 ∷ flag_as 1 0 ∷ []) (omega arith) tt refl, λ r. refl),
    ),
    refuted-by 3 unless-a 3 [] 0 (flag_as 3 1 ∷ flag_as 2 1 ∷ flag_as 1 0 ∷ []) (omega arith) tt refl,
  ),
)

-- at depth 1 a split on p refutes a as 0
pub unless-a-gap : Checked 3 unless-a 1 (Gap 4)
unfolding refutes begun rested passed stepped named joins signed replaced lead sketched entry follows pattern gate table triplets literal triplet_of literal_of
    connectives negation flags_as
unless-a-gap =
    confirmed (Flags 3) 3 unless-a unless-a-proper 1 4 gap-4 (
      (
        (refl, λ o. refuted-by 3 unless-a 3 (2 ∷ []) 1 (flag_as 1 0 ∷ []) (omega arith) ((omega arith, omega arith), tt) refl),
        λ o. absurd (omega arith),
      ),
      λ o. absurd (omega arith),
    )
