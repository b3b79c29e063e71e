-- What a tester may rely on where a line pack is answered: whether a variant can be missing, and whether two can stand together.
use Rattle.std.specs.Prelude.{ℕ, ◌^◌, ◌≤◌, ◌<◌, ◌≡◌, true, List, length}
use Rattle.notation.specs.Guard.{Guard}
use Rattle.truth.specs.clauses.Written.{Proper}
use Rattle.truth.specs.Value.{value}
use Rattle.saturation.specs.declared.verdict.Verdict.{Verdict}
use Rattle.saturation.specs.declared.verdict.Verdict.TheVariants.{Covered, Gap, Undecided}
use Rattle.questions.specs.Questions.{whole_of, guard_at, pair_of}
use Rattle.packs.specs.Pack.{Line, line, pack_read}
use Rattle.pack_check.specs.PackCheck.{IsPair, Before}
use Rattle.pack_check.specs.declared.verdict.Overlap.{Overlap}
use Rattle.std.specs.Prelude.{Option, Some, None}

-- how many flags the pack has
abbrev pub flags_of : Line → ℕ
flags_of l = length l.flags

-- variant i of the pack, counted from 1
abbrev pub variant_of : Line → ℕ → Guard
variant_of l i = guard_at l.rule l.variants i

-- the guards of the pack have their flags among the pack's, which are not over their ceiling, and there is a variant
pub record ProperLine (l : Line) : Type 0 where
  pub rule : Proper (flags_of l) l.rule
  pub variants : (i : ℕ) → 0 < i → i ≤ length l.variants → Proper (flags_of l) (variant_of l i)
  pub some : 0 < length l.variants

-- a question put of the pack: the whole one, or that of a pair
pub data Question (l : Line) : Guard → Type 0 where
  whole : Question l (whole_of l.rule l.variants)
  pair : (i j : ℕ) → IsPair l.variants i j → Question l (pair_of l.rule l.variants i j)

-- s is a state of the pack: a number with a bit for each of its flags
abbrev pub IsState : Line → ℕ → Type 0
IsState l s = s < 2 ^ flags_of l

-- the guard g of the pack is true in the state s
abbrev pub Holds : Line → ℕ → Guard → Type 0
Holds l s g = value (flags_of l) s g ≡ true

-- one of the variants holds in s
pub record SomeVariant (l : Line) (s : ℕ) : Type 0 where
  pub number : ℕ
  pub first : 0 < number
  pub last : number ≤ length l.variants
  pub holds : Holds l s (variant_of l number)

-- in the state s the rule holds, and no variant does
pub record Missing (l : Line) (s : ℕ) : Type 0 where
  pub state : IsState l s
  pub rule : Holds l s l.rule
  pub none : SomeVariant l s → ⊥

-- in the state s the rule holds, and the variants i and j do
pub record Together (l : Line) (i j s : ℕ) : Type 0 where
  pub state : IsState l s
  pub rule : Holds l s l.rule
  pub first : Holds l s (variant_of l i)
  pub second : Holds l s (variant_of l j)

-- wherever the rule holds some variant does
abbrev pub NeverMissing : Line → Type 0
NeverMissing l = (s : ℕ) → IsState l s → Holds l s l.rule → SomeVariant l s

-- s is the first state where a variant is missing
pub record FirstMissing (l : Line) (s : ℕ) : Type 0 where
  pub missing : Missing l s
  pub first : (t : ℕ) → Missing l t → s ≤ t

-- the variants i and j stand together in no state
abbrev pub NeverTogether : Line → ℕ → ℕ → Type 0
NeverTogether l i j = (s : ℕ) → Together l i j s → ⊥

-- no two variants stand together in any state
abbrev pub NoneTogether : Line → Type 0
NoneTogether l = (i j : ℕ) → IsPair l.variants i j → NeverTogether l i j

-- i, j is a pair of variants, and no pair before it ever stands together
pub record NoneBefore (l : Line) (i j : ℕ) : Type 0 where
  pub pair : IsPair l.variants i j
  pub before : (a b : ℕ) → IsPair l.variants a b → Before a b i j → NeverTogether l a b

-- i, j is the first pair that can stand together, and s is the first state where it does
pub record FirstTogether (l : Line) (i j s : ℕ) : Type 0 where
  pub before : NoneBefore l i j
  pub together : Together l i j s
  pub first : (t : ℕ) → Together l i j t → s ≤ t

-- what the answer for the whole line means; undecided is said only at a depth below the number of flags
abbrev pub WholeMeans : Line → ℕ → Verdict → Type 0
WholeMeans l depth Covered = NeverMissing l
WholeMeans l depth (Gap s) = FirstMissing l s
WholeMeans l depth Undecided = depth < flags_of l

-- what the answer for the pair i, j means; no pair is named that is covered, and undecided is said only as above
abbrev pub PairMeans : Line → ℕ → ℕ → ℕ → Verdict → Type 0
PairMeans l depth i j (Gap s) = FirstTogether l i j s
PairMeans l depth i j Undecided = NoneBefore l i j × (depth < flags_of l)
PairMeans l depth i j Covered = ⊥

-- what the answer for the pairs means
abbrev pub PairsMean : Line → ℕ → Option Overlap → Type 0
PairsMean l depth None = NoneTogether l
PairsMean l depth (Some o) = PairMeans l depth o.first o.second o.verdict

-- what the two answers for a pack promise: it is read as a line, and of that line both are as they say
pub record Promised (file : List ℕ) (depth : ℕ) (w : Verdict) (o : Option Overlap) : Type 0 where
  pub its : Line
  pub says : pack_read file ≡ line its
  pub whole : WholeMeans its depth w
  pub pairs : PairsMean its depth o
