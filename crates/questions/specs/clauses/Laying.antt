-- What laying the guards and the questions of a line asks and answers.
use Rattle.std.specs.Prelude.{ℕ, ◌+◌, ◌*◌, ◌≤◌, ◌<◌, ◌≡◌, false, List, length, get_or, take, drop}
use Rattle.notation.specs.Ceilings.{flag_ceiling, connective_ceiling}
use Rattle.notation.specs.Guard.{Guard, truth, connectives}
use Rattle.notation.specs.Triplets.{literal_ceiling}
use Rattle.levels.specs.clauses.Levels.{Writes}
use Rattle.building.specs.declared.spans.GuardSpan.{GuardSpan}
use Rattle.building.specs.clauses.Held.{HeldAt}
use Rattle.questions.specs.Questions.{variant_ceiling, or_all, whole_of, sum_of, total_of, guard_at, pair_of}
use Rattle.questions.specs.declared.Built.{Built}

-- guards of the table of spans: the rule, and each variant
abbrev pub spans_room : ℕ
spans_room = variant_ceiling + 1

-- the lent tables have their rooms
pub record Rooms (p : List ℕ) (s : List GuardSpan) (o : List ℕ) : Type 0 where
  pub pool : length p ≡ 3 * connective_ceiling
  pub spans : length s ≡ spans_room
  pub out : length o ≡ 3 * connective_ceiling

-- a rule and its variants over n flags stand in the pool, and the whole question is within the ceiling
pub record LineHeld (n : ℕ) (rule : Guard) (vs : List Guard) (spans : List GuardSpan) (pool : List ℕ) : Type 0 where
  pub few : n ≤ flag_ceiling
  pub some : 0 < length vs
  pub most : length vs ≤ variant_ceiling
  pub fits : total_of rule vs + length vs ≤ connective_ceiling
  pub held : (k : ℕ) → k ≤ length vs → HeldAt n (guard_at rule vs k) (total_of rule vs) k spans pool

-- guard k of the table stands in the pool
pub record Ready (pool : List ℕ) (spans : List GuardSpan) (k n : ℕ) (g : Guard) : Type 0 where
  pub few : n ≤ flag_ceiling
  pub held : HeldAt n g connective_ceiling k spans pool

-- some guard does, and it finds room behind `before` triplets
pub record LayGuardAsks (pool : List ℕ) (spans : List GuardSpan) (k : ℕ) (out : List ℕ) (before : ℕ) : Type 0 where
  pub n : ℕ
  pub guard : Guard
  pub ready : Ready pool spans k n guard
  pub known : k ≤ variant_ceiling
  pub rooms : Rooms pool spans out
  pub fits : before + connectives guard ≤ connective_ceiling

-- whichever guard does, it is written behind them
pub record LayGuardSays (pool : List ℕ) (spans : List GuardSpan) (k : ℕ) (out : List ℕ) (before : ℕ) (out' : List ℕ) (r : Built) : Type 0 where
  pub room : length out' ≡ 3 * connective_ceiling
  pub writes : (n : ℕ) (g : Guard) → Ready pool spans k n g → before + connectives g ≤ connective_ceiling
      → Writes before r.count out out' g r.root

-- the variants i and j of some line
pub record PairAsks (pool : List ℕ) (spans : List GuardSpan) (i j : ℕ) (out : List ℕ) : Type 0 where
  pub n : ℕ
  pub rule : Guard
  pub vs : List Guard
  pub line : LineHeld n rule vs spans pool
  pub first : 0 < i
  pub second : i < j
  pub last : j ≤ length vs
  pub rooms : Rooms pool spans out

-- whichever line stands there, the question of its pair is written
pub record PairLaid (pool : List ℕ) (spans : List GuardSpan) (i j : ℕ) (out out' : List ℕ) (r : Built) : Type 0 where
  pub room : length out' ≡ 3 * connective_ceiling
  pub writes : (n : ℕ) (rule : Guard) (vs : List Guard) → LineHeld n rule vs spans pool → j ≤ length vs
      → Writes 0 r.count out out' (pair_of rule vs i j) r.root

-- the variants from the second on stand in the pool
abbrev pub Others : List ℕ → List GuardSpan → ℕ → List Guard → Type 0
Others pool spans n hs = (m : ℕ) → m < length hs → Ready pool spans (m + 2) n (get_or hs m (truth false))

-- some variants do, and they find room behind what has been laid
pub record OthersAsk (pool : List ℕ) (spans : List GuardSpan) (variants : ℕ) (out : List ℕ) (start : Built) : Type 0 where
  pub n : ℕ
  pub hs : List Guard
  pub ready : Others pool spans n hs
  pub many : length hs + 1 ≡ variants
  pub most : variants ≤ variant_ceiling
  pub rooms : Rooms pool spans out
  pub fits : start.count + sum_of hs + length hs ≤ connective_ceiling
  pub small : start.root ≤ literal_ceiling

-- whichever variants do, what had been laid is written, joined by `|` to them
pub record OthersLaid (pool : List ℕ) (spans : List GuardSpan) (variants : ℕ) (out : List ℕ) (start : Built) (out' : List ℕ) (r : Built) : Type 0 where
  pub room : length out' ≡ 3 * connective_ceiling
  pub writes : (n c : ℕ) (o : List ℕ) (g : Guard) (hs : List Guard) → Others pool spans n hs → length hs + 1 ≡ variants
      → start.count + sum_of hs + length hs ≤ connective_ceiling
      → Writes c start.count o out g start.root → Writes c r.count o out' (or_all g hs) r.root

-- the same of the variants before variant k, and there is room for the rest
pub record Grown (pool : List ℕ) (spans : List GuardSpan) (variants : ℕ) (out : List ℕ) (start : Built) (out' : List ℕ) (count root k : ℕ) : Type 0 where
  pub m : ℕ
  pub reached : k ≡ m + 2
  pub high : k ≤ variants + 1
  pub room : length out' ≡ 3 * connective_ceiling
  pub small : root ≤ literal_ceiling
  pub bound : (n : ℕ) (hs : List Guard) → Others pool spans n hs → length hs + 1 ≡ variants
      → start.count + sum_of hs + length hs ≤ connective_ceiling
      → count + sum_of (drop m hs) + length (drop m hs) ≤ connective_ceiling
  pub laid : (n c : ℕ) (o : List ℕ) (g : Guard) (hs : List Guard) → Others pool spans n hs → length hs + 1 ≡ variants
      → start.count + sum_of hs + length hs ≤ connective_ceiling
      → Writes c start.count o out g start.root → Writes c count o out' (or_all g (take m hs)) root

-- all the variants of some line
pub record WholeAsks (pool : List ℕ) (spans : List GuardSpan) (variants : ℕ) (out : List ℕ) : Type 0 where
  pub n : ℕ
  pub rule : Guard
  pub vs : List Guard
  pub line : LineHeld n rule vs spans pool
  pub many : length vs ≡ variants
  pub rooms : Rooms pool spans out

-- whichever line stands there, its whole question is written
pub record WholeLaid (pool : List ℕ) (spans : List GuardSpan) (variants : ℕ) (out out' : List ℕ) (r : Built) : Type 0 where
  pub room : length out' ≡ 3 * connective_ceiling
  pub writes : (n : ℕ) (rule : Guard) (vs : List Guard) → LineHeld n rule vs spans pool → length vs ≡ variants
      → Writes 0 r.count out out' (whole_of rule vs) r.root
