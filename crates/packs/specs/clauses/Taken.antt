-- What the reader of a pack holds on its way, and what storing leaves in its tables.
use Rattle.std.specs.Prelude.{ℕ, suc, ◌+◌, ◌*◌, ◌≤◌, ◌<◌, ◌≡◌, List, length, get_or, take, drop}
use Rattle.notation.specs.Ceilings.{flag_ceiling, connective_ceiling}
use Rattle.notation.specs.Guard.{Guard, connectives}
use Rattle.notation.specs.clauses.Codes.{codes_room, flags_in, InText}
use Rattle.notation.specs.declared.codes.Code.{Code}
use Rattle.fields.specs.Fields.{pieces_at}
use Rattle.building.specs.declared.spans.GuardSpan.{GuardSpan}
use Rattle.building.specs.Span.{Span}
use Rattle.building.specs.clauses.Held.{off_at, count_at, root_at, text_at, HeldAt}
use Rattle.questions.specs.Questions.{variant_ceiling, total_of, guard_at}
use Rattle.questions.specs.clauses.Laying.{spans_room}
use Rattle.packs.specs.Pack.{Line, pack_from, fields_say}
use Rattle.packs.specs.declared.due.Due.{Due}
use Rattle.packs.specs.declared.due.Due.TheVariants as due
use Rattle.packs.specs.declared.steps.Progress.{Progress}

-- guards of a line: the rule and the variants
abbrev pub guard_ceiling : ℕ
guard_ceiling = variant_ceiling + 1

-- the lent tables are as large as any pack wants
pub record Rooms (c : List Code) (p : List ℕ) (s : List GuardSpan) : Type 0 where
  pub codes : length c ≡ codes_room
  pub pool : length p ≡ 3 * connective_ceiling
  pub spans : length s ≡ spans_room

-- guard k of a line: the rule is 0, the variants follow from 1 on
abbrev pub guard_of : Line → ℕ → Guard
guard_of l k = guard_at l.rule l.variants k

-- the connectives of all guards of a line
abbrev pub all_of : Line → ℕ
all_of l = total_of l.rule l.variants

-- no text
abbrev pub nowhere : Span
nowhere = record { start = 0; after = 0 }

-- what is known of the line where a field is due
abbrev pub Stage : Due → Line → Type 0
Stage due.Id l = (connectives l.rule ≡ 0) × (length l.variants ≡ 0) × (length l.texts ≡ 0)
Stage due.RuleOrVariant l = (connectives l.rule ≡ 0) × (length l.variants ≡ 0) × (length l.texts ≡ 0)
Stage due.Variant l = (length l.variants ≡ 0) × (length l.texts ≡ 0)
Stage due.Text l = length l.variants ≡ length l.texts + 1
Stage due.VariantOrEnd l = (length l.variants ≡ length l.texts) × (0 < length l.variants)

-- the line l has been read up to here; its guards stand in the pool where they fit
pub record Taken (file : List ℕ) (codes : List Code) (pool : List ℕ) (spans : List GuardSpan) (p : Progress) (l : Line) : Type 0 where
  pub rooms : Rooms codes pool spans
  pub goes : pack_from file p.due l (pieces_at file p.at) ≡ fields_say file
  pub inside : p.at ≤ length file
  pub seen : flags_in (take p.at file) codes p.flags ≡ l.flags
  pub in_text : InText (take p.at file) codes p.flags
  pub few : p.flags ≤ flag_ceiling
  pub stage : Stage p.due l
  pub variants : p.variants ≡ length l.variants
  pub most : p.variants ≤ variant_ceiling
  pub total : p.total ≡ all_of l
  pub small : p.total ≤ connective_ceiling * (p.variants + 1)
  pub held : p.total ≤ connective_ceiling → (k : ℕ) → k ≤ p.variants → HeldAt p.flags (guard_of l k) p.total k spans pool
  pub texts : (k : ℕ) → k < length l.texts → text_at spans (suc k) ≡ get_or l.texts k nowhere

-- `count` triplets of a table stand behind `total` others in the pool
pub record Kept (from : List ℕ) (count total : ℕ) (pool pool' : List ℕ) : Type 0 where
  pub before : take (3 * total) pool' ≡ take (3 * total) pool
  pub there : take (3 * count) (drop (3 * total) pool') ≡ take (3 * count) from

-- they do where they fit, and the pool keeps its room
pub record KeepSays (from : List ℕ) (count total : ℕ) (pool pool' : List ℕ) : Type 0 where
  pub room : length pool' ≡ 3 * connective_ceiling
  pub kept : total + count ≤ connective_ceiling → Kept from count total pool pool'

-- guard i stands in both tables of spans alike
abbrev pub StandsAlike : ℕ → List GuardSpan → List GuardSpan → Type 0
StandsAlike i spans spans' =
    (off_at spans' i ≡ off_at spans i) × (count_at spans' i ≡ count_at spans i) × (root_at spans' i ≡ root_at spans i)

-- where guard k stands is noted in the table of spans; the other guards stand in it as they did, and all texts
pub record Noted (k o c r : ℕ) (spans spans' : List GuardSpan) : Type 0 where
  pub room : length spans' ≡ spans_room
  pub off : off_at spans' k ≡ o
  pub count : count_at spans' k ≡ c
  pub root : root_at spans' k ≡ r
  pub others : (i : ℕ) → (i ≡ k → ⊥) → StandsAlike i spans spans'
  pub texts : (i : ℕ) → text_at spans' i ≡ text_at spans i

-- where its text stands is; the other texts stand in the table as they did, and all guards
pub record NotedText (k s e : ℕ) (spans spans' : List GuardSpan) : Type 0 where
  pub room : length spans' ≡ spans_room
  pub text : text_at spans' k ≡ record { start = s; after = e }
  pub others : (i : ℕ) → (i ≡ k → ⊥) → text_at spans' i ≡ text_at spans i
  pub guards : (i : ℕ) → StandsAlike i spans spans'
