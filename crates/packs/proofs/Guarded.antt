-- A guard of the pack: what reading it asks of the reader, and what its answer says.
use Rattle.std.specs.Prelude.{Ok, Err}
use Prim.Native.Nat.{ℕ, ◌-◌, ◌*◌, ◌≤◌}
use native.Mathlib.Omega.{arith}
use native.Mathlib.Nat.{sub-zero}
use mathlib.Core.Path.{◌≡◌, refl, ap, subst}
use mathlib.Core.List.{List}
use lib.ListN.{length, take}
use lib.Seq.{length-take-le}
use Rattle.notation.specs.Ceilings.{flag_ceiling, connective_ceiling}
use Rattle.notation.specs.Walk.{Flag}
use Rattle.notation.specs.Guard.{Guard, connectives}
use Rattle.notation.specs.Triplets.{literal}
use Rattle.notation.specs.clauses.Codes.{codes_room, flags_in, InText}
use Rattle.notation.specs.declared.codes.Code.{Code}
use Rattle.notation.specs.Reading as read
use Rattle.notation.specs.Reading.{Reading, reading_from}
use Rattle.notation.specs.declared.refusal.Refusal.{Refusal}
use Rattle.reading.specs.Service.{guard_with}
use Rattle.notation.specs.Refusals.{fault}
use Rattle.reading.specs.clauses.Parsing.{ParseSays}
use Rattle.reading.specs.declared.parse.Guard as numbers
use Rattle.reading.specs.Service.{Parsed}
use Rattle.building.specs.declared.spans.GuardSpan.{GuardSpan}
use Rattle.packs.specs.clauses.Taken.{KeepSays, Noted}
use Rattle.packs.specs.clauses.Says.{GuardAsks, GuardTaken, GuardTakenSays}
use Rattle.packs.proofs.Longer.{fewer}

-- ---- what the answer says
module _ (file : List ℕ) (e row total : ℕ) (r : Parsed) (pool : List ℕ) (spans : List GuardSpan) (codes' : List Code)
    (pool' : List ℕ) (spans' : List GuardSpan) where
  abbrev pub Answers : Reading → Type 0
  Answers R = GuardTakenSays R file e row total r pool spans codes' pool' spans'

  pub says-refused : (R : Reading) → Answers R → (f : Refusal) → r ≡ Err f → R ≡ read.refusal f.reason f.place
  says-refused (read.refusal k d) h f q = let same : fault k d ≡ f = cc in ap (λ (y : Refusal). read.refusal y.reason y.place) same
  says-refused (read.guard g u) h f q = let a = h.found.answer in let z : ◌≡◌ {A = ℕ} 0 1 = cc in absurd (omega arith)

  -- the guard that these numbers are of
  pub record Read (R : Reading) (q : numbers.Guard) : Type 0 where
    pub tree : Guard
    pub seen : List Flag
    pub is-guard : R ≡ read.guard tree seen
    pub taken : GuardTaken file e row total tree seen r pool spans codes' pool' spans'
    pub flags : q.flags ≡ length seen
    pub count : q.count ≡ connectives tree

  pub says-guard : (R : Reading) → Answers R → (q : numbers.Guard) → r ≡ Ok q → Read R q
  says-guard (read.refusal k d) h q x = let z : ◌≡◌ {A = ℕ} 0 1 = cc in absurd (omega arith)
  says-guard (read.guard g u) h q x =
      let a : r ≡ guard_with (length u) (connectives g) (literal 0 g) = h.found.answer in
      let same : q ≡ record { flags = length u; count = connectives g; root = literal 0 g } = cc in
      record {
        tree = g;
        seen = u;
        is-guard = refl;
        taken = h;
        flags = ap (λ (y : numbers.Guard). y.flags) same;
        count = ap (λ (y : numbers.Guard). y.count) same;
      }

  pub count_small : (R : Reading) → Answers R → (q : numbers.Guard) → r ≡ Ok q → q.count ≤ connective_ceiling
  count_small R h q x = let y = says-guard R h q x in omega (arith, y.count, y.taken.found.short)

-- ---- what reading it does
-- what the reader of a guard asks, from any place of it before its end, and with any of the codes seen
pub parse-asks : (file : List ℕ) (s e flags total row : ℕ) (codes : List Code) (pool : List ℕ) (spans : List GuardSpan)
    → GuardAsks file s e flags total row codes pool spans
    → (from : ℕ) → from ≤ s → (n : ℕ) → n ≤ flags
    → ((length codes ≡ codes_room) × (◌≡◌ {A = ℕ} (3 * connective_ceiling) (3 * connective_ceiling)))
    × (((from ≤ length (take (e - 0) file)) × (n ≤ flag_ceiling)) × InText (take (e - 0) file) codes n)
parse-asks file s e flags total row codes pool spans a from b n h =
    let long : length (take e file) ≡ e = length-take-le e file a.ends in
    rw (sub-zero e)
    ((a.rooms.codes, refl), ((omega (arith, long, a.starts), omega (arith, a.few)), fewer (take e file) codes n flags h a.in_text))

module _ (file : List ℕ) (e row total s n : ℕ) (codes codes' : List Code) (out : List ℕ) (r : Parsed) where
  pub parsed-small : (R : Reading) (text : List ℕ) → ParseSays text R r codes' out → (q : numbers.Guard) → r ≡ Ok q
      → (q.count ≤ connective_ceiling) × (length out ≡ 3 * connective_ceiling)
  parsed-small (read.refusal k d) text h q x = let z : ◌≡◌ {A = ℕ} 0 1 = cc in absurd (omega arith)
  parsed-small (read.guard g u) text h q x =
      let a : r ≡ guard_with (length u) (connectives g) (literal 0 g) = h.answer in
      let same : q ≡ record { flags = length u; count = connectives g; root = literal 0 g } = cc in
      let count : q.count ≡ connectives g = ap (λ (y : numbers.Guard). y.count) same in
      (omega (arith, h.short), h.room)

  module _ (pool : List ℕ) (spans : List GuardSpan) (pool' : List ℕ) (spans' : List GuardSpan) where
    refused-taken : (R : Reading) → ParseSays (take e file) R r codes' out → (f : Refusal) → r ≡ Err f
        → GuardTakenSays R file e row total r pool spans codes' pool' spans'
    refused-taken (read.refusal k d) h f x = h
    refused-taken (read.guard g u) h f x =
        let a : r ≡ guard_with (length u) (connectives g) (literal 0 g) = h.answer in
        let z : ◌≡◌ {A = ℕ} 0 1 = cc in absurd (omega arith)

    guard-taken : (R : Reading) → ParseSays (take e file) R r codes' out → (q : numbers.Guard) → r ≡ Ok q
        → KeepSays out q.count total pool pool' → Noted row total q.count q.root spans spans'
        → GuardTakenSays R file e row total r pool spans codes' pool' spans'
    guard-taken (read.refusal k d) h q x w v = h
    guard-taken (read.guard g u) h q x w v =
        let a : r ≡ guard_with (length u) (connectives g) (literal 0 g) = h.answer in
        let same : q ≡ record { flags = length u; count = connectives g; root = literal 0 g } = cc in
        let count : q.count ≡ connectives g = ap (λ (y : numbers.Guard). y.count) same in
        let root : q.root ≡ literal 0 g = ap (λ (y : numbers.Guard). y.root) same in
        record { out = out; found = h; kept = rw count at w; noted = rw (count, root) at v }

    abbrev Parses : ℕ → Type 0
    Parses b = ParseSays (take b file) (reading_from (take b file) s (flags_in (take b file) codes n)) r codes' out

    abbrev Takes : Parsed → Type 0
    Takes y = GuardTakenSays (reading_from (take e file) s (flags_in (take e file) codes n)) file e row total y pool spans codes' pool' spans'

    pub parsed-refused : Parses (e - 0) → (f : Refusal) → r ≡ Err f → Takes r
    parsed-refused h f x =
        refused-taken (reading_from (take e file) s (flags_in (take e file) codes n)) (subst (λ (b : ℕ). Parses b) (sub-zero e) h) f x

    pub parsed-guard : Parses (e - 0) → (q : numbers.Guard) → r ≡ Ok q
        → KeepSays out q.count total pool pool' → Noted row total q.count q.root spans spans'
        → Takes (Ok q)
    parsed-guard h q x w v =
        subst (λ (y : Parsed). Takes y) x
        (guard-taken (reading_from (take e file) s (flags_in (take e file) codes n)) (subst (λ (b : ℕ). Parses b) (sub-zero e) h) q x w v)
