-- What the pack then says: a depth over its ceiling, a refusal of the pack, and both answers of a line.
use Prim.Native.Nat.{ℕ, ◌*◌, ◌≤◌, ◌<◌}
use mathlib.Core.Path.{◌≡◌, refl, sym, ap, subst, ◌∙◌}
use mathlib.Core.List.{List}
use native.Mathlib.Omega.{arith}
use lib.ListN.{length}
use borrow.Author.Tests.{le-leb, lt-leb}
use Rattle.notation.specs.declared.codes.Code.{Code}
use Rattle.notation.specs.Ceilings.{connective_ceiling}
use Rattle.notation.specs.Refusals.{fault}
use Rattle.notation.specs.declared.refusal.Reason.TheVariants.{HighDepth}
use Rattle.notation.specs.declared.refusal.Refusal.{Refusal}
use Rattle.guard_check.specs.Check.{depth_ceiling}
use Rattle.building.specs.declared.spans.GuardSpan.{GuardSpan}
use Rattle.questions.specs.clauses.Laying.{LineHeld, spans_room}
use Rattle.packs.specs.Pack as pack
use Rattle.packs.specs.Pack.{PackReading, refusal, line, pack_read}
use Rattle.std.specs.Prelude.{Ok, Err}
use Rattle.packs.specs.clauses.Says.{Pack, PackSays}
use Rattle.packs.specs.declared.read.Line.{Line}
use Rattle.pack_check.specs.PackCheck.{asked, PackVerdict, PackReadingSays, PackChecked}
use Rattle.pack_check.specs.clauses.Asking.{Stands, LineAnswered}
use Rattle.pack_check.specs.declared.verdict.LineVerdict.{LineVerdict}

asks-deep : (file : List ℕ) (depth : ℕ) → depth_ceiling < depth → asked file depth ≡ refusal (fault HighDepth 0)
unfolding asked
asks-deep file depth d = rw (lt-leb depth depth_ceiling d)

asks-pack : (file : List ℕ) (depth : ℕ) → depth ≤ depth_ceiling → asked file depth ≡ pack_read file
unfolding asked
asks-pack file depth d = rw (le-leb depth depth_ceiling d)

-- what is said of the reading is said of the pack
says : (file : List ℕ) (depth : ℕ) (x : PackReading) (r : PackVerdict) → asked file depth ≡ x → PackReadingSays x depth r → PackChecked file depth r
says file depth x r e s = subst (λ u. PackReadingSays u depth r) (sym e) s

-- a depth over its ceiling
pub too-deep : (file : List ℕ) (depth : ℕ) → depth_ceiling < depth → (f : Refusal) → f ≡ fault HighDepth 0 → PackChecked file depth (Err f)
too-deep file depth d f e = says file depth (refusal (fault HighDepth 0)) _ (asks-deep file depth d) (ap Err e)

-- the refusal that reading answered is that of the pack
refusal-found : (file : List ℕ) (x : PackReading) (r : Pack) (codes : List Code) (pool : List ℕ) (spans : List GuardSpan)
    → PackSays file x r codes pool spans → (f : Refusal)
    → r ≡ Err f → x ≡ refusal f
refusal-found file (refusal h) r codes pool spans s f e =
    let a : r ≡ Err h = s in
    let b : h ≡ f = cc in
    ap refusal b
refusal-found file (line l) r codes pool spans s f e =
    let a : r ≡ Ok (record { flags = length l.flags; variants = length l.variants }) = s.answer in
    let z : ◌≡◌ {A = ℕ} 0 1 = cc in absurd (omega arith)

-- the line that reading found is that of the pack
pub record LineFound (file : List ℕ) (x : PackReading) (found : Line) (pool : List ℕ) (spans : List GuardSpan) : Type 0 where
  pub its : pack.Line
  pub says : x ≡ line its
  pub flags : found.flags ≡ length its.flags
  pub variants : found.variants ≡ length its.variants
  pub held : LineHeld (length its.flags) its.rule its.variants spans pool
  pub rooms : (length pool ≡ 3 * connective_ceiling) × (length spans ≡ spans_room)

pub line-found : (file : List ℕ) (x : PackReading) (r : Pack) (codes : List Code) (pool : List ℕ) (spans : List GuardSpan)
    → PackSays file x r codes pool spans → (found : Line)
    → r ≡ Ok found → LineFound file x found pool spans
line-found file (refusal h) r codes pool spans s found e =
    let a : r ≡ Err h = s in
    let z : ◌≡◌ {A = ℕ} 0 1 = cc in absurd (omega arith)
line-found file (line l) r codes pool spans s found e =
    let a : r ≡ Ok (record { flags = length l.flags; variants = length l.variants }) = s.answer in
    let b : found ≡ record { flags = length l.flags; variants = length l.variants } = cc in
    record {
      its = l;
      says = refl;
      flags = ap (λ u. u.flags) b;
      variants = ap (λ u. u.variants) b;
      held = s.held;
      rooms = (s.rooms.pool, s.rooms.spans);
    }

-- its guards stand in the pool
pub found-stands : (file : List ℕ) (x : PackReading) (found : Line) (pool : List ℕ) (spans : List GuardSpan) → LineFound file x found pool spans
    → Stands pool spans found.flags found.variants
found-stands file x found pool spans f =
    record {
      rule = f.its.rule;
      vs = f.its.variants;
      held = rw f.flags f.held;
      many = sym f.variants;
    }

module _ (file : List ℕ) (depth : ℕ) (d : depth ≤ depth_ceiling) where
  -- a refusal of the pack is passed on
  pub refused-too : (r : Pack) (codes : List Code) (pool : List ℕ) (spans : List GuardSpan) → PackSays file (pack_read file) r codes pool spans → (f : Refusal)
      → r ≡ Err f → PackChecked file depth (Err f)
  refused-too r codes pool spans s f e =
      says file depth (refusal f) _ (asks-pack file depth d ∙ refusal-found file (pack_read file) r codes pool spans s f e) refl

  -- what is answered of the line in the pool is what the pack says
  pub line-too : (found : Line) (pool : List ℕ) (spans : List GuardSpan) → LineFound file (pack_read file) found pool spans → (v : LineVerdict)
      → LineAnswered pool spans found.flags found.variants depth v → PackChecked file depth (Ok v)
  line-too found pool spans f v a =
      let held : LineHeld found.flags f.its.rule f.its.variants spans pool = rw f.flags f.held in
      says file depth (line f.its) (Ok v) (asks-pack file depth d ∙ f.says)
      (rw (← f.flags)
      (record {
        whole-line = a.0 f.its.rule f.its.variants held (sym f.variants);
        pairs = a.1 f.its.rule f.its.variants held (sym f.variants);
      }))
