-- What check answers of a text: the two ceilings first, then what parse left in the tables.
use Prim.Native.Nat.{ℕ, ◌*◌, ◌≤◌, ◌<◌}
use mathlib.Core.Path.{◌≡◌, refl, sym, subst, ◌∙◌}
use mathlib.Core.List.{List}
use lib.ListN.{length}
use borrow.Author.Tests.{le-leb, lt-leb}
use Rattle.notation.specs.declared.codes.Code.{Code}
use Rattle.notation.specs.Ceilings.{text_ceiling, connective_ceiling}
use Rattle.notation.specs.Walk.{Flag}
use Rattle.notation.specs.Guard.{Guard}
use Rattle.notation.specs.Reading.{Reading, refusal, guard, reading}
use Rattle.notation.specs.declared.refusal.Reason.TheVariants.{LongText, HighDepth}
use Rattle.notation.specs.declared.refusal.Refusal.{Refusal}
use Rattle.reading.specs.declared.parse.Guard as counted
use Rattle.reading.proofs.Serving.{Found}
use Rattle.read_truth.proofs.Begun.{read_flags, read-begins, read-triplets}
use Rattle.guard_check.specs.Check.{depth_ceiling, asked, Checking, ReadingSays, CheckSays}
use Rattle.guard_check.specs.clauses.Deciding.{FromGuard, Decided}
use Rattle.saturation.specs.Answer.{Checked}
use Rattle.saturation.specs.declared.verdict.Verdict.{Verdict}
use Rattle.std.specs.Prelude.{Ok, Err}
use Rattle.guard_check.proofs.Tables.{guard-says}

-- what is said of what was asked is what check says
says : (text : List ℕ) (depth : ℕ) (R : Reading) (r : Checking) → asked text depth ≡ R → ReadingSays R depth r → CheckSays text depth r
says text depth R r e h = subst (λ (x : Reading). ReadingSays x depth r) (sym e) h

pub asks-long : (text : List ℕ) (depth : ℕ) → text_ceiling < length text → asked text depth ≡ refusal LongText text_ceiling
unfolding asked
asks-long text depth h = rw (lt-leb (length text) text_ceiling h)

pub asks-deep : (text : List ℕ) (depth : ℕ) → length text ≤ text_ceiling → depth_ceiling < depth → asked text depth ≡ refusal HighDepth 0
unfolding asked
asks-deep text depth h d = rw (le-leb (length text) text_ceiling h, lt-leb depth depth_ceiling d)

pub asks-text : (text : List ℕ) (depth : ℕ) → length text ≤ text_ceiling → depth ≤ depth_ceiling → asked text depth ≡ reading text
unfolding asked
asks-text text depth h d = rw (le-leb (length text) text_ceiling h, le-leb depth depth_ceiling d)

-- a text over its ceiling
pub too_long : (text : List ℕ) (depth : ℕ) → text_ceiling < length text → CheckSays text depth (Err (record { reason = LongText; place = text_ceiling }))
too_long text depth h = says text depth (refusal LongText text_ceiling) _ (asks-long text depth h) refl

-- a depth over its ceiling
pub too-deep : (text : List ℕ) (depth : ℕ) → length text ≤ text_ceiling → depth_ceiling < depth → CheckSays text depth
    (Err (record { reason = HighDepth; place = 0 }))
too-deep text depth h d = says text depth (refusal HighDepth 0) _ (asks-deep text depth h d) refl

-- a guard in the tables is one that can be decided
abbrev pub from-tables : (text : List ℕ) (codes : List Code) (out : List ℕ) (x : counted.Guard) → Found text (reading text) x codes out →
    length out ≡ 3 * connective_ceiling
    → FromGuard out x.count x.flags x.root
from-tables text codes out x f l =
    record { guard = f.tree; begins = read-begins text x codes out f; room = (read-triplets text x codes out f l).count }

module _ (text : List ℕ) (depth : ℕ) (h : length text ≤ text_ceiling) (d : depth ≤ depth_ceiling) where
  -- a refusal of the text is passed on
  pub refused-too : (f : Refusal) → reading text ≡ refusal f.reason f.place → CheckSays text depth (Err f)
  refused-too f e = says text depth (refusal f.reason f.place) (Err f) (asks-text text depth h d ∙ e) refl

  -- what is said of its guard is said of the text
  pub guard-too : (g : Guard) (u : List Flag) → reading text ≡ guard g u → (v : Verdict) → Checked (length u) g depth v → CheckSays text depth (Ok v)
  guard-too g u e v s = says text depth (guard g u) (Ok v) (asks-text text depth h d ∙ e) s

  -- what is decided of the tables is the verdict on the text
  pub tables-say : (codes : List Code) (out : List ℕ) (x : counted.Guard) (f : Found text (reading text) x codes out) (l : length out ≡ 3 * connective_ceiling)
      (v : Verdict) → Decided out x.count x.flags x.root depth v → CheckSays text depth (Ok v)
  tables-say codes out x f l v a =
      let s : Checked x.flags f.tree depth v =
      guard-says out x.count x.flags x.root (from-tables text codes out x f l) depth v a in
      guard-too f.tree f.flags f.says v (rw (read_flags text x codes out f) at s)
