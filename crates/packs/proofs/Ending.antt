-- Where the reader of a pack begins and ends: the first state, the end of the pack, a field cut short, and the line that was read.
use Rattle.std.specs.Prelude.{Ok, Err, Some, None}
use Prim.Native.Nat.{ℕ, zero, suc, ◌+◌, ◌-◌, ◌≤◌, ◌<◌}
use native.Mathlib.Omega.{arith}
use mathlib.Core.Path.{◌≡◌, refl, sym, ap, ◌∙◌}
use mathlib.Core.Bool.{Bool, true, false}
use mathlib.Core.List.{List}
use mathlib.Core.Logic.{⊎_elim}
use lib.ListN.{length, take}
use lib.Seq.{take_all}
use lib.Dec.{leb, ltb}
use borrow.Author.Tests.{le-leb, lt-leb, ltb-false}
use Rattle.ground.specs.Choice.{choose}
use Rattle.ground.proofs.Cases.{either}
use Rattle.notation.specs.Ceilings.{connective_ceiling}
use Rattle.notation.specs.Guard.{connectives}
use Rattle.notation.specs.Triplets.{literal, triplets, numbers}
use Rattle.notation.specs.clauses.Codes.{flags_in, InText}
use Rattle.notation.specs.declared.codes.Code.{Code}
use Rattle.notation.specs.Refusals.{fault}
use Rattle.notation.specs.declared.refusal.Reason.TheVariants.{ManyConnectives, WrongField}
use Rattle.notation.specs.declared.refusal.Refusal.{Refusal}
use Rattle.notation.proofs.Coding.{flags-length}
use Rattle.reading.proofs.Parsing.{none_seen}
use Rattle.fields.specs.Fields.{header, field_at, length_at}
use Rattle.fields.specs.clauses.Here.{FieldHere, FieldSays}
use Rattle.fields.specs.declared.Field.{Field}
use Rattle.fields.specs.declared.Field.TheVariants as field
use Rattle.fields.proofs.Pieced.{here}
use Rattle.building.specs.declared.spans.GuardSpan.{GuardSpan}
use Rattle.building.specs.clauses.Held.{Held, off_at, count_at, root_at}
use Rattle.questions.specs.Questions.{questions_of, all_fit, sum_of}
use Rattle.questions.proofs.Connectives.{questions-fit}
use Rattle.packs.specs.Pack.{nothing, refusal, end_as, fields_say, fitting, pack_read}
use Rattle.packs.specs.clauses.Taken.{Rooms, Taken, Noted, Stage, guard_of}
use Rattle.packs.specs.clauses.Says.{Going, Whole, end_step, StepSays, LineRead, PackSays}
use Rattle.packs.specs.declared.due.Due.{Due}
use Rattle.packs.specs.declared.due.Due.TheVariants as due
use Rattle.packs.specs.declared.steps.Progress.{Progress}
use Rattle.packs.specs.clauses.Says.{Step}
use Rattle.packs.specs.clauses.Says.{Pack}
use Rattle.packs.proofs.Further.{goes-short, goes_end}
use Rattle.packs.proofs.Taking.{further_to}

-- ---- the end of the pack, and a field that is cut short
ends_there : (file : List ℕ) (at : ℕ) → field_at file at ≡ field.End → length file ≤ at
unfolding field_at
ends_there file at h =
    ⊎_elim
    (λ (z : ltb at (length file) ≡ true). absurd (not_end (leb (at + header + length_at file at) (length file)) _ _ _ (rw z at h)))
    (λ (z : ltb at (length file) ≡ false). ltb-false at (length file) z)
    (either (ltb at (length file)))
  where
    not_end : (b : Bool) (x y z : ℕ) → choose b (field.Whole x y z) field.Cut ≡ field.End → ⊥
    not_end true x y z q = let w : ◌≡◌ {A = ℕ} 0 1 = cc in omega arith
    not_end false x y z q = let w : ◌≡◌ {A = ℕ} 0 1 = cc in omega arith

end_by : (file : List ℕ) (codes : List Code) (pool : List ℕ) (spans : List GuardSpan) (p : Progress) (g : Going file codes pool spans p) → length file ≤ p.at →
    (d : Due) → p.due ≡ d
    → fields_say file ≡ end_as d g.line p.at → StepSays file p (end_step d p.at) codes pool spans
unfolding end_as
end_by file codes pool spans p g b due.Id x m = m
end_by file codes pool spans p g b due.RuleOrVariant x m = m
end_by file codes pool spans p g b due.Variant x m = m
end_by file codes pool spans p g b due.Text x m = m
end_by file codes pool spans p g b due.VariantOrEnd x m =
    record { line = g.line; taken = g.taken; due = x; means = m; ends = omega (arith, g.taken.inside) }

module _ (file : List ℕ) (codes : List Code) (pool : List ℕ) (spans : List GuardSpan) (p : Progress) (g : Going file codes pool spans p) (f : Field)
    (q : f ≡ field_at file p.at) where
  says : FieldSays file p.at f
  says = rw q (here file p.at g.taken.inside)

  pub cut-says : f ≡ field.Cut → fields_say file ≡ refusal (fault WrongField p.at)
  cut-says h = let x : FieldSays file p.at field.Cut = rw h at says in goes-short file p.due g.line p.at _ g.taken.goes x

  pub whole_here : (tag s e : ℕ) → f ≡ field.Whole tag s e → FieldHere file p.at tag s e
  whole_here tag s e h = rw h at says

  at-end : f ≡ field.End → fields_say file ≡ end_as p.due g.line p.at
  at-end h = let x : FieldSays file p.at field.End = rw h at says in goes_end file p.due g.line p.at _ g.taken.goes x

  pub end-says : f ≡ field.End → StepSays file p (end_step p.due p.at) codes pool spans
  end-says h = end_by file codes pool spans p g (ends_there file p.at (sym q ∙ h)) p.due refl (at-end h)

-- ---- the line at the end
module _ (file : List ℕ) (codes : List Code) (pool : List ℕ) (spans : List GuardSpan) (p : Progress) (w : Whole file codes pool spans p) where
  last : Stage due.VariantOrEnd w.line
  last = rw w.due at w.taken.stage

  -- the questions fit where the sum does
  fit : all_fit (questions_of w.line.rule w.line.variants) ≡ leb (p.total + p.variants) connective_ceiling
  fit = questions-fit w.line.rule w.line.variants last.1 ∙ rw (w.taken.total, w.taken.variants)

  pub over-says : connective_ceiling < p.total + p.variants → (r : Pack) → r ≡ Err (fault ManyConnectives p.at)
      → PackSays file (pack_read file) r codes pool spans
  unfolding pack_read fitting
  over-says h r q = rw (w.means, fit, lt-leb (p.total + p.variants) connective_ceiling h, sym w.ends) q

  long : length w.line.flags ≡ p.flags
  long = ap length (sym w.taken.seen) ∙ flags-length (take p.at file) codes p.flags

  all : take p.at file ≡ file
  all = take_all p.at file (omega (arith, w.ends))

  line_read : p.total + p.variants ≤ connective_ceiling → (r : Pack) → r ≡ Ok (record { flags = p.flags; variants = p.variants })
      → LineRead file w.line r codes pool spans
  line_read h r q =
      let t : Taken file codes pool spans p w.line = w.taken in
      let seen : flags_in file codes p.flags ≡ w.line.flags = rw all at t.seen in
      let in_text : InText file codes p.flags = rw all at t.in_text in
      record {
        answer = q ∙ rw (long, t.variants);
        rooms = t.rooms;
        flags = rw long seen;
        in_text = rw long in_text;
        held = record {
          few = omega (arith, long, t.few);
          some = last.1;
          most = omega (arith, t.variants, t.most);
          fits = omega (arith, t.total, t.variants);
          held = λ k b. rw (long, sym t.total) (t.held (omega arith) k (omega (arith, t.variants)));
        };
        matched = sym last.0;
        texts = t.texts;
      }

  pub line-says : p.total + p.variants ≤ connective_ceiling → (r : Pack) → r ≡ Ok (record { flags = p.flags; variants = p.variants })
      → PackSays file (pack_read file) r codes pool spans
  unfolding pack_read fitting
  line-says h r q = rw (w.means, fit, le-leb (p.total + p.variants) connective_ceiling h) (line_read h r q)

-- ---- the start, and a refusal on the way
pub starts : (file : List ℕ) (codes : List Code) (pool : List ℕ) (spans spans' : List GuardSpan) → Rooms codes pool spans → Noted 0 0 0 0 spans spans'
    → Going file codes pool spans' (further_to 0 due.Id 0 0 0)
unfolding connectives flags_in sum_of literal triplets numbers
starts file codes pool spans spans' o w = record {
  line = nothing;
  taken = record {
    rooms = record { codes = o.codes; pool = o.pool; spans = w.room };
    goes = refl;
    inside = omega arith;
    seen = refl;
    in_text = none_seen (take 0 file) codes;
    few = omega arith;
    stage = (refl, refl, refl);
    variants = refl;
    most = omega arith;
    total = refl;
    small = omega arith;
    held = λ h k b. first k b;
    texts = λ k b. absurd (omega arith);
  };
}
  where
    first : (k : ℕ) → k ≤ 0 → Held 0 (guard_of nothing k) 0 (off_at spans' k) (count_at spans' k) (root_at spans' k) pool
    first zero b = record { within = tt; count = w.count; root = w.root; inside = omega (arith, w.off); stands = refl }
    first (suc k) b = absurd (omega arith)

pub refused_says : (file : List ℕ) (codes : List Code) (pool : List ℕ) (spans : List GuardSpan) (f : Refusal) → fields_say file ≡ refusal f
    → PackSays file (pack_read file) (Err f) codes pool spans
unfolding pack_read fitting
refused_says file codes pool spans f h = rw h refl

-- ---- a step's answer taken apart
module _ (file : List ℕ) (p : Progress) (r : Step) (codes : List Code) (pool : List ℕ) (spans : List GuardSpan) (h : StepSays file p r codes pool spans) where
  pub on_of : (q : Progress) → r ≡ (Ok (Some q)) → Going file codes pool spans q × (p.at < q.at)
  on_of q x = rw x at h

  pub ended_of : r ≡ (Ok None) → Whole file codes pool spans p
  ended_of x = rw x at h

  pub refused-of : (f : Refusal) → r ≡ Err f → fields_say file ≡ refusal f
  refused-of f x = rw x at h

  -- the step moved on
  pub less-of : (q : Progress) → r ≡ (Ok (Some q)) → length file - q.at < length file - p.at
  less-of q x = let y : Going file codes pool spans q × (p.at < q.at) = on_of q x in omega (arith, y.1, y.0.taken.inside)
