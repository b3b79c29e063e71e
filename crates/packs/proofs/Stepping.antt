-- What each step over a field answers.
use Rattle.std.specs.Prelude.{Some, Ok, Err}
use Prim.Native.Nat.{ℕ, ◌+◌, ◌-◌, ◌*◌, ◌≤◌, ◌<◌}
use native.Mathlib.Omega.{arith}
use mathlib.Core.Path.{◌≡◌, sym, ap, ◌∙◌}
use mathlib.Core.List.{List}
use mathlib.Core.Logic.{⊎_elim}
use lib.ListN.{length, take}
use Rattle.ground.proofs.Cases.{lt-or-ge}
use Rattle.notation.specs.Ceilings.{connective_ceiling}
use Rattle.notation.specs.Guard.{connectives}
use Rattle.notation.specs.clauses.Codes.{flags_in}
use Rattle.notation.specs.declared.codes.Code.{Code}
use Rattle.notation.specs.Reading.{reading_from}
use Rattle.notation.specs.Refusals.{fault}
use Rattle.notation.specs.declared.refusal.Reason.TheVariants.{WrongField, WrongVariants, WrongId}
use Rattle.notation.specs.declared.refusal.Refusal.{Refusal}
use Rattle.reading.specs.declared.parse.Guard as numbers
use Rattle.reading.specs.Service.{Parsed}
use Rattle.building.specs.declared.spans.GuardSpan.{GuardSpan}
use Rattle.questions.specs.Questions.{variant_ceiling}
use Rattle.packs.specs.Pack.{refusal, refused, guard_in, ruled, varied, texted, step_as, fields_say, id_ceiling}
use Rattle.packs.specs.clauses.Taken.{guard_ceiling, NotedText}
use Rattle.packs.specs.clauses.Says.{StepAsks, GuardAsks, StepSays, GuardTakenSays}
use Rattle.packs.specs.declared.due.Due.{Due}
use Rattle.packs.specs.declared.due.Due.TheVariants as due
use Rattle.packs.specs.declared.due.Role.{Role}
use Rattle.packs.specs.declared.due.Role.TheVariants as is
use Rattle.packs.specs.declared.steps.Progress.{Progress}
use Rattle.packs.proofs.Longer.{longer-in, longer-flags}
use Rattle.packs.proofs.Stages.{wrong-step, empty-step, long-step, full-step, rule-refused, variant-refused}
use Rattle.packs.proofs.Taking.{further_to, taken_refused, taken-id, taken-text, taken-rule, taken-variant}
use Rattle.packs.proofs.Guarded.{says-refused, says-guard}

module _ (file : List ℕ) (codes : List Code) (pool : List ℕ) (spans : List GuardSpan) (p : Progress) (ro : Role) (s e : ℕ)
    (a : StepAsks file codes pool spans p ro s e) where
  onward : p.at < e
  onward = omega (arith, a.field.here.starts, a.field.here.later)

  -- a guard can be read here
  pub guard-asks : (row : ℕ) → row ≤ variant_ceiling → GuardAsks file s e p.flags p.total row codes pool spans
  guard-asks row h = record {
    rooms = a.going.taken.rooms;
    starts = a.field.here.later;
    ends = a.field.here.inside;
    few = a.going.taken.few;
    in_text = longer-in file codes p.at e (omega (arith, onward)) a.field.here.inside p.flags a.going.taken.in_text;
    small = omega (arith, a.going.taken.small, a.going.taken.most);
    known = h;
  }

  refuses : (f : Refusal) → step_as ro file a.going.line p.at s e ≡ refused f → fields_say file ≡ refusal f
  refuses f h = taken_refused file codes pool spans p a.going.line a.going.taken a.field.tag s e a.field.here f ro a.field.role h

  same_flags : flags_in (take e file) codes p.flags ≡ a.going.line.flags
  same_flags =
      longer-flags file codes p.at e (omega (arith, onward)) a.field.here.inside p.flags a.going.taken.in_text ∙ a.going.taken.seen

  same-reading : reading_from (take e file) s (flags_in (take e file) codes p.flags) ≡ guard_in file a.going.line s e
  same-reading = ap (reading_from (take e file) s) same_flags

  -- the sum of all connectives fits a number
  pub adds : (c : ℕ) → c ≤ connective_ceiling → p.total + c ≤ (guard_ceiling + 1) * connective_ceiling
  adds c h = omega (arith, a.going.taken.small, a.going.taken.most)

-- the numbers of the guard that was read are the tree's
on-as : (file : List ℕ) (p : Progress) (e : ℕ) (d : Due) (v n n' c c' : ℕ) (codes : List Code) (pool : List ℕ) (spans : List GuardSpan) → n ≡ n' → c ≡ c'
    → StepSays file p (Ok (Some (further_to e d n' v (p.total + c')))) codes pool spans
    → StepSays file p (Ok (Some (further_to e d n v (p.total + c)))) codes pool spans
on-as file p e d v n n' c c' codes pool spans x y h = rw (x, y) h

module _ (file : List ℕ) (codes : List Code) (pool : List ℕ) (spans : List GuardSpan) (p : Progress) (s e : ℕ) where
  pub wrong-says : StepAsks file codes pool spans p is.Wrong s e → fields_say file ≡ refusal (fault WrongField p.at)
  wrong-says a = refuses file codes pool spans p is.Wrong s e a (fault WrongField p.at) (wrong-step file a.going.line p.at s e)

  module _ (a : StepAsks file codes pool spans p is.Id s e) where
    pub empty-says : e - s ≡ 0 → fields_say file ≡ refusal (fault WrongId p.at)
    empty-says h = refuses file codes pool spans p is.Id s e a (fault WrongId p.at) (empty-step file a.going.line p.at s e h)

    pub long-says : id_ceiling < e - s → fields_say file ≡ refusal (fault WrongId p.at)
    long-says h = refuses file codes pool spans p is.Id s e a (fault WrongId p.at) (long-step file a.going.line p.at s e h)

    pub id-says : (e - s ≡ 0 → ⊥) → e - s ≤ id_ceiling
        → StepSays file p (Ok (Some (further_to e due.RuleOrVariant p.flags p.variants p.total))) codes pool spans
    id-says n h = (
      record {
        line = a.going.line;
        taken =
            taken-id file codes pool spans p a.going.line a.going.taken a.field.tag s e a.field.here a.field.role (some n) h;
      },
      onward file codes pool spans p is.Id s e a,
    )
      where
        some : (e - s ≡ 0 → ⊥) → 0 < e - s
        some m = ⊎_elim (λ (z : 0 < e - s). z) (λ (z : e - s ≤ 0). absurd (m (omega arith))) (lt-or-ge 0 (e - s))

  module _ (a : StepAsks file codes pool spans p is.Text s e) (spans' : List GuardSpan) (w : NotedText p.variants s e spans spans') where
    pub text_says : StepSays file p (Ok (Some (further_to e due.VariantOrEnd p.flags p.variants p.total))) codes pool spans'
    text_says = (
      record {
        line = texted a.going.line s e;
        taken =
            taken-text file codes pool spans p a.going.line a.going.taken a.field.tag s e a.field.here spans' w a.field.role;
      },
      onward file codes pool spans p is.Text s e a,
    )

  module _ (r : Parsed) (codes' : List Code) (pool' : List ℕ) (spans' : List GuardSpan) where
    -- what reading the guard of this field answered, as guard `row` of the line
    abbrev Read : ℕ → Type 0
    Read row =
        GuardTakenSays (reading_from (take e file) s (flags_in (take e file) codes p.flags)) file e row p.total r pool spans codes' pool' spans'

    module _ (a : StepAsks file codes pool spans p is.Rule s e) (h : Read 0) where
      pub rule-says-refused : (f : Refusal) → r ≡ Err f → fields_say file ≡ refusal f
      rule-says-refused f q =
          refuses file codes pool spans p is.Rule s e a f
          (rule-refused file a.going.line p.at s e f
          (sym (same-reading file codes pool spans p is.Rule s e a)
          ∙ says-refused file e 0 p.total r pool spans codes' pool' spans' _ h f q))

      pub rule-says-on : (q : numbers.Guard) → r ≡ Ok q
          → StepSays file p (Ok (Some (further_to e due.Variant q.flags p.variants (p.total + q.count)))) codes' pool' spans'
      rule-says-on q x =
          let y = says-guard file e 0 p.total r pool spans codes' pool' spans'
          (reading_from (take e file) s (flags_in (take e file) codes p.flags)) h q x in
          on-as file p e due.Variant p.variants q.flags (length y.seen) q.count (connectives y.tree) codes' pool' spans'
          y.flags y.count (
            record {
              line = ruled a.going.line y.tree y.seen;
              taken =
                  taken-rule file codes pool spans p a.going.line a.going.taken a.field.tag s e a.field.here y.tree y.seen
                  (sym (same-reading file codes pool spans p is.Rule s e a) ∙ y.is-guard) r codes' y.taken.out pool' spans' y.taken.found
                  y.taken.kept a.field.role y.taken.noted;
            },
            onward file codes pool spans p is.Rule s e a,
          )

    module _ (a : StepAsks file codes pool spans p is.Variant s e) (room : p.variants < variant_ceiling) (h : Read (p.variants + 1)) where
      pub variant-says-refused : (f : Refusal) → r ≡ Err f → fields_say file ≡ refusal f
      variant-says-refused f q =
          refuses file codes pool spans p is.Variant s e a f
          (variant-refused file a.going.line p.at s e f (omega (arith, a.going.taken.variants))
          (sym (same-reading file codes pool spans p is.Variant s e a)
          ∙ says-refused file e (p.variants + 1) p.total r pool spans codes' pool' spans' _ h f q))

      pub variant-says-on : (q : numbers.Guard) → r ≡ Ok q
          → StepSays file p (Ok (Some (further_to e due.Text q.flags (p.variants + 1) (p.total + q.count)))) codes' pool' spans'
      variant-says-on q x =
          let y = says-guard file e (p.variants + 1) p.total r pool spans codes' pool' spans'
          (reading_from (take e file) s (flags_in (take e file) codes p.flags)) h q x in
          on-as file p e due.Text (p.variants + 1) q.flags (length y.seen) q.count (connectives y.tree) codes' pool' spans'
          y.flags y.count (
            record {
              line = varied a.going.line y.tree y.seen;
              taken =
                  taken-variant file codes pool spans p a.going.line a.going.taken a.field.tag s e a.field.here y.tree y.seen
                  (sym (same-reading file codes pool spans p is.Variant s e a) ∙ y.is-guard) r codes' y.taken.out pool' spans' y.taken.found
                  y.taken.kept y.taken.noted a.field.role room;
            },
            onward file codes pool spans p is.Variant s e a,
          )

  pub full-says : StepAsks file codes pool spans p is.Variant s e → variant_ceiling ≤ p.variants → fields_say file ≡ refusal (fault WrongVariants p.at)
  full-says a b =
      refuses file codes pool spans p is.Variant s e a (fault WrongVariants p.at)
      (full-step file a.going.line p.at s e (omega (arith, a.going.taken.variants)))
