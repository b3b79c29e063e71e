-- What a field leads to, by its role, and what is known of the line where a field of that role stands.
use Prim.Native.Nat.{ℕ, ◌+◌, ◌-◌, ◌≤◌, ◌<◌}
use native.Mathlib.Omega.{arith}
use mathlib.Core.Path.{◌≡◌, refl}
use mathlib.Core.Bool.{Bool, true, false}
use mathlib.Core.List.{List}
use lib.ListN.{length}
use lib.Dec.{eqb}
use borrow.Author.Tests.{lt-ltb, le-ltb, le-leb, lt-leb}
use Rattle.ground.specs.Choice.{choose}
use Rattle.notation.specs.Refusals.{fault}
use Rattle.notation.specs.declared.refusal.Reason.TheVariants.{WrongField, WrongVariants, WrongId}
use Rattle.notation.specs.declared.refusal.Refusal.{Refusal}
use Rattle.notation.specs.Walk.{Flag}
use Rattle.notation.specs.Guard.{Guard}
use Rattle.notation.specs.Reading as read
use Rattle.questions.specs.Questions.{variant_ceiling}
use Rattle.packs.specs.Pack.{Line, role_of, refused, on, with_guard, guard_in, ruled, varied, texted, step_as, id_ceiling}
use Rattle.packs.specs.Pack.{id_tag, rule_tag, variant_tag, text_tag}
use Rattle.packs.specs.clauses.Taken.{Stage}
use Rattle.packs.specs.declared.due.Due.{Due}
use Rattle.packs.specs.declared.due.Due.TheVariants as due
use Rattle.packs.specs.declared.due.Role.{Role}
use Rattle.packs.specs.declared.due.Role.TheVariants as is

-- ---- what a field leads to
module _ (file : List ℕ) (l : Line) (p s e : ℕ) where
  pub id-step : 0 < e - s → e - s ≤ id_ceiling → step_as is.Id file l p s e ≡ on due.RuleOrVariant l
  unfolding step_as
  id-step a b = rw (lt-ltb 0 (e - s) a, le-leb (e - s) id_ceiling b)

  pub rule-step : (g : Guard) (u : List Flag) → guard_in file l s e ≡ read.guard g u → step_as is.Rule file l p s e ≡ on due.Variant (ruled l g u)
  unfolding step_as with_guard
  rule-step g u h = rw h

  pub variant_step : (g : Guard) (u : List Flag) → length l.variants < variant_ceiling → guard_in file l s e ≡ read.guard g u
      → step_as is.Variant file l p s e ≡ on due.Text (varied l g u)
  unfolding step_as with_guard
  variant_step g u b h = rw (lt-ltb (length l.variants) variant_ceiling b, h)

  pub text-step : step_as is.Text file l p s e ≡ on due.VariantOrEnd (texted l s e)
  unfolding step_as
  text-step = refl

  pub wrong-step : step_as is.Wrong file l p s e ≡ refused (fault WrongField p)
  unfolding step_as
  wrong-step = refl

  pub empty-step : e - s ≡ 0 → step_as is.Id file l p s e ≡ refused (fault WrongId p)
  unfolding step_as
  empty-step h = rw (le-ltb 0 (e - s) (omega arith))

  pub long-step : id_ceiling < e - s → step_as is.Id file l p s e ≡ refused (fault WrongId p)
  unfolding step_as
  long-step h = rw (lt-ltb 0 (e - s) (omega arith), lt-leb (e - s) id_ceiling h)

  pub full-step : variant_ceiling ≤ length l.variants → step_as is.Variant file l p s e ≡ refused (fault WrongVariants p)
  unfolding step_as
  full-step h = rw (le-ltb (length l.variants) variant_ceiling h)

  pub rule-refused : (f : Refusal) → guard_in file l s e ≡ read.refusal f.reason f.place → step_as is.Rule file l p s e ≡ refused f
  unfolding step_as with_guard
  rule-refused f h = rw h

  pub variant-refused : (f : Refusal) → length l.variants < variant_ceiling → guard_in file l s e ≡ read.refusal f.reason f.place
      → step_as is.Variant file l p s e ≡ refused f
  unfolding step_as with_guard
  variant-refused f b h = rw (lt-ltb (length l.variants) variant_ceiling b, h)

-- ---- where a field of a role stands
-- the roles are told apart by number
order : Role → ℕ
order is.Wrong = 0
order is.Id = 1
order is.Rule = 2
order is.Variant = 3
order is.Text = 4

-- a tag that is either of two other roles has not this one
neither : (x z y : Role) → (order x ≡ order y → ⊥) → (order z ≡ order y → ⊥) → (b : Bool) → choose b x z ≡ y → ⊥
neither x z y n m true h = n (rw h)
neither x z y n m false h = m (rw h)

module _ (l : Line) where
  pub stage-first : (d : Due) (tag : ℕ) → role_of d tag ≡ is.Id → Stage d l → Stage due.RuleOrVariant l
  unfolding role_of order
  stage-first due.Id tag h s = s
  stage-first due.RuleOrVariant tag h s = s
  stage-first due.Variant tag h s = absurd (neither is.Variant is.Wrong is.Id (λ q. omega arith) (λ q. omega arith) (eqb tag variant_tag) h)
  stage-first due.Text tag h s = absurd (neither is.Text is.Wrong is.Id (λ q. omega arith) (λ q. omega arith) (eqb tag text_tag) h)
  stage-first due.VariantOrEnd tag h s = absurd (neither is.Variant is.Wrong is.Id (λ q. omega arith) (λ q. omega arith) (eqb tag variant_tag) h)

  pub stage-rule : (d : Due) (tag : ℕ) → role_of d tag ≡ is.Rule → Stage d l → Stage due.RuleOrVariant l
  unfolding role_of order
  stage-rule due.Id tag h s = s
  stage-rule due.RuleOrVariant tag h s = s
  stage-rule due.Variant tag h s = absurd (neither is.Variant is.Wrong is.Rule (λ q. omega arith) (λ q. omega arith) (eqb tag variant_tag) h)
  stage-rule due.Text tag h s = absurd (neither is.Text is.Wrong is.Rule (λ q. omega arith) (λ q. omega arith) (eqb tag text_tag) h)
  stage-rule due.VariantOrEnd tag h s = absurd (neither is.Variant is.Wrong is.Rule (λ q. omega arith) (λ q. omega arith) (eqb tag variant_tag) h)

  pub stage-variant : (d : Due) (tag : ℕ) → role_of d tag ≡ is.Variant → Stage d l → length l.variants ≡ length l.texts
  unfolding role_of order
  stage-variant due.Id tag h s = omega (arith, s.1, s.2)
  stage-variant due.RuleOrVariant tag h s = omega (arith, s.1, s.2)
  stage-variant due.Variant tag h s = omega (arith, s.0, s.1)
  stage-variant due.Text tag h s = absurd (neither is.Text is.Wrong is.Variant (λ q. omega arith) (λ q. omega arith) (eqb tag text_tag) h)
  stage-variant due.VariantOrEnd tag h s = s.0

  rule-or-variant : (a b : Bool) → choose a is.Rule (choose b is.Variant is.Wrong) ≡ is.Text → ⊥
  unfolding order
  rule-or-variant true b h = neither is.Rule is.Wrong is.Text (λ q. omega arith) (λ q. omega arith) true h
  rule-or-variant false b h = neither is.Variant is.Wrong is.Text (λ q. omega arith) (λ q. omega arith) b h

  pub stage-text : (d : Due) (tag : ℕ) → role_of d tag ≡ is.Text → Stage d l → length l.variants ≡ length l.texts + 1
  unfolding role_of order
  stage-text due.Id tag h s = absurd (neither is.Id is.Wrong is.Text (λ q. omega arith) (λ q. omega arith) (eqb tag id_tag) h)
  stage-text due.RuleOrVariant tag h s = absurd (rule-or-variant (eqb tag rule_tag) (eqb tag variant_tag) h)
  stage-text due.Variant tag h s = absurd (neither is.Variant is.Wrong is.Text (λ q. omega arith) (λ q. omega arith) (eqb tag variant_tag) h)
  stage-text due.Text tag h s = s
  stage-text due.VariantOrEnd tag h s = absurd (neither is.Variant is.Wrong is.Text (λ q. omega arith) (λ q. omega arith) (eqb tag variant_tag) h)
