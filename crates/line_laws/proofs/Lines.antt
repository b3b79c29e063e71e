-- The line of a pack that is read: its guards have their flags among the pack's, and there is a variant.
use Prim.Native.Nat.{ℕ, zero, suc, ◌+◌, ◌-◌, ◌≤◌, ◌<◌}
use native.Mathlib.Omega.{arith}
use mathlib.Core.Path.{◌≡◌, refl, sym, subst}
use mathlib.Core.Bool.{Bool, true, false}
use mathlib.Core.List.{List, [], ◌∷◌, ◌++◌}
use mathlib.Core.Logic.{⊎_elim}
use lib.ListN.{length, take, length-append}
use lib.Dec.{leb, ltb}
use Rattle.ground.specs.Choice.{choose}
use Rattle.ground.proofs.Cases.{lt-or-ge}
use Rattle.notation.specs.Ceilings.{flag_ceiling}
use Rattle.notation.specs.Refusals.{fault}
use Rattle.notation.specs.Walk.{Flag}
use Rattle.notation.specs.Guard.{Guard, connectives}
use Rattle.notation.specs.Reading as read
use Rattle.notation.specs.Reading.{Reading}
use Rattle.notation.specs.clauses.Shape.{FlagsWithin}
use Rattle.notation.proofs.Numbered.{within_more}
use Rattle.notation.proofs.Accepted.{Accepted, reading-from-accepted}
use Rattle.notation.specs.declared.refusal.Reason.TheVariants.{ManyConnectives, WrongVariants, WrongId}
use Rattle.fields.specs.Fields as fields
use Rattle.fields.specs.Fields.{header, Pieces, pieces_at}
use Rattle.building.specs.Span.{Span}
use Rattle.questions.specs.Questions.{variant_ceiling, questions_of, all_fit}
use Rattle.packs.specs.Pack.{Line, nothing, PackReading, refusal, line, Next, refused, on, with_guard, guard_in, ruled, varied, step_as, role_of}
use Rattle.packs.specs.Pack.{id_ceiling, end_as, pack_from, fields_say, fitting, pack_read}
use Rattle.packs.specs.clauses.Taken.{Stage, guard_of}
use Rattle.packs.specs.declared.due.Due.{Due}
use Rattle.packs.specs.declared.due.Due.TheVariants as due
use Rattle.packs.specs.declared.due.Role.{Role}
use Rattle.packs.specs.declared.due.Role.TheVariants as is
use Rattle.packs.proofs.Stages.{stage-first, stage-rule, stage-variant, stage-text}
use Rattle.packs.proofs.Held.{guard-last, guard-earlier}
use Rattle.line_laws.specs.Promises.{flags_of, ProperLine}

-- what is known of the line on the way: its guards have their flags among those seen, and it is as far as what is due says
record Sound (d : Due) (l : Line) : Type 0 where
  few : flags_of l ≤ flag_ceiling
  within : (k : ℕ) → k ≤ length l.variants → FlagsWithin (flags_of l) (guard_of l k)
  stage : Stage d l

-- what a field leads to is sound
abbrev SoundNext : Next → Type 0
SoundNext (refused f) = Unit {0}
SoundNext (on d l) = Sound d l

-- ---- one more guard
module _ (d : Due) (tag : ℕ) (l : Line) (h : Sound d l) (g : Guard) (u : List Flag) (a : Accepted (length u) g) (more : flags_of l ≤ length u) where
  sound-ruled : role_of d tag ≡ is.Rule → Sound due.Variant (ruled l g u)
  sound-ruled r =
      let first : Stage due.RuleOrVariant l = stage-rule l d tag r h.stage in
      record {
        few = a.few;
        within = λ k b. only k (omega (arith, b, first.1));
        stage = (first.1, first.2);
      }
    where
      only : (k : ℕ) → k ≡ 0 → FlagsWithin (length u) (guard_of (ruled l g u) k)
      only zero e = a.within
      only (suc k) e = absurd (omega arith)

  sound-varied : role_of d tag ≡ is.Variant → Sound due.Text (varied l g u)
  sound-varied r =
      let even : length l.variants ≡ length l.texts = stage-variant l d tag r h.stage in
      let long : length (l.variants ++ (g ∷ [])) ≡ length l.variants + 1 = length-append l.variants (g ∷ []) in
      record {
        few = a.few;
        within = λ k b.
            ⊎_elim
            (λ (c : length l.variants < k).
            let e : k ≡ suc (length l.variants) = omega (arith, b, long) in
            rw (e, guard-last l g u) a.within)
            (λ (c : k ≤ length l.variants).
            rw (guard-earlier l g u k c) (within_more (flags_of l) (length u) (guard_of l k) more (h.within k c)))
            (lt-or-ge (length l.variants) k);
        stage = omega (arith, long, even);
      }

-- ---- one field
module _ (file : List ℕ) (d : Due) (tag : ℕ) (l : Line) (h : Sound d l) where
  -- a guard of the pack, and what follows it
  guarded : (s e : ℕ) (R : Reading) → R ≡ guard_in file l s e → (next : Guard → List Flag → Next)
      → ((g : Guard) (u : List Flag) → Accepted (length u) g → flags_of l ≤ length u → SoundNext (next g u)) → SoundNext (with_guard R next)
  unfolding with_guard
  guarded s e (read.refusal k p) r next n = tt
  guarded s e (read.guard g u) r next n =
      let a : Accepted (length u) g × (flags_of l ≤ length u) = reading-from-accepted l.flags h.few (take e file) s g u (sym r) in
      n g u a.0 a.1

  sound-step : (p s e : ℕ) (r : Role) → role_of d tag ≡ r → SoundNext (step_as r file l p s e)
  unfolding step_as
  sound-step p s e is.Wrong r = tt
  sound-step p s e is.Id r = go (ltb 0 (e - s)) (leb (e - s) id_ceiling)
    where
      go : (a b : Bool) → SoundNext (choose a (choose b (on due.RuleOrVariant l) (refused (fault WrongId p))) (refused (fault WrongId p)))
      go true true = record { few = h.few; within = h.within; stage = stage-first l d tag r h.stage }
      go true false = tt
      go false b = tt
  sound-step p s e is.Rule r =
      guarded s e (guard_in file l s e) refl (λ g u. on due.Variant (ruled l g u)) (λ g u a m. sound-ruled d tag l h g u a m r)
  sound-step p s e is.Variant r = go (ltb (length l.variants) variant_ceiling)
    where
      go : (a : Bool) → SoundNext (choose a (with_guard (guard_in file l s e) (λ g u. on due.Text (varied l g u))) (refused (fault WrongVariants p)))
      go true = guarded s e (guard_in file l s e) refl (λ g u. on due.Text (varied l g u)) (λ g u a m. sound-varied d tag l h g u a m r)
      go false = tt
  sound-step p s e is.Text r =
      let even : length l.variants ≡ length l.texts + 1 = stage-text l d tag r h.stage in
      let one : List Span = record { start = s; after = e } ∷ [] in
      record { few = h.few; within = h.within; stage = (omega (arith, length-append l.texts one, even), omega (arith, even)) }

-- ---- all fields
module _ (file : List ℕ) where
  -- what follows a field, by what it leads to
  led : Pieces → Next → PackReading
  led rest n = elim n [ refused f ↦ refusal f | on d' l' ↦ pack_from file d' l' rest ]

  sound-line : (d : Due) (l m : Line) → l ≡ m → Sound d l → Sound d m
  sound-line d l m e h = subst (λ (x : Line). Sound d x) e h

  sound-end : (d : Due) (l : Line) (p : ℕ) (m : Line) → Sound d l → end_as d l p ≡ line m → Sound due.VariantOrEnd m
  unfolding end_as
  sound-end due.Id l p m h e = let z : ◌≡◌ {A = ℕ} 0 1 = cc in absurd (omega arith)
  sound-end due.RuleOrVariant l p m h e = let z : ◌≡◌ {A = ℕ} 0 1 = cc in absurd (omega arith)
  sound-end due.Variant l p m h e = let z : ◌≡◌ {A = ℕ} 0 1 = cc in absurd (omega arith)
  sound-end due.Text l p m h e = let z : ◌≡◌ {A = ℕ} 0 1 = cc in absurd (omega arith)
  sound-end due.VariantOrEnd l p m h e = let same : l ≡ m = cc in sound-line due.VariantOrEnd l m same h

  sound-from : (d : Due) (l : Line) (ps : Pieces) (m : Line) → Sound d l → pack_from file d l ps ≡ line m → Sound due.VariantOrEnd m
  unfolding pack_from led
  sound-from d l (fields.end p) m h e = sound-end d l p m h e
  sound-from d l (fields.short p) m h e = let z : ◌≡◌ {A = ℕ} 0 1 = cc in absurd (omega arith)
  sound-from d l (fields.field p tag b rest) m h e =
      go (step_as (role_of d tag) file l p (p + header) b) (sound-step file d tag l h p (p + header) b (role_of d tag) refl)
      (λ d' l' h' e'. sound-from d' l' rest m h' e') e
    where
      go : (n : Next) → SoundNext n
          → ((d' : Due) (l' : Line) → Sound d' l' → pack_from file d' l' rest ≡ line m → Sound due.VariantOrEnd m)
          → led rest n ≡ line m → Sound due.VariantOrEnd m
      go (refused f) s rec e' = let z : ◌≡◌ {A = ℕ} 0 1 = cc in absurd (omega arith)
      go (on d' l') s rec e' = rec d' l' s e'

-- the ceiling of the questions changes no line
fitting-line : (x : PackReading) (n : ℕ) (l : Line) → fitting x n ≡ line l → x ≡ line l
unfolding fitting
fitting-line (refusal f) n l e = e
fitting-line (line m) n l e = go (all_fit (questions_of m.rule m.variants)) e
  where
    go : (b : Bool) → choose b (line m) (refusal (fault ManyConnectives n)) ≡ line l → line m ≡ line l
    go true q = q
    go false q = let z : ◌≡◌ {A = ℕ} 0 1 = cc in absurd (omega arith)

sound-nothing : Sound due.Id nothing
unfolding connectives
sound-nothing = record { few = omega arith; within = none; stage = (omega arith, omega arith, omega arith) }
  where
    none : (k : ℕ) → k ≤ 0 → FlagsWithin 0 (guard_of nothing k)
    none zero b = tt
    none (suc k) b = absurd (omega arith)

-- the guards of a pack that is read have their flags among the pack's, which are not over their ceiling, and there is a variant
pub line-proper : (file : List ℕ) (l : Line) → pack_read file ≡ line l → ProperLine l
unfolding pack_read
line-proper file l e =
    let h : Sound due.VariantOrEnd l =
    sound-from file due.Id nothing (pieces_at file 0) l sound-nothing (fitting-line (fields_say file) (length file) l e) in
    record {
      rule = record { few = h.few; within = h.within 0 (omega arith) };
      variants = λ i f b. record { few = h.few; within = h.within i b };
      some = h.stage.1;
    }
