-- What a line pack says: its fields from the left, a line where no field is at fault, and last the ceiling of the questions put of it.
use Rattle.std.specs.Prelude.{ℕ, ◌+◌, ◌-◌, List, [], ◌∷◌, ◌++◌, length, take, leb, ltb, eqb, true}
use Rattle.ground.specs.Choice.{choose}
use Rattle.notation.specs.Refusals.{fault}
use Rattle.notation.specs.Walk.{Flag}
use Rattle.notation.specs.Guard.{Guard, truth}
use Rattle.notation.specs.Reading as read
use Rattle.notation.specs.Reading.{Reading, reading_from}
use Rattle.notation.specs.declared.refusal.Reason.TheVariants.{ManyConnectives, WrongField, WrongVariants, WrongId}
use Rattle.notation.specs.declared.refusal.Refusal.{Refusal}
use Rattle.fields.specs.Fields.{header, Pieces, end, short, field, pieces_at}
use Rattle.building.specs.Span.{Span}
use Rattle.questions.specs.Questions.{variant_ceiling, questions_of, all_fit}
use Rattle.packs.specs.declared.due.Due.{Due}
use Rattle.packs.specs.declared.due.Due.TheVariants as due
use Rattle.packs.specs.declared.due.Role.{Role}
use Rattle.packs.specs.declared.due.Role.TheVariants as is

-- bytes of a line id
abbrev pub id_ceiling : ℕ
id_ceiling = 16

-- the tags of the fields of a line: its id, its rule, a variant, the text of a variant
abbrev pub id_tag : ℕ
id_tag = 1

abbrev pub rule_tag : ℕ
rule_tag = 2

abbrev pub variant_tag : ℕ
variant_tag = 3

abbrev pub text_tag : ℕ
text_tag = 4

-- a line: its rule, the variants, where their texts stand, and the flags of all its guards by first appearance
pub record Line : Type 0 where
  pub rule : Guard
  pub variants : List Guard
  pub texts : List Span
  pub flags : List Flag

-- the line before its first field; no rule means `#1`
abbrev pub nothing : Line
nothing = record { rule = truth true; variants = []; texts = []; flags = [] }

pub data PackReading : Type 0 where
  refusal : Refusal → PackReading
  line : Line → PackReading

-- the id stands first, at most one rule next, then pairs of variant and text; any other tag, and any of these elsewhere, is wrong
unfoldable pub role_of : Due → ℕ → Role
role_of due.Id tag = choose (eqb tag id_tag) is.Id is.Wrong
role_of due.RuleOrVariant tag = choose (eqb tag rule_tag) is.Rule (choose (eqb tag variant_tag) is.Variant is.Wrong)
role_of due.Variant tag = choose (eqb tag variant_tag) is.Variant is.Wrong
role_of due.Text tag = choose (eqb tag text_tag) is.Text is.Wrong
role_of due.VariantOrEnd tag = choose (eqb tag variant_tag) is.Variant is.Wrong

-- what a field leads to: a refusal, or what is due next and the line so far
pub data Next : Type 0 where
  refused : Refusal → Next
  on : Due → Line → Next

-- a guard's refusal as it stands, or what follows the guard
unfoldable pub with_guard : Reading → (Guard → List Flag → Next) → Next
with_guard (read.refusal k p) next = refused (fault k p)
with_guard (read.guard g u) next = next g u

-- the guard from s to e: its places are those of the pack, and its flags are numbered on from the line's
abbrev pub guard_in : List ℕ → Line → ℕ → ℕ → Reading
guard_in file l s e = reading_from (take e file) s l.flags

-- the line with this rule
abbrev pub ruled : Line → Guard → List Flag → Line
ruled l g u = record { rule = g; variants = l.variants; texts = l.texts; flags = u }

-- the line with one variant more
abbrev pub varied : Line → Guard → List Flag → Line
varied l g u = record { rule = l.rule; variants = l.variants ++ (g ∷ []); texts = l.texts; flags = u }

-- the line with one text more, from s to e
abbrev pub texted : Line → ℕ → ℕ → Line
texted l s e = record { rule = l.rule; variants = l.variants; texts = l.texts ++ (record { start = s; after = e } ∷ []); flags = l.flags }

-- a field at p whose body goes from s to e: a wrong one is refused 13, a 17th variant 14, an id of no byte or of over 16 is refused 15
unfoldable pub step_as : Role → List ℕ → Line → ℕ → ℕ → ℕ → Next
step_as is.Wrong file l p s e = refused (fault WrongField p)
step_as is.Id file l p s e =
    choose (ltb 0 (e - s)) (choose (leb (e - s) id_ceiling) (on due.RuleOrVariant l) (refused (fault WrongId p))) (refused (fault WrongId p))
step_as is.Rule file l p s e = with_guard (guard_in file l s e) (λ g u. on due.Variant (ruled l g u))
step_as is.Variant file l p s e =
    choose (ltb (length l.variants) variant_ceiling) (with_guard (guard_in file l s e) (λ g u. on due.Text (varied l g u))) (refused (fault WrongVariants p))
step_as is.Text file l p s e = on due.VariantOrEnd (texted l s e)

-- the end of the pack at p: 13 where an id or a text is missing, 14 where there is no variant
unfoldable pub end_as : Due → Line → ℕ → PackReading
end_as due.Id l p = refusal (fault WrongField p)
end_as due.RuleOrVariant l p = refusal (fault WrongVariants p)
end_as due.Variant l p = refusal (fault WrongVariants p)
end_as due.Text l p = refusal (fault WrongField p)
end_as due.VariantOrEnd l p = line l

-- the fields from the left: the first that is at fault decides, and a field cut short is refused 13
unfoldable pub pack_from : List ℕ → Due → Line → Pieces → PackReading
pack_from file d l (end p) = end_as d l p
pack_from file d l (short p) = refusal (fault WrongField p)
pack_from file d l (field p tag e rest) =
    elim (step_as (role_of d tag) file l p (p + header) e) [ refused f ↦ refusal f | on d' l' ↦ pack_from file d' l' rest ]

-- last, the ceiling holds for each question put: else 8 at the pack's length
unfoldable pub fitting : PackReading → ℕ → PackReading
fitting (refusal f) n = refusal f
fitting (line l) n = choose (all_fit (questions_of l.rule l.variants)) (line l) (refusal (fault ManyConnectives n))

-- what all fields of a pack say
abbrev pub fields_say : List ℕ → PackReading
fields_say file = pack_from file due.Id nothing (pieces_at file 0)

-- what a pack says: a line, or the refusal of a pack that is none
unfoldable pub pack_read : List ℕ → PackReading
pack_read file = fitting (fields_say file) (length file)
