-- What the fields say from a place on, one field further.
use Prim.Native.Nat.{ℕ, ◌+◌}
use mathlib.Core.Path.{◌≡◌, sym, ap, ◌∙◌}
use mathlib.Core.List.{List}
use Rattle.notation.specs.Refusals.{fault}
use Rattle.notation.specs.declared.refusal.Reason.TheVariants.{WrongField}
use Rattle.notation.specs.declared.refusal.Refusal.{Refusal}
use Rattle.fields.specs.Fields.{header, end, short, field, pieces_at}
use Rattle.packs.specs.Pack.{Line, PackReading, refusal, role_of, Next, refused, on, step_as, end_as, pack_from}
use Rattle.packs.specs.declared.due.Due.{Due}

module _ (file : List ℕ) (d : Due) (l : Line) (at : ℕ) (R : PackReading) (goes : pack_from file d l (pieces_at file at) ≡ R) where
  pub goes-short : pieces_at file at ≡ short at → R ≡ refusal (fault WrongField at)
  unfolding pack_from
  goes-short h = sym goes ∙ ap (pack_from file d l) h

  pub goes_end : pieces_at file at ≡ end at → R ≡ end_as d l at
  unfolding pack_from
  goes_end h = sym goes ∙ ap (pack_from file d l) h

  module _ (tag e : ℕ) (h : pieces_at file at ≡ field at tag e (pieces_at file e)) where
    -- what follows a field, by what it leads to
    then_by : Next → PackReading
    then_by n = elim n [ refused f ↦ refusal f | on d' l' ↦ pack_from file d' l' (pieces_at file e) ]

    by-step : (n : Next) → step_as (role_of d tag) file l at (at + header) e ≡ n → R ≡ then_by n
    unfolding pack_from then_by
    by-step n q = sym goes ∙ ap (pack_from file d l) h ∙ ap then_by q

    pub goes-refused : (f : Refusal) → step_as (role_of d tag) file l at (at + header) e ≡ refused f → R ≡ refusal f
    unfolding then_by
    goes-refused f s = by-step (refused f) s

    pub goes_on : (d' : Due) (l' : Line) → step_as (role_of d tag) file l at (at + header) e ≡ on d' l'
        → pack_from file d' l' (pieces_at file e) ≡ R
    unfolding then_by
    goes_on d' l' s = sym (by-step (on d' l') s)
