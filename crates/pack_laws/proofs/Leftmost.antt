-- The refusal of a pack is one of its faults; of all of them it is the leftmost, and at its place the one with the lowest number.
use Prim.Native.Nat.{ℕ, zero, suc, ◌+◌, ◌-◌, ◌≤◌, ◌<◌}
use native.Mathlib.Omega.{arith}
use native.Mathlib.Nat.{add-zero}
use mathlib.Core.Path.{◌≡◌, refl, sym, ap, subst, ◌∙◌}
use mathlib.Core.Bool.{Bool, true, false}
use mathlib.Core.List.{List, [], ◌∷◌}
use mathlib.Core.Logic.{◌⊎◌, inl, inr, ⊎_elim}
use lib.ListN.{length, take}
use lib.Dec.{leb, ltb}
use borrow.Author.Tests.{leb-true}
use Rattle.ground.specs.Choice.{choose}
use Rattle.ground.proofs.Cases.{lt-or-ge}
use Rattle.notation.specs.Numbers.{number_of}
use Rattle.notation.specs.Refusals.{fault}
use Rattle.notation.specs.declared.refusal.Reason.{Reason}
use Rattle.notation.specs.declared.refusal.Reason.TheVariants.{WrongField, WrongVariants, WrongId}
use Rattle.notation.specs.declared.refusal.Refusal.{Refusal}
use Rattle.notation.specs.Walk.{Flag}
use Rattle.notation.specs.Guard.{Guard}
use Rattle.notation.specs.Reading as read
use Rattle.notation.specs.Reading.{Reading, reading_from}
use Rattle.fields.specs.Fields as fields
use Rattle.fields.specs.Fields.{header, Pieces, pieces_from, pieces_at, said}
use Rattle.questions.specs.Questions.{variant_ceiling}
use Rattle.packs.specs.Pack.{Line, nothing, PackReading, refusal, line, Next, refused, on, with_guard, guard_in, ruled, varied, texted, step_as, role_of}
use Rattle.packs.specs.Pack.{end_as, pack_from, fields_say, id_ceiling}
use Rattle.packs.specs.declared.due.Due.{Due}
use Rattle.packs.specs.declared.due.Due.TheVariants as due
use Rattle.packs.specs.declared.due.Role.{Role}
use Rattle.packs.specs.declared.due.Role.TheVariants as is
use Rattle.pack_laws.specs.Faults.{ByStep, FaultIn, FaultOf, NotAfter}
use Rattle.pack_laws.proofs.Places.{last_of_guard, Inside, guard-place}

-- the lowest number that a field is refused with
abbrev first_of_field : ℕ
first_of_field = 13

-- ---- the fields stand one after the other
-- from a on: each starts where the one before it ends
abbrev Ascending : ℕ → Pieces → Type 0
Ascending a (fields.end p) = p ≡ a
Ascending a (fields.short p) = p ≡ a
Ascending a (fields.field p tag e rest) = (p ≡ a) × (a + header ≤ e) × Ascending e rest

-- what follows a tag, by whether the field lies in the file
branch : ℕ → ℕ → List ℕ → Bool → Pieces
branch p t bs b = elim b [ true ↦ fields.field p t (p + header + said bs) (pieces_from (suc p) (2 + said bs) bs) | false ↦ fields.short p ]

-- where k bytes belong to a field already cut, the next one starts after them
pieces-ascend : (p k : ℕ) (bs : List ℕ) → k ≤ length bs → Ascending (p + k) (pieces_from p k bs)
unfolding pieces_from branch
pieces-ascend p k [] h = omega arith
pieces-ascend p zero (t ∷ bs) h = rw (add-zero p) (go (leb (2 + said bs) (length bs)) refl (λ k. pieces-ascend (suc p) (2 + said bs) bs k))
  where
    go : (b : Bool) → leb (2 + said bs) (length bs) ≡ b
        → (2 + said bs ≤ length bs → Ascending (suc p + (2 + said bs)) (pieces_from (suc p) (2 + said bs) bs)) → Ascending p (branch p t bs b)
    go true e rec =
        let long : 2 + said bs ≤ length bs = leb-true (2 + said bs) (length bs) e in
        let same : suc p + (2 + said bs) ≡ p + header + said bs = omega arith in
        (refl, omega arith, subst (λ (a : ℕ). Ascending a (pieces_from (suc p) (2 + said bs) bs)) same (rec long))
    go false e rec = refl
pieces-ascend p (suc k) (b ∷ bs) h =
    let same : suc p + k ≡ p + suc k = omega arith in
    subst (λ (a : ℕ). Ascending a (pieces_from (suc p) k bs)) same (pieces-ascend (suc p) k bs (omega arith))

-- ---- the place of a field's refusal: the field's own, or one in its guard
abbrev StepPlace : ℕ → ℕ → Refusal → Type 0
StepPlace p e f = ((f.place ≡ p) × (first_of_field ≤ number_of f.reason)) ⊎ ((p < f.place) × (f.place ≤ e) × (number_of f.reason ≤ last_of_guard))

guarded : (file : List ℕ) (p e : ℕ) (u : List Flag) (R : Reading) → R ≡ reading_from (take e file) (p + header) u → p + header ≤ e
    → (next : Guard → List Flag → Next) → ((g : Guard) (v : List Flag) (f : Refusal) → next g v ≡ refused f → ⊥) → (f : Refusal)
    → with_guard R next ≡ refused f → StepPlace p e f
unfolding with_guard
guarded file p e u (read.refusal k q) r h next n f x =
    let same : fault k q ≡ f = cc in
    let a : Inside (p + header) e f = guard-place file (p + header) e u f h (sym r ∙ ap (λ (y : Refusal). read.refusal y.reason y.place) same) in
    inr (omega (arith, a.0), a.1, a.2)
guarded file p e u (read.guard g v) r h next n f x = absurd (n g v f x)

same-fault : (k : Reason) (p e : ℕ) (f : Refusal) → refused (fault k p) ≡ refused f → first_of_field ≤ number_of k → StepPlace p e f
same-fault k p e f x b = let same : fault k p ≡ f = cc in subst (λ (g : Refusal). StepPlace p e g) same (inl (refl, b))

never-refused : (d : Due) (l : Line) (f : Refusal) → on d l ≡ refused f → ⊥
never-refused d l f x = let z : ◌≡◌ {A = ℕ} 0 1 = cc in omega arith

step-place : (file : List ℕ) (l : Line) (p e : ℕ) (r : Role) (f : Refusal) → p + header ≤ e → step_as r file l p (p + header) e ≡ refused f
    → StepPlace p e f
unfolding step_as
step-place file l p e is.Wrong f h x = same-fault WrongField p e f x (omega arith)
step-place file l p e is.Id f h x = go (ltb 0 (e - (p + header))) (leb (e - (p + header)) id_ceiling) x
  where
    go : (a b : Bool) → choose a (choose b (on due.RuleOrVariant l) (refused (fault WrongId p))) (refused (fault WrongId p)) ≡ refused f → StepPlace p e f
    go true true y = absurd (never-refused due.RuleOrVariant l f y)
    go true false y = same-fault WrongId p e f y (omega arith)
    go false b y = same-fault WrongId p e f y (omega arith)
step-place file l p e is.Rule f h x =
    guarded file p e l.flags (guard_in file l (p + header) e) refl h (λ g u. on due.Variant (ruled l g u))
    (λ g u f y. never-refused due.Variant (ruled l g u) f y) f x
step-place file l p e is.Variant f h x = go (ltb (length l.variants) variant_ceiling) x
  where
    go : (a : Bool) → choose a (with_guard (guard_in file l (p + header) e) (λ g u. on due.Text (varied l g u))) (refused (fault WrongVariants p)) ≡ refused f
        → StepPlace p e f
    go true y =
        guarded file p e l.flags (guard_in file l (p + header) e) refl h (λ g u. on due.Text (varied l g u))
        (λ g u f z. never-refused due.Text (varied l g u) f z) f y
    go false y = same-fault WrongVariants p e f y (omega arith)
step-place file l p e is.Text f h x = absurd (never-refused due.VariantOrEnd (texted l (p + header) e) f x)

-- ---- every fault from a place on lies there or later, and at that place it is none of a guard's
abbrev AtPlace : ℕ → Refusal → Type 0
AtPlace p f = (f.place ≡ p) × (first_of_field ≤ number_of f.reason)

at_place : (k : Reason) (p : ℕ) (f : Refusal) → refusal (fault k p) ≡ refusal f → first_of_field ≤ number_of k → AtPlace p f
at_place k p f x b = let same : fault k p ≡ f = cc in subst (λ (g : Refusal). AtPlace p g) same (refl, b)

end-place : (d : Due) (l : Line) (p : ℕ) (f : Refusal) → end_as d l p ≡ refusal f → AtPlace p f
unfolding end_as
end-place due.Id l p f x = at_place WrongField p f x (omega arith)
end-place due.RuleOrVariant l p f x = at_place WrongVariants p f x (omega arith)
end-place due.Variant l p f x = at_place WrongVariants p f x (omega arith)
end-place due.Text l p f x = at_place WrongField p f x (omega arith)
end-place due.VariantOrEnd l p f x = let z : ◌≡◌ {A = ℕ} 0 1 = cc in absurd (omega arith)

abbrev Later : ℕ → Refusal → Type 0
Later a f = (a < f.place) ⊎ AtPlace a f

module _ (file : List ℕ) where
  later : (d : Due) (l : Line) (ps : Pieces) (a : ℕ) (f : Refusal) → Ascending a ps → FaultIn file d l ps f → Later a f
  later d l (fields.end p) a f h x = let y : AtPlace p f = end-place d l p f x in inr (y.0 ∙ h, y.1)
  later d l (fields.short p) a f h x = inr (rw x h, rw x (omega arith))
  later d l (fields.field p tag e rest) a f h x =
      go (step_as (role_of d tag) file l p (p + header) e) refl (λ d' l' x'. later d' l' rest e f h.2 x') x
    where
      after-e : Later e f → Later a f
      after-e = ⊎_elim (λ (y : e < f.place). inl (omega (arith, h.1))) (λ (y : AtPlace e f). inl (omega (arith, h.1, y.0)))

      go : (n : Next) → step_as (role_of d tag) file l p (p + header) e ≡ n → ((d' : Due) (l' : Line) → FaultIn file d' l' rest f → Later e f)
          → ByStep n (λ d' l'. FaultIn file d' l' rest f) f
          → Later a f
      go (refused f₀) s rec = ⊎_elim
          (λ (y : f ≡ f₀). ⊎_elim
          (λ (z : AtPlace p f). inr (z.0 ∙ h.0, z.1))
          (λ (z : (p < f.place) × (f.place ≤ e) × (number_of f.reason ≤ last_of_guard)). inl (omega (arith, z.0, h.0)))
          (step-place file l p e (role_of d tag) f (omega (arith, h.0, h.1)) (s ∙ ap refused (sym y))))
          (λ (y : (d' : Due) × (l' : Line) × FaultIn file d' l' rest f). after-e (rec y.0 y.1 y.2))
      go (on d' l') s rec = λ x'. after-e (rec d' l' x')

  -- what a field leads to, in the walk
  led : Pieces → Next → PackReading
  led rest n = elim n [ refused f ↦ refusal f | on d l ↦ pack_from file d l rest ]

  -- any fault after a refused field does not come before it
  behind : (p e : ℕ) (f g : Refusal) → p + header ≤ e → StepPlace p e f → Later e g → NotAfter f g
  behind p e f g h = ⊎_elim
      (λ (w : AtPlace p f). ⊎_elim
      (λ (v : e < g.place). inl (omega (arith, w.0)))
      (λ (v : AtPlace e g). inl (omega (arith, w.0, v.0))))
      (λ (w : (p < f.place) × (f.place ≤ e) × (number_of f.reason ≤ last_of_guard)). ⊎_elim
      (λ (v : e < g.place). inl (omega (arith, w.1)))
      (λ (v : AtPlace e g). ⊎_elim
      (λ (u : f.place < g.place). inl u)
      (λ (u : g.place ≤ f.place). inr (omega (arith, w.1, v.0), omega (arith, w.2, v.1)))
      (lt-or-ge f.place g.place)))

  same_place : (f g : Refusal) → f ≡ g → NotAfter f g
  same_place f g e = rw e (inr (refl, omega arith))

  -- what the walk refuses with comes first
  first : (d : Due) (l : Line) (ps : Pieces) (a : ℕ) (f : Refusal) → Ascending a ps → pack_from file d l ps ≡ refusal f → (g : Refusal)
      → FaultIn file d l ps g → NotAfter f g
  unfolding pack_from led
  first d l (fields.end p) a f h e g x = let y : refusal f ≡ refusal g = sym e ∙ x in let same : f ≡ g = cc in same_place f g same
  first d l (fields.short p) a f h e g x = let same : fault WrongField p ≡ f = cc in same_place f g (sym same ∙ sym x)
  first d l (fields.field p tag b rest) a f h e g x =
      go (step_as (role_of d tag) file l p (p + header) b) refl (λ d' l' e' x'. first d' l' rest b f h.2 e' g x') e x
    where
      go : (n : Next) → step_as (role_of d tag) file l p (p + header) b ≡ n
          → ((d' : Due) (l' : Line) → pack_from file d' l' rest ≡ refusal f → FaultIn file d' l' rest g → NotAfter f g)
          → led rest n ≡ refusal f
          → ByStep n (λ d' l'. FaultIn file d' l' rest g) g
          → NotAfter f g
      go (on d' l') s rec e' x' = rec d' l' e' x'
      go (refused f₀) s rec e' x' =
          let same : f₀ ≡ f = cc in
          ⊎_elim
          (λ (y : g ≡ f₀). same_place f g (sym same ∙ sym y))
          (λ (y : (d' : Due) × (l' : Line) × FaultIn file d' l' rest g).
          behind p b f g (omega (arith, h.0, h.1))
          (step-place file l p b (role_of d tag) f (omega (arith, h.0, h.1)) (s ∙ ap refused same))
          (later y.0 y.1 rest b g h.2 y.2))
          x'

  -- the refusal is a fault
  is_one : (d : Due) (l : Line) (ps : Pieces) (f : Refusal) → pack_from file d l ps ≡ refusal f → FaultIn file d l ps f
  unfolding pack_from led
  is_one d l (fields.end p) f e = e
  is_one d l (fields.short p) f e = let same : fault WrongField p ≡ f = cc in sym same
  is_one d l (fields.field p tag b rest) f e = go (step_as (role_of d tag) file l p (p + header) b) (λ d' l' e'. is_one d' l' rest f e') e
    where
      go : (n : Next) → ((d' : Due) (l' : Line) → pack_from file d' l' rest ≡ refusal f → FaultIn file d' l' rest f)
          → led rest n ≡ refusal f
          → ByStep n (λ d' l'. FaultIn file d' l' rest f) f
      go (on d' l') rec e' = rec d' l' e'
      go (refused f₀) rec e' = let same : f₀ ≡ f = cc in inl (sym same)

  -- a line has none
  has-none : (d : Due) (l : Line) (ps : Pieces) (m : Line) → pack_from file d l ps ≡ line m → (f : Refusal) → FaultIn file d l ps f → ⊥
  unfolding pack_from led
  has-none d l (fields.end p) m e f x = let y : line m ≡ refusal f = sym e ∙ x in let z : ◌≡◌ {A = ℕ} 0 1 = cc in omega arith
  has-none d l (fields.short p) m e f x = let z : ◌≡◌ {A = ℕ} 0 1 = cc in omega arith
  has-none d l (fields.field p tag b rest) m e f x =
      go (step_as (role_of d tag) file l p (p + header) b) (λ d' l' e' x'. has-none d' l' rest m e' f x') e x
    where
      go : (n : Next) → ((d' : Due) (l' : Line) → pack_from file d' l' rest ≡ line m → FaultIn file d' l' rest f → ⊥)
          → led rest n ≡ line m
          → ByStep n (λ d' l'. FaultIn file d' l' rest f) f → ⊥
      go (on d' l') rec e' x' = rec d' l' e' x'
      go (refused f₀) rec e' x' = let z : ◌≡◌ {A = ℕ} 0 1 = cc in omega arith

-- what the fields of a pack are refused with is a fault of it
pub refusal-is-fault : (file : List ℕ) (f : Refusal) → fields_say file ≡ refusal f → FaultOf file f
refusal-is-fault file f e = is_one file due.Id nothing (pieces_at file 0) f e

-- of all faults of a pack it is the leftmost, at one place the one with the lowest number
pub leftmost : (file : List ℕ) (f : Refusal) → fields_say file ≡ refusal f → (g : Refusal) → FaultOf file g → NotAfter f g
unfolding pieces_at
leftmost file f = first file due.Id nothing (pieces_from 0 0 file) 0 f (pieces-ascend 0 0 file (omega arith))

-- the fields of a pack that say a line have no fault
pub line-has-none : (file : List ℕ) (l : Line) → fields_say file ≡ line l → (f : Refusal) → FaultOf file f → ⊥
line-has-none file l e = has-none file due.Id nothing (pieces_at file 0) l e
