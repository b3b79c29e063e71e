-- The faults of a pack: that of the first field that has one, and whatever may be found after it.
use Rattle.std.specs.Prelude.{ℕ, ◌+◌, ◌≤◌, ◌<◌, ◌≡◌, ◌⊎◌, List}
use Rattle.notation.specs.Numbers.{number_of}
use Rattle.notation.specs.Refusals.{fault}
use Rattle.notation.specs.declared.refusal.Reason.TheVariants.{WrongField}
use Rattle.notation.specs.declared.refusal.Refusal.{Refusal}
use Rattle.fields.specs.Fields.{header, Pieces, end, short, field, pieces_at}
use Rattle.packs.specs.Pack.{Line, nothing, Next, refused, on, refusal, role_of, step_as, end_as}
use Rattle.packs.specs.declared.due.Due.{Due}
use Rattle.packs.specs.declared.due.Due.TheVariants as due

-- a field's own fault; after it the reader may go on in whatever state: what is due then, and the line so far, are free
abbrev pub ByStep : Next → (Due → Line → Type 0) → Refusal → Type 0
ByStep (refused g) later f = (f ≡ g) ⊎ ((d : Due) × (l : Line) × later d l)
ByStep (on d l) later f = later d l

-- f is a fault of these fields
abbrev pub FaultIn : List ℕ → Due → Line → Pieces → Refusal → Type 0
FaultIn file d l (end p) f = end_as d l p ≡ refusal f
FaultIn file d l (short p) f = f ≡ fault WrongField p
FaultIn file d l (field p tag e rest) f = ByStep (step_as (role_of d tag) file l p (p + header) e) (λ d' l'. FaultIn file d' l' rest f) f

-- f is a fault of the pack
abbrev pub FaultOf : List ℕ → Refusal → Type 0
FaultOf file f = FaultIn file due.Id nothing (pieces_at file 0) f

-- f stands to the left of g, or at its place with no higher number
abbrev pub NotAfter : Refusal → Refusal → Type 0
NotAfter f g = (f.place < g.place) ⊎ ((g.place ≡ f.place) × (number_of f.reason ≤ number_of g.reason))
