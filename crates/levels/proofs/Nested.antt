-- Operands that hold operands, over a lent place: one token, brackets, and `!` before an operand.
use Prim.Native.Nat.{ℕ, ◌+◌, ◌-◌, ◌*◌, ◌≤◌, ◌<◌}
use native.Mathlib.Omega.{arith}
use mathlib.Core.Path.{◌≡◌, refl, sym, ap, subst, ◌∙◌}
use mathlib.Core.Bool.{Bool, true, false}
use mathlib.Core.List.{List, ◌++◌, append-nil}
use lib.ListN.{length, take}
use Rattle.std.specs.Prelude.{Result, Ok, Err}
use Rattle.notation.specs.Ceilings.{bracket_ceiling}
use Rattle.notation.specs.Tokens.{same}
use Rattle.notation.specs.Walk.{walk, refused, operand}
use Rattle.notation.specs.Grammar.{in_brackets, left_level, same_of, implies_of, or_of, and_of}
use Rattle.notation.specs.Triplets.{Triplet, numbers}
use Rattle.notation.specs.clauses.Writing.{signed}
use Rattle.notation.specs.clauses.Cut.{ahead, ends}
use Rattle.notation.specs.clauses.Codes.{flags_in}
use Rattle.notation.specs.declared.codes.Code.{Code}
use Rattle.notation.specs.clauses.Place.{RefusedAt}
use Rattle.notation.specs.declared.refusal.Reason.TheVariants.{OutOfPlace, ManyBrackets}
use Rattle.notation.specs.declared.refusal.Refusal.{Refusal}
use Rattle.notation.specs.declared.refusal.Refused.{Refused}
use Rattle.notation.specs.declared.place.Kind.TheVariants as kind
use Rattle.notation.specs.declared.place.Place.{Place}
use Rattle.operands.specs.clauses.Steps.{
  place,
  joins,
  bangs,
  TokenFits,
  AdvancedSays,
  Atom,
  AtomSays,
  ClosedSays,
}
use Rattle.operands.specs.declared.waiting.Stack.{Stack}
use Rattle.operands.proofs.Operands.{no_operand, no-tighter, opens}
use Rattle.operands.proofs.Stepping.{stops-joins}
use Rattle.levels.specs.clauses.Levels.{plain, operands_at, below_of, part, FoundPart, Asks, Says}
use Rattle.levels.proofs.Nesting.{
  bracket-refused,
  bracket-walked,
  inside-refused,
  inside-standing,
  never-closed,
  bracket-found,
  Bangs,
  bangs-none,
  bangs-more,
  bangs-refused,
  bang-on,
  here-standing,
  behind-refused,
  behind-found,
}
use Rattle.levels.proofs.Turning.{says-found, says-refused, still-same}

-- an operand of one token
module _ {text : List ℕ} {p : Place} {d : ℕ} {codes : List Code} {out : List ℕ} {wait : Stack} (a : Asks text p d codes out wait) where
  atom-part : {l : ℕ} (p' : Place) {codes' : List Code} → Atom text (place p) codes l (place p') codes' →
      FoundPart (plain (operands_at d)) d 0 text (place p) codes out (part l p') codes' out
  unfolding numbers
  atom-part {l} p' {codes'} o = record {
    guard = o.guard;
    reads = record {
      parsed = λ f _. o.parsed (in_brackets (bracket_ceiling - d));
      walked = o.walked d;
      signs = omega (arith, o.signs, o.plainly);
      stops = λ s h. absurd (no-tighter s h);
    };
    writes = record {
      literal = o.literally p.count;
      small = o.small;
      count = omega (arith, o.count, o.plainly);
      written =
          ap (λ (k : ℕ). take (3 * k) out) o.count ∙ sym (append-nil (take (3 * p.count) out))
          ∙ ap (λ (ts : List Triplet). take (3 * p.count) out ++ numbers ts) (sym (o.nothing p.count));
    };
    standing = o.standing;
    later = o.later;
  }

  pub atom-level : {r : Result ℕ Refused} {p' : Place} {codes' : List Code} → AtomSays text p codes r p' codes' → Says
      (plain (operands_at d)) d 0 text p codes out wait r p' codes' out wait
  atom-level {r} {p'} {codes'} h = record {
    found = λ l e. atom-part p' (h.found l e);
    refused = λ x e. h.refused x e d;
    still = λ l e. still-same;
    rooms = a.rooms;
  }

  -- a token that is no operand
  pub misplaced : {x : Refused} {p' : Place} → opens p.token.kind ≡ false → RefusedAt OutOfPlace p.token.start p p' →
      Says (plain (operands_at d)) d 0 text p codes out wait (Err x) p' codes out wait
  misplaced k h =
      says-refused refl
      (no_operand p.token.kind text p.token.start p.token.next d _ _ k ∙ ap (λ (f : Refusal). refused f.reason f.place) (sym h.refusal)) a.rooms

-- `!` before an operand
pub record Banged (text : List ℕ) (p₀ p : Place) (odd : ℕ) (bang : Bool) : Type 0 where
  pub passed : Bangs text (place p₀) (place p) odd
  pub test : bang ≡ bangs p.token.kind

module _ {text : List ℕ} {p₀ p : Place} {odd : ℕ} {bang : Bool} (b : Banged text p₀ p odd bang) where
  module _ (k : bang ≡ true) where
    is-bang : bangs p.token.kind ≡ true
    is-bang = sym b.test ∙ k

    pub asks-bang : TokenFits text p.token × (ends p.token.kind ≡ false)
    asks-bang = (b.passed.token, bang-on p.token.kind is-bang)

    module _ {p₁ : Place} {r : Result Unit Refused} (h : AdvancedSays text p r p₁) where
      pub bang-refused : {x : Refused} → r ≡ Err x → (d : ℕ) (codes : List Code) →
          walk operand d (flags_in text codes p₀.flags) p₀.signs (ahead text p₀.token) ≡ refused p₁.refusal.reason p₁.refusal.place
      bang-refused e d codes = bangs-refused text (place p₀) (place p) odd b.passed is-bang p₁.refusal (h.refused _ e) d _ _

      pub bang-less : r ≡ Ok tt → length text - p₁.token.start < length text - p.token.start
      bang-less e = omega (arith, (h.taken e).later, b.passed.token.moves (bang-on p.token.kind is-bang), b.passed.token.inside)

      pub bang-more : r ≡ Ok tt → {next : Bool} → next ≡ bangs p₁.token.kind → Banged text p₀ p₁ (1 - odd) next
      bang-more e t = record {
        passed = bangs-more text (place p₀) (place p) odd b.passed is-bang (place p₁) (h.taken e);
        test = t;
      }

  module _ {d : ℕ} {codes : List Code} {out : List ℕ} {wait : Stack} (a : Asks text p₀ d codes out wait) where
    pub asks-behind : Asks text p d codes out wait
    asks-behind = record {
      rooms = a.rooms;
      standing = here-standing text (place p₀) (place p) odd b.passed codes a.standing;
      waits = omega (arith, b.passed.signs, a.waits);
      brackets = a.brackets;
    }

  module _ {d : ℕ} {codes : List Code} {out : List ℕ} {wait : Stack} {r : Result ℕ Refused} {p' : Place} {codes' : List Code} {out' : List ℕ} {wait' : Stack}
      (h : Says (plain (operands_at d)) d 0 text p codes out wait r p' codes' out' wait') where
    pub behind-refused-says : {x : Refused} → r ≡ Err x → Says (plain (operands_at d)) d 0 text p₀ codes out wait r p' codes' out' wait'
    behind-refused-says e =
        says-refused e (behind-refused text (place p₀) (place p) odd b.passed codes d p'.refusal (h.refused _ e)) h.rooms

    pub behind-says : {l : ℕ} → r ≡ Ok l → (m : ℕ) → m ≡ signed l odd →
        Says (plain (operands_at d)) d 0 text p₀ codes out wait (Ok m) p' codes' out' wait'
    behind-says {l} e m f =
        says-found refl
        (subst (λ (x : ℕ). FoundPart (plain (operands_at d)) d 0 text (place p₀) codes out (part x p') codes' out') (sym f)
        (behind-found text (place p₀) (place p) odd b.passed codes d out (h.found l e))) (h.still l e) h.rooms

pub banged-none : {text : List ℕ} {p : Place} {d : ℕ} {codes : List Code} {out : List ℕ} {wait : Stack} → Asks text p d codes out wait →
    {bang : Bool} → bang ≡ bangs
    p.token.kind →
    Banged text p p 0 bang
banged-none {text} {p} a e = record { passed = bangs-none text (place p) a.standing.token; test = e }

-- a guard in brackets
module _ {text : List ℕ} {p : Place} {d : ℕ} {codes : List Code} {out : List ℕ} {wait : Stack} (a : Asks text p d codes out wait)
    (k : p.token.kind ≡ kind.Opening) where
  pub too-deep : {x : Refused} {p' : Place} → bracket_ceiling ≤ d → RefusedAt ManyBrackets p.token.start p p' →
      Says (plain (operands_at d)) d 0 text p codes out wait (Err x) p' codes out wait
  too-deep l h =
      says-refused refl (bracket-refused text (place p) k d _ _ l ∙ ap (λ (f : Refusal). refused f.reason f.place) (sym h.refusal)) a.rooms

  pub asks-past : TokenFits text p.token × (ends p.token.kind ≡ false)
  asks-past = (a.standing.token, ap ends k)

  module _ (l : d < bracket_ceiling) {p₁ : Place} {s : Result Unit Refused} (v : AdvancedSays text p s p₁) where
    pub faulty-inside : {x y : Refused} → s ≡ Err x → Says (plain (operands_at d)) d 0 text p codes out wait (Err y) p₁ codes out wait
    faulty-inside e =
        says-refused refl (bracket-walked text (place p) k d _ _ l ∙ v.refused _ e operand (d + 1) _ _) a.rooms

    module _ (t : s ≡ Ok tt) where
      pub asks-inside : Asks text p₁ (d + 1) codes out wait
      asks-inside = record {
        rooms = a.rooms;
        standing = inside-standing text (place p) k d codes out (place p₁) (v.taken t) l a.standing;
        waits = omega (arith, (v.taken t).signs, a.waits);
        brackets = omega (arith, l);
      }

      pub later-inside : (p.token.start < p₁.token.start) × (p.token.start < length text)
      later-inside = ((v.taken t).later, omega (arith, a.standing.token.moves (ap ends k), a.standing.token.inside))

      module _ {r : Result ℕ Refused} {p₂ : Place} {codes₂ : List Code} {out₂ : List ℕ} {wait₂ : Stack}
          (h : Says (plain (left_level same (below_of same (operands_at (d + 1))))) (d + 1) 4 text p₁ codes out wait r p₂ codes₂ out₂ wait₂) where
        pub inside-refused-says : {x : Refused} → r ≡ Err x → Says (plain (operands_at d)) d 0 text p codes out wait r p₂ codes₂ out₂ wait₂
        inside-refused-says e =
            says-refused e (inside-refused text (place p) k d codes out (place p₁) (v.taken t) l p₂.refusal (h.refused _ e)) h.rooms

        module _ {n : ℕ} (e : r ≡ Ok n) where
          pub asks-closed : TokenFits text p₂.token × (joins p₂.token.kind ≡ false)
          asks-closed = (
            (h.found n e).standing.token,
            stops-joins p₂.token.kind text p₂.token.start p₂.token.next (h.found n e).reads.stops,
          )

          module _ {p₃ : Place} {z : Result Unit Refused} (c : ClosedSays text p₂ z p₃) where
            pub unclosed : {x y : Refused} → z ≡ Err x → Says (plain (operands_at d)) d 0 text p codes out wait (Err y) p₃ codes₂ out₂ wait₂
            unfolding same_of implies_of or_of and_of
            unclosed f =
                says-refused refl (never-closed text (place p) k d codes out (place p₁) (v.taken t) l (h.found n e) p₃.refusal (c.refused _ f))
                h.rooms

            pub closed-says : z ≡ Ok tt → Says (plain (operands_at d)) d 0 text p codes out wait (Ok n) p₃ codes₂ out₂ wait₂
            unfolding same_of implies_of or_of and_of
            closed-says f =
                says-found refl (bracket-found text (place p) k d codes out (place p₁) (v.taken t) l (h.found n e) (place p₃) (c.taken f))
                (h.still n e) h.rooms
