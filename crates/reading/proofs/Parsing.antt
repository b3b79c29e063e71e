-- From the levels to the whole text: when a text is a guard, and when it is refused.
use Prim.Native.Nat.{ℕ, ◌+◌, ◌-◌, ◌*◌, ◌≤◌, ◌<◌}
use native.Mathlib.Omega.{arith}
use native.Mathlib.Nat.{sub-zero}
use mathlib.Core.Path.{◌≡◌, refl, sym, ap, subst, ◌∙◌}
use mathlib.Core.Bool.{Bool, true, false, true≢false}
use mathlib.Core.List.{List, [], ◌++◌}
use lib.ListN.{length, take}
use Rattle.std.specs.Prelude.{Result, Ok, Err}
use borrow.Author.Tests.{le-leb, lt-leb}
use Rattle.notation.specs.Ceilings.{text_ceiling, connective_ceiling}
use Rattle.notation.specs.Tokens.{Tokens, tokens, tokens_at}
use Rattle.ground.specs.Choice.{choose}
use Rattle.notation.specs.Walk.{Flag, refused, accepted, walk, operand, after}
use Rattle.notation.specs.Guard.{Guard, connectives}
use Rattle.notation.specs.Grammar.{tree, tree_of, left_level, same_of, implies_of, or_of, and_of}
use Rattle.notation.specs.Triplets.{literal, triplets, numbers}
use Rattle.notation.specs.Reading.{Reading, refusal, guard, judged, reading, tree_from, reading_from}
use Rattle.notation.specs.Tokens as words
use Rattle.notation.specs.clauses.Cut.{ahead_as, ahead, ends}
use Rattle.notation.specs.clauses.Codes.{flags_in, InText}
use Rattle.notation.specs.declared.codes.Code.{Code}
use Rattle.notation.specs.clauses.Place.{before, CutSays}
use Rattle.notation.specs.declared.place.Kind.{Kind}
use Rattle.notation.specs.declared.place.Kind.TheVariants as kind
use Rattle.notation.specs.declared.place.Place.{Place}
use Rattle.notation.specs.declared.refusal.Reason.{Reason}
use Rattle.notation.specs.declared.refusal.Reason.TheVariants.{LongText, OutOfPlace}
use Rattle.notation.specs.declared.refusal.Refused.{Refused}
use Rattle.operands.specs.clauses.Steps.{joins, place}
use Rattle.operands.specs.declared.waiting.Stack.{Stack}
use Rattle.levels.specs.clauses.Levels.{plain, operands_at, below_of, part, FoundPart, Says}
use Rattle.reading.specs.Service.{Parsed, guard_with}
use Rattle.notation.specs.Refusals.{fault}
use Rattle.reading.specs.clauses.Parsing.{ended_as, ParseSays}
use Rattle.std.specs.Prelude.{Err}
use Rattle.notation.proofs.Coding.{flags-length}
use Rattle.operands.proofs.Stepping.{stops-joins}

-- what a whole text says is what it says from place 0, where no code was seen before
pub from_start : (text : List ℕ) → reading_from text 0 [] ≡ reading text
unfolding reading reading_from tree tree_from tokens tokens_at
from_start text = rw (sub-zero)

-- a text over the ceiling
pub too_long : (text : List ℕ) (from : ℕ) (u : List Flag) → text_ceiling < length text - from → reading_from text from u ≡ refusal LongText
    (from + text_ceiling)
unfolding reading_from
too_long text from u h = rw (lt-leb (length text - from) text_ceiling h)

pub whole-too-long : (text : List ℕ) → text_ceiling < length text → reading text ≡ refusal LongText text_ceiling
whole-too-long text h = sym (from_start text) ∙ too_long text 0 [] (rw sub-zero h)

ends-accepted : (k : Kind) (text : List ℕ) (p e : ℕ) (u : List Flag) (m : ℕ) → ends k ≡ true → walk after 0 u m (ahead_as k text p e) ≡ accepted
    u m
unfolding walk ahead_as
ends-accepted kind.End text p e u m h = refl
ends-accepted kind.Code text p e u m h = absurd (true≢false (sym h))
ends-accepted (kind.Truth b) text p e u m h = absurd (true≢false (sym h))
ends-accepted kind.Bang text p e u m h = absurd (true≢false (sym h))
ends-accepted (kind.Sign c) text p e u m h = absurd (true≢false (sym h))
ends-accepted kind.Opening text p e u m h = absurd (true≢false (sym h))
ends-accepted kind.Closing text p e u m h = absurd (true≢false (sym h))

not-ended : (k : Kind) (text : List ℕ) (p e : ℕ) (u : List Flag) (m : ℕ) → ends k ≡ false → joins k ≡ false → walk after 0 u m
    (ahead_as k text p e) ≡ refused OutOfPlace p
unfolding walk ahead_as
not-ended kind.End text p e u m h i = absurd (true≢false h)
not-ended kind.Code text p e u m h i = refl
not-ended (kind.Truth b) text p e u m h i = refl
not-ended kind.Bang text p e u m h i = refl
not-ended (kind.Sign c) text p e u m h i = absurd (true≢false i)
not-ended kind.Opening text p e u m h i = refl
not-ended kind.Closing text p e u m h i = refl

-- no code was seen before
pub none_seen : (text : List ℕ) (codes : List Code) → InText text codes 0
none_seen text codes = record {
  room = omega arith;
  starts = λ i h. absurd (omega arith);
  ends = λ i h. absurd (omega arith);
  keys = λ i h. absurd (omega arith);
}

pub parsed-whole : (text : List ℕ) (r : Parsed) (codes codes' : List Code) (out' : List ℕ) →
    ParseSays text (reading_from text 0 (flags_in text codes 0)) r codes'
    out' →
    ParseSays text (reading text) r codes' out'
unfolding flags_in
parsed-whole text r codes codes' out' h = subst (λ (x : Reading). ParseSays text x r codes' out') (from_start text) h

module _ (text : List ℕ) (from : ℕ) (u₀ : List Flag) (h : length text - from ≤ text_ceiling) where
  -- where the walk refuses, so does reading
  walk-refuses : (k : Reason) (p : ℕ) → walk operand 0 u₀ 0 (tokens_at text from) ≡ refused k p → reading_from text from u₀ ≡ refusal k p
  unfolding reading_from judged
  walk-refuses k p e = rw (le-leb (length text - from) text_ceiling h, e)

  -- where the walk accepts, the guard is the tree
  walk-accepts : (u : List Flag) (m : ℕ) → walk operand 0 u₀ 0 (tokens_at text from) ≡ accepted u m → reading_from text from u₀ ≡ guard
      (tree_from u₀ (tokens_at text from)) u
  unfolding reading_from judged
  walk-accepts u m e = rw (le-leb (length text - from) text_ceiling h, e)

  says-refusal : (k : Reason) (p : ℕ) → walk operand 0 u₀ 0 (tokens_at text from) ≡ refused k p → (r : Parsed) → r ≡ Err (fault k p)
      → (codes : List Code) (out : List ℕ) →
      ParseSays text (reading_from text from u₀) r codes out
  says-refusal k p e r f codes out = subst (λ (x : Reading). ParseSays text x r codes out) (sym (walk-refuses k p e)) f

-- the first token is cut from where the reader stands before it
module _ {text : List ℕ} {from n : ℕ} {p p₁ : Place} {s : Result Unit Refused} (b : p ≡ before from n) (at-p : CutSays text p.token.next p s p₁) where
  c : CutSays text from (before from n) s p₁
  c = subst (λ (x : Place). CutSays text x.token.next x s p₁) b at-p

  module _ (h : length text - from ≤ text_ceiling) (codes : List Code) where
    -- a faulty first token
    pub faulty-first : {x : Refused} → s ≡ Err x → {r : Parsed} → r ≡ Err p₁.refusal → (codes' : List Code) (out' : List ℕ) →
        ParseSays text (reading_from text from (flags_in text codes n)) r codes' out'
    faulty-first e {r} q codes' out' =
        says-refusal text from (flags_in text codes n) h p₁.refusal.reason p₁.refusal.place
        (c.refused _ e operand 0 (flags_in text codes n) 0) r q codes' out'

    module _ (e : s ≡ Ok tt) {out : List ℕ} {wait : Stack} {a : Result ℕ Refused} {p₂ : Place} {codes₂ : List Code} {out₂ : List ℕ}
        {wait₂ : Stack}
        (v : Says (plain (left_level words.same (below_of words.same (operands_at 0)))) 0 4 text p₁ codes out wait a p₂ codes₂ out₂ wait₂) where
      flags-first : p₁.flags ≡ n
      flags-first = c.behind.flags

      count-first : p₁.count ≡ 0
      count-first = c.behind.count

      from_first : walk operand 0 (flags_in text codes n) 0 (tokens_at text from) ≡ walk operand 0 (flags_in text codes p₁.flags) p₁.signs
          (ahead text p₁.token)
      from_first =
          ap (walk operand 0 (flags_in text codes n) 0) (c.taken e).tokens
          ∙ ap (λ (k : ℕ). walk operand 0 (flags_in text codes k) 0 (ahead text p₁.token)) (sym flags-first)
          ∙ ap (λ (k : ℕ). walk operand 0 (flags_in text codes p₁.flags) k (ahead text p₁.token)) (sym c.behind.signs)

      -- a refusal by a level
      pub refused-first : {x : Refused} → a ≡ Err x → {r : Parsed} → r ≡ Err p₂.refusal → ParseSays text
          (reading_from text from (flags_in text codes n)) r codes₂ out₂
      refused-first f {r} q = says-refusal text from (flags_in text codes n) h p₂.refusal.reason p₂.refusal.place (from_first ∙ v.refused _ f) r q codes₂ out₂

      module _ {l : ℕ} (found : a ≡ Ok l) where
        f : FoundPart (plain (left_level words.same (below_of words.same (operands_at 0)))) 0 4 text (place p₁) codes out (part l p₂) codes₂ out₂
        f = v.found l found

        u : List Flag
        u = flags_in text codes₂ p₂.flags

        is-tree : tree_from (flags_in text codes n) (tokens_at text from) ≡ f.guard
        unfolding tree_from tree_of same_of implies_of or_of and_of
        is-tree =
            ap (tree_from (flags_in text codes n)) (c.taken e).tokens
            ∙ ap (λ (k : ℕ). tree_from (flags_in text codes k) (ahead text p₁.token)) (sym flags-first)
            ∙ ap tree_of (f.reads.parsed connective_ceiling (omega arith))

        -- the text ends after the guard, or does not
        decided : (x : Bool) → ends p₂.token.kind ≡ x → (r : Parsed) →
            r ≡ choose x (guard_with p₂.flags p₂.count l) (Err (fault OutOfPlace p₂.token.start)) → ParseSays text
            (reading_from text from (flags_in text codes n)) r codes₂ out₂
        unfolding u f
        decided true x r q =
            let count : p₂.count ≡ connectives f.guard = omega (arith, f.writes.count, count-first) in
            let long : length u ≡ p₂.flags = flags-length text codes₂ p₂.flags in
            let root : l ≡ literal 0 f.guard = f.writes.literal ∙ ap (λ (k : ℕ). literal k f.guard) count-first in
            let is : reading_from text from (flags_in text codes n) ≡ guard f.guard u
            = walk-accepts text from (flags_in text codes n) h u p₂.signs
            (from_first ∙ f.reads.walked ∙ ends-accepted p₂.token.kind text p₂.token.start p₂.token.next u p₂.signs x)
            ∙ ap (λ (g : Guard). guard g u) is-tree in
            subst (λ (y : Reading). ParseSays text y r codes₂ out₂) (sym is)
            record {
              answer =
                  q ∙ ap (λ (k : ℕ). guard_with k p₂.count l) (sym long) ∙ ap (λ (k : ℕ). guard_with (length u) k l) count
                  ∙ ap (guard_with (length u) (connectives f.guard)) root;
              flags = ap (flags_in text codes₂) long;
              in_text = rw long f.standing.in_text;
              written =
                  ap (λ (k : ℕ). take (3 * k) out₂) (sym count) ∙ f.writes.written
                  ∙ ap (λ (k : ℕ). take (3 * k) out ++ numbers (triplets k f.guard)) count-first;
              few = omega (arith, long, f.standing.flags);
              short = omega (arith, count, f.standing.count, f.standing.signs);
              table = f.standing.table;
              room = v.rooms.triplets;
            }
        decided false x r q =
            says-refusal text from (flags_in text codes n) h OutOfPlace p₂.token.start
            (from_first ∙ f.reads.walked
            ∙ not-ended p₂.token.kind text p₂.token.start p₂.token.next u p₂.signs x
            (stops-joins p₂.token.kind text p₂.token.start p₂.token.next f.reads.stops)) r q codes₂ out₂

        pub parse-says : {r : Parsed} → r ≡ ended_as (part l p₂) → ParseSays text (reading_from text from (flags_in text codes n)) r codes₂ out₂
        parse-says {r} q = decided (ends p₂.token.kind) refl r q
