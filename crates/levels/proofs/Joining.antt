-- A chain of operands as the reader holds it: laws that join what the levels and the signs between them promise.
use Prim.Native.Nat.{ℕ, ◌+◌, ◌*◌, ◌<◌}
use native.Mathlib.Omega.{arith}
use mathlib.Core.Path.{◌≡◌, sym, ap, subst, ◌∙◌}
use mathlib.Core.Bool.{Bool, true, false}
use mathlib.Core.List.{List}
use lib.ListN.{length}
use Rattle.notation.specs.Ceilings.{connective_ceiling}
use Rattle.notation.specs.Tokens.{Tokens, Sign}
use Rattle.notation.specs.Walk.{Flag, refused, walk, operand, after}
use Rattle.notation.specs.Guard.{Guard, joined}
use Rattle.notation.specs.Grammar.{Level, past, sign_next, left_level, to_the_right}
use Rattle.notation.specs.Triplets.{triplet_of}
use Rattle.notation.specs.clauses.Writing.{triplet_at}
use Rattle.notation.specs.clauses.Cut.{ahead}
use Rattle.notation.specs.clauses.Codes.{flags_in, InText}
use Rattle.notation.specs.declared.codes.Code.{Code}
use Rattle.operands.specs.clauses.Steps.{At, Part, binding, kind_is, joined_part, Standing, Advanced}
use Rattle.levels.specs.clauses.Levels.{plain, Reads, Writes, FoundPart}
use Rattle.notation.specs.declared.refusal.Refusal.{Refusal}
use Rattle.levels.proofs.Written.{writes-joined}
use Rattle.operands.proofs.Stepping.{next-kind}
use Rattle.levels.proofs.Leveling.{Chain, chain_first, chain_more, chain-done, right-one, right-two, past-sign}

-- the flags, the signs and the tokens where the reader stands
abbrev pub flags_at : List ℕ → List Code → At → List Flag
flags_at text codes at = flags_in text codes at.flags

-- past a sign that is within the ceiling
abbrev pub PassedSign : List ℕ → At → At → Type 0
PassedSign text at to = Advanced text at (at.signs + 1) to × (at.signs < connective_ceiling)

-- whether a sign stands next, told by the token ahead
pub sign-ahead : (s : Sign) (text : List ℕ) (at : At) (t : Bool) → kind_is s at.token.kind ≡ t → sign_next s (ahead text at.token) ≡ t
sign-ahead s text at t e = next-kind s at.token.kind text at.token.start at.token.next ∙ e

module _ (s : Sign) (next : Level) (d k : ℕ) (text : List ℕ) (at : At) (codes₀ : List Code) (out₀ : List ℕ) where
  -- what has been read of a chain joined by s, which starts where the reader stood at first
  pub record SoFar (left : Part) (codes : List Code) (out : List ℕ) : Type 0 where
    pub guard : Guard
    pub chain : Chain s next d k (flags_at text codes₀ at) at.signs (ahead text at.token) guard (flags_at text codes left.at) left.at.signs
        (ahead text left.at.token)
    pub writes : Writes at.count left.at.count out₀ out guard left.literal
    pub standing : Standing text codes left.at
    pub later : at.token.start < left.at.token.start

  pub so-far-first : {left : Part} {codes : List Code} {out : List ℕ} → FoundPart (plain next) d k text at codes₀ out₀ left codes out → SoFar left codes out
  so-far-first p = record {
    guard = p.guard;
    chain = chain_first s next d k _ _ _ p.reads;
    writes = p.writes;
    standing = p.standing;
    later = p.later;
  }

  module _ {left : Part} {codes : List Code} {out : List ℕ} (l : SoFar left codes out) where
    -- the sign is refused
    pub so-far-no-sign : (f : Refusal) → ((e : ℕ) (u : List Flag) → walk after e u left.at.signs (ahead text left.at.token) ≡ refused
        f.reason f.place) →
        walk operand d (flags_at text codes₀ at) at.signs (ahead text at.token) ≡ refused f.reason f.place
    so-far-no-sign f h = l.chain.walked ∙ h d (flags_at text codes left.at)

    module _ (to : At) (sign : kind_is s left.at.token.kind ≡ true) (past-it : PassedSign text left.at to) where
      -- the walk goes on behind the sign
      pub walked_on : walk operand d (flags_at text codes₀ at) at.signs (ahead text at.token)
          ≡ walk operand d (flags_at text codes to) to.signs (ahead text to.token)
      walked_on =
          l.chain.walked
          ∙ past-sign s d (flags_at text codes left.at) left.at.signs (ahead text left.at.token) (sign-ahead s text left.at true sign)
          past-it.1
          ∙ ap (λ (n : ℕ). walk operand d (flags_in text codes n) (left.at.signs + 1) (past (ahead text left.at.token))) (sym past-it.0.flags)
          ∙ ap (λ (n : ℕ). walk operand d (flags_at text codes to) n (past (ahead text left.at.token))) (sym past-it.0.signs)
          ∙ ap (λ (ts : Tokens). walk operand d (flags_at text codes to) to.signs ts) past-it.0.tokens

      -- the operand after the sign is refused
      pub so-far-no-operand : (f : Refusal) → walk operand d (flags_at text codes to) to.signs (ahead text to.token) ≡ refused f.reason f.place
          →
          walk operand d (flags_at text codes₀ at) at.signs (ahead text at.token) ≡ refused f.reason f.place
      so-far-no-operand f h = walked_on ∙ h

      -- where the reader stands behind the sign is right
      pub so-far-standing : Standing text codes to
      so-far-standing = record {
        token = past-it.0.token;
        in_text = subst (λ (n : ℕ). InText text codes n) (sym past-it.0.flags) l.standing.in_text;
        table = l.standing.table;
        flags = omega (arith, past-it.0.flags, l.standing.flags);
        signs = omega (arith, past-it.0.signs, past-it.1);
        count = omega (arith, past-it.0.count, past-it.0.signs, l.standing.count);
      }

      -- what is read behind the sign, said of the tokens past it
      behind : {L : ℕ → Level} {j : ℕ} {right : Part} {codes' : List Code} {out' : List ℕ} → (p : FoundPart L d j text to codes out right codes' out') →
          Reads L d j (flags_at text codes left.at) (left.at.signs + 1) (past (ahead text left.at.token))
          p.guard (flags_at text codes' right.at) right.at.signs (ahead text right.at.token)
      behind {L} {j} {right} {codes'} p =
          subst (λ (n : ℕ). Reads L d j (flags_in text codes n) (left.at.signs + 1) (past (ahead text left.at.token)) p.guard
          (flags_at text codes' right.at) right.at.signs (ahead text right.at.token)) past-it.0.flags
          (subst (λ (n : ℕ). Reads L d j (flags_at text codes to) n (past (ahead text left.at.token)) p.guard (flags_at text codes' right.at)
          right.at.signs (ahead text right.at.token)) past-it.0.signs
          (subst (λ (ts : Tokens). Reads L d j (flags_at text codes to) to.signs ts p.guard (flags_at text codes' right.at) right.at.signs
          (ahead text right.at.token)) (sym past-it.0.tokens) p.reads))

      -- there is room for one triplet more
      pub fewer : {L : ℕ → Level} {j : ℕ} {right : Part} {codes' : List Code} {out' : List ℕ} → FoundPart L d j text to codes out right codes' out' →
          right.at.count < connective_ceiling
      fewer p = omega (arith, l.standing.count, past-it.0.count, past-it.0.signs, p.writes.count, p.reads.signs, p.standing.signs)

      -- the operand after the sign joins the chain
      pub so_far_more : {right : Part} {codes' : List Code} {out' : List ℕ} → FoundPart (plain next) d k text to codes out right codes' out' →
          length out' ≡ 3 * connective_ceiling →
          SoFar (joined_part s right) codes' (triplet_at out' right.at.count (triplet_of s left.literal right.literal))
      so_far_more {right} {codes'} {out'} p room = record {
        guard = joined s l.guard p.guard;
        chain = chain_more s next d k _ _ _ l.chain (sign-ahead s text left.at true sign) past-it.1 (behind p);
        writes = writes-joined s _ left.at.count right.at.count _ out out' l.guard p.guard left.literal right.literal l.writes
            (subst (λ (n : ℕ). Writes n right.at.count out out' p.guard right.literal) past-it.0.count p.writes) (fewer p) room;
        standing = record {
          token = p.standing.token;
          in_text = p.standing.in_text;
          table = p.standing.table;
          flags = p.standing.flags;
          signs = p.standing.signs;
          count = omega (arith, l.standing.count, past-it.0.count, past-it.0.signs, p.writes.count, p.reads.signs);
        };
        later = omega (arith, l.later, past-it.0.later, p.later);
      }

    -- where no further sign of the chain stands, it is read
    pub so-far-done : kind_is s left.at.token.kind ≡ false → binding s ≡ k + 1 → FoundPart (plain (left_level s next)) d
        (k + 1) text at codes₀ out₀ left codes out
    so-far-done e b = record {
      guard = l.guard;
      reads = chain-done s next d k _ _ _ l.chain (sign-ahead s text left.at false e) b;
      writes = l.writes;
      standing = l.standing;
      later = l.later;
    }

module _ (s : Sign) (next : Level) (d k : ℕ) (text : List ℕ) (at : At) (codes₀ : List Code) (out₀ : List ℕ) {left : Part} {codes : List Code} {out : List ℕ}
    (p : FoundPart (plain next) d k text at codes₀ out₀ left codes out) (b : binding s ≡ k + 1) where
  -- of a sign that groups to the right: a single operand
  pub right-alone : kind_is s left.at.token.kind ≡ false → FoundPart (to_the_right s next) d (k + 1) text at codes₀ out₀ left codes out
  right-alone e = record {
    guard = p.guard;
    reads = right-one s next d k _ _ _ p.reads (sign-ahead s text left.at false e) b;
    writes = p.writes;
    standing = p.standing;
    later = p.later;
  }

  -- an operand, the sign, and all that follows
  pub right-joined : (to : At) → kind_is s left.at.token.kind ≡ true → (q : PassedSign text left.at to) →
      {right : Part} {codes' : List Code} {out' : List ℕ} → FoundPart (to_the_right s next) d (k + 1) text to codes out right codes' out' →
      length out' ≡ 3 * connective_ceiling →
      FoundPart (to_the_right s next) d (k + 1) text at codes₀ out₀ (joined_part s right) codes'
      (triplet_at out' right.at.count (triplet_of s left.literal right.literal))
  right-joined to sign q {right} {codes'} {out'} r room =
      let l = so-far-first s next d k text at codes₀ out₀ p in
      record {
        guard = joined s p.guard r.guard;
        reads = right-two s next d k _ _ _ p.reads (sign-ahead s text left.at true sign) q.1 (behind s next d k text at codes₀ out₀ l to sign q r);
        writes = writes-joined s _ left.at.count right.at.count _ out out' p.guard r.guard left.literal right.literal p.writes
            (subst (λ (n : ℕ). Writes n right.at.count out out' r.guard right.literal) q.0.count r.writes)
            (fewer s next d k text at codes₀ out₀ l to sign q r) room;
        standing = record {
          token = r.standing.token;
          in_text = r.standing.in_text;
          table = r.standing.table;
          flags = r.standing.flags;
          signs = r.standing.signs;
          count = omega (arith, p.standing.count, q.0.count, q.0.signs, r.writes.count, r.reads.signs);
        };
        later = omega (arith, p.later, q.0.later, r.later);
      }
