-- A chain of operands over a lent place: what a level's loop holds, and one turn of it.
use Prim.Native.Nat.{ℕ, ◌+◌, ◌≤◌, ◌<◌}
use native.Mathlib.Omega.{arith}
use mathlib.Core.Path.{◌≡◌, refl, sym, ap, subst, ◌∙◌}
use mathlib.Core.Bool.{true, false}
use mathlib.Core.List.{List}
use lib.ListN.{length, length-set}
use Rattle.std.specs.Prelude.{Result, Ok, Err}
use Rattle.notation.specs.Ceilings.{connective_ceiling, bracket_ceiling}
use Rattle.notation.specs.Tokens.{Sign, same, implies, or, and}
use Rattle.notation.specs.Walk.{walk, refused, operand}
use Rattle.notation.specs.Grammar.{Level, left_level}
use Rattle.notation.specs.Triplets.{literal_ceiling}
use Rattle.notation.specs.clauses.Cut.{ahead}
use Rattle.notation.specs.clauses.Codes.{flags_in}
use Rattle.notation.specs.declared.codes.Code.{Code}
use Rattle.notation.specs.declared.refusal.Refused.{Refused}
use Rattle.notation.specs.declared.place.Place.{Place}
use Rattle.notation.proofs.Placing.{never_both}
use Rattle.operands.specs.clauses.Steps.{Part, binding, kind_is, joins, joined_part, place, TokenFits, PastSignSays, JoinedSays}
use Rattle.operands.specs.declared.waiting.Stack.{Stack}
use Rattle.operands.proofs.Stepping.{sign-joins, joins-on}
use Rattle.levels.specs.clauses.Levels.{plain, operands_at, below_of, tighter, part, FoundPart, Rooms, Asks, Still, Says, First, Begun}
use Rattle.levels.proofs.Joining.{
  PassedSign,
  SoFar,
  so-far-first,
  so-far-no-sign,
  so-far-no-operand,
  so-far-standing,
  so_far_more,
  so-far-done,
  fewer,
}

same-found : (l m : ℕ) (r : Result ℕ Refused) → r ≡ Ok l → r ≡ Ok m → l ≡ m
same-found l m r e f = cc

module _ {L : ℕ → Level} {d k : ℕ} {text : List ℕ} {p : Place} {codes : List Code} {out : List ℕ} {wait : Stack} {r : Result ℕ Refused} {p' : Place}
    {codes' : List Code} {out' : List ℕ} {wait' : Stack} where
  -- an operand was found
  pub says-found : {l : ℕ} → r ≡ Ok l → FoundPart L d k text (place p) codes out (part l p') codes' out' → Still wait wait'
      →
      Rooms out' wait' →
      Says L d k text p codes out wait r p' codes' out' wait'
  says-found {l} e f t n = record {
    found = λ m h. subst (λ (x : ℕ). FoundPart L d k text (place p) codes out (part x p') codes' out') (same-found l m r e h) f;
    refused = λ _ h. never_both e h;
    still = λ m h. t;
    rooms = n;
  }

  -- none was
  pub says-refused : {x : Refused} → r ≡ Err x →
      walk operand d (flags_in text codes p.flags) p.signs (ahead text p.token) ≡ refused p'.refusal.reason p'.refusal.place → Rooms out'
      wait' →
      Says L d k text p codes out wait r p' codes' out' wait'
  says-refused e w n = record {
    found = λ m h. never_both h e;
    refused = λ _ _. w;
    still = λ m h. never_both h e;
    rooms = n;
  }

-- what waited before two stretches still waits after both
pub still-twice : {wait wait₁ wait₂ : Stack} → Still wait wait₁ → Still wait₁ wait₂ → Still wait wait₂
still-twice a b = record {
  waits = b.waits ∙ a.waits;
  others = λ i h. b.others i (omega (arith, a.waits, h)) ∙ a.others i h;
}

pub still-same : {wait : Stack} → Still wait wait
still-same = record { waits = refl; others = λ i h. refl }

pub bound : (s : Sign) → binding s ≡ tighter s + 1
bound same = refl
bound implies = refl
bound or = refl
bound and = refl

-- the sign s stands at p, and is passed
pub record Passed (s : Sign) (text : List ℕ) (p p₁ : Place) : Type 0 where
  pub sign : kind_is s p.token.kind ≡ true
  pub past : PassedSign text (place p) (place p₁)

pub passed : {s : Sign} {text : List ℕ} {p p₁ : Place} {r : Result Unit Refused} → kind_is s p.token.kind ≡ true → PastSignSays text p r p₁ → r ≡ Ok tt
    → Passed s text p p₁
passed k h e = record { sign = k; past = h.taken e }

-- the chain that a sign joins, read so far from p₀ to p
pub record Sofar (s : Sign) (d : ℕ) (text : List ℕ) (p₀ : Place) (codes₀ : List Code) (out₀ : List ℕ) (l : ℕ) (p : Place) (codes : List Code)
    (out : List ℕ) : Type 0 where
  pub chain : SoFar s (below_of s (operands_at d)) d (tighter s) text (place p₀) codes₀ out₀ (part l p) codes out

-- the first operand of a chain
pub opened : {s : Sign} {d : ℕ} {text : List ℕ} {p : Place} {codes : List Code} {out : List ℕ} {l : ℕ} {p₁ : Place} {codes₁ : List Code} {out₁ : List ℕ} →
    First s d text p codes out l p₁ codes₁
    out₁ →
    Sofar s d text p codes out l p₁ codes₁ out₁
opened {s} {d} {text} {p} {codes} {out} f = record { chain = so-far-first s (below_of s (operands_at d)) d (tighter s) text (place p) codes out f }

module _ {s : Sign} {d : ℕ} {text : List ℕ} {p₀ : Place} {codes₀ : List Code} {out₀ : List ℕ} {l : ℕ} {p : Place} {codes : List Code} {out : List ℕ}
    (so : Sofar s d text p₀ codes₀ out₀ l p codes out) where
  -- what passing the sign asks
  pub asks-sign : kind_is s p.token.kind ≡ true → TokenFits text p.token × (joins p.token.kind ≡ true)
  asks-sign k = (so.chain.standing.token, sign-joins s p.token.kind k)

  -- the sign is refused
  pub sign-refused : {p₁ : Place} {r : Result Unit Refused} {x : Refused} → PastSignSays text p r p₁ → r ≡ Err x →
      walk operand d (flags_in text codes₀ p₀.flags) p₀.signs (ahead text p₀.token) ≡ refused p₁.refusal.reason p₁.refusal.place
  sign-refused {p₁} h e = so-far-no-sign s (below_of s (operands_at d)) d (tighter s) text (place p₀) codes₀ out₀ so.chain p₁.refusal
      (h.refused _ e)

  -- no sign follows: the chain is read
  pub chain-read : kind_is s p.token.kind ≡ false →
      FoundPart (plain (left_level s (below_of s (operands_at d)))) d (tighter s + 1) text (place p₀) codes₀ out₀ (part l p) codes out
  chain-read k = so-far-done s (below_of s (operands_at d)) d (tighter s) text (place p₀) codes₀ out₀ so.chain k (bound s)

  module _ {p₁ : Place} (q : Passed s text p p₁) where
    -- what the operand behind the sign asks
    pub asks-operand : {wait : Stack} → Rooms out wait → wait.count ≤ p₁.signs → d ≤ bracket_ceiling → Asks text p₁ d codes out wait
    asks-operand n w b = record {
      rooms = n;
      standing = so-far-standing s (below_of s (operands_at d)) d (tighter s) text (place p₀) codes₀ out₀ so.chain (place p₁) q.sign q.past;
      waits = w;
      brackets = b;
    }

    -- the text that is left is less
    pub nearer : (p₀.token.start < p₁.token.start) × (p.token.start < p₁.token.start) × (p.token.start < length text) × (p₀.token.start < length text)
    nearer =
        let m = so.chain.standing.token.moves (joins-on p.token.kind (sign-joins s p.token.kind q.sign)) in (
          omega (arith, so.chain.later, q.past.0.later),
          q.past.0.later,
          omega (arith, m, so.chain.standing.token.inside),
          omega (arith, m, so.chain.later, so.chain.standing.token.inside),
        )

    module _ {L : ℕ → Level} {k : ℕ} {wait : Stack} {r : Result ℕ Refused} {p₂ : Place} {codes₂ : List Code} {out₂ : List ℕ} {wait₂ : Stack}
        (h : Says L d k text p₁ codes out wait r p₂ codes₂ out₂ wait₂) where
      -- the operand behind the sign is refused
      pub operand-refused : {x : Refused} → r ≡ Err x →
          walk operand d (flags_in text codes₀ p₀.flags) p₀.signs (ahead text p₀.token) ≡ refused p₂.refusal.reason p₂.refusal.place
      operand-refused e =
          so-far-no-operand s (below_of s (operands_at d)) d (tighter s) text (place p₀) codes₀ out₀ so.chain (place p₁) q.sign q.past
          p₂.refusal
          (h.refused _ e)

      module _ {m : ℕ} (e : r ≡ Ok m) where
        -- what joining asks
        pub asks-joined : (p₂.count < connective_ceiling) × ((l ≤ literal_ceiling) × (m ≤ literal_ceiling))
        asks-joined = (
          fewer s (below_of s (operands_at d)) d (tighter s) text (place p₀) codes₀ out₀ so.chain (place p₁) q.sign q.past (h.found m e),
          (so.chain.writes.small, (h.found m e).writes.small),
        )

        -- the reader goes on
        pub grows : {s' : Sign} {x j : ℕ} {p₃ : Place} {out₃ : List ℕ} → JoinedSays s' x m p₂ out₂ j p₃ out₃ →
            (p.token.start < p₃.token.start) × (p.token.start < length text) × (p₂.signs ≡ p₃.signs)
        grows {s'} {x} {j} {p₃} g =
            let a : p₃.token.start ≡ p₂.token.start = ap (λ (x : Part). x.at.token.start) g.joined in
            let b : p₃.signs ≡ p₂.signs = ap (λ (x : Part). x.at.signs) g.joined in
            let n = nearer in
            (omega (arith, a, n.1, (h.found m e).later), n.2, sym b)

    -- the operand behind the sign joins the chain
    pub joins-chain : {wait : Stack} {r : Result ℕ Refused} {p₂ : Place} {codes₂ : List Code} {out₂ : List ℕ} {wait₂ : Stack} →
        Says (plain (below_of s (operands_at d))) d (tighter s) text p₁ codes out wait r p₂ codes₂ out₂ wait₂ → {m : ℕ} → r ≡ Ok m →
        {j : ℕ} {p₃ : Place} {out₃ : List ℕ} → JoinedSays s l m p₂ out₂ j p₃ out₃ → Sofar s d text p₀ codes₀ out₀ j p₃ codes₂ out₃
    joins-chain {wait} {r} {p₂} {codes₂} {out₂} h {m} e {j} {p₃} {out₃} g = record {
      chain =
          subst (λ (x : Part). SoFar s (below_of s (operands_at d)) d (tighter s) text (place p₀) codes₀ out₀ x codes₂ out₃) (sym g.joined)
          (subst (λ (y : List ℕ). SoFar s (below_of s (operands_at d)) d (tighter s) text (place p₀) codes₀ out₀ (joined_part s (part m p₂)) codes₂ y)
          (sym g.written)
          (so_far_more s (below_of s (operands_at d)) d (tighter s) text (place p₀) codes₀ out₀ so.chain (place p₁) q.sign q.past (h.found m e)
          h.rooms.triplets));
    }

-- the loop carries every chain on that was read up to its start
pub record On (s : Sign) (d : ℕ) (text : List ℕ) (l₁ : ℕ) (p₁ : Place) (codes₁ : List Code) (out₁ : List ℕ) (wait₁ : Stack) (l : ℕ) (p : Place)
    (codes : List Code) (out : List ℕ) (wait : Stack) : Type 0
  where
    pub on : (p₀ : Place) (codes₀ : List Code) (out₀ : List ℕ) → Sofar s d text p₀ codes₀ out₀ l₁ p₁ codes₁ out₁ → Sofar s d text p₀ codes₀ out₀ l p
        codes out
    pub still : Still wait₁ wait
    pub waits : wait₁.count ≤ p₁.signs → wait.count ≤ p.signs
    pub rooms : Rooms out₁ wait₁ → Rooms out wait
    pub later : p₁.token.start ≤ p.token.start

pub on-first : {s : Sign} {d : ℕ} {text : List ℕ} {l : ℕ} {p : Place} {codes : List Code} {out : List ℕ} {wait : Stack} →
    On s d text l p codes out wait l p codes out wait
on-first = record { on = λ p₀ codes₀ out₀ h. h; still = still-same; waits = λ h. h; rooms = λ h. h; later = omega arith }

module _ {s : Sign} {d : ℕ} {text : List ℕ} {l₁ : ℕ} {p₁ : Place} {codes₁ : List Code} {out₁ : List ℕ} {wait₁ : Stack} {l : ℕ} {p : Place} {codes : List Code}
    {out : List ℕ} {wait : Stack}
    (o : On s d text l₁ p₁ codes₁ out₁ wait₁ l p codes out wait) where
  -- a chain whose first operand was read up to the loop's start
  pub carried : (p₀ : Place) (codes₀ : List Code) (out₀ : List ℕ) → First s d text p₀ codes₀ out₀ l₁ p₁ codes₁ out₁ → Sofar s d text p₀ codes₀ out₀ l
      p codes out
  carried p₀ codes₀ out₀ f = o.on p₀ codes₀ out₀ (opened f)

  module _ (b : Begun s d text l₁ p₁ codes₁ out₁ wait₁) where
    pub here : Sofar s d text b.from b.from_codes b.from_out l p codes out
    here = carried b.from b.from_codes b.from_out b.first

    pub rooms-here : Rooms out wait
    rooms-here = o.rooms b.rooms

-- what was written leaves the room as it was
pub joined-room : {s : Sign} {l r : ℕ} {p : Place} {out : List ℕ} {x : ℕ} {p' : Place} {out' : List ℕ} {wait : Stack} → JoinedSays s l r p out x p' out' → Rooms
    out wait →
    Rooms out' wait
joined-room g n = record { triplets = ap length g.written ∙ simp length-set n.triplets; literals = n.literals }

-- no more literals wait than signs were seen, behind an operand and behind a sign
pub waits-on : {L : ℕ → Level} {d k : ℕ} {text : List ℕ} {p : Place} {codes : List Code} {out : List ℕ} {wait : Stack} {r : Result ℕ Refused} {p' : Place}
    {codes' : List Code} {out' : List ℕ} {wait' : Stack} {l : ℕ} → wait.count ≤ p.signs →
    Says L d k text p codes out wait r p' codes' out' wait' → r ≡ Ok l → wait'.count ≤ p'.signs
waits-on {l = l} w h e = omega (arith, w, (h.still l e).waits, (h.found l e).reads.signs)

pub waits-past : {s : Sign} {text : List ℕ} {p p₁ : Place} {n : ℕ} → n ≤ p.signs → Passed s text p p₁ → n ≤ p₁.signs
waits-past w q = omega (arith, w, q.past.0.signs)

module _ (s : Sign) {d : ℕ} {text : List ℕ} {p₀ : Place} {codes₀ : List Code} {out₀ : List ℕ} {wait₀ : Stack} {r : Result ℕ Refused} {p : Place}
    {codes : List Code} {out : List ℕ} {wait : Stack} {l : ℕ}
    (f : Says (plain (below_of s (operands_at d))) d (tighter s) text p₀ codes₀ out₀ wait₀ r p codes out wait) (e : r ≡ Ok l) where
  -- the first operand, where the sign of the chain does not follow: the chain is that operand
  pub left_alone : kind_is s p.token.kind ≡ false →
      Says (plain (left_level s (below_of s (operands_at d)))) d (tighter s + 1) text p₀ codes₀ out₀ wait₀ (Ok l) p codes out wait
  left_alone k = says-found refl (chain-read (opened {s = s} {d = d} {p = p₀} {p₁ = p} (f.found l e)) k) (f.still l e) f.rooms

  -- where it follows, there is a chain to go on with, and less text is left
  pub begins : wait₀.count ≤ p₀.signs → d ≤ bracket_ceiling → Begun s d text l p codes out wait
  begins w b = record {
    from = p₀;
    from_codes = codes₀;
    from_out = out₀;
    first = f.found l e;
    rooms = f.rooms;
    waits = waits-on w f e;
    brackets = b;
  }

  pub further : kind_is s p.token.kind ≡ true → (p₀.token.start < p.token.start) × (p.token.start < length text)
  further k =
      let m = (f.found l e).standing.token.moves (joins-on p.token.kind (sign-joins s p.token.kind k)) in
      ((f.found l e).later, omega (arith, m, (f.found l e).standing.token.inside))

-- one turn of the loop: the sign, an operand, and both joined
module _ {s : Sign} {d : ℕ} {text : List ℕ} {l₁ : ℕ} {p₁ : Place} {codes₁ : List Code} {out₁ : List ℕ} {wait₁ : Stack} {l : ℕ} {p : Place} {codes : List Code}
    {out : List ℕ} {wait : Stack}
    (o : On s d text l₁ p₁ codes₁ out₁ wait₁ l p codes out wait) {p₂ : Place} (q : Passed s text p p₂)
    {r : Result ℕ Refused} {p₃ : Place} {codes₃ : List Code} {out₃ : List ℕ} {wait₃ : Stack}
    (h : Says (plain (below_of s (operands_at d))) d (tighter s) text p₂ codes out wait r p₃ codes₃ out₃ wait₃) {m : ℕ} (e : r ≡ Ok m)
    {j : ℕ} {p₄ : Place} {out₄ : List ℕ} (g : JoinedSays s l m p₃ out₃ j p₄ out₄) where
  pub on-more : On s d text l₁ p₁ codes₁ out₁ wait₁ j p₄ codes₃ out₄ wait₃
  on-more =
      let a : p₄.token.start ≡ p₃.token.start = ap (λ (x : Part). x.at.token.start) g.joined in
      let b : p₄.signs ≡ p₃.signs = ap (λ (x : Part). x.at.signs) g.joined in
      record {
        on = λ p₀ codes₀ out₀ f. joins-chain (o.on p₀ codes₀ out₀ f) q h e g;
        still = still-twice o.still (h.still m e);
        waits = λ n. omega (arith, b, waits-on (waits-past (o.waits n) q) h e);
        rooms = λ n. joined-room g h.rooms;
        later = omega (arith, o.later, q.past.0.later, (h.found m e).later, a);
      }
