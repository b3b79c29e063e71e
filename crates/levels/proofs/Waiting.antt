-- `>` by a loop: the operands before each sign wait, the last on top, and are joined from the right when the chain ends.
use Prim.Native.Nat.{ℕ, zero, suc, ◌+◌, ◌-◌, ◌*◌, ◌≤◌, ◌<◌}
use native.Mathlib.Omega.{arith}
use mathlib.Core.Path.{◌≡◌, refl, sym, ap, subst, ◌∙◌}
use mathlib.Core.Bool.{false}
use mathlib.Core.List.{List, [], ◌∷◌}
use lib.ListN.{length, get_or}
use Rattle.std.specs.Prelude.{Result, Ok}
use Rattle.notation.specs.Ceilings.{connective_ceiling, bracket_ceiling}
use Rattle.notation.specs.Tokens.{Sign}
use Rattle.notation.specs.Walk.{walk, refused, operand}
use Rattle.notation.specs.Grammar.{to_the_right}
use Rattle.notation.specs.Triplets.{triplet_of, literal_ceiling}
use Rattle.notation.specs.clauses.Writing.{triplet_at}
use Rattle.notation.specs.clauses.Cut.{ahead}
use Rattle.notation.specs.clauses.Codes.{flags_in}
use Rattle.notation.specs.declared.codes.Code.{Code}
use Rattle.notation.specs.declared.refusal.Reason.{Reason}
use Rattle.notation.specs.declared.refusal.Refused.{Refused}
use Rattle.notation.specs.declared.place.Place.{Place}
use Rattle.operands.specs.clauses.Steps.{Part, kind_is, joined_part, place, JoinedSays, Pushed, Popped}
use Rattle.operands.specs.declared.waiting.Stack.{Stack}
use Rattle.levels.specs.clauses.Levels.{plain, operands_at, below_of, tighter, part, FoundPart, Rooms, Asks, Still, Says, First}
use Rattle.levels.proofs.Joining.{so-far-first, walked_on, fewer, right-alone, right-joined}
use Rattle.levels.proofs.Turning.{bound, Passed, Sofar, opened, asks-operand, joined-room}

-- from p₀ on the operands with the literals ls, the last first, each with its sign, have been read up to p
pub data Waiting (s : Sign) (d : ℕ) (text : List ℕ) (p₀ : Place) (codes₀ : List Code) (out₀ : List ℕ) : List ℕ → Place → List Code → List ℕ → Type 0 where
  none : Waiting s d text p₀ codes₀ out₀ [] p₀ codes₀ out₀
  more : {ks : List ℕ} {q : Place} {qcodes : List Code} {qout : List ℕ} {k : ℕ} {p₁ : Place} {codes₁ : List Code} {out₁ : List ℕ} {p₂ : Place} →
      Waiting s d text p₀ codes₀ out₀ ks q qcodes qout →
      First s d text q qcodes qout k p₁ codes₁ out₁ → Passed s text p₁ p₂ → Waiting s d text p₀ codes₀ out₀ (k ∷ ks) p₂ codes₁ out₁

-- the walk goes on behind the last sign
pub waiting-walked : {s : Sign} {d : ℕ} {text : List ℕ} {p₀ : Place} {codes₀ : List Code} {out₀ ls : List ℕ} {p : Place} {codes : List Code} {out : List ℕ} →
    Waiting s d text p₀ codes₀ out₀ ls p codes out →
    walk operand d (flags_in text codes₀ p₀.flags) p₀.signs (ahead text p₀.token)
    ≡ walk operand d (flags_in text codes p.flags) p.signs (ahead text p.token)
waiting-walked none = refl
waiting-walked {s} {d} {text} (more {ks} {q} {qcodes} {qout} {k} {p₁} {codes₁} {out₁} {p₂} w f g) =
    waiting-walked w
    ∙ walked_on s (below_of s (operands_at d)) d (tighter s) text (place q) qcodes qout
    (so-far-first s (below_of s (operands_at d)) d (tighter s) text (place q) qcodes qout f) (place p₂) g.sign g.past

-- k literals that wait from the place b on, the last first
unfoldable pub held : List ℕ → ℕ → ℕ → List ℕ
held wait b zero = []
held wait b (suc k) = get_or wait (b + k) 0 ∷ held wait b k

held_same : (wait wait' : List ℕ) (b k : ℕ) → ((i : ℕ) → i < b + k → get_or wait' i 0 ≡ get_or wait i 0) → held wait b k ≡ held wait' b k
unfolding held
held_same wait wait' b zero h = refl
held_same wait wait' b (suc k) h =
    ap (λ (n : ℕ). n ∷ held wait b k) (sym (h (b + k) (omega arith))) ∙ ap (λ (l : List ℕ). get_or wait' (b + k) 0 ∷ l)
    (held_same wait wait' b k (λ i g. h i (omega arith)))

-- operands wait from the place b on, and behind the last sign one more was read
pub record Rising (s : Sign) (d : ℕ) (text : List ℕ) (p₀ : Place) (codes₀ : List Code) (out₀ : List ℕ) (b l : ℕ) (p : Place) (codes : List Code)
    (out : List ℕ) (wait : Stack) : Type 0 where
  pub k : ℕ
  pub q : Place
  pub qcodes : List Code
  pub qout : List ℕ
  pub here : wait.count ≡ b + k
  pub waits : Waiting s d text p₀ codes₀ out₀ (held wait.literals b k) q qcodes qout
  pub last : First s d text q qcodes qout l p codes out

pub rising-first : {s : Sign} {d : ℕ} {text : List ℕ} {p₀ : Place} {codes₀ : List Code} {out₀ : List ℕ} {b l : ℕ} {p : Place} {codes : List Code}
    {out : List ℕ} {wait : Stack} →
    First s d text p₀ codes₀
    out₀ l p codes out →
    wait.count ≡ b → Rising s d text p₀ codes₀ out₀ b l p codes out wait
unfolding held
rising-first {p₀ = p₀} {codes₀ = codes₀} {out₀ = out₀} f e =
    record { k = 0; q = p₀; qcodes = codes₀; qout = out₀; here = omega (arith, e); waits = none; last = f }

module _ {s : Sign} {d : ℕ} {text : List ℕ} {p₀ : Place} {codes₀ : List Code} {out₀ : List ℕ} {b l : ℕ} {p : Place} {codes : List Code} {out : List ℕ}
    {wait : Stack}
    (r : Rising s d text p₀ codes₀ out₀ b l p codes out wait) where
  -- the operand behind the last sign, as the first of a chain
  pub rising-opened : Sofar s d text r.q r.qcodes r.qout l p codes out
  rising-opened = opened r.last

  pub rising-refused : {n : Reason} {m : ℕ} → walk operand d (flags_in text r.qcodes r.q.flags) r.q.signs (ahead text r.q.token) ≡ refused
      n m →
      walk operand d (flags_in text codes₀ p₀.flags) p₀.signs (ahead text p₀.token) ≡ refused n m
  rising-refused e = waiting-walked r.waits ∙ e

  -- it waits behind its sign, and the next operand is read
  pub rising-more : {p₂ : Place} {wait₂ : Stack} → Pushed l wait wait₂ → Passed s text p p₂ →
      {m : ℕ} {p₃ : Place} {codes₃ : List Code} {out₃ : List ℕ} {wait₃ : Stack} → First s d text p₂ codes out m p₃ codes₃ out₃ → Still wait₂ wait₃ →
      Rising s d text p₀ codes₀ out₀ b m p₃ codes₃ out₃ wait₃
  unfolding held
  rising-more {p₂} {wait₂} a q {m} {p₃} {codes₃} {out₃} {wait₃} f t =
      let top : l ≡ get_or wait₃.literals (b + r.k) 0
      = sym a.last ∙ ap (λ (n : ℕ). get_or wait₂.literals n 0) r.here ∙ sym (t.others (b + r.k) (omega (arith, a.waits, r.here))) in
      let rest : held wait.literals b r.k ≡ held wait₃.literals b r.k
      = held_same wait.literals wait₃.literals b r.k
      (λ i h. t.others i (omega (arith, a.waits, r.here, h)) ∙ a.others i (omega (arith, r.here, h))) in
      record {
        k = suc r.k;
        q = p₂;
        qcodes = codes;
        qout = out;
        here = omega (arith, t.waits, a.waits, r.here);
        waits =
            subst (λ (ls : List ℕ). Waiting s d text p₀ codes₀ out₀ ls p₂ codes out)
            (ap (λ (n : ℕ). n ∷ held wait.literals b r.k) top ∙ ap (λ (ls : List ℕ). get_or wait₃.literals (b + r.k) 0 ∷ ls) rest)
            (more r.waits r.last q);
        last = f;
      }

-- operands wait from the place b on, and all behind the last sign has been read as the rest of the chain, with the literal j
pub record Falling (s : Sign) (d : ℕ) (text : List ℕ) (p₀ : Place) (codes₀ : List Code) (out₀ : List ℕ) (b j : ℕ) (p : Place) (codes : List Code)
    (out : List ℕ) (wait : Stack) : Type 0 where
  pub k : ℕ
  pub q : Place
  pub qcodes : List Code
  pub qout : List ℕ
  pub here : wait.count ≡ b + k
  pub waits : Waiting s d text p₀ codes₀ out₀ (held wait.literals b k) q qcodes qout
  pub rest : FoundPart (to_the_right s (below_of s (operands_at d))) d (tighter s + 1) text (place q) qcodes qout (part j p) codes out

-- where no sign follows, the last operand is the rest
pub chain-ends : {s : Sign} {d : ℕ} {text : List ℕ} {p₀ : Place} {codes₀ : List Code} {out₀ : List ℕ} {b l : ℕ} {p : Place} {codes : List Code}
    {out : List ℕ} {wait : Stack} →
    Rising s d text p₀ codes₀
    out₀ b l p codes out wait →
    kind_is s p.token.kind ≡ false → Falling s d text p₀ codes₀ out₀ b l p codes out wait
chain-ends {s} {d} {text} r e = record {
  k = r.k;
  q = r.q;
  qcodes = r.qcodes;
  qout = r.qout;
  here = r.here;
  waits = r.waits;
  rest = right-alone s (below_of s (operands_at d)) d (tighter s) text (place r.q) r.qcodes r.qout r.last (bound s) e;
}

-- the last that waits, with the rest behind its sign
record Last (s : Sign) (d : ℕ) (text : List ℕ) (p₀ : Place) (codes₀ : List Code) (out₀ : List ℕ) (n : ℕ) (ls : List ℕ) (p : Place)
    (codes : List Code) (out : List ℕ) : Type 0 where
  q : Place
  qcodes : List Code
  qout : List ℕ
  p₁ : Place
  waits : Waiting s d text p₀ codes₀ out₀ ls q qcodes qout
  first : First s d text q qcodes qout n p₁ codes out
  pass : Passed s text p₁ p

last_of : {s : Sign} {d : ℕ} {text : List ℕ} {p₀ : Place} {codes₀ : List Code} {out₀ : List ℕ} {n : ℕ} {ls : List ℕ} {p : Place} {codes : List Code}
    {out : List ℕ} →
    Waiting s d text p₀ codes₀ out₀
    (n ∷ ls) p codes out →
    Last s d text p₀ codes₀ out₀ n ls p codes out
last_of (more {ks} {q} {qcodes} {qout} {k} {p₁} w f g) = record { q = q; qcodes = qcodes; qout = qout; p₁ = p₁; waits = w; first = f; pass = g }

module _ {s : Sign} {d : ℕ} {text : List ℕ} {p₀ : Place} {codes₀ : List Code} {out₀ : List ℕ} {b j : ℕ} {p : Place} {codes : List Code} {out : List ℕ}
    {wait : Stack}
    (r : Falling s d text p₀ codes₀ out₀ b j p codes out wait) where
  module _ (h : b < wait.count) where
    one_less : r.k ≡ suc (r.k - 1)
    one_less = omega (arith, h, r.here)

    top : Last s d text p₀ codes₀ out₀ (get_or wait.literals (b + (r.k - 1)) 0) (held wait.literals b (r.k - 1)) r.q r.qcodes r.qout
    unfolding held
    top = last_of (subst (λ (n : ℕ). Waiting s d text p₀ codes₀ out₀ (held wait.literals b n) r.q r.qcodes r.qout) one_less r.waits)

    at_top : b + (r.k - 1) ≡ wait.count - 1
    at_top = omega (arith, h, r.here)

    -- what joining asks
    pub asks-last : {m : ℕ} {wait₁ : Stack} → Popped wait m wait₁ → (p.count < connective_ceiling) × ((m ≤ literal_ceiling) × (j ≤ literal_ceiling))
    asks-last {m} o =
        let t = top in
        let e : get_or wait.literals (b + (r.k - 1)) 0 ≡ m = ap (λ (n : ℕ). get_or wait.literals n 0) at_top ∙ sym o.last in (
          fewer s (below_of s (operands_at d)) d (tighter s) text (place t.q) t.qcodes t.qout
              (so-far-first s (below_of s (operands_at d)) d (tighter s) text (place t.q) t.qcodes t.qout t.first) (place r.q) t.pass.sign
              t.pass.past r.rest,
          (subst (λ (n : ℕ). n ≤ literal_ceiling) e t.first.writes.small, r.rest.writes.small),
        )

    -- the last that waits is joined with the rest
    pub joins-last : length out ≡ 3 * connective_ceiling → {m : ℕ} {wait₁ : Stack} → Popped wait m wait₁ → {i : ℕ} {p₃ : Place} {out₃ : List ℕ} →
        JoinedSays s m j p out i p₃ out₃ → Falling s d text p₀ codes₀ out₀ b i p₃ codes out₃ wait₁
    joins-last n {m} {wait₁} o {i} {p₃} {out₃} g =
        let t = top in
        let e : m ≡ get_or wait.literals (b + (r.k - 1)) 0 = o.last ∙ ap (λ (n : ℕ). get_or wait.literals n 0) (sym at_top) in
        record {
          k = r.k - 1;
          q = t.q;
          qcodes = t.qcodes;
          qout = t.qout;
          here = omega (arith, o.waits, h, r.here);
          waits = subst (λ (ls : List ℕ). Waiting s d text p₀ codes₀ out₀ (held ls b (r.k - 1)) t.q t.qcodes t.qout) (sym o.others) t.waits;
          rest =
              subst (λ (x : Part). FoundPart (to_the_right s (below_of s (operands_at d))) d (tighter s + 1) text (place t.q) t.qcodes t.qout x codes
              out₃)
              (sym g.joined)
              (subst (λ (y : List ℕ). FoundPart (to_the_right s (below_of s (operands_at d))) d (tighter s + 1) text (place t.q) t.qcodes t.qout
              (joined_part s (part j p)) codes y)
              (sym (g.written ∙ ap (λ (n : ℕ). triplet_at out p.count (triplet_of s n j)) e))
              (right-joined s (below_of s (operands_at d)) d (tighter s) text (place t.q) t.qcodes t.qout t.first (bound s) (place r.q)
              t.pass.sign t.pass.past r.rest n));
        }

  -- where none waits, the chain is read
  pub all-joined : wait.count ≡ b → FoundPart (to_the_right s (below_of s (operands_at d))) d (tighter s + 1) text (place p₀) codes₀ out₀ (part j p)
      codes out
  unfolding held
  all-joined e =
      let z : r.k ≡ 0 = omega (arith, e, r.here) in
      at_first (subst (λ (n : ℕ). Waiting s d text p₀ codes₀ out₀ (held wait.literals b n) r.q r.qcodes r.qout) z r.waits) r.rest
    where
      at_first : {q : Place} {qcodes : List Code} {qout : List ℕ} → Waiting s d text p₀ codes₀ out₀ [] q qcodes qout →
          FoundPart (to_the_right s (below_of s (operands_at d))) d (tighter s + 1) text (place q) qcodes qout (part j p) codes out →
          FoundPart (to_the_right s (below_of s (operands_at d))) d (tighter s + 1) text (place p₀) codes₀ out₀ (part j p) codes out
      at_first none x = x

-- the first loop: every chain whose first operand was read up to its start has been carried on
pub record Up (s : Sign) (d : ℕ) (text : List ℕ) (b l₁ : ℕ) (p₁ : Place) (codes₁ : List Code) (out₁ : List ℕ) (wait₁ : Stack) (l : ℕ) (p : Place)
    (codes : List Code) (out : List ℕ) (wait : Stack) : Type 0
  where
    pub up : (p₀ : Place) (codes₀ : List Code) (out₀ : List ℕ) → First s d text p₀ codes₀ out₀ l₁ p₁ codes₁ out₁ → Rising s d text p₀ codes₀ out₀ b l p
        codes out wait
    pub waits : wait.count ≤ p.signs
    pub least : b ≤ wait.count
    pub others : (i : ℕ) → i < b → get_or wait.literals i 0 ≡ get_or wait₁.literals i 0
    pub rooms : Rooms out wait
    pub later : p₁.token.start ≤ p.token.start

pub up_first : {s : Sign} {d : ℕ} {text : List ℕ} {b l : ℕ} {p : Place} {codes : List Code} {out : List ℕ} {wait : Stack} →
    wait.count ≡ b → wait.count ≤ p.signs → Rooms
    out wait →
    Up s d text b l p codes out wait l p codes out wait
up_first e w n = record {
  up = λ p₀ codes₀ out₀ f. rising-first f e;
  waits = w;
  least = omega (arith, e);
  others = λ i h. refl;
  rooms = n;
  later = omega arith;
}

module _ {s : Sign} {d : ℕ} {text : List ℕ} {b l₁ : ℕ} {p₁ : Place} {codes₁ : List Code} {out₁ : List ℕ} {wait₁ : Stack} {l : ℕ} {p : Place}
    {codes : List Code} {out : List ℕ} {wait : Stack}
    (u : Up s d text b l₁ p₁ codes₁ out₁ wait₁ l p codes out wait) {p₂ : Place} (q : Passed s text p p₂) where
  -- there is room for one literal more
  pub asks-aside : wait.count < connective_ceiling
  asks-aside = omega (arith, u.waits, q.past.1)

  module _ {wait₃ : Stack} (a : Pushed l wait wait₃) where
    -- what the operand behind the sign asks
    pub asks-next : {p₀ : Place} {codes₀ : List Code} {out₀ : List ℕ} → Rising s d text p₀ codes₀ out₀ b l p codes out wait → d ≤ bracket_ceiling →
        Asks text p₂ d codes out wait₃
    asks-next r c =
        asks-operand (rising-opened r) q (record { triplets = u.rooms.triplets; literals = a.table }) (omega (arith, a.waits, u.waits, q.past.0.signs)) c

    -- one more has been read
    pub up_more : {r : Result ℕ Refused} {p₄ : Place} {codes₄ : List Code} {out₄ : List ℕ} {wait₄ : Stack} →
        Says (plain (below_of s (operands_at d))) d (tighter s) text p₂ codes out wait₃ r p₄ codes₄ out₄ wait₄ → {m : ℕ} → r ≡ Ok m →
        Up s d text b l₁ p₁ codes₁ out₁ wait₁ m p₄ codes₄ out₄ wait₄
    up_more h {m} e =
        let t = h.still m e in
        record {
          up = λ p₀ codes₀ out₀ f. rising-more (u.up p₀ codes₀ out₀ f) a q (h.found m e) t;
          waits = omega (arith, t.waits, a.waits, u.waits, q.past.0.signs, (h.found m e).reads.signs);
          least = omega (arith, t.waits, a.waits, u.least);
          others = λ i g. t.others i (omega (arith, a.waits, u.least, g)) ∙ a.others i (omega (arith, u.least, g)) ∙ u.others i g;
          rooms = h.rooms;
          later = omega (arith, u.later, q.past.0.later, (h.found m e).later);
        }

-- the second loop: every chain of which the rest was read has been carried on
pub record Down (s : Sign) (d : ℕ) (text : List ℕ) (b l₁ : ℕ) (p₁ : Place) (codes : List Code) (out₁ : List ℕ) (wait₁ : Stack) (l : ℕ) (p : Place)
    (out : List ℕ) (wait : Stack) : Type 0 where
  pub down : (p₀ : Place) (codes₀ : List Code) (out₀ : List ℕ) → Falling s d text p₀ codes₀ out₀ b l₁ p₁ codes out₁ wait₁ →
      Falling s d text p₀ codes₀ out₀ b l p codes out wait
  pub least : b ≤ wait.count
  pub most : wait.count ≤ connective_ceiling
  pub rooms : Rooms out wait
  pub same : wait.literals ≡ wait₁.literals

-- it starts where the first ends
pub down-first : {s : Sign} {d : ℕ} {text : List ℕ} {b l₁ : ℕ} {p₁ : Place} {codes₁ : List Code} {out₁ : List ℕ} {wait₁ : Stack} {l : ℕ} {p : Place}
    {codes : List Code} {out : List ℕ} {wait : Stack} →
    Up s d text b l₁ p₁ codes₁ out₁ wait₁ l p codes out wait → {p₀ : Place} {codes₀ : List Code} {out₀ : List ℕ} →
    Rising s d text p₀ codes₀ out₀ b l p codes out wait → Down s d text b l p codes out wait l p out wait
down-first u r = record {
  down = λ p₀ codes₀ out₀ h. h;
  least = u.least;
  most = omega (arith, u.waits, r.last.standing.signs);
  rooms = u.rooms;
  same = refl;
}

pub down-more : {s : Sign} {d : ℕ} {text : List ℕ} {b l₁ : ℕ} {p₁ : Place} {codes : List Code} {out₁ : List ℕ} {wait₁ : Stack} {l : ℕ} {p : Place}
    {out : List ℕ} {wait : Stack} →
    Down s d text b l₁ p₁ codes out₁ wait₁ l p out wait → b < wait.count → {m : ℕ} {wait₃ : Stack} → Popped wait m wait₃ →
    {i : ℕ} {p₃ : Place} {out₃ : List ℕ} → JoinedSays s m l p out i p₃ out₃ → Down s d text b l₁ p₁ codes out₁ wait₁ i p₃ out₃ wait₃
down-more v h o g = record {
  down = λ p₀ codes₀ out₀ f. joins-last (v.down p₀ codes₀ out₀ f) h v.rooms.triplets o g;
  least = omega (arith, h, o.waits);
  most = omega (arith, v.most, o.waits);
  rooms = record { triplets = (joined-room g v.rooms).triplets; literals = ap length o.others ∙ v.rooms.literals };
  same = o.others ∙ v.same;
}
