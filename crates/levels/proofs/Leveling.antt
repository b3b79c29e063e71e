-- How the levels of the notation build on each other: laws over any next level, for the tree and for the walk.
use Prim.Native.Nat.{ℕ, zero, suc, ◌+◌, ◌-◌, ◌≤◌, ◌<◌}
use native.Mathlib.Numerals.{add-one}
use native.Mathlib.Omega.{arith}
use mathlib.Core.Path.{◌≡◌, refl, sym, ap, ◌∙◌}
use mathlib.Core.Bool.{Bool, true, false, true≢false}
use mathlib.Core.List.{List, [], ◌∷◌}
use lib.ListN.{get_or}
use mathlib.Core.Logic.{⊎_elim}
use native.Mathlib.Nat.{eq-or-lt_of_le}
use borrow.Author.Tests.{le-leb}
use Rattle.notation.specs.Ceilings.{connective_ceiling}
use Rattle.notation.specs.Tokens.{Tokens, Sign, same, implies, or, and, stray, long, code, hash, bang, sign, opening, closing, end, at}
use Rattle.notation.specs.Walk.{Flag, walk, operand, after, within}
use Rattle.notation.specs.Guard.{Guard, joined, connectives}
use Rattle.notation.specs.Grammar.{Level, Parsed, found, follow, is_sign, sign_next, past, to_the_left, to_the_right, left_level}
use Rattle.operands.specs.clauses.Steps.{binding}
use Rattle.levels.specs.clauses.Levels.{plain, Reads}
use Rattle.levels.proofs.Written.{connectives-joined}

-- after an operand the walk passes a sign that is within the ceiling
pub past-sign : (s : Sign) (d : ℕ) (u : List Flag) (m : ℕ) (ts : Tokens) → sign_next s ts ≡ true → m < connective_ceiling →
    walk after d u m ts ≡ walk operand d u (m + 1) (past ts)
unfolding sign_next is_sign walk within past
past-sign s d u m (end p) e h = absurd (true≢false (sym e))
past-sign s d u m (at p stray ts) e h = absurd (true≢false (sym e))
past-sign s d u m (at p long ts) e h = absurd (true≢false (sym e))
past-sign s d u m (at p (code c) ts) e h = absurd (true≢false (sym e))
past-sign s d u m (at p (hash b) ts) e h = absurd (true≢false (sym e))
past-sign s d u m (at p bang ts) e h = absurd (true≢false (sym e))
past-sign s d u m (at p (sign t) ts) e h = rw (add-one, le-leb (suc m) connective_ceiling h)
past-sign s d u m (at p opening ts) e h = absurd (true≢false (sym e))
past-sign s d u m (at p closing ts) e h = absurd (true≢false (sym e))

-- what is read of a chain of operands joined by s so far: the guard g, with room for as many more as the ceiling leaves
pub record Chain (s : Sign) (next : Level) (d k : ℕ) (u₀ : List Flag) (m₀ : ℕ) (ts₀ : Tokens) (g : Guard) (u : List Flag) (m : ℕ) (ts : Tokens) :
    Type 0 where
  pub room : ℕ
  pub enough : connective_ceiling ≤ room + m
  pub parsed : left_level s next u₀ ts₀ ≡ to_the_left s next room g u ts
  pub walked : walk operand d u₀ m₀ ts₀ ≡ walk after d u m ts
  pub signs : m ≡ m₀ + connectives g
  pub stops : (t : Sign) → binding t ≤ k → sign_next t ts ≡ false

-- the sign that binds so tight
unbinding : ℕ → Sign
unbinding b = get_or (and ∷ and ∷ or ∷ implies ∷ same ∷ []) b and

bound : (s : Sign) → unbinding (binding s) ≡ s
unfolding unbinding
bound same = refl
bound implies = refl
bound or = refl
bound and = refl

-- where neither s nor a tighter sign stands next, no sign up to that of s does
stops-more : (s : Sign) (k : ℕ) (ts : Tokens) → binding s ≡ k + 1 → sign_next s ts ≡ false
    → ((t : Sign) → binding t ≤ k → sign_next t ts ≡ false) →
    (t : Sign) → binding t ≤ k + 1 → sign_next t ts ≡ false
stops-more s k ts b e f t h =
    ⊎_elim
    (λ (q : binding t ≡ k + 1). ap (λ (x : Sign). sign_next x ts) (sym (bound t) ∙ ap unbinding (q ∙ sym b) ∙ bound s) ∙ e)
    (λ (q : binding t < k + 1). f t (omega arith))
    (eq-or-lt_of_le h)

module _ (s : Sign) (next : Level) where
  left-more : (n : ℕ) (g : Guard) (u : List Flag) (ts : Tokens) (h : Guard) (v : List Flag) (us : Tokens) → sign_next s ts ≡ true →
      next u (past ts) ≡ found h v us → to_the_left s next (suc n) g u ts ≡ to_the_left s next n (joined s g h) v us
  unfolding to_the_left follow
  left-more n g u ts h v us e f = rw (e, to_the_left, f)

  left-done : (n : ℕ) (g : Guard) (u : List Flag) (ts : Tokens) → sign_next s ts ≡ false → to_the_left s next n g u ts ≡ found g u ts
  unfolding to_the_left
  left-done zero g u ts e = refl
  left-done (suc n) g u ts e = rw (e, to_the_left)

  -- what follows an operand, by whether the sign stands next
  abbrev branch : ℕ → Guard → List Flag → Tokens → Bool → Parsed
  branch n g v us t = elim t [ true ↦ follow (to_the_right s next n v (past us)) (λ h w vs. found (joined s g h) w vs) | false ↦ found g v us ]

  abbrev grouped : ℕ → Guard → List Flag → Tokens → Parsed
  grouped n g v us = branch n g v us (sign_next s us)

  right-more : (n : ℕ) (u : List Flag) (ts : Tokens) (g : Guard) (v : List Flag) (us : Tokens) (h : Guard) (w : List Flag) (vs : Tokens) →
      next u ts ≡ found g v us → sign_next s us ≡ true → to_the_right s next n v (past us) ≡ found h w vs →
      to_the_right s next (suc n) u ts ≡ found (joined s g h) w vs
  unfolding to_the_right follow
  right-more n u ts g v us h w vs e f k =
      ap (λ (p : Parsed). follow p (λ x y zs. grouped n x y zs)) e ∙ ap (λ (t : Bool). branch n g v us t) f ∙ ap
      (λ (p : Parsed). follow p (λ x y zs. found (joined s g x) y zs)) k

  right-done : (n : ℕ) (u : List Flag) (ts : Tokens) (g : Guard) (v : List Flag) (us : Tokens) → next u ts ≡ found g v us → sign_next s us ≡ false →
      to_the_right s next n u ts ≡ found g v us
  unfolding to_the_right follow
  right-done zero u ts g v us e f = e
  right-done (suc n) u ts g v us e f = ap (λ (p : Parsed). follow p (λ x y zs. grouped n x y zs)) e ∙ ap (λ (t : Bool). branch n g v us t) f

module _ (s : Sign) (next : Level) (d k : ℕ) (u₀ : List Flag) (m₀ : ℕ) (ts₀ : Tokens) where
  -- the first operand
  pub chain_first : {g : Guard} {u : List Flag} {m : ℕ} {ts : Tokens} → Reads (plain next) d k u₀ m₀ ts₀ g u m ts → Chain s next d k u₀ m₀
      ts₀ g u m ts
  unfolding left_level follow
  chain_first r = record {
    room = connective_ceiling;
    enough = omega arith;
    parsed = rw (r.parsed connective_ceiling (omega arith));
    walked = r.walked;
    signs = r.signs;
    stops = r.stops;
  }

  one_more : {g : Guard} {u : List Flag} {m : ℕ} {ts : Tokens} {h : Guard} {v : List Flag} {m' : ℕ} {us : Tokens} →
      (c : Chain s next d k u₀ m₀ ts₀ g u m ts) → (n : ℕ) → c.room ≡ suc n → sign_next s ts ≡ true → m < connective_ceiling →
      Reads (plain next) d k u (m + 1) (past ts) h v m' us → Chain s next d k u₀ m₀ ts₀ (joined s g h) v m' us
  one_more {g} {u} {m} {ts} {h} {v} {m'} {us} c n q e l r = record {
    room = n;
    enough = omega (arith, c.enough, r.signs);
    parsed = c.parsed ∙ ap (λ (x : ℕ). to_the_left s next x g u ts) q ∙ left-more s next n g u ts h v us e (r.parsed connective_ceiling (omega arith));
    walked = c.walked ∙ past-sign s d u m ts e l ∙ r.walked;
    signs = omega (arith, c.signs, r.signs, connectives-joined s g h);
    stops = r.stops;
  }

  -- one more operand
  pub chain_more : {g : Guard} {u : List Flag} {m : ℕ} {ts : Tokens} {h : Guard} {v : List Flag} {m' : ℕ} {us : Tokens} →
      Chain s next d k u₀ m₀ ts₀ g u m ts → sign_next s ts ≡ true → m < connective_ceiling →
      Reads (plain next) d k u (m + 1) (past ts) h v m' us → Chain s next d k u₀ m₀ ts₀ (joined s g h) v m' us
  chain_more c e l r = one_more c (c.room - 1) (omega (arith, c.enough)) e l r

  -- where no further sign stands, the chain is read
  pub chain-done : {g : Guard} {u : List Flag} {m : ℕ} {ts : Tokens} → Chain s next d k u₀ m₀ ts₀ g u m ts → sign_next s ts ≡ false → binding s
      ≡ k + 1 →
      Reads (plain (left_level s next)) d (k + 1) u₀ m₀ ts₀ g u m ts
  chain-done {g} {u} {m} {ts} c e b = record {
    parsed = λ f _. c.parsed ∙ left-done s next c.room g u ts e;
    walked = c.walked;
    signs = c.signs;
    stops = stops-more s k ts b e c.stops;
  }

  -- a single operand, where the sign that groups to the right does not follow
  pub right-one : {g : Guard} {u : List Flag} {m : ℕ} {ts : Tokens} → Reads (plain next) d k u₀ m₀ ts₀ g u m ts → sign_next s ts ≡ false
      → binding s ≡ k + 1 →
      Reads (to_the_right s next) d (k + 1) u₀ m₀ ts₀ g u m ts
  right-one {g} {u} {m} {ts} r e b = record {
    parsed = λ f h. right-done s next f u₀ ts₀ g u ts (r.parsed f h) e;
    walked = r.walked;
    signs = r.signs;
    stops = stops-more s k ts b e r.stops;
  }

  -- an operand, the sign, and all that follows
  pub right-two : {g : Guard} {u : List Flag} {m : ℕ} {ts : Tokens} {h : Guard} {v : List Flag} {m' : ℕ} {us : Tokens} →
      Reads (plain next) d k u₀ m₀ ts₀ g u m ts → sign_next s ts ≡ true → m < connective_ceiling →
      Reads (to_the_right s next) d (k + 1) u (m + 1) (past ts) h v m' us → Reads (to_the_right s next) d (k + 1) u₀ m₀ ts₀ (joined s g h) v m' us
  right-two {g} {u} {m} {ts} {h} {v} {m'} {us} r e l q = record {
    parsed = λ f i.
        let less : f ≡ suc (f - 1) = omega (arith, r.signs) in
        ap (λ (x : ℕ). to_the_right s next x u₀ ts₀) less
        ∙ right-more s next (f - 1) u₀ ts₀ g u ts h v us (r.parsed f i) e (q.parsed (f - 1) (omega (arith, r.signs)));
    walked = r.walked ∙ past-sign s d u m ts e l ∙ q.walked;
    signs = omega (arith, r.signs, q.signs, connectives-joined s g h);
    stops = q.stops;
  }
