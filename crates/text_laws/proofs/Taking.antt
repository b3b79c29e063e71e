-- Where the walk accepts, each level finds a guard and goes on: no room for further operands or brackets ever ends.
use Prim.Native.Nat.{ℕ, zero, suc, ◌+◌, ◌<◌}
use native.Mathlib.Omega.{arith}
use mathlib.Core.Path.{◌≡◌, refl, sym, ◌∙◌}
use mathlib.Core.Logic.{⊎_elim}
use mathlib.Core.Bool.{true, false}
use mathlib.Core.List.{List, ◌++◌}
use Rattle.notation.specs.Ceilings.{connective_ceiling}
use Rattle.notation.specs.Tokens.{Tokens, Sign, same, implies, or, and}
use Rattle.notation.specs.Walk.{Flag, accepted, walk, operand, after}
use Rattle.notation.specs.Guard.{Guard, joined}
use Rattle.notation.specs.Grammar.{Level, sign_next, past, to_the_right, left_level, right_level, and_of, or_of, implies_of, same_of}
use Rattle.ground.proofs.Cases.{either}
use Rattle.operands.specs.clauses.Steps.{binding}
use Rattle.levels.specs.clauses.Levels.{plain, Reads}
use Rattle.levels.proofs.Leveling.{Chain, past-sign, chain_first, chain_more, chain-done, right-one, right-two}
use Rattle.text_laws.specs.Texts.{leaves}
use Rattle.text_laws.proofs.Accepting.{sign-room}
use Rattle.text_laws.proofs.Passing.{size, Passes, passes-sign, passes-joined}

-- the level L finds a guard, d brackets being open, and tokens are left
pub record Takes (L : ℕ → Level) (d k : ℕ) (u : List Flag) (m : ℕ) (ts : Tokens) : Type 0 where
  pub guard : Guard
  pub flags : List Flag
  pub signs : ℕ
  pub rest : Tokens
  pub reads : Reads L d k u m ts guard flags signs rest
  pub passes : Passes u ts (leaves guard) flags rest

-- so wherever fewer than n tokens are left and the walk accepts
abbrev pub Taking : (ℕ → Level) → ℕ → ℕ → ℕ → Type 0
Taking L d k n = (u : List Flag) (m : ℕ) (ts : Tokens) (w : List Flag) (j : ℕ) → size ts < n → walk operand d u m ts ≡ accepted w j → Takes L d k
    u m ts

leaves-joined : (s : Sign) (g h : Guard) → leaves (joined s g h) ≡ leaves g ++ leaves h
unfolding leaves
leaves-joined s g h = refl

module _ (s : Sign) (next : Level) (d k : ℕ) (b : binding s ≡ k + 1) (n : ℕ) (o : Taking (plain next) d k n) where
  -- a chain that groups to the left
  left-on : (i : ℕ) (u₀ : List Flag) (m₀ : ℕ) (ts₀ : Tokens) (g : Guard) (u : List Flag) (m : ℕ) (ts : Tokens) (w : List Flag) (j : ℕ) →
      Chain s next d k u₀ m₀ ts₀ g u m ts → Passes u₀ ts₀ (leaves g) u ts → size ts < i → size ts < n → walk after d u m ts ≡ accepted w j
      →
      Takes (plain (left_level s next)) d (k + 1) u₀ m₀ ts₀
  left-on zero u₀ m₀ ts₀ g u m ts w j c p l q e = absurd (omega arith)
  left-on (suc i) u₀ m₀ ts₀ g u m ts w j c p l q e =
      ⊎_elim
      (λ (h : sign_next s ts ≡ true).
      let room : m < connective_ceiling = sign-room s d u m ts w j h e in
      let on : walk operand d u (m + 1) (past ts) ≡ accepted w j = sym (past-sign s d u m ts h room) ∙ e in
      let less : size (past ts) < size ts = (passes-sign s u ts h).fewer in
      let t : Takes (plain next) d k u (m + 1) (past ts) = o u (m + 1) (past ts) w j (omega arith) on in
      let lesser : size t.rest < size (past ts) = t.passes.fewer in
      left-on i u₀ m₀ ts₀ (joined s g t.guard) t.flags t.signs t.rest w j (chain_more s next d k u₀ m₀ ts₀ c h room t.reads)
      (rw leaves-joined (passes-joined s p h t.passes)) (omega arith) (omega arith) (sym t.reads.walked ∙ on))
      (λ (h : sign_next s ts ≡ false).
      record { guard = g; flags = u; signs = m; rest = ts; reads = chain-done s next d k u₀ m₀ ts₀ c h b; passes = p })
      (either (sign_next s ts))

  pub left-takes : Taking (plain (left_level s next)) d (k + 1) n
  left-takes u m ts w j l e =
      let t : Takes (plain next) d k u m ts = o u m ts w j l e in
      let less : size t.rest < size ts = t.passes.fewer in
      left-on n u m ts t.guard t.flags t.signs t.rest w j (chain_first s next d k u m ts t.reads) t.passes
      (omega arith) (omega arith) (sym t.reads.walked ∙ e)

  -- a chain that groups to the right
  right-on : (i : ℕ) (u : List Flag) (m : ℕ) (ts : Tokens) (w : List Flag) (j : ℕ) → size ts < i → size ts < n → walk operand d u m ts
      ≡ accepted w j →
      Takes (to_the_right s next) d (k + 1) u m ts
  right-on zero u m ts w j l q e = absurd (omega arith)
  right-on (suc i) u m ts w j l q e =
      let t : Takes (plain next) d k u m ts = o u m ts w j q e in
      let after-it : walk after d t.flags t.signs t.rest ≡ accepted w j = sym t.reads.walked ∙ e in
      let less : size t.rest < size ts = t.passes.fewer in
      ⊎_elim
      (λ (h : sign_next s t.rest ≡ true).
      let room : t.signs < connective_ceiling = sign-room s d t.flags t.signs t.rest w j h after-it in
      let on : walk operand d t.flags (t.signs + 1) (past t.rest) ≡ accepted w j =
      sym (past-sign s d t.flags t.signs t.rest h room) ∙ after-it in
      let lesser : size (past t.rest) < size t.rest = (passes-sign s t.flags t.rest h).fewer in
      let r : Takes (to_the_right s next) d (k + 1) t.flags (t.signs + 1) (past t.rest) =
      right-on i t.flags (t.signs + 1) (past t.rest) w j (omega arith) (omega arith) on in
      record {
        guard = joined s t.guard r.guard;
        flags = r.flags;
        signs = r.signs;
        rest = r.rest;
        reads = right-two s next d k u m ts t.reads h room r.reads;
        passes = rw leaves-joined (passes-joined s t.passes h r.passes);
      })
      (λ (h : sign_next s t.rest ≡ false).
      record { guard = t.guard; flags = t.flags; signs = t.signs; rest = t.rest; reads = right-one s next d k u m ts t.reads h b; passes = t.passes })
      (either (sign_next s t.rest))

  pub right-takes : Taking (plain (right_level s next)) d (k + 1) n
  unfolding right_level
  right-takes u m ts w j l e =
      let t : Takes (to_the_right s next) d (k + 1) u m ts = right-on n u m ts w j l l e in
      record {
        guard = t.guard;
        flags = t.flags;
        signs = t.signs;
        rest = t.rest;
        reads = record {
          parsed = λ _ _. t.reads.parsed connective_ceiling (omega arith);
          walked = t.reads.walked;
          signs = t.reads.signs;
          stops = t.reads.stops;
        };
        passes = t.passes;
      }

-- the levels, from tightest to loosest
pub levels-take : (operands : Level) (d n : ℕ) → Taking (plain operands) d 0 n → Taking (plain (same_of operands)) d 4 n
unfolding same_of implies_of or_of and_of
levels-take operands d n o =
    left-takes same (implies_of operands) d 3 refl n
    (right-takes implies (or_of operands) d 2 refl n (left-takes or (and_of operands) d 1 refl n (left-takes and operands d 0 refl n o)))
