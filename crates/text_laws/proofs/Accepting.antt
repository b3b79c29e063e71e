-- Where the walk accepts: which tokens it passes, and what it has counted by then.
use Prim.Native.Nat.{ℕ, suc, ◌≤◌, ◌<◌}
use native.Mathlib.Omega.{arith}
use mathlib.Core.Path.{◌≡◌, refl, sym, ap, ◌∙◌}
use mathlib.Core.Bool.{true, false, false≢true}
use mathlib.Core.List.{List}
use Rattle.notation.specs.Ceilings.{connective_ceiling}
use Rattle.notation.specs.Tokens.{Tokens, Sign, same, implies, or, and, stray, long, code, hash, bang, sign, opening, closing, end, at}
use Rattle.notation.specs.Walk.{Flag, accepted, walk, operand, after}
use Rattle.notation.specs.Grammar.{same_sign, is_sign, sign_next, past}
use Rattle.notation.proofs.Accepted.{not-accepted, within-kept}
use Rattle.notation.specs.declared.refusal.Reason.TheVariants.{StrayByte, LongCode, OutOfPlace, ManyConnectives}
use Rattle.operands.specs.clauses.Steps.{binding}

-- where a sign stands next, the tokens are that sign and those past it
pub record SignNext (ts : Tokens) : Type 0 where
  pub place : ℕ
  pub which : Sign
  pub is : ts ≡ at place (sign which) (past ts)

pub sign-is : (s : Sign) (ts : Tokens) → sign_next s ts ≡ true → SignNext ts
unfolding sign_next is_sign past
sign-is s (end p) e = absurd (false≢true e)
sign-is s (at p stray ts) e = absurd (false≢true e)
sign-is s (at p long ts) e = absurd (false≢true e)
sign-is s (at p (code c) ts) e = absurd (false≢true e)
sign-is s (at p (hash b) ts) e = absurd (false≢true e)
sign-is s (at p bang ts) e = absurd (false≢true e)
sign-is s (at p (sign t) ts) e = record { place = p; which = t; is = refl }
sign-is s (at p opening ts) e = absurd (false≢true e)
sign-is s (at p closing ts) e = absurd (false≢true e)

-- a sign that the walk passes is within the ceiling
sign_kept : (d : ℕ) (u : List Flag) (m p : ℕ) (t : Sign) (ts : Tokens) (w : List Flag) (j : ℕ) → walk after d u m (at p (sign t) ts) ≡ accepted w j
    →
    m < connective_ceiling
unfolding walk
sign_kept d u m p t ts w j e = within-kept (suc m) connective_ceiling ManyConnectives p (walk operand d u (suc m) ts) w j e

pub sign-room : (s : Sign) (d : ℕ) (u : List Flag) (m : ℕ) (ts : Tokens) (w : List Flag) (j : ℕ) → sign_next s ts ≡ true →
    walk after d u m ts ≡ accepted w j → m < connective_ceiling
sign-room s d u m ts w j h e =
    let n : SignNext ts = sign-is s ts h in
    sign_kept d u m n.place n.which (past ts) w j (sym (ap (walk after d u m) n.is) ∙ e)

-- no sign stands next
abbrev pub NoSign : Tokens → Type 0
NoSign ts = (s : Sign) → binding s ≤ 4 → sign_next s ts ≡ false

no_sign : (p : ℕ) (t : Sign) (ts : Tokens) → NoSign (at p (sign t) ts) → ⊥
unfolding sign_next is_sign same_sign
no_sign p same ts n = false≢true (sym (n same (omega arith)))
no_sign p implies ts n = false≢true (sym (n implies (omega arith)))
no_sign p or ts n = false≢true (sym (n or (omega arith)))
no_sign p and ts n = false≢true (sym (n and (omega arith)))

-- after a guard in brackets a closing bracket stands
pub record Closing (us : Tokens) : Type 0 where
  pub place : ℕ
  pub rest : Tokens
  pub is : us ≡ at place closing rest

pub closing-is : (d : ℕ) (u : List Flag) (m : ℕ) (us : Tokens) (w : List Flag) (j : ℕ) → NoSign us → walk after (suc d) u m us ≡ accepted w j
    → Closing us
unfolding walk
closing-is d u m (end p) w j n e = absurd (not-accepted OutOfPlace p w j e)
closing-is d u m (at p stray ts) w j n e = absurd (not-accepted StrayByte p w j e)
closing-is d u m (at p long ts) w j n e = absurd (not-accepted LongCode p w j e)
closing-is d u m (at p (code c) ts) w j n e = absurd (not-accepted OutOfPlace p w j e)
closing-is d u m (at p (hash b) ts) w j n e = absurd (not-accepted OutOfPlace p w j e)
closing-is d u m (at p bang ts) w j n e = absurd (not-accepted OutOfPlace p w j e)
closing-is d u m (at p (sign s) ts) w j n e = absurd (no_sign p s ts n)
closing-is d u m (at p opening ts) w j n e = absurd (not-accepted OutOfPlace p w j e)
closing-is d u m (at p closing ts) w j n e = record { place = p; rest = ts; is = refl }

-- after a guard that stands in no bracket the text ends
pub record Ended (u : List Flag) (m : ℕ) (us : Tokens) (w : List Flag) (j : ℕ) : Type 0 where
  pub place : ℕ
  pub is : us ≡ end place
  pub flags : u ≡ w
  pub signs : m ≡ j

pub end_is : (u : List Flag) (m : ℕ) (us : Tokens) (w : List Flag) (j : ℕ) → NoSign us → walk after 0 u m us ≡ accepted w j → Ended u m us w j
unfolding walk
end_is u m (end p) w j n e = record { place = p; is = refl; flags = cc; signs = cc }
end_is u m (at p stray ts) w j n e = absurd (not-accepted StrayByte p w j e)
end_is u m (at p long ts) w j n e = absurd (not-accepted LongCode p w j e)
end_is u m (at p (code c) ts) w j n e = absurd (not-accepted OutOfPlace p w j e)
end_is u m (at p (hash b) ts) w j n e = absurd (not-accepted OutOfPlace p w j e)
end_is u m (at p bang ts) w j n e = absurd (not-accepted OutOfPlace p w j e)
end_is u m (at p (sign s) ts) w j n e = absurd (no_sign p s ts n)
end_is u m (at p opening ts) w j n e = absurd (not-accepted OutOfPlace p w j e)
end_is u m (at p closing ts) w j n e = absurd (not-accepted OutOfPlace p w j e)
