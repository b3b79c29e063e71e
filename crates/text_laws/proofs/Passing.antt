-- What lies between two places of a text: how many tokens, and which codes, each with the number that its flag has.
use Prim.Native.Nat.{ℕ, suc, ◌<◌}
use native.Mathlib.Omega.{arith}
use mathlib.Core.Path.{◌≡◌, refl, sym, ap, subst, ◌∙◌}
use mathlib.Core.Bool.{true}
use mathlib.Core.List.{List, [], ◌∷◌, ◌++◌, append_assoc}
use Rattle.notation.specs.Tokens.{Code, Token, Tokens, Sign, sign, end, at}
use Rattle.notation.specs.Walk.{Flag, seen}
use Rattle.notation.specs.Grammar.{number, sign_next, past}
use Rattle.text_laws.specs.Texts.{code_of, seen_at, seen_in}
use Rattle.text_laws.proofs.Accepting.{SignNext, sign-is}

-- how many tokens there are
unfoldable pub size : Tokens → ℕ
size (end p) = 0
size (at p t ts) = suc (size ts)

-- the place where the text ends
unfoldable pub end_place : Tokens → ℕ
end_place (end p) = p
end_place (at p t ts) = end_place ts

-- the numbers of codes that stand at place p, each by the codes seen before it
unfoldable pub numbers_at : ℕ → List Flag → List Code → List ℕ
numbers_at p u [] = []
numbers_at p u (c ∷ cs) = number c u ∷ numbers_at p (seen p c u) cs

-- the numbers of the codes of a text, each by the codes seen before it
unfoldable pub numbers_in : List Flag → Tokens → List ℕ
numbers_in u (end p) = []
numbers_in u (at p t ts) = numbers_at p u (code_of t) ++ numbers_in (seen_at p (code_of t) u) ts

-- from the tokens ts, the codes u being seen, up to the tokens us, where the codes v are: the codes in between have the numbers xs
pub record Passes (u : List Flag) (ts : Tokens) (xs : List ℕ) (v : List Flag) (us : Tokens) : Type 0 where
  pub fewer : size us < size ts
  pub ends : end_place us ≡ end_place ts
  pub flags : seen_in v us ≡ seen_in u ts
  pub numbers : xs ++ numbers_in v us ≡ numbers_in u ts

-- one token
pub passes-one : (u : List Flag) (p : ℕ) (t : Token) (ts : Tokens) → Passes u (at p t ts) (numbers_at p u (code_of t)) (seen_at p (code_of t) u) ts
unfolding size end_place seen_in numbers_in
passes-one u p t ts = record { fewer = omega arith; ends = refl; flags = refl; numbers = refl }

-- one stretch after another
pub passes_on : {u : List Flag} {ts : Tokens} {xs : List ℕ} {v : List Flag} {us : Tokens} {ys : List ℕ} {w : List Flag} {vs : Tokens} →
    Passes u ts xs v us → Passes v us ys w vs → Passes u ts (xs ++ ys) w vs
passes_on {u} {ts} {xs} {v} {us} {ys} {w} {vs} a b = record {
  fewer = omega (arith, a.fewer, b.fewer);
  ends = b.ends ∙ a.ends;
  flags = b.flags ∙ a.flags;
  numbers = append_assoc xs ys (numbers_in w vs) ∙ ap (λ (l : List ℕ). xs ++ l) b.numbers ∙ a.numbers;
}

-- a sign
pub passes-sign : (s : Sign) (u : List Flag) (ts : Tokens) → sign_next s ts ≡ true → Passes u ts [] u (past ts)
unfolding code_of seen_at numbers_at
passes-sign s u ts e =
    let n : SignNext ts = sign-is s ts e in
    subst (λ (x : Tokens). Passes u x [] u (past ts)) (sym n.is) (passes-one u n.place (sign n.which) (past ts))

-- two stretches and a sign between them
pub passes-joined : (s : Sign) {u : List Flag} {ts : Tokens} {xs : List ℕ} {v : List Flag} {us : Tokens} {ys : List ℕ} {w : List Flag} {vs : Tokens} →
    Passes u ts xs v us → sign_next s us ≡ true → Passes v (past us) ys w vs → Passes u ts (xs ++ ys) w vs
passes-joined s {u} {ts} {xs} {v} {us} {ys} {w} {vs} a e b = passes_on a (passes_on (passes-sign s v us e) b)
