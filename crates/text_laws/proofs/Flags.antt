-- The codes seen: each has its own number, and keeps it when more are seen.
use Prim.Native.Nat.{ℕ, zero, suc, ◌+◌, ◌≤◌, ◌<◌}
use native.Mathlib.Omega.{arith}
use mathlib.Core.Path.{◌≡◌, refl, sym, ap, ◌∙◌}
use mathlib.Core.Logic.{◌⊎◌, inl, inr, ⊎_elim}
use mathlib.Core.Bool.{true, false}
use mathlib.Core.List.{List, [], ◌∷◌, ◌++◌}
use lib.ListN.{length, length-append}
use borrow.Author.Tests.{leb-false, le-leb}
use Rattle.notation.specs.Tokens.{Code, Tokens, end, at}
use Rattle.notation.specs.Walk.{Flag, same_code, known, seen}
use Rattle.notation.specs.Grammar.{number}
use Rattle.ground.proofs.Cases.{either}
use Rattle.notation.proofs.Coding.{known-number, number_append, number-here}
use Rattle.notation.proofs.Numbered.{seen-fine}
use Rattle.notation.proofs.Keys.{same_self}
use Rattle.text_laws.specs.Texts.{code_of, seen_at, seen_in, IsFlag}

-- ---- the number of a code
-- a code that has one of the numbers given was seen
pub within-known : (c : Code) (u : List Flag) → number c u ≤ length u → known c u ≡ true
within-known c u h = known-number c u ∙ le-leb (number c u) (length u) h

-- a new code has the next number
pub seen-new : (p : ℕ) (c : Code) (u : List Flag) → known c u ≡ false → seen p c u ≡ u ++ (record { place = p; name = c } ∷ [])
unfolding seen
seen-new p c u h = rw h

pub seen-known : (p : ℕ) (c : Code) (u : List Flag) → known c u ≡ true → seen p c u ≡ u
unfolding seen
seen-known p c u h = rw h

pub number-new : (c : Code) (u : List Flag) → known c u ≡ false → number c u ≡ length u + 1
number-new c u h =
    let more : length u < number c u = leb-false (number c u) (length u) (sym (known-number c u) ∙ h) in
    let long : length (seen 0 c u) ≡ length u + 1 = ap length (seen-new 0 c u h) ∙ length-append u (record { place = 0; name = c } ∷ []) in
    omega (arith, (seen-fine 0 c u).2)

-- more codes at the end change no number given
number-kept : (c : Code) (u v : List Flag) → number c u ≤ length u → number c (u ++ v) ≡ number c u
unfolding number
number-kept c [] v h = absurd (omega arith)
number-kept c (f ∷ u) v h =
    ⊎_elim
    (λ (e : same_code c f.name ≡ true). rw e)
    (λ (e : same_code c f.name ≡ false).
    let l : suc (number c u) ≤ suc (length u) = rw e at h in
    rw (e, number-kept c u v (omega arith)))
    (either (same_code c f.name))

-- the code that is added has the number that it was given
number-end : (p : ℕ) (c : Code) (u : List Flag) → known c u ≡ false → number c (u ++ (record { place = p; name = c } ∷ [])) ≡ length u + 1
number-end p c u h =
    number_append c u (record { place = p; name = c } ∷ []) (number-new c u h)
    ∙ ap (λ (n : ℕ). length u + n) (number-here c (record { place = p; name = c }) [] (same_self c))

pub number-seen : (p : ℕ) (c : Code) (u : List Flag) → number c (seen p c u) ≡ number c u
number-seen p c u =
    ⊎_elim
    (λ (e : known c u ≡ true). ap (number c) (seen-known p c u e))
    (λ (e : known c u ≡ false). ap (number c) (seen-new p c u e) ∙ number-end p c u e ∙ sym (number-new c u e))
    (either (known c u))

-- ---- numbers are kept
-- whatever has its number among u has it among w
pub record Keeps (u w : List Flag) : Type 0 where
  pub longer : length u ≤ length w
  pub same : (c : Code) → number c u ≤ length u → number c w ≡ number c u

keeps-all : (u : List Flag) → Keeps u u
keeps-all u = record { longer = omega arith; same = λ c h. refl }

pub keeps_on : {u v w : List Flag} → Keeps u v → Keeps v w → Keeps u w
keeps_on {u} {v} {w} a b = record {
  longer = omega (arith, a.longer, b.longer);
  same = λ c h. let e : number c v ≡ number c u = a.same c h in b.same c (omega (arith, a.longer)) ∙ e;
}

pub keeps-seen : (p : ℕ) (c : Code) (u : List Flag) → Keeps u (seen p c u)
keeps-seen p c u = record {
  longer = (seen-fine p c u).0;
  same = λ d h.
      ⊎_elim
      (λ (e : known c u ≡ true). ap (number d) (seen-known p c u e))
      (λ (e : known c u ≡ false). ap (number d) (seen-new p c u e) ∙ number-kept d u (record { place = p; name = c } ∷ []) h)
      (either (known c u));
}

pub keeps-at : (p : ℕ) (cs : List Code) (u : List Flag) → Keeps u (seen_at p cs u)
unfolding seen_at
keeps-at p [] u = keeps-all u
keeps-at p (c ∷ cs) u = keeps_on (keeps-seen p c u) (keeps-at p cs (seen p c u))

pub keeps-in : (u : List Flag) (ts : Tokens) → Keeps u (seen_in u ts)
unfolding seen_in
keeps-in u (end p) = keeps-all u
keeps-in u (at p t ts) = keeps_on (keeps-at p (code_of t) u) (keeps-in (seen_at p (code_of t) u) ts)

-- ---- flags by their numbers
-- a list has the flags 1 to its length
pub flag-there : (u : List Flag) (i : ℕ) → 1 ≤ i → i ≤ length u → (f : Flag) × IsFlag i f u
flag-there [] i h l = absurd (omega arith)
flag-there (g ∷ u) zero h l = absurd (omega arith)
flag-there (g ∷ u) (suc zero) h l = (g, refl)
flag-there (g ∷ u) (suc (suc i)) h l = flag-there u (suc i) (omega arith) (omega arith)

-- a flag of a longer list is one of the first, or the last
pub flag-split : (i : ℕ) (f : Flag) (u : List Flag) (h : Flag) → IsFlag i f (u ++ (h ∷ [])) → IsFlag i f u ⊎ ((i ≡ length u + 1) × (f ≡ h))
flag-split zero f [] h e = absurd e
flag-split (suc zero) f [] h e = inr (refl, e)
flag-split (suc (suc i)) f [] h e = absurd e
flag-split zero f (g ∷ u) h e = absurd e
flag-split (suc zero) f (g ∷ u) h e = inl e
flag-split (suc (suc i)) f (g ∷ u) h e =
    ⊎_elim
    (λ (a : IsFlag (suc i) f u). inl a)
    (λ (a : (suc i ≡ length u + 1) × (f ≡ h)). inr (omega (arith, a.0), a.1))
    (flag-split (suc i) f u h e)

-- each flag is found by its code under its own number
abbrev pub Own : List Flag → Type 0
Own u = (i : ℕ) (f : Flag) → IsFlag i f u → number f.name u ≡ i

flag-within : (i : ℕ) (f : Flag) (u : List Flag) → IsFlag i f u → i ≤ length u
flag-within i f [] e = absurd e
flag-within zero f (g ∷ u) e = absurd e
flag-within (suc zero) f (g ∷ u) e = omega arith
flag-within (suc (suc i)) f (g ∷ u) e = omega (arith, flag-within (suc i) f u e)

own-end : (p : ℕ) (c : Code) (u : List Flag) → known c u ≡ false → Own u → Own (u ++ (record { place = p; name = c } ∷ []))
own-end p c u n o i f e =
    ⊎_elim
    (λ (a : IsFlag i f u).
    let is : number f.name u ≡ i = o i f a in
    number-kept f.name u (record { place = p; name = c } ∷ []) (omega (arith, flag-within i f u a)) ∙ is)
    (λ (a : (i ≡ length u + 1) × (f ≡ record { place = p; name = c })).
    ap (λ (h : Flag). number h.name (u ++ (record { place = p; name = c } ∷ []))) a.1 ∙ number-end p c u n ∙ sym a.0)
    (flag-split i f u (record { place = p; name = c }) e)

own-seen : (p : ℕ) (c : Code) (u : List Flag) → Own u → Own (seen p c u)
own-seen p c u o =
    ⊎_elim
    (λ (e : known c u ≡ true). rw (seen-known p c u e) o)
    (λ (e : known c u ≡ false). rw (seen-new p c u e) (own-end p c u e o))
    (either (known c u))

own_at : (p : ℕ) (cs : List Code) (u : List Flag) → Own u → Own (seen_at p cs u)
unfolding seen_at
own_at p [] u o = o
own_at p (c ∷ cs) u o = own_at p cs (seen p c u) (own-seen p c u o)

pub own_in : (u : List Flag) (ts : Tokens) → Own u → Own (seen_in u ts)
unfolding seen_in
own_in u (end p) o = o
own_in u (at p t ts) o = own_in (seen_at p (code_of t) u) ts (own_at p (code_of t) u o)
