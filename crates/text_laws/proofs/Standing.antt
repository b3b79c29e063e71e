-- Where codes stand: the bytes of the text there are the code's, and the flags have the places where their codes first stand.
use Prim.Native.Nat.{ℕ, zero, suc, ◌+◌, ◌-◌, ◌≤◌}
use native.Mathlib.Nat.{sub-zero, min-le_right}
use native.Mathlib.Omega.{arith}
use mathlib.Core.Path.{◌≡◌, refl, sym, ap, subst}
use mathlib.Core.Logic.{◌⊎◌, inl, inr, ⊎_elim}
use mathlib.Core.Bool.{Bool, true, false}
use mathlib.Core.List.{List, [], ◌∷◌}
use lib.ListN.{length, take, drop, length-take}
use lib.Dec.{leb, eqb}
use Rattle.notation.specs.Ceilings.{code_ceiling}
use Rattle.notation.specs.Tokens.{Code, Token, Tokens, same, implies, or, and, stray, long, code, hash, bang, sign, opening, closing, end, at, code_byte}
use Rattle.notation.specs.Tokens.{code_run, coded, hashed, marked, token_of, further, tokens_from, tokens}
use Rattle.ground.specs.Choice.{choose}
use Rattle.notation.specs.Walk.{Flag, known, seen}
use Rattle.notation.specs.Grammar.{number}
use Rattle.ground.proofs.Cases.{either, never}
use Rattle.notation.proofs.Cutting.{run-prefix}
use Rattle.notation.proofs.Numbered.{known-within, seen-fine}
use Rattle.text_laws.specs.Texts.{code_of, seen_at, seen_in, Stands, IsFlag}
use Rattle.text_laws.proofs.Flags.{within-known, seen-new, seen-known, number-seen, Keeps, keeps-seen, flag-split}

-- ---- codes and other tokens
-- what is no code
no_code : (t : Token) (c : Code) → code_of t ≡ [] → code c ≡ t → ⊥
unfolding code_of
no_code t c n e =
    let some : c ∷ [] ≡ code_of t = ap code_of e in
    let z : ◌≡◌ {A = ℕ} 0 1 = cc in
    omega arith

chosen_none : (b : Bool) (s t : Token) → code_of s ≡ [] → code_of t ≡ [] → code_of (choose b s t) ≡ []
chosen_none true s t e f = e
chosen_none false s t e f = f

hashed-none : (bs : List ℕ) → code_of (hashed bs) ≡ []
unfolding hashed code_of
hashed-none [] = refl
hashed-none (b ∷ bs) = chosen_none (eqb b 48) (hash false) (choose (eqb b 49) (hash true) stray) refl (chosen_none (eqb b 49) (hash true) stray refl refl)

marked-none : (b : ℕ) → code_of (marked b) ≡ []
unfolding marked code_of
marked-none b =
    chosen_none (eqb b 33) bang _ refl
    (chosen_none (eqb b 38) (sign and) _ refl
    (chosen_none (eqb b 124) (sign or) _ refl
    (chosen_none (eqb b 62) (sign implies) _ refl
    (chosen_none (eqb b 61) (sign same) _ refl (chosen_none (eqb b 40) opening _ refl (chosen_none (eqb b 41) closing stray refl refl))))))

-- a code that starts with a byte is that byte and the run behind it
code-spelt : (b : ℕ) (bs : List ℕ) (c : Code) → code c ≡ token_of b bs → c ≡ b ∷ code_run bs
unfolding token_of coded
code-spelt b bs c e =
    ⊎_elim
    (λ (h : code_byte b ≡ true).
    let f : code c ≡ choose (leb (length (b ∷ code_run bs)) code_ceiling) (code (b ∷ code_run bs)) long = rw h at e in
    ⊎_elim
    (λ (l : leb (length (b ∷ code_run bs)) code_ceiling ≡ true). let g : code c ≡ code (b ∷ code_run bs) = rw l at f in cc)
    (λ (l : leb (length (b ∷ code_run bs)) code_ceiling ≡ false). let g : code c ≡ long = rw l at f in let z : ◌≡◌ {A = ℕ} 0 1 = cc in absurd
    (omega arith))
    (either (leb (length (b ∷ code_run bs)) code_ceiling)))
    (λ (h : code_byte b ≡ false).
    let f : code c ≡ choose (eqb b 35) (hashed bs) (marked b) = rw h at e in
    absurd (no_code (choose (eqb b 35) (hashed bs) (marked b)) c (chosen_none (eqb b 35) (hashed bs) (marked b) (hashed-none bs) (marked-none b)) f))
    (either (code_byte b))

-- ---- places
-- of bytes that start at place p those at place q are the code c
record Spelt (p : ℕ) (bs : List ℕ) (q : ℕ) (c : Code) : Type 0 where
  later : p ≤ q
  bytes : take (length c) (drop (q - p) bs) ≡ c
  inside : q + length c ≤ p + length bs

run-within : (bs : List ℕ) → length (code_run bs) ≤ length bs
run-within bs =
    let n : ℕ = length (code_run bs) in
    let less : length (take n bs) ≤ length bs = rw length-take (min-le_right n (length bs)) in
    rw (run-prefix bs) at less

spelt-here : (p b : ℕ) (bs : List ℕ) (q : ℕ) (c : Code) → q ≡ p → code c ≡ token_of b bs → Spelt p (b ∷ bs) q c
spelt-here p b bs q c e f =
    let is : c ≡ b ∷ code_run bs = code-spelt b bs c f in
    let zero-off : q - p ≡ 0 = omega arith in
    let long : length c ≡ suc (length (code_run bs)) = ap length is in
    record {
      later = omega arith;
      bytes = rw (zero-off, is) (ap (λ (l : List ℕ). b ∷ l) (run-prefix bs));
      inside = omega (arith, run-within bs);
    }

spelt-later : (p b : ℕ) (bs : List ℕ) (q : ℕ) (c : Code) → Spelt (suc p) bs q c → Spelt p (b ∷ bs) q c
spelt-later p b bs q c s =
    let off : q - p ≡ suc (q - suc p) = omega (arith, s.later) in
    record {
      later = omega (arith, s.later);
      bytes = rw off s.bytes;
      inside = omega (arith, s.inside);
    }

spelt-by : (t : Bool) (x y : Tokens) (P : Type 0) (q : ℕ) (c : Code) → (Stands q c x → P) → (Stands q c y → P) →
    Stands q c (elim t [ true ↦ x | false ↦ y ]) → P
spelt-by true x y P q c f g s = f s
spelt-by false x y P q c f g s = g s

spelt-from : (p k : ℕ) (bs : List ℕ) (q : ℕ) (c : Code) → Stands q c (tokens_from p k bs) → Spelt p bs q c
unfolding tokens_from
spelt-from p k [] q c s = absurd s
spelt-from p zero (b ∷ bs) q c s =
    spelt-by (eqb b 32) (tokens_from (suc p) 0 bs) (at p (token_of b bs) (tokens_from (suc p) (further (token_of b bs)) bs)) (Spelt p (b ∷ bs) q c) q c
    (λ r. spelt-later p b bs q c (spelt-from (suc p) 0 bs q c r))
    (λ r.
    ⊎_elim
    (λ (h : (q ≡ p) × (code c ≡ token_of b bs)). spelt-here p b bs q c h.0 h.1)
    (λ (h : Stands q c (tokens_from (suc p) (further (token_of b bs)) bs)).
    spelt-later p b bs q c (spelt-from (suc p) (further (token_of b bs)) bs q c h))
    r)
    s
spelt-from p (suc k) (b ∷ bs) q c s = spelt-later p b bs q c (spelt-from (suc p) k bs q c s)

-- the code that stands at a place of a text is the bytes of the text there
pub text-spelt : (text : List ℕ) (q : ℕ) (c : Code) → Stands q c (tokens text) → (take (length c) (drop q text) ≡ c) × (q + length c ≤ length text)
unfolding tokens
text-spelt text q c s =
    let r : Spelt 0 text q c = spelt-from 0 0 text q c s in
    (rw sub-zero at r.bytes, omega (arith, r.inside))

-- codes further on have later places
abbrev pub Ascending : Tokens → Type 0
Ascending (end p) = Unit {0}
Ascending (at p t ts) = ((q : ℕ) (c : Code) → Stands q c ts → p ≤ q) × Ascending ts

ascending-by : (t : Bool) (x y : Tokens) → Ascending x → Ascending y → Ascending (elim t [ true ↦ x | false ↦ y ])
ascending-by true x y f g = f
ascending-by false x y f g = g

ascending-from : (p k : ℕ) (bs : List ℕ) → Ascending (tokens_from p k bs)
unfolding tokens_from
ascending-from p k [] = tt
ascending-from p zero (b ∷ bs) =
    ascending-by (eqb b 32) (tokens_from (suc p) 0 bs) (at p (token_of b bs) (tokens_from (suc p) (further (token_of b bs)) bs))
    (ascending-from (suc p) 0 bs)
    ((λ q c s. omega (arith, (spelt-from (suc p) (further (token_of b bs)) bs q c s).later)), ascending-from (suc p) (further (token_of b bs)) bs)
ascending-from p (suc k) (b ∷ bs) = ascending-from (suc p) k bs

pub text-ascending : (text : List ℕ) → Ascending (tokens text)
unfolding tokens
text-ascending text = ascending-from 0 0 text

-- ---- first appearance
-- the code of f stands at the place of f, and nowhere before
abbrev pub First : Flag → Tokens → Type 0
First f ts = Stands f.place f.name ts × ((p : ℕ) → Stands p f.name ts → f.place ≤ p)

first-here : (p : ℕ) (c : Code) (ts : Tokens) → ((q : ℕ) (d : Code) → Stands q d ts → p ≤ q) → First (record { place = p; name = c })
    (at p (code c) ts)
first-here p c ts a = (
  inl (refl, refl),
  λ q s. ⊎_elim (λ (h : (q ≡ p) × (code c ≡ code c)). omega (arith, h.0)) (λ (h : Stands q c ts). a q c h) s,
)

first-later : (f : Flag) (p : ℕ) (t : Token) (ts : Tokens) → (code f.name ≡ t → ⊥) → First f ts → First f (at p t ts)
first-later f p t ts n r = (
  inr r.0,
  λ q s. ⊎_elim (λ (h : (q ≡ p) × (code f.name ≡ t)). absurd (n h.1)) (λ (h : Stands q f.name ts). r.1 q h) s,
)

-- what is not known once more is seen was not known before
unknown-before : (p : ℕ) (c d : Code) (u : List Flag) → known d (seen p c u) ≡ false → known d u ≡ false
unknown-before p c d u h =
    ⊎_elim
    (λ (e : known d u ≡ true).
    let k : Keeps u (seen p c u) = keeps-seen p c u in
    let l : number d u ≤ length u = known-within d u e in
    absurd (never (known d (seen p c u)) (within-known d (seen p c u) (omega (arith, k.same d l, k.longer))) h))
    (λ (e : known d u ≡ false). e)
    (either (known d u))

-- and is not what was seen
unknown-other : (p : ℕ) (c d : Code) (u : List Flag) → known d (seen p c u) ≡ false → code d ≡ code c → ⊥
unknown-other p c d u h e =
    let is : c ≡ d = cc in
    let k : known c (seen p c u) ≡ true = within-known c (seen p c u) (omega (arith, number-seen p c u, (seen-fine p c u).2)) in
    never (known d (seen p c u)) (subst (λ (x : Code). known x (seen p c u) ≡ true) is k) h

-- a flag was seen before, or is new and has the place where its code first stands
abbrev Firsts : List Flag → Tokens → Flag → ℕ → Type 0
Firsts u ts f i = IsFlag i f u ⊎ ((known f.name u ≡ false) × First f ts)

flag-seen : (p : ℕ) (c : Code) (u : List Flag) (i : ℕ) (f : Flag) → IsFlag i f (seen p c u) →
    IsFlag i f u ⊎ ((known c u ≡ false) × (f ≡ record { place = p; name = c }))
flag-seen p c u i f s =
    ⊎_elim
    (λ (e : known c u ≡ true). inl (rw (seen-known p c u e) at s))
    (λ (e : known c u ≡ false).
    ⊎_elim
    (λ (h : IsFlag i f u). inl h)
    (λ (h : (i ≡ length u + 1) × (f ≡ record { place = p; name = c })). inr (e, h.1))
    (flag-split i f u (record { place = p; name = c }) (rw (seen-new p c u e) at s)))
    (either (known c u))

-- one code further back
firsts-code : (p : ℕ) (c : Code) (ts : Tokens) (u : List Flag) → ((q : ℕ) (d : Code) → Stands q d ts → p ≤ q) → (i : ℕ) (f : Flag) →
    Firsts (seen p c u) ts f i → Firsts u (at p (code c) ts) f i
firsts-code p c ts u a i f r =
    ⊎_elim
    (λ (h : IsFlag i f (seen p c u)).
    ⊎_elim
    (λ (k : IsFlag i f u). inl k)
    (λ (k : (known c u ≡ false) × (f ≡ record { place = p; name = c })).
    inr
    (subst (λ (x : Flag). (known x.name u ≡ false) × First x (at p (code c) ts)) (sym k.1) (k.0, first-here p c ts a)))
    (flag-seen p c u i f h))
    (λ (h : (known f.name (seen p c u) ≡ false) × First f ts).
    inr (unknown-before p c f.name u h.0, first-later f p (code c) ts (unknown-other p c f.name u h.0) h.1))
    r

-- another token further back
firsts-none : (p : ℕ) (t : Token) (ts : Tokens) (u : List Flag) → code_of t ≡ [] → (i : ℕ) (f : Flag) → Firsts u ts f i → Firsts u (at p t ts) f i
firsts-none p t ts u n i f r =
    ⊎_elim
    (λ (h : IsFlag i f u). inl h)
    (λ (h : (known f.name u ≡ false) × First f ts). inr (h.0, first-later f p t ts (no_code t f.name n) h.1))
    r

pub firsts : (ts : Tokens) (u : List Flag) → Ascending ts → (i : ℕ) (f : Flag) → IsFlag i f (seen_in u ts) → Firsts u ts f i
unfolding seen_in seen_at code_of
firsts (end p) u a i f s = inl s
firsts (at p stray ts) u a i f s = firsts-none p stray ts u refl i f (firsts ts u a.1 i f s)
firsts (at p long ts) u a i f s = firsts-none p long ts u refl i f (firsts ts u a.1 i f s)
firsts (at p (code c) ts) u a i f s = firsts-code p c ts u a.0 i f (firsts ts (seen p c u) a.1 i f s)
firsts (at p (hash b) ts) u a i f s = firsts-none p (hash b) ts u refl i f (firsts ts u a.1 i f s)
firsts (at p bang ts) u a i f s = firsts-none p bang ts u refl i f (firsts ts u a.1 i f s)
firsts (at p (sign t) ts) u a i f s = firsts-none p (sign t) ts u refl i f (firsts ts u a.1 i f s)
firsts (at p opening ts) u a i f s = firsts-none p opening ts u refl i f (firsts ts u a.1 i f s)
firsts (at p closing ts) u a i f s = firsts-none p closing ts u refl i f (firsts ts u a.1 i f s)
