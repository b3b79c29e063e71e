-- Where a guard of a pack is refused: with one of the outline's numbers, at a place from its start to its end.
use Prim.Native.Nat.{ℕ, zero, suc, ◌+◌, ◌-◌, ◌≤◌, ◌<◌}
use native.Mathlib.Omega.{arith}
use mathlib.Core.Path.{◌≡◌, subst}
use mathlib.Core.Bool.{Bool, true, false}
use mathlib.Core.List.{List, [], ◌∷◌}
use mathlib.Core.Logic.{⊎_elim}
use lib.ListN.{length, take, drop, length-drop}
use lib.Seq.{length-take-le, take_all}
use lib.Dec.{leb, eqb}
use borrow.Author.Tests.{leb-false}
use Rattle.ground.specs.Choice.{choose}
use Rattle.ground.proofs.Cases.{either, lt-or-ge}
use Rattle.notation.specs.Numbers.{number_of}
use Rattle.notation.specs.Refusals.{fault}
use Rattle.notation.specs.declared.refusal.Reason.{Reason}
use Rattle.notation.specs.declared.refusal.Reason.TheVariants.{LongText, ManyBrackets, ManyFlags, ManyConnectives}
use Rattle.notation.specs.declared.refusal.Refusal.{Refusal}
use Rattle.notation.specs.Ceilings.{text_ceiling, flag_ceiling, bracket_ceiling, connective_ceiling}
use Rattle.notation.specs.Tokens.{Tokens, stray, long, code, hash, bang, sign, opening, closing, end, at, token_of, further, tokens_from, tokens_at}
use Rattle.notation.specs.Walk.{Flag, seen, Wanted, operand, after, Outcome, refused, accepted, within, walk}
use Rattle.notation.specs.Guard.{Guard}
use Rattle.notation.specs.Reading.{refusal, judged, reading_from, tree_from}

-- the highest number that a guard is refused with
abbrev pub last_of_guard : ℕ
last_of_guard = 8

abbrev TokensIn : ℕ → ℕ → Tokens → Type 0
TokensIn lo hi (end p) = (lo ≤ p) × (p ≤ hi)
TokensIn lo hi (at p t ts) = (lo ≤ p) × (p ≤ hi) × TokensIn lo hi ts

-- a guard's number, at a place from lo to hi
abbrev pub Inside : ℕ → ℕ → Refusal → Type 0
Inside lo hi f = (lo ≤ f.place) × (f.place ≤ hi) × (number_of f.reason ≤ last_of_guard)

abbrev OutcomeIn : ℕ → ℕ → Outcome → Type 0
OutcomeIn lo hi (refused k p) = Inside lo hi (fault k p)
OutcomeIn lo hi (accepted u m) = Unit {0}

by-test : (lo hi : ℕ) (b : Bool) (x y : Tokens) → TokensIn lo hi x → TokensIn lo hi y → TokensIn lo hi (elim b [ true ↦ x | false ↦ y ])
by-test lo hi true x y f g = f
by-test lo hi false x y f g = g

tokens-in : (lo hi p k : ℕ) (bs : List ℕ) → lo ≤ p → p + length bs ≤ hi → TokensIn lo hi (tokens_from p k bs)
unfolding tokens_from
tokens-in lo hi p k [] a b = (a, omega arith)
tokens-in lo hi p zero (c ∷ bs) a b =
    by-test lo hi (eqb c 32) (tokens_from (suc p) 0 bs) (at p (token_of c bs) (tokens_from (suc p) (further (token_of c bs)) bs))
    (tokens-in lo hi (suc p) 0 bs (omega arith) (omega arith))
    (a, omega arith, tokens-in lo hi (suc p) (further (token_of c bs)) bs (omega arith) (omega arith))
tokens-in lo hi p (suc k) (c ∷ bs) a b = tokens-in lo hi (suc p) k bs (omega arith) (omega arith)

module _ (lo hi : ℕ) where
  within_in : (k ceiling : ℕ) (reason : Reason) (p : ℕ) (rest : Outcome) → Inside lo hi (fault reason p) → OutcomeIn lo hi rest
      → OutcomeIn lo hi (within k ceiling reason p rest)
  unfolding within
  within_in k ceiling reason p rest a r = go (leb k ceiling)
    where
      go : (t : Bool) → OutcomeIn lo hi (choose t rest (refused reason p))
      go true = r
      go false = a

  walk-in : (w : Wanted) (d : ℕ) (u : List Flag) (m : ℕ) (ts : Tokens) → TokensIn lo hi ts → OutcomeIn lo hi (walk w d u m ts)
  unfolding walk
  walk-in operand d u m (end p) t = (t.0, t.1, omega arith)
  walk-in operand d u m (at p stray ts) t = (t.0, t.1, omega arith)
  walk-in operand d u m (at p long ts) t = (t.0, t.1, omega arith)
  walk-in operand d u m (at p (code c) ts) t =
      within_in (length (seen p c u)) flag_ceiling ManyFlags p (walk after d (seen p c u) m ts) (t.0, t.1, omega arith)
      (walk-in after d (seen p c u) m ts t.2)
  walk-in operand d u m (at p (hash b) ts) t = walk-in after d u m ts t.2
  walk-in operand d u m (at p bang ts) t = walk-in operand d u m ts t.2
  walk-in operand d u m (at p (sign s) ts) t = (t.0, t.1, omega arith)
  walk-in operand d u m (at p opening ts) t =
      within_in (suc d) bracket_ceiling ManyBrackets p (walk operand (suc d) u m ts) (t.0, t.1, omega arith) (walk-in operand (suc d) u m ts t.2)
  walk-in operand d u m (at p closing ts) t = (t.0, t.1, omega arith)
  walk-in after zero u m (end p) t = tt
  walk-in after (suc d) u m (end p) t = (t.0, t.1, omega arith)
  walk-in after d u m (at p stray ts) t = (t.0, t.1, omega arith)
  walk-in after d u m (at p long ts) t = (t.0, t.1, omega arith)
  walk-in after d u m (at p (code c) ts) t = (t.0, t.1, omega arith)
  walk-in after d u m (at p (hash b) ts) t = (t.0, t.1, omega arith)
  walk-in after d u m (at p bang ts) t = (t.0, t.1, omega arith)
  walk-in after d u m (at p (sign s) ts) t =
      within_in (suc m) connective_ceiling ManyConnectives p (walk operand d u (suc m) ts) (t.0, t.1, omega arith) (walk-in operand d u (suc m) ts t.2)
  walk-in after d u m (at p opening ts) t = (t.0, t.1, omega arith)
  walk-in after zero u m (at p closing ts) t = (t.0, t.1, omega arith)
  walk-in after (suc d) u m (at p closing ts) t = walk-in after d u m ts t.2

  judged-in : (o : Outcome) (g : Guard) (f : Refusal) → OutcomeIn lo hi o → judged o g ≡ refusal f.reason f.place → Inside lo hi f
  unfolding judged
  judged-in (refused k p) g f h e =
      let reason : k ≡ f.reason = cc in
      let place : p ≡ f.place = cc in
      rw (reason, place) at h
  judged-in (accepted u m) g f h e = let z : ◌≡◌ {A = ℕ} 0 1 = cc in absurd (omega arith)

-- a guard from s to e is refused at a place from s to e
pub guard-place : (file : List ℕ) (s e : ℕ) (u : List Flag) (f : Refusal) → s ≤ e → reading_from (take e file) s u ≡ refusal f.reason f.place
    → Inside s e f
unfolding reading_from tokens_at
guard-place file s e u f h r =
    ⊎_elim
    (λ (b : leb (length (take e file) - s) text_ceiling ≡ true).
    judged-in s e (walk operand 0 u 0 (tokens_at (take e file) s)) (tree_from u (tokens_at (take e file) s)) f
    (walk-in s e operand 0 u 0 (tokens_at (take e file) s)
    (tokens-in s e s 0 (drop s (take e file)) (omega arith) (omega (arith, length-drop s (take e file), short)))) (rw b at r))
    (λ (b : leb (length (take e file) - s) text_ceiling ≡ false).
    let over : text_ceiling < length (take e file) - s = leb-false (length (take e file) - s) text_ceiling b in
    let x : refusal LongText (s + text_ceiling) ≡ refusal f.reason f.place = rw b at r in
    let reason : LongText ≡ f.reason = cc in
    let place : s + text_ceiling ≡ f.place = cc in
    subst (λ (x : Reason). Inside s e (fault x f.place)) reason (rw place at (too_long over)))
    (either (leb (length (take e file) - s) text_ceiling))
  where
    short : length (take e file) ≤ e
    short =
        ⊎_elim (λ (a : e < length file). omega (arith, length-take-le e file (le a))) (λ (a : length file ≤ e). rw (take_all e file a) a)
        (lt-or-ge e (length file))
      where
        le : e < length file → e ≤ length file
        le a = omega arith

    too_long : text_ceiling < length (take e file) - s → Inside s e (fault LongText (s + text_ceiling))
    too_long over = (omega arith, omega (arith, short), omega arith)
