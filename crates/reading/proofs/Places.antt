-- Places of a text are within it: where the walk refuses, and where the flags that it saw first stand.
use Prim.Native.Nat.{ℕ, zero, suc, ◌+◌, ◌≤◌}
use mathlib.Core.Path.{◌≡◌, refl}
use mathlib.Core.Bool.{Bool, true, false}
use mathlib.Core.List.{List, [], ◌∷◌, ◌++◌}
use native.Mathlib.Omega.{arith}
use lib.ListN.{length}
use lib.Dec.{leb, eqb}
use borrow.Author.Tests.{leb-true}
use Rattle.notation.specs.Ceilings.{text_ceiling, code_ceiling, flag_ceiling, bracket_ceiling, connective_ceiling}
use Rattle.notation.specs.Tokens.{Code, Token, Tokens, stray, long, code, hash, bang, sign, opening, closing, end, at, same, implies, or, and, code_byte}
use Rattle.notation.specs.Tokens.{code_run, coded, hashed, marked, token_of, further, tokens_from, tokens}
use Rattle.ground.specs.Choice.{choose}
use Rattle.notation.specs.Walk.{Flag, known, seen, Wanted, operand, after, Outcome, refused, accepted, within, walk}
use Rattle.notation.specs.Numbers.{number_of}
use Rattle.notation.specs.declared.refusal.Reason.{Reason}
use Rattle.notation.specs.declared.refusal.Reason.TheVariants.{ManyBrackets, ManyFlags, ManyConnectives}
use Rattle.reading.specs.clauses.Parsing.{last_refusal}

-- what holds of two things holds of the one that is chosen
pub choose-has : {A : Type 0} (P : A → Type 0) (b : Bool) (x y : A) → (b ≡ true → P x) → (b ≡ false → P y) → P (choose b x y)
choose-has P true x y p q = p refl
choose-has P false x y p q = q refl

-- ---- tokens
-- a code is within its ceiling
abbrev TokenFits : Token → Type 0
TokenFits stray = Unit {0}
TokenFits long = Unit {0}
TokenFits (code c) = length c ≤ code_ceiling
TokenFits (hash b) = Unit {0}
TokenFits bang = Unit {0}
TokenFits (sign s) = Unit {0}
TokenFits opening = Unit {0}
TokenFits closing = Unit {0}

-- tokens stand, and the text ends, within the longest text
abbrev TokensFit : Tokens → Type 0
TokensFit (end p) = p ≤ text_ceiling
TokensFit (at p t ts) = (p ≤ text_ceiling) × TokenFits t × TokensFit ts

token-chosen : (b : Bool) (s t : Token) → TokenFits s → TokenFits t → TokenFits (choose b s t)
token-chosen true s t x y = x
token-chosen false s t x y = y

coded-fits : (c : Code) → TokenFits (coded c)
unfolding coded
coded-fits c = choose-has (λ (t : Token). TokenFits t) (leb (length c) code_ceiling) (code c) long (λ h. leb-true (length c) code_ceiling h) (λ h. tt)

hashed-fits : (bs : List ℕ) → TokenFits (hashed bs)
unfolding hashed
hashed-fits [] = tt
hashed-fits (b ∷ bs) = token-chosen (eqb b 48) (hash false) (choose (eqb b 49) (hash true) stray) tt (token-chosen (eqb b 49) (hash true) stray tt tt)

marked-fits : (b : ℕ) → TokenFits (marked b)
unfolding marked
marked-fits b =
    token-chosen (eqb b 33) bang (choose (eqb b 38) (sign and) rest) tt (token-chosen (eqb b 38) (sign and) rest tt rest-fits)
  where
    last : Token
    last = choose (eqb b 61) (sign same) (choose (eqb b 40) opening (choose (eqb b 41) closing stray))

    rest : Token
    rest = choose (eqb b 124) (sign or) (choose (eqb b 62) (sign implies) last)

    last_fits : TokenFits last
    last_fits =
        token-chosen (eqb b 61) (sign same) (choose (eqb b 40) opening (choose (eqb b 41) closing stray)) tt
        (token-chosen (eqb b 40) opening (choose (eqb b 41) closing stray) tt (token-chosen (eqb b 41) closing stray tt tt))

    rest-fits : TokenFits rest
    rest-fits =
        token-chosen (eqb b 124) (sign or) (choose (eqb b 62) (sign implies) last) tt
        (token-chosen (eqb b 62) (sign implies) last tt last_fits)

token-fits : (b : ℕ) (bs : List ℕ) → TokenFits (token_of b bs)
unfolding token_of
token-fits b bs =
    token-chosen (code_byte b) (coded (b ∷ code_run bs)) (choose (eqb b 35) (hashed bs) (marked b)) (coded-fits (b ∷ code_run bs))
    (token-chosen (eqb b 35) (hashed bs) (marked b) (hashed-fits bs) (marked-fits b))

past-space : (b : Bool) (x y : Tokens) → TokensFit x → TokensFit y → TokensFit (elim b [ true ↦ x | false ↦ y ])
past-space true x y f g = f
past-space false x y f g = g

tokens-from-fit : (p k : ℕ) (bs : List ℕ) → p + length bs ≤ text_ceiling → TokensFit (tokens_from p k bs)
unfolding tokens_from
tokens-from-fit p k [] h = omega arith
tokens-from-fit p zero (b ∷ bs) h =
    past-space (eqb b 32) (tokens_from (suc p) 0 bs) (at p (token_of b bs) (tokens_from (suc p) (further (token_of b bs)) bs))
    (tokens-from-fit (suc p) 0 bs (omega arith))
    (omega arith, token-fits b bs, tokens-from-fit (suc p) (further (token_of b bs)) bs (omega arith))
tokens-from-fit p (suc k) (b ∷ bs) h = tokens-from-fit (suc p) k bs (omega arith)

tokens-fit : (text : List ℕ) → length text ≤ text_ceiling → TokensFit (tokens text)
unfolding tokens
tokens-fit text h = tokens-from-fit 0 0 text (omega arith)

-- ---- the walk
-- flags stand within the longest text, with codes within their ceiling
abbrev pub FlagsFit : List Flag → Type 0
FlagsFit [] = Unit {0}
FlagsFit (f ∷ u) = ((f.place ≤ text_ceiling) × (length f.name ≤ code_ceiling)) × FlagsFit u

-- a refusal has a number of the table and a place within the longest text
abbrev pub OutcomeFits : Outcome → Type 0
OutcomeFits (refused k p) = (number_of k ≤ last_refusal) × (p ≤ text_ceiling)
OutcomeFits (accepted u m) = FlagsFit u

within-fits : (k ceiling : ℕ) (reason : Reason) (p : ℕ) (rest : Outcome) → number_of reason ≤ last_refusal → p ≤ text_ceiling → OutcomeFits rest → OutcomeFits
    (within k ceiling reason p rest)
unfolding within
within-fits k ceiling reason p rest n h f = choose-has (λ (o : Outcome). OutcomeFits o) (leb k ceiling) rest (refused reason p) (λ e. f) (λ e. (n, h))

append-fits : (u : List Flag) (f : Flag) → FlagsFit u → f.place ≤ text_ceiling → length f.name ≤ code_ceiling → FlagsFit (u ++ (f ∷ []))
append-fits [] f x p c = ((p, c), tt)
append-fits (g ∷ u) f x p c = (x.0, append-fits u f x.1 p c)

seen-fits : (p : ℕ) (c : Code) (u : List Flag) → p ≤ text_ceiling → length c ≤ code_ceiling → FlagsFit u → FlagsFit (seen p c u)
unfolding seen
seen-fits p c u h l f =
    choose-has (λ (v : List Flag). FlagsFit v) (known c u) u (u ++ (record { place = p; name = c } ∷ [])) (λ e. f)
    (λ e. append-fits u (record { place = p; name = c }) f h l)

walk-fits : (w : Wanted) (d : ℕ) (u : List Flag) (m : ℕ) (ts : Tokens) → TokensFit ts → FlagsFit u → OutcomeFits (walk w d u m ts)
unfolding walk
walk-fits operand d u m (end p) t f = (omega arith, t)
walk-fits operand d u m (at p stray ts) t f = (omega arith, t.0)
walk-fits operand d u m (at p long ts) t f = (omega arith, t.0)
walk-fits operand d u m (at p (code c) ts) t f =
    within-fits (length (seen p c u)) flag_ceiling ManyFlags p (walk after d (seen p c u) m ts) (omega arith) t.0
    (walk-fits after d (seen p c u) m ts t.2 (seen-fits p c u t.0 t.1 f))
walk-fits operand d u m (at p (hash b) ts) t f = walk-fits after d u m ts t.2 f
walk-fits operand d u m (at p bang ts) t f = walk-fits operand d u m ts t.2 f
walk-fits operand d u m (at p (sign s) ts) t f = (omega arith, t.0)
walk-fits operand d u m (at p opening ts) t f =
    within-fits (suc d) bracket_ceiling ManyBrackets p (walk operand (suc d) u m ts) (omega arith) t.0 (walk-fits operand (suc d) u m ts t.2 f)
walk-fits operand d u m (at p closing ts) t f = (omega arith, t.0)
walk-fits after zero u m (end p) t f = f
walk-fits after (suc d) u m (end p) t f = (omega arith, t)
walk-fits after d u m (at p stray ts) t f = (omega arith, t.0)
walk-fits after d u m (at p long ts) t f = (omega arith, t.0)
walk-fits after d u m (at p (code c) ts) t f = (omega arith, t.0)
walk-fits after d u m (at p (hash b) ts) t f = (omega arith, t.0)
walk-fits after d u m (at p bang ts) t f = (omega arith, t.0)
walk-fits after d u m (at p (sign s) ts) t f =
    within-fits (suc m) connective_ceiling ManyConnectives p (walk operand d u (suc m) ts) (omega arith) t.0 (walk-fits operand d u (suc m) ts t.2 f)
walk-fits after d u m (at p opening ts) t f = (omega arith, t.0)
walk-fits after zero u m (at p closing ts) t f = (omega arith, t.0)
walk-fits after (suc d) u m (at p closing ts) t f = walk-fits after d u m ts t.2 f

-- a whole text within its ceiling
pub text-fits : (text : List ℕ) → length text ≤ text_ceiling → OutcomeFits (walk operand 0 [] 0 (tokens text))
text-fits text h = walk-fits operand 0 [] 0 (tokens text) (tokens-fit text h) tt
