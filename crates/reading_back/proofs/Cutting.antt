-- How what is written is cut into tokens: one law for each thing that is written, before any rest that no code goes on with.
use Prim.Native.Nat.{ℕ, suc, ◌+◌, ◌≤◌, ◌<◌}
use native.Mathlib.Nat.{add-zero}
use native.Mathlib.Omega.{arith}
use mathlib.Core.Path.{◌≡◌, refl, sym, ap, ◌∙◌}
use mathlib.Core.Logic.{⊎_elim}
use mathlib.Core.Bool.{Bool, true, false, false≢true}
use mathlib.Core.List.{List, [], ◌∷◌, ◌++◌}
use lib.ListN.{length}
use lib.Dec.{eqb}
use borrow.Author.Tests.{le-leb, ne_eqb}
use Rattle.notation.specs.Ceilings.{code_ceiling}
use Rattle.notation.specs.Tokens.{Sign, same, implies, or, and, Token, Tokens, code, hash, bang, sign, opening, closing, at, among, code_byte, code_run}
use Rattle.notation.specs.Tokens.{coded, hashed, marked, token_of, further, tokens_from}
use Rattle.ground.specs.Choice.{choose}
use Rattle.notation.specs.Grammar.{is_sign, sign_next, same_sign, past}
use Rattle.operands.specs.clauses.Steps.{binding}
use Rattle.ground.proofs.Cases.{either}
use Rattle.notation.proofs.Cutting.{code-no-space}
use Rattle.operands.proofs.Stepping.{same-binding}
use Rattle.reading_back.specs.Written.{sign_byte, code_bytes, IsCode}

-- no code goes on with the rest
abbrev pub Parted : List ℕ → Type 0
Parted rest = code_run rest ≡ []

-- no sign that binds as tight as k stands first in the rest
abbrev pub Stops : ℕ → List ℕ → Type 0
Stops k rest = (q : ℕ) (t : Sign) → binding t ≤ k → sign_next t (tokens_from q 0 rest) ≡ false

-- ---- codes
run_is : (c rest : List ℕ) → code_bytes c ≡ true → Parted rest → code_run (c ++ rest) ≡ c
unfolding code_bytes code_run
run_is [] rest h e = e
run_is (b ∷ c) rest h e =
    ⊎_elim
    (λ (t : code_byte b ≡ true). let k : code_bytes c ≡ true = rw t at h in rw (t, code_run, run_is c rest k e))
    (λ (t : code_byte b ≡ false). let k : false ≡ true = rw t at h in absurd (false≢true k))
    (either (code_byte b))

passed : (p : ℕ) (c rest : List ℕ) → tokens_from p (length c) (c ++ rest) ≡ tokens_from (p + length c) 0 rest
unfolding tokens_from
passed p [] rest = rw add-zero
passed p (b ∷ c) rest = passed (suc p) c rest ∙ ap (λ (q : ℕ). tokens_from q 0 rest) (omega arith)

-- what follows a first byte, by whether it is a space
branch : ℕ → ℕ → List ℕ → Bool → Tokens
branch p b bs t = elim t [ true ↦ tokens_from (suc p) 0 bs | false ↦ at p (token_of b bs) (tokens_from (suc p) (further (token_of b bs)) bs) ]

first_byte : (p b : ℕ) (bs : List ℕ) → eqb b 32 ≡ false → tokens_from p 0 (b ∷ bs) ≡ at p (token_of b bs)
    (tokens_from (suc p) (further (token_of b bs)) bs)
unfolding tokens_from branch
first_byte p b bs e = ap (branch p b bs) e

first_code : (b : ℕ) (c : List ℕ) → code_bytes (b ∷ c) ≡ true → (code_byte b ≡ true) × (code_bytes c ≡ true)
unfolding code_bytes
first_code b c h =
    ⊎_elim
    (λ (t : code_byte b ≡ true). (t, rw t at h))
    (λ (t : code_byte b ≡ false). let k : false ≡ true = rw t at h in absurd (false≢true k))
    (either (code_byte b))

token-is : (b : ℕ) (c rest : List ℕ) → IsCode (b ∷ c) → Parted rest → token_of b (c ++ rest) ≡ code (b ∷ c)
unfolding token_of coded
token-is b c rest i e =
    let f : (code_byte b ≡ true) × (code_bytes c ≡ true) = first_code b c i.bytes in
    rw (f.0, run_is c rest f.1 e, le-leb (length (b ∷ c)) code_ceiling i.short)

-- a code
pub code-cut : (p : ℕ) (c rest : List ℕ) → IsCode c → Parted rest → tokens_from p 0 (c ++ rest) ≡ at p (code c) (tokens_from (p + length c) 0 rest)
unfolding further
code-cut p [] rest i e = absurd (omega (arith, i.some))
code-cut p (b ∷ c) rest i e =
    first_byte p b (c ++ rest) (code-no-space b (first_code b c i.bytes).0)
    ∙ ap (λ (t : Token). at p t (tokens_from (suc p) (further t) (c ++ rest))) (token-is b c rest i e)
    ∙ ap (λ (ts : Tokens). at p (code (b ∷ c)) ts) (passed (suc p) c rest ∙ ap (λ (q : ℕ). tokens_from q 0 rest) (omega arith))

-- ---- the other tokens
pub hash-cut : (p : ℕ) (b : Bool) (rest : List ℕ) → tokens_from p 0 (35 ∷ choose b 49 48 ∷ rest) ≡ at p (hash b) (tokens_from (suc (suc p)) 0 rest)
unfolding tokens_from token_of code_byte among hashed further
hash-cut p true rest = refl
hash-cut p false rest = refl

pub bang-cut : (p : ℕ) (rest : List ℕ) → tokens_from p 0 (33 ∷ rest) ≡ at p bang (tokens_from (suc p) 0 rest)
unfolding tokens_from token_of code_byte among marked further
bang-cut p rest = refl

pub opening-cut : (p : ℕ) (rest : List ℕ) → tokens_from p 0 (40 ∷ rest) ≡ at p opening (tokens_from (suc p) 0 rest)
unfolding tokens_from token_of code_byte among marked further
opening-cut p rest = refl

pub closing-cut : (p : ℕ) (rest : List ℕ) → tokens_from p 0 (41 ∷ rest) ≡ at p closing (tokens_from (suc p) 0 rest)
unfolding tokens_from token_of code_byte among marked further
closing-cut p rest = refl

pub sign-cut : (p : ℕ) (s : Sign) (rest : List ℕ) → tokens_from p 0 (sign_byte s ∷ rest) ≡ at p (sign s) (tokens_from (suc p) 0 rest)
unfolding tokens_from token_of code_byte among marked further sign_byte
sign-cut p same rest = refl
sign-cut p implies rest = refl
sign-cut p or rest = refl
sign-cut p and rest = refl

-- ---- what may follow
pub sign-parted : (s : Sign) (rest : List ℕ) → Parted (sign_byte s ∷ rest)
unfolding code_run code_byte among sign_byte
sign-parted same rest = refl
sign-parted implies rest = refl
sign-parted or rest = refl
sign-parted and rest = refl

pub closing-parted : (rest : List ℕ) → Parted (41 ∷ rest)
unfolding code_run code_byte among
closing-parted rest = refl

pub end-parted : Parted []
unfolding code_run
end-parted = refl

pub closing-stops : (k : ℕ) (rest : List ℕ) → Stops k (41 ∷ rest)
unfolding sign_next is_sign
closing-stops k rest q t h = ap (sign_next t) (closing-cut q rest)

pub end-stops : (k : ℕ) → Stops k []
unfolding sign_next tokens_from
end-stops k q t h = refl

-- a looser sign stops a level
pub sign-stops : (k : ℕ) (s : Sign) (rest : List ℕ) → k < binding s → Stops k (sign_byte s ∷ rest)
unfolding sign_next is_sign
sign-stops k s rest l q t h =
    ap (sign_next t) (sign-cut q s rest) ∙ sym (same-binding t s) ∙ ne_eqb (binding t) (binding s) (λ (e : binding t ≡ binding s). omega arith)

-- and is the one that comes next
pub sign-next : (q : ℕ) (s : Sign) (rest : List ℕ) → sign_next s (tokens_from q 0 (sign_byte s ∷ rest)) ≡ true
unfolding sign_next is_sign same_sign
sign-next q same rest = ap (sign_next same) (sign-cut q same rest)
sign-next q implies rest = ap (sign_next implies) (sign-cut q implies rest)
sign-next q or rest = ap (sign_next or) (sign-cut q or rest)
sign-next q and rest = ap (sign_next and) (sign-cut q and rest)

pub sign-past : (q : ℕ) (s : Sign) (rest : List ℕ) → past (tokens_from q 0 (sign_byte s ∷ rest)) ≡ tokens_from (suc q) 0 rest
unfolding past
sign-past q s rest = ap past (sign-cut q s rest)
