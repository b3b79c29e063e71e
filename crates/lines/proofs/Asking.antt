-- What a line asks, by its first three bytes.
use Prim.Native.Nat.{ℕ, ◌+◌, ◌-◌, ◌*◌, ◌≤◌, ◌<◌}
use native.Mathlib.Omega.{arith}
use mathlib.Core.Path.{◌≡◌, refl, sym, subst}
use mathlib.Core.Bool.{Bool, true, false}
use mathlib.Core.List.{List}
use mathlib.Core.Logic.{◌⊎◌, inl, inr, ⊎_elim}
use lib.ListN.{length, get_or-eq_default}
use lib.Dec.{eqb}
use borrow.Author.Tests.{eq-eqb, ne_eqb, le-leb, lt-leb, eqb-true}
use Rattle.notation.specs.Tokens.{among}
use Rattle.ground.specs.Choice.{choose}
use Rattle.std.specs.Prelude.{Option, Some, None}
use Rattle.ground.proofs.Cases.{lt-or-ge}
use Rattle.lines.specs.clauses.Digit.{digit}
use Rattle.lines.specs.Question.{byte_at, is_digit, digit_value, asks, question}
use Rattle.lines.specs.declared.question.Question.{Question}

-- ---- digits
pub digit-some : (b : ℕ) → (48 ≤ b) × (b ≤ 57) → Some (b - 48) ≡ digit b
unfolding digit among
digit-some b h = rw (le-leb 48 b h.0, le-leb b 57 h.1)

pub digit-none : (b : ℕ) → (b < 48) ⊎ (57 < b) → None ≡ digit b
unfolding digit among
digit-none b (inl h) = rw (lt-leb 48 b h)
digit-none b (inr h) = rw (le-leb 48 b (omega arith), lt-leb b 57 h)

chosen-told : (t : Bool) (v d : ℕ) → choose t (Some v) None ≡ Some d → (t ≡ true) × (v ≡ d)
chosen-told true v d e = (refl, cc)
chosen-told false v d e = cc

pub digit-told : (b d : ℕ) → digit b ≡ Some d → (is_digit b ≡ true) × (digit_value b ≡ d)
unfolding digit
digit-told b d e = chosen-told (is_digit b) (digit_value b) d e

pub digit-small : (b d : ℕ) → digit b ≡ Some d → d ≤ b
digit-small b d e = let told = digit-told b d e in let v = told.1 in omega arith

chosen-untold : (t : Bool) (v : ℕ) → choose t (Some v) None ≡ None → t ≡ false
chosen-untold true v e = cc
chosen-untold false v e = refl

pub digit-untold : (b : ℕ) → digit b ≡ None → is_digit b ≡ false
unfolding digit
digit-untold b e = chosen-untold (is_digit b) (digit_value b) e

-- ---- the four ways that the first three bytes go
module _ (line : List ℕ) (a b : ℕ) (ea : a ≡ byte_at line 0) (eb : b ≡ byte_at line 1) where
  pub no_digit : is_digit a ≡ false → None ≡ question line
  unfolding question
  no_digit h = rw (← ea, h)

  pub one-digit : is_digit a ≡ true → b ≡ 32 → asks (digit_value a) 2 ≡ question line
  unfolding question
  one-digit h e = rw (← ea, ← eb, h, eq-eqb b 32 e)

  pub no_second : is_digit a ≡ true → (b ≡ 32 → ⊥) → is_digit b ≡ false → None ≡ question line
  unfolding question
  no_second h n g = rw (← ea, ← eb, h, ne_eqb b 32 n, g)

  pub no-space : is_digit a ≡ true → (b ≡ 32 → ⊥) → is_digit b ≡ true → (c : ℕ) → c ≡ byte_at line 2 → (c ≡ 32 → ⊥) → None
      ≡ question line
  unfolding question
  no-space h n g c ec m = rw (← ea, ← eb, ← ec, h, ne_eqb b 32 n, g, ne_eqb c 32 m)

  pub two_digits : is_digit a ≡ true → (b ≡ 32 → ⊥) → is_digit b ≡ true → (c : ℕ) → c ≡ byte_at line 2 → c ≡ 32 → asks
      (10 * digit_value a + digit_value b) 3 ≡ question line
  unfolding question
  two_digits h n g c ec e = rw (← ea, ← eb, ← ec, h, ne_eqb b 32 n, g, eq-eqb c 32 e)

-- ---- the guard starts within the line: a space stands before it
space-inside : (line : List ℕ) (i : ℕ) → byte_at line i ≡ 32 → i < length line
space-inside line i e =
    ⊎_elim
    (λ (h : i < length line). h)
    (λ (h : length line ≤ i). let z : byte_at line i ≡ 0 = get_or-eq_default line 0 h in absurd (omega arith))
    (lt-or-ge i (length line))

-- where the guard of a question starts is within n bytes
abbrev Inside : ℕ → Option Question → Type 0
Inside n None = Unit {0}
Inside n (Some q) = q.start ≤ n

chosen-inside : (n : ℕ) (b : Bool) (x y : Option Question) → (b ≡ true → Inside n x) → (b ≡ false → Inside n y) → Inside n (choose b x y)
chosen-inside n true x y f g = f refl
chosen-inside n false x y f g = g refl

question-within : (line : List ℕ) → Inside (length line) (question line)
unfolding question
question-within line =
    chosen-inside (length line) (is_digit a) (choose (eqb b 32) (asks (digit_value a) 2) rest) None
    (λ h. chosen-inside (length line) (eqb b 32) (asks (digit_value a) 2) rest (λ e. space-inside line 1 (eqb-true b 32 e)) (λ e. rest-inside))
    (λ h. tt)
  where
    a : ℕ
    a = byte_at line 0

    b : ℕ
    b = byte_at line 1

    c : ℕ
    c = byte_at line 2

    two : Option Question
    two = choose (eqb c 32) (asks (10 * digit_value a + digit_value b) 3) None

    rest : Option Question
    rest = choose (is_digit b) two None

    two-inside : Inside (length line) two
    two-inside = chosen-inside (length line) (eqb c 32) (asks (10 * digit_value a + digit_value b) 3) None (λ e. space-inside line 2 (eqb-true c 32 e))
        (λ e. tt)

    rest-inside : Inside (length line) rest
    rest-inside = chosen-inside (length line) (is_digit b) two None (λ e. two-inside) (λ e. tt)

pub guard-inside : (line : List ℕ) (q : Question) → Some q ≡ question line → q.start ≤ length line
guard-inside line q e = subst (λ (x : Option Question). Inside (length line) x) (sym e) (question-within line)
