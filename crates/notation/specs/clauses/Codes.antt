-- What the table of codes holds: where each flag's code starts in the text, where it ends, and its key.
use Rattle.std.specs.Prelude.{ℕ, zero, suc, ◌+◌, ◌*◌, ◌%◌, ◌^◌, ◌≤◌, ◌<◌, ◌≡◌, List, [], ◌∷◌, ◌++◌, length, get_or}
use Rattle.notation.specs.Ceilings.{flag_ceiling}
use Rattle.notation.specs.Walk.{Flag}
use Rattle.notation.specs.Grammar.{number}
use Rattle.notation.specs.clauses.Cut.{part}
use Rattle.notation.specs.declared.codes.Code.{Code}

-- codes of the table
abbrev pub codes_room : ℕ
codes_room = flag_ceiling

-- what a table holds where no code has been entered
abbrev pub no_code : Code
no_code = record { start = 0; next = 0; key = 0 }

-- the code i of the table, counted from 0, starts and ends here
abbrev pub start_of : List Code → ℕ → ℕ
start_of codes i = (get_or codes i no_code).start

abbrev pub end_of : List Code → ℕ → ℕ
end_of codes i = (get_or codes i no_code).next

-- the bytes of a code
abbrev pub bytes_of : List ℕ → Code → List ℕ
bytes_of text c = part c.start c.next text

-- the bytes of the code i of the table
abbrev pub code_in : List ℕ → List Code → ℕ → List ℕ
code_in text codes i = part (start_of codes i) (end_of codes i) text

-- a number that codes which are the same share: what their last eight bytes make
unfoldable pub key_from : ℕ → List ℕ → ℕ
key_from key [] = key
key_from key (b ∷ bs) = key_from (key % 2 ^ 56 * 256 + b) bs

abbrev pub key_of : List ℕ → ℕ
key_of code = key_from 0 code

-- the code from s to e of the text
abbrev pub code_at : List ℕ → ℕ → ℕ → Code
code_at text s e = record { start = s; next = e; key = key_of (part s e text) }

-- the key of the code i of the table
abbrev pub key_in : List Code → ℕ → ℕ
key_in codes i = (get_or codes i no_code).key

-- the flag of a code of the text
abbrev pub flag_at : List ℕ → ℕ → ℕ → Flag
flag_at text s e = record { place = s; name = part s e text }

-- the first k flags of the table
unfoldable pub flags_in : List ℕ → List Code → ℕ → List Flag
flags_in text codes zero = []
flags_in text codes (suc k) = flags_in text codes k ++ (flag_at text (start_of codes k) (end_of codes k) ∷ [])

-- the first k codes of the table lie in the text, and have their keys
pub record InText (text : List ℕ) (codes : List Code) (k : ℕ) : Type 0 where
  pub room : k ≤ length codes
  pub starts : (i : ℕ) → i < k → start_of codes i ≤ end_of codes i
  pub ends : (i : ℕ) → i < k → end_of codes i ≤ length text
  pub keys : (i : ℕ) → i < k → key_in codes i ≡ key_of (code_in text codes i)

-- the code lies in the text, and has its key
pub record Keyed (text : List ℕ) (c : Code) : Type 0 where
  pub span : c.start ≤ c.next
  pub inside : c.next ≤ length text
  pub key : c.key ≡ key_of (bytes_of text c)

-- the code has the number r + 1 among the first k flags of the table
pub record PlaceOf (text : List ℕ) (codes : List Code) (k : ℕ) (c : Code) (r : ℕ) : Type 0 where
  pub numbered : number (bytes_of text c) (flags_in text codes k) ≡ r + 1
  pub small : r ≤ k
