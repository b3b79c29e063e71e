-- The fields of a file, one after the other.
use Prim.Native.Nat.{ℕ, zero, suc, ◌+◌, ◌≤◌, ◌<◌}
use native.Mathlib.Nat.{not-suc-le-zero, le_of_suc-le-suc, add-zero}
use native.Mathlib.Omega.{arith}
use mathlib.Core.Path.{◌≡◌, refl, ap, ◌∙◌}
use mathlib.Core.Bool.{Bool, true, false}
use mathlib.Core.List.{List, [], ◌∷◌}
use mathlib.Core.Logic.{⊎_elim}
use lib.ListN.{length, get_or, drop, length-drop, drop_of_length-le}
use lib.Seq.{drop-cons, drop-drop, get_or-drop}
use lib.Dec.{leb}
use borrow.Author.Tests.{le-leb, lt-leb, lt-ltb, le-ltb}
use Rattle.ground.proofs.Cases.{lt-or-ge}
use Rattle.fields.specs.Fields.{header, field_at, length_at, Pieces, end, short, field, said, pieces_from, pieces_at}
use Rattle.fields.specs.clauses.Here.{FieldSays}

skip : (k p : ℕ) (bs : List ℕ) → k ≤ length bs → pieces_from p k bs ≡ pieces_from (p + k) 0 (drop k bs)
unfolding pieces_from
skip zero p bs h = rw add-zero
skip (suc k) p [] h = absurd (not-suc-le-zero h)
skip (suc k) p (b ∷ bs) h = skip k (suc p) bs (le_of_suc-le-suc h) ∙ ap (λ (q : ℕ). pieces_from q 0 (drop k bs)) (omega arith)

-- what follows a tag, by whether the field lies in the file
branch : ℕ → ℕ → List ℕ → Bool → Pieces
branch p t bs b = elim b [ true ↦ field p t (p + header + said bs) (pieces_from (suc p) (2 + said bs) bs) | false ↦ short p ]

first_piece : (p t : ℕ) (bs : List ℕ) (b : Bool) → leb (2 + said bs) (length bs) ≡ b → pieces_from p 0 (t ∷ bs) ≡ branch p t bs b
unfolding pieces_from branch
first_piece p t bs b e = ap (λ (x : Bool). branch p t bs x) e

said_at : (file : List ℕ) (p : ℕ) → said (drop (suc p) file) ≡ length_at file p
said_at file p =
    let a : get_or (drop (suc p) file) 0 0 ≡ get_or file (p + 1) 0 = get_or-drop (suc p) file 0 0 ∙ ap (λ (i : ℕ). get_or file i 0) (omega arith) in
    let b : get_or (drop (suc p) file) 1 0 ≡ get_or file (p + 2) 0 = get_or-drop (suc p) file 1 0 ∙ ap (λ (i : ℕ). get_or file i 0) (omega arith) in
    rw (a, b)

pub ends_at : (file : List ℕ) (p : ℕ) → length file ≤ p → pieces_at file p ≡ end p
unfolding pieces_at pieces_from
ends_at file p h = rw (drop_of_length-le file h)

pub short-at : (file : List ℕ) (p : ℕ) → p < length file → length file < p + header + length_at file p → pieces_at file p ≡ short p
unfolding pieces_at branch
short-at file p h o =
    rw (drop-cons file p 0 h)
    (first_piece p (get_or file p 0) (drop (suc p) file) false
    (lt-leb (2 + said (drop (suc p) file)) (length (drop (suc p) file)) (rw (said_at file p, length-drop) (omega (arith, h, o)))))

pub field-at : (file : List ℕ) (p : ℕ) → p < length file → p + header + length_at file p ≤ length file
    → pieces_at file p ≡ field p (get_or file p 0) (p + header + length_at file p) (pieces_at file (p + header + length_at file p))
unfolding pieces_at branch
field-at file p h i =
    let n : ℕ = length_at file p in
    let s : said (drop (suc p) file) ≡ n = said_at file p in
    let e : suc p + (2 + n) ≡ p + header + n = omega arith in
    rw (drop-cons file p 0 h)
    (first_piece p (get_or file p 0) (drop (suc p) file) true
    (le-leb (2 + said (drop (suc p) file)) (length (drop (suc p) file)) (rw (s, length-drop) (omega (arith, h, i))))
    ∙ ap (λ (k : ℕ). field p (get_or file p 0) (p + header + k) (pieces_from (suc p) (2 + k) (drop (suc p) file))) s
    ∙ ap (field p (get_or file p 0) (p + header + n))
    (skip (2 + n) (suc p) (drop (suc p) file) (rw length-drop (omega (arith, h, i)))
    ∙ ap (λ (l : List ℕ). pieces_from (suc p + (2 + n)) 0 l) (drop-drop (2 + n) (suc p) file)
    ∙ ap (λ (q : ℕ). pieces_from q 0 (drop q file)) e))

-- what a field at a place says of the fields from there on
pub here : (file : List ℕ) (p : ℕ) → p ≤ length file → FieldSays file p (field_at file p)
unfolding field_at
here file p h =
    ⊎_elim
    (λ (a : p < length file).
    ⊎_elim
    (λ (o : length file < p + header + length_at file p).
    rw (lt-ltb p (length file) a, lt-leb (p + header + length_at file p) (length file) o) (short-at file p a o))
    (λ (i : p + header + length_at file p ≤ length file).
    rw (lt-ltb p (length file) a, le-leb (p + header + length_at file p) (length file) i)
    (record { pieces = field-at file p a i; starts = refl; later = omega arith; inside = i }))
    (lt-or-ge (length file) (p + header + length_at file p)))
    (λ (a : length file ≤ p). rw (le-ltb p (length file) a) (ends_at file p a))
    (lt-or-ge p (length file))
