-- What parse leaves in its tables is what the services over a text answer from.
use Prim.Native.Nat.{ℕ, zero, suc, ◌+◌, ◌-◌, ◌*◌, ◌≤◌, ◌<◌}
use native.Mathlib.Omega.{arith}
use native.Mathlib.Numerals.{add-one}
use mathlib.Core.Path.{◌≡◌, refl, sym, ap, ◌∙◌}
use mathlib.Core.List.{List, [], ◌∷◌, ◌++◌}
use mathlib.Core.Bool.{Bool, true, false}
use lib.ListN.{length, take, drop, set, get_or, length-drop}
use lib.Seq.{take-suc, drop-cons, set_at, append_snoc, length-take-le}
use lib.Dec.{leb}
use borrow.Author.Tests.{le-leb, lt-leb, lt-ltb, leb-true, leb-false}
use Rattle.notation.specs.Ceilings.{connective_ceiling}
use Rattle.ground.specs.Choice.{choose}
use Rattle.notation.specs.Walk.{Flag}
use Rattle.notation.specs.Guard.{Guard, connectives}
use Rattle.notation.specs.Triplets.{literal}
use Rattle.notation.specs.Reading.{Reading, refusal, guard, reading}
use Rattle.notation.specs.clauses.Cut.{part}
use Rattle.notation.specs.clauses.Codes.{start_of, end_of, flag_at, flags_in, InText}
use Rattle.notation.specs.declared.codes.Code.{Code}
use Rattle.std.specs.Prelude.{Result, Ok, Err}
use Rattle.reading.specs.Service.{Parsed, Named, part_with, guard_with, read_answer, room_after, ReadSays, name_in, name_answer, part_of}
use Rattle.notation.specs.Refusals.{fault}
use Rattle.reading.specs.clauses.Parsing.{GuardRead, ParseSays, Spans, named_in}
use Rattle.notation.specs.declared.refusal.Reason.TheVariants.{SmallRoom, NoFlag}
use Rattle.notation.specs.declared.refusal.Refusal.{Refusal}
use Rattle.reading.specs.declared.parse.Guard as counted
use Rattle.reading.specs.declared.name.Stretch.{Stretch}
use Rattle.notation.proofs.Coding.{flags-length, flags-split}

-- what was read, where parse answers a guard
pub record Found (text : List ℕ) (R : Reading) (x : counted.Guard) (codes : List Code) (out : List ℕ) : Type 0 where
  pub tree : Guard
  pub flags : List Flag
  pub says : R ≡ guard tree flags
  pub read : GuardRead text tree flags (Ok x) codes out
  pub counts : x ≡ record { flags = length flags; count = connectives tree; root = literal 0 tree }

-- where parse answers a guard, the text says one, and the tables hold it
pub guard-found : (text : List ℕ) (R : Reading) (r : Parsed) (codes : List Code) (out : List ℕ) → ParseSays text R r codes out → (x : counted.Guard) → r
    ≡ Ok x → Found text R x codes out
guard-found text (refusal k p) r codes out s x e = let z : ◌≡◌ {A = ℕ} 0 1 = cc in absurd (omega arith)
guard-found text (guard g u) r codes out s x e =
    record {
      tree = g;
      flags = u;
      says = refl;
      read = rw e at s;
      counts = let a : r ≡ guard_with (length u) (connectives g) (literal 0 g) = s.answer in cc;
    }

-- where parse refuses, so does the text
pub refusal-found : (text : List ℕ) (R : Reading) (r : Parsed) (codes : List Code) (out : List ℕ) → ParseSays text R r codes out → (f : Refusal) → r
    ≡ Err f → R ≡ refusal f.reason f.place
refusal-found text (refusal k p) r codes out s f e =
    let a : r ≡ Err (fault k p) = s in
    let b : f ≡ record { reason = k; place = p } = cc in
    rw b
refusal-found text (guard g u) r codes out s f e =
    let a : r ≡ guard_with (length u) (connectives g) (literal 0 g) = s.answer in
    let z : ◌≡◌ {A = ℕ} 0 1 = cc in absurd (omega arith)

-- ---- read
-- one more number copied
pub copy_more : (from to : List ℕ) (i : ℕ) → i < length from → i < length to
    → set (take i from ++ drop i to) i (get_or from i 0) ≡ take (i + 1) from ++ drop (i + 1) to
copy_more from to i f t =
    ap (λ (l : List ℕ). set (take i from ++ l) i (get_or from i 0)) (drop-cons to i 0 t)
    ∙ set_at (take i from) (get_or to i 0) (drop (suc i) to) (get_or from i 0) i (length-take-le i from (omega arith))
    ∙ sym (append_snoc (take i from) (get_or from i 0) (drop (suc i) to))
    ∙ ap (λ (l : List ℕ). l ++ drop (suc i) to) (sym (take-suc from i 0 f))
    ∙ rw add-one

pub read-refused : (text room : List ℕ) (f : Refusal) → reading text ≡ refusal f.reason f.place → ReadSays text room (Err f) room
unfolding read_answer room_after
read-refused text room f h = record { answer = rw h; left = rw h }

module _ (text room : List ℕ) (x : counted.Guard) (codes : List Code) (out : List ℕ) (f : Found text (reading text) x codes out) where
  count-is : x.count ≡ connectives f.tree
  count-is = rw f.counts

  -- the numbers to copy are in the table
  pub length-few : x.count ≤ connective_ceiling
  length-few = rw count-is f.read.short

  pub read_small : length room < 3 * x.count → ReadSays text room (Err (fault SmallRoom 0)) room
  unfolding read_answer room_after
  read_small h =
      let l : leb (3 * connectives f.tree) (length room) ≡ false = lt-leb (3 * connectives f.tree) (length room) (rw count-is at h) in
      record { answer = rw (f.says, l); left = rw (f.says, l) }

  pub read_fits : 3 * x.count ≤ length room → (after : List ℕ) → after ≡ take (3 * x.count) out ++ drop (3 * x.count) room → ReadSays text room
      (Ok x) after
  unfolding read_answer room_after
  read_fits h after e =
      let l : leb (3 * connectives f.tree) (length room) ≡ true = le-leb (3 * connectives f.tree) (length room) (rw count-is at h) in
      record {
        answer = rw (f.says, l) (ap Ok f.counts);
        left = rw (f.says, l, e, count-is, f.read.written);
      }

-- ---- name
pub spans : (text : List ℕ) (x : counted.Guard) (codes : List Code) (out : List ℕ) → Found text (reading text) x codes out → Spans codes x.flags
spans text x codes out f =
    let k : x.flags ≡ length f.flags = rw f.counts in
    rw k (record { room = f.read.in_text.room; starts = f.read.in_text.starts })

-- no flag has the number 0, or one over their number
name-zero : (u : List Flag) → name_in u 0 ≡ Err (fault NoFlag 0)
unfolding name_in
name-zero [] = refl
name-zero (f ∷ u) = refl

name-over : (u : List Flag) (i : ℕ) → length u < i → name_in u i ≡ Err (fault NoFlag 0)
unfolding name_in
name-over [] i h = refl
name-over (f ∷ u) zero h = refl
name-over (f ∷ u) (suc zero) h = absurd (omega arith)
name-over (f ∷ u) (suc (suc i)) h = name-over u (suc i) (omega arith)

-- the flag that i others stand before has the number i + 1
name-after : (v w : List Flag) (f : Flag) → name_in (v ++ (f ∷ w)) (suc (length v)) ≡ part_with f.place (length f.name)
unfolding name_in
name-after [] w f = refl
name-after (g ∷ v) w f = name-after v w f

part_length : (text : List ℕ) (s e : ℕ) → s ≤ e → e ≤ length text → length (part s e text) ≡ e - s
part_length text s e a b = length-take-le (e - s) (drop s text) (rw length-drop (omega arith))

-- the table's parts are those where its flags first stand
pub name-same : (text : List ℕ) (codes : List Code) (k i : ℕ) → InText text codes k → named_in codes k i ≡ name_in (flags_in text codes k) i
name-same text codes k zero t = sym (name-zero (flags_in text codes k))
name-same text codes k (suc j) t =
    let m : suc j - 1 ≡ j = omega arith in
    rw (lt-ltb 0 (suc j) (omega arith), m) (by-test (leb (suc j) k) refl)
  where
    here : Named
    here = part_with (start_of codes j) (end_of codes j - start_of codes j)

    by-test : (b : Bool) → leb (suc j) k ≡ b → choose b here (Err (fault NoFlag 0)) ≡ name_in (flags_in text codes k) (suc j)
    by-test true e =
        let h : j < k = leb-true (suc j) k e in
        let r = flags-split text codes j k h in
        let f : Flag = flag_at text (start_of codes j) (end_of codes j) in
        let l : length f.name ≡ end_of codes j - start_of codes j = part_length text (start_of codes j) (end_of codes j) (t.starts j h) (t.ends j h) in
        sym (ap (λ (u : List Flag). name_in u (suc j)) r.1
        ∙ ap (λ (n : ℕ). name_in (flags_in text codes j ++ (f ∷ r.0)) (suc n)) (sym (flags-length text codes j))
        ∙ name-after (flags_in text codes j) r.0 f
        ∙ ap (part_with (start_of codes j)) l)
    by-test false e = sym (name-over (flags_in text codes k) (suc j) (rw (flags-length text codes k) (leb-false (suc j) k e)))

pub name-refused : (text : List ℕ) (i : ℕ) (f : Refusal) → reading text ≡ refusal f.reason f.place → Err f ≡ name_answer
    (reading text) i
unfolding name_answer
name-refused text i f e = rw e

pub name-found : (text : List ℕ) (i : ℕ) (x : counted.Guard) (codes : List Code) (out : List ℕ) → Found text (reading text) x codes out → named_in codes x.flags
    i ≡ name_answer (reading text) i
unfolding name_answer
name-found text i x codes out f =
    let k : x.flags ≡ length f.flags = rw f.counts in
    rw (k, f.says) (name-same text codes (length f.flags) i f.read.in_text ∙ ap (λ (u : List Flag). name_in u i) f.read.flags)

-- a part of the text, by its bytes; none where name refused, or where it lies outside
pub part_in : {E : Type 0} (text : List ℕ) (n : Result Stretch E) (p : Stretch) → n ≡ Ok p → p.start ≤ length text → p.len ≤ length text - p.start
    → take (p.start + p.len - p.start) (drop p.start text) ≡ part_of text n
unfolding part_of
part_in text n p e a b =
    let m : p.start + p.len - p.start ≡ p.len = omega arith in
    rw (e, m, le-leb (p.start + p.len) (length text) (omega arith))

pub part-refused : {E : Type 0} (text : List ℕ) (n : Result Stretch E) (f : E) → n ≡ Err f → [] ≡ part_of text n
unfolding part_of
part-refused text n f e = rw e

pub part_out : {E : Type 0} (text : List ℕ) (n : Result Stretch E) (p : Stretch) → n ≡ Ok p → length text < p.start + p.len → [] ≡ part_of text n
unfolding part_of
part_out text n p e h = rw (e, lt-leb (p.start + p.len) (length text) h)

-- ---- no second answer
pub read-unique : (text room : List ℕ) (a b : Parsed) (o p : List ℕ) → ReadSays text room a o → ReadSays text room b p → (a ≡ b) × (o ≡ p)
read-unique text room a b o p s t = (s.answer ∙ sym t.answer, s.left ∙ sym t.left)

pub name-unique : (text : List ℕ) (i : ℕ) (a b : Named) → a ≡ name_answer (reading text) i → b ≡ name_answer (reading text) i → a ≡ b
name-unique text i a b s t = s ∙ sym t
