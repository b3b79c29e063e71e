-- There is an answer for every pack and depth.
use Prim.Native.Nat.{ℕ, zero, suc, ◌≤◌, ◌<◌}
use native.Mathlib.Omega.{arith}
use mathlib.Core.Path.{◌≡◌, refl}
use mathlib.Core.List.{List}
use mathlib.Core.Logic.{◌⊎◌, inl, inr, ⊎_elim}
use lib.ListN.{length}
use Rattle.ground.proofs.Cases.{lt-or-ge}
use Rattle.notation.specs.Guard.{Guard}
use Rattle.notation.specs.Triplets.{literal, triplets}
use Rattle.saturation.specs.Answer.{Checked}
use Rattle.saturation.specs.declared.verdict.Verdict.{Verdict}
use Rattle.saturation.specs.declared.verdict.Verdict.TheVariants.{Covered, Gap, Undecided}
use Rattle.verdict_laws.proofs.Answered.{outline-exists, outline-says}
use Rattle.questions.specs.Questions.{whole_of, pair_of}
use Rattle.packs.specs.Pack.{PackReading, refusal, line}
use Rattle.pack_check.specs.PackCheck.{asked, PackVerdict, line_with, pair_with, PairIs, FirstPair, OverlapSays, PackReadingSays, PackChecked}
use Rattle.pack_check.specs.declared.verdict.Overlap.{Overlap}
use Rattle.std.specs.Prelude.{Option, None, Err}

-- check has an answer for every guard
pub checked-exists : (n : ℕ) (g : Guard) (k : ℕ) → (v : Verdict) × Checked n g k v
checked-exists n g k =
    let o = outline-exists (triplets 0 g) (literal 0 g) k n in
    (o.0, (outline-says (triplets 0 g) (literal 0 g) k n o.0).0 o.1)

is-covered : (v : Verdict) → (v ≡ Covered) ⊎ (v ≡ Covered → ⊥)
is-covered Covered = inl refl
is-covered (Gap s) = inr (λ (e : Gap s ≡ Covered). let z : ◌≡◌ {A = ℕ} 0 1 = cc in omega arith)
is-covered Undecided = inr (λ (e : Undecided ≡ Covered). let z : ◌≡◌ {A = ℕ} 0 1 = cc in omega arith)

-- ---- the first pair that is not covered, row by row
module _ (n : ℕ) (rule : Guard) (vs : List Guard) (depth : ℕ) where
  -- the pairs of i up to b are covered
  abbrev RowTo : ℕ → ℕ → Type 0
  RowTo i m = (b : ℕ) → i < b → b ≤ m → PairIs n rule vs depth i b Covered

  -- a pair of i up to m is the first of its row that is not
  record RowFirst (i m : ℕ) : Type 0 where
    j : ℕ
    v : Verdict
    below : i < j
    last : j ≤ m
    answer : PairIs n rule vs depth i j v
    not_covered : v ≡ Covered → ⊥
    before : (b : ℕ) → i < b → b < j → PairIs n rule vs depth i b Covered

  row_next : (i m : ℕ) → i < suc m → RowTo i m → RowTo i (suc m) ⊎ RowFirst i (suc m)
  row_next i m h r =
      let c = checked-exists n (pair_of rule vs i (suc m)) depth in
      ⊎_elim
      (λ (e : c.0 ≡ Covered). inl (one_more c.0 e c.1))
      (λ (e : c.0 ≡ Covered → ⊥).
      inr (record { j = suc m; v = c.0; below = h; last = omega arith; answer = c.1; not_covered = e; before = λ b k l. r b k (omega arith) }))
      (is-covered c.0)
    where
      one_more : (v : Verdict) → v ≡ Covered → PairIs n rule vs depth i (suc m) v → RowTo i (suc m)
      one_more v e a b k l =
          ⊎_elim (λ (q : b < suc m). r b k (omega arith)) (λ (q : suc m ≤ b). let same : b ≡ suc m = omega arith in rw same (rw e at a))
          (lt-or-ge b (suc m))

  row : (i m : ℕ) → RowTo i m ⊎ RowFirst i m
  row i zero = inl (λ b k l. absurd (omega arith))
  row i (suc m) =
      ⊎_elim
      (λ (h : i < suc m).
      ⊎_elim
      (λ (r : RowTo i m). row_next i m h r)
      (λ (f : RowFirst i m).
      inr (record {
        j = f.j;
        v = f.v;
        below = f.below;
        last = omega (arith, f.last);
        answer = f.answer;
        not_covered = f.not_covered;
        before = f.before;
      }))
      (row i m))
      (λ (h : suc m ≤ i). inl (λ b k l. absurd (omega arith)))
      (lt-or-ge i (suc m))

  -- the pairs of the variants up to m are covered
  abbrev RowsTo : ℕ → Type 0
  RowsTo m = (i : ℕ) → 0 < i → i ≤ m → RowTo i (length vs)

  -- some pair is the first that is not
  abbrev SomeFirst : Type 0
  SomeFirst = (i : ℕ) × (j : ℕ) × (v : Verdict) × FirstPair n rule vs depth i j v

  rows-first : (m : ℕ) → RowsTo m → RowFirst (suc m) (length vs) → SomeFirst
  rows-first m r f = (
    suc m,
    f.j,
    f.v,
    record {
      pair = record { first = omega arith; below = f.below; last = f.last };
      answer = f.answer;
      not_covered = f.not_covered;
      before = λ a b p q.
          ⊎_elim
          (λ (k : a < suc m). r a p.first (omega arith) b p.below p.last)
          (λ (e : (a ≡ suc m) × (b < f.j)). rw e.0 (f.before b (omega (arith, p.below, e.0)) e.1))
          q;
    },
  )

  rows_next : (m : ℕ) → RowsTo m → RowTo (suc m) (length vs) → RowsTo (suc m)
  rows_next m r t i f b =
      ⊎_elim (λ (q : i < suc m). r i f (omega arith)) (λ (q : suc m ≤ i). let same : i ≡ suc m = omega arith in rw same t) (lt-or-ge i (suc m))

  rows : (m : ℕ) → RowsTo m ⊎ SomeFirst
  rows zero = inl (λ i f b. absurd (omega arith))
  rows (suc m) =
      ⊎_elim
      (λ (r : RowsTo m).
      ⊎_elim
      (λ (t : RowTo (suc m) (length vs)). inl (rows_next m r t))
      (λ (f : RowFirst (suc m) (length vs)). inr (rows-first m r f))
      (row (suc m) (length vs)))
      (λ (f : SomeFirst). inr f)
      (rows m)

  overlap-exists : (o : Option Overlap) × OverlapSays n rule vs depth o
  overlap-exists =
      ⊎_elim
      (λ (r : RowsTo (length vs)). (None, λ i j p. r i p.first (omega (arith, p.below, p.last)) j p.below p.last))
      (λ (f : SomeFirst). (pair_with f.0 f.1 f.2, f.3))
      (rows (length vs))

reading-answers : (x : PackReading) (depth : ℕ) → (r : PackVerdict) × PackReadingSays x depth r
reading-answers (refusal f) depth = (Err f, refl)
reading-answers (line l) depth =
    let n : ℕ = length l.flags in
    let w = checked-exists n (whole_of l.rule l.variants) depth in
    let o = overlap-exists n l.rule l.variants depth in
    (line_with w.0 o.0, record { whole-line = w.1; pairs = o.1 })

-- the statement of the check of packs has an answer for every byte string and depth
pub pack-answers : (file : List ℕ) (depth : ℕ) → (r : PackVerdict) × PackChecked file depth r
pack-answers file depth = reading-answers (asked file depth) depth
