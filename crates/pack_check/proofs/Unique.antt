-- No second answer satisfies the statement of the check of packs.
use Prim.Native.Nat.{ℕ, ◌≤◌, ◌<◌}
use mathlib.Core.Path.{◌≡◌, refl, sym, ap, ◌∙◌}
use mathlib.Core.Logic.{inl, inr, ⊎_elim}
use mathlib.Core.List.{List}
use native.Mathlib.Omega.{arith}
use lib.ListN.{length}
use Rattle.ground.proofs.Cases.{lt-or-ge}
use Rattle.notation.specs.Guard.{Guard}
use Rattle.notation.specs.Triplets.{literal, triplets}
use Rattle.saturation.specs.Answer.{Checked}
use Rattle.saturation.specs.Saturation.{Flags}
use Rattle.saturation.specs.declared.verdict.Verdict.{Verdict}
use Rattle.saturation.specs.declared.verdict.Verdict.TheVariants.{Covered}
use Rattle.saturation.proofs.Verdicts.{answer-unique}
use Rattle.questions.specs.Questions.{whole_of, pair_of}
use Rattle.packs.specs.Pack.{Line, PackReading, refusal, line}
use Rattle.pack_check.specs.PackCheck.{asked, Before, PairIs, FirstPair, OverlapSays, PackVerdict, LineSays, PackReadingSays, PackChecked}
use Rattle.pack_check.specs.declared.verdict.Overlap.{Overlap}
use Rattle.pack_check.specs.declared.verdict.LineVerdict.{LineVerdict}
use Rattle.std.specs.Prelude.{Option, Some, None, Ok, Err}

checked-once : (n : ℕ) (g : Guard) (k : ℕ) (v w : Verdict) → Checked n g k v → Checked n g k w → v ≡ w
checked-once n g k v w a b = answer-unique (Flags n) (triplets 0 g) (literal 0 g) k n v w a b

-- of two pairs one stands before the other, or they are the same
pub data Ways (i j a b : ℕ) : Type 0 where
  earlier : Before i j a b → Ways i j a b
  later : Before a b i j → Ways i j a b
  same : i ≡ a → j ≡ b → Ways i j a b

ways : (i j a b : ℕ) → Ways i j a b
ways i j a b =
    ⊎_elim
    (λ (h : i < a). earlier (inl h))
    (λ (h : a ≤ i).
    ⊎_elim
    (λ (k : a < i). later (inl k))
    (λ (k : i ≤ a).
    ⊎_elim
    (λ (l : j < b). earlier (inr (omega arith, l)))
    (λ (l : b ≤ j).
    ⊎_elim (λ (m : b < j). later (inr (omega arith, m))) (λ (m : j ≤ b). same (omega arith) (omega arith)) (lt-or-ge b j))
    (lt-or-ge j b))
    (lt-or-ge a i))
    (lt-or-ge i a)

module _ (n : ℕ) (rule : Guard) (variants : List Guard) (depth : ℕ) where
  -- a pair that is not covered, where it is claimed to be
  clash : (i j : ℕ) (v : Verdict) → FirstPair n rule variants depth i j v → PairIs n rule variants depth i j Covered → ⊥
  clash i j v f c = f.not_covered (checked-once n (pair_of rule variants i j) depth v Covered f.answer c)

  same-pair : (o p : Overlap) → o.first ≡ p.first → o.second ≡ p.second → FirstPair n rule variants depth o.first o.second o.verdict
      → FirstPair n rule variants depth p.first p.second p.verdict → o ≡ p
  same-pair o p d e f g =
      let u : o.verdict ≡ p.verdict =
      checked-once n (pair_of rule variants o.first o.second) depth o.verdict p.verdict f.answer (rw (d, e) g.answer) in
      same-overlap o.first o.second p.first p.second o.verdict p.verdict d e u
    where
      same-overlap : (i j a b : ℕ) (v w : Verdict) → i ≡ a → j ≡ b → v ≡ w
          → ◌≡◌ {A = Overlap} (record { first = i; second = j; verdict = v }) (record { first = a; second = b; verdict = w })
      same-overlap i j a b v w d e u = rw (d, e, u)

  by-ways : (o p : Overlap) → FirstPair n rule variants depth o.first o.second o.verdict
      → FirstPair n rule variants depth p.first p.second p.verdict → Ways o.first o.second p.first p.second → o ≡ p
  by-ways o p x y (earlier q) = absurd (clash o.first o.second o.verdict x (y.before o.first o.second x.pair q))
  by-ways o p x y (later q) = absurd (clash p.first p.second p.verdict y (x.before p.first p.second y.pair q))
  by-ways o p x y (same d e) = same-pair o p d e x y

  overlap-unique : (r s : Option Overlap) → OverlapSays n rule variants depth r → OverlapSays n rule variants depth s → r ≡ s
  overlap-unique None None x y = refl
  overlap-unique None (Some p) x y = absurd (clash p.first p.second p.verdict y (x p.first p.second y.pair))
  overlap-unique (Some o) None x y = absurd (clash o.first o.second o.verdict x (y o.first o.second x.pair))
  overlap-unique (Some o) (Some p) x y = ap Some (by-ways o p x y (ways o.first o.second p.first p.second))

line-unique : (n : ℕ) (rule : Guard) (variants : List Guard) (depth : ℕ) (v w : LineVerdict) → LineSays n rule variants depth v.whole v.overlap
    → LineSays n rule variants depth w.whole w.overlap → v ≡ w
line-unique n rule variants depth v w a b =
    let e : v.whole ≡ w.whole = checked-once n (whole_of rule variants) depth v.whole w.whole a.whole-line b.whole-line in
    let u : v.overlap ≡ w.overlap = overlap-unique n rule variants depth v.overlap w.overlap a.pairs b.pairs in
    same-line v.whole w.whole v.overlap w.overlap e u
  where
    same-line : (x y : Verdict) (o p : Option Overlap) → x ≡ y → o ≡ p
        → ◌≡◌ {A = LineVerdict} (record { whole = x; overlap = o }) (record { whole = y; overlap = p })
    same-line x y o p e u = rw (e, u)

answer-unique-in : (l : Line) (depth : ℕ) (r s : PackVerdict) → PackReadingSays (line l) depth r → PackReadingSays (line l) depth s → r ≡ s
answer-unique-in l depth (Ok v) (Ok w) a b = ap Ok (line-unique (length l.flags) l.rule l.variants depth v w a b)
answer-unique-in l depth (Ok v) (Err f) a b = absurd b
answer-unique-in l depth (Err f) s a b = absurd a

reading-unique : (x : PackReading) (depth : ℕ) (r s : PackVerdict) → PackReadingSays x depth r → PackReadingSays x depth s → r ≡ s
reading-unique (refusal f) depth r s a b = a ∙ sym b
reading-unique (line l) depth r s a b = answer-unique-in l depth r s a b

-- no second answer satisfies the statement of the check of packs
pub pack-check-unique : (file : List ℕ) (depth : ℕ) (r s : PackVerdict) → PackChecked file depth r → PackChecked file depth s → r ≡ s
pack-check-unique file depth r s a b = reading-unique (asked file depth) depth r s a b
