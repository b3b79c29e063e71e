-- What a tester may rely on, proved of every answer that satisfies the statement of the check of packs.
use Prim.Native.Nat.{ℕ, ◌≤◌, ◌<◌}
use native.Mathlib.Omega.{arith}
use mathlib.Core.Path.{◌≡◌, refl, sym, subst, ◌∙◌}
use mathlib.Core.Bool.{Bool, true, false}
use mathlib.Core.List.{List}
use mathlib.Core.Logic.{⊎_elim}
use lib.Dec.{leb}
use borrow.Author.Tests.{leb-true}
use Rattle.ground.specs.Choice.{choose}
use Rattle.ground.proofs.Cases.{never, lt-or-ge}
use Rattle.notation.specs.Refusals.{fault}
use Rattle.notation.specs.declared.refusal.Reason.TheVariants.{HighDepth}
use Rattle.truth.specs.Value.{value}
use Rattle.saturation.specs.Answer.{Checked}
use Rattle.saturation.specs.declared.verdict.Verdict.{Verdict}
use Rattle.saturation.specs.declared.verdict.Verdict.TheVariants.{Covered, Gap, Undecided}
use Rattle.guard_check.specs.Check.{depth_ceiling}
use Rattle.questions.specs.Questions.{whole_of, pair_of}
use Rattle.packs.specs.Pack.{Line, PackReading, refusal, line, pack_read}
use Rattle.pack_check.specs.PackCheck.{asked, line_with, pair_with, IsPair, PairIs, FirstPair, OverlapSays, LineSays, PackReadingSays, PackChecked}
use Rattle.pack_check.specs.declared.verdict.Overlap.{Overlap}
use Rattle.std.specs.Prelude.{Option, Some, None}
use Rattle.line_laws.specs.Promises.{flags_of, whole, pair, NeverMissing, FirstMissing, NeverTogether, NoneTogether, NoneBefore, FirstTogether}
use Rattle.line_laws.specs.Promises.{WholeMeans, PairMeans, PairsMean, Promised}
use Rattle.line_laws.proofs.Values.{whole-missing, missing-whole, whole-holds, pair-together, together-pair}
use Rattle.line_laws.proofs.Questions.{question-covered, question-gap, question-decided}

-- ---- of a line
module _ (file : List ℕ) (l : Line) (says : pack_read file ≡ line l) (depth : ℕ) where
  -- check's answer for the whole question
  abbrev WholeIs : Verdict → Type 0
  WholeIs v = Checked (flags_of l) (whole_of l.rule l.variants) depth v

  -- check's answer for the pair i, j
  abbrev PairOfIs : ℕ → ℕ → Verdict → Type 0
  PairOfIs i j v = PairIs (flags_of l) l.rule l.variants depth i j v

  never-missing : WholeIs Covered → NeverMissing l
  never-missing h s b r = whole-holds l s (question-covered file l says _ whole depth h s) r

  first-missing : (s : ℕ) → WholeIs (Gap s) → FirstMissing l s
  first-missing s h =
      let g = question-gap file l says _ whole depth s h in
      record { missing = whole-missing l s g.0 g.1; first = λ t m. g.2 t (missing-whole l t m) }

  below-flags : (flags_of l ≤ depth → ⊥) → depth < flags_of l
  below-flags n =
      ⊎_elim (λ (b : depth < flags_of l). b) (λ (b : flags_of l ≤ depth). absurd (n b)) (lt-or-ge depth (flags_of l))

  whole-means : (v : Verdict) → WholeIs v → WholeMeans l depth v
  whole-means Covered h = never-missing h
  whole-means (Gap s) h = first-missing s h
  whole-means Undecided h = below-flags (λ b. question-decided file l says _ whole depth b h)

  never-together : (i j : ℕ) → IsPair l.variants i j → PairOfIs i j Covered → NeverTogether l i j
  never-together i j p h s t =
      never (value (flags_of l) s (pair_of l.rule l.variants i j)) (question-covered file l says _ (pair i j p) depth h s) (together-pair l s i j t)

  none_before : (i j : ℕ) (v : Verdict) → FirstPair (flags_of l) l.rule l.variants depth i j v → NoneBefore l i j
  none_before i j v f = record { pair = f.pair; before = λ a b p e. never-together a b p (f.before a b p e) }

  first-together : (i j s : ℕ) → FirstPair (flags_of l) l.rule l.variants depth i j (Gap s) → FirstTogether l i j s
  first-together i j s f =
      let g = question-gap file l says _ (pair i j f.pair) depth s f.answer in
      record {
        before = none_before i j (Gap s) f;
        together = pair-together l s i j g.0 g.1;
        first = λ t m. g.2 t (together-pair l t i j m);
      }

  pair-means : (i j : ℕ) (v : Verdict) → FirstPair (flags_of l) l.rule l.variants depth i j v → PairMeans l depth i j v
  pair-means i j (Gap s) h = first-together i j s h
  pair-means i j Undecided h =
      (none_before i j Undecided h, below-flags (λ b. question-decided file l says _ (pair i j h.pair) depth b h.answer))
  pair-means i j Covered h = h.not_covered refl

  pairs-mean : (o : Option Overlap) → OverlapSays (flags_of l) l.rule l.variants depth o → PairsMean l depth o
  pairs-mean None h = λ i j p. never-together i j p (h i j p)
  pairs-mean (Some o) h = pair-means o.first o.second o.verdict h

-- ---- of a pack
-- the pack is read as a line, the depth is not over its ceiling, and the answers are those of the line
record LineOf (file : List ℕ) (depth : ℕ) (w : Verdict) (o : Option Overlap) : Type 0 where
  its : Line
  says : pack_read file ≡ line its
  shallow : depth ≤ depth_ceiling
  answers : LineSays (flags_of its) its.rule its.variants depth w o

module _ (file : List ℕ) (depth : ℕ) (w : Verdict) (o : Option Overlap) where
  line-by : (x : PackReading) → pack_read file ≡ x → depth ≤ depth_ceiling → PackReadingSays x depth (line_with w o) → LineOf file depth w o
  line-by (refusal f) e d h = let z : ◌≡◌ {A = ℕ} 0 1 = cc in absurd (omega arith)
  line-by (line l) e d h = record { its = l; says = e; shallow = d; answers = h }

  asked_by : (b : Bool) → leb depth depth_ceiling ≡ b → PackReadingSays (choose b (pack_read file) (refusal (fault HighDepth 0))) depth (line_with w o)
      → LineOf file depth w o
  asked_by true e h = line-by (pack_read file) refl (leb-true depth depth_ceiling e) h
  asked_by false e h = let z : ◌≡◌ {A = ℕ} 0 1 = cc in absurd (omega arith)

  line_of : PackChecked file depth (line_with w o) → LineOf file depth w o
  unfolding asked
  line_of h = asked_by (leb depth depth_ceiling) refl h

  -- a pack that is answered and not refused is read as a line, and the depth is not over its ceiling
  pub pack-is-line : PackChecked file depth (line_with w o) → ((l : Line) × (pack_read file ≡ line l)) × (depth ≤ depth_ceiling)
  pack-is-line h = let a = line_of h in ((a.its, a.says), a.shallow)

  -- what both answers mean
  pub pack-promises : PackChecked file depth (line_with w o) → Promised file depth w o
  pack-promises h =
      let a = line_of h in
      record {
        its = a.its;
        says = a.says;
        whole = whole-means file a.its a.says depth w a.answers.whole-line;
        pairs = pairs-mean file a.its a.says depth o a.answers.pairs;
      }

-- ---- the same, one by one, of the line that the pack is read as
module _ (file : List ℕ) (l : Line) (says : pack_read file ≡ line l) (depth : ℕ) where
  same_line : (w : Verdict) (o : Option Overlap) → PackChecked file depth (line_with w o) → WholeMeans l depth w × PairsMean l depth o
  same_line w o h =
      let p : Promised file depth w o = pack-promises file depth w o h in
      let e : line p.its ≡ line l = sym p.says ∙ says in
      let same : p.its ≡ l = cc in
      subst (λ (m : Line). WholeMeans m depth w × PairsMean m depth o) same (p.whole, p.pairs)

  -- covered: wherever the rule holds some variant does
  pub covered-never-missing : (o : Option Overlap) → PackChecked file depth (line_with Covered o) → NeverMissing l
  covered-never-missing o h = (same_line Covered o h).0

  -- a gap: there the rule holds and no variant does, and it is the first such state
  pub gap-first-missing : (s : ℕ) (o : Option Overlap) → PackChecked file depth (line_with (Gap s) o) → FirstMissing l s
  gap-first-missing s o h = (same_line (Gap s) o h).0

  -- no pair: no two variants ever stand together
  pub none-together : (w : Verdict) → PackChecked file depth (line_with w None) → NoneTogether l
  none-together w h = (same_line w None h).1

  -- a pair with a gap: there the two stand together, it is the first such state of theirs, and no pair before them ever does
  pub pair-first-together : (w : Verdict) (i j s : ℕ) → PackChecked file depth (line_with w (pair_with i j (Gap s))) → FirstTogether l i j s
  pair-first-together w i j s h = (same_line w (pair_with i j (Gap s)) h).1

  -- a pair that is undecided: no pair before it ever stands together
  pub pair-none-before : (w : Verdict) (i j : ℕ) → PackChecked file depth (line_with w (pair_with i j Undecided)) → NoneBefore l i j
  pair-none-before w i j h = (same_line w (pair_with i j Undecided) h).1.0

  -- at a depth not below the number of flags neither answer is undecided
  pub whole-decided : flags_of l ≤ depth → (o : Option Overlap) → PackChecked file depth (line_with Undecided o) → ⊥
  whole-decided b o h = let c : depth < flags_of l = (same_line Undecided o h).0 in omega arith

  pub pairs-decided : flags_of l ≤ depth → (w : Verdict) (i j : ℕ) → PackChecked file depth (line_with w (pair_with i j Undecided)) → ⊥
  pairs-decided b w i j h = let c : depth < flags_of l = (same_line w (pair_with i j Undecided) h).1.1 in omega arith
