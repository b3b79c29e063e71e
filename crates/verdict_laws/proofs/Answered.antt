-- The outline's trial has a run, and so an answer, for all triplets, every root, number of flags and depth: with it, the trial
-- and check's statement say the same.
use Prim.Native.Nat.{ℕ, zero, suc, ◌+◌, ◌*◌, ◌/◌, ◌≤◌, ◌<◌}
use mathlib.Core.Path.{◌≡◌, refl, sym, subst, ◌∙◌}
use mathlib.Core.Bool.{true, false}
use mathlib.Core.List.{List, [], ◌∷◌}
use mathlib.Core.Logic.{⊎_elim, ◌↔◌}
use native.Mathlib.Omega.{arith}
use lib.ListN.{length}
use Rattle.notation.specs.Ceilings.{text_ceiling}
use Rattle.notation.specs.Triplets.{Triplet, negation, literal, triplets, triplet_variable, Each}
use Rattle.notation.specs.Guard.{Guard}
use Rattle.notation.specs.Reading.{Reading, refusal, guard}
use Rattle.ground.proofs.Cases.{either, never}
use Rattle.notation.proofs.Shaped.{negation-half}
use Rattle.relation.specs.Relation.{Rel, IsRelation}
use Rattle.saturation.specs.Saturation.{taking, SaturationOf, Flags}
use Rattle.saturation.specs.Answer.{Answer, Checked}
use Rattle.saturation.proofs.Taking.{above-taking, taking-holds, above-taken, taken-above}
use Rattle.std.specs.Prelude.{Ok, Err, IsOkAnd}
use Rattle.guard_check.specs.Check.{depth_ceiling, asked, Checking, ReadingSays, CheckSays}
use Rattle.saturation.specs.declared.verdict.Verdict.{Verdict}
use Rattle.saturation.specs.declared.verdict.Verdict.TheVariants.{Covered, Gap, Undecided}
use Rattle.guard_check.proofs.Checking.{asks-text}
use Rattle.verdict_laws.specs.Trial.{Started, Tried, as-false, as-true, Through, no_flag, next-flag, Fixes, Outline, is-covered, is-gap}
use Rattle.verdict_laws.specs.Trial.{is-undecided, OutlineSays}
use Rattle.verdict_laws.specs.Together.{IsRead}
use Rattle.verdict_laws.proofs.Trials.{through_reaches, outline-answer, outline-same}
use Rattle.verdict_laws.proofs.Services.{read_short}
use Rattle.verdict_laws.proofs.Joins.{Small, alone, alone-same, alone-relation, alone-small}
use Rattle.verdict_laws.proofs.Existing.{Low, taking-exists, saturation-exists}

-- ---- all variables of a list of triplets are below some number
low-more : (M N c : ℕ) (ts : List Triplet) → M ≤ N → Each (Low M) c ts → Each (Low N) c ts
low-more M N c [] h l = tt
low-more M N c (t ∷ ts) h l =
    ((omega (arith, l.0.0), omega (arith, l.0.1), omega (arith, l.0.2)), low-more M N (c + 1) ts h l.1)

bound : (c : ℕ) (ts : List Triplet) → (M : ℕ) × Each (Low M) c ts
bound c [] = (0, tt)
bound c (t ∷ ts) =
    let b : (M : ℕ) × Each (Low M) (c + 1) ts = bound (c + 1) ts in
    let N : ℕ = b.0 + (triplet_variable (c + 1) + t.y / 2 + t.z / 2 + 1) in
    (N, ((omega arith, omega arith, omega arith), low-more b.0 N (c + 1) ts (omega arith) b.1))

module _ (M n : ℕ) (ts : List Triplet) (low : Each (Low M) 0 ts) (flags : n < M) (k : ℕ) where
  -- "root = false" can be saturated
  start-exists : (root : ℕ) → root / 2 < M → (S : Rel) × Started (Flags n) ts root k S × Small M S
  start-exists root h =
      let saturates = saturation-exists M n ts low flags k in
      let t = taking-exists M n ts low flags k saturates alone alone-relation (alone-small M) (negation root) (rw (negation-half root) h) in
      (t.0, from-alone t.0 t.1, t.2)
    where
      from-alone : (S : Rel) → SaturationOf (Flags n) ts k (taking alone (negation root)) S → Started (Flags n) ts root k S
      from-alone S s =
          record {
            relation = s.relation;
            above = above-taken S (negation root ∷ []) (taking-holds alone S (negation root) s.above, tt);
            has = s.has;
            forced = λ a b e A r w p.
                s.forced a b e A r
                (above-taking alone A (negation root) (λ c d q. rw (alone-same c d q) (r.reflexive d)) (taken-above A (negation root ∷ []) w).0) p;
          }

  -- each flag can be tried
  tried-exists : (U : Rel) → IsRelation U → Small M U → (f : ℕ) → f < M → (T : Rel) × Tried (Flags n) ts k f U T × IsRelation T × Small M T
  tried-exists U r s f h =
      let saturates = saturation-exists M n ts low flags k in
      let o = taking-exists M n ts low flags k saturates U r s (2 * f + 1) (omega arith) in
      let i = taking-exists M n ts low flags k saturates U r s (2 * f) (omega arith) in
      ⊎_elim
      (λ (on : o.0 0 1 ≡ true). (i.0, as-true {F = o.0} o.1 on i.1, i.1.relation, i.2))
      (λ (off : o.0 0 1 ≡ false). (o.0, as-false o.1 (λ e. never (o.0 0 1) e off), o.1.relation, o.2))
      (either (o.0 0 1))

  -- so the trial can go through all flags
  through-exists : (S : Rel) → IsRelation S → Small M S → (i : ℕ) → i < M → (T : Rel) × Through (Flags n) ts k S i T × IsRelation T × Small M T
  through-exists S r s zero h = (S, no_flag, r, s)
  through-exists S r s (suc i) h =
      let u = through-exists S r s i (omega arith) in
      let t = tried-exists u.0 u.2 u.3 (suc i) h in
      (t.0, next-flag u.1 t.1, t.2, t.3)

-- a relation to start from, and one that the trial comes to, give an answer
answered : (D : ℕ → Type 0) (ts : List Triplet) (root k n : ℕ) (S T : Rel) (s : ℕ) → Started D ts root k S → Through D ts k S n T → Fixes n T s
    → (v : Verdict) × Outline D ts root k n v
answered D ts root k n S T s start through fixes =
    ⊎_elim
    (λ (e : S 0 1 ≡ true). (Covered, is-covered start e))
    (λ (e : S 0 1 ≡ false).
    ⊎_elim
    (λ (d : T 0 1 ≡ true). (Undecided, is-undecided start (λ c. never (S 0 1) c e) through d))
    (λ (d : T 0 1 ≡ false). (Gap s, is-gap start (λ c. never (S 0 1) c e) through (λ c. never (T 0 1) c d) fixes))
    (either (T 0 1)))
    (either (S 0 1))

module _ (ts : List Triplet) (root k n : ℕ) where
  -- the outline's trial has an answer
  pub outline-exists : (v : Verdict) × Outline (Flags n) ts root k n v
  outline-exists =
      let b : (M : ℕ) × Each (Low M) 0 ts = bound 0 ts in
      let M : ℕ = b.0 + (n + root / 2 + 1) in
      let low : Each (Low M) 0 ts = low-more b.0 M 0 ts (omega arith) b.1 in
      let s = start-exists M n ts low (omega arith) k root (omega arith) in
      let t = through-exists M n ts low (omega arith) k s.0 s.1.relation s.2 n (omega arith) in
      let g = through_reaches (Flags n) ts root k s.0 t.0 n s.1 t.1 in
      answered (Flags n) ts root k n s.0 t.0 g.0 s.1 t.1 g.1.fixes

  -- the trial and check's statement say the same
  pub outline-says : (v : Verdict) → Outline (Flags n) ts root k n v ↔ Answer (Flags n) ts root k n v
  outline-says v = (
    outline-answer (Flags n) ts root k n v,
    λ a.
        subst (λ (w : Verdict). Outline (Flags n) ts root k n w) (sym (outline-same (Flags n) ts root k n v outline-exists.0 a outline-exists.1))
        outline-exists.1,
  )

-- ---- of texts
reading-answers : (x : Reading) (k : ℕ) → (r : Checking) × ReadingSays x k r
reading-answers (refusal reason p) k = (Err (record { reason = reason; place = p }), refl)
reading-answers (guard g u) k =
    let o = outline-exists (triplets 0 g) (literal 0 g) k (length u) in
    (Ok o.0, (outline-says (triplets 0 g) (literal 0 g) k (length u) o.0).0 o.1)

-- check has an answer for every text and depth
pub check-answers : (text : List ℕ) (depth : ℕ) → (r : Checking) × CheckSays text depth r
check-answers text depth = reading-answers (asked text depth) depth

same-verdict : (n : ℕ) (g : Guard) (depth : ℕ) (r : Checking) → IsOkAnd r (OutlineSays n g depth) ↔ IsOkAnd r (Checked n g depth)
same-verdict n g depth (Ok v) = outline-says (triplets 0 g) (literal 0 g) depth n v
same-verdict n g depth (Err f) = (λ a. a, λ a. a)

-- for a text that is read, at a depth up to its ceiling, it is what the outline's trial answers on the triplets of its guard
pub check-outline : (text : List ℕ) (read : IsRead text) (depth : ℕ) → depth ≤ depth_ceiling → (r : Checking)
    → CheckSays text depth r ↔ IsOkAnd r (OutlineSays (length read.flags) read.tree depth)
check-outline text read depth h r =
    let n : ℕ = length read.flags in
    let g : Guard = read.tree in
    let short : length text ≤ text_ceiling = read_short text g read.flags read.says in
    let e : asked text depth ≡ guard g read.flags = asks-text text depth short h ∙ read.says in
    let same : IsOkAnd r (OutlineSays n g depth) ↔ IsOkAnd r (Checked n g depth) = same-verdict n g depth r in (
      λ a. same.1 (subst (λ (x : Reading). ReadingSays x depth r) e a),
      λ a. subst (λ (x : Reading). ReadingSays x depth r) (sym e) (same.0 a),
    )
