-- Check, evaluate and list of one text together.
use Prim.Native.Nat.{ℕ, ◌-◌, ◌^◌, ◌≤◌, ◌<◌}
use mathlib.Core.Path.{◌≡◌, refl, sym, ap, subst, ◌∙◌}
use mathlib.Core.Bool.{Bool, true, false}
use mathlib.Core.List.{List, [], ◌∷◌}
use mathlib.Core.Logic.{inl, ⊎_elim}
use native.Mathlib.Omega.{arith}
use lib.Pow.{pow_pos}
use lib.ListN.{length, get_or}
use lib.Dec.{ltb}
use lib.Seq.{take_all}
use borrow.Author.Tests.{lt-ltb, le-leb, lt-leb}
use Rattle.notation.specs.Ceilings.{text_ceiling}
use Rattle.notation.specs.Walk.{Flag}
use Rattle.notation.specs.Guard.{Guard}
use Rattle.notation.specs.Reading.{Reading, refusal, guard, reading}
use Rattle.ground.proofs.Cases.{lt-or-ge, never}
use Rattle.notation.proofs.Accepted.{reading-accepted}
use Rattle.notation.specs.declared.refusal.Reason.{Reason}
use Rattle.notation.specs.declared.refusal.Reason.TheVariants.{LongText, HighDepth}
use Rattle.reading.proofs.Parsing.{whole-too-long}
use Rattle.truth.specs.Value.{value}
use Rattle.evaluate.specs.Evaluated.{evaluated}
use Rattle.gaps.specs.Gaps.{gaps_from}
use Rattle.gaps.specs.Writing.{found, placed}
use Rattle.gaps.specs.declared.writing.Found.{Found}
use Rattle.gaps.specs.declared.writing.Found.TheVariants.{Done, More}
use Rattle.gaps.proofs.Written.{found-done}
use Rattle.gaps.proofs.Ascending.{false-none}
use Rattle.list.specs.Listed.{Listing, listed, filled, Lists, Among, Ascends}
use Rattle.std.specs.Prelude.{Ok, Err}
use Rattle.list.proofs.Complete.{gaps-exact, gaps-ascend, placed-written, found-all-or-more}
use Rattle.truth.specs.clauses.Written.{Proper}
use Rattle.verdict_laws.proofs.Guards.{checked-full, checked-full-gap}
use Rattle.guard_check.specs.Check.{depth_ceiling, Checking, ReadingSays, CheckSays}
use Rattle.saturation.specs.declared.verdict.Verdict.TheVariants.{Covered, Gap}
use Rattle.guard_check.proofs.Checking.{asks-long, asks-deep, asks-text, guard-too}
use Rattle.verdict_laws.proofs.Demands.{verdict-no-refusal, covered-true, gap-first}
use Rattle.verdict_laws.specs.Together.{IsRead, NoRefusal, GapTogether, CoveredTogether, NoneTogether, NextTogether}

-- ---- a verdict that is no refusal is on a text that is read
not-refused : (k : Reason) (p : ℕ) (r : Checking) → NoRefusal r → r ≡ Err (record { reason = k; place = p }) → ⊥
not-refused k p (Ok v) h e = verdict-no-refusal v k p e
not-refused k p (Err f) h e = h

read-when : (text : List ℕ) (depth : ℕ) (r : Checking) → NoRefusal r → (x : Reading) → reading text ≡ x → ReadingSays x depth r → IsRead text
read-when text depth r n (refusal k p) e h = absurd (not-refused k p r n h)
read-when text depth r n (guard g u) e h = record { tree = g; flags = u; says = e }

-- the text of each verdict that is no refusal is read
pub verdict-read : (text : List ℕ) (depth : ℕ) (r : Checking) → NoRefusal r → CheckSays text depth r → IsRead text
verdict-read text depth r n h =
    ⊎_elim
    (λ (a : text_ceiling < length text). absurd
    (not-refused LongText text_ceiling r n (subst (λ (x : Reading). ReadingSays x depth r) (asks-long text depth a) h)))
    (λ (a : length text ≤ text_ceiling).
    ⊎_elim
    (λ (b : depth_ceiling < depth). absurd (not-refused HighDepth 0 r n (subst (λ (x : Reading). ReadingSays x depth r) (asks-deep text depth a b) h)))
    (λ (b : depth ≤ depth_ceiling). read-when text depth r n (reading text) refl
    (subst (λ (x : Reading). ReadingSays x depth r) (asks-text text depth a b) h))
    (lt-or-ge depth_ceiling depth))
    (lt-or-ge text_ceiling (length text))

true-else : (b : Bool) → (b ≡ false → ⊥) → b ≡ true
true-else true h = refl
true-else false h = absurd (h refl)

-- ---- nothing to write
found_none : (room : ℕ) → found [] room ≡ Done 0
unfolding found
found_none room = rw (le-leb 0 room (omega arith))

placed-none : (out : List ℕ) → placed [] out ≡ out
unfolding placed
placed-none out = rw (take_all {A = ℕ} (length out) [] (omega arith))

-- ---- a text that is read is within its ceiling, and so is its guard
pub read_short : (text : List ℕ) (g : Guard) (u : List Flag) → reading text ≡ guard g u → length text ≤ text_ceiling
read_short text g u e =
    ⊎_elim
    (λ (a : text_ceiling < length text).
    let r : refusal LongText text_ceiling ≡ guard g u = sym (whole-too-long text a) ∙ e in let z : ◌≡◌ {A = ℕ} 0 1 = cc in absurd (omega arith))
    (λ (a : length text ≤ text_ceiling). a)
    (lt-or-ge text_ceiling (length text))

proper : (text : List ℕ) (g : Guard) (u : List Flag) → reading text ≡ guard g u → Proper (length u) g
proper text g u e = record { few = (reading-accepted text g u e).few; within = (reading-accepted text g u e).within }

-- ---- evaluate and list in a state of a guard
module _ (text : List ℕ) (g : Guard) (u : List Flag) (says : reading text ≡ guard g u) where
  evaluates : (t : ℕ) → t < 2 ^ length u → evaluated (reading text) t ≡ Ok (value (length u) t g)
  unfolding evaluated
  evaluates t h = rw (says, lt-ltb t (2 ^ length u) h)

  answers : (start : ℕ) → start < 2 ^ length u → (out : List ℕ) (answer : Listing) (after : List ℕ) → Lists text start out answer after
      → (answer ≡ Ok (found (gaps_from (length u) g start) (length out))) × (after ≡ placed (gaps_from (length u) g start) out)
  unfolding listed filled
  answers start h out answer after l =
      let soon : ltb start (2 ^ length u) ≡ true = lt-ltb start (2 ^ length u) h in
      (rw (says, soon) at l.answers, rw (says, soon) at l.holds)

  -- 0 is a state of every guard
  zero-state : 0 < 2 ^ length u
  zero-state = pow_pos (length u)

  -- ---- the first gap
  module _ (s : ℕ) (l : List ℕ) (gaps : gaps_from (length u) g 0 ≡ s ∷ l) where
    first-exact : (0 ≤ s) × (s < 2 ^ length u) × (value (length u) s g ≡ false)
    first-exact = (gaps-exact (length u) g 0 s (omega arith)).0 (subst (λ (m : List ℕ). Among s m) (sym gaps) (inl refl))

    -- no gap stands before the first
    not-before : (t : ℕ) → t < 2 ^ length u → value (length u) t g ≡ false → s ≤ t
    not-before t h e =
        ⊎_elim
        (λ (p : t ≡ s). omega arith)
        (λ (p : Among t l). omega (arith, (subst Ascends gaps (gaps-ascend (length u) g 0)).0 t p))
        (subst (λ (m : List ℕ). Among t m) gaps ((gaps-exact (length u) g 0 t (omega arith)).1 (omega arith, h, e)))

    -- so the guard is true before it
    first-before : (t : ℕ) → t < s → value (length u) t g ≡ true
    first-before t h =
        true-else (value (length u) t g) (λ e. omega (arith, not-before t (omega (arith, first-exact.1)) e))

    first-written : (out : List ℕ) → 0 < length out → get_or (placed (gaps_from (length u) g 0) out) 0 0 ≡ s
    first-written out h = rw gaps (placed-written (s ∷ l) out 0 (omega arith) h)

    first_next : found (gaps_from (length u) g 0) 0 ≡ More 0 s
    unfolding found
    first_next = rw (gaps, lt-leb (length (s ∷ l)) 0 (omega arith))

    gap-together : GapTogether text s
    gap-together =
        record {
          false-there = evaluates s first-exact.1 ∙ ap Ok first-exact.2;
          true-before = λ t h. evaluates t (omega (arith, first-exact.1)) ∙ ap Ok (first-before t h);
          first = λ out answer after h p. ap (λ (m : List ℕ). get_or m 0 0) (answers 0 zero-state out answer after h).1 ∙ first-written out p;
          next = λ out answer after h p. (answers 0 zero-state out answer after h).0 ∙ ap Ok (rw p first_next);
        }

  -- ---- no gap
  none_from : ((t : ℕ) → value (length u) t g ≡ true) → (start : ℕ) → gaps_from (length u) g start ≡ []
  unfolding gaps_from
  none_from h start = false-none (λ s. value (length u) s g) start (2 ^ length u - start) (λ s p q. h s)

  covered-together : ((t : ℕ) → value (length u) t g ≡ true) → CoveredTogether text
  covered-together h =
      record {
        read = record { tree = g; flags = u; says = says };
        all_true = λ t l. evaluates t l ∙ ap Ok (h t);
        none = λ start l out answer after m.
            let a = answers start l out answer after m in
            (rw (none_from h start, found_none (length out)) at a.0, rw (none_from h start, placed-none out) at a.1);
      }

  -- ---- from list to check
  none-together : gaps_from (length u) g 0 ≡ [] → NoneTogether text
  none-together none =
      record {
        read = record { tree = g; flags = u; says = says };
        no_gap = λ depth s h.
            let f = gap-first text g u says depth s h in
            let p : s ∷ f.0 ≡ [] = sym f.1 ∙ none in
            let z : ◌≡◌ {A = ℕ} 0 1 = cc in
            omega arith;
        covered = λ depth deep h.
            guard-too text depth (read_short text g u says) h g u says Covered
            (checked-full (length u) g (proper text g u says) depth deep all_true);
      }
    where
      all_true : (t : ℕ) → t < 2 ^ length u → value (length u) t g ≡ true
      all_true t l =
          true-else (value (length u) t g)
          (λ e. subst (λ (m : List ℕ). Among t m) none ((gaps-exact (length u) g 0 t (omega arith)).1 (omega arith, l, e)))

  next-together : (s : ℕ) (l : List ℕ) → gaps_from (length u) g 0 ≡ s ∷ l → NextTogether text s
  next-together s l gaps =
      record {
        read = record { tree = g; flags = u; says = says };
        not_covered = λ depth h. never (value (length u) s g) (covered-true text g u says depth h s) (first-exact s l gaps).2;
        no_other = λ depth t h. let f = gap-first text g u says depth t h in let p : t ∷ f.0 ≡ s ∷ l = sym f.1 ∙ gaps in cc;
        gap = λ depth deep h.
            guard-too text depth (read_short text g u says) h g u says (Gap s)
            (checked-full-gap (length u) g (proper text g u says) depth deep s (first-exact s l gaps).1 (first-exact s l gaps).2 (first-before s l gaps));
      }

-- ---- the laws
module _ (text : List ℕ) (depth : ℕ) where
  -- a gap that check names, at any depth, is where evaluate is false, and what list has first
  pub gap-says : (s : ℕ) → CheckSays text depth (Ok (Gap s)) → GapTogether text s
  gap-says s h =
      let r : IsRead text = verdict-read text depth (Ok (Gap s)) tt h in
      let f = gap-first text r.tree r.flags r.says depth s h in
      gap-together text r.tree r.flags r.says s f.0 f.1

  -- where check says covered, at any depth, evaluate is true in every state, and list has nothing
  pub covered-says : CheckSays text depth (Ok Covered) → CoveredTogether text
  covered-says h =
      let r : IsRead text = verdict-read text depth (Ok Covered) tt h in
      covered-together text r.tree r.flags r.says (covered-true text r.tree r.flags r.says depth h)

-- ---- from list to check
lists-when : (text : List ℕ) (start room : ℕ) (x : Reading) (f : Found) → reading text ≡ x → Ok f ≡ listed x start room → IsRead text
unfolding listed
lists-when text start room (refusal k p) f e h = let z : ◌≡◌ {A = ℕ} 0 1 = cc in absurd (omega arith)
lists-when text start room (guard g u) f e h = record { tree = g; flags = u; says = e }

-- a text whose gaps are listed is read
lists-read : (text : List ℕ) (start : ℕ) (out : List ℕ) (f : Found) (after : List ℕ) → Lists text start out (Ok f) after → IsRead text
lists-read text start out f after l = lists-when text start (length out) (reading text) f refl l.answers

-- what is answered of the gaps from state 0 on
listed-first : (text : List ℕ) (g : Guard) (u : List Flag) (says : reading text ≡ guard g u) (out : List ℕ) (f : Found) (after : List ℕ)
    → Lists text 0 out (Ok f) after → f ≡ found (gaps_from (length u) g 0) (length out)
listed-first text g u says out f after l =
    let e : Ok f ≡ Ok (found (gaps_from (length u) g 0) (length out)) =
    (answers text g u says 0 (zero-state text g u says) out (Ok f) after l).0 in
    cc

no_length : (l : List ℕ) → 0 ≡ length l → l ≡ []
no_length [] e = refl
no_length (x ∷ l) e = absurd (omega arith)

first_of : (l : List ℕ) (s : ℕ) → 0 < length l → get_or l 0 0 ≡ s → (m : List ℕ) × (l ≡ s ∷ m)
first_of [] s h e = absurd (omega arith)
first_of (x ∷ l) s h e = (l, ap (λ (y : ℕ). y ∷ l) e)

-- more with none written: the first of the list is next
next-first : (l : List ℕ) (room s : ℕ) → More 0 s ≡ found l room → (m : List ℕ) × (l ≡ s ∷ m)
next-first l room s e =
    ⊎_elim
    (λ (p : (length l ≤ room) × (found l room ≡ Done (length l))).
    let q : More 0 s ≡ Done (length l) = e ∙ p.1 in let z : ◌≡◌ {A = ℕ} 0 1 = cc in absurd (omega arith))
    (λ (p : (room < length l) × (found l room ≡ More room (get_or l room 0))).
    let q : More 0 s ≡ More room (get_or l room 0) = e ∙ p.1 in
    let none : room ≡ 0 = cc in
    let same : get_or l room 0 ≡ s = cc in
    first_of l s (omega (arith, p.0)) (rw none at same))
    (found-all-or-more l room)

-- where list from state 0 on has nothing, check names no gap, and says covered from the number of flags up
pub none-says : (text out after : List ℕ) → Lists text 0 out (Ok (Done 0)) after → NoneTogether text
none-says text out after l =
    let r : IsRead text = lists-read text 0 out (Done 0) after l in
    let f : Done 0 ≡ found (gaps_from (length r.flags) r.tree 0) (length out) =
    listed-first text r.tree r.flags r.says out (Done 0) after l in
    none-together text r.tree r.flags r.says (no_length _ (found-done out _ 0 f).1)

-- where it answers more with none written, check names the next one, and no other, and names it from the number of flags up
pub next-says : (text out after : List ℕ) (s : ℕ) → Lists text 0 out (Ok (More 0 s)) after → NextTogether text s
next-says text out after s l =
    let r : IsRead text = lists-read text 0 out (More 0 s) after l in
    let f = next-first _ (length out) s (listed-first text r.tree r.flags r.says out (More 0 s) after l) in
    next-together text r.tree r.flags r.says s f.0 f.1
