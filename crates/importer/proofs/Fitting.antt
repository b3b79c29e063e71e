-- What each service answers is within its ceilings, so that a packed number has room for it.
use Prim.Native.Nat.{ℕ, zero, suc, ◌+◌, ◌*◌, ◌-◌, ◌^◌, ◌≤◌, ◌<◌}
use mathlib.Core.Path.{◌≡◌, refl, sym, subst}
use mathlib.Core.Bool.{Bool, true, false}
use mathlib.Core.List.{List, [], ◌∷◌}
use mathlib.Core.Logic.{⊎_elim}
use native.Mathlib.Omega.{arith}
use lib.ListN.{length, get_or}
use lib.Dec.{leb, ltb}
use lib.Pow.{pow_mono}
use borrow.Author.Tests.{leb-true, ltb-true}
use Rattle.notation.specs.Ceilings.{text_ceiling, flag_ceiling, connective_ceiling}
use Rattle.notation.specs.Tokens.{tokens}
use Rattle.ground.specs.Choice.{choose}
use Rattle.notation.specs.Walk.{Flag, Outcome, refused, accepted, walk, operand}
use Rattle.notation.specs.Guard.{Guard, connectives}
use Rattle.notation.specs.Triplets.{literal, literal_ceiling, triplets}
use Rattle.notation.specs.Grammar.{tree}
use Rattle.notation.specs.Reading.{Reading, refusal, guard, judged, reading}
use Rattle.std.specs.Prelude.{Ok, Err}
use Rattle.reading.specs.Service.{Parsed, Named, guard_with, read_answer, name_in, name_answer}
use Rattle.reading.specs.clauses.Parsing.{last_refusal}
use Rattle.ground.proofs.Cases.{either}
use Rattle.notation.proofs.Accepted.{reading-accepted, reading-shape}
use Rattle.notation.specs.Numbers.{number_of}
use Rattle.notation.specs.Refusals.{fault}
use Rattle.notation.specs.declared.refusal.Reason.{Reason}
use Rattle.notation.specs.declared.refusal.Reason.TheVariants.{LongText, HighDepth, NoState, SmallRoom, NoFlag}
use Rattle.truth.specs.Value.{value}
use Rattle.evaluate.specs.Evaluated.{Evaluation, evaluated}
use Rattle.saturation.specs.Saturation.{Flags}
use Rattle.saturation.proofs.Confirmed.{trial-below}
use Rattle.gaps.specs.Gaps.{false_from, gaps_from}
use Rattle.gaps.specs.Writing as writing
use Rattle.list.specs.Listed.{Listing, listed}
use Rattle.gaps.specs.declared.writing.Found.{Found}
use Rattle.gaps.specs.declared.writing.Found.TheVariants as found
use Rattle.gaps.proofs.Ascending.{false-not, false-one}
use Rattle.guard_check.specs.Check.{depth_ceiling, asked, Checking, ReadingSays, CheckSays}
use Rattle.saturation.specs.declared.verdict.Verdict.TheVariants.{Covered, Gap, Undecided}
use Rattle.importer.specs.clauses.Fits.{AnswerFits, RefusalFits, VerdictFits, ValueFits, FoundFits, GuardFits, StretchFits}
use Rattle.reading.proofs.Places.{choose-has, FlagsFit, OutcomeFits, text-fits}

-- ---- what a text says
-- the places of a reading are within the longest text
abbrev PlacesFit : Reading → Type 0
PlacesFit (refusal k p) = (number_of k ≤ last_refusal) × (p ≤ text_ceiling)
PlacesFit (guard g u) = FlagsFit u

judged-fits : (o : Outcome) (g : Guard) → OutcomeFits o → PlacesFit (judged o g)
unfolding judged
judged-fits (refused k p) g f = f
judged-fits (accepted u m) g f = f

places-fit : (text : List ℕ) → PlacesFit (reading text)
unfolding reading
places-fit text =
    choose-has (λ (x : Reading). PlacesFit x) (leb (length text) text_ceiling) (judged (walk operand 0 [] 0 (tokens text)) (tree (tokens text)))
    (refusal LongText text_ceiling)
    (λ h. judged-fits (walk operand 0 [] 0 (tokens text)) (tree (tokens text)) (text-fits text (leb-true (length text) text_ceiling h)))
    (λ h. (omega arith, omega arith))

-- a guard of so many flags and connectives as there may be, with their places
record Small (g : Guard) (u : List Flag) : Type 0 where
  flags : length u ≤ flag_ceiling
  count : connectives g ≤ connective_ceiling
  root : literal 0 g ≤ literal_ceiling
  places : FlagsFit u

abbrev ReadingFits : Reading → Type 0
ReadingFits (refusal k p) = (number_of k ≤ last_refusal) × (p ≤ text_ceiling)
ReadingFits (guard g u) = Small g u

small-reading : (text : List ℕ) (x : Reading) → reading text ≡ x → PlacesFit x → ReadingFits x
small-reading text (refusal k p) e f = f
small-reading text (guard g u) e f =
    record { flags = (reading-accepted text g u e).few; count = (reading-accepted text g u e).short; root = (reading-shape text g u e).small; places = f }

reading-fits : (text : List ℕ) → ReadingFits (reading text)
reading-fits text = small-reading text (reading text) refl (places-fit text)

refusal-fits : (k : Reason) (p : ℕ) → (number_of k ≤ last_refusal) × (p ≤ text_ceiling) → RefusalFits (record { reason = k; place = p })
refusal-fits k p f = record { number = f.0; place = f.1 }

-- ---- check
asked-fits : (text : List ℕ) (depth : ℕ) → ReadingFits (asked text depth)
unfolding asked
asked-fits text depth =
    choose-has (λ (x : Reading). ReadingFits x) (leb (length text) text_ceiling) (choose (leb depth depth_ceiling) (reading text) (refusal HighDepth 0))
    (refusal LongText text_ceiling)
    (λ h. choose-has (λ (x : Reading). ReadingFits x) (leb depth depth_ceiling) (reading text) (refusal HighDepth 0) (λ e. reading-fits text)
    (λ e. (omega arith, omega arith)))
    (λ h. (omega arith, omega arith))

says-fits : (x : Reading) (depth : ℕ) (r : Checking) → ReadingFits x → ReadingSays x depth r → AnswerFits VerdictFits r
says-fits (refusal k p) depth r f s = subst (λ (w : Checking). AnswerFits VerdictFits w) (sym s) (refusal-fits k p f)
says-fits (guard g u) depth (Ok Covered) f s = tt
says-fits (guard g u) depth (Ok (Gap t)) f s =
    let below : t < 2 ^ length u = trial-below (Flags (length u)) (triplets 0 g) (literal 0 g) depth (length u) t s.1 in
    let most : 2 ^ length u ≤ 2 ^ flag_ceiling = pow_mono f.flags in
    omega arith
says-fits (guard g u) depth (Ok Undecided) f s = tt
says-fits (guard g u) depth (Err y) f s = absurd s

pub check-fits : (text : List ℕ) (depth : ℕ) (v : Checking) → CheckSays text depth v → AnswerFits VerdictFits v
check-fits text depth v s = says-fits (asked text depth) depth v (asked-fits text depth) s

-- ---- evaluate
evaluated-fits : (x : Reading) (state : ℕ) → ReadingFits x → AnswerFits ValueFits (evaluated x state)
unfolding evaluated
evaluated-fits (refusal k p) state f = refusal-fits k p f
evaluated-fits (guard g u) state f =
    choose-has (λ (e : Evaluation). AnswerFits ValueFits e) (ltb state (2 ^ length u)) (Ok (value (length u) state g))
    (Err (record { reason = NoState; place = 0 }))
    (λ h. tt) (λ h. refusal-fits NoState 0 (omega arith, omega arith))

pub evaluate-fits : (text : List ℕ) (state : ℕ) (r : Evaluation) → r ≡ evaluated (reading text) state → AnswerFits ValueFits r
evaluate-fits text state r e = subst (λ (x : Evaluation). AnswerFits ValueFits x) (sym e) (evaluated-fits (reading text) state (reading-fits text))

-- ---- list
-- no more numbers of a stretch are listed than it has
false-few : (v : ℕ → Bool) (lo k : ℕ) → length (false_from v lo k) ≤ k
unfolding false_from
false-few v lo zero = omega arith
false-few v lo (suc k) =
    let rest : length (false_from v (suc lo) k) ≤ k = false-few v (suc lo) k in
    ⊎_elim (λ (h : v lo ≡ true). rw (false-not v lo k h) (omega arith)) (λ (h : v lo ≡ false). rw (false-one v lo k h) (omega arith)) (either (v lo))

first-or-later : (l : List ℕ) (lo k i : ℕ) → 0 < k → ((j : ℕ) → get_or l j 0 < lo + k) → get_or (lo ∷ l) i 0 < lo + k
first-or-later l lo k zero p h = omega arith
first-or-later l lo k (suc j) p h = h j

-- and each lies in the stretch; 0 stands for none
false_below : (v : ℕ → Bool) (lo k i : ℕ) → 0 < lo + k → get_or (false_from v lo k) i 0 < lo + k
unfolding false_from
false_below v lo zero i h = h
false_below v lo (suc k) i h =
    ⊎_elim (λ (e : v lo ≡ true). rw (false-not v lo k e) (omega (arith, false_below v (suc lo) k i (omega arith))))
    (λ (e : v lo ≡ false). rw (false-one v lo k e) (first-or-later (false_from v (suc lo) k) lo (suc k) i (omega arith)
    (λ j. omega (arith, false_below v (suc lo) k j (omega arith)))))
    (either (v lo))

found-fits : (n : ℕ) (g : Guard) (start room : ℕ) → n ≤ flag_ceiling → start < 2 ^ n → FoundFits (writing.found (gaps_from n g start) room)
unfolding writing.found gaps_from
found-fits n g start room few h =
    let v : ℕ → Bool = λ s. value n s g in
    let most : 2 ^ n ≤ 2 ^ flag_ceiling = pow_mono few in
    let l : List ℕ = false_from v start (2 ^ n - start) in
    let many : length l ≤ 2 ^ n - start = false-few v start (2 ^ n - start) in
    let next : get_or l room 0 < start + (2 ^ n - start) = false_below v start (2 ^ n - start) room (omega arith) in
    choose-has (λ (x : Found). FoundFits x) (leb (length l) room) (found.Done (length l)) (found.More room (get_or l room 0)) (λ e. omega arith)
    (λ e. omega arith)

listed-fits : (x : Reading) (start room : ℕ) → ReadingFits x → AnswerFits FoundFits (listed x start room)
unfolding listed
listed-fits (refusal k p) start room f = refusal-fits k p f
listed-fits (guard g u) start room f =
    choose-has (λ (x : Listing). AnswerFits FoundFits x) (ltb start (2 ^ length u)) (Ok (writing.found (gaps_from (length u) g start) room))
    (Err (record { reason = NoState; place = 0 }))
    (λ h. found-fits (length u) g start room f.flags (ltb-true start (2 ^ length u) h)) (λ h. refusal-fits NoState 0 (omega arith, omega arith))

pub list-fits : (text : List ℕ) (start room : ℕ) (r : Listing) → r ≡ listed (reading text) start room → AnswerFits FoundFits r
list-fits text start room r e = subst (λ (x : Listing). AnswerFits FoundFits x) (sym e) (listed-fits (reading text) start room (reading-fits text))

-- ---- read
answer-fits : (x : Reading) (room : ℕ) → ReadingFits x → AnswerFits GuardFits (read_answer x room)
unfolding read_answer
answer-fits (refusal k p) room f = refusal-fits k p f
answer-fits (guard g u) room f =
    choose-has (λ (x : Parsed). AnswerFits GuardFits x) (leb (3 * connectives g) room) (guard_with (length u) (connectives g) (literal 0 g))
    (Err (fault SmallRoom 0))
    (λ h. record { flags = f.flags; count = f.count; root = f.root }) (λ h. refusal-fits SmallRoom 0 (omega arith, omega arith))

pub read_fits : (text : List ℕ) (room : ℕ) (r : Parsed) → r ≡ read_answer (reading text) room → AnswerFits GuardFits r
read_fits text room r e = subst (λ (x : Parsed). AnswerFits GuardFits x) (sym e) (answer-fits (reading text) room (reading-fits text))

-- ---- name
no-flag-fits : AnswerFits StretchFits (Err (fault NoFlag 0))
no-flag-fits = refusal-fits NoFlag 0 (omega arith, omega arith)

name-in-fits : (u : List Flag) (i : ℕ) → FlagsFit u → AnswerFits StretchFits (name_in u i)
unfolding name_in
name-in-fits [] i f = no-flag-fits
name-in-fits (x ∷ u) zero f = no-flag-fits
name-in-fits (x ∷ u) (suc zero) f = f.0
name-in-fits (x ∷ u) (suc (suc i)) f = name-in-fits u (suc i) f.1

named-fits : (x : Reading) (i : ℕ) → ReadingFits x → AnswerFits StretchFits (name_answer x i)
unfolding name_answer
named-fits (refusal k p) i f = refusal-fits k p f
named-fits (guard g u) i f = name-in-fits u i f.places

pub name-fits : (text : List ℕ) (i : ℕ) (r : Named) → r ≡ name_answer (reading text) i → AnswerFits StretchFits r
name-fits text i r e = subst (λ (x : Named). AnswerFits StretchFits x) (sym e) (named-fits (reading text) i (reading-fits text))
