-- The table that parse leaves is one of codes within their ceilings, and its flags are those of the text's guard.
use Prim.Native.Nat.{ℕ, ◌*◌, ◌≤◌, ◌<◌}
use native.Mathlib.Omega.{arith}
use mathlib.Core.Path.{◌≡◌, sym, ap, subst, ◌∙◌}
use mathlib.Core.List.{List, [], ◌∷◌, ◌++◌}
use lib.ListN.{length}
use lib.Dec.{leb}
use borrow.Author.Tests.{leb-true}
use Rattle.notation.specs.Ceilings.{text_ceiling, code_ceiling, flag_ceiling}
use Rattle.notation.specs.Tokens.{tokens}
use Rattle.notation.specs.Walk.{Flag, Outcome, refused, accepted, walk, operand}
use Rattle.notation.specs.Guard.{Guard}
use Rattle.notation.specs.Grammar.{tree}
use Rattle.notation.specs.Reading.{Reading, refusal, judged, reading}
use Rattle.notation.specs.clauses.Codes.{start_of, end_of, code_in, flag_at, flags_in}
use Rattle.notation.specs.declared.codes.Code.{Code}
use Rattle.notation.specs.declared.refusal.Reason.TheVariants.{LongText}
use Rattle.notation.specs.declared.refusal.Refusal.{Refusal}
use Rattle.reading.specs.declared.parse.Guard as counted
use Rattle.notation.proofs.Coding.{flags-split}
use Rattle.reading.proofs.Serving.{Found}
use Rattle.reading.proofs.Places.{choose-has, FlagsFit, OutcomeFits, text-fits}
use Rattle.lines.specs.Printed.{valued, flags_of}
use Rattle.lines.specs.clauses.Put.{PutsIn, CodeTable, value_room}
use Rattle.lines.proofs.Putting.{puts_none}

-- ---- codes are within their ceiling
judged-fits : (o : Outcome) (g : Guard) → OutcomeFits o → FlagsFit (flags_of (judged o g))
unfolding judged
judged-fits (refused k p) g f = tt
judged-fits (accepted u m) g f = f

reading-fits : (text : List ℕ) → FlagsFit (flags_of (reading text))
unfolding reading
reading-fits text =
    choose-has (λ (x : Reading). FlagsFit (flags_of x)) (leb (length text) text_ceiling) (judged (walk operand 0 [] 0 (tokens text)) (tree (tokens text)))
    (refusal LongText text_ceiling)
    (λ h. judged-fits (walk operand 0 [] 0 (tokens text)) (tree (tokens text)) (text-fits text (leb-true (length text) text_ceiling h)))
    (λ h. tt)

after-fits : (v w : List Flag) (f : Flag) → FlagsFit (v ++ (f ∷ w)) → length f.name ≤ code_ceiling
after-fits [] w f h = h.0.1
after-fits (g ∷ v) w f h = after-fits v w f h.1

code-short : (text : List ℕ) (codes : List Code) (k i : ℕ) → FlagsFit (flags_in text codes k) → i < k → length (code_in text codes i) ≤ code_ceiling
code-short text codes k i f h =
    let r = flags-split text codes i k h in
    after-fits (flags_in text codes i) r.0 (flag_at text (start_of codes i) (end_of codes i)) (subst (λ (u : List Flag). FlagsFit u) r.1 f)

-- ---- what parse leaves
module _ (text : List ℕ) (x : counted.Guard) (codes : List Code) (out : List ℕ) (f : Found text (reading text) x codes out) where
  count-is : x.flags ≡ length f.flags
  count-is = rw f.counts

  table-flags : flags_in text codes x.flags ≡ flags_of (reading text)
  table-flags = ap (flags_in text codes) count-is ∙ f.read.flags ∙ sym (ap flags_of f.says)

  pub parsed-table : CodeTable text codes x.flags
  parsed-table =
      record {
        in_text = rw count-is f.read.in_text;
        few = rw count-is f.read.few;
        short = λ i h. code-short text codes x.flags i (subst (λ (u : List Flag). FlagsFit u) (sym table-flags) (reading-fits text)) h;
      }

  pub parsed-put : (state : ℕ) (before : List ℕ) (at : ℕ) (after : List ℕ) (r : ℕ)
      → PutsIn (value_room * x.flags) before at (valued (flags_in text codes x.flags) state) after r
      → PutsIn (value_room * flag_ceiling) before at (valued (flags_of (reading text)) state) after r
  parsed-put state before at after r p =
      record {
        puts = rw table-flags at p.puts;
        within = omega (arith, p.within, parsed-table.few);
      }

-- where the text is refused, nothing is put
pub refused-put : (text : List ℕ) (f : Refusal) → reading text ≡ refusal f.reason f.place → (state : ℕ) (before : List ℕ) (at : ℕ)
    → PutsIn (value_room * flag_ceiling) before at (valued (flags_of (reading text)) state) before at
unfolding valued
refused-put text f e state before at = rw e (record { puts = puts_none before at; within = omega arith })
