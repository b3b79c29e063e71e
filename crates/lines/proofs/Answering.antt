-- The answer to a line is put together as it is printed.
use Prim.Native.Nat.{ℕ, ◌*◌, ◌-◌}
use native.Mathlib.Omega.{arith}
use mathlib.Core.Path.{◌≡◌, sym, ap, subst}
use mathlib.Core.List.{List, [], ◌∷◌}
use lib.ListN.{length, drop, length-drop}
use lib.Seq.{take_all}
use Rattle.notation.specs.clauses.Cut.{part}
use Rattle.notation.specs.Reading.{reading}
use Rattle.notation.specs.Ceilings.{flag_ceiling}
use Rattle.notation.specs.Numbers.{number_of}
use Rattle.notation.specs.declared.refusal.Refusal.{Refusal}
use Rattle.std.specs.Prelude.{Option, Ok, Err}
use Rattle.guard_check.specs.Check.{Checking, CheckSays}
use Rattle.ground.specs.Bytes.{bytes}
use Rattle.saturation.specs.declared.verdict.Verdict.TheVariants.{Covered, Gap, Undecided}
use Rattle.lines.specs.Lines.{line_feed}
use Rattle.lines.specs.Question.{asks, question, guard_in, QuestionSays}
use Rattle.lines.specs.Printed.{decimal, valued, flags_of, answered, printed}
use Rattle.lines.specs.clauses.Put.{Puts, PutsIn, number_room, value_room, verdict_room}
use Rattle.lines.specs.Answer.{Answers}
use Rattle.lines.specs.declared.question.Question.{Question}
use Rattle.lines.proofs.Putting.{puts_then, puts-inside}

-- ---- the verdict
pub covered-put : (text : List ℕ) {a : List ℕ} {p : ℕ} {b : List ℕ} {r : ℕ} → Puts a p (bytes "covered") b r → PutsIn verdict_room a p
    (answered text (Ok Covered)) b r
unfolding answered bytes
covered-put text f = record { puts = f; within = omega (arith, f.next) }

pub undecided-put : (text : List ℕ) {a : List ℕ} {p : ℕ} {b : List ℕ} {r : ℕ} → Puts a p (bytes "undecided") b r → PutsIn verdict_room a p
    (answered text (Ok Undecided)) b r
unfolding answered bytes
undecided-put text f = record { puts = f; within = omega (arith, f.next) }

pub gap-put : (text : List ℕ) (state : ℕ) {a : List ℕ} {p : ℕ} {b : List ℕ} {q : ℕ} {c : List ℕ} {r : ℕ} → Puts a p (bytes "gap") b q
    → PutsIn (value_room * flag_ceiling) b q (valued (flags_of (reading text)) state) c r → PutsIn verdict_room a p (answered text (Ok (Gap state))) c r
unfolding answered bytes
gap-put text state f g = record { puts = puts_then f g.puts; within = omega (arith, f.next, g.within) }

pub refusal-put : (text : List ℕ) (x : Refusal) {a : List ℕ} {p : ℕ} {b : List ℕ} {q : ℕ} {c : List ℕ} {s : ℕ} {d : List ℕ} {t : ℕ}
    {e : List ℕ} {r : ℕ}
    → Puts a p (bytes "refused ") b q → PutsIn number_room b q (decimal (number_of x.reason)) c s → Puts c s (bytes " ") d t → PutsIn number_room d t
    (decimal x.place) e r
    → PutsIn verdict_room a p (answered text (Err x)) e r
unfolding answered bytes
refusal-put text x f g h i =
    record {
      puts = puts_then f (puts_then g.puts (puts_then h i.puts));
      within = omega (arith, f.next, g.within, h.next, i.within);
    }

-- what is put for a verdict is put for one equal to it
pub verdict-as : (text : List ℕ) {v w : Checking} → v ≡ w → {a : List ℕ} {p : ℕ} {b : List ℕ} {r : ℕ} → PutsIn verdict_room a p
    (answered text w) b r → PutsIn verdict_room a p (answered text v) b r
verdict-as text e {a} {p} {b} {r} f = subst (λ (x : Checking). PutsIn verdict_room a p (answered text x) b r) (sym e) f

-- ---- the whole line
pub line-put : (number : ℕ) (text : List ℕ) (v : Checking) {a : List ℕ} {p : ℕ} {b : List ℕ} {q : ℕ} {c : List ℕ} {s : ℕ} {d : List ℕ}
    {t : ℕ} {e : List ℕ} {r : ℕ}
    → PutsIn number_room a p (decimal number) b q → Puts b q (bytes " ") c s → PutsIn verdict_room c s (answered text v) d t → Puts d t
    (line_feed ∷ []) e r → Puts a p (printed number text v) e r
unfolding printed
line-put number text v f g h i = puts_then f.puts (puts_then g (puts_then h.puts i))

-- what is put for a question is the answer to the line that asks it
pub answers : (number : ℕ) (line : List ℕ) (q : Option Question) (v : Checking) (before after : List ℕ) (r : ℕ) → q ≡ question line → QuestionSays line
    q v
    → Puts before 0 (printed number (guard_in line q) v) after r → Answers number line before after r
answers number line q v before after r e s p =
    record {
      output = printed number (guard_in line q) v;
      answer = record {
        verdict = v;
        says = subst (λ (x : Option Question). QuestionSays line x v) e s;
        text = ap (λ (x : Option Question). printed number (guard_in line x) v) e;
      };
      count = omega (arith, p.next);
      inside = puts-inside (omega arith) p;
      holds = p.holds;
    }

-- the guard is what is left of the line
pub answers-guard : (number : ℕ) (line : List ℕ) (depth start : ℕ) (v : Checking) (before after : List ℕ) (r : ℕ) → asks depth start ≡ question
    line
    → CheckSays (part start (length line) line) depth v → Puts before 0 (printed number (part start (length line) line) v) after r → Answers number line
    before after r
answers-guard number line depth start v before after r e s p =
    let rest : part start (length line) line ≡ drop start line = take_all (length line - start) (drop start line) (rw length-drop (omega arith)) in
    answers number line (asks depth start) v before after r e
    (subst (λ (g : List ℕ). CheckSays g depth v) rest s)
    (subst (λ (g : List ℕ). Puts before 0 (printed number g v) after r) rest p)
