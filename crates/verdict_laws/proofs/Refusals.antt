-- A text that is refused is refused alike by each service.
use Prim.Native.Nat.{ℕ, ◌≤◌, ◌<◌}
use mathlib.Core.Path.{◌≡◌, refl, sym, subst, ◌∙◌}
use mathlib.Core.List.{List}
use mathlib.Core.Logic.{⊎_elim, ◌↔◌}
use lib.ListN.{length}
use Rattle.notation.specs.Ceilings.{text_ceiling}
use Rattle.notation.specs.Reading.{Reading, refusal, reading}
use Rattle.notation.specs.declared.refusal.Refusal.{Refusal}
use Rattle.ground.proofs.Cases.{lt-or-ge}
use Rattle.std.specs.Prelude.{Ok, Err}
use Rattle.reading.specs.Service.{Parsed, ReadSays, read_answer, room_after, name_answer}
use Rattle.reading.proofs.Parsing.{whole-too-long}
use Rattle.evaluate.proofs.Evaluated.{evaluates-refusal}
use Rattle.list.proofs.Listed.{lists-refusal}
use Rattle.list.proofs.Complete.{lists-unique}
use Rattle.guard_check.specs.Check.{depth_ceiling, asked, Checking, ReadingSays, CheckSays}
use Rattle.guard_check.proofs.Checking.{asks-long, refused-too}
use Rattle.guard_check.proofs.Unique.{check-unique}
use Rattle.verdict_laws.specs.Together.{RefusedTogether}

-- where one verdict is what check says, it is all that check says
says-only : (text : List ℕ) (depth : ℕ) (v : Checking) → CheckSays text depth v → (r : Checking) → CheckSays text depth r ↔ (r ≡ v)
says-only text depth v h r = (λ a. check-unique text depth r v a h, λ e. subst (λ (w : Checking). CheckSays text depth w) (sym e) h)

module _ (text : List ℕ) (f : Refusal) (says : reading text ≡ refusal f.reason f.place) where
  check-long : text_ceiling < length text → (depth : ℕ) → CheckSays text depth (Err f)
  check-long h depth =
      let e : asked text depth ≡ refusal f.reason f.place = asks-long text depth h ∙ sym (whole-too-long text h) ∙ says in
      subst (λ (x : Reading). ReadingSays x depth (Err f)) (sym e) refl

  check-here : (depth : ℕ) → depth ≤ depth_ceiling → CheckSays text depth (Err f)
  check-here depth d =
      ⊎_elim (λ (h : text_ceiling < length text). check-long h depth) (λ (h : length text ≤ text_ceiling). refused-too text depth h d f says)
      (lt-or-ge text_ceiling (length text))

  read-refused : (room : List ℕ) (r : Parsed) (after : List ℕ) → ReadSays text room r after → (r ≡ Err f)
      × (after ≡ room)
  unfolding read_answer room_after
  read-refused room r after h = (rw says at h.answer, rw says at h.left)

  name-refused : (i : ℕ) → name_answer (reading text) i ≡ Err f
  unfolding name_answer
  name-refused i = rw says

  -- a refusal of reading is the answer of each service
  pub refused_says : RefusedTogether text f
  refused_says =
      record {
        read = read-refused;
        name = name-refused;
        evaluate = λ state. sym (evaluates-refusal text state f says);
        list = λ start out answer after l. lists-unique text start out answer (Err f) after out l (lists-refusal text start out f says);
        check = λ depth d. says-only text depth (Err f) (check-here depth d);
        check-long = λ h depth. says-only text depth (Err f) (check-long h depth);
      }
