-- No second number, and no second slice afterwards, satisfies the statement of an entry.
use Prim.Native.Nat.{ℕ}
use mathlib.Core.Path.{◌≡◌, sym, ap, ◌∙◌}
use mathlib.Core.List.{List}
use Rattle.guard_check.proofs.Unique as verdict
use Rattle.importer.specs.Packed.{packed_answer, packed_verdict}
use Rattle.importer.specs.Entries.{CheckAnswers, evaluate_number, ListAnswers, ReadAnswers, name_number}

pub check-unique : (text : List ℕ) (depth r s : ℕ) → CheckAnswers text depth r → CheckAnswers text depth s → r ≡ s
check-unique text depth r s a b =
    a.number ∙ ap (packed_answer packed_verdict) (verdict.check-unique text depth a.verdict b.verdict a.says b.says) ∙ sym b.number

pub evaluate-unique : (text : List ℕ) (state r s : ℕ) → r ≡ evaluate_number text state → s ≡ evaluate_number text state → r ≡ s
evaluate-unique text state r s a b = a ∙ sym b

pub list-unique : (text : List ℕ) (start : ℕ) (out : List ℕ) (r s : ℕ) (after later : List ℕ)
    → ListAnswers text start out r after → ListAnswers text start out s later → (r ≡ s) × (after ≡ later)
list-unique text start out r s after later a b = (a.number ∙ sym b.number, a.holds ∙ sym b.holds)

pub read-unique : (text room : List ℕ) (r s : ℕ) (after later : List ℕ) → ReadAnswers text room r after → ReadAnswers text room s later
    → (r ≡ s) × (after ≡ later)
read-unique text room r s after later a b = (a.number ∙ sym b.number, a.holds ∙ sym b.holds)

pub name-unique : (text : List ℕ) (i r s : ℕ) → r ≡ name_number text i → s ≡ name_number text i → r ≡ s
name-unique text i r s a b = a ∙ sym b
