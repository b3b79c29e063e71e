-- What evaluate answers, by its three ways: the text is refused, the number is no state, or the guard has its value.
use Prim.Native.Nat.{ℕ, ◌^◌}
use mathlib.Core.Path.{◌≡◌, refl, ap, ◌∙◌}
use mathlib.Core.Bool.{Bool, true, false}
use mathlib.Core.List.{List}
use lib.ListN.{length}
use lib.Dec.{ltb}
use Rattle.notation.specs.declared.codes.Code.{Code}
use Rattle.notation.specs.Reading.{refusal, reading}
use Rattle.notation.specs.declared.refusal.Reason.TheVariants.{NoState}
use Rattle.notation.specs.declared.refusal.Refusal.{Refusal}
use Rattle.reading.specs.declared.parse.Guard as counted
use Rattle.reading.proofs.Serving.{Found}
use Rattle.truth.specs.Value.{value}
use Rattle.truth.specs.clauses.Computed.{root_value}
use Rattle.std.specs.Prelude.{Ok, Err}
use Rattle.evaluate.specs.Evaluated.{Evaluation, evaluated}
use Rattle.truth.proofs.Written.{written-value}
use Rattle.read_truth.proofs.Begun.{read_flags, read-begins}

module _ (text : List ℕ) (state : ℕ) where
  pub evaluates-refusal : (f : Refusal) → reading text ≡ refusal f.reason f.place → Err f ≡ evaluated (reading text) state
  unfolding evaluated
  evaluates-refusal f e = rw e refl

  module _ (x : counted.Guard) (codes : List Code) (xs : List ℕ) (f : Found text (reading text) x codes xs) where
    pub evaluates-no-state : ltb state (2 ^ x.flags) ≡ false → Err (record { reason = NoState; place = 0 }) ≡ evaluated (reading text) state
    unfolding evaluated
    evaluates-no-state h =
        let late : ltb state (2 ^ length f.flags) ≡ false = rw (read_flags text x codes xs f) at h in
        rw (f.says, late) refl

    pub evaluates-value : ltb state (2 ^ x.flags) ≡ true → (b : Bool) → b ≡ root_value x.flags xs x.count x.root state → Ok b
        ≡ evaluated (reading text) state
    unfolding evaluated
    evaluates-value h b e =
        let soon : ltb state (2 ^ length f.flags) ≡ true = rw (read_flags text x codes xs f) at h in
        let v : b ≡ value (length f.flags) state f.tree =
        e
        ∙ written-value x.flags x.count x.root f.tree xs (read-begins text x codes xs f) state
        ∙ ap (λ (n : ℕ). value n state f.tree) (read_flags text x codes xs f) in
        rw (f.says, soon) (ap Ok v)

-- no second answer satisfies evaluate's statement
pub evaluate-unique : (text : List ℕ) (state : ℕ) (r s : Evaluation) → r ≡ evaluated (reading text) state → s ≡ evaluated (reading text) state
    → r ≡ s
evaluate-unique text state r s a b = cc
