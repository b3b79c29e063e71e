-- What list answers, by its three ways: the text is refused, the start is no state, or the gaps are written.
use Prim.Native.Nat.{ℕ, ◌*◌, ◌-◌, ◌^◌, ◌≤◌, ◌<◌}
use mathlib.Core.Path.{◌≡◌, refl, ap, ◌∙◌}
use mathlib.Core.Bool.{true, false}
use mathlib.Core.List.{List}
use native.Mathlib.Omega.{arith}
use lib.ListN.{length}
use lib.Dec.{ltb}
use borrow.Author.Tests.{ltb-true}
use Rattle.notation.specs.declared.codes.Code.{Code}
use Rattle.notation.specs.Ceilings.{connective_ceiling}
use Rattle.notation.specs.Reading.{refusal, reading}
use Rattle.notation.specs.declared.refusal.Reason.TheVariants.{NoState}
use Rattle.notation.specs.declared.refusal.Refusal.{Refusal}
use Rattle.reading.specs.declared.parse.Guard as counted
use Rattle.reading.proofs.Serving as serving
use Rattle.truth.specs.clauses.Computed.{root_value, Triplets}
use Rattle.read_truth.proofs.Begun.{read_flags, read-begins, read-triplets}
use Rattle.gaps.specs.declared.writing.Found.{Found}
use Rattle.std.specs.Prelude.{Ok, Err}
use Rattle.gaps.specs.Gaps.{false_from, gaps_from}
use Rattle.gaps.specs.clauses.Rows.{Writes}
use Rattle.list.specs.Listed.{listed, filled, Lists}
use Rattle.list.proofs.OfGuard.{guard-gaps}

-- the search may be asked from a state on
pub lists-searchable : (start n : ℕ) → ltb start (2 ^ n) ≡ true → start ≤ 2 ^ n
lists-searchable start n h = let soon : start < 2 ^ n = ltb-true start (2 ^ n) h in omega arith

module _ (text : List ℕ) (start : ℕ) (out : List ℕ) where
  pub lists-refusal : (f : Refusal) → reading text ≡ refusal f.reason f.place → Lists text start out (Err f) out
  unfolding listed filled
  lists-refusal f e = record { answers = rw e refl; holds = rw e refl }

  module _ (x : counted.Guard) (codes : List Code) (xs : List ℕ) (f : serving.Found text (reading text) x codes xs) where
    pub lists-no-state : ltb start (2 ^ x.flags) ≡ false → Lists text start out (Err (record { reason = NoState; place = 0 })) out
    unfolding listed filled
    lists-no-state h =
        let late : ltb start (2 ^ length f.flags) ≡ false = rw (read_flags text x codes xs f) at h in
        record { answers = rw (f.says, late) refl; holds = rw (f.says, late) refl }

    pub lists-gaps : ltb start (2 ^ x.flags) ≡ true → (r : Found) (after : List ℕ)
        → Writes out 0 (false_from (root_value x.flags xs x.count x.root) start (2 ^ x.flags - start)) r after → Lists text start out (Ok r) after
    unfolding listed filled
    lists-gaps h r after w =
        let soon : ltb start (2 ^ length f.flags) ≡ true = rw (read_flags text x codes xs f) at h in
        let gaps : false_from (root_value x.flags xs x.count x.root) start (2 ^ x.flags - start) ≡ gaps_from (length f.flags) f.tree start =
        guard-gaps x.flags x.count x.root f.tree xs (read-begins text x codes xs f) start
        ∙ ap (λ (n : ℕ). gaps_from n f.tree start) (read_flags text x codes xs f) in
        let w' : Writes out 0 (gaps_from (length f.flags) f.tree start) r after = rw gaps at w in
        record { answers = rw (f.says, soon) (ap Ok w'.answers); holds = rw (f.says, soon) w'.holds }
