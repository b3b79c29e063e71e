-- `lines::question::question_of` meets its contract: each answer is that of the way the first three bytes go.
use mathlib.Core.Path.{refl, sym, ◌∙◌, ap}
use Prim.Native.Nat.{ℕ, ◌+◌, ◌*◌}
use native.Mathlib.Omega.{arith}
use Rattle.lines.specs.Question.{asks, digit_value}
use Rattle.lines.proofs.Asking.{digit-told, digit-small, digit-untold, no_digit, one-digit, no_second, no-space, two_digits}
use Rattle.lines.proofs.question.question_of.Goals as goal

pub returns-in_err-high : goal.returns-in_err-high
returns-in_err-high c =
    c.from_residual.ensures ∙ no_digit c.args.line.now _ _ c.byte_at.ensures refl (digit-untold _ (sym c.digit.ensures ∙ c.in_err-high.was))

pub returns-then-second-eq32 : goal.returns-then-second-eq32
returns-then-second-eq32 c =
    let high = digit-told _ _ (sym c.digit.ensures ∙ c.in_ok-high.was) in
    ap (λ (d : ℕ). asks d 2) (sym high.1) ∙ one-digit c.args.line.now _ _ c.byte_at.ensures c.byte_at-second.ensures high.0 c.if-second-eq32.true

pub returns-in_err-low : goal.returns-in_err-low
returns-in_err-low c =
    let high = digit-told _ _ (sym c.digit.ensures ∙ c.in_ok-high.was) in
    let low = digit-untold _ (sym c.digit-2.ensures ∙ c.in_err-low.was) in
    c.from_residual-in_err-low.ensures
    ∙ no_second c.args.line.now _ _ c.byte_at.ensures c.byte_at-second.ensures high.0 c.if-second-eq32.false low

pub overflow_mul-result : goal.overflow_mul-result
overflow_mul-result c =
    let high = digit-small _ _ (sym c.digit.ensures ∙ c.in_ok-high.was) in
    let byte = c.byte_at.type_inv in omega arith

pub overflow_add-result : goal.overflow_add-result
overflow_add-result c =
    let high = digit-small _ _ (sym c.digit.ensures ∙ c.in_ok-high.was) in
    let low = digit-small _ _ (sym c.digit-2.ensures ∙ c.in_ok-low.was) in
    let first = c.byte_at.type_inv in
    let second = c.byte_at-second.type_inv in omega arith

pub returns-then-byte_at-ne32 : goal.returns-then-byte_at-ne32
returns-then-byte_at-ne32 c =
    let high = digit-told _ _ (sym c.digit.ensures ∙ c.in_ok-high.was) in
    let low = digit-told _ _ (sym c.digit-2.ensures ∙ c.in_ok-low.was) in
    no-space c.args.line.now _ _ c.byte_at.ensures c.byte_at-second.ensures high.0 c.if-second-eq32.false low.0 _ c.byte_at-2.ensures
    c.if-byte_at-ne32.true

pub returns : goal.returns
returns c =
    let high = digit-told _ _ (sym c.digit.ensures ∙ c.in_ok-high.was) in
    let low = digit-told _ _ (sym c.digit-2.ensures ∙ c.in_ok-low.was) in
    ap (λ (d : ℕ). asks (10 * d + c.in_ok-low.low) 3) (sym high.1) ∙ ap (λ (d : ℕ). asks (10 * digit_value c.byte_at.result + d) 3) (sym low.1)
    ∙ two_digits c.args.line.now _ _ c.byte_at.ensures c.byte_at-second.ensures high.0 c.if-second-eq32.false low.0 _ c.byte_at-2.ensures
    c.if-byte_at-ne32.false
