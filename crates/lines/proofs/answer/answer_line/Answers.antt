-- `lines::answer::answer_line` meets its contract: a line that is not of the form is refused, and another is checked.
use mathlib.Core.Path.{refl, sym, ◌∙◌}
use Rattle.std.specs.Prelude.{None, Err}
use Rattle.lines.proofs.Asking.{guard-inside}
use Rattle.lines.proofs.Answering.{answers}
use Rattle.lines.proofs.answer.answer_line.Goals as goal
use Rattle.notation.specs.declared.refusal.Reason.TheVariants.{MalformedLine}

pub returns-in_default : goal.returns-in_default
returns-in_default c =
    answers c.args.number c.args.line.now None (Err (record { reason = MalformedLine; place = 0 })) c.args.out.now c.put_line.new.out
    c.put_line.result (sym c.in_default.is ∙ c.question_of.ensures) refl c.put_line.ensures

pub slice_bounds-text-count : goal.slice_bounds-text-count
slice_bounds-text-count c = guard-inside c.args.line.now c.in-Some.question (sym c.in-Some.is ∙ c.question_of.ensures)

pub slice_bounds-text-start : goal.slice_bounds-text-start
slice_bounds-text-start c = guard-inside c.args.line.now c.in-Some.question (sym c.in-Some.is ∙ c.question_of.ensures)
