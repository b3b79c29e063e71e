-- `questions::lay_others` meets its contract: after each step one variant more is joined.
use Rattle.questions.specs.clauses.Laying.{Grown}
use Rattle.questions.proofs.lay_others.Given as goal

abbrev pub invariant-loop-k : goal.invariant-loop-k
invariant-loop-k l = Grown l.pool l.spans l.variants l.initial.out (record { count = l.initial.count; root = l.initial.root }) l.out l.count l.root l.k
