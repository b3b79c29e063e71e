-- `steps::after` meets its contract: each of the 210 entries, as the code has them, passes the rule's test.
use mathlib.Core.Path.{refl}
use borrow.Author.Rules.{rules}
use Rattle.truth.specs.Connectives.{table as truth-table, gate}
use Rattle.steps.specs.Table.{entry, follows, pattern}
use Rattle.steps.specs.declared.TheConstants.{AFTER}
use Rattle.steps.proofs.Rule.{right, table}
use Rattle.steps.proofs.after.Goals as goal

pub returns : goal.returns
unfolding right entry follows pattern gate truth-table
returns c = table AFTER refl refl c.args.kind c.args.pattern (search rules) (search rules)
