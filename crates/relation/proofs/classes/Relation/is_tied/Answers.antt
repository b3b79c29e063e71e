-- `relation::classes::Relation::is_tied` meets its contract: in a consistent array true and false are the two literals below 2.
use Prim.Native.Nat.{ℕ, ◌*◌}
use mathlib.Core.Path.{◌∙◌, sym, ap}
use lib.Dec.{ltb}
use Rattle.relation.specs.clauses.Classes.{entry, relation}
use Rattle.relation.proofs.ClassLaws.{entry_at, relation-all, true-leads, tied-true, tied-leads, contradictory-told}
use borrow.Author.Rules.{rules}
use Rattle.relation.proofs.classes.Relation.is_tied.Goals as goal

pub returns-then-is_contradictory : goal.returns-then-is_contradictory
returns-then-is_contradictory c =
    c.if-is_contradictory.true ∙ sym (tied-true (relation (entry c.args.self.now.of)) c.args.v
    (relation-all (entry c.args.self.now.of)
    (contradictory-told c.args.self.now.of c.is_contradictory.ensures c.if-is_contradictory.true) (2 * c.args.v) 0))

pub returns-else-is_contradictory : goal.returns-else-is_contradictory
returns-else-is_contradictory c =
    ap (λ (w : ℕ). ltb w 2) (entry_at c.args.self.now.of c.args.v 0 (search rules)) ∙ sym (tied-leads (entry c.args.self.now.of) c.args.v
    (true-leads c.args.self.now.size (entry c.args.self.now.of) c.args.self.now.classes.canonical
    (contradictory-told c.args.self.now.of c.is_contradictory.ensures c.if-is_contradictory.false)))
