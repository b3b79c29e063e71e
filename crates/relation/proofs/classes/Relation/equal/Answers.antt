-- `relation::classes::Relation::equal` meets its contract: by the array's own sign of a contradiction, then by the two leaders.
use mathlib.Core.Path.{◌∙◌, sym, ap₂}
use lib.Dec.{eqb}
use Rattle.relation.specs.clauses.Classes.{entry}
use Rattle.relation.proofs.ClassLaws.{relation-all, relation-leads, contradictory-told}
use Rattle.relation.proofs.classes.Relation.equal.Goals as goal

pub returns-then-is_contradictory : goal.returns-then-is_contradictory
returns-then-is_contradictory c =
    c.if-is_contradictory.true ∙ sym (relation-all (entry c.args.self.now.of)
    (contradictory-told c.args.self.now.of c.is_contradictory.ensures c.if-is_contradictory.true) c.args.l c.args.m)

pub returns-else-is_contradictory : goal.returns-else-is_contradictory
returns-else-is_contradictory c =
    sym (relation-leads (entry c.args.self.now.of)
    (contradictory-told c.args.self.now.of c.is_contradictory.ensures c.if-is_contradictory.false) c.args.l c.args.m
    ∙ ap₂ eqb (sym c.lead.ensures.leads) (sym c.lead-else-is_contradictory.ensures.leads))
