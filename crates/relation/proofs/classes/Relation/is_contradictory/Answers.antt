-- `relation::classes::Relation::is_contradictory` meets its contract: the array says it where true leads.
use Rattle.relation.specs.clauses.Classes.{entry}
use Rattle.relation.proofs.ClassLaws.{contradictory-is}
use Rattle.relation.proofs.classes.Relation.is_contradictory.Goals as goal

pub returns : goal.returns
returns c =
    contradictory-is (entry c.args.self.now.of)
