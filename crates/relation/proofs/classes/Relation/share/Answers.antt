-- `relation::sharing::share` meets its contract: a contradictory relation holds all, so that the other is what they share.
use Rattle.relation.specs.clauses.Classes.{entry, kept}
use Rattle.relation.proofs.ClassLaws.{relation-all, true-leads, contradictory-told, classes-at}
use Rattle.relation.proofs.ShareLaws.{common-first, common-second}
use Rattle.relation.proofs.classes.Relation.share.Goals as goal

pub returns-then-is_contradictory-clause-shared : goal.returns-then-is_contradictory-clause-shared
returns-then-is_contradictory-clause-shared c =
    record {
      classes = c.args.self.now.classes;
      both = common-first (kept c.args.self.now.of) (kept c.args.other.now.of)
          (relation-all (entry c.args.other.now.of)
          (contradictory-told c.args.other.now.of c.is_contradictory.ensures c.if-is_contradictory.true));
    }

pub returns-then-is_contradictory-2-clause-shared : goal.returns-then-is_contradictory-2-clause-shared
returns-then-is_contradictory-2-clause-shared c =
    record {
      classes = classes-at c.requires c.args.other.now.classes;
      both = common-second (kept c.args.self.now.of) (kept c.args.other.now.of)
          (relation-all (entry c.args.self.now.of)
          (contradictory-told c.args.self.now.of c.is_contradictory-2.ensures c.if-is_contradictory-2.true));
    }

pub intersect-requires-clause-of_value : goal.intersect-requires-clause-of_value
intersect-requires-clause-of_value c = (
  true-leads c.args.self.now.size (entry c.args.self.now.of) c.args.self.now.classes.canonical
      (contradictory-told c.args.self.now.of c.is_contradictory-2.ensures c.if-is_contradictory-2.false),
  true-leads c.args.other.now.size (entry c.args.other.now.of) c.args.other.now.classes.canonical
      (contradictory-told c.args.other.now.of c.is_contradictory.ensures c.if-is_contradictory.false),
)
