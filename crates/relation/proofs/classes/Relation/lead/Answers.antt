-- `relation::classes::Relation::lead` meets its contract: an entry of no higher variable, turned.
use Prim.Native.Nat.{ℕ, ◌/◌}
use mathlib.Core.Path.{◌≡◌, ◌∙◌, ap}
use native.Mathlib.Omega.{arith}
use lib.ListN.{get_or}
use Rattle.notation.specs.clauses.Writing.{signed}
use Rattle.relation.specs.clauses.Classes.{entry, lead}
use Rattle.relation.proofs.LiteralLaws.{signed-half}
use Rattle.relation.proofs.ClassLaws.{entry_at}
use borrow.Author.Rules.{rules}
use Rattle.relation.proofs.classes.Relation.lead.Goals as goal

pub flipped-requires : goal.flipped-requires
flipped-requires c =
    omega (
      arith,
      entry_at c.args.self.now.of (c.args.l / 2) 0 (search rules),
      c.args.self.now.classes.canonical.lower (c.args.l / 2),
    )

pub returns : goal.returns
unfolding lead
returns c =
    let there : get_or c.args.self.now.of (c.args.l / 2) 0 ≡ entry c.args.self.now.of (c.args.l / 2) =
    entry_at c.args.self.now.of (c.args.l / 2) 0 (search rules) in
    let leads : c.flipped.result ≡ lead (entry c.args.self.now.of) c.args.l = c.flipped.ensures ∙ ap (λ (w : ℕ). signed w c.args.l) there in
    record {
      leads = leads;
      lower = omega (
        arith,
        leads,
        signed-half (entry c.args.self.now.of (c.args.l / 2)) c.args.l,
        c.args.self.now.classes.canonical.lower (c.args.l / 2),
      );
    }
