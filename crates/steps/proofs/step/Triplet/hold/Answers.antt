-- `steps::step::Triplet::hold` meets its contract: three joins, one after the other.
use Prim.Native.Nat.{ℕ, ◌/◌, ◌%◌, ◌<◌}
use mathlib.Core.Path.{sym, ◌∙◌, ap, subst}
use native.Mathlib.Omega.{arith}
use lib.ListN.{get_or}
use Rattle.relation.proofs.JoinLaws.{joined-at}
use Rattle.steps.specs.Step.{Side, own-z, literal_at}
use Rattle.steps.specs.Table.{z_names}
use Rattle.steps.proofs.Placing.{x-among, y-among}
use Rattle.steps.proofs.Stepping.{literal-inside, named-three}
use Rattle.steps.proofs.step.Triplet.hold.Goals as goal

pub join-requires-2 : goal.join-requires-2
join-requires-2 c =
    let inside : c.literal_at-q.result / 2 < c.args.relation.now.size =
    subst (λ (l : ℕ). l / 2 < c.args.relation.now.size) (sym c.literal_at-q.ensures)
    (literal-inside c.args.relation.now.size c.args.self.x c.args.self.y c.args.self.z c.requires.x_bound.0 c.requires.x_bound.1 c.requires.x_bound.2
    (get_or z_names (c.args.pattern / 7 % 5) own-z)) in
    omega (arith, c.join.ensures.size)

pub join-requires-3 : goal.join-requires-3
join-requires-3 c =
    let inside : c.literal_at-r.result / 2 < c.args.relation.now.size =
    subst (λ (l : ℕ). l / 2 < c.args.relation.now.size) (sym c.literal_at-r.ensures)
    (literal-inside c.args.relation.now.size c.args.self.x c.args.self.y c.args.self.z c.requires.x_bound.0 c.requires.x_bound.1 c.requires.x_bound.2
    (get_or z_names (c.args.pattern % 7) own-z)) in
    omega (arith, c.join.ensures.size, c.join-2.ensures.size)

pub returns-clause-named : goal.returns-clause-named
returns-clause-named c =
    let lit : Side → ℕ = literal_at c.args.self.x c.args.self.y c.args.self.z in
    named-three c.args.relation.now.size c.args.pattern c.args.self.x c.args.self.y c.args.self.z c.args.relation.now.of c.join.new.self.of
    c.join-2.new.self.of c.join-3.new.self.of c.literal_at-p.result c.literal_at-q.result c.literal_at-r.result
    (c.literal_at-p.ensures ∙ ap lit (x-among (c.args.pattern / 35) (omega (arith, c.requires.pattern_bound))))
    (c.literal_at-q.ensures ∙ ap lit (y-among (c.args.pattern / 7 % 5) (omega arith)))
    c.literal_at-r.ensures
    c.join.ensures.joined
    (joined-at c.join.ensures.size c.join-2.ensures.joined)
    (joined-at (c.join-2.ensures.size ∙ c.join.ensures.size) c.join-3.ensures.joined)
