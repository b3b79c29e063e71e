-- `steps::step::Triplet::step` meets its contract: by the entry at the pattern of where x, y and z lead.
use Prim.Native.Nat.{ℕ, ◌<◌}
use mathlib.Core.Path.{sym, ◌∙◌, subst}
use Rattle.relation.specs.clauses.Classes.{lead, entry as at}
use Rattle.steps.specs.clauses.Leading.{Patterned}
use Rattle.steps.specs.clauses.Resting.{Named}
use Rattle.steps.proofs.Stepping.{patterned, entry-below, entry-own, stepped-none, stepped-broken, stepped-named}
use Rattle.steps.proofs.step.Triplet.step.Goals as goal

pub returns-then-apart-clause-stepped : goal.returns-then-apart-clause-stepped
returns-then-apart-clause-stepped c =
    let f : ℕ → ℕ = at c.args.relation.now.of in
    let pat : Patterned (lead f c.args.self.x) (lead f c.args.self.y) (lead f c.args.self.z) 104 =
    patterned c.lead-a.ensures.leads c.lead-b.ensures.leads c.lead-c.ensures.leads (c.apart.ensures c.if-apart.true) in
    stepped-none c.args.relation.now.size c.args.self.kind c.args.self.x c.args.self.y c.args.self.z 104 c.args.relation.now.of
    c.args.relation.now.classes pat
    (entry-own c.args.self.kind c.requires.kinds)

pub returns-then-next-before-clause-stepped : goal.returns-then-next-before-clause-stepped
returns-then-next-before-clause-stepped c =
    let f : ℕ → ℕ = at c.args.relation.now.of in
    let pat : Patterned (lead f c.args.self.x) (lead f c.args.self.y) (lead f c.args.self.z)
    c.pattern_of-before.result = patterned c.lead-a.ensures.leads c.lead-b.ensures.leads c.lead-c.ensures.leads c.pattern_of-before.ensures in
    stepped-none c.args.relation.now.size c.args.self.kind c.args.self.x c.args.self.y c.args.self.z c.pattern_of-before.result c.args.relation.now.of
    c.args.relation.now.classes pat
    (sym c.after-next.ensures ∙ c.if-next-before.true)

pub returns-then-next-eq-CONTRADICTORY-clause-stepped : goal.returns-then-next-eq-CONTRADICTORY-clause-stepped
returns-then-next-eq-CONTRADICTORY-clause-stepped c =
    let f : ℕ → ℕ = at c.args.relation.now.of in
    let pat : Patterned (lead f c.args.self.x) (lead f c.args.self.y) (lead f c.args.self.z)
    c.pattern_of-before.result = patterned c.lead-a.ensures.leads c.lead-b.ensures.leads c.lead-c.ensures.leads c.pattern_of-before.ensures in
    stepped-broken c.args.relation.now.size c.args.self.kind c.args.self.x c.args.self.y c.args.self.z c.pattern_of-before.result c.args.relation.now.of
    c.args.relation.now.classes pat
    c.join.new.self.of (sym c.after-next.ensures ∙ c.if-next-eq-CONTRADICTORY.true) c.join.ensures.joined

pub hold-requires : goal.hold-requires
hold-requires c =
    record {
      pattern_bound = subst (λ (e : ℕ). e < 105) (sym c.after-next.ensures)
          (entry-below c.args.self.kind c.pattern_of-before.result (λ e. c.if-next-eq-CONTRADICTORY.false (c.after-next.ensures ∙ e)));
      x_bound = (c.requires.of-x, c.requires.of-y, c.requires.of-z);
    }

pub returns-clause-stepped : goal.returns-clause-stepped
returns-clause-stepped c =
    let f : ℕ → ℕ = at c.args.relation.now.of in
    let pat : Patterned (lead f c.args.self.x) (lead f c.args.self.y) (lead f c.args.self.z)
    c.pattern_of-before.result = patterned c.lead-a.ensures.leads c.lead-b.ensures.leads c.lead-c.ensures.leads c.pattern_of-before.ensures in
    stepped-named c.args.relation.now.size c.args.self.kind c.args.self.x c.args.self.y c.args.self.z c.pattern_of-before.result c.args.relation.now.of
    c.args.relation.now.classes pat
    c.hold.new.relation.of (λ e. c.if-next-eq-CONTRADICTORY.false (c.after-next.ensures ∙ e))
    (subst (λ (e : ℕ). Named c.args.relation.now.size e c.args.self.x c.args.self.y c.args.self.z c.args.relation.now.of c.hold.new.relation.of)
    c.after-next.ensures
    c.hold.ensures.named)
