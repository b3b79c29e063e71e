-- `relation::joining::join` meets its contract: by where the two literals lead, and which leader is the lower.
use Prim.Native.Nat.{ℕ, ◌/◌, ◌<◌, ◌≤◌}
use mathlib.Core.Path.{◌≡◌, ◌∙◌, sym, ap}
use native.Mathlib.Omega.{arith}
use Rattle.relation.specs.clauses.Classes.{entry}
use Rattle.relation.proofs.ClassLaws.{relation-all, leads-same, contradictory-told}
use Rattle.relation.proofs.JoinLaws.{joined-none, joined-broken, joined-leads, joined-turned, leaders-of}
use Rattle.relation.proofs.classes.Relation.join.Goals as goal

below : {a b : ℕ} → (a ≡ b → ⊥) → b ≤ a → b < a
below {a} {b} d h = omega arith

pub returns-then-is_contradictory-clause-joined : goal.returns-then-is_contradictory-clause-joined
returns-then-is_contradictory-clause-joined c =
    joined-none c.args.self.now.size c.args.self.now.of c.args.l c.args.m c.args.self.now.classes
    (relation-all (entry c.args.self.now.of) (contradictory-told c.args.self.now.of c.is_contradictory.ensures c.if-is_contradictory.true) c.args.l c.args.m)

pub returns-then-a-b-clause-joined : goal.returns-then-a-b-clause-joined
returns-then-a-b-clause-joined c =
    joined-none c.args.self.now.size c.args.self.now.of c.args.l c.args.m c.args.self.now.classes
    (leads-same (entry c.args.self.now.of) c.args.l c.args.m (sym c.lead-a.ensures.leads ∙ c.if-a-b.true ∙ c.lead-b.ensures.leads))

pub returns-then-a-b-2-clause-joined : goal.returns-then-a-b-2-clause-joined
returns-then-a-b-2-clause-joined c =
    joined-broken c.args.self.now.size c.args.self.now.of c.args.l c.args.m c.args.self.now.classes c.requires.0
    (ap (λ (w : ℕ). w / 2) (sym c.lead-a.ensures.leads) ∙ c.if-a-b-2.true ∙ ap (λ (w : ℕ). w / 2) c.lead-b.ensures.leads)
    (λ e. c.if-a-b.false (c.lead-a.ensures.leads ∙ e ∙ sym c.lead-b.ensures.leads))

pub merge-requires : goal.merge-requires
merge-requires c =
    let k = c.args.self.now.classes in
    record {
      classes = k;
      leaders = leaders-of c.args.self.now.size (entry c.args.self.now.of) c.args.l c.args.m c.lead-a.result c.lead-b.result k.canonical
          (contradictory-told c.args.self.now.of c.is_contradictory.ensures c.if-is_contradictory.false) c.lead-a.ensures.leads
          c.lead-b.ensures.leads c.if-a-b-3.true c.requires.1;
    }

pub returns-then-a-b-3-clause-joined : goal.returns-then-a-b-3-clause-joined
returns-then-a-b-3-clause-joined c =
    joined-leads c.args.self.now.size c.args.self.now.of c.merge.new.of c.args.l c.args.m c.lead-a.result c.lead-b.result
    c.args.self.now.classes c.lead-a.ensures.leads c.lead-b.ensures.leads c.merge.ensures

pub merge-requires-2 : goal.merge-requires-2
merge-requires-2 c =
    let k = c.args.self.now.classes in
    record {
      classes = k;
      leaders = leaders-of c.args.self.now.size (entry c.args.self.now.of) c.args.m c.args.l c.lead-b.result c.lead-a.result k.canonical
          (contradictory-told c.args.self.now.of c.is_contradictory.ensures c.if-is_contradictory.false) c.lead-b.ensures.leads
          c.lead-a.ensures.leads (below c.if-a-b-2.false c.if-a-b-3.false) c.requires.0;
    }

pub returns-clause-joined : goal.returns-clause-joined
returns-clause-joined c =
    joined-turned c.args.self.now.size c.args.self.now.of c.merge-2.new.of c.args.l c.args.m
    (joined-leads c.args.self.now.size c.args.self.now.of c.merge-2.new.of c.args.m c.args.l c.lead-b.result c.lead-a.result
    c.args.self.now.classes c.lead-b.ensures.leads c.lead-a.ensures.leads c.merge-2.ensures)
