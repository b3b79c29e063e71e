use Prim.Native.Nat.{ℕ, ◌+◌, ◌*◌}
use mathlib.Core.Path.{◌≡◌, ◌∙◌, sym, ap}
use native.Mathlib.Omega.{arith}
use lib.ListN.{get_or}
use lib.Dec.{eqb}
use Rattle.ground.specs.Choice.{choose}
use Rattle.relation.specs.clauses.Classes.{entry, own}
use Rattle.relation.proofs.ClassLaws.{entry_at, contradictory-told}
use Rattle.relation.proofs.RankLaws.{own-none, own-most, test-most, test-chosen, counted-on, rank-contradictory, rank-consistent}
use Rattle.relation.proofs.classes.Relation.rank.Goals as goal

pub returns-then-is_contradictory : goal.returns-then-is_contradictory
returns-then-is_contradictory c =
    sym (rank-contradictory c.args.self.now.size (entry c.args.self.now.of)
    (contradictory-told c.args.self.now.of c.is_contradictory.ensures c.if-is_contradictory.true))

pub loop-v-init : goal.loop-v-init
loop-v-init c = omega (arith, own-none (entry c.args.self.now.of))

pub overflow_add-count : goal.overflow_add-count
overflow_add-count c =
    omega (
      arith,
      own-most c.loop-v.v (entry c.args.self.now.of),
      test-most (eqb (get_or c.args.self.now.of c.loop-v.v 0) (2 * c.loop-v.v)),
      c.from-count.ensures,
      c.args.self.now.classes.fits,
      c.loop-v.invariant,
    )

pub loop-v-preserved : goal.loop-v-preserved
loop-v-preserved c =
    counted-on c.loop-v.v (entry c.args.self.now.of) c.loop-v.count c.from-count.result c.loop-v.invariant
    (c.from-count.ensures ∙ test-chosen (eqb (get_or c.args.self.now.of c.loop-v.v 0) (2 * c.loop-v.v))
    ∙ ap (λ (w : ℕ). choose (eqb w (2 * c.loop-v.v)) 1 0) (entry_at c.args.self.now.of c.loop-v.v 0 (omega arith)))

pub returns : goal.returns
returns c =
    let whole : c.loop-v.v ≡ c.args.self.now.size = omega arith in
    c.loop-v.invariant ∙ ap (λ (n : ℕ). 1 + own n (entry c.args.self.now.of)) whole ∙ sym
    (rank-consistent c.args.self.now.size (entry c.args.self.now.of)
    (contradictory-told c.args.self.now.of c.is_contradictory.ensures c.if-is_contradictory.false))
