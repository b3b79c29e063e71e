use borrow.Author.Rules.{rules}
use Prim.Native.Nat.{ℕ, ◌*◌, ◌-◌, ◌<◌}
use mathlib.Core.Path.{◌≡◌, refl, sym, ◌∙◌, subst}
use mathlib.Core.Logic.{⊎_elim}
use native.Mathlib.Omega.{arith}
use lib.ListN.{length, set}
use lib.Seq.{get_or-set_same}
use Rattle.relation.specs.clauses.Classes.{entry}
use Rattle.relation.specs.clauses.Keeping.{SharedLeader}
use Rattle.ground.proofs.Cases.{split-eq}
use Rattle.relation.proofs.ClassLaws.{stored_other}
use Rattle.relation.proofs.ShareLaws.{shared-beyond, shared_same, shared-done}
use Rattle.relation.proofs.sharing.intersect.Goals as goal

pub loop-v-init : goal.loop-v-init
loop-v-init c = (
  search rules,
  c.requires.classes.long,
  (λ u p. refl),
  λ u p. subst (λ (w : ℕ). SharedLeader (entry c.args.of.now) (entry c.args.other.now) u w)
      (sym (c.requires.classes.canonical.beyond u p))
      (shared-beyond c.args.size (entry c.args.of.now) (entry c.args.other.now) u c.requires.classes.canonical p),
)

pub loop-v-preserved : goal.loop-v-preserved
loop-v-preserved c =
    let u : ℕ = c.loop-v.v - 1 in
    let inside : u < length c.loop-v.of = omega arith in (
      search rules,
      search rules,
      (λ j p. stored_other c.loop-v.of u c.shared_leader.result j (λ q. omega arith) ∙ c.loop-v.invariant.2 j (omega arith)),
      λ j p. ⊎_elim
          (λ (q : j ≡ u). subst (λ (i : ℕ). SharedLeader (entry c.args.of.now) (entry c.args.other.now) i
          (entry (set c.loop-v.of u c.shared_leader.result) i)) (sym q)
          (subst (λ (w : ℕ). SharedLeader (entry c.args.of.now) (entry c.args.other.now) u w)
          (sym (get_or-set_same c.loop-v.of u c.shared_leader.result (2 * u) inside))
          (shared_same (entry c.args.of.now) (entry c.loop-v.of) (entry c.args.other.now) u c.shared_leader.result
          (λ i h. c.loop-v.invariant.2 i (omega arith)) c.shared_leader.ensures)))
          (λ (q : j ≡ u → ⊥). subst (λ (w : ℕ). SharedLeader (entry c.args.of.now) (entry c.args.other.now) j w)
          (sym (stored_other c.loop-v.of u c.shared_leader.result j q)) (c.loop-v.invariant.3 j (omega arith)))
          (split-eq j u),
    )

pub returns : goal.returns
returns c =
    shared-done c.args.size c.args.of.now c.args.other.now c.loop-v.of c.requires.classes c.requires.classes_2 c.requires.of_value.0
    c.requires.of_value.1 c.loop-v.invariant.1
    (λ u. c.loop-v.invariant.3 u (omega arith))
