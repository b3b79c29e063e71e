use borrow.Author.Rules.{rules}
use Prim.Native.Nat.{◌≤◌, ◌<◌}
use mathlib.Core.Path.{refl, ◌∙◌}
use mathlib.Core.Logic.{⊎_elim}
use native.Mathlib.Omega.{arith}
use Rattle.relation.specs.clauses.Classes.{entry}
use Rattle.ground.proofs.Cases.{lt-or-ge}
use Rattle.relation.proofs.ClassLaws.{entry_at}
use Rattle.relation.proofs.JoinLaws.{merge-done, moved-low, moved-beyond}
use Rattle.relation.proofs.joining.merge.Goals as goal

pub loop-v-init : goal.loop-v-init
loop-v-init c = (
  search rules,
  omega arith,
  c.requires.classes.long,
  (λ u p. moved-low c.args.size (entry c.args.of.now) c.args.lo c.args.hi u c.requires.classes.canonical
      p),
  λ u p. refl,
)

pub moved_to-requires : goal.moved_to-requires
moved_to-requires c =
    omega (
      arith,
      entry_at c.loop-v.of c.loop-v.v 0 (search rules),
      c.loop-v.invariant.4 c.loop-v.v (search rules),
      c.requires.classes.canonical.lower c.loop-v.v,
      c.requires.classes.fits,
      c.requires.leaders.less,
      c.requires.leaders.inside,
    )

pub returns : goal.returns
returns c =
    merge-done c.args.size c.args.of.now c.loop-v.of c.args.lo c.args.hi c.requires.classes c.requires.leaders c.loop-v.invariant.2
    (λ u. ⊎_elim
    (λ (p : u < c.loop-v.v). c.loop-v.invariant.3 u p)
    (λ (p : c.loop-v.v ≤ u). c.loop-v.invariant.4 u p ∙ moved-beyond c.args.size (entry c.args.of.now) c.args.lo c.args.hi u c.requires.classes.canonical
    c.requires.leaders (omega arith))
    (lt-or-ge u c.loop-v.v))
