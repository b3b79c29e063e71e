use borrow.Author.Rules.{rules}
use Prim.Native.Nat.{ℕ, ◌/◌, max}
use mathlib.Core.Path.{◌≡◌, ◌∙◌, sym, ap₂, subst}
use native.Mathlib.Omega.{arith}
use lib.ListN.{get_or}
use Rattle.relation.specs.clauses.Classes.{entry}
use Rattle.relation.proofs.ClassLaws.{entry_at}
use Rattle.relation.proofs.ShareLaws.{NoneBelow, none-start, test-found, test-next, shared_last}
use Rattle.relation.proofs.sharing.shared_leader.Goals as goal

pub loop-u-init : goal.loop-u-init
loop-u-init c =
    let a-is : get_or c.args.of.now c.args.v 0 ≡ entry c.args.of.now c.args.v = entry_at c.args.of.now c.args.v 0 (search rules) in
    let b-is : get_or c.args.other.now c.args.v 0 ≡ entry c.args.other.now c.args.v = entry_at c.args.other.now c.args.v 0 (search rules)
    in
    let start : c.max-start.result ≡ max (entry c.args.of.now c.args.v / 2) (entry c.args.other.now c.args.v / 2) = c.max-start.ensures ∙ ap₂
    (λ (a b : ℕ). max (a / 2) (b / 2)) a-is b-is in (
      omega (arith, start, c.requires.lower.lower c.args.v, c.requires.lower_2.lower c.args.v),
      subst (λ (u : ℕ). NoneBelow (entry c.args.of.now) (entry c.args.other.now) c.args.v u) (sym start)
          (none-start (entry c.args.of.now) (entry c.args.other.now) c.args.v c.requires.lower.lower c.requires.lower_2.lower),
    )

pub overflow_add-s : goal.overflow_add-s
overflow_add-s c =
    omega (
      arith,
      entry_at c.args.of.now c.args.v 0 (search rules),
      entry_at c.args.of.now c.loop-u.u 0 (search rules),
      c.requires.lower.lower
          c.args.v,
      c.requires.lower.lower c.loop-u.u,
    )

pub agree-requires : goal.agree-requires
agree-requires c = (
  omega (arith, entry_at c.args.of.now c.loop-u.u 0 (search rules), c.requires.lower.lower c.loop-u.u),
  omega
      (arith, entry_at c.args.other.now c.loop-u.u 0 (search rules), c.requires.lower_2.lower c.loop-u.u),
)

pub returns-then-agree : goal.returns-then-agree
returns-then-agree c =
    test-found c.args.of.now c.args.other.now c.args.v c.loop-u.u c.agree.result (search rules) (search rules) c.loop-u-test.true
    c.loop-u.invariant.1 c.agree.ensures c.if-agree.true

pub loop-u-preserved : goal.loop-u-preserved
loop-u-preserved c = (
  search rules,
  test-next c.args.of.now c.args.other.now c.args.v c.loop-u.u c.agree.result (search rules) (search rules)
      c.loop-u-test.true c.loop-u.invariant.1 c.agree.ensures c.if-agree.false,
)

pub returns : goal.returns
returns c =
    let whole : c.loop-u.u ≡ c.args.v = omega arith in
    shared_last (entry c.args.of.now) (entry c.args.other.now) c.args.v
    (subst (λ (u : ℕ). NoneBelow (entry c.args.of.now) (entry c.args.other.now) c.args.v u) whole c.loop-u.invariant.1)
