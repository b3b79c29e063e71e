use borrow.Author.Rules.{rules}
use Prim.Native.Nat.{ℕ, ◌*◌}
use mathlib.Core.Path.{◌≡◌}
use native.Mathlib.Omega.{arith}
use Rattle.relation.specs.clauses.Classes.{entry}
use Rattle.relation.proofs.ClassLaws.{fresh-canonical, fresh-only, fresh-done}
use Rattle.relation.proofs.classes.own_literals.Goals as goal

pub returns : goal.returns
returns c =
    let all : (u : ℕ) → entry c.loop-v.of u ≡ 2 * u = fresh-done c.loop-v.of c.loop-v.v (omega arith) c.loop-v.invariant.1 in
    record {
      classes = record { long = c.loop-v.invariant.0; fits = search rules; canonical = fresh-canonical (entry c.loop-v.of) all };
      only = fresh-only
          (entry c.loop-v.of) all;
    }
