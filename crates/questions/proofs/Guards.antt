-- A guard of a line, laid; what the guards of a line leave of the room.
use Prim.Native.Nat.{ℕ, zero, suc, ◌+◌, ◌*◌, ◌≤◌, ◌<◌}
use native.Mathlib.Nat.{not-suc-le-zero}
use native.Mathlib.Omega.{arith}
use mathlib.Core.Path.{◌≡◌}
use mathlib.Core.Bool.{false}
use mathlib.Core.List.{List}
use lib.ListN.{length, get_or, length-set}
use Rattle.notation.specs.Ceilings.{connective_ceiling}
use Rattle.notation.specs.Guard.{Guard, truth, connectives}
use Rattle.notation.specs.Triplets.{Triplet, literal_ceiling}
use Rattle.notation.specs.clauses.Writing.{triplet_at}
use Rattle.building.specs.declared.spans.GuardSpan.{GuardSpan}
use Rattle.building.specs.clauses.Held.{off_at, count_at, root_at}
use Rattle.building.specs.clauses.Moved.{LayAsks, Laid}
use Rattle.building.proofs.Laying.{held_asks, lays}
use Rattle.questions.specs.Questions.{total_of, guard_at}
use Rattle.questions.specs.clauses.Laying.{LineHeld, Rooms, Ready, LayGuardAsks, LayGuardSays}
use Rattle.questions.proofs.Connectives.{guard-connectives, whole-connectives, pair-connectives, apart-connectives}

-- a triplet that is tied leaves the table its room
pub tied-room : (o o' : List ℕ) (c : ℕ) (t : Triplet) → o' ≡ triplet_at o c t → length o ≡ 3 * connective_ceiling
    → length o' ≡ 3 * connective_ceiling
tied-room o o' c t e h = rw e (simp length-set h)

module _ (pool : List ℕ) (spans : List GuardSpan) (k : ℕ) (out : List ℕ) (before : ℕ) where
  module _ (a : LayGuardAsks pool spans k out before) where
    pub lay-asks : LayAsks pool (off_at spans k) (count_at spans k) (root_at spans k) out before
    lay-asks =
        held_asks a.n connective_ceiling (off_at spans k) (count_at spans k) (root_at spans k) before a.guard pool a.ready.few a.ready.held a.fits
        out (omega arith) a.rooms.pool a.rooms.out

    pub root-small : root_at spans k ≤ literal_ceiling
    root-small = lay-asks.small

    pub count_fits : before + count_at spans k ≤ connective_ceiling
    count_fits = lay-asks.copy.fits

  pub lay-says : (out' : List ℕ) (r : ℕ) → Laid pool (off_at spans k) (count_at spans k) (root_at spans k) out before out' r
      → LayGuardSays pool spans k out before out' (record { count = before + count_at spans k; root = r })
  lay-says out' r d = record {
    room = d.copied.room;
    writes = λ n g q b. lays n connective_ceiling (off_at spans k) (count_at spans k) (root_at spans k) before g pool q.few q.held b out out' r d;
  }

-- each guard of a line stands in the pool
pub ready : (n : ℕ) (rule : Guard) (vs : List Guard) (spans : List GuardSpan) (pool : List ℕ) → LineHeld n rule vs spans pool → (k : ℕ) → k ≤ length vs
    → Ready pool spans k n (guard_at rule vs k)
ready n rule vs spans pool h k b =
    let g = h.held k b in
    record {
      few = h.few;
      held = record { within = g.within; count = g.count; root = g.root; inside = omega (arith, g.inside, h.fits); stands = g.stands };
    }

-- and finds room in a table that nothing has been laid in
pub asks-alone : (n : ℕ) (rule : Guard) (vs : List Guard) (spans : List GuardSpan) (pool out : List ℕ) → LineHeld n rule vs spans pool → Rooms pool spans out
    → (k : ℕ) → k ≤ length vs → LayGuardAsks pool spans k out 0
asks-alone n rule vs spans pool out h q k b = record {
  n = n;
  guard = guard_at rule vs k;
  ready = ready n rule vs spans pool h k b;
  known = omega (arith, h.most);
  rooms = q;
  fits = omega (arith, guard-connectives rule vs k, h.fits);
}

-- two variants of a line and its rule leave room for the two connectives of their question
pub pair_fits : (rule : Guard) (vs : List Guard) (i j : ℕ) → 0 < i → i < j → j ≤ length vs
    → connectives rule + connectives (guard_at rule vs i) + connectives (guard_at rule vs j) + 2 ≤ total_of rule vs + length vs
pair_fits rule vs zero j p q b = absurd (not-suc-le-zero p)
pair_fits rule vs (suc i) zero p q b = absurd (not-suc-le-zero q)
pair_fits rule vs (suc i) (suc j) p q b =
    omega (
      arith,
      whole-connectives rule vs (omega arith),
      pair-connectives rule vs i j (omega arith) (omega arith),
      apart-connectives rule (get_or vs i (truth false)) (get_or vs j (truth false)),
    )
