-- The question of a pair: rule, v and w laid one after the other, and tied.
use Prim.Native.Nat.{ℕ, ◌+◌, ◌*◌, ◌≤◌, ◌<◌}
use native.Mathlib.Omega.{arith}
use mathlib.Core.Path.{◌≡◌, refl, ap, sym, ◌∙◌}
use mathlib.Core.List.{List}
use lib.ListN.{length}
use Rattle.notation.specs.Ceilings.{connective_ceiling}
use Rattle.notation.specs.Tokens.{Sign, implies, and}
use Rattle.notation.specs.Guard.{Guard, negated, joined, connectives}
use Rattle.notation.specs.Triplets.{literal_ceiling, literal_of, triplet_variable, triplet_of, negation}
use Rattle.notation.specs.clauses.Writing.{signed, triplet_at}
use Rattle.levels.specs.clauses.Levels.{Writes}
use Rattle.building.specs.declared.spans.GuardSpan.{GuardSpan}
use Rattle.questions.proofs.Written.{own-small, writes-negated}
use Rattle.levels.proofs.Written.{writes-joined}
use Rattle.questions.specs.Questions.{apart, guard_at}
use Rattle.questions.specs.clauses.Laying.{LineHeld, Rooms, LayGuardAsks, LayGuardSays, PairAsks, PairLaid}
use Rattle.questions.specs.declared.Built.{Built}
use Rattle.questions.proofs.Guards.{tied-room, ready, pair_fits}

signed-negation : (l : ℕ) → signed l 1 ≡ negation l
unfolding signed negation
signed-negation l = refl

-- a literal of a triplet within the ceiling, and its negation
pub tied-small : (s : Sign) (b j : ℕ) → b ≡ literal_of s (triplet_variable j) → j ≤ connective_ceiling → b ≤ literal_ceiling
tied-small s b j e h = rw e (own-small s j h)

pub flipped-small : (m b s : ℕ) → m ≡ signed b s → b ≤ literal_ceiling → m ≤ literal_ceiling
unfolding signed
flipped-small m b s e h = rw e (omega arith)

-- what has been laid one after the other, tied
pair-writes : (rule v w : Guard) (c₁ c₂ c₃ : ℕ) (o o₁ o₂ o₃ o₄ : List ℕ) (l r s m : ℕ)
    → Writes 0 c₁ o o₁ rule l → Writes c₁ c₂ o₁ o₂ v r → Writes c₂ c₃ o₂ o₃ w s → c₃ + 1 < connective_ceiling
    → length o₃ ≡ 3 * connective_ceiling → o₄ ≡ triplet_at o₃ c₃ (triplet_of and r s)
    → m ≡ negation (literal_of and (triplet_variable (c₃ + 1)))
    → Writes 0 (c₃ + 1 + 1) o (triplet_at o₄ (c₃ + 1) (triplet_of implies l m)) (apart rule v w) (literal_of implies (triplet_variable (c₃ + 1 + 1)))
unfolding apart
pair-writes rule v w c₁ c₂ c₃ o o₁ o₂ o₃ o₄ l r s m x y z room long e q =
    let t : ℕ = literal_of and (triplet_variable (c₃ + 1)) in
    let both : Writes c₁ (c₃ + 1) o₁ o₄ (joined and v w) t = rw e (writes-joined and c₁ c₂ c₃ o₁ o₂ o₃ v w r s y z (omega arith) long) in
    let not-both : Writes c₁ (c₃ + 1) o₁ o₄ (negated (joined and v w)) m = rw q (writes-negated c₁ (c₃ + 1) o₁ o₄ (joined and v w) t both) in
    writes-joined implies 0 c₁ (c₃ + 1) o o₁ o₄ rule (negated (joined and v w)) l m x not-both room
    (tied-room o₃ o₄ c₃ (triplet_of and r s) e long)

module _ (pool : List ℕ) (spans : List GuardSpan) (i j : ℕ) (out : List ℕ) (a : PairAsks pool spans i j out) where
  fits : (n : ℕ) (rule : Guard) (vs : List Guard) → LineHeld n rule vs spans pool → j ≤ length vs
      → connectives rule + connectives (guard_at rule vs i) + connectives (guard_at rule vs j) + 2 ≤ connective_ceiling
  fits n rule vs h b = omega (arith, pair_fits rule vs i j a.first a.second b, h.fits)

  -- that of the line which is asked for
  own : connectives a.rule + connectives (guard_at a.rule a.vs i) + connectives (guard_at a.rule a.vs j) + 2 ≤ connective_ceiling
  own = fits a.n a.rule a.vs a.line a.last

  rooms-of : (o : List ℕ) → length o ≡ 3 * connective_ceiling → Rooms pool spans o
  rooms-of o h = record { pool = a.rooms.pool; spans = a.rooms.spans; out = h }

  module _ (o₁ : List ℕ) (r₁ : Built) (x : LayGuardSays pool spans 0 out 0 o₁ r₁) where
    rule-written : (n : ℕ) (rule : Guard) (vs : List Guard) → LineHeld n rule vs spans pool → j ≤ length vs
        → Writes 0 r₁.count out o₁ rule r₁.root
    rule-written n rule vs h b = x.writes n rule (ready n rule vs spans pool h 0 (omega arith)) (omega (arith, fits n rule vs h b))

    pub asks-left : LayGuardAsks pool spans i o₁ r₁.count
    asks-left = record {
      n = a.n;
      guard = guard_at a.rule a.vs i;
      ready = ready a.n a.rule a.vs spans pool a.line i (omega (arith, a.second, a.last));
      known = omega (arith, a.second, a.last, a.line.most);
      rooms = rooms-of o₁ x.room;
      fits = omega (arith, own, (rule-written a.n a.rule a.vs a.line a.last).count);
    }

    module _ (o₂ : List ℕ) (r₂ : Built) (y : LayGuardSays pool spans i o₁ r₁.count o₂ r₂) where
      left-written : (n : ℕ) (rule : Guard) (vs : List Guard) → LineHeld n rule vs spans pool → j ≤ length vs
          → Writes r₁.count r₂.count o₁ o₂ (guard_at rule vs i) r₂.root
      left-written n rule vs h b =
          y.writes n (guard_at rule vs i) (ready n rule vs spans pool h i (omega (arith, a.second)))
          (omega (arith, fits n rule vs h b, (rule-written n rule vs h b).count))

      pub asks-right : LayGuardAsks pool spans j o₂ r₂.count
      asks-right = record {
        n = a.n;
        guard = guard_at a.rule a.vs j;
        ready = ready a.n a.rule a.vs spans pool a.line j a.last;
        known = omega (arith, a.last, a.line.most);
        rooms = rooms-of o₂ y.room;
        fits = omega (
          arith,
          own,
          (rule-written a.n a.rule a.vs a.line a.last).count,
          (left-written a.n a.rule a.vs a.line a.last).count,
        );
      }

      module _ (o₃ : List ℕ) (r₃ : Built) (z : LayGuardSays pool spans j o₂ r₂.count o₃ r₃) where
        right-written : (n : ℕ) (rule : Guard) (vs : List Guard) → LineHeld n rule vs spans pool → j ≤ length vs
            → Writes r₂.count r₃.count o₂ o₃ (guard_at rule vs j) r₃.root
        right-written n rule vs h b =
            z.writes n (guard_at rule vs j) (ready n rule vs spans pool h j b)
            (omega (arith, fits n rule vs h b, (rule-written n rule vs h b).count, (left-written n rule vs h b).count))

        pub count_fits : r₃.count + 2 ≤ connective_ceiling
        count_fits =
            omega (
              arith,
              own,
              (rule-written a.n a.rule a.vs a.line a.last).count,
              (left-written a.n a.rule a.vs a.line a.last).count,
              (right-written a.n a.rule a.vs a.line a.last).count,
            )

        pub smalls : (r₁.root ≤ literal_ceiling) × (r₂.root ≤ literal_ceiling) × (r₃.root ≤ literal_ceiling)
        smalls = (
          (rule-written a.n a.rule a.vs a.line a.last).small,
          (left-written a.n a.rule a.vs a.line a.last).small,
          (right-written a.n a.rule a.vs a.line a.last).small,
        )

        -- the table keeps its room where something is tied behind them
        pub both-room : (o₄ : List ℕ) (s : Sign) (left right : ℕ) → o₄ ≡ triplet_at o₃ r₃.count (triplet_of s left right)
            → length o₄ ≡ 3 * connective_ceiling
        both-room o₄ s left right e = tied-room o₃ o₄ r₃.count (triplet_of s left right) e z.room

        pub pair-laid : (o₄ o₅ : List ℕ) (m b t : ℕ)
            → b ≡ literal_of and (triplet_variable (r₃.count + 1)) → o₄ ≡ triplet_at o₃ r₃.count (triplet_of and r₂.root r₃.root)
            → m ≡ signed b 1
            → t ≡ literal_of implies (triplet_variable (r₃.count + 1 + 1)) → o₅ ≡ triplet_at o₄ (r₃.count + 1) (triplet_of implies r₁.root m)
            → PairLaid pool spans i j out o₅ (record { count = r₃.count + 2; root = t })
        pair-laid o₄ o₅ m b t e₁ e₂ e₃ e₄ e₅ = record {
          room = tied-room o₄ o₅ (r₃.count + 1) (triplet_of implies r₁.root m) e₅ (both-room o₄ and r₂.root r₃.root e₂);
          writes = λ n rule vs h k.
              let two : r₃.count + 1 + 1 ≡ r₃.count + 2 = omega arith in
              let not-both : m ≡ negation (literal_of and (triplet_variable (r₃.count + 1))) = e₃ ∙ signed-negation b ∙ ap negation e₁ in
              rw (e₅, e₄, sym two)
              (pair-writes rule (guard_at rule vs i) (guard_at rule vs j) r₁.count r₂.count r₃.count out o₁ o₂ o₃ o₄
              r₁.root r₂.root r₃.root m
              (rule-written n rule vs h k) (left-written n rule vs h k) (right-written n rule vs h k) (omega (arith, count_fits)) z.room e₂ not-both);
        }
