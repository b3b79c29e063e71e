-- The question of a whole line: the rule, the variants joined by `|`, and `>` between them.
use Prim.Native.Nat.{ℕ, suc, ◌+◌, ◌≤◌, ◌<◌}
use native.Mathlib.Nat.{not-suc-le-zero}
use native.Mathlib.Omega.{arith}
use mathlib.Core.Path.{◌≡◌, subst}
use mathlib.Core.Bool.{false}
use mathlib.Core.List.{List, [], ◌∷◌}
use lib.ListN.{length, get_or}
use Rattle.notation.specs.Ceilings.{connective_ceiling}
use Rattle.notation.specs.Tokens.{implies}
use Rattle.notation.specs.Guard.{Guard, truth, connectives}
use Rattle.notation.specs.Triplets.{literal_ceiling, literal_of, triplet_variable, triplet_of}
use Rattle.notation.specs.clauses.Writing.{triplet_at}
use Rattle.levels.specs.clauses.Levels.{Writes}
use Rattle.levels.proofs.Written.{writes-joined}
use Rattle.building.specs.declared.spans.GuardSpan.{GuardSpan}
use Rattle.questions.specs.Questions.{or_all, any_of, whole_of, sum_of, total_of}
use Rattle.questions.specs.clauses.Laying.{LineHeld, Ready, Rooms, LayGuardAsks, LayGuardSays, Others, OthersAsk, OthersLaid, WholeAsks, WholeLaid}
use Rattle.questions.specs.declared.Built.{Built}
use Rattle.questions.proofs.Connectives.{or-all-connectives}
use Rattle.questions.proofs.Guards.{tied-room, ready}

first-sum : (rule v : Guard) (hs : List Guard) → total_of rule (v ∷ hs) ≡ connectives rule + connectives v + sum_of hs
unfolding sum_of
first-sum rule v hs = omega arith

module _ (pool : List ℕ) (spans : List GuardSpan) where
  -- the variants after the first
  others : (n : ℕ) (rule v : Guard) (hs : List Guard) → LineHeld n rule (v ∷ hs) spans pool → Others pool spans n hs
  others n rule v hs h m b =
      let two : suc (suc m) ≡ m + 2 = omega arith in
      subst (λ (k : ℕ). Ready pool spans k n (get_or hs m (truth false))) two (ready n rule (v ∷ hs) spans pool h (suc (suc m)) (omega (arith, b)))

  module _ (variants : ℕ) (out : List ℕ) where
    module _ (o₁ : List ℕ) (r₁ : Built) (x : LayGuardSays pool spans 0 out 0 o₁ r₁) where
      rule-written : (n : ℕ) (rule : Guard) (vs : List Guard) → LineHeld n rule vs spans pool → Writes 0 r₁.count out o₁ rule r₁.root
      rule-written n rule vs h = x.writes n rule (ready n rule vs spans pool h 0 (omega arith)) (omega (arith, h.fits))

      first_fits : (n : ℕ) (rule v : Guard) (hs : List Guard) → LineHeld n rule (v ∷ hs) spans pool
          → r₁.count + connectives v + sum_of hs + length hs + 1 ≤ connective_ceiling
      first_fits n rule v hs h = omega (arith, h.fits, first-sum rule v hs, (rule-written n rule (v ∷ hs) h).count)

      first-asks : (n : ℕ) (rule : Guard) (vs : List Guard) → LineHeld n rule vs spans pool → Rooms pool spans o₁
          → LayGuardAsks pool spans 1 o₁ r₁.count
      first-asks n rule [] h q = absurd (not-suc-le-zero h.some)
      first-asks n rule (v ∷ hs) h q = record {
        n = n;
        guard = v;
        ready = ready n rule (v ∷ hs) spans pool h 1 h.some;
        known = omega arith;
        rooms = q;
        fits = omega (arith, first_fits n rule v hs h);
      }

      pub asks-first : WholeAsks pool spans variants out → LayGuardAsks pool spans 1 o₁ r₁.count
      asks-first a = first-asks a.n a.rule a.vs a.line (record { pool = a.rooms.pool; spans = a.rooms.spans; out = x.room })

      module _ (o₂ : List ℕ) (r₂ : Built) (y : LayGuardSays pool spans 1 o₁ r₁.count o₂ r₂) where
        first-written : (n : ℕ) (rule v : Guard) (hs : List Guard) → LineHeld n rule (v ∷ hs) spans pool
            → Writes r₁.count r₂.count o₁ o₂ v r₂.root
        first-written n rule v hs h = y.writes n v (ready n rule (v ∷ hs) spans pool h 1 h.some) (omega (arith, first_fits n rule v hs h))

        rest-fits : (n : ℕ) (rule v : Guard) (hs : List Guard) → LineHeld n rule (v ∷ hs) spans pool
            → r₂.count + sum_of hs + length hs + 1 ≤ connective_ceiling
        rest-fits n rule v hs h = omega (arith, first_fits n rule v hs h, (first-written n rule v hs h).count)

        others-asks : (n : ℕ) (rule : Guard) (vs : List Guard) → LineHeld n rule vs spans pool → length vs ≡ variants → Rooms pool spans o₂
            → OthersAsk pool spans variants o₂ r₂
        others-asks n rule [] h e q = absurd (not-suc-le-zero h.some)
        others-asks n rule (v ∷ hs) h e q = record {
          n = n;
          hs = hs;
          ready = others n rule v hs h;
          many = omega (arith, e);
          most = omega (arith, e, h.most);
          rooms = q;
          fits = omega (arith, rest-fits n rule v hs h);
          small = (first-written n rule v hs h).small;
        }

        pub asks-others : WholeAsks pool spans variants out → OthersAsk pool spans variants o₂ r₂
        asks-others a =
            others-asks a.n a.rule a.vs a.line a.many (record { pool = a.rooms.pool; spans = a.rooms.spans; out = y.room })

        module _ (o₃ : List ℕ) (r₃ : Built) (z : OthersLaid pool spans variants o₂ r₂ o₃ r₃) where
          any-written : (n : ℕ) (rule v : Guard) (hs : List Guard) → LineHeld n rule (v ∷ hs) spans pool → length (v ∷ hs) ≡ variants
              → Writes r₁.count r₃.count o₁ o₃ (or_all v hs) r₃.root
          any-written n rule v hs h e =
              z.writes n r₁.count o₁ v hs (others n rule v hs h) (omega (arith, e)) (omega (arith, rest-fits n rule v hs h))
              (first-written n rule v hs h)

          fits : (n : ℕ) (rule : Guard) (vs : List Guard) → LineHeld n rule vs spans pool → length vs ≡ variants
              → (r₃.count < connective_ceiling) × (r₁.root ≤ literal_ceiling) × (r₃.root ≤ literal_ceiling)
          fits n rule [] h e = absurd (not-suc-le-zero h.some)
          fits n rule (v ∷ hs) h e = (
            omega (arith, first_fits n rule v hs h, (any-written n rule v hs h e).count, or-all-connectives v hs),
            (rule-written n rule (v ∷ hs) h).small,
            (any-written n rule v hs h e).small,
          )

          pub tie-fits : WholeAsks pool spans variants out
              → (r₃.count < connective_ceiling) × (r₁.root ≤ literal_ceiling) × (r₃.root ≤ literal_ceiling)
          tie-fits a = fits a.n a.rule a.vs a.line a.many

          whole-writes : (o₄ : List ℕ) (t : ℕ) → t ≡ literal_of implies (triplet_variable (r₃.count + 1))
              → o₄ ≡ triplet_at o₃ r₃.count (triplet_of implies r₁.root r₃.root)
              → (n : ℕ) (rule : Guard) (vs : List Guard) → LineHeld n rule vs spans pool → length vs ≡ variants
              → Writes 0 (r₃.count + 1) out o₄ (whole_of rule vs) t
          unfolding whole_of any_of
          whole-writes o₄ t e₁ e₂ n rule [] h e = absurd (not-suc-le-zero h.some)
          whole-writes o₄ t e₁ e₂ n rule (v ∷ hs) h e =
              rw (e₁, e₂)
              (writes-joined implies 0 r₁.count r₃.count out o₁ o₃ rule (or_all v hs) r₁.root r₃.root (rule-written n rule (v ∷ hs) h)
              (any-written n rule v hs h e) (fits n rule (v ∷ hs) h e).0 z.room)

          pub whole-laid : (o₄ : List ℕ) (t : ℕ) → t ≡ literal_of implies (triplet_variable (r₃.count + 1))
              → o₄ ≡ triplet_at o₃ r₃.count (triplet_of implies r₁.root r₃.root)
              → WholeLaid pool spans variants out o₄ (record { count = r₃.count + 1; root = t })
          whole-laid o₄ t e₁ e₂ = record {
            room = tied-room o₃ o₄ r₃.count (triplet_of implies r₁.root r₃.root) e₂ z.room;
            writes = λ n rule vs h e. whole-writes o₄ t e₁ e₂ n rule vs h e;
          }
