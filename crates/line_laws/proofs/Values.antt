-- The questions of a line by truth tables: in which states they are false.
use Prim.Native.Nat.{ℕ, zero, suc, ◌≤◌, ◌<◌}
use native.Mathlib.Omega.{arith}
use mathlib.Core.Path.{◌≡◌, refl, sym, ◌∙◌}
use mathlib.Core.Bool.{Bool, true, false, not, true≢false, false≢true}
use mathlib.Core.List.{List, [], ◌∷◌}
use mathlib.Core.Logic.{◌⊎◌, inl, inr, ⊎_elim}
use lib.ListN.{length, get_or}
use Rattle.ground.proofs.Cases.{either, never}
use Rattle.notation.specs.Tokens.{implies, or, and}
use Rattle.notation.specs.Guard.{Guard, truth, joined}
use Rattle.truth.specs.Connectives.{table}
use Rattle.truth.specs.Value.{value}
use Rattle.questions.specs.Questions.{or_all, any_of, whole_of, apart, guard_at, pair_of}
use Rattle.packs.specs.Pack.{Line}
use Rattle.line_laws.specs.Promises.{flags_of, IsState, SomeVariant, Missing, Together}

-- ---- the truth tables
implies-false : (a b : Bool) → table implies a b ≡ false → (a ≡ true) × (b ≡ false)
unfolding table
implies-false true b e = (refl, e)
implies-false false b e = absurd (true≢false e)

implies-fails : (a b : Bool) → a ≡ true → b ≡ false → table implies a b ≡ false
unfolding table
implies-fails true b p q = q
implies-fails false b p q = absurd (false≢true p)

or-true : (a b : Bool) → table or a b ≡ true → (a ≡ true) ⊎ (b ≡ true)
unfolding table
or-true true b e = inl refl
or-true false b e = inr e

or_left : (a b : Bool) → a ≡ true → table or a b ≡ true
unfolding table
or_left true b p = refl
or_left false b p = absurd (false≢true p)

or_right : (a b : Bool) → b ≡ true → table or a b ≡ true
unfolding table
or_right true b p = refl
or_right false b p = p

not-and-false : (a b : Bool) → not (table and a b) ≡ false → (a ≡ true) × (b ≡ true)
unfolding table
not-and-false true true e = (refl, refl)
not-and-false true false e = absurd (true≢false e)
not-and-false false b e = absurd (true≢false e)

not-and-fails : (a b : Bool) → a ≡ true → b ≡ true → not (table and a b) ≡ false
unfolding table
not-and-fails true true p q = refl
not-and-fails true false p q = absurd (false≢true q)
not-and-fails false b p q = absurd (false≢true p)

-- ---- one of many
module _ (n s : ℕ) where
  -- a guard of a list is true
  abbrev SomeOf : List Guard → Type 0
  SomeOf hs = (m : ℕ) × (m < length hs) × (value n s (get_or hs m (truth false)) ≡ true)

  or_some : (g : Guard) (hs : List Guard) → value n s (or_all g hs) ≡ true → (value n s g ≡ true) ⊎ SomeOf hs
  unfolding or_all value
  or_some g [] e = inl e
  or_some g (h ∷ hs) e =
      ⊎_elim
      (λ (p : table or (value n s g) (value n s h) ≡ true).
      ⊎_elim (λ (q : value n s g ≡ true). inl q) (λ (q : value n s h ≡ true). inr (0, omega arith, q)) (or-true (value n s g) (value n s h) p))
      (λ (p : SomeOf hs). inr (suc p.0, omega (arith, p.1), p.2))
      (or_some (joined or g h) hs e)

  or-first : (g : Guard) (hs : List Guard) → value n s g ≡ true → value n s (or_all g hs) ≡ true
  unfolding or_all value
  or-first g [] e = e
  or-first g (h ∷ hs) e = or-first (joined or g h) hs (or_left (value n s g) (value n s h) e)

  or_later : (g : Guard) (hs : List Guard) (m : ℕ) → m < length hs → value n s (get_or hs m (truth false)) ≡ true → value n s (or_all g hs) ≡ true
  unfolding or_all value
  or_later g [] m b e = absurd (omega arith)
  or_later g (h ∷ hs) zero b e = or-first (joined or g h) hs (or_right (value n s g) (value n s h) e)
  or_later g (h ∷ hs) (suc m) b e = or_later (joined or g h) hs m (omega arith) e

  any_some : (vs : List Guard) → value n s (any_of vs) ≡ true → SomeOf vs
  unfolding any_of value
  any_some [] e = absurd (false≢true e)
  any_some (v ∷ vs) e =
      ⊎_elim
      (λ (p : value n s v ≡ true). (0, omega arith, p))
      (λ (p : SomeOf vs). (suc p.0, omega (arith, p.1), p.2))
      (or_some v vs e)

  any-one : (vs : List Guard) (m : ℕ) → m < length vs → value n s (get_or vs m (truth false)) ≡ true → value n s (any_of vs) ≡ true
  unfolding any_of
  any-one [] m b e = absurd (omega arith)
  any-one (v ∷ vs) zero b e = or-first v vs e
  any-one (v ∷ vs) (suc m) b e = or_later v vs m (omega arith) e

  any_at : (rule : Guard) (vs : List Guard) (i : ℕ) → 0 < i → i ≤ length vs → value n s (guard_at rule vs i) ≡ true → value n s (any_of vs) ≡ true
  any_at rule vs zero f b e = absurd (omega arith)
  any_at rule vs (suc m) f b e = any-one vs m (omega arith) e

-- ---- the questions
module _ (l : Line) (s : ℕ) where
  some-variant : value (flags_of l) s (any_of l.variants) ≡ true → SomeVariant l s
  some-variant e =
      let o : SomeOf (flags_of l) s l.variants = any_some (flags_of l) s l.variants e in
      record { number = suc o.0; first = omega arith; last = omega (arith, o.1); holds = o.2 }

  variant-some : SomeVariant l s → value (flags_of l) s (any_of l.variants) ≡ true
  variant-some v = any_at (flags_of l) s l.rule l.variants v.number v.first v.last v.holds

  -- the whole question is false exactly where a variant is missing
  pub whole-missing : IsState l s → value (flags_of l) s (whole_of l.rule l.variants) ≡ false → Missing l s
  unfolding whole_of value
  whole-missing b e =
      let p = implies-false (value (flags_of l) s l.rule) (value (flags_of l) s (any_of l.variants)) e in
      record { state = b; rule = p.0; none = λ v. never (value (flags_of l) s (any_of l.variants)) (variant-some v) p.1 }

  pub missing-whole : Missing l s → value (flags_of l) s (whole_of l.rule l.variants) ≡ false
  unfolding whole_of value
  missing-whole m =
      implies-fails (value (flags_of l) s l.rule) (value (flags_of l) s (any_of l.variants)) m.rule
      (⊎_elim
      (λ (p : value (flags_of l) s (any_of l.variants) ≡ true). absurd (m.none (some-variant p)))
      (λ (p : value (flags_of l) s (any_of l.variants) ≡ false). p)
      (either (value (flags_of l) s (any_of l.variants))))

  -- where it is true, and the rule is, some variant is
  pub whole-holds : value (flags_of l) s (whole_of l.rule l.variants) ≡ true → value (flags_of l) s l.rule ≡ true → SomeVariant l s
  unfolding whole_of value
  whole-holds e r =
      ⊎_elim
      (λ (p : value (flags_of l) s (any_of l.variants) ≡ true). some-variant p)
      (λ (p : value (flags_of l) s (any_of l.variants) ≡ false).
      absurd (true≢false
      (sym e ∙ implies-fails (value (flags_of l) s l.rule) (value (flags_of l) s (any_of l.variants)) r p)))
      (either (value (flags_of l) s (any_of l.variants)))

  -- the question of a pair is false exactly where the two stand together
  module _ (i j : ℕ) where
    pub pair-together : IsState l s → value (flags_of l) s (pair_of l.rule l.variants i j) ≡ false → Together l i j s
    unfolding apart value
    pair-together b e =
        let v : Bool = value (flags_of l) s (guard_at l.rule l.variants i) in
        let w : Bool = value (flags_of l) s (guard_at l.rule l.variants j) in
        let p = implies-false (value (flags_of l) s l.rule) (not (table and v w)) e in
        let q = not-and-false v w p.1 in
        record { state = b; rule = p.0; first = q.0; second = q.1 }

    pub together-pair : Together l i j s → value (flags_of l) s (pair_of l.rule l.variants i j) ≡ false
    unfolding apart value
    together-pair t =
        let v : Bool = value (flags_of l) s (guard_at l.rule l.variants i) in
        let w : Bool = value (flags_of l) s (guard_at l.rule l.variants j) in
        implies-fails (value (flags_of l) s l.rule) (not (table and v w)) t.rule (not-and-fails v w t.first t.second)
