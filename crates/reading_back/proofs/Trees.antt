-- Every tree reads back at every level where its text may stand: from its own level to looser ones, and in brackets to tighter ones.
use Prim.Native.Nat.{ℕ, zero, suc, ◌+◌, ◌-◌, ◌≤◌, ◌<◌, max}
use native.Mathlib.Nat.{zero-add, eq-or-lt_of_le}
use native.Mathlib.Omega.{arith}
use mathlib.Core.Path.{◌≡◌, refl, sym, ap, subst, ◌∙◌}
use mathlib.Core.Bool.{Bool, true, false}
use mathlib.Core.Logic.{◌⊎◌, inl, inr, ⊎_elim}
use mathlib.Core.List.{List, ◌∷◌, ◌++◌}
use lib.ListN.{length}
use lib.Dec.{ltb}
use borrow.Author.Tests.{ltb-false, le-ltb}
use Rattle.notation.specs.Tokens.{Code, Sign, same, implies, or, and}
use Rattle.ground.specs.Choice.{choose}
use Rattle.notation.specs.Walk.{seen}
use Rattle.notation.specs.Guard.{Guard, flag, truth, negated, joined}
use Rattle.notation.specs.Grammar.{Level, to_the_right, and_of, or_of, implies_of, same_of}
use Rattle.levels.specs.clauses.Levels.{plain, operands_at}
use Rattle.reading_back.specs.Written.{sign_byte, level_of, left_of, right_of, bracketed, written, nesting, Stands, WithinCeilings}
use Rattle.reading_back.proofs.Levels.{After, after_both, ReadsAs, ChainsAs, chain-start, chain-end, chain-join, right_end, right-join, right-whole}
use Rattle.reading_back.proofs.Operands.{OperandAs, flag-back, truth-back, negated_back, bracket-back}

-- the level l of the grammar, where d brackets are open
abbrev pub levels_at : ℕ → ℕ → ℕ → Level
levels_at zero d = plain (same_of (operands_at d))
levels_at (suc zero) d = to_the_right implies (or_of (operands_at d))
levels_at (suc (suc zero)) d = plain (or_of (operands_at d))
levels_at (suc (suc (suc zero))) d = plain (and_of (operands_at d))
levels_at (suc (suc (suc (suc l)))) d = plain (operands_at d)

-- the flags seen after the text of a guard where one of the level l may stand
unfoldable pub seen_after : (ℕ → Code) → ℕ → Guard → After
seen_after codes l (flag i) p u = seen p (codes i) u
seen_after codes l (truth b) p u = u
seen_after codes l (negated g) p u = seen_after codes 4 g (suc p) u
seen_after codes l (joined s g h) p u =
    after_both (length (written codes (left_of s) g)) (seen_after codes (left_of s) g) (seen_after codes (right_of s) h) (choose (ltb (level_of s) l)
    (suc p) p) u

-- ---- the levels of the signs
level-below : (s : Sign) → suc (level_of s) ≤ 4
unfolding level_of
level-below same = omega arith
level-below implies = omega arith
level-below or = omega arith
level-below and = omega arith

right-below : (s : Sign) → right_of s ≤ 4
unfolding right_of
right-below same = omega arith
right-below implies = omega arith
right-below or = omega arith
right-below and = omega arith

-- on the left of t a guard joined by s is written as one level tighter, unless t groups to the left and s is t
own-or-tighter : (t s : Sign) → (ltb (level_of s) (suc (level_of t)) ≡ ltb (level_of s) (left_of t)) ⊎ ((s ≡ t) × (left_of s ≡ level_of s))
unfolding level_of left_of
own-or-tighter same same = inr (refl, refl)
own-or-tighter same implies = inl refl
own-or-tighter same or = inl refl
own-or-tighter same and = inl refl
own-or-tighter implies same = inl refl
own-or-tighter implies implies = inl refl
own-or-tighter implies or = inl refl
own-or-tighter implies and = inl refl
own-or-tighter or same = inl refl
own-or-tighter or implies = inl refl
own-or-tighter or or = inr (refl, refl)
own-or-tighter or and = inl refl
own-or-tighter and same = inl refl
own-or-tighter and implies = inl refl
own-or-tighter and or = inl refl
own-or-tighter and and = inr (refl, refl)

not-below : (n : ℕ) → ltb n n ≡ false
not-below n = le-ltb n n (omega arith)

module _ (codes : ℕ → Code) (whole : Guard) (ceilings : WithinCeilings codes whole) where
  -- what the level l reads
  abbrev pub LevelAs : ℕ → ℕ → List ℕ → After → Guard → Type 0
  LevelAs l n text sees g = ReadsAs codes whole ceilings (levels_at l) (4 - l) n text sees g

  -- what may stand on the left of a sign: a chain where it groups to the left
  abbrev pub LeftAs : Sign → ℕ → List ℕ → After → Guard → Type 0
  LeftAs same n text sees g = ChainsAs codes whole ceilings same (λ d. implies_of (operands_at d)) 3 n text sees g
  LeftAs implies n text sees g = ReadsAs codes whole ceilings (λ d. plain (or_of (operands_at d))) 2 n text sees g
  LeftAs or n text sees g = ChainsAs codes whole ceilings or (λ d. and_of (operands_at d)) 1 n text sees g
  LeftAs and n text sees g = ChainsAs codes whole ceilings and (λ d. operands_at d) 0 n text sees g

  -- the level of `>` within that of `=`
  implied : {n : ℕ} {text : List ℕ} {sees : After} {g : Guard} → LevelAs 1 n text sees g → ReadsAs codes whole ceilings
      (λ d. plain (implies_of (operands_at d))) 3 n text sees g
  unfolding implies_of
  implied r = right-whole codes whole ceilings implies (λ d. or_of (operands_at d)) 2 refl r

  -- what a tighter level reads may stand on the left
  left-start : (s : Sign) {n : ℕ} {text : List ℕ} {sees : After} {g : Guard} → LevelAs (suc (level_of s)) n text sees g → LeftAs s n text sees g
  unfolding level_of
  left-start same r = chain-start codes whole ceilings same (λ d. implies_of (operands_at d)) 3 refl (implied r)
  left-start implies r = r
  left-start or r = chain-start codes whole ceilings or (λ d. and_of (operands_at d)) 1 refl r
  left-start and r = chain-start codes whole ceilings and (λ d. operands_at d) 0 refl r

  -- a chain that goes on
  left_join : (s : Sign) → left_of s ≡ level_of s → (n₁ : ℕ) (t₁ : List ℕ) (a₁ : After) (g : Guard) {n₂ : ℕ} {t₂ : List ℕ}
      {a₂ : After} {h : Guard} → LeftAs s n₁ t₁ a₁ g → LevelAs (right_of s) n₂ t₂ a₂ h →
      LeftAs s (max n₁ n₂) (t₁ ++ (sign_byte s ∷ t₂)) (after_both (length t₁) a₁ a₂) (joined s g h)
  unfolding level_of left_of right_of
  left_join same e n t a g x y = chain-join codes whole ceilings same (λ d. implies_of (operands_at d)) 3 refl x (implied y)
  left_join implies e n t a g x y = absurd (omega arith)
  left_join or e n t a g x y = chain-join codes whole ceilings or (λ d. and_of (operands_at d)) 1 refl x y
  left_join and e n t a g x y = chain-join codes whole ceilings and (λ d. operands_at d) 0 refl x y

  -- two guards joined by a sign are read at its level
  own-level : (s : Sign) (n₁ : ℕ) (t₁ : List ℕ) (a₁ : After) (g : Guard) {n₂ : ℕ} {t₂ : List ℕ} {a₂ : After} {h : Guard} → LeftAs s n₁
      t₁ a₁ g → LevelAs (right_of s) n₂ t₂ a₂ h →
      LevelAs (level_of s) (max n₁ n₂) (t₁ ++ (sign_byte s ∷ t₂)) (after_both (length t₁) a₁ a₂) (joined s g h)
  unfolding level_of right_of same_of or_of and_of
  own-level same n t a g x y =
      chain-end codes whole ceilings same (λ d. implies_of (operands_at d)) 3 refl
      (chain-join codes whole ceilings same (λ d. implies_of (operands_at d)) 3 refl x (implied y))
  own-level implies n t a g x y = right-join codes whole ceilings implies (λ d. or_of (operands_at d)) 2 refl x y
  own-level or n t a g x y =
      chain-end codes whole ceilings or (λ d. and_of (operands_at d)) 1 refl (chain-join codes whole ceilings or (λ d. and_of (operands_at d)) 1 refl x y)
  own-level and n t a g x y =
      chain-end codes whole ceilings and (λ d. operands_at d) 0 refl (chain-join codes whole ceilings and (λ d. operands_at d) 0 refl x y)

  -- what a level reads, the next looser one does
  looser-by-one : (l : ℕ) → l < 4 → {n : ℕ} {text : List ℕ} {sees : After} {g : Guard} → LevelAs (suc l) n text sees g → LevelAs l n text sees g
  unfolding same_of or_of and_of
  looser-by-one zero h r =
      chain-end codes whole ceilings same (λ d. implies_of (operands_at d)) 3 refl
      (chain-start codes whole ceilings same (λ d. implies_of (operands_at d)) 3 refl (implied r))
  looser-by-one (suc zero) h r = right_end codes whole ceilings implies (λ d. or_of (operands_at d)) 2 refl r
  looser-by-one (suc (suc zero)) h r =
      chain-end codes whole ceilings or (λ d. and_of (operands_at d)) 1 refl (chain-start codes whole ceilings or (λ d. and_of (operands_at d)) 1 refl r)
  looser-by-one (suc (suc (suc zero))) h r =
      chain-end codes whole ceilings and (λ d. operands_at d) 0 refl (chain-start codes whole ceilings and (λ d. operands_at d) 0 refl r)
  looser-by-one (suc (suc (suc (suc l)))) h r = absurd (omega arith)

  -- and so does each looser one
  loosened : (j l : ℕ) → l ≤ j → j ≤ 4 → {n : ℕ} {text : List ℕ} {sees : After} {g : Guard} → LevelAs j n text sees g → LevelAs l n text
      sees g
  loosened zero zero h k r = r
  loosened zero (suc l) h k r = absurd (omega arith)
  loosened (suc j) l h k {n} {text} {sees} {g} r =
      ⊎_elim
      (λ (e : l ≡ suc j). subst (λ (i : ℕ). LevelAs i n text sees g) (sym e) r)
      (λ (e : l < suc j). loosened j l (omega arith) (omega arith) (looser-by-one j (omega arith) r))
      (eq-or-lt_of_le h)

  -- a guard reads back where it may stand
  pub record ReadsBack (g : Guard) : Type 0 where
    pub level : (l : ℕ) → l ≤ 4 → LevelAs l (nesting l g) (written codes l g) (seen_after codes l g) g
    pub left : (s : Sign) → LeftAs s (nesting (left_of s) g) (written codes (left_of s) g) (seen_after codes (left_of s) g) g

  module _ (s : Sign) (g h : Guard) (x : ReadsBack g) (y : ReadsBack h) where
    -- the text of the two joined, with no bracket round them
    bare : List ℕ
    bare = written codes (left_of s) g ++ (sign_byte s ∷ written codes (right_of s) h)

    -- the brackets open at once in it, and the flags seen after it
    depth : ℕ
    depth = max (nesting (left_of s) g) (nesting (right_of s) h)

    inside : After
    inside = after_both (length (written codes (left_of s) g)) (seen_after codes (left_of s) g) (seen_after codes (right_of s) h)

    bare-reads : LevelAs (level_of s) depth bare inside (joined s g h)
    unfolding bare depth inside
    bare-reads =
        own-level s (nesting (left_of s) g) (written codes (left_of s) g) (seen_after codes (left_of s) g) g (x.left s) (y.level (right_of s) (right-below s))

    -- with brackets where b says so: what the level l reads, and what may stand on the left of t
    abbrev LevelBy : Bool → ℕ → Type 0
    LevelBy b l = LevelAs l (choose b 1 0 + depth) (bracketed b bare) (λ p u. inside (choose b (suc p) p) u) (joined s g h)

    abbrev LeftBy : Bool → Sign → Type 0
    LeftBy b t = LeftAs t (choose b 1 0 + depth) (bracketed b bare) (λ p u. inside (choose b (suc p) p) u) (joined s g h)

    -- with brackets at any level, without them up to the sign's
    by-bracket : (b : Bool) (l : ℕ) → l ≤ 4 → (b ≡ false → l ≤ level_of s) → LevelBy b l
    unfolding bracketed
    by-bracket true l h k =
        let loosest = loosened (level_of s) 0 (omega arith) (omega (arith, level-below s)) bare-reads in
        loosened 4 l h (omega arith) (bracket-back codes whole ceilings loosest)
    by-bracket false l h k = rw (zero-add depth) (loosened (level_of s) l (k refl) (omega (arith, level-below s)) bare-reads)

    at_level : (l : ℕ) → l ≤ 4 → LevelBy (ltb (level_of s) l) l
    at_level l h = by-bracket (ltb (level_of s) l) l h (ltb-false (level_of s) l)

    -- the chain of a sign that groups to the left goes on with no bracket
    own-chain : left_of s ≡ level_of s → LeftBy false s
    unfolding bracketed bare depth inside
    own-chain e =
        rw (zero-add depth)
        (left_join s e (nesting (left_of s) g) (written codes (left_of s) g) (seen_after codes (left_of s) g) g (x.left s) (y.level (right_of s)
        (right-below s)))

    on-the-left : (t : Sign) → LeftBy (ltb (level_of s) (left_of t)) t
    on-the-left t =
        ⊎_elim
        (λ (e : ltb (level_of s) (suc (level_of t)) ≡ ltb (level_of s) (left_of t)).
        subst (λ (b : Bool). LeftBy b t) e (left-start t (at_level (suc (level_of t)) (level-below t))))
        (λ (e : (s ≡ t) × (left_of s ≡ level_of s)).
        let none : ltb (level_of s) (left_of s) ≡ false = ap (ltb (level_of s)) e.1 ∙ not-below (level_of s) in
        subst (λ (r : Sign). LeftBy (ltb (level_of s) (left_of r)) r) e.0 (subst (λ (b : Bool). LeftBy b s) (sym none) (own-chain e.1)))
        (own-or-tighter t s)

    joined_back : ReadsBack (joined s g h)
    unfolding nesting written seen_after bare depth inside
    joined_back = record { level = at_level; left = on-the-left }

  -- an operand stands at every level as it is
  operand-levels : {n : ℕ} {text : List ℕ} {sees : After} {g : Guard} → OperandAs codes whole ceilings n text sees g → (l : ℕ) → l ≤ 4
      → LevelAs l n text sees g
  operand-levels r l h = loosened 4 l h (omega arith) r

  operand-left : {n : ℕ} {text : List ℕ} {sees : After} {g : Guard} → OperandAs codes whole ceilings n text sees g → (s : Sign) → LeftAs s n text
      sees g
  operand-left r s = left-start s (operand-levels r (suc (level_of s)) (level-below s))

  -- every tree over the flags of the whole
  pub reads-back : (g : Guard) → ((i : ℕ) → Stands i g → Stands i whole) → ReadsBack g
  unfolding nesting written seen_after
  reads-back (flag i) f =
      let r = flag-back codes whole ceilings i (f i refl) in
      record { level = operand-levels r; left = operand-left r }
  reads-back (truth b) f =
      let r = truth-back codes whole ceilings b in
      record { level = operand-levels r; left = operand-left r }
  reads-back (negated g) f =
      let r = negated_back codes whole ceilings ((reads-back g f).level 4 (omega arith)) in
      record { level = operand-levels r; left = operand-left r }
  reads-back (joined s g h) f = joined_back s g h (reads-back g (λ i e. f i (inl e))) (reads-back h (λ i e. f i (inr e)))
