-- Fixing flags, triplet by triplet: at the start, where a literal stands for the triplet, and where it becomes one.
use Prim.Native.Nat.{ℕ, suc, ◌+◌, ◌*◌, ◌/◌, ◌%◌, ◌≤◌, ◌<◌}
use mathlib.Core.Path.{◌≡◌, refl, sym, ap, ap₂, ◌∙◌}
use mathlib.Core.Bool.{not}
use mathlib.Core.List.{List, []}
use mathlib.Core.Logic.{◌⊎◌, inl, inr, ⊎_elim}
use native.Mathlib.Omega.{arith}
use native.Mathlib.Nat.{eq-or-lt_of_le}
use lib.ListN.{get_or}
use Rattle.notation.specs.Ceilings.{flag_ceiling}
use Rattle.notation.specs.Triplets.{triplet_variable, negation}
use Rattle.notation.specs.clauses.Shape.{Names, Shape, kind_at, y_at, z_at}
use Rattle.ground.proofs.Cases.{parity, split-eq}
use Rattle.notation.proofs.Shaped.{negation-half}
use Rattle.truth.specs.Connectives.{gate}
use Rattle.truth.specs.clauses.Computed.{literal_value, computed}
use Rattle.truth.proofs.Literals.{literal-even, literal-odd, literal-negation, literal-agrees}
use Rattle.truth.proofs.Computing.{named-kept, named-cases, computed_same, triplet-made, flag-kept, true-at-start, flag-at-start}
use Rattle.fixing.specs.clauses.Fixing.{Stands, TripletFixed}
use Rattle.fixing.specs.clauses.Folding.{Table, Reads, Folding}

-- names of fewer triplets are names of more
pub named_more : (n j k l : ℕ) → j ≤ k → Names n j l → Names n k l
named_more n j k l h m =
    ⊎_elim
    (λ (p : l / 2 ≤ n). inl p)
    (λ (p : (triplet_variable 0 < l / 2) × (l / 2 ≤ triplet_variable j)). inr (p.0, higher (l / 2) p.1))
    m
  where
    higher : (v : ℕ) → v ≤ triplet_variable j → v ≤ triplet_variable k
    higher v q = omega arith

-- a literal over the variable of another, or over true, is named where that one is
pub named-of : (n c y z r : ℕ) → Names n c y → Names n c z → (r / 2 ≡ 0) ⊎ ((r / 2 ≡ y / 2) ⊎ (r / 2 ≡ z / 2)) → Names n c r
named-of n c y z r p q o =
    ⊎_elim
    (λ (e : r / 2 ≡ 0). inl (omega arith))
    (⊎_elim (λ (e : r / 2 ≡ y / 2). rw e p) (λ (e : r / 2 ≡ z / 2). rw e q))
    o

-- the two literals of a variable
literal-two : (l x : ℕ) → l / 2 ≡ x → (l ≡ 2 * x) ⊎ (l ≡ 2 * x + 1)
literal-two l x e = ⊎_elim (λ (p : l % 2 ≡ 0). inl (omega arith)) (λ (p : l % 2 ≡ 1). inr (omega arith)) (parity l)

-- what f and g say of every literal but those of a variable
abbrev pub Alike : (ℕ → ℕ) → (ℕ → ℕ) → ℕ → Type 0
Alike f g x = (l : ℕ) → (l / 2 ≡ x → ⊥) → g l ≡ f l

module _ (less n : ℕ) (R : ℕ → ℕ → Type 0) (xs : List ℕ) (j : ℕ) (f : ℕ → ℕ) (c : ℕ) (ys : List ℕ) (fewer : less ≤ n)
    (small : n ≤ flag_ceiling) (i : Folding less n R xs j f c ys) where
  -- a literal t that has the value of triplet j in every state takes its place
  module _ (g : ℕ → ℕ) (t c' : ℕ) (ys' : List ℕ) (few : c' ≤ suc j) (shape : Shape less c' ys') (more : c ≤ c')
      (kept : (s l : ℕ) → Names less c l → literal_value (computed less s ys' c') l ≡ literal_value (computed less s ys c) l)
      (alike : Alike f g (triplet_variable (suc j))) (even : g (2 * triplet_variable (suc j)) ≡ t)
      (odd : g (2 * triplet_variable (suc j) + 1) ≡ negation t)
      (named : Names less c' t)
      (right : (s u : ℕ) → R s u → literal_value (computed less s ys' c') t ≡ computed n u xs (suc j) (triplet_variable (suc j))) where
    old_apart : (l : ℕ) → Names n j l → l / 2 ≡ triplet_variable (suc j) → ⊥
    old_apart l m e =
        ⊎_elim
        (λ (p : l / 2 ≤ n). absurd (omega arith))
        (λ (p : (triplet_variable 0 < l / 2) × (l / 2 ≤ triplet_variable j)). absurd (omega arith))
        m

    new-named : (l : ℕ) → l / 2 ≡ triplet_variable (suc j) → Names less c' (g l)
    new-named l e =
        ⊎_elim
        (λ (p : l ≡ 2 * triplet_variable (suc j)). rw (p, even) named)
        (λ (p : l ≡ 2 * triplet_variable (suc j) + 1). rw (p, odd, negation-half t) named)
        (literal-two l (triplet_variable (suc j)) e)

    new-valued : (s u l : ℕ) → R s u → l / 2 ≡ triplet_variable (suc j)
        → literal_value (computed less s ys' c') (g l) ≡ literal_value (computed n u xs (suc j)) l
    new-valued s u l h e =
        ⊎_elim
        (λ (p : l ≡ 2 * triplet_variable (suc j)). rw (p, even) (right s u h
        ∙ sym (literal-even (computed n u xs (suc j)) (2 * triplet_variable (suc j)) (triplet_variable (suc j)) refl)))
        (λ (p : l ≡ 2 * triplet_variable (suc j) + 1).
        rw (p, odd) (literal-negation (computed less s ys' c') t ∙ ap not (right s u h)
        ∙ sym (literal-odd (computed n u xs (suc j)) (2 * triplet_variable (suc j) + 1) (triplet_variable (suc j)) refl)))
        (literal-two l (triplet_variable (suc j)) e)

    pub fixing_step : Folding less n R xs (suc j) g c' ys'
    fixing_step =
        record {
          few = few;
          shape = shape;
          named = λ l m. ⊎_elim
              (λ (p : Names n j l). rw (alike l (old_apart l p)) (named_more less c c' (f l) more (i.named l p)))
              (λ (e : l / 2 ≡ triplet_variable (suc j)). new-named l e)
              (named-cases n j l small m);
          valued = λ s u l h m. ⊎_elim
              (λ (p : Names n j l).
              rw (alike l (old_apart l p))
              (kept s (f l) (i.named l p) ∙ i.valued s u l h p ∙ sym (named-kept n u xs small (suc j) j l (omega arith) p)))
              (λ (e : l / 2 ≡ triplet_variable (suc j)). new-valued s u l h e)
              (named-cases n j l small m);
        }

-- triplets that agree in their first numbers have the same shape
shape_same : (n c : ℕ) (ys ys' : List ℕ) → ((k : ℕ) → k < 3 * c → get_or ys' k 0 ≡ get_or ys k 0) → Shape n c ys → Shape n c ys'
shape_same n c ys ys' h s =
    record {
      kinds = λ j p. rw (h (3 * j) (omega arith)) (s.kinds j p);
      ys = λ j p. rw (h (3 * j + 1) (omega arith)) (s.ys j p);
      zs = λ j p. rw (h (3 * j + 2) (omega arith)) (s.zs j p);
    }

-- one triplet more
shape-more : (n c : ℕ) (ys : List ℕ) → Shape n c ys → kind_at ys c ≤ 1 → Names n c (y_at ys c) → Names n c (z_at ys c) → Shape n (suc c) ys
shape-more n c ys s k y z =
    record {
      kinds = λ j p. ⊎_elim (λ (e : j ≡ c). rw e k) (λ (l : j < c). s.kinds j l) (eq-or-lt_of_le (last j p));
      ys = λ j p. ⊎_elim (λ (e : j ≡ c). rw e y) (λ (l : j < c). s.ys j l) (eq-or-lt_of_le (last j p));
      zs = λ j p. ⊎_elim (λ (e : j ≡ c). rw e z) (λ (l : j < c). s.zs j l) (eq-or-lt_of_le (last j p));
    }
  where
    last : (j : ℕ) → j < suc c → j ≤ c
    last j p = omega arith

module _ (less n : ℕ) (R : ℕ → ℕ → Type 0) (xs : List ℕ) (j : ℕ) (f : ℕ → ℕ) (c : ℕ) (ys : List ℕ) (fewer : less ≤ n)
    (small : n ≤ flag_ceiling) (i : Folding less n R xs j f c ys)
    (ny : Names n j (y_at xs j)) (nz : Names n j (z_at xs j)) where
  -- what triplet j is computed to be, by what became of its operands
  made_of : (s u : ℕ) → R s u
      → gate (kind_at xs j) (literal_value (computed less s ys c) (f (y_at xs j))) (literal_value (computed less s ys c) (f (z_at xs j))) ≡ computed n u xs
      (suc j) (triplet_variable (suc j))
  made_of s u h = ap₂ (gate (kind_at xs j)) (i.valued s u (y_at xs j) h ny) (i.valued s u (z_at xs j) h nz) ∙ sym (triplet-made n u xs j)

  module _ (g : ℕ → ℕ) (t : ℕ) (ys' : List ℕ) (alike : Alike f g (triplet_variable (suc j)))
      (even : g (2 * triplet_variable (suc j)) ≡ t) (odd : g (2 * triplet_variable (suc j) + 1) ≡ negation t)
      (agree : (k : ℕ) → k < 3 * c → get_or ys' k 0 ≡ get_or ys k 0) where
    computed-kept : (s l : ℕ) → literal_value (computed less s ys' c) l ≡ literal_value (computed less s ys c) l
    computed-kept s l = literal-agrees (computed less s ys' c) (computed less s ys c) l (computed_same less s c ys ys' agree (l / 2))

    -- a literal stands for the triplet
    pub fixing-stands : Stands (kind_at xs j) (f (y_at xs j)) (f (z_at xs j)) t → Folding less n R xs (suc j) g c ys'
    fixing-stands st =
        fixing_step less n R xs j f c ys fewer small i g t c ys' (omega (arith, i.few)) (shape_same less c ys ys' agree i.shape) (omega arith)
        (λ s l m. computed-kept s l) alike even odd
        (named-of less c (f (y_at xs j)) (f (z_at xs j)) t (i.named (y_at xs j) ny) (i.named (z_at xs j) nz) st.of)
        (λ s u h. computed-kept s t ∙ st.value (computed less s ys c) (flag-kept less s ys c 0 (omega arith) ∙ true-at-start less s ys)
        ∙ made_of s u h)

    -- the triplet becomes one of its own
    pub fixing-new : t ≡ 2 * triplet_variable (suc c) → kind_at xs j ≤ 1
        → kind_at ys' c ≡ kind_at xs j → y_at ys' c ≡ f (y_at xs j) → z_at ys' c ≡ f (z_at xs j) → Folding less n R xs (suc j) g (suc c) ys'
    fixing-new e k ek ey ez =
        fixing_step less n R xs j f c ys fewer small i g t (suc c) ys' (omega (arith, i.few))
        (shape-more less c ys' (shape_same less c ys ys' agree i.shape) (rw ek k) (rw ey (i.named (y_at xs j) ny))
        (rw ez (i.named (z_at xs j) nz)))
        (omega arith)
        (λ s l m. named-kept less s ys' (omega arith) (suc c) c l (omega arith) m ∙ computed-kept s l)
        alike even odd
        (inr (omega arith, omega arith))
        (λ s u h. rw e
        (literal-even (computed less s ys' (suc c)) (2 * triplet_variable (suc c)) (triplet_variable (suc c)) refl
        ∙ triplet-made less s ys' c
        ∙ (rw (ek, ey, ez, computed-kept s (f (y_at xs j)), computed-kept s (f (z_at xs j))) (made_of s u h))))

-- the table at the start names what it should
table-named : (less n : ℕ) (f : ℕ → ℕ) → Table less n f → (l : ℕ) → l / 2 ≤ n → f l / 2 ≤ less
table-named less n f t l h =
    ⊎_elim
    (λ (z : l / 2 ≡ 0). ⊎_elim (λ (e : l ≡ 0). rw (e, t.top) (omega arith)) (λ (e : l ≡ 1). rw (e, t.bottom) (omega arith)) (literal-two l 0 z))
    (λ (z : l / 2 ≡ 0 → ⊥). flag (l / 2) l refl (omega (arith, z)) h)
    (split-eq (l / 2) 0)
  where
    flag : (i l : ℕ) → l / 2 ≡ i → 0 < i → i ≤ n → f l / 2 ≤ less
    flag i l e p q =
        ⊎_elim
        (λ (a : l ≡ 2 * i). rw a (t.within i p q))
        (λ (a : l ≡ 2 * i + 1). rw (a, t.odd i p q, negation-half (f (2 * i))) (t.within i p q))
        (literal-two l i e)

module _ (less n : ℕ) (f : ℕ → ℕ) (t : Table less n f) (xs ys : List ℕ) (s u : ℕ) (h : Reads less n f s u) where
  -- what is known before the triplets goes by the state alone
  start-any : (l : ℕ) → literal_value (computed less s ys 0) l ≡ literal_value (computed less s [] 0) l
  start-any l = literal-agrees (computed less s ys 0) (computed less s [] 0) l
      (computed_same less s 0 [] ys (λ k p. absurd (omega (arith, p))) (l / 2))

  flag-valued : (i l : ℕ) → l / 2 ≡ i → 0 < i → i ≤ n → literal_value (computed less s ys 0) (f l) ≡ literal_value (computed n u xs 0) l
  flag-valued i l e p q =
      ⊎_elim
      (λ (a : l ≡ 2 * i). rw a (start-any (f (2 * i)) ∙ h i p q ∙ sym (literal-even (computed n u xs 0) (2 * i) i refl ∙ flag-at-start n u xs i p)))
      (λ (a : l ≡ 2 * i + 1).
      rw (a, t.odd i p q)
      (literal-negation (computed less s ys 0) (f (2 * i)) ∙ ap not (start-any (f (2 * i)) ∙ h i p q)
      ∙ sym (literal-odd (computed n u xs 0) (2 * i + 1) i refl ∙ ap not (flag-at-start n u xs i p))))
      (literal-two l i e)

  table-valued : (l : ℕ) → l / 2 ≤ n → literal_value (computed less s ys 0) (f l) ≡ literal_value (computed n u xs 0) l
  table-valued l b =
      ⊎_elim
      (λ (z : l / 2 ≡ 0).
      ⊎_elim
      (λ (e : l ≡ 0).
      rw (e, t.top) (literal-even (computed less s ys 0) 0 0 refl ∙ true-at-start less s ys
      ∙ sym (literal-even (computed n u xs 0) 0 0 refl ∙ true-at-start n u xs)))
      (λ (e : l ≡ 1).
      rw (e, t.bottom)
      (literal-odd (computed less s ys 0) 1 0 refl ∙ ap not (true-at-start less s ys)
      ∙ sym (literal-odd (computed n u xs 0) 1 0 refl ∙ ap not (true-at-start n u xs))))
      (literal-two l 0 z))
      (λ (z : l / 2 ≡ 0 → ⊥). flag-valued (l / 2) l refl (omega (arith, z)) b)
      (split-eq (l / 2) 0)

pub fixing-start : (less n : ℕ) (xs ys : List ℕ) (f : ℕ → ℕ) → Table less n f → Folding less n (Reads less n f) xs 0 f 0 ys
fixing-start less n xs ys f t =
    record {
      few = omega arith;
      shape = record { kinds = λ j p. absurd (omega arith); ys = λ j p. absurd (omega arith); zs = λ j p. absurd (omega arith) };
      named = λ l m. inl (table-named less n f t l (none n l m));
      valued = λ s u l h m. table-valued less n f t xs ys s u h l (none n l m);
    }
  where
    none : (n l : ℕ) → Names n 0 l → l / 2 ≤ n
    none n l m =
        ⊎_elim
        (λ (p : l / 2 ≤ n). p)
        (λ (p : (triplet_variable 0 < l / 2) × (l / 2 ≤ triplet_variable 0)). absurd (omega arith))
        m

-- one triplet fixed, one more is
pub fixing-again : (less n : ℕ) (R : ℕ → ℕ → Type 0) (xs : List ℕ) (j : ℕ) (to : List ℕ) (c : ℕ) (ys to' : List ℕ) (c' : ℕ)
    (ys' : List ℕ)
    → less ≤ n → n ≤ flag_ceiling
    → Folding less n R xs j (λ l. get_or to l 0) c ys → Names n j (y_at xs j) → Names n j (z_at xs j) → kind_at xs j ≤ 1
    → TripletFixed xs j to c ys to' c' ys' → Folding less n R xs (suc j) (λ l. get_or to' l 0) c' ys'
fixing-again less n R xs j to c ys to' c' ys' fewer small i ny nz k r =
    ⊎_elim
    (λ (p : (c' ≡ c) × Stands (kind_at xs j) (get_or to (y_at xs j) 0) (get_or to (z_at xs j) 0) r.t).
    rw p.0
    (fixing-stands less n R xs j (λ l. get_or to l 0) c ys fewer small i ny nz (λ l. get_or to' l 0) r.t ys' r.put.others r.put.even
    r.put.odd r.agree p.1))
    (λ (p : (c' ≡ suc c) × (r.t ≡ 2 * triplet_variable (suc c)) × (kind_at ys' c ≡ kind_at xs j) × (y_at ys' c ≡ get_or to (y_at xs j) 0)
    × (z_at ys' c ≡ get_or to (z_at xs j) 0)).
    rw p.0
    (fixing-new less n R xs j (λ l. get_or to l 0) c ys fewer small i ny nz (λ l. get_or to' l 0) r.t ys' r.put.others r.put.even
    r.put.odd r.agree p.1 k p.2 p.3 p.4))
    r.became
