-- What the triplets of a tree compute at its root is the tree's value.
use Prim.Native.Nat.{ℕ, suc, ◌+◌, ◌*◌, ◌≤◌}
use mathlib.Core.Path.{◌≡◌, refl, ap, ap₂, ◌∙◌}
use mathlib.Core.Bool.{Bool, true, false, not, not-not}
use mathlib.Core.List.{List, [], ◌∷◌, ◌++◌, append_assoc}
use native.Mathlib.Omega.{arith}
use lib.ListN.{length, length-append}
use lib.Seq.{get_or-append-add}
use Rattle.notation.specs.Ceilings.{flag_ceiling}
use Rattle.notation.specs.Tokens.{Sign, same, implies, or, and}
use Rattle.notation.specs.Guard.{Guard, flag, truth, negated, joined, connectives}
use Rattle.notation.specs.Triplets.{Triplet, triplet_variable, triplet_of, literal_of, literal, triplets, numbers}
use Rattle.notation.specs.clauses.Shape.{Shape, kind_at, y_at, z_at, FlagsWithin}
use Rattle.notation.proofs.Shaped.{count-triplets}
use Rattle.truth.specs.Connectives.{table, gate}
use Rattle.truth.specs.Value.{value}
use Rattle.truth.specs.clauses.Computed.{literal_value, computed, Valued}
use Rattle.truth.proofs.Literals.{literal-even, literal-odd, literal-negation}
use Rattle.truth.proofs.Computing.{valued}

-- the triplets ts stand in xs from triplet c on
abbrev pub Holds : List ℕ → ℕ → List Triplet → Type 0
Holds xs c [] = Unit {0}
Holds xs c (t ∷ ts) = (kind_at xs c ≡ t.kind) × (y_at xs c ≡ t.y) × (z_at xs c ≡ t.z) × Holds xs (suc c) ts

holds-left : (xs : List ℕ) (ts us : List Triplet) (c : ℕ) → Holds xs c (ts ++ us) → Holds xs c ts
holds-left xs [] us c h = tt
holds-left xs (t ∷ ts) us c h = (h.0, h.1, h.2, holds-left xs ts us (suc c) h.3)

holds-right : (xs : List ℕ) (ts us : List Triplet) (c d : ℕ) → d ≡ c + length ts → Holds xs c (ts ++ us) → Holds xs d us
holds-right xs [] us c d e h = let p : d ≡ c = omega arith in rw p h
holds-right xs (t ∷ ts) us c d e h = holds-right xs ts us (suc c) d (omega arith) h.3

-- the numbers of triplets hold them
holds-numbers : (ts : List Triplet) (pre : List ℕ) (c : ℕ) → length pre ≡ 3 * c → Holds (pre ++ numbers ts) c ts
unfolding numbers
holds-numbers [] pre c e = tt
holds-numbers (t ∷ ts) pre c e =
    let more : List ℕ = t.kind ∷ t.y ∷ t.z ∷ [] in
    let rest : List ℕ = t.kind ∷ t.y ∷ t.z ∷ numbers ts in
    let p₀ : 3 * c ≡ length pre + 0 = omega arith in
    let p₁ : 3 * c + 1 ≡ length pre + 1 = omega arith in
    let p₂ : 3 * c + 2 ≡ length pre + 2 = omega arith in
    let l : length (pre ++ more) ≡ 3 * suc c = rw length-append (omega arith) in (
      rw p₀ (get_or-append-add pre rest 0 0),
      rw p₁ (get_or-append-add pre rest 1 0),
      rw p₂ (get_or-append-add pre rest 2 0),
      rw append_assoc at
          (holds-numbers ts (pre ++ more) (suc c) l),
    )

-- a disjunction and a conjunction by an implication
pub or-table : (a b : Bool) → table implies (not a) b ≡ table or a b
unfolding table
or-table true b = refl
or-table false b = refl

pub and-table : (a b : Bool) → not (table implies a (not b)) ≡ table and a b
unfolding table
and-table true b = not-not b
and-table false b = refl

-- what a sign makes of two values is what its triplet makes of their literals
made : (v : ℕ → Bool) (s : Sign) (a b x k y z : ℕ)
    → k ≡ (triplet_of s a b).kind → y ≡ (triplet_of s a b).y → z ≡ (triplet_of s a b).z
    → v x ≡ gate k (literal_value v y) (literal_value v z)
    → literal_value v (literal_of s x) ≡ table s (literal_value v a) (literal_value v b)
unfolding triplet_of literal_of gate table
made v same a b x k y z p q r h = literal-even v (2 * x) x refl ∙ (rw (h, p, q, r) refl)
made v implies a b x k y z p q r h = literal-even v (2 * x) x refl ∙ (rw (h, p, q, r) refl)
made v or a b x k y z p q r h = literal-even v (2 * x) x refl ∙ (rw (h, p, q, r, literal-negation v a) (or-table (literal_value v a) (literal_value v b)))
made v and a b x k y z p q r h = literal-odd v (2 * x + 1) x refl ∙ (rw (h, p, q, r, literal-negation v b) (and-table (literal_value v a) (literal_value v b)))

module _ (n s c : ℕ) (xs : List ℕ) (v : ℕ → Bool) (holds : Valued n s c xs v) where
  -- where the triplets of g stand from triplet k on, its literal has its value
  pub rooted : (g : Guard) (k : ℕ) → FlagsWithin n g → Holds xs k (triplets k g) → k + connectives g ≤ c
      → literal_value v (literal k g) ≡ value n s g
  unfolding literal triplets connectives value
  rooted (flag i) k f h b = literal-even v (2 * i) i refl ∙ holds.flags i f.0 f.1
  rooted (truth true) k f h b = literal-even v 0 0 refl ∙ holds.top
  rooted (truth false) k f h b = literal-odd v 1 0 refl ∙ ap not holds.top
  rooted (negated g) k f h b = literal-negation v (literal k g) ∙ ap not (rooted g k f h b)
  rooted (joined t g h) k f a b =
      let j : ℕ = k + connectives g + connectives h in
      let right : Holds xs (k + connectives g) (triplets (k + connectives g) h ++ (triplet_of t (literal k g) (literal (k + connectives g) h) ∷ [])) =
      holds-right xs (triplets k g) _ k (k + connectives g) (rw count-triplets refl) a in
      let own : Holds xs j (triplet_of t (literal k g) (literal (k + connectives g) h) ∷ []) = holds-right xs (triplets (k + connectives g) h) _
      (k + connectives g) j (rw count-triplets refl) right in
      let e : triplet_variable (k + (connectives g + connectives h + 1)) ≡ triplet_variable (suc j) = omega arith in
      rw e
      (made v t (literal k g) (literal (k + connectives g) h) (triplet_variable (suc j)) (kind_at xs j) (y_at xs j) (z_at xs j) own.0 own.1 own.2
      (holds.gates j (omega arith))
      ∙ ap₂ (table t) (rooted g k f.0 (holds-left xs (triplets k g) _ k a) (omega arith))
      (rooted h (k + connectives g) f.1 (holds-left xs (triplets (k + connectives g) h) _ (k + connectives g) right) (omega arith)))

-- what the triplets of a tree compute at the root, in every state, is the tree's value
pub root-value : (n s : ℕ) (g : Guard) → n ≤ flag_ceiling → FlagsWithin n g → Shape n (connectives g) (numbers (triplets 0 g))
    → literal_value (computed n s (numbers (triplets 0 g)) (connectives g)) (literal 0 g) ≡ value n s g
root-value n s g small f shape =
    let c : ℕ = connectives g in
    let xs : List ℕ = numbers (triplets 0 g) in
    rooted n s c xs (computed n s xs c) (valued n s xs small c shape) g 0 f (holds-numbers (triplets 0 g) [] 0 refl) (omega arith)
