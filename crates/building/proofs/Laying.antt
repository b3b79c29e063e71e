-- A guard that has been laid is written behind the others.
use Prim.Native.Nat.{ℕ, zero, suc, ◌+◌, ◌*◌, ◌/◌, ◌%◌, ◌≤◌, ◌<◌}
use native.Mathlib.Omega.{arith}
use native.Mathlib.Numerals.{add-one}
use mathlib.Core.Path.{◌≡◌, refl, sym, ap, ◌∙◌}
use mathlib.Core.List.{List, [], ◌∷◌, ◌++◌, map}
use mathlib.Core.Logic.{⊎_elim}
use lib.ListN.{length, get_or, take, drop, set, length-drop, length-map, get_or-map}
use lib.Seq.{paste, paste-suc, take-paste, get_or-drop, get_or-take}
use Rattle.std.proofs.lemmas.List.Edits.{length-paste}
use Rattle.ground.proofs.Cases.{lt-or-ge}
use Rattle.notation.specs.Ceilings.{flag_ceiling, connective_ceiling}
use Rattle.notation.specs.Tokens.{Sign, same, implies, or, and}
use Rattle.notation.specs.Guard.{Guard, flag, truth, negated, joined, connectives}
use Rattle.notation.specs.Triplets.{Triplet, triplet_variable, literal_ceiling, triplet_of, literal, triplets, numbers}
use Rattle.notation.specs.clauses.Shape.{Names, Shape, kind_at, y_at, z_at}
use Rattle.notation.proofs.Writing.{numbers-append}
use Rattle.notation.proofs.Shaped.{shaped, root-named}
use Rattle.notation.specs.clauses.Writing.{put_at}
use Rattle.levels.specs.clauses.Levels.{Writes}
use Rattle.building.specs.clauses.Held.{Held}
use Rattle.building.specs.clauses.Moved.{moved, moved_all, CopyAsks, Copied, LayAsks, Laid}
use Rattle.building.proofs.Moving.{stays, moves, literal-moved, triplets-moved, moved_all-append}

-- a literal that the triplets of a guard within the ceilings name is at most the largest
named_small : (n c l : ℕ) → n ≤ flag_ceiling → c ≤ connective_ceiling → Names n c l → l ≤ literal_ceiling
named_small n c l a b =
    ⊎_elim (λ (p : l / 2 ≤ n). omega arith) (λ (p : (triplet_variable 0 < l / 2) × (l / 2 ≤ triplet_variable c)). omega (arith, p.1))

map-append : (f : ℕ → ℕ) (a b : List ℕ) → map f (a ++ b) ≡ map f a ++ map f b
map-append f [] b = refl
map-append f (x ∷ a) b = ap (λ (l : List ℕ). f x ∷ l) (map-append f a b)

take-map : (f : ℕ → ℕ) (n : ℕ) (l : List ℕ) → take n (map f l) ≡ map f (take n l)
take-map f zero l = refl
take-map f (suc n) [] = refl
take-map f (suc n) (x ∷ l) = ap (λ (r : List ℕ). f x ∷ r) (take-map f n l)

own-moved : (s : Sign) (c x y : ℕ) → numbers (moved_all c (triplet_of s x y ∷ [])) ≡ map (moved c) (numbers (triplet_of s x y ∷ []))
unfolding triplet_of moved_all numbers
own-moved same c x y = rw (stays c 1 (omega arith))
own-moved implies c x y = rw (stays c 0 (omega arith))
own-moved or c x y = rw (stays c 0 (omega arith))
own-moved and c x y = rw (stays c 0 (omega arith))

-- the numbers of triplets that move are moved one by one: a kind is below every literal that moves
numbers-moved : (b c : ℕ) (g : Guard) → numbers (moved_all c (triplets b g)) ≡ map (moved c) (numbers (triplets b g))
unfolding triplets moved_all numbers
numbers-moved b c (flag i) = refl
numbers-moved b c (truth t) = refl
numbers-moved b c (negated g) = numbers-moved b c g
numbers-moved b c (joined s g h) =
    let d : ℕ = b + connectives g in
    let own : List Triplet = triplet_of s (literal b g) (literal d h) ∷ [] in
    rw (
      moved_all-append c (triplets b g) (triplets d h ++ own),
      moved_all-append c (triplets d h) own,
      numbers-append (moved_all c (triplets b g)) (moved_all c (triplets d h) ++ moved_all c own),
      numbers-append (moved_all c (triplets d h)) (moved_all c own),
      numbers-append (triplets b g) (triplets d h ++ own),
      numbers-append (triplets d h) own,
      map-append (moved c) (numbers (triplets b g)) (numbers (triplets d h) ++ numbers own),
      map-append (moved c) (numbers (triplets d h)) (numbers own),
      numbers-moved b c g,
      numbers-moved d c h,
      own-moved s c (literal b g) (literal d h),
    )

-- ---- the loops
-- one number more
number_more : (pool out : List ℕ) (off before i : ℕ) → 3 * off + i < length pool → 3 * before + i < length out
    → set (paste out (3 * before) (map (moved before) (drop (3 * off) pool)) i) (3 * before + i) (moved before (get_or pool (3 * off + i) 0))
    ≡ paste out (3 * before) (map (moved before) (drop (3 * off) pool)) (i + 1)
number_more pool out off before i a b =
    let s : List ℕ = map (moved before) (drop (3 * off) pool) in
    let long : length s ≡ length (drop (3 * off) pool) = length-map (drop (3 * off) pool) (moved before) in
    let here : get_or s i (moved before 0) ≡ moved before (get_or pool (3 * off + i) 0)
    = get_or-map (moved before) (drop (3 * off) pool) i 0 ∙ ap (moved before) (get_or-drop (3 * off) pool i 0) in
    ap (λ (v : ℕ). set (paste out (3 * before) s i) (3 * before + i) v) (sym here)
    ∙ rw add-one (paste-suc out (3 * before) s i (moved before 0) b (omega (arith, long, length-drop (3 * off) pool)))

-- one triplet more
triplet-more : (pool out : List ℕ) (off before j : ℕ) → 3 * (off + j) + 2 < length pool → 3 * (before + j) + 2 < length out
    → kind_at pool (off + j) ≤ 1
    → put_at (paste out (3 * before) (map (moved before) (drop (3 * off) pool)) (3 * j)) (before + j)
    (kind_at pool (off + j)) (moved before (y_at pool (off + j))) (moved before (z_at pool (off + j)))
    ≡ paste out (3 * before) (map (moved before) (drop (3 * off) pool)) (3 * (j + 1))
triplet-more pool out off before j a b k =
    let s : List ℕ = map (moved before) (drop (3 * off) pool) in
    let y : ℕ = moved before (y_at pool (off + j)) in
    let z : ℕ = moved before (z_at pool (off + j)) in
    let from : 3 * (off + j) ≡ 3 * off + 3 * j = omega arith in
    let from₁ : 3 * (off + j) + 1 ≡ 3 * off + (3 * j + 1) = omega arith in
    let from₂ : 3 * (off + j) + 2 ≡ 3 * off + (3 * j + 1 + 1) = omega arith in
    let to : 3 * (before + j) ≡ 3 * before + 3 * j = omega arith in
    let to₁ : 3 * (before + j) + 1 ≡ 3 * before + (3 * j + 1) = omega arith in
    let to₂ : 3 * (before + j) + 2 ≡ 3 * before + (3 * j + 1 + 1) = omega arith in
    let all : 3 * j + 1 + 1 + 1 ≡ 3 * (j + 1) = omega arith in
    let kind : kind_at pool (off + j) ≡ moved before (get_or pool (3 * off + 3 * j) 0)
    = sym (stays before (kind_at pool (off + j)) (omega (arith, k))) ∙ ap (λ (i : ℕ). moved before (get_or pool i 0)) from in
    let one : set (paste out (3 * before) s (3 * j)) (3 * (before + j)) (kind_at pool (off + j)) ≡ paste out (3 * before) s (3 * j + 1)
    = ap (λ (v : ℕ). set (paste out (3 * before) s (3 * j)) (3 * (before + j)) v) kind
    ∙ ap (λ (i : ℕ). set (paste out (3 * before) s (3 * j)) i (moved before (get_or pool (3 * off + 3 * j) 0))) to
    ∙ number_more pool out off before (3 * j) (omega arith) (omega arith) in
    let two : set (paste out (3 * before) s (3 * j + 1)) (3 * (before + j) + 1) (moved before (y_at pool (off + j))) ≡ paste out (3 * before) s (3 * j + 1 + 1)
    = ap (λ (i : ℕ). set (paste out (3 * before) s (3 * j + 1)) (3 * (before + j) + 1) (moved before (get_or pool i 0))) from₁
    ∙ ap (λ (i : ℕ). set (paste out (3 * before) s (3 * j + 1)) i (moved before (get_or pool (3 * off + (3 * j + 1)) 0))) to₁
    ∙ number_more pool out off before (3 * j + 1) (omega arith) (omega arith) in
    let three : set (paste out (3 * before) s (3 * j + 1 + 1)) (3 * (before + j) + 2) (moved before (z_at pool (off + j)))
    ≡ paste out (3 * before) s (3 * j + 1 + 1 + 1)
    = ap (λ (i : ℕ). set (paste out (3 * before) s (3 * j + 1 + 1)) (3 * (before + j) + 2) (moved before (get_or pool i 0))) from₂
    ∙ ap (λ (i : ℕ). set (paste out (3 * before) s (3 * j + 1 + 1)) i (moved before (get_or pool (3 * off + (3 * j + 1 + 1)) 0))) to₂
    ∙ number_more pool out off before (3 * j + 1 + 1) (omega arith) (omega arith) in
    ap (λ (l : List ℕ). set (set l (3 * (before + j) + 1) y) (3 * (before + j) + 2) z) one
    ∙ ap (λ (l : List ℕ). set l (3 * (before + j) + 2) z) two
    ∙ three
    ∙ ap (paste out (3 * before) s) all

-- one triplet more, as the body of the loop over triplets stores it
pub again : (pool out o : List ℕ) (off before j y z : ℕ) → o ≡ paste out (3 * before) (map (moved before) (drop (3 * off) pool)) (3 * j)
    → y ≡ moved before (y_at pool (off + j)) → z ≡ moved before (z_at pool (off + j))
    → 3 * (off + j) + 2 < length pool → 3 * (before + j) + 2 < length out → kind_at pool (off + j) ≤ 1
    → put_at o (before + j) (kind_at pool (off + j)) y z ≡ paste out (3 * before) (map (moved before) (drop (3 * off) pool)) (3 * (j + 1))
again pool out o off before j y z e p q a b k = rw (e, p, q) (triplet-more pool out off before j a b k)

-- one number more, as the body of the loop over numbers stores it
pub number-again : (pool out o : List ℕ) (off before i x : ℕ) → o ≡ paste out (3 * before) (map (moved before) (drop (3 * off) pool)) i
    → x ≡ moved before (get_or pool (3 * off + i) 0) → 3 * off + i < length pool → 3 * before + i < length out
    → set o (3 * before + i) x ≡ paste out (3 * before) (map (moved before) (drop (3 * off) pool)) (i + 1)
number-again pool out o off before i x e p a b = rw (e, p) (number_more pool out off before i a b)

-- each number of the triplets is at most the largest literal, a kind too
pub each-small : (pool out : List ℕ) (off count before i : ℕ) → CopyAsks pool off count out before → i < 3 * count
    → get_or pool (3 * off + i) 0 ≤ literal_ceiling
each-small pool out off count before i a b =
    let j : ℕ = i / 3 in
    let c : j < count = omega arith in
    let of_literal : 1 ≤ i % 3 → get_or pool (3 * off + i) 0 ≤ literal_ceiling
    = λ (h : 1 ≤ i % 3). ⊎_elim
    (λ (k : i % 3 < 2). let at : 3 * off + i ≡ 3 * (off + j) + 1 = omega arith in rw at (a.ys j c))
    (λ (k : 2 ≤ i % 3). let at : 3 * off + i ≡ 3 * (off + j) + 2 = omega arith in rw at (a.zs j c))
    (lt-or-ge (i % 3) 2) in
    ⊎_elim
    (λ (h : i % 3 < 1). let at : 3 * off + i ≡ 3 * (off + j) = omega arith in rw at (omega (arith, a.kinds j c)))
    of_literal
    (lt-or-ge (i % 3) 1)

-- all of them
pub copied : (pool out out' : List ℕ) (off count before : ℕ) → CopyAsks pool off count out before
    → out' ≡ paste out (3 * before) (map (moved before) (drop (3 * off) pool)) (3 * count) → Copied pool off count out before out'
copied pool out out' off count before a e =
    let s : List ℕ = map (moved before) (drop (3 * off) pool) in
    let long : length s ≡ length (drop (3 * off) pool) = length-map (drop (3 * off) pool) (moved before) in
    let enough : 3 * count ≤ length s = omega (arith, long, length-drop (3 * off) pool, a.stands, a.table) in
    let sum : 3 * (before + count) ≡ 3 * before + 3 * count = omega arith in
    record {
      room = rw e (length-paste out (3 * before) s (3 * count) (omega (arith, a.room, a.fits)) enough) ∙ a.room;
      written =
          rw (e, sum) (take-paste out (3 * before) s (3 * count) (omega (arith, a.room, a.fits)) enough)
          ∙ ap (λ (x : List ℕ). take (3 * before) out ++ x) (take-map (moved before) (3 * count) (drop (3 * off) pool));
    }

-- whichever loop has copied the triplets
pub laid : (pool out o out' : List ℕ) (off count root before r : ℕ) → out' ≡ o → Copied pool off count out before o → r ≡ moved before root
    → Laid pool off count root out before out' r
laid pool out o out' off count root before r e d l = record {
  copied = rw e d;
  literal = l;
}

-- ---- a guard of the pool
module _ (n total off count root before : ℕ) (g : Guard) (pool : List ℕ) (few : n ≤ flag_ceiling) (h : Held n g total off count root pool)
    (fits : before + connectives g ≤ connective_ceiling) where
  -- a number of its triplets is that of the pool
  there : (i : ℕ) → i < 3 * connectives g → get_or (numbers (triplets 0 g)) i 0 ≡ get_or pool (3 * off + i) 0
  there i b =
      ap (λ (l : List ℕ). get_or l i 0) (sym h.stands) ∙ get_or-take (3 * connectives g) (drop (3 * off) pool) i 0 b ∙ get_or-drop (3 * off) pool i 0

  named : (j l : ℕ) → j < connectives g → Names n j l → l ≤ literal_ceiling
  named j l b = named_small n j l few (omega arith)

  -- what laying it asks
  pub held_asks : (out : List ℕ) → total ≤ connective_ceiling → length pool ≡ 3 * connective_ceiling → length out ≡ 3 * connective_ceiling
      → LayAsks pool off count root out before
  held_asks out t p o =
      let s : Shape n (connectives g) (numbers (triplets 0 g)) = shaped n g h.within in
      record {
        copy = record {
          table = p;
          stands = omega (arith, h.inside, h.count);
          room = o;
          fits = omega (arith, h.count);
          kinds = λ j b. let c : j < connectives g = omega (arith, h.count, b) in
              let at : 3 * off + 3 * j ≡ 3 * (off + j) = omega arith in
              let e : kind_at (numbers (triplets 0 g)) j ≡ kind_at pool (off + j) = there (3 * j) (omega arith) ∙ ap (λ (i : ℕ). get_or pool i 0) at in
              rw (sym e) (s.kinds j c);
          ys = λ j b. let c : j < connectives g = omega (arith, h.count, b) in
              let at : 3 * off + (3 * j + 1) ≡ 3 * (off + j) + 1 = omega arith in
              let e : y_at (numbers (triplets 0 g)) j ≡ y_at pool (off + j) = there (3 * j + 1) (omega arith) ∙ ap (λ (i : ℕ). get_or pool i 0) at in
              rw (sym e) (named j (y_at (numbers (triplets 0 g)) j) c (s.ys j c));
          zs = λ j b. let c : j < connectives g = omega (arith, h.count, b) in
              let at : 3 * off + (3 * j + 2) ≡ 3 * (off + j) + 2 = omega arith in
              let e : z_at (numbers (triplets 0 g)) j ≡ z_at pool (off + j) = there (3 * j + 2) (omega arith) ∙ ap (λ (i : ℕ). get_or pool i 0) at in
              rw (sym e) (named j (z_at (numbers (triplets 0 g)) j) c (s.zs j c));
        };
        small = rw h.root (named_small n (connectives g) (literal 0 g) few (omega arith) (root-named n g h.within));
      }

  -- its root is at most the largest literal where it has been moved, too
  moved-small : (l : ℕ) → Names n (connectives g) l → moved before l ≤ literal_ceiling
  moved-small l =
      ⊎_elim
      (λ (p : l / 2 ≤ n). rw (stays before l (omega (arith, few))) (omega (arith, few)))
      (λ (p : (triplet_variable 0 < l / 2) × (l / 2 ≤ triplet_variable (connectives g))). rw (moves before l (omega (arith, p.0))) (omega (arith, p.1)))

  -- once laid it is written behind the others
  pub lays : (out out' : List ℕ) (r : ℕ) → Laid pool off count root out before out' r → Writes before (before + count) out out' g r
  lays out out' r d =
      let z : 0 + before ≡ before = omega arith in
      let one : literal before g ≡ moved before (literal 0 g) = ap (λ (k : ℕ). literal k g) (sym z) ∙ literal-moved n few 0 before g h.within in
      let all : triplets before g ≡ moved_all before (triplets 0 g)
      = ap (λ (k : ℕ). triplets k g) (sym z) ∙ triplets-moved n few 0 before g h.within in
      let is : r ≡ moved before (literal 0 g) = d.literal ∙ ap (moved before) h.root in
      record {
        literal = is ∙ sym one;
        small = rw is (moved-small (literal 0 g) (root-named n g h.within));
        count = ap (λ (k : ℕ). before + k) h.count;
        written =
            d.copied.written
            ∙ ap (λ (x : List ℕ). take (3 * before) out ++ x)
            (ap (λ (k : ℕ). map (moved before) (take (3 * k) (drop (3 * off) pool))) h.count ∙ ap (map (moved before)) h.stands
            ∙ sym (numbers-moved 0 before g) ∙ sym (ap numbers all));
      }
