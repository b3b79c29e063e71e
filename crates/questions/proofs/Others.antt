-- Joining the other variants by `|`, from the left.
use Prim.Native.Nat.{ℕ, suc, ◌+◌, ◌≤◌, ◌<◌}
use native.Mathlib.Omega.{arith}
use mathlib.Core.Path.{◌≡◌, refl, sym, ap, subst, ◌∙◌}
use mathlib.Core.Bool.{false}
use mathlib.Core.List.{List, [], ◌∷◌, ◌++◌}
use lib.ListN.{length, get_or, take, drop, length-drop}
use lib.Seq.{drop-cons, take-suc, take_all}
use Rattle.notation.specs.Ceilings.{connective_ceiling}
use Rattle.notation.specs.Tokens.{or}
use Rattle.notation.specs.Guard.{Guard, truth, joined, connectives}
use Rattle.notation.specs.Triplets.{literal_ceiling, literal_of, triplet_variable, triplet_of}
use Rattle.notation.specs.clauses.Writing.{triplet_at}
use Rattle.levels.specs.clauses.Levels.{Writes}
use Rattle.building.specs.declared.spans.GuardSpan.{GuardSpan}
use Rattle.questions.proofs.Written.{own-small}
use Rattle.levels.proofs.Written.{writes-joined}
use Rattle.questions.specs.Questions.{or_all, sum_of}
use Rattle.questions.specs.clauses.Laying.{Ready, LayGuardAsks, LayGuardSays, Others, OthersAsk, OthersLaid, Grown}
use Rattle.questions.specs.declared.Built.{Built}
use Rattle.questions.proofs.Guards.{tied-room}

or-snoc : (g h : Guard) (hs : List Guard) → or_all g (hs ++ (h ∷ [])) ≡ joined or (or_all g hs) h
unfolding or_all
or-snoc g h [] = refl
or-snoc g h (x ∷ hs) = or-snoc (joined or g x) h hs

sum_drop : (hs : List Guard) (m : ℕ) → m < length hs → sum_of (drop m hs) ≡ connectives (get_or hs m (truth false)) + sum_of (drop (suc m) hs)
unfolding sum_of
sum_drop hs m h = ap (λ (l : List Guard). sum_of l) (drop-cons hs m (truth false) h)

module _ (pool : List ℕ) (spans : List GuardSpan) (variants : ℕ) (out : List ℕ) (start : Built) (a : OthersAsk pool spans variants out start) where
  pub grown-start : Grown pool spans variants out start out start.count start.root 2
  unfolding or_all
  grown-start = record {
    m = 0;
    reached = refl;
    high = omega (arith, a.many);
    room = a.rooms.out;
    small = a.small;
    bound = λ n hs r e f. f;
    laid = λ n c o g hs r e f w. w;
  }

  module _ (out' : List ℕ) (count root k : ℕ) (s : Grown pool spans variants out start out' count root k) where
    pub done : variants < k → OthersLaid pool spans variants out start out' (record { count = count; root = root })
    done h = record {
      room = s.room;
      writes = λ n c o g hs r e f w.
          let whole : take s.m hs ≡ hs = take_all s.m hs (omega (arith, s.reached)) in
          rw whole at (s.laid n c o g hs r e f w);
    }

    module _ (h : k ≤ variants) where
      next : (hs : List Guard) → length hs + 1 ≡ variants → s.m < length hs
      next hs e = omega (arith, s.reached)

      ready-k : (n : ℕ) (hs : List Guard) → Others pool spans n hs → length hs + 1 ≡ variants → Ready pool spans k n (get_or hs s.m (truth false))
      ready-k n hs r e =
          subst (λ (j : ℕ). Ready pool spans j n (get_or hs s.m (truth false))) (sym s.reached) (r s.m (next hs e))

      room-k : (n : ℕ) (hs : List Guard) → Others pool spans n hs → length hs + 1 ≡ variants
          → start.count + sum_of hs + length hs ≤ connective_ceiling
          → count + connectives (get_or hs s.m (truth false)) + 1 + sum_of (drop (suc s.m) hs) + length (drop (suc s.m) hs) ≤ connective_ceiling
      room-k n hs r e f =
          omega (arith, next hs e, s.bound n hs r e f, sum_drop hs s.m (next hs e), length-drop s.m hs, length-drop (suc s.m) hs)

      -- the room that is asked for
      own : count + connectives (get_or a.hs s.m (truth false)) + 1 ≤ connective_ceiling
      own = omega (arith, room-k a.n a.hs a.ready a.many a.fits)

      pub asks-next : LayGuardAsks pool spans k out' count
      asks-next = record {
        n = a.n;
        guard = get_or a.hs s.m (truth false);
        ready = ready-k a.n a.hs a.ready a.many;
        known = omega (arith, a.most);
        rooms = record { pool = a.rooms.pool; spans = a.rooms.spans; out = s.room };
        fits = omega (arith, own);
      }

      module _ (o' : List ℕ) (b : Built) (l : LayGuardSays pool spans k out' count o' b) where
        -- variant k is written behind what has been joined
        second : (n : ℕ) (hs : List Guard) → Others pool spans n hs → length hs + 1 ≡ variants
            → start.count + sum_of hs + length hs ≤ connective_ceiling
            → Writes count b.count out' o' (get_or hs s.m (truth false)) b.root
        second n hs r e f = l.writes n (get_or hs s.m (truth false)) (ready-k n hs r e) (omega (arith, room-k n hs r e f))

        pub more-fits : b.count + 1 ≤ connective_ceiling
        more-fits = omega (arith, own, (second a.n a.hs a.ready a.many a.fits).count)

        pub right-small : b.root ≤ literal_ceiling
        right-small = (second a.n a.hs a.ready a.many a.fits).small

        pub grown-more : (o'' : List ℕ) (root' : ℕ)
            → root' ≡ literal_of or (triplet_variable (b.count + 1)) → o'' ≡ triplet_at o' b.count (triplet_of or root b.root)
            → Grown pool spans variants out start o'' (b.count + 1) root' (k + 1)
        grown-more o'' root' e₃ e₄ = record {
          m = suc s.m;
          reached = omega (arith, s.reached);
          high = omega arith;
          room = tied-room o' o'' b.count (triplet_of or root b.root) e₄ l.room;
          small = rw e₃ (own-small or (b.count + 1) more-fits);
          bound = λ n hs r e f. omega (arith, room-k n hs r e f, (second n hs r e f).count);
          laid = λ n c o g hs r e f w.
              let h' : Guard = get_or hs s.m (truth false) in
              let g' : Guard = or_all g (take s.m hs) in
              let both : Writes c (b.count + 1) o (triplet_at o' b.count (triplet_of or root b.root)) (joined or g' h')
              (literal_of or (triplet_variable (b.count + 1)))
              = writes-joined or c count b.count o out' o' g' h' root b.root (s.laid n c o g hs r e f w) (second n hs r e f)
              (omega (arith, more-fits)) l.room in
              let all : or_all g (take (suc s.m) hs) ≡ joined or g' h'
              = ap (or_all g) (take-suc hs s.m (truth false) (next hs e)) ∙ or-snoc g h' (take s.m hs) in
              rw (all, e₄, e₃) both;
        }
