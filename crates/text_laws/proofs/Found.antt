-- Where the walk accepts a text, the grammar finds its guard and leaves no token.
use Prim.Native.Nat.{ℕ, zero, suc, ◌+◌, ◌-◌, ◌≤◌, ◌<◌}
use native.Mathlib.Omega.{arith}
use mathlib.Core.Path.{◌≡◌, refl, sym, ap, subst, ◌∙◌}
use mathlib.Core.Logic.{⊎_elim}
use mathlib.Core.Bool.{Bool, true, false}
use mathlib.Core.List.{List, [], ◌∷◌, append-nil}
use lib.ListN.{length}
use lib.Dec.{leb, eqb}
use borrow.Author.Tests.{le-leb, leb-true}
use Rattle.notation.specs.Ceilings.{bracket_ceiling, flag_ceiling, connective_ceiling, text_ceiling}
use Rattle.notation.specs.Tokens.{Code, Tokens, stray, long, code, hash, bang, sign, opening, closing, end, at, token_of, further, tokens_from, tokens}
use Rattle.notation.specs.Walk.{Flag, seen, Outcome, refused, accepted, walk, operand, after, within}
use Rattle.notation.specs.Guard.{Guard, flag, truth, negated, connectives}
use Rattle.notation.specs.Grammar.{Parsed, found, follow, number, closed, same_of, operand_of, in_brackets, tree_of, tree}
use Rattle.notation.specs.Reading.{refusal, guard, judged, reading}
use Rattle.ground.proofs.Cases.{either}
use Rattle.notation.proofs.Accepted.{not-accepted, within-accepted, within-kept}
use Rattle.notation.specs.declared.refusal.Reason.TheVariants.{LongText, StrayByte, LongCode, OutOfPlace, ManyBrackets, ManyFlags}
use Rattle.levels.specs.clauses.Levels.{plain, operands_at}
use Rattle.operands.proofs.Operands.{no-tighter}
use Rattle.text_laws.specs.Texts.{whole, code_of, leaves, seen_at}
use Rattle.text_laws.proofs.Accepting.{Closing, closing-is, Ended, end_is}
use Rattle.text_laws.proofs.Passing.{size, end_place, numbers_at, Passes, passes-one, passes_on}
use Rattle.text_laws.proofs.Taking.{Takes, Taking, levels-take}

-- ---- operands
module _ (d : ℕ) (u : List Flag) (m p : ℕ) (ts : Tokens) where
  code-takes : (c : Code) → length (seen p c u) ≤ flag_ceiling → Takes (plain (operands_at d)) d 0 u m (at p (code c) ts)
  unfolding operand_of walk within connectives leaves code_of seen_at numbers_at
  code-takes c h = record {
    guard = flag (number c u);
    flags = seen p c u;
    signs = m;
    rest = ts;
    reads = record {
      parsed = λ f l. refl;
      walked = rw (le-leb (length (seen p c u)) flag_ceiling h);
      signs = omega arith;
      stops = λ t l. absurd (no-tighter t l);
    };
    passes = passes-one u p (code c) ts;
  }

  truth-takes : (b : Bool) → Takes (plain (operands_at d)) d 0 u m (at p (hash b) ts)
  unfolding operand_of walk connectives leaves code_of seen_at numbers_at
  truth-takes b = record {
    guard = truth b;
    flags = u;
    signs = m;
    rest = ts;
    reads = record { parsed = λ f l. refl; walked = refl; signs = omega arith; stops = λ t l. absurd (no-tighter t l) };
    passes = passes-one u p (hash b) ts;
  }

  bang-takes : Takes (plain (operands_at d)) d 0 u m ts → Takes (plain (operands_at d)) d 0 u m (at p bang ts)
  unfolding operand_of follow walk connectives leaves code_of seen_at numbers_at
  bang-takes t = record {
    guard = negated t.guard;
    flags = t.flags;
    signs = t.signs;
    rest = t.rest;
    reads = record {
      parsed = λ f l. ap (λ (x : Parsed). follow x (λ g v us. found (negated g) v us)) (t.reads.parsed f l);
      walked = t.reads.walked;
      signs = t.reads.signs;
      stops = t.reads.stops;
    };
    passes = passes_on (passes-one u p bang ts) t.passes;
  }

  -- a guard in brackets, and the closing bracket behind it
  closed-takes : (t : Takes (plain (same_of (operands_at (suc d)))) (suc d) 4 u m ts) → suc d ≤ bracket_ceiling → Closing t.rest →
      Takes (plain (operands_at d)) d 0 u m (at p opening ts)
  unfolding operand_of in_brackets follow closed walk within code_of seen_at numbers_at
  closed-takes t h c =
      let less : bracket_ceiling - d ≡ suc (bracket_ceiling - suc d) = omega arith in
      let passed : Passes t.flags t.rest [] t.flags c.rest =
      subst (λ (x : Tokens). Passes t.flags x [] t.flags c.rest) (sym c.is) (passes-one t.flags c.place closing c.rest) in
      record {
        guard = t.guard;
        flags = t.flags;
        signs = t.signs;
        rest = c.rest;
        reads = record {
          parsed = λ f l.
              ap (λ (n : ℕ). follow (in_brackets n u ts) (λ g v us. closed g v us)) less
              ∙ ap (λ (x : Parsed). follow x (λ g v us. closed g v us)) (t.reads.parsed f l)
              ∙ ap (closed t.guard t.flags) c.is;
          walked = rw (le-leb (suc d) bracket_ceiling h) (t.reads.walked ∙ ap (walk after (suc d) t.flags t.signs) c.is);
          signs = t.reads.signs;
          stops = λ s l. absurd (no-tighter s l);
        };
        passes =
            subst (λ (l : List ℕ). Passes u (at p opening ts) l t.flags c.rest) (append-nil (leaves t.guard))
            (passes_on (passes-one u p opening ts) (passes_on t.passes passed));
      }

  bracket-takes : (n : ℕ) (w : List Flag) (j : ℕ) → size ts < n → Taking (plain (same_of (operands_at (suc d)))) (suc d) 4 n →
      walk operand d u m (at p opening ts) ≡ accepted w j → Takes (plain (operands_at d)) d 0 u m (at p opening ts)
  unfolding walk
  bracket-takes n w j l o e =
      let fits : suc d ≤ bracket_ceiling = within-kept (suc d) bracket_ceiling ManyBrackets p (walk operand (suc d) u m ts) w j e in
      let on : walk operand (suc d) u m ts ≡ accepted w j = within-accepted (suc d) bracket_ceiling ManyBrackets p (walk operand (suc d) u m ts) w j e in
      let t : Takes (plain (same_of (operands_at (suc d)))) (suc d) 4 u m ts = o u m ts w j l on in
      closed-takes t fits (closing-is d t.flags t.signs t.rest w j t.reads.stops (sym t.reads.walked ∙ on))

operands-take : (n d : ℕ) → Taking (plain (operands_at d)) d 0 n
unfolding walk size
operands-take zero d u m ts w j l e = absurd (omega arith)
operands-take (suc n) d u m (end p) w j l e = absurd (not-accepted OutOfPlace p w j e)
operands-take (suc n) d u m (at p stray ts) w j l e = absurd (not-accepted StrayByte p w j e)
operands-take (suc n) d u m (at p long ts) w j l e = absurd (not-accepted LongCode p w j e)
operands-take (suc n) d u m (at p (code c) ts) w j l e =
    code-takes d u m p ts c (within-kept (length (seen p c u)) flag_ceiling ManyFlags p (walk after d (seen p c u) m ts) w j e)
operands-take (suc n) d u m (at p (hash b) ts) w j l e = truth-takes d u m p ts b
operands-take (suc n) d u m (at p bang ts) w j l e = bang-takes d u m p ts (operands-take n d u m ts w j (omega arith) e)
operands-take (suc n) d u m (at p (sign s) ts) w j l e = absurd (not-accepted OutOfPlace p w j e)
operands-take (suc n) d u m (at p opening ts) w j l e =
    bracket-takes d u m p ts n w j (omega arith) (levels-take (operands_at (suc d)) (suc d) n (operands-take n (suc d))) e
operands-take (suc n) d u m (at p closing ts) w j l e = absurd (not-accepted OutOfPlace p w j e)

-- ---- a whole text
-- the text ends where its bytes do
by-space : (b : Bool) (x y : Tokens) (n : ℕ) → end_place x ≡ n → end_place y ≡ n → end_place (elim b [ true ↦ x | false ↦ y ]) ≡ n
by-space true x y n e f = e
by-space false x y n e f = f

end-from : (p k : ℕ) (bs : List ℕ) → end_place (tokens_from p k bs) ≡ p + length bs
unfolding end_place tokens_from
end-from p k [] = omega arith
end-from p zero (b ∷ bs) =
    by-space (eqb b 32) (tokens_from (suc p) 0 bs) (at p (token_of b bs) (tokens_from (suc p) (further (token_of b bs)) bs)) (p + length (b ∷ bs))
    (omega (arith, end-from (suc p) 0 bs)) (omega (arith, end-from (suc p) (further (token_of b bs)) bs))
end-from p (suc k) (b ∷ bs) = omega (arith, end-from (suc p) k bs)

text-end : (text : List ℕ) → end_place (tokens text) ≡ length text
unfolding tokens
text-end text = omega (arith, end-from 0 0 text)

-- the tokens say one guard with the flags u and m connectives, and no token is left
pub record Whole (ts : Tokens) (u : List Flag) (m : ℕ) : Type 0 where
  pub guard : Guard
  pub parsed : whole [] ts ≡ found guard u (end (end_place ts))
  pub signs : connectives guard ≡ m
  pub passes : Passes [] ts (leaves guard) u (end (end_place ts))

ended-whole : (ts : Tokens) (u : List Flag) (m : ℕ) (t : Takes (plain (same_of (operands_at 0))) 0 4 [] 0 ts) →
    Ended t.flags t.signs t.rest u m → Whole ts u m
unfolding end_place
ended-whole ts u m t r =
    let last : t.rest ≡ end (end_place ts) = r.is ∙ ap end (sym (ap end_place r.is) ∙ t.passes.ends) in
    record {
      guard = t.guard;
      parsed =
          t.reads.parsed connective_ceiling (omega arith) ∙ ap (λ (v : List Flag). found t.guard v t.rest) r.flags
          ∙ ap (found t.guard u) last;
      signs = omega (arith, t.reads.signs, r.signs);
      passes =
          subst (λ (us : Tokens). Passes [] ts (leaves t.guard) u us) last
          (subst (λ (v : List Flag). Passes [] ts (leaves t.guard) v t.rest) r.flags t.passes);
    }

pub walk-whole : (ts : Tokens) (u : List Flag) (m : ℕ) → walk operand 0 [] 0 ts ≡ accepted u m → Whole ts u m
walk-whole ts u m e =
    let n : ℕ = suc (size ts) in
    let t : Takes (plain (same_of (operands_at 0))) 0 4 [] 0 ts = levels-take (operands_at 0) 0 n (operands-take n 0) [] 0 ts u m (omega arith) e in
    ended-whole ts u m t (end_is t.flags t.signs t.rest u m t.reads.stops (sym t.reads.walked ∙ e))

-- where the walk accepts a text, the grammar finds a guard with the same flags and connectives, and the text ends there
pub walk-found : (text : List ℕ) (u : List Flag) (m : ℕ) → walk operand 0 [] 0 (tokens text) ≡ accepted u m →
    (g : Guard) × (whole [] (tokens text) ≡ found g u (end (length text))) × (connectives g ≡ m)
walk-found text u m e =
    let w : Whole (tokens text) u m = walk-whole (tokens text) u m e in
    (w.guard, w.parsed ∙ ap (λ (p : ℕ). found w.guard u (end p)) (text-end text), w.signs)

-- a text that is read: the walk accepts it, and its guard is what the grammar finds
pub record Read (text : List ℕ) (g : Guard) (u : List Flag) : Type 0 where
  pub few : length text ≤ text_ceiling
  pub walked : walk operand 0 [] 0 (tokens text) ≡ accepted u (connectives g)
  pub parsed : whole [] (tokens text) ≡ found g u (end (length text))
  pub passes : Passes [] (tokens text) (leaves g) u (end (length text))

judged-read : (text : List ℕ) → length text ≤ text_ceiling → (o : Outcome) → o ≡ walk operand 0 [] 0 (tokens text) → (g : Guard) (u : List Flag)
    →
    judged o (tree (tokens text)) ≡ guard g u → Read text g u
unfolding judged tree tree_of
judged-read text l (refused k p) q g u e = let z : ◌≡◌ {A = ℕ} 0 1 = cc in absurd (omega arith)
judged-read text l (accepted v m) q g u e =
    let same_flags : v ≡ u = cc in
    let same-tree : tree_of (whole [] (tokens text)) ≡ g = cc in
    let w : Whole (tokens text) v m = walk-whole (tokens text) v m (sym q) in
    let is : w.guard ≡ g = sym (ap tree_of w.parsed) ∙ same-tree in
    let there : end_place (tokens text) ≡ length text = text-end text in
    record {
      few = l;
      walked = sym q ∙ ap (λ (x : List Flag). accepted x m) same_flags ∙ ap (accepted u) (sym w.signs ∙ ap connectives is);
      parsed = w.parsed ∙ ap (λ (h : Guard). found h v (end (end_place (tokens text)))) is
          ∙ ap (λ (x : List Flag). found g x (end (end_place (tokens text)))) same_flags ∙ ap (λ (p : ℕ). found g u (end p)) there;
      passes =
          subst (λ (p : ℕ). Passes [] (tokens text) (leaves g) u (end p)) there
          (subst (λ (x : List Flag). Passes [] (tokens text) (leaves g) x (end (end_place (tokens text)))) same_flags
          (subst (λ (h : Guard). Passes [] (tokens text) (leaves h) v (end (end_place (tokens text)))) is w.passes));
    }

pub is_read : (text : List ℕ) (g : Guard) (u : List Flag) → reading text ≡ guard g u → Read text g u
unfolding reading
is_read text g u e =
    ⊎_elim
    (λ (h : leb (length text) text_ceiling ≡ true).
    judged-read text (leb-true (length text) text_ceiling h) (walk operand 0 [] 0 (tokens text)) refl g u (rw h at e))
    (λ (h : leb (length text) text_ceiling ≡ false).
    let r : refusal LongText text_ceiling ≡ guard g u = rw h at e in
    let z : ◌≡◌ {A = ℕ} 0 1 = cc in
    absurd (omega arith))
    (either (leb (length text) text_ceiling))

-- the guard that reading gives is what the grammar finds in the whole text, and the walk accepts it with the same flags and its connectives
pub reading-found : (text : List ℕ) (g : Guard) (u : List Flag) → reading text ≡ guard g u →
    (whole [] (tokens text) ≡ found g u (end (length text))) × (walk operand 0 [] 0 (tokens text) ≡ accepted u (connectives g))
reading-found text g u e = let r : Read text g u = is_read text g u e in (r.parsed, r.walked)
