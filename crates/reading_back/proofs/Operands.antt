-- The operands read back: a code, `#0` and `#1`, `!` before an operand, and a guard in brackets.
use Prim.Native.Nat.{ℕ, suc, ◌+◌, ◌-◌, ◌≤◌, ◌<◌}
use native.Mathlib.Omega.{arith}
use mathlib.Core.Path.{◌≡◌, refl, ap, ◌∙◌}
use mathlib.Core.Bool.{Bool}
use mathlib.Core.List.{List, [], ◌∷◌, ◌++◌, append_assoc}
use lib.ListN.{length, take, drop, length-append}
use lib.Seq.{take_at}
use borrow.Author.Tests.{le-leb}
use Rattle.notation.specs.Ceilings.{bracket_ceiling, flag_ceiling}
use Rattle.notation.specs.Tokens.{Code, Tokens, code, bang, opening, closing, at, tokens_from}
use Rattle.ground.specs.Choice.{choose}
use Rattle.notation.specs.Walk.{Flag, seen, walk, operand, after, within}
use Rattle.notation.specs.Guard.{Guard, flag, truth, negated, connectives}
use Rattle.notation.specs.Grammar.{Level, Parsed, found, follow, number, closed, operand_of, in_brackets, same_of}
use Rattle.levels.specs.clauses.Levels.{plain, operands_at}
use Rattle.operands.proofs.Operands.{no-tighter}
use Rattle.reading_back.specs.Written.{Stands, met, order, place_in, renamed, written, Placed, WithinCeilings}
use Rattle.reading_back.proofs.Codes.{matches-length, matches-seen, number_is, begins-length}
use Rattle.reading_back.proofs.Cutting.{code-cut, hash-cut, bang-cut, opening-cut, closing-cut, closing-parted, closing-stops}
use Rattle.reading_back.proofs.Levels.{After, Met, numbered, ReadsAs, after-part, after-byte}

-- ---- one step of the walk and of the grammar
code-walked : (d : ℕ) (u : List Flag) (m p : ℕ) (c : Code) (ts : Tokens) → length (seen p c u) ≤ flag_ceiling →
    walk operand d u m (at p (code c) ts) ≡ walk after d (seen p c u) m ts
unfolding walk within
code-walked d u m p c ts h = rw (le-leb (length (seen p c u)) flag_ceiling h)

opening-walked : (d : ℕ) (u : List Flag) (m p : ℕ) (ts : Tokens) → d < bracket_ceiling → walk operand d u m (at p opening ts) ≡ walk operand (suc d)
    u m ts
unfolding walk within
opening-walked d u m p ts h = rw (le-leb (suc d) bracket_ceiling h)

closing-walked : (d : ℕ) (u : List Flag) (m p : ℕ) (ts : Tokens) → walk after (suc d) u m (at p closing ts) ≡ walk after d u m ts
unfolding walk
closing-walked d u m p ts = refl

code-parsed : (inner : Level) (u : List Flag) (p : ℕ) (c : Code) (ts : Tokens) → operand_of inner u (at p (code c) ts) ≡ found (flag (number c u))
    (seen p c u) ts
unfolding operand_of
code-parsed inner u p c ts = refl

bang-parsed : (inner : Level) (u : List Flag) (p : ℕ) (ts : Tokens) (g : Guard) (v : List Flag) (us : Tokens) → operand_of inner u ts ≡ found g v us →
    operand_of inner u (at p bang ts) ≡ found (negated g) v us
unfolding operand_of follow
bang-parsed inner u p ts g v us e = ap (λ (x : Parsed). follow x (λ y w ws. found (negated y) w ws)) e

bracket-parsed : (d : ℕ) (u : List Flag) (p q : ℕ) (ts : Tokens) (g : Guard) (v : List Flag) (us : Tokens) → d < bracket_ceiling →
    same_of (operands_at (suc d)) u ts ≡ found g v (at q closing us) → operands_at d u (at p opening ts) ≡ found g v us
unfolding operand_of in_brackets follow closed
bracket-parsed d u p q ts g v us h e =
    let less : bracket_ceiling - d ≡ suc (bracket_ceiling - suc d) = omega arith in
    ap (λ (n : ℕ). follow (in_brackets n u ts) (λ x y zs. closed x y zs)) less ∙ ap (λ (x : Parsed). follow x (λ y w ws. closed y w ws)) e

module _ (codes : ℕ → Code) (whole : Guard) (ceilings : WithinCeilings codes whole) where
  -- what operands read
  abbrev pub OperandAs : ℕ → List ℕ → After → Guard → Type 0
  OperandAs n text sees g = ReadsAs codes whole ceilings (λ d. plain (operands_at d)) 0 n text sees g

  -- a code
  pub flag-back : (i : ℕ) → Stands i whole → OperandAs 0 (codes i) (λ p u. seen p (codes i) u) (flag i)
  unfolding renamed connectives
  flag-back i st d m p w u rest a =
      let all = order whole in
      let P : ℕ → Type 0 = λ j. Stands j whole in
      let Q : Flag → Type 0 = Placed (written codes 0 whole) in
      let stands : take (length (codes i)) (drop p (written codes 0 whole)) ≡ codes i
      = ap (take (length (codes i))) a.here ∙ take_at (codes i) rest (length (codes i)) refl in
      let v : Met codes whole ceilings (met w (flag i)) (seen p (codes i) u) = matches-seen codes P Q ceilings.apart i p st stands a.matches in
      let is : number (codes i) u ≡ place_in all i = number_is codes P Q ceilings.apart i all st a.matches a.begins in
      let few : length (seen p (codes i) u) ≤ flag_ceiling
      = omega (arith, matches-length codes P Q ceilings.apart v, begins-length (met w (flag i)) all a.begins, ceilings.flags) in
      let ts : Tokens = tokens_from (p + length (codes i)) 0 rest in
      let cut = code-cut p (codes i) rest (ceilings.coded i st) a.parted in
      record {
        flags = seen p (codes i) u;
        count = m;
        place = p + length (codes i);
        flags_are = refl;
        place_is = refl;
        there = after-part (written codes 0 whole) (codes i) rest p a.here;
        matches = v;
        holds = record {
          parsed = λ f h. rw cut (code-parsed (in_brackets (bracket_ceiling - d)) u p (codes i) ts ∙ ap
              (λ (j : ℕ). found (flag j) (seen p (codes i) u) ts) is);
          walked = rw cut (code-walked d u m p (codes i) ts few);
          signs = omega arith;
          stops = λ t h. absurd (no-tighter t h);
        };
      }

  -- `#0` and `#1`
  pub truth-back : (b : Bool) → OperandAs 0 (35 ∷ choose b 49 48 ∷ []) (λ p u. u) (truth b)
  unfolding renamed connectives met operand_of walk
  truth-back b d m p w u rest a = record {
    flags = u;
    count = m;
    place = suc (suc p);
    flags_are = refl;
    place_is = omega arith;
    there = after-byte (written codes 0 whole) (choose b 49 48) rest (suc p) (after-byte (written codes 0 whole) 35 (choose b 49 48 ∷ rest) p a.here);
    matches = a.matches;
    holds = record {
      parsed = λ f h. ap (operands_at d u) (hash-cut p b rest);
      walked = ap (walk operand d u m) (hash-cut p b rest);
      signs = omega arith;
      stops = λ t h. absurd (no-tighter t h);
    };
  }

  -- `!` and an operand
  pub negated_back : {n : ℕ} {text : List ℕ} {sees : After} {g : Guard} → OperandAs n text sees g → OperandAs n (33 ∷ text) (λ p u. sees (suc p) u)
      (negated g)
  unfolding renamed connectives met walk
  negated_back {n} {text} {sees} {g} r d m p w u rest a =
      let x = r d m (suc p) w u rest (record {
        here = after-byte (written codes 0 whole) 33 (text ++ rest) p a.here;
        brackets = a.brackets;
        signs = a.signs;
        matches = a.matches;
        begins = a.begins;
        parted = a.parted;
        stops = a.stops;
      }) in
      record {
        flags = x.flags;
        count = x.count;
        place = x.place;
        flags_are = x.flags_are;
        place_is = omega (arith, x.place_is);
        there = x.there;
        matches = x.matches;
        holds = record {
          parsed = λ f h. rw (bang-cut p (text ++ rest)) (bang-parsed (in_brackets (bracket_ceiling - d)) u p _ _ _ _ (x.holds.parsed f h));
          walked = rw (bang-cut p (text ++ rest)) x.holds.walked;
          signs = x.holds.signs;
          stops = x.holds.stops;
        };
      }

  -- a guard in brackets
  pub bracket-back : {n : ℕ} {text : List ℕ} {sees : After} {g : Guard} → ReadsAs codes whole ceilings (λ d. plain (same_of (operands_at d))) 4 n text
      sees g →
      OperandAs (1 + n) (40 ∷ (text ++ (41 ∷ []))) (λ p u. sees (suc p) u) g
  bracket-back {n} {text} {sees} {g} r d m p w u rest a =
      let regrouped : (text ++ (41 ∷ [])) ++ rest ≡ text ++ (41 ∷ rest) = append_assoc text (41 ∷ []) rest in
      let x = r (suc d) m (suc p) w u (41 ∷ rest) (record {
        here = after-byte (written codes 0 whole) 40 ((text ++ (41 ∷ [])) ++ rest) p a.here ∙ regrouped;
        brackets = omega (arith, a.brackets);
        signs = a.signs;
        matches = a.matches;
        begins = a.begins;
        parted = closing-parted rest;
        stops = closing-stops 4 rest;
      }) in
      let room : d < bracket_ceiling = omega (arith, a.brackets) in
      let cut = opening-cut p ((text ++ (41 ∷ [])) ++ rest) ∙ ap (λ (l : List ℕ). at p opening (tokens_from (suc p) 0 l)) regrouped in
      let shut = closing-cut x.place rest in
      record {
        flags = x.flags;
        count = x.count;
        place = suc x.place;
        flags_are = x.flags_are;
        place_is = omega (arith, x.place_is, length-append text (41 ∷ []));
        there = after-byte (written codes 0 whole) 41 rest x.place x.there;
        matches = x.matches;
        holds = record {
          parsed = λ f h. rw cut (bracket-parsed d u p x.place _ _ _ _ room
              (x.holds.parsed f h ∙ ap (λ (ts : Tokens). found (numbered codes whole ceilings g) x.flags ts) shut));
          walked = rw cut (opening-walked d u m p _ room ∙ x.holds.walked ∙ ap (walk after (suc d) x.flags x.count) shut ∙ closing-walked d
              x.flags x.count x.place _);
          signs = x.holds.signs;
          stops = λ t h. absurd (no-tighter t h);
        };
      }
