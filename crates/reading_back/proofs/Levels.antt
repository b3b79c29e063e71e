-- How the levels read what is written: a text that a level reads, wherever it stands, and the ways to make such texts of shorter ones.
use Prim.Native.Nat.{ℕ, suc, ◌+◌, ◌≤◌, ◌<◌, max}
use native.Mathlib.Nat.{le-max_left, le-max_right}
use native.Mathlib.Numerals.{add-one}
use native.Mathlib.Omega.{arith}
use mathlib.Core.Path.{◌≡◌, refl, sym, ap, ◌∙◌}
use mathlib.Core.List.{List, [], ◌∷◌, ◌++◌, append_assoc}
use lib.ListN.{length, drop, length-append}
use lib.Seq.{drop-drop, drop_at}
use Rattle.notation.specs.Ceilings.{connective_ceiling, bracket_ceiling}
use Rattle.notation.specs.Tokens.{Code, Sign, tokens_from}
use Rattle.notation.specs.Walk.{Flag}
use Rattle.notation.specs.Guard.{Guard, joined, connectives}
use Rattle.notation.specs.Grammar.{Level, left_level, right_level, to_the_right}
use Rattle.operands.specs.clauses.Steps.{binding}
use Rattle.levels.specs.clauses.Levels.{plain, Reads}
use Rattle.levels.proofs.Leveling.{Chain, chain_first, chain_more, chain-done, right-one, right-two}
use Rattle.levels.proofs.Written.{connectives-joined}
use Rattle.reading_back.specs.Written.{sign_byte, Stands, met, order, place_in, renamed, written, Placed, WithinCeilings}
use Rattle.reading_back.proofs.Codes.{Matches, Begins, begins-earlier}
use Rattle.reading_back.proofs.Cutting.{Parted, Stops, sign-parted, sign-stops, sign-next, sign-past}

-- other numbers for the flags leave the connectives
pub renamed-connectives : (f : ℕ → ℕ) (g : Guard) → connectives (renamed f g) ≡ connectives g
unfolding connectives renamed
renamed-connectives f (Guard.flag i) = refl
renamed-connectives f (Guard.truth b) = refl
renamed-connectives f (Guard.negated g) = renamed-connectives f g
renamed-connectives f (joined s g h) = rw (renamed-connectives f g, renamed-connectives f h)

-- the flags seen after a text, by its place and the flags seen before
abbrev pub After : Type 0
After = ℕ → List Flag → List Flag

-- after a text of n bytes, one byte more and a second text
abbrev pub after_both : ℕ → After → After → After
after_both n first second p u = second (suc (p + n)) (first p u)

-- what is seen after the second text, from what is seen after the first
both-seen : (v w u : List Flag) (p q n : ℕ) (a₁ a₂ : After) → v ≡ a₁ p u → q ≡ p + n → w ≡ a₂ (suc q) v → w ≡ after_both n a₁ a₂
    p u
both-seen v w u p q n a₁ a₂ e f k = cc

-- past what stands first in the bytes from a place on
pub after-part : (text c r : List ℕ) (q : ℕ) → drop q text ≡ c ++ r → drop (q + length c) text ≡ r
after-part text c r q e = sym (drop-drop (length c) q text) ∙ ap (drop (length c)) e ∙ drop_at c r (length c) refl

pub after-byte : (text : List ℕ) (b : ℕ) (r : List ℕ) (q : ℕ) → drop q text ≡ b ∷ r → drop (suc q) text ≡ r
after-byte text b r q e = rw (← add-one q) (after-part text (b ∷ []) r q e)

module _ (codes : ℕ → Code) (whole : Guard) (ceilings : WithinCeilings codes whole) where
  -- the codes seen are those of the flags w of the whole guard
  abbrev pub Met : List ℕ → List Flag → Type 0
  Met w u = Matches codes (λ i. Stands i whole) (Placed (written codes 0 whole)) ceilings.apart w u

  -- the bytes of the whole text from place p on
  abbrev pub from : ℕ → List ℕ
  from p = drop p (written codes 0 whole)

  -- a guard with its flags numbered as in the whole
  abbrev pub numbered : Guard → Guard
  numbered g = renamed (place_in (order whole)) g

  -- the text of the guard g may be read here, with n brackets more open at once, before a rest at which a level of tightness k stops
  pub record Ready (n k : ℕ) (g : Guard) (d m p : ℕ) (w : List ℕ) (u : List Flag) (text rest : List ℕ) : Type 0 where
    pub here : from p ≡ text ++ rest
    pub brackets : d + n ≤ bracket_ceiling
    pub signs : m + connectives g ≤ connective_ceiling
    pub matches : Met w u
    pub begins : Begins (met w g) (order whole)
    pub parted : Parted rest
    pub stops : Stops k rest

  -- the text of the guard g at place p ends before the rest, where R holds of the flags seen, the connectives counted and the place
  pub record Back (R : List Flag → ℕ → ℕ → Type 0) (p : ℕ) (w : List ℕ) (u : List Flag) (text rest : List ℕ) (sees : After) (g : Guard) : Type
      0 where
    pub flags : List Flag
    pub count : ℕ
    pub place : ℕ
    pub flags_are : flags ≡ sees p u
    pub place_is : place ≡ p + length text
    pub there : from place ≡ rest
    pub matches : Met (met w g) flags
    pub holds : R flags count place

  -- the level L reads the text as the guard g, wherever that may be read
  abbrev pub ReadsAs : (ℕ → ℕ → Level) → ℕ → ℕ → List ℕ → After → Guard → Type 0
  ReadsAs L k n text sees g =
      (d m p : ℕ) (w : List ℕ) (u : List Flag) (rest : List ℕ) → Ready n k g d m p w u text rest →
      Back (λ v i q. Reads (L d) d k u m (tokens_from p 0 (text ++ rest)) (numbered g) v i (tokens_from q 0 rest)) p w u text rest sees g

  -- so as a chain that the sign s may go on with
  abbrev pub ChainsAs : Sign → (ℕ → Level) → ℕ → ℕ → List ℕ → After → Guard → Type 0
  ChainsAs s next k n text sees g =
      (d m p : ℕ) (w : List ℕ) (u : List Flag) (rest : List ℕ) → Ready n k g d m p w u text rest →
      Back (λ v i q. Chain s (next d) d k u m (tokens_from p 0 (text ++ rest)) (numbered g) v i (tokens_from q 0 rest)) p w u text rest sees g

  -- what follows from R holds as well
  back-so : {R S : List Flag → ℕ → ℕ → Type 0} {p : ℕ} {w : List ℕ} {u : List Flag} {text rest : List ℕ} {sees : After} {g : Guard} →
      ((v : List Flag) (i q : ℕ) → R v i q → S v i q) → Back R p w u text rest sees g → Back S p w u text rest sees g
  back-so f x = record {
    flags = x.flags;
    count = x.count;
    place = x.place;
    flags_are = x.flags_are;
    place_is = x.place_is;
    there = x.there;
    matches = x.matches;
    holds = f x.flags x.count x.place x.holds;
  }

  -- a level that stops at more signs
  looser : {n k j : ℕ} {g : Guard} {d m p : ℕ} {w : List ℕ} {u : List Flag} {text rest : List ℕ} → k ≤ j → Ready n j g d m p w u text rest
      → Ready n k g d m p w u text rest
  looser l a = record {
    here = a.here;
    brackets = a.brackets;
    signs = a.signs;
    matches = a.matches;
    begins = a.begins;
    parted = a.parted;
    stops = λ q t h. a.stops q t (omega arith);
  }

  module _ (s : Sign) (next : ℕ → Level) (k : ℕ) (tight : binding s ≡ k + 1) where
    -- the first operand of a chain
    pub chain-start : {n : ℕ} {text : List ℕ} {sees : After} {g : Guard} → ReadsAs (λ d. plain (next d)) k n text sees g → ChainsAs s next k n text
        sees g
    chain-start r d m p w u rest a = back-so (λ v i q x. chain_first s (next d) d k _ _ _ x) (r d m p w u rest a)

    -- a chain that does not go on
    pub chain-end : {n : ℕ} {text : List ℕ} {sees : After} {g : Guard} → ChainsAs s next k n text sees g →
        ReadsAs (λ d. plain (left_level s (next d))) (k + 1) n text sees g
    chain-end c d m p w u rest a =
        back-so (λ v i q x. chain-done s (next d) d k _ _ _ x (a.stops q s (omega arith)) tight) (c d m p w u rest (looser (omega arith) a))

    -- a single operand of a level that groups to the right
    pub right_end : {n : ℕ} {text : List ℕ} {sees : After} {g : Guard} → ReadsAs (λ d. plain (next d)) k n text sees g →
        ReadsAs (λ d. to_the_right s (next d)) (k + 1) n text sees g
    right_end r d m p w u rest a =
        back-so (λ v i q x. right-one s (next d) d k _ _ _ x (a.stops q s (omega arith)) tight) (r d m p w u rest (looser (omega arith) a))

    -- a level that groups to the right has all the room that there can be
    pub right-whole : {n j : ℕ} {text : List ℕ} {sees : After} {g : Guard} → ReadsAs (λ d. to_the_right s (next d)) j n text sees g →
        ReadsAs (λ d. plain (right_level s (next d))) j n text sees g
    unfolding right_level
    right-whole r d m p w u rest a =
        back-so
        (λ v i q x. record {
          parsed = λ _ _. x.parsed connective_ceiling (omega arith);
          walked = x.walked;
          signs = x.signs;
          stops = x.stops;
        })
        (r d m p w u rest a)

    module _ (n₁ n₂ j : ℕ) {g h : Guard} (d m p : ℕ) (w : List ℕ) (u : List Flag) (t₁ t₂ rest : List ℕ)
        (a : Ready (max n₁ n₂) j (joined s g h) d m p w u (t₁ ++ (sign_byte s ∷ t₂)) rest) where
      -- the left side may be read before the sign
      ready-left : Ready n₁ k g d m p w u t₁ (sign_byte s ∷ (t₂ ++ rest))
      unfolding met
      ready-left = record {
        here = a.here ∙ append_assoc t₁ (sign_byte s ∷ t₂) rest;
        brackets = omega (arith, le-max_left n₁ n₂, a.brackets);
        signs = omega (arith, a.signs, connectives-joined s g h);
        matches = a.matches;
        begins = begins-earlier (met w g) h (order whole) a.begins;
        parted = sign-parted s (t₂ ++ rest);
        stops = sign-stops k s (t₂ ++ rest) (omega arith);
      }

      -- and the right side behind it, where i connectives are counted
      ready-right : (i q : ℕ) (v : List Flag) → i ≡ m + connectives (numbered g) → from q ≡ sign_byte s ∷ (t₂ ++ rest) → Met (met w g) v →
          Ready n₂ j h d (i + 1) (suc q) (met w g) v t₂ rest
      unfolding met
      ready-right i q v e f y = record {
        here = after-byte (written codes 0 whole) (sign_byte s) (t₂ ++ rest) q f;
        brackets = omega (arith, le-max_right n₁ n₂, a.brackets);
        signs = omega (arith, a.signs, connectives-joined s g h, renamed-connectives (place_in (order whole)) g);
        matches = y;
        begins = a.begins;
        parted = a.parted;
        stops = a.stops;
      }

      fewer : (i : ℕ) → i ≡ m + connectives (numbered g) → i < connective_ceiling
      fewer i e = omega (arith, a.signs, connectives-joined s g h, renamed-connectives (place_in (order whole)) g)

      -- what is known behind both
      back-both : {R S T : List Flag → ℕ → ℕ → Type 0} {a₁ a₂ : After} → (x : Back R p w u t₁ (sign_byte s ∷ (t₂ ++ rest)) a₁ g) →
          (y : Back S (suc x.place) (met w g) x.flags t₂ rest a₂ h) → T y.flags y.count y.place →
          Back T p w u (t₁ ++ (sign_byte s ∷ t₂)) rest (after_both (length t₁) a₁ a₂) (joined s g h)
      unfolding met
      back-both {R} {S} {T} {a₁} {a₂} x y t = record {
        flags = y.flags;
        count = y.count;
        place = y.place;
        flags_are = both-seen x.flags y.flags u p x.place (length t₁) a₁ a₂ x.flags_are x.place_is y.flags_are;
        place_is = omega (arith, x.place_is, y.place_is, length-append t₁ (sign_byte s ∷ t₂));
        there = y.there;
        matches = y.matches;
        holds = t;
      }

    -- one operand more joins a chain
    pub chain-join : {n₁ n₂ : ℕ} {t₁ t₂ : List ℕ} {a₁ a₂ : After} {g h : Guard} → ChainsAs s next k n₁ t₁ a₁ g → ReadsAs
        (λ d. plain (next d)) k n₂ t₂ a₂ h →
        ChainsAs s next k (max n₁ n₂) (t₁ ++ (sign_byte s ∷ t₂)) (after_both (length t₁) a₁ a₂) (joined s g h)
    unfolding renamed
    chain-join {n₁} {n₂} {t₁} {t₂} {a₁} {a₂} {g} {h} c r d m p w u rest a =
        let x = c d m p w u (sign_byte s ∷ (t₂ ++ rest)) (ready-left n₁ n₂ k d m p w u t₁ t₂ rest a) in
        let there = ready-right n₁ n₂ k d m p w u t₁ t₂ rest a x.count x.place x.flags x.holds.signs x.there x.matches in
        let y = r d (x.count + 1) (suc x.place) (met w g) x.flags rest there in
        back-both n₁ n₂ k d m p w u t₁ t₂ rest a x y
        (rw (append_assoc t₁ (sign_byte s ∷ t₂) rest)
        (chain_more s (next d) d k _ _ _ x.holds (sign-next x.place s (t₂ ++ rest))
        (fewer n₁ n₂ k d m p w u t₁ t₂ rest a x.count x.holds.signs)
        (rw (sign-past x.place s (t₂ ++ rest)) y.holds)))

    -- an operand and all that follows, of a level that groups to the right
    pub right-join : {n₁ n₂ : ℕ} {t₁ t₂ : List ℕ} {a₁ a₂ : After} {g h : Guard} → ReadsAs (λ d. plain (next d)) k n₁ t₁ a₁ g →
        ReadsAs (λ d. to_the_right s (next d)) (k + 1) n₂ t₂ a₂ h →
        ReadsAs (λ d. to_the_right s (next d)) (k + 1) (max n₁ n₂) (t₁ ++ (sign_byte s ∷ t₂)) (after_both (length t₁) a₁ a₂) (joined s g h)
    unfolding renamed
    right-join {n₁} {n₂} {t₁} {t₂} {a₁} {a₂} {g} {h} c r d m p w u rest a =
        let x = c d m p w u (sign_byte s ∷ (t₂ ++ rest)) (ready-left n₁ n₂ (k + 1) d m p w u t₁ t₂ rest a) in
        let there = ready-right n₁ n₂ (k + 1) d m p w u t₁ t₂ rest a x.count x.place x.flags x.holds.signs x.there x.matches in
        let y = r d (x.count + 1) (suc x.place) (met w g) x.flags rest there in
        back-both n₁ n₂ (k + 1) d m p w u t₁ t₂ rest a x y
        (rw (append_assoc t₁ (sign_byte s ∷ t₂) rest)
        (right-two s (next d) d k _ _ _ x.holds (sign-next x.place s (t₂ ++ rest))
        (fewer n₁ n₂ (k + 1) d m p w u t₁ t₂ rest a x.count x.holds.signs)
        (rw (sign-past x.place s (t₂ ++ rest)) y.holds)))
