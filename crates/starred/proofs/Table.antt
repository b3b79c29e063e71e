-- The table of the outline's starred examples: what each text says is computed, and its tree has the answers.
use Prim.Native.Nat.{ℕ, ◌*◌, ◌^◌, ◌≤◌, ◌<◌}
use mathlib.Core.Path.{◌≡◌, refl}
use mathlib.Core.Bool.{true, false}
use mathlib.Core.List.{List, [], ◌∷◌, ◌++◌, append-nil}
use native.Mathlib.Omega.{arith}
use lib.ListN.{length, drop, length-append, drop_of_length-le}
use lib.Seq.{take_all, take-append_seam, get_or-append_seam}
use lib.Dec.{leb, ltb}
use borrow.Author.Tests.{le-leb, lt-leb}
use Rattle.notation.specs.Tokens.{same, implies, and, among, code_byte, code_run, coded, hashed, marked, token_of, further, tokens_from, tokens}
use Rattle.notation.specs.Walk.{Flag, same_code, known, seen, within, walk}
use Rattle.notation.specs.Guard.{Guard, flag, truth, joined, connectives}
use Rattle.notation.specs.Grammar.{follow, number, same_sign, is_sign, sign_next, past}
use Rattle.notation.specs.Grammar.{to_the_left, to_the_right, left_level, right_level, and_of, or_of, implies_of}
use Rattle.notation.specs.Grammar.{same_of, closed, operand_of, in_brackets, tree_of, tree}
use Rattle.notation.specs.Triplets.{triplet_variable, triplet_of, literal_of, literal, triplets}
use Rattle.notation.specs.Reading.{guard, judged, reading}
use Rattle.notation.specs.declared.refusal.Reason.TheVariants.{NoState}
use Rattle.truth.specs.Connectives.{table}
use Rattle.truth.specs.Value.{value}
use Rattle.ground.specs.Bits.{bit}
use Rattle.gaps.specs.Gaps.{false_from, gaps_from}
use Rattle.gaps.specs.Writing.{found, placed}
use Rattle.list.specs.Listed.{Lists, listed, filled}
use Rattle.gaps.specs.declared.writing.Found.TheVariants.{Done, More}
use Rattle.std.specs.Prelude.{Ok, Err}
use Rattle.starred.proofs.Checked as desk
use Rattle.starred.specs.Table.{implication, DeskTable}
use Rattle.ground.specs.Bytes.{bytes}
use Rattle.saturation.specs.declared.verdict.Verdict.TheVariants.{Covered, Gap, Undecided}
use Rattle.guard_check.proofs.Checking.{guard-too}

-- the flag at a place with a code of one byte
abbrev coded-at : ℕ → ℕ → Flag
coded-at p b = record { place = p; name = b ∷ [] }

-- `A=B`
abbrev equal-tree : Guard
equal-tree = joined same (flag 1) (flag 2)

-- `A&B`
abbrev both-tree : Guard
both-tree = joined and (flag 1) (flag 2)

-- `A>B>C`
abbrev chain-tree : Guard
chain-tree = joined implies (flag 1) (joined implies (flag 2) (flag 3))

-- what each text says
record Texts : Type 0 where
  equal : reading (bytes "A=B") ≡ guard equal-tree (coded-at 0 65 ∷ coded-at 2 66 ∷ [])
  both : reading (bytes "A&B") ≡ guard both-tree (coded-at 0 65 ∷ coded-at 2 66 ∷ [])
  never : reading (bytes "#0") ≡ guard (truth false) []
  always : reading (bytes "#1") ≡ guard (truth true) []
  both-or-not : reading (bytes "(A&B)|(!A|!B)") ≡ guard desk.both-or-not (coded-at 1 65 ∷ coded-at 3 66 ∷ [])
  contraposed : reading (bytes "(p>q)=(!q>!p)") ≡ guard desk.contraposed (coded-at 1 112 ∷ coded-at 3 113 ∷ [])
  unless-a : reading (bytes "!a&((p>q)=(!q>!p))") ≡ guard desk.unless-a (coded-at 1 97 ∷ coded-at 5 112 ∷ coded-at 7 113 ∷ [])
  chain : reading (bytes "A>B>C") ≡ guard chain-tree (coded-at 0 65 ∷ coded-at 2 66 ∷ coded-at 4 67 ∷ [])

texts : Texts
unfolding bytes among code_byte code_run coded hashed marked token_of further tokens_from tokens same_code known seen within walk connectives follow number
    same_sign is_sign sign_next past to_the_left to_the_right left_level right_level and_of or_of implies_of same_of
    closed operand_of in_brackets tree_of tree judged reading
texts =
    record {
      equal = refl;
      both = refl;
      never = refl;
      always = refl;
      both-or-not = refl;
      contraposed = refl;
      unless-a = refl;
      chain = refl;
    }

-- ---- what a list of gaps makes list answer
module _ (text : List ℕ) (start : ℕ) (g : Guard) (u : List Flag) (says : reading text ≡ guard g u) where
  -- there is room for all of them
  all_listed : (l : List ℕ) → ltb start (2 ^ length u) ≡ true → gaps_from (length u) g start ≡ l
      → (out : List ℕ) → length l ≤ length out → Lists text start out (Ok (Done (length l))) (l ++ drop (length l) out)
  unfolding listed filled found placed
  all_listed l state gaps out room =
      record {
        answers = rw (says, state, gaps, le-leb (length l) (length out) room);
        holds = rw (says, state, gaps, take_all (length out) l room);
      }

  -- there is room for the first of them alone
  first-listed : (l : List ℕ) (next : ℕ) (rest : List ℕ) → ltb start (2 ^ length u) ≡ true → gaps_from (length u) g start ≡ l ++ (next ∷ rest)
      → (out : List ℕ) → length out ≡ length l → Lists text start out (Ok (More (length l) next)) l
  unfolding listed filled found placed
  first-listed l next rest state gaps out room =
      let more : length out < length (l ++ (next ∷ rest)) = omega (arith, room, length-append l (next ∷ rest)) in
      let one_more : leb (length (l ++ (next ∷ rest))) (length l) ≡ false = rw room at (lt-leb (length (l ++ (next ∷ rest))) (length out) more) in
      let none-behind : drop (length (l ++ (next ∷ rest))) out ≡ [] = drop_of_length-le out {i = length (l ++ (next ∷ rest))} (omega arith) in
      record {
        answers = rw (says, state, gaps, room, one_more, get_or-append_seam l next rest 0);
        holds = rw (says, state, gaps, none-behind, room, take-append_seam l (next ∷ rest), append-nil l);
      }

  -- the start is no state
  start-refused : ltb start (2 ^ length u) ≡ false → (out : List ℕ) → Lists text start out (Err (record { reason = NoState; place = 0 })) out
  unfolding listed filled
  start-refused state out = record { answers = rw (says, state); holds = rw (says, state) }

-- ---- the gaps of each tree
record Listed : Type 0 where
  equal : gaps_from 2 equal-tree 0 ≡ 1 ∷ 2 ∷ []
  equal-from-2 : gaps_from 2 equal-tree 2 ≡ 2 ∷ []
  both : gaps_from 2 both-tree 0 ≡ 0 ∷ 1 ∷ 2 ∷ []
  never : gaps_from 0 (truth false) 0 ≡ 0 ∷ []
  always : gaps_from 0 (truth true) 0 ≡ []
  unless-a : gaps_from 3 desk.unless-a 0 ≡ 4 ∷ 5 ∷ 6 ∷ 7 ∷ []

gaps : Listed
unfolding gaps_from false_from value table bit
gaps = record { equal = refl; equal-from-2 = refl; both = refl; never = refl; always = refl; unless-a = refl }

-- ---- the triplets of `A>B>C`
chain-triplets : triplets 0 chain-tree ≡ implication (2 * 2) (2 * 3) ∷ implication (2 * 1) (2 * triplet_variable 1) ∷ []
unfolding triplets literal literal_of triplet_of connectives
chain-triplets = refl

-- ---- the table
pub desk-table : DeskTable
unfolding bytes
desk-table =
    record {
      same_lists = all_listed (bytes "A=B") 0 _ _ texts.equal _ refl gaps.equal;
      and-lists = all_listed (bytes "A&B") 0 _ _ texts.both _ refl gaps.both;
      false-lists = all_listed (bytes "#0") 0 _ _ texts.never _ refl gaps.never;
      true-lists = all_listed (bytes "#1") 0 _ _ texts.always _ refl gaps.always;
      same-room-1 = first-listed (bytes "A=B") 0 _ _ texts.equal (1 ∷ []) 2 [] refl gaps.equal;
      same-start-2 = all_listed (bytes "A=B") 2 _ _ texts.equal _ refl gaps.equal-from-2;
      same-start-4 = start-refused (bytes "A=B") 4 _ _ texts.equal refl;
      both-or-not = guard-too (bytes "(A&B)|(!A|!B)") 0 (omega arith) (omega arith) _ _ texts.both-or-not Covered desk.both-or-not-covered;
      contraposed-0 = guard-too (bytes "(p>q)=(!q>!p)") 0 (omega arith) (omega arith) _ _ texts.contraposed Undecided desk.contraposed-undecided;
      contraposed-1 = guard-too (bytes "(p>q)=(!q>!p)") 1 (omega arith) (omega arith) _ _ texts.contraposed Covered desk.contraposed-covered;
      unless-a-0 = guard-too (bytes "!a&((p>q)=(!q>!p))") 0 (omega arith) (omega arith) _ _ texts.unless-a Undecided desk.unless-a-undecided;
      unless-a-1 = guard-too (bytes "!a&((p>q)=(!q>!p))") 1 (omega arith) (omega arith) _ _ texts.unless-a (Gap 4) desk.unless-a-gap;
      unless-a-lists = all_listed (bytes "!a&((p>q)=(!q>!p))") 0 _ _ texts.unless-a _ refl gaps.unless-a;
      implies-makes = (_, _, texts.chain, chain-triplets);
    }
