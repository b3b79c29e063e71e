-- Flags with their values: those written so far and those still to write make the whole.
use Prim.Native.Nat.{ℕ, suc, ◌+◌, ◌*◌, ◌-◌, ◌≤◌, ◌<◌}
use native.Mathlib.Omega.{arith}
use mathlib.Core.Path.{◌≡◌, refl, sym, ap, ◌∙◌}
use mathlib.Core.Bool.{Bool, true, false}
use mathlib.Core.List.{List, [], ◌∷◌, ◌++◌, append_assoc, append-nil}
use lib.ListN.{length, take, drop, length-append, drop_of_length-le}
use lib.Seq.{length-take-le, drop-drop, drop_at}
use Rattle.ground.specs.Choice.{choose}
use Rattle.notation.specs.Walk.{Flag}
use Rattle.notation.specs.clauses.Codes.{start_of, end_of, code_in, flag_at, flags_in}
use Rattle.notation.specs.declared.codes.Code.{Code}
use Rattle.notation.proofs.Coding.{flags-length, flags-split, fewer}
use Rattle.ground.specs.Bits.{bit}
use Rattle.ground.specs.Bytes.{bytes}
use Rattle.lines.specs.Printed.{flag_value, valued}
use Rattle.lines.specs.clauses.Put.{Puts, PutsIn, CodeTable, value_room}
use Rattle.lines.proofs.Putting.{puts_of, puts-cut, kept-later, puts_then}

-- one flag: a space, the code, `=`, the digit
pub flag-put : {a b c d e code : List ℕ} {p q s t r : ℕ} (v : Bool)
    → Puts a p (32 ∷ []) b q → Puts b q code c s → Puts c s (61 ∷ []) d t → Puts d t (bytes (choose v "1" "0")) e r → Puts a p
    (flag_value code v) e r
unfolding flag_value bytes
flag-put v f g h i = puts_then f (puts_then g (puts_then h i))

pub value-length : (code : List ℕ) (v : Bool) → length (flag_value code v) ≡ length code + 3
unfolding flag_value bytes
value-length code true = simp length-append (omega arith)
value-length code false = simp length-append (omega arith)

-- ---- a table of codes
-- fewer of them
pub table-first : (text : List ℕ) (codes : List Code) (k i : ℕ) → CodeTable text codes k → i < k → CodeTable text codes (i + 1)
table-first text codes k i t h =
    record {
      in_text = fewer t.in_text (omega arith);
      few = omega (arith, t.few);
      short = λ j l. t.short j (omega arith);
    }

-- from flag i on: that flag, and those after it
flags-from : (text : List ℕ) (codes : List Code) (k i : ℕ) → i < k
    → (v : List Flag) × (drop i (flags_in text codes k) ≡ flag_at text (start_of codes i) (end_of codes i) ∷ v)
    × (drop (i + 1) (flags_in text codes k) ≡ v) × (length v ≡ k - 1 - i)
flags-from text codes k i h =
    let r = flags-split text codes i k h in
    let f : Flag = flag_at text (start_of codes i) (end_of codes i) in
    let whole : flags_in text codes k ≡ flags_in text codes i ++ (f ∷ r.0) = r.1 in
    let first : length (flags_in text codes i) ≡ i = flags-length text codes i in
    let count : k ≡ i + suc (length r.0) = sym (flags-length text codes k) ∙ ap (λ (u : List Flag). length u) whole ∙ length-append
    (flags_in text codes i) (f ∷ r.0) ∙ rw first in
    let last : drop i (flags_in text codes k) ≡ f ∷ r.0 = ap (λ (u : List Flag). drop i u) whole ∙ drop_at (flags_in text codes i) (f ∷ r.0) i first in
    let next : drop (i + 1) (flags_in text codes k) ≡ r.0 = sym (drop-drop 1 i (flags_in text codes k)) ∙ ap (λ (u : List Flag). drop 1 u) last in
    (r.0, last, next, omega arith)

-- ---- the loop over the flags
-- the first i of n flags are written, from a place of the slice out on, up to the place next of the slice now
pub record Written (text : List ℕ) (codes : List Code) (n state : ℕ) (out : List ℕ) (at : ℕ) (now : List ℕ) (next i : ℕ) : Type 0 where
  pub most : i ≤ n
  pub room : next + value_room * (n - i) ≤ at + value_room * n
  pub whole : take next now ++ valued (drop i (flags_in text codes n)) state ≡ take at out ++ valued (flags_in text codes n) state
  pub kept : drop next now ≡ drop next out
  pub long : length now ≡ length out

module _ (text : List ℕ) (codes : List Code) (n state : ℕ) (out : List ℕ) (at : ℕ) where
  pub written_none : Written text codes n state out at out at 0
  written_none = record { most = omega arith; room = omega arith; whole = refl; kept = refl; long = refl }

  pub written-more : CodeTable text codes n → (now : List ℕ) (next i : ℕ) → Written text codes n state out at now next i → i < n
      → (b : Bool) → b ≡ bit state (n - 1 - i) → (then : List ℕ) (r : ℕ) → Puts now next (flag_value (code_in text codes i) b) then r
      → Written text codes n state out at then r (i + 1)
  unfolding valued
  written-more t now next i w h b e then r p =
      let rest = flags-from text codes n i h in
      let one : List ℕ = flag_value (code_in text codes i) b in
      let few : length one ≤ value_room = rw value-length (omega (arith, t.short i h)) in
      record {
        most = omega arith;
        room = omega (arith, w.room, p.next);
        whole =
            ap (λ (l : List ℕ). l ++ valued (drop (i + 1) (flags_in text codes n)) state) (puts-cut p).0
            ∙ append_assoc (take next now) one (valued (drop (i + 1) (flags_in text codes n)) state)
            ∙ ap (λ (u : List Flag). take next now ++ (one ++ valued u state)) rest.2
            ∙ ap (λ (v : Bool). take next now ++ (flag_value (code_in text codes i) v ++ valued rest.0 state)) (e ∙ ap (bit state) (sym rest.3))
            ∙ ap (λ (u : List Flag). take next now ++ valued u state) (sym rest.1)
            ∙ w.whole;
        kept = (puts-cut p).1 ∙ kept-later out now next r (omega (arith, p.next)) w.kept;
        long = p.long ∙ w.long;
      }

  pub written_all : at + value_room * n ≤ length out → (now : List ℕ) (next i : ℕ) → Written text codes n state out at now next i → n ≤ i
      → PutsIn (value_room * n) out at (valued (flags_in text codes n) state) now next
  unfolding valued
  written_all fits now next i w h =
      let past : length (flags_in text codes n) ≤ i = rw flags-length h in
      let none : drop i (flags_in text codes n) ≡ [] = drop_of_length-le (flags_in text codes n) past in
      let all : take next now ≡ take at out ++ valued (flags_in text codes n) state =
      sym (append-nil (take next now)) ∙ ap (λ (u : List Flag). take next now ++ valued u state) (sym none) ∙ w.whole in
      let before : length (take at out) ≡ at = length-take-le at out (omega arith) in
      let after : length (take next now) ≡ next = length-take-le next now (omega (arith, w.room, w.long)) in
      let count : next ≡ at + length (valued (flags_in text codes n) state) =
      sym after ∙ ap (λ (l : List ℕ). length l) all ∙ length-append (take at out) (valued (flags_in text codes n) state) ∙ rw before in
      record {
        puts = puts_of count all w.kept w.long;
        within = omega (arith, w.room);
      }
