-- What the services read and name answer on what is written of a guard.
use Prim.Native.Nat.{ℕ, zero, suc, ◌+◌, ◌*◌, ◌≤◌, ◌<◌}
use native.Mathlib.Nat.{not-suc-le-zero, le_of_suc-le-suc, min-le_right}
use native.Mathlib.Omega.{arith}
use mathlib.Core.Path.{◌≡◌, refl, ap, ◌∙◌}
use mathlib.Core.Bool.{true, false}
use mathlib.Core.Logic.{⊎_elim}
use mathlib.Core.List.{List, [], ◌∷◌, ◌++◌, map}
use lib.ListN.{length, get_or, take, drop, length-map, length-take, length-drop}
use lib.Dec.{leb}
use borrow.Author.Tests.{le-leb, leb-false}
use Rattle.notation.specs.Tokens.{Code}
use Rattle.notation.specs.Walk.{Flag}
use Rattle.notation.specs.Guard.{Guard, connectives}
use Rattle.notation.specs.Triplets.{literal, triplets, numbers}
use Rattle.notation.specs.Reading.{Reading, reading, guard}
use Rattle.reading.specs.Service.{ReadSays, read_answer, room_after, guard_with, name_in, name_answer, part_of, part_with, Parsed}
use Rattle.ground.proofs.Cases.{either}
use Rattle.reading_back.specs.Written.{order, place_in, renumbered, before, flags_of, written, Placed, EachPlaced, WithinCeilings}
use Rattle.reading_back.proofs.Levels.{renamed-connectives}
use Rattle.reading_back.proofs.ReadBack.{read_back, codes_placed}

renumbered-connectives : (g : Guard) → connectives (renumbered g) ≡ connectives g
unfolding renumbered
renumbered-connectives g = renamed-connectives (place_in (order g)) g

flags-length : (codes : ℕ → Code) (g : Guard) → length (flags_of codes g) ≡ length (order g)
unfolding flags_of
flags-length codes g = length-map (order g) _

-- the answer of read, and the room afterwards, where there is room for the triplets
answer-of : (h : Guard) (u : List Flag) (n c : ℕ) (room : ℕ) → length u ≡ n → connectives h ≡ c → 3 * c ≤ room → read_answer (guard h u) room
    ≡ guard_with n c (literal 0 h)
unfolding read_answer
answer-of h u n c room e f l = rw (e, f, le-leb (3 * c) room l)

room_of : (h : Guard) (u : List Flag) (c : ℕ) (room : List ℕ) → connectives h ≡ c → 3 * c ≤ length room → room_after (guard h u) room ≡ numbers
    (triplets 0 h) ++ drop (3 * c) room
unfolding room_after
room_of h u c room f l = rw (f, le-leb (3 * c) (length room) l)

-- the part of the text that a placed flag names is its code
no_bytes : (c : Code) → length c ≡ 0 → [] ≡ c
no_bytes [] e = refl
no_bytes (b ∷ c) e = absurd (omega arith)

take_within : (n : ℕ) (l : List ℕ) → length (take n l) ≤ length l
take_within n l = rw length-take (min-le_right n (length l))

part-of : (text : List ℕ) (f : Flag) → Placed text f → part_of text (part_with f.place (length f.name)) ≡ f.name
unfolding part_of
part-of text f e =
    let long : length f.name ≤ length (drop f.place text) = rw e at (take_within (length f.name) (drop f.place text)) in
    ⊎_elim
    (λ (t : leb (f.place + length f.name) (length text) ≡ true). rw t e)
    (λ (t : leb (f.place + length f.name) (length text) ≡ false). rw t
    (no_bytes f.name (omega (arith, leb-false (f.place + length f.name) (length text) t, length-drop f.place text))))
    (either (leb (f.place + length f.name) (length text)))

-- the flag j of a list, counted from 0
name_of : (text : List ℕ) (f : ℕ → Flag) (w : List ℕ) (j : ℕ) → EachPlaced text (map f w) → j < length w → part_of text
    (name_in (map f w) (suc j)) ≡ (f (get_or w j 0)).name
unfolding name_in
name_of text f [] j e h = absurd (not-suc-le-zero h)
name_of text f (i ∷ w) zero e h = part-of text (f i) e.0
name_of text f (i ∷ w) (suc j) e h = name_of text f w j e.1 (le_of_suc-le-suc h)

module _ (codes : ℕ → Code) (g : Guard) (ceilings : WithinCeilings codes g) where
  -- read answers the flags, the connectives and the root, and writes the triplets
  pub read-answers : (room left : List ℕ) (r : Parsed) → ReadSays (written codes 0 g) room r left → 3 * connectives g ≤ length room →
      (r ≡ guard_with (length (order g)) (connectives g) (literal 0 (renumbered g)))
      × (left ≡ numbers (triplets 0 (renumbered g)) ++ drop (3 * connectives g) room)
  read-answers room left r says fits = (
    says.answer ∙ ap (λ (x : Reading). read_answer x (length room)) (read_back codes g ceilings)
        ∙ answer-of (renumbered g) (flags_of codes g) (length (order g)) (connectives g) (length room) (flags-length codes g) (renumbered-connectives g) fits,
    says.left ∙ ap (λ (x : Reading). room_after x room) (read_back codes g ceilings)
        ∙ room_of (renumbered g) (flags_of codes g) (connectives g) room (renumbered-connectives g) fits,
  )

  -- the part of the text that name answers for the flag j, counted from 0, is its code
  pub name-answers : (j : ℕ) → j < length (order g) → part_of (written codes 0 g) (name_answer (reading (written codes 0 g)) (suc j)) ≡ codes
      (get_or (order g) j 0)
  unfolding name_answer flags_of
  name-answers j h =
      ap (λ (x : Reading). part_of (written codes 0 g) (name_answer x (suc j))) (read_back codes g ceilings)
      ∙ name_of (written codes 0 g) (λ i. record { place = before codes 0 g i; name = codes i }) (order g) j (codes_placed codes g ceilings) h
