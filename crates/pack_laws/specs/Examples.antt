-- Packs and what they say, one table.
use Rattle.std.specs.Prelude.{ℕ, zero, suc, ◌/◌, ◌%◌, ◌≡◌, List, [], ◌∷◌, ◌++◌, length}
use Prim.Native.String.{String}
use Rattle.ground.specs.Bytes.{bytes}
use Rattle.notation.specs.Refusals.{fault}
use Rattle.notation.specs.Walk.{Flag}
use Rattle.notation.specs.Tokens.{or, and}
use Rattle.notation.specs.Guard.{flag, negated, joined}
use Rattle.notation.specs.declared.refusal.Reason.{Reason}
use Rattle.notation.specs.declared.refusal.Reason.TheVariants.{OutOfPlace, ManyFlags, ManyConnectives, WrongField, WrongVariants, WrongId}
use Rattle.packs.specs.Pack.{Line, refusal, line, pack_read, id_tag, rule_tag, variant_tag, text_tag}

-- a field with this tag and body
unfoldable pub field_of : ℕ → List ℕ → List ℕ
field_of tag body = tag ∷ length body / 256 ∷ length body % 256 ∷ body

-- bytes, n times
unfoldable pub times : ℕ → List ℕ → List ℕ
times zero bs = []
times (suc n) bs = bs ++ times n bs

-- the id `q`: four bytes
abbrev pub id : List ℕ
id = field_of id_tag (bytes "q")

abbrev pub rule : String → List ℕ
rule t = field_of rule_tag (bytes t)

abbrev pub variant : String → List ℕ
variant t = field_of variant_tag (bytes t)

abbrev pub text : String → List ℕ
text t = field_of text_tag (bytes t)

-- the pack is refused for this reason at this place
abbrev pub Refuses : List ℕ → Reason → ℕ → Type 0
Refuses pack k p = pack_read pack ≡ refusal (fault k p)

-- the flag at a place with a code of one byte
abbrev pub coded : ℕ → ℕ → Flag
coded p b = record { place = p; name = b ∷ [] }

-- the line of two variants under a rule: its trees, where its texts stand, and its flags by first appearance
abbrev pub two : Line
two = record {
  rule = joined or (flag 1) (flag 2);
  variants = flag 1 ∷ joined and (negated (flag 3)) (flag 2) ∷ [];
  texts = record { start = 17; after = 18 } ∷ record { start = 28; after = 28 } ∷ [];
  flags = coded 7 97 ∷ coded 9 98 ∷ coded 22 99 ∷ [];
}

-- the table
pub record PackTable : Type 0 where
  pub whole-line : pack_read (id ++ rule "a|b" ++ variant "a" ++ text "x" ++ variant "!c&b" ++ text "") ≡ line two
  -- a field is missing at the end
  pub empty : Refuses [] WrongField 0
  pub id-alone : Refuses id WrongVariants 4
  pub no_variant : Refuses (id ++ rule "a") WrongVariants 8
  pub no_text : Refuses (id ++ variant "a") WrongField 8
  -- a field is out of order, unknown or cut short
  pub rule-first : Refuses (rule "a") WrongField 0
  pub second-rule : Refuses (id ++ rule "a" ++ rule "a") WrongField 8
  pub rule-behind : Refuses (id ++ variant "a" ++ text "x" ++ rule "a") WrongField 12
  pub text-first : Refuses (id ++ text "x") WrongField 4
  pub unknown : Refuses (id ++ field_of 5 []) WrongField 4
  pub header-cut : Refuses (id ++ (variant_tag ∷ 0 ∷ [])) WrongField 4
  pub body-cut : Refuses (id ++ (variant_tag ∷ 0 ∷ 2 ∷ bytes "a")) WrongField 4
  -- the id has no byte, or 17
  pub no-id : Refuses (field_of id_tag [] ++ variant "a" ++ text "x") WrongId 0
  pub long-id : Refuses (field_of id_tag (times 17 (bytes "q")) ++ variant "a" ++ text "x") WrongId 0
  -- a guard is refused at its place in the pack; at its end it comes before the field that follows
  pub in-a-guard : Refuses (id ++ rule "a" ++ variant "a&&b" ++ text "x") OutOfPlace 13
  pub at-a-guard's-end : Refuses (id ++ variant "a&" ++ rule "a") OutOfPlace 9
  pub in-open-brackets : Refuses (id ++ variant "(a" ++ text "x") OutOfPlace 9
  pub behind-a-guard : Refuses (id ++ rule "a b" ++ variant "a" ++ text "x") OutOfPlace 9
  -- flags are counted through the pack: the 25th is the last of these
  pub flag-25 : Refuses (id ++ variant "a|b|c|d|e|f|g|h|i|j|k|l" ++ text "" ++ variant "m|n|o|p|q|r|s|t|u|v|w|x|y" ++ text "") ManyFlags 60
  -- a 17th variant
  pub variant-17 : Refuses (id ++ times 17 (variant "a" ++ text "x")) WrongVariants 132
  -- a guard of 255 connectives is one, and its question has one more
  pub question-256 : Refuses (id ++ field_of variant_tag (times 255 (bytes "a&") ++ bytes "a") ++ text "") ManyConnectives 521
