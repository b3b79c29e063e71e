-- The table of packs, computed.
use mathlib.Core.Path.{refl}
use Rattle.ground.specs.Bytes.{bytes}
use Rattle.notation.specs.Tokens.{among, code_byte, code_run, coded, hashed, marked, token_of, further, tokens_from, tokens_at}
use Rattle.notation.specs.Walk.{same_code, known, seen, within, walk}
use Rattle.notation.specs.Guard.{connectives}
use Rattle.notation.specs.Grammar.{follow, number, same_sign, is_sign, sign_next, past}
use Rattle.notation.specs.Grammar.{to_the_left, to_the_right, left_level, right_level, and_of, or_of, implies_of}
use Rattle.notation.specs.Grammar.{same_of, closed, operand_of, in_brackets, tree_of}
use Rattle.notation.specs.Reading.{judged, reading_from, tree_from}
use Rattle.fields.specs.Fields.{pieces_from, pieces_at}
use Rattle.questions.specs.Questions.{or_all, any_of, whole_of, apart, pairs_of, questions_of, all_fit}
use Rattle.packs.specs.Pack.{role_of, with_guard, step_as, end_as, pack_from, fitting, pack_read}
use Rattle.pack_laws.specs.Examples.{field_of, times, PackTable}

pub examples : PackTable
unfolding among code_byte code_run coded hashed marked token_of further tokens_from tokens_at same_code known seen within walk
    connectives follow number same_sign
    is_sign sign_next past to_the_left to_the_right left_level right_level and_of or_of implies_of same_of
    closed operand_of in_brackets tree_of judged reading_from tree_from
    pieces_from pieces_at role_of with_guard step_as end_as pack_from or_all any_of whole_of apart pairs_of questions_of all_fit fitting pack_read
    field_of times bytes
examples = record {
  whole-line = refl;
  empty = refl;
  id-alone = refl;
  no_variant = refl;
  no_text = refl;
  rule-first = refl;
  second-rule = refl;
  rule-behind = refl;
  text-first = refl;
  unknown = refl;
  header-cut = refl;
  body-cut = refl;
  no-id = refl;
  long-id = refl;
  in-a-guard = refl;
  at-a-guard's-end = refl;
  in-open-brackets = refl;
  behind-a-guard = refl;
  flag-25 = refl;
  variant-17 = refl;
  question-256 = refl;
}
