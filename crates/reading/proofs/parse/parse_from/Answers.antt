-- `reading::parse::parse_from` meets its contract: the first token, the loosest level and the end each refuse as the walk does.
use mathlib.Core.Path.{refl, sym, ap, subst}
use Rattle.std.specs.Prelude.{Err}
use Prim.Native.Nat.{◌+◌}
use Rattle.notation.specs.Ceilings.{text_ceiling}
use Rattle.notation.specs.clauses.Codes.{flags_in}
use Rattle.notation.specs.Reading.{Reading}
use Rattle.notation.specs.declared.refusal.Reason.TheVariants.{LongText}
use Rattle.notation.specs.Refusals.{fault}
use Rattle.reading.specs.clauses.Parsing.{ParseSays}
use Rattle.reading.proofs.Parsing.{too_long, faulty-first, refused-first, parse-says}
use Rattle.reading.proofs.parse.parse_from.Goals as goal

pub returns-then-text-from-gt-TEXT : goal.returns-then-text-from-gt-TEXT
returns-then-text-from-gt-TEXT c =
    subst (λ (x : Reading). ParseSays c.args.text.now x (Err (fault LongText (c.args.from + text_ceiling))) c.args.codes.now c.args.out.now)
    (sym (too_long c.args.text.now c.args.from (flags_in c.args.text.now c.args.codes.now c.args.flags) c.if-text-from-gt-TEXT.true)) refl

pub returns-in_default : goal.returns-in_default
returns-in_default c =
    faulty-first c.before-at.ensures c.token_at-first.ensures c.if-text-from-gt-TEXT.false c.args.codes.now c.in_default.is refl
    c.args.codes.now c.args.out.now

pub returns-in_default-whole : goal.returns-in_default-whole
returns-in_default-whole c =
    refused-first c.before-at.ensures c.token_at-first.ensures c.if-text-from-gt-TEXT.false c.args.codes.now c.in-Ok.is c.same-whole.ensures
    c.in_default-whole.is refl

pub returns : goal.returns
returns c =
    parse-says c.before-at.ensures c.token_at-first.ensures c.if-text-from-gt-TEXT.false c.args.codes.now c.in-Ok.is c.same-whole.ensures
    c.in-Ok-whole.is c.ended.ensures
