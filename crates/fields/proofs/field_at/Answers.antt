-- `fields::field_at` meets its contract: what is left is compared, and the field that is said is the one that stands there.
use native.Mathlib.Omega.{arith}
use mathlib.Core.Path.{refl}
use Rattle.fields.specs.Fields.{length_at}
use Rattle.fields.proofs.Cutting.{none-at, cut_at, whole-at}
use borrow.Author.Rules.{rules}
use Rattle.fields.proofs.field_at.Goals as goal

pub returns-then-file-at : goal.returns-then-file-at
returns-then-file-at c =
    none-at c.args.file.now c.args.at (search rules)

pub returns-then-file-at-lt-HEADER : goal.returns-then-file-at-lt-HEADER
returns-then-file-at-lt-HEADER c =
    cut_at c.args.file.now c.args.at (search rules) (omega arith)

pub returns-then-file-start : goal.returns-then-file-start
returns-then-file-start c =
    cut_at c.args.file.now c.args.at (search rules) (omega arith)

pub returns : goal.returns
returns c =
    whole-at c.args.file.now c.args.at (length_at c.args.file.now c.args.at) (search rules) refl (omega arith)
