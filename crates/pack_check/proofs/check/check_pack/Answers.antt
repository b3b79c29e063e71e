-- `check::check_pack` meets its contract: the depth first, then what the pack says.
use native.Mathlib.Omega.{arith}
use Rattle.std.proofs.lemmas.Result.{err_from_is_err_and}
use Rattle.packs.specs.Pack.{pack_read}
use Rattle.pack_check.proofs.Packs.{too-deep, refused-too, line-found, line-too}
use Rattle.pack_check.proofs.check.check_pack.Goals as goal

pub returns-then-depth-gt-DEPTH : goal.returns-then-depth-gt-DEPTH
returns-then-depth-gt-DEPTH c =
    too-deep c.args.pack.now c.args.depth (omega arith) c.fault.result c.fault.ensures

pub returns-in_err-line : goal.returns-in_err-line
returns-in_err-line c =
    let p = err_from_is_err_and c.from_residual.result c.from_residual.ensures.1 in
    rw (p.1, p.2) (refused-too c.args.pack.now c.args.depth (omega arith) c.read_pack.result c.read_pack.new.codes c.read_pack.new.pool
    c.read_pack.new.spans c.read_pack.ensures c.in_err-line.field-0.0 c.in_err-line.was)

pub returns : goal.returns
returns c =
    let file = c.args.pack.now in
    let codes = c.read_pack.new.codes in
    let pool = c.read_pack.new.pool in
    let spans = c.read_pack.new.spans in
    let f = line-found file (pack_read file) c.read_pack.result codes pool spans c.read_pack.ensures c.in_ok-line.line c.in_ok-line.was in
    line-too file c.args.depth (omega arith) c.in_ok-line.line pool spans f c.answered-verdict.result c.answered-verdict.ensures
