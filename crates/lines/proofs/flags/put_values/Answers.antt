use Rattle.lines.proofs.Valuing.{written-more, written_all}
use Rattle.lines.proofs.flags.put_values.Goals as goal

pub loop-i-preserved : goal.loop-i-preserved
loop-i-preserved c =
    written-more c.args.text.now c.args.codes.now c.args.flags c.args.state c.args.out.now c.args.at c.requires.code_table c.loop-i.out
    c.loop-i.next c.loop-i.i c.loop-i.invariant c.loop-i-test.true c.is_set-value.result c.is_set-value.ensures c.put_flag-next.new.out c.put_flag-next.result
    c.put_flag-next.ensures

pub returns : goal.returns
returns c =
    written_all c.args.text.now c.args.codes.now c.args.flags c.args.state c.args.out.now c.args.at c.requires.flags_in_bounds c.loop-i.out
    c.loop-i.next c.loop-i.i c.loop-i.invariant c.loop-i-test.false
