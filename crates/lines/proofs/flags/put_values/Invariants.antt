-- `lines::flags::put_values` meets its contract: the flags written so far and those still to write make the whole.
use Rattle.lines.proofs.Valuing.{Written}
use Rattle.lines.proofs.flags.put_values.Given as goal

abbrev pub invariant-loop-i : goal.invariant-loop-i
invariant-loop-i l = Written l.text l.codes l.flags l.state l.initial.out l.at l.out l.next l.i
