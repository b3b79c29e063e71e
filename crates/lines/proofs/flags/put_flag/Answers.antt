-- `lines::flags::put_flag` meets its contract: what is put one after the other is the flag with its value.
use Rattle.lines.proofs.Valuing.{flag-put}
use Rattle.lines.proofs.flags.put_flag.Goals as goal

pub returns : goal.returns
returns c =
    flag-put c.args.value c.put-code.ensures c.put_all-sign.ensures c.put-digit.ensures c.put_bit.ensures
