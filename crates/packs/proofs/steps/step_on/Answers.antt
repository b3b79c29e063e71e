-- `packs::steps::step_on` meets its contract: a whole field, one cut short, or the end.
use Rattle.packs.proofs.Ending.{cut-says, whole_here, end-says}
use Rattle.packs.proofs.steps.step_on.Goals as goal

pub field_step-requires : goal.field_step-requires
field_step-requires c =
    record {
      going = c.requires;
      field_here = whole_here c.args.file.now c.args.codes.now c.args.pool.now c.args.spans.now c.args.p c.requires c.field_at.result
          c.field_at.ensures _ _ _ c.in-Whole.is;
    }

pub returns-in-Cut : goal.returns-in-Cut
returns-in-Cut c =
    rw c.fault.ensures (cut-says c.args.file.now c.args.codes.now c.args.pool.now c.args.spans.now c.args.p c.requires c.field_at.result
    c.field_at.ensures c.in-Cut.is)

pub returns-in-End : goal.returns-in-End
returns-in-End c =
    rw c.ended.ensures (end-says c.args.file.now c.args.codes.now c.args.pool.now c.args.spans.now c.args.p c.requires c.field_at.result
    c.field_at.ensures c.in-End.is)
