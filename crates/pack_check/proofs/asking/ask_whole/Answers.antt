-- `asking::ask_whole` meets its contract: what is decided of the question that has been laid is its answer.
use Rattle.guard_check.proofs.Tables.{searchable}
use Rattle.pack_check.proofs.Asked.{whole-asks, whole_says}
use Rattle.pack_check.proofs.asking.ask_whole.Goals as goal

pub invariant_of-formula : goal.invariant_of-formula
invariant_of-formula c = record { proper = searchable _ _ _ _ (whole-asks _ _ _ _ _ _ _ c.lay_whole-built.ensures c.requires.stands) }

pub answer-requires : goal.answer-requires
answer-requires c =
    whole-asks _ _ _ _ _ _ _ c.lay_whole-built.ensures c.requires.stands

pub returns : goal.returns
returns c = (
  whole_says _ _ _ _ _ _ _ c.lay_whole-built.ensures c.args.depth c.answer.result c.answer.ensures,
  record { pool = c.requires.rooms.pool; spans = c.requires.rooms.spans; out = c.lay_whole-built.ensures.room },
)
