-- `asking::ask_pair` meets its contract: what is decided of the question that has been laid is its answer.
use Rattle.guard_check.proofs.Tables.{searchable}
use Rattle.pack_check.proofs.Asked.{pair-asks, pair-says}
use Rattle.pack_check.proofs.asking.ask_pair.Goals as goal

pub invariant_of-formula : goal.invariant_of-formula
invariant_of-formula c = record {
  proper =
      searchable _ _ _ _ (pair-asks _ _ _ _ _ _ _ _ _ c.lay_pair-built.ensures c.requires.stands c.requires.i_nonzero.0 c.requires.i_nonzero.1
      c.requires.i_nonzero.2);
}

pub answer-requires : goal.answer-requires
answer-requires c =
    pair-asks _ _ _ _ _ _ _ _ _ c.lay_pair-built.ensures c.requires.stands c.requires.i_nonzero.0 c.requires.i_nonzero.1 c.requires.i_nonzero.2

pub returns : goal.returns
returns c = (
  pair-says _ _ _ _ _ _ _ _ _ c.lay_pair-built.ensures c.requires.i_nonzero.1 c.requires.i_nonzero.2 c.args.depth c.answer.result c.answer.ensures,
  record { pool = c.requires.rooms.pool; spans = c.requires.rooms.spans; out = c.lay_pair-built.ensures.room },
)
