-- `why::turn` meets its contract: the flag is dropped or held.
use Rattle.truth.specs.clauses.Formulas.{value_of}
use Rattle.why.proofs.Turns.{shifted, turn-held}
use Rattle.why.proofs.turn.Goals as goal

pub returns : goal.returns
returns c =
    turn-held c.args.formula.now.flags (value_of c.args.formula.now) c.args.state c.args.keep c.args.place _
    c.forced.result (shifted c.args.place c.requires.0) c.if-forced.false c.forced.ensures
