-- What a lent slice holds once a list of states is written into it.
use Rattle.std.specs.Prelude.{ℕ, List, ◌++◌, length, take, drop, get_or, leb}
use Rattle.ground.specs.Choice.{choose}
use Rattle.gaps.specs.declared.writing.Found.{Found}
use Rattle.gaps.specs.declared.writing.Found.TheVariants.{Done, More}

-- what is answered of the states l where there is room for so many: all were written, or there is a next one
unfoldable pub found : List ℕ → ℕ → Found
found l room = choose (leb (length l) room) (Done (length l)) (More room (get_or l room 0))

-- the slice once the states l stand in it, as many as it has room for; what lies behind them is unchanged
unfoldable pub placed : List ℕ → List ℕ → List ℕ
placed l out = take (length out) l ++ drop (length l) out
