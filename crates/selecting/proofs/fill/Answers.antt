-- It was filled just now, or before, or it is not.
use mathlib.Core.Bool.{false≢true}
use Rattle.selecting.proofs.TableLaws.{later-filled, not-filled, now-filled}
use Rattle.selecting.proofs.fill.Goals as goal

pub returns-in-Later-eq0-clause-rows : goal.returns-in-Later-eq0-clause-rows
returns-in-Later-eq0-clause-rows c = λ e. c.enter_all.ensures

pub returns-in-Later-eq0-clause-table : goal.returns-in-Later-eq0-clause-table
returns-in-Later-eq0-clause-table c = now-filled _ c.enter_all.ensures

pub returns-in-Later-clause-rows : goal.returns-in-Later-clause-rows
returns-in-Later-clause-rows c = λ e. absurd (false≢true e)

pub returns-in-Later-clause-table : goal.returns-in-Later-clause-table
returns-in-Later-clause-table c = not-filled _ c.requires.1.shape (later-filled _)

pub returns-in-Filled-clause-rows : goal.returns-in-Filled-clause-rows
returns-in-Filled-clause-rows c = λ e. c.requires.1.filled c.in-Filled.is
