-- What was put and where the listing goes on is the answer.
use Rattle.findings.specs.Steps.{cursor_place}
use Rattle.closing.proofs.ListingLaws.{tells-last, tells-on}
use Rattle.closing.proofs.tell_wanted.Goals as goal

pub returns-in-Some : goal.returns-in-Some
returns-in-Some c =
    let lines = c.put_lines-lines.ensures in
    tells-on c.args.memory.now c.requires.0 (cursor_place c.args.cursor) c.args.wanted lines.lines c.put_lines-lines.result.next c.in-Some.next c.in-Some.is lines.goes_on

pub returns-in-None : goal.returns-in-None
returns-in-None c =
    let lines = c.put_lines-lines.ensures in
    tells-last c.args.memory.now c.requires.0 (cursor_place c.args.cursor) c.args.wanted lines.lines c.put_lines-lines.result.next c.in-None.is lines.goes_on
