-- The cursor is moved to the last finding put.
use borrow.Author.Rules.{rules}
use lib.ListN.{length}
use Rattle.findings.specs.Steps.{cursor_place}
use Rattle.findings.proofs.Walk.{SmallPlace}
use Rattle.findings.proofs.PutSoFar.{put_small, put-moved, put-still}
use Rattle.findings.proofs.Cursor.list.Goals as goal

pub returns-then-count-eq0 : goal.returns-then-count-eq0
returns-then-count-eq0 c =
    let sized : SmallPlace (cursor_place c.args.self) = record { small_kind = search rules; small_a = search rules; small_b = search rules } in
    record { puts = c.put_all-count.ensures; cursor_value = put-still c.args.memory.now (length c.args.list.now) (cursor_place c.args.self) sized c.put_all-count.ensures c.if-count-eq0.true }

pub cursor_at-requires : goal.cursor_at-requires
cursor_at-requires c =
    let sized : SmallPlace (cursor_place c.args.self) = record { small_kind = search rules; small_a = search rules; small_b = search rules } in
    put_small c.args.memory.now (length c.args.list.now) (cursor_place c.args.self) sized c.put_all-count.ensures (search rules)

pub returns : goal.returns
returns c =
    let sized : SmallPlace (cursor_place c.args.self) = record { small_kind = search rules; small_a = search rules; small_b = search rules } in
    record { puts = c.put_all-count.ensures; cursor_value = put-moved c.args.memory.now (length c.args.list.now) (cursor_place c.args.self) sized c.put_all-count.ensures (search rules) c.cursor_at.ensures }
