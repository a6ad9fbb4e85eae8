-- The three parts of the file are put one behind another.
use Rattle.files.proofs.FileLaws.{settings-room, containers-room, policies-room, file-put}
use Rattle.files.proofs.put_file.Goals as goal

pub slice_bounds-write_settings-end : goal.slice_bounds-write_settings-end
slice_bounds-write_settings-end c = settings-room _ c.args.bytes.now c.requires.1

pub put_table-behind-requires : goal.put_table-behind-requires
put_table-behind-requires c =
    (c.requires.0, containers-room _ c.args.bytes.now c.requires.1 c.write_settings.ensures)

pub put_table-requires : goal.put_table-requires
put_table-requires c =
    (c.requires.0, policies-room _ c.args.bytes.now c.requires.1 c.write_settings.ensures c.put_table-behind.ensures)

pub returns : goal.returns
returns c =
    file-put _ c.args.bytes.now c.requires.1 c.write_settings.ensures c.put_table-behind.ensures c.put_table.ensures
