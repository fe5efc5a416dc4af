use Rattle.std.proofs.Common.{sym}
use Rattle.tc_read.proofs.close.close.Goals as goal

pub returns-in-Some-Group : goal.returns-in-Some-Group
returns-in-Some-Group c = rw (c.in-Some-Group.ensures.frames, c.in-Some-Group.field-0-is, sym c.in-Some-Group.ensures.items) (c.close_group.ensures c.pop_frame.new.self)
