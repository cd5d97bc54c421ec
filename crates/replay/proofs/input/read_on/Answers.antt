-- `read_on`: what was read stands behind the unread bytes.
use Rattle.replay.proofs.Reading.{read_some}
use Rattle.replay.proofs.input.read_on.Goals as goal

pub returns-in-Ok : goal.returns-in-Ok
returns-in-Ok c =
    read_some c.args.course c.args.input.now c.requires.0 c.to_front-kept.ensures c.read_behind.ensures.keeps c.in-Ok.count c.in-Ok.ensures.inside
    c.taken_in.ensures
