-- When a queue keeps the state's rule.
use Rattle.std.specs.Prelude.{Bool, ◌&&◌, List, leb}
use Rattle.std.specs.List.{list_all}
use Rattle.chip_queue.specs.Waiting.{good_write}
use Rattle.chip_queue.specs.Queue.{most_waiting, waiting_in}
use Rattle.chip_queue.specs.declared.Waiting.{Waiting}
use Rattle.chip_queue.specs.declared.Queue.{Queue}

-- every one of some writes is good (CHIP 8.4)
abbrev pub all_good : List Waiting → Bool
all_good writes = list_all good_write writes

-- at most 64 wait, and all that wait are good; slots beyond them do not count (CHIP 8.4)
unfoldable pub good_queue : Queue → Bool
good_queue queue = leb queue.waiting most_waiting && all_good (waiting_in queue)
