-- From which entry a look-up may go on.
use Rattle.std.specs.Prelude.{ℕ}
use Rattle.line_windows.specs.Table.{TableCell}
use Rattle.line_windows.specs.Search.{NoneServes}
use Rattle.line_windows.specs.Ids.{end_of}

-- the entries before entry `from` of the line table at `start` serve no pixel from x on
pub record PassedIds (memory : TableCell → ℕ) (start from x : ℕ) : Type 0 where
  pub passed : NoneServes memory (end_of start) from x
