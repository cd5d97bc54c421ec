-- Runs of the program: turns, and between them what is written and what is read.
use Rattle.std.specs.Prelude.{ℕ, suc, ◌+◌, ◌-◌, ◌^◌, ◌≡◌, true, false, ◌⊎◌, List, [], ◌∷◌, ◌++◌, length, take}
use Rattle.rules.specs.Lists.{joined}
use Rattle.session.specs.Listing.{listing}
use Rattle.replay.specs.Run.{RunAt, run_of, unread_in, text_waiting, turned, goes_on_turning, going_so, written_out, taken_in, nothing_read}
use Rattle.replay.specs.declared.course.Going.{Going}
use Rattle.replay.specs.declared.course.Going.TheVariants.{On, Full, Read, Over, Unread, Unwritten}
use Rattle.replay.specs.declared.course.Course.{Course}

-- how a run goes on after a turn
abbrev pub asks_after : RunAt → Going
asks_after run = (turned run).course.going

-- the text that waits after a turn
abbrev pub waits_after : RunAt → List ℕ
waits_after run = text_waiting (turned run).course (turned run).lines

-- the bytes that are unread after a turn
abbrev pub unread_after : RunAt → List ℕ
unread_after run = unread_in (turned run).course (turned run).input

-- a run after a turn and then with this course and input
abbrev pub served_so : RunAt → Course → List ℕ → RunAt
served_so run course input = run_of course (turned run).session (turned run).rooms input (turned run).lines

-- a run after a turn and then with the text written out
abbrev pub written_after : RunAt → Going → Course
written_after run going = written_out (turned run).course going

-- from its start, with so many turns, a run has read these pieces, one after another, and written this text, and is here
pub data RunsTo (start : RunAt) : ℕ → List (List ℕ) → List ℕ → RunAt → Type 0 where
  -- nothing is done yet
  starts : RunsTo start 0 [] [] start
  -- a turn goes on
  turns : {made : ℕ} {pieces : List (List ℕ)} {text : List ℕ} {run : RunAt} → RunsTo start made pieces text run → run.course.going ≡ On
      → asks_after run ≡ On → RunsTo start (suc made) pieces text (served_so run (turned run).course (turned run).input)
  -- a turn finds no room: the text that waits is written
  writes : {made : ℕ} {pieces : List (List ℕ)} {text : List ℕ} {run : RunAt} → RunsTo start made pieces text run → run.course.going ≡ On
      → asks_after run ≡ Full → RunsTo start (suc made) pieces (text ++ waits_after run) (served_so run (written_after run On) (turned run).input)
  -- a turn waits for bytes: the text is written, and a piece stands behind the unread bytes; where it is empty, the file ends there
  reads : {made : ℕ} {pieces : List (List ℕ)} {text : List ℕ} {run : RunAt} → RunsTo start made pieces text run → run.course.going ≡ On
      → asks_after run ≡ Read → {input : List ℕ} (piece : List ℕ) → take (length (unread_after run) + length piece) input ≡ unread_after run ++ piece
      → RunsTo start (suc made) (pieces ++ piece ∷ []) (text ++ waits_after run) (served_so run (taken_in (written_after run Read) (length (unread_after run)) (length piece)) input)
  -- a turn waits for bytes: the text is written, and the read is interrupted
  retries : {made : ℕ} {pieces : List (List ℕ)} {text : List ℕ} {run : RunAt} → RunsTo start made pieces text run → run.course.going ≡ On
      → asks_after run ≡ Read → {input : List ℕ} → take (length (unread_after run)) input ≡ unread_after run
      → RunsTo start (suc made) pieces (text ++ waits_after run) (served_so run (nothing_read (written_after run Read) (length (unread_after run)) On) input)
  -- a turn waits for bytes: the text is written, and the read fails: no more is read
  fails : {made : ℕ} {pieces : List (List ℕ)} {text : List ℕ} {run : RunAt} → RunsTo start made pieces text run → run.course.going ≡ On
      → asks_after run ≡ Read → {input : List ℕ} → take (length (unread_after run)) input ≡ unread_after run
      → RunsTo start (suc made) pieces (text ++ waits_after run) (served_so run (nothing_read (written_after run Read) (length (unread_after run)) Unread) input)
  -- a turn is the last: the rest of the text is written
  ends : {made : ℕ} {pieces : List (List ℕ)} {text : List ℕ} {run : RunAt} → RunsTo start made pieces text run → run.course.going ≡ On
      → asks_after run ≡ Over → RunsTo start (suc made) pieces (text ++ waits_after run) (served_so run (written_after run Over) (turned run).input)
  -- the text that waits can't all be written: no more is
  breaks : {made : ℕ} {pieces : List (List ℕ)} {text : List ℕ} {run : RunAt} → RunsTo start made pieces text run → run.course.going ≡ On
      → RunsTo start (suc made) pieces text (served_so run (going_so (turned run).course Unwritten) (turned run).input)

-- with so many turns there are such pieces and such a text
abbrev pub Reached : RunAt → ℕ → RunAt → Type 0
Reached start made run = (pieces : List (List ℕ)) × ((text : List ℕ) × RunsTo start made pieces text run)

-- a run that is over has written the listing of what it read, whatever bytes follow where it did not see the end of its file (CHIP 9.7)
abbrev pub WroteListing : RunAt → List (List ℕ) → List ℕ → Type 0
WroteListing run pieces text =
    run.course.going ≡ Over
    → (run.course.last ≡ true → text ≡ listing (joined pieces)) × (run.course.last ≡ false → (rest : List ℕ) → text ≡ listing (joined pieces ++ rest))

-- a run goes on until no other turn can be made, or it has made as many as a number of 64 bits counts; where it is over, the listing is written
pub record RunsOut (start run : RunAt) : Type 0 where
  pub made : ℕ
  pub pieces : List (List ℕ)
  pub text : List ℕ
  pub runs : RunsTo start made pieces text run
  pub wrote : WroteListing run pieces text
  pub out : (goes_on_turning run.course.going ≡ false) ⊎ (made ≡ 2 ^ 64 - 1)
