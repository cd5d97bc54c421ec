-- A run that is over has written the listing of its file. Assumes nothing.
use Prim.Native.Nat.{ℕ}
use mathlib.Core.Path.{◌≡◌, refl, sym, ap, subst, ◌∙◌}
use mathlib.Core.Bool.{Bool, true, false}
use mathlib.Core.List.{List, [], ◌∷◌, ◌++◌, append_assoc, append-nil}
use lib.ListN.{drop}
use Rattle.rules.specs.Rule.{ok}
use Rattle.rules.specs.Lists.{joined}
use Rattle.rules.proofs.Cases.{impossible}
use Rattle.session_listing.specs.Text.{says_refused, text}
use Rattle.session_answers.specs.Status.{Status, listed, ended, needs_more, stopped, text_of}
use Rattle.session.specs.Held.{Held, nothing_held}
use Rattle.session.specs.Record.{stepped}
use Rattle.session.specs.Listing.{listing}
use Rattle.session.specs.Lent.{Rooms, session_of}
use Rattle.session_files.specs.Steps.{none, Steps}
use Rattle.session_files.specs.Steps as steps
use Rattle.session_files.specs.Calls.{Zeroed, RightLengths}
use Rattle.session_files.proofs.Step.{waiting_leaves, stopped_leaves, never_waits}
use Rattle.session_files.proofs.Cuts.{cut_lists}
use Rattle.session_files.proofs.Calls.{first_held}
use Rattle.session_files.proofs.Answered.{Ready, first_ready}
use Rattle.replay.specs.Run.{RunAt, run_of, begun, going_after, turned}
use Rattle.replay.specs.Runs.{WroteListing, asks_after, unread_after, waits_after, RunsTo, starts, turns, writes, reads, retries, fails, ends, breaks}
use Rattle.replay.specs.declared.course.Going.TheVariants.{On, Full, Read, Over}
use Rattle.replay.proofs.Taken.{held_by, unread_by, waits_by, step_by, Left-by, stepping, unmoved, turn_leaves, turn_ready}

-- ---- a turn, by what it asks for

module _ (run : RunAt) where
  -- with so much more to be written, steps are left from a run on: what waits is written before it
  pub record StepsOn (others : List (List ℕ)) (later : List ℕ) : Type 0 where
    pub more : List ℕ
    pub writes_so : waits_by run ++ more ≡ later
    pub steps_so : Steps (held_by run) (unread_by run) others more

  -- what waits with the text of what the step comes to
  added : {status : Status} → (step_by run).1 ≡ status
      → waits_by run ++ text_of (step_by run).0.0.output (step_by run).1 ≡ waits_by run ++ text_of (step_by run).0.0.output status
  added e = ap (λ (status : Status). waits_by run ++ text_of (step_by run).0.0.output status) e

  module _ (others : List (List ℕ)) (last : none others ≡ run.course.last) where
    -- a turn that goes on is a step that lists an entry
    goes_by : Left-by run → asks_after run ≡ On → (rest : List ℕ) → Steps (held_by (turned run)) (unread_after run) others rest → StepsOn others (waits_after run ++ rest)
    goes_by (unmoved full held unread waits same) on rest onwards = impossible (cc (sym full ∙ on))
    goes_by (stepping goes held unread waits same) on rest onwards = by (step_by run).1 refl
      where
        -- by what the step comes to
        by : (status : Status) → (step_by run).1 ≡ status → StepsOn others (waits_after run ++ rest)
        by (listed entry) e =
            let shown = text entry (step_by run).0.0.output in
            let so : stepped (none others) (held_by run) (unread_by run) ≡ ((step_by run).0, listed entry) = rw last (ap (λ (status : Status). ((step_by run).0, status)) e) in
            record {
              more = shown ++ rest;
              writes_so = sym (ap (λ (front : List ℕ). front ++ rest) (waits ∙ added e) ∙ append_assoc (waits_by run) shown rest);
              steps_so = steps.lists so (rw (held, unread) at onwards);
            }
        by ended e = impossible (cc (sym on ∙ goes ∙ ap (λ (status : Status). going_after (ok status)) e))
        by needs_more e = impossible (cc (sym on ∙ goes ∙ ap (λ (status : Status). going_after (ok status)) e))
        by (stopped refusal) e = impossible (cc (sym on ∙ goes ∙ ap (λ (status : Status). going_after (ok status)) e))

    -- a turn that is the last is a step that finds the end or a fault
    over_by : Left-by run → asks_after run ≡ Over → StepsOn others (waits_after run)
    over_by (unmoved full held unread waits same) over = impossible (cc (sym full ∙ over))
    over_by (stepping goes held unread waits same) over = by (step_by run).1 refl
      where
        -- by what the step comes to
        by : (status : Status) → (step_by run).1 ≡ status → StepsOn others (waits_after run)
        by ended e =
            let so : (stepped (none others) (held_by run) (unread_by run)).1 ≡ ended = rw last e in
            record { more = []; writes_so = sym (waits ∙ added e); steps_so = steps.ends so }
        by (stopped refusal) e =
            let shown = text (says_refused refusal) (held_by run).output in
            let stays = stopped_leaves run.course.last (held_by run) (unread_by run) e in
            let so : (stepped (none others) (held_by run) (unread_by run)).1 ≡ stopped refusal = rw last e in
            record { more = shown; writes_so = sym (waits ∙ added e ∙ ap (λ (all : Held × ℕ). waits_by run ++ text (says_refused refusal) all.0.output) stays); steps_so = steps.stops so }
        by (listed entry) e = impossible (cc (sym over ∙ goes ∙ ap (λ (status : Status). going_after (ok status)) e))
        by needs_more e = impossible (cc (sym over ∙ goes ∙ ap (λ (status : Status). going_after (ok status)) e))

  -- a turn that finds no room leaves what is held and unread
  full_by : Left-by run → asks_after run ≡ Full → (held_by (turned run) ≡ held_by run) × ((unread_after run ≡ unread_by run) × (waits_after run ≡ waits_by run))
  full_by (unmoved full held unread waits same) is = (held, (unread, waits))
  full_by (stepping goes held unread waits same) is = by (step_by run).1 refl
    where
      -- by what the step comes to
      by : (status : Status) → (step_by run).1 ≡ status → (held_by (turned run) ≡ held_by run) × ((unread_after run ≡ unread_by run) × (waits_after run ≡ waits_by run))
      by (listed entry) e = impossible (cc (sym is ∙ goes ∙ ap (λ (status : Status). going_after (ok status)) e))
      by ended e = impossible (cc (sym is ∙ goes ∙ ap (λ (status : Status). going_after (ok status)) e))
      by needs_more e = impossible (cc (sym is ∙ goes ∙ ap (λ (status : Status). going_after (ok status)) e))
      by (stopped refusal) e = impossible (cc (sym is ∙ goes ∙ ap (λ (status : Status). going_after (ok status)) e))

  -- a turn that waits: the file goes on, and what is held, unread and waiting is as before
  record Waits : Type 0 where
    not_last : run.course.last ≡ false
    same_held : held_by (turned run) ≡ held_by run
    same_unread : unread_after run ≡ unread_by run
    same_waits : waits_after run ≡ waits_by run

  -- by whether the file ends with the bytes that are lent
  goes_on : (last : Bool) → run.course.last ≡ last → (step_by run).1 ≡ needs_more → run.course.last ≡ false
  goes_on true is e = absurd (never_waits run.course.last (held_by run) (unread_by run) is e)
  goes_on false is e = is

  -- a turn that asks for more bytes waits
  waits_by_left : Left-by run → asks_after run ≡ Read → Waits
  waits_by_left (unmoved full held unread waits same) is = impossible (cc (sym full ∙ is))
  waits_by_left (stepping goes held unread waits same) is = by (step_by run).1 refl
    where
      -- by what the step comes to
      by : (status : Status) → (step_by run).1 ≡ status → Waits
      by needs_more e =
          let stays = waiting_leaves run.course.last (held_by run) (unread_by run) e in
          let file_goes_on = goes_on run.course.last refl e in
          record {
            not_last = file_goes_on;
            same_held = held ∙ ap (λ (all : Held × ℕ). all.0) stays;
            same_unread = unread ∙ ap (λ (all : Held × ℕ). drop all.1 (unread_by run)) stays;
            same_waits = waits ∙ added e ∙ append-nil (waits_by run);
          }
      by (listed entry) e = impossible (cc (sym is ∙ goes ∙ ap (λ (status : Status). going_after (ok status)) e))
      by ended e = impossible (cc (sym is ∙ goes ∙ ap (λ (status : Status). going_after (ok status)) e))
      by (stopped refusal) e = impossible (cc (sym is ∙ goes ∙ ap (λ (status : Status). going_after (ok status)) e))

-- ---- a run

-- a turn leaves whether the file ends with the bytes that are lent
same_last : (run : RunAt) → Left-by run → (turned run).course.last ≡ run.course.last
same_last run (stepping goes held unread waits same) = same
same_last run (unmoved full held unread waits same) = same

-- pieces with another behind them, joined
joined_behind : (pieces : List (List ℕ)) (rest : List ℕ) → joined (pieces ++ rest ∷ []) ≡ joined pieces ++ rest
joined_behind [] rest = append-nil rest
joined_behind (piece ∷ pieces) rest = ap (λ (all : List ℕ). piece ++ all) (joined_behind pieces rest) ∙ sym (append_assoc piece (joined pieces) rest)

module _ (rooms : Rooms) (input lines : List ℕ) (zeroed : Zeroed rooms) (right : RightLengths rooms) where
  -- where a run starts
  abbrev start : RunAt
  start = run_of begun (session_of nothing_held) rooms input lines

  -- no call of it is refused
  runs_ready : {made : ℕ} {pieces : List (List ℕ)} {written : List ℕ} {run : RunAt} → RunsTo start made pieces written run → Ready run.session run.rooms
  runs_ready starts = first_ready zeroed right
  runs_ready (turns {run = run} before on is) = turn_ready run (runs_ready before)
  runs_ready (writes {run = run} before on is) = turn_ready run (runs_ready before)
  runs_ready (reads {run = run} before on is piece front) = turn_ready run (runs_ready before)
  runs_ready (retries {run = run} before on is front) = turn_ready run (runs_ready before)
  runs_ready (fails {run = run} before on is front) = turn_ready run (runs_ready before)
  runs_ready (ends {run = run} before on is) = turn_ready run (runs_ready before)
  runs_ready (breaks {run = run} before on) = turn_ready run (runs_ready before)

  -- steps from a run on are steps from its start on, with what it read before and what it wrote
  runs_steps : {made : ℕ} {pieces : List (List ℕ)} {written : List ℕ} {run : RunAt} → RunsTo start made pieces written run → run.course.going ≡ On
      → (others : List (List ℕ)) → none others ≡ run.course.last → {rest : List ℕ} → Steps (held_by run) (unread_by run) others rest
      → Steps (held_by start) [] (pieces ++ others) (written ++ (waits_by run ++ rest))
  runs_steps starts on others last onwards = onwards
  runs_steps (turns {pieces = pieces} {text = written} {run = run} before was is) on others last {rest} onwards =
      let ready = runs_ready before in
      let same = same_last run (turn_leaves run ready) in
      let steps_on = goes_by run others (last ∙ same) (turn_leaves run ready) is rest onwards in
      subst (λ (later : List ℕ). Steps (held_by start) [] (pieces ++ others) (written ++ later)) steps_on.writes_so
      (runs_steps before was others (last ∙ same) steps_on.steps_so)
  runs_steps (writes {pieces = pieces} {text = written} {run = run} before was is) on others last {rest} onwards =
      let ready = runs_ready before in
      let stays = full_by run (turn_leaves run ready) is in
      let same = same_last run (turn_leaves run ready) in
      subst (Steps (held_by start) [] (pieces ++ others)) (ap (λ (waits : List ℕ). written ++ (waits ++ rest)) (sym stays.1.1) ∙ sym (append_assoc written (waits_after run) rest))
      (runs_steps before was others (last ∙ same) (rw (stays.0, stays.1.0) at onwards))
  runs_steps (reads {pieces = pieces} {text = written} {run = run} before was is piece front) on others last {rest} onwards =
      let waits = waits_by_left run (turn_leaves run (runs_ready before)) is in
      let lent : Steps (held_by run) (unread_by run ++ piece) others rest = rw (front, waits.same_held, waits.same_unread) at onwards in
      subst (λ (all : List (List ℕ)). Steps (held_by start) [] all ((written ++ waits_after run) ++ rest)) (sym (append_assoc pieces (piece ∷ []) others))
      (subst (Steps (held_by start) [] (pieces ++ piece ∷ others))
      (ap (λ (waiting : List ℕ). written ++ (waiting ++ rest)) (sym waits.same_waits) ∙ sym (append_assoc written (waits_after run) rest))
      (runs_steps before was (piece ∷ others) (sym waits.not_last) (steps.adds lent)))
  runs_steps (retries {pieces = pieces} {text = written} {run = run} before was is front) on others last {rest} onwards =
      let waits = waits_by_left run (turn_leaves run (runs_ready before)) is in
      let lent : Steps (held_by run) (unread_by run) others rest = rw (front, waits.same_held, waits.same_unread) at onwards in
      subst (Steps (held_by start) [] (pieces ++ others))
      (ap (λ (waiting : List ℕ). written ++ (waiting ++ rest)) (sym waits.same_waits) ∙ sym (append_assoc written (waits_after run) rest))
      (runs_steps before was others (last ∙ sym waits.not_last) lent)
  runs_steps (fails before was is front) on others last onwards = impossible (cc on)
  runs_steps (ends before was is) on others last onwards = impossible (cc on)
  runs_steps (breaks before was) on others last onwards = impossible (cc on)

  -- a run that is over has written the listing of the pieces that it read and of any that follow
  over_lists : {made : ℕ} {pieces : List (List ℕ)} {written : List ℕ} {run : RunAt} → RunsTo start made pieces written run → run.course.going ≡ Over
      → (others : List (List ℕ)) → none others ≡ run.course.last → written ≡ listing (joined (pieces ++ others))
  over_lists (ends {pieces = pieces} {text = written} {run = run} before was is) over others last =
      let ready = runs_ready before in
      let same = same_last run (turn_leaves run ready) in
      let steps_on = over_by run others (last ∙ same) (turn_leaves run ready) is in
      cut_lists right.output_long
      (subst (λ (held : Held). Steps held [] (pieces ++ others) (written ++ waits_after run)) (first_held rooms zeroed)
      (subst (λ (later : List ℕ). Steps (held_by start) [] (pieces ++ others) (written ++ later)) steps_on.writes_so
      (runs_steps before was others (last ∙ same) steps_on.steps_so)))
  over_lists starts over others last = impossible (cc over)
  over_lists (turns before was is) over others last = impossible (cc (sym is ∙ over))
  over_lists (writes before was is) over others last = impossible (cc over)
  over_lists (reads before was is piece front) over others last = impossible (cc over)
  over_lists (retries before was is front) over others last = impossible (cc over)
  over_lists (fails before was is front) over others last = impossible (cc over)
  over_lists (breaks before was) over others last = impossible (cc over)

  -- a run that is over and saw the end of its file has written the file's listing
  pub whole_listed : {made : ℕ} {pieces : List (List ℕ)} {written : List ℕ} {run : RunAt} → RunsTo start made pieces written run → run.course.going ≡ Over
      → run.course.last ≡ true → written ≡ listing (joined pieces)
  whole_listed {pieces = pieces} runs over last = over_lists runs over [] (sym last) ∙ ap (λ (all : List (List ℕ)). listing (joined all)) (append-nil pieces)

  -- one that is over before has written the file's listing too, whatever bytes it did not read
  pub front_listed : {made : ℕ} {pieces : List (List ℕ)} {written : List ℕ} {run : RunAt} → RunsTo start made pieces written run → run.course.going ≡ Over
      → run.course.last ≡ false → (rest : List ℕ) → written ≡ listing (joined pieces ++ rest)
  front_listed {pieces = pieces} runs over last rest =
      over_lists runs over (rest ∷ []) (sym last) ∙ ap listing (joined_behind pieces rest)

  -- so every run that is over has
  pub wrote_listing : {made : ℕ} {pieces : List (List ℕ)} {written : List ℕ} {run : RunAt} → RunsTo start made pieces written run → WroteListing run pieces written
  wrote_listing runs over = (whole_listed runs over, front_listed runs over)
