-- `session::acts::act` meets its contract: record by record. Assumes nothing.
use Prim.Native.Nat.{ℕ, ◌+◌}
use mathlib.Core.Path.{sym, ap, subst, ◌∙◌}
use mathlib.Core.List.{List}
use native.Mathlib.Nat.{zero-add}
use borrow.Author.Rules.{rules}
use lib.ListN.{length}
use Rattle.rules.specs.Rule.{Outcome, ok}
use Rattle.rules.specs.Faults.{Numbered}
use Rattle.session_records.specs.declared.record.Record.{Record}
use Rattle.session_listing.specs.Text.{says_ok}
use Rattle.session_answers.specs.Status.{Status, listed}
use Rattle.session_rooms.specs.declared.Counts.{Counts}
use Rattle.session.specs.Lent.{Rooms, rooms_of, counts_of}
use Rattle.session.specs.Done.{session_with}
use Rattle.session.specs.Inner.{counted, BodyFits, acted_in}
use Rattle.session.specs.declared.session.Session.{Session}
use Rattle.session.proofs.Rooms.{with_counts}
use Rattle.session.proofs.Records.{acts_end, acts_write, acts_dots, acts_table, acts_normal, acts_overlay, acts_line}
use Rattle.session.proofs.acts.act.Statement.{statement}
use Rattle.session.proofs.acts.act.Tie as tie

-- after one more record, which left these rooms and so many bytes of table and rows
abbrev kept_in : Session → Rooms → Counts → (Session × Rooms) × Outcome Numbered Status
kept_in session rooms counts = ((counted (with_counts session counts), rooms), ok (listed says_ok))

enum_told : tie.Need-enum_told-1
enum_told c = search rules

unchanged_requires : tie.Need-unchanged-requires
unchanged_requires c κs = search rules

enum_known_which : tie.Need-enum_known-which
enum_known_which c = search rules

write_requires : tie.Need-write-requires
write_requires c κs = search rules

enum_known_which_2 : tie.Need-enum_known-which-in-Dots-1
enum_known_which_2 c = search rules

dots_requires : tie.Need-dots-requires
dots_requires c κs = search rules

enum_told_2 : tie.Need-enum_told-in-Table
enum_told_2 c = search rules

keep_requires : tie.Need-keep-requires
keep_requires c κs =
    let given = c.args in
    let session = session_with given.state given.counts given.records in
    let rooms = rooms_of given.store.now given.table.now given.normal.now given.overlay.now given.output.now in
    subst (λ (which : Record). BodyFits session rooms which given.body.now) c.in-Table.is c.requires.1.1

add_held : tie.Need-overflow_add-held
add_held c = search rules

unchanged_requires_2 : tie.Need-unchanged-requires-in-Table
unchanged_requires_2 c κs = search rules

listed_requires : tie.Need-listed-requires
listed_requires c κs = search rules

enum_told_3 : tie.Need-enum_told-in-Normal
enum_told_3 c = search rules

keep_requires_2 : tie.Need-keep-requires-in-Normal
keep_requires_2 c κs =
    let given = c.args in
    let session = session_with given.state given.counts given.records in
    let rooms = rooms_of given.store.now given.table.now given.normal.now given.overlay.now given.output.now in
    rw zero-add (subst (λ (which : Record). BodyFits session rooms which given.body.now) c.in-Normal.is c.requires.1.1)

unchanged_requires_3 : tie.Need-unchanged-requires-in-Normal
unchanged_requires_3 c κs = search rules

listed_requires_2 : tie.Need-listed-requires-in-Normal
listed_requires_2 c κs = search rules

enum_told_4 : tie.Need-enum_told-in-Overlay
enum_told_4 c = search rules

keep_requires_3 : tie.Need-keep-requires-in-Overlay
keep_requires_3 c κs =
    let given = c.args in
    let session = session_with given.state given.counts given.records in
    let rooms = rooms_of given.store.now given.table.now given.normal.now given.overlay.now given.output.now in
    rw zero-add (subst (λ (which : Record). BodyFits session rooms which given.body.now) c.in-Overlay.is c.requires.1.1)

unchanged_requires_4 : tie.Need-unchanged-requires-in-Overlay
unchanged_requires_4 c κs = search rules

listed_requires_3 : tie.Need-listed-requires-in-Overlay
listed_requires_3 c κs = search rules

enum_known_which_3 : tie.Need-enum_known-which-in-Line-1
enum_known_which_3 c = search rules

line_requires : tie.Need-line-requires
line_requires c κs = search rules

returns : tie.Need-returns-in-End
returns c =
    let given = c.args in
    let session = session_with given.state given.counts given.records in
    let rooms = rooms_of given.store.now given.table.now given.normal.now given.overlay.now given.output.now in
    rw c.unchanged.ensures
    (acts_end session rooms given.body.now c.requires.1.0 ∙ ap (λ (which : Record). acted_in session rooms which given.body.now) (sym c.in-End.is), tt)

same_length : tie.Need-shape_of-store-in-Write
same_length c = search rules

returns_2 : tie.Need-returns-in-Write
returns_2 c =
    let given = c.args in
    let session = session_with given.state given.counts given.records in
    let rooms = rooms_of given.store.now given.table.now given.normal.now given.overlay.now given.output.now in
    let done = c.write.ensures in (
      acts_write session rooms given.body.now c.requires.1.0 c.in-Write.address c.in-Write.value done.0
          ∙ ap (λ (which : Record). acted_in session rooms which given.body.now) (sym c.in-Write.is),
      done.1,
    )

same_length_2 : tie.Need-shape_of-store-in-Dots
same_length_2 c = search rules

returns_3 : tie.Need-returns-in-Dots
returns_3 c =
    let given = c.args in
    let session = session_with given.state given.counts given.records in
    let rooms = rooms_of given.store.now given.table.now given.normal.now given.overlay.now given.output.now in
    let done = c.dots.ensures in (
      acts_dots session rooms given.body.now c.requires.1.0 c.in-Dots.count done.0
          ∙ ap (λ (which : Record). acted_in session rooms which given.body.now) (sym c.in-Dots.is),
      done.1,
    )

same_length_3 : tie.Need-shape_of-table-in-Table
same_length_3 c = search rules

returns_4 : tie.Need-returns-in-Table
returns_4 c =
    let given = c.args in
    let session = session_with given.state given.counts given.records in
    let rooms = rooms_of given.store.now given.table.now given.normal.now given.overlay.now given.output.now in
    rw (c.listed.ensures, c.unchanged-in-Table.ensures) (
      ap (λ (kept : List ℕ). kept_in session (rooms_of given.store.now kept given.normal.now given.overlay.now given.output.now) (counts_of (given.counts.table + length given.body.now) given.counts.normal given.counts.overlay)) c.keep.ensures
          ∙ acts_table session rooms given.body.now c.requires.1.0
          ∙ ap (λ (which : Record). acted_in session rooms which given.body.now) (sym c.in-Table.is),
      tt,
    )

same_length_4 : tie.Need-shape_of-normal-in-Normal
same_length_4 c = search rules

returns_5 : tie.Need-returns-in-Normal
returns_5 c =
    let given = c.args in
    let session = session_with given.state given.counts given.records in
    let rooms = rooms_of given.store.now given.table.now given.normal.now given.overlay.now given.output.now in
    rw (c.listed-in-Normal.ensures, c.unchanged-in-Normal.ensures) (
      ap (λ (kept : List ℕ). kept_in session (rooms_of given.store.now given.table.now kept given.overlay.now given.output.now) (counts_of given.counts.table (length given.body.now) given.counts.overlay)) c.keep-in-Normal.ensures
          ∙ acts_normal session rooms given.body.now c.requires.1.0
          ∙ ap (λ (which : Record). acted_in session rooms which given.body.now) (sym c.in-Normal.is),
      tt,
    )

same_length_5 : tie.Need-shape_of-overlay-in-Overlay
same_length_5 c = search rules

returns_6 : tie.Need-returns-in-Overlay
returns_6 c =
    let given = c.args in
    let session = session_with given.state given.counts given.records in
    let rooms = rooms_of given.store.now given.table.now given.normal.now given.overlay.now given.output.now in
    rw (c.listed-in-Overlay.ensures, c.unchanged-in-Overlay.ensures) (
      ap (λ (kept : List ℕ). kept_in session (rooms_of given.store.now given.table.now given.normal.now kept given.output.now) (counts_of given.counts.table given.counts.normal (length given.body.now))) c.keep-in-Overlay.ensures
          ∙ acts_overlay session rooms given.body.now c.requires.1.0
          ∙ ap (λ (which : Record). acted_in session rooms which given.body.now) (sym c.in-Overlay.is),
      tt,
    )

same_length_6 : tie.Need-shape_of-store-in-Line
same_length_6 c = search rules

same_length_7 : tie.Need-shape_of-table-in-Line
same_length_7 c = search rules

same_length_8 : tie.Need-shape_of-normal-in-Line
same_length_8 c = search rules

same_length_9 : tie.Need-shape_of-overlay-in-Line
same_length_9 c = search rules

same_length_10 : tie.Need-shape_of-output
same_length_10 c = search rules

returns_7 : tie.Need-returns-in-Line
returns_7 c =
    let start = c.before.before.before.before.before.before.before.before.before.before.before in
    let given = start.args in
    let session = session_with given.state given.counts given.records in
    let rooms = rooms_of given.store.now given.table.now given.normal.now given.overlay.now given.output.now in
    let done = c.line.ensures in (
      acts_line session rooms given.body.now start.requires.1.0 c.in-Line.y done.0
          ∙ ap (λ (which : Record). acted_in session rooms which given.body.now) (sym c.in-Line.is),
      done.1,
    )

pub act_spec : {M : Type 1} → statement M
act_spec =
    tie.close
    (tie.spec
    enum_told
    unchanged_requires
    enum_known_which
    write_requires
    enum_known_which_2
    dots_requires
    enum_told_2
    keep_requires
    add_held
    unchanged_requires_2
    listed_requires
    enum_told_3
    keep_requires_2
    unchanged_requires_3
    listed_requires_2
    enum_told_4
    keep_requires_3
    unchanged_requires_4
    listed_requires_3
    enum_known_which_3
    line_requires
    returns
    same_length
    returns_2
    same_length_2
    returns_3
    same_length_3
    returns_4
    same_length_4
    returns_5
    same_length_5
    returns_6
    same_length_6
    same_length_7
    same_length_8
    same_length_9
    same_length_10
    returns_7)
