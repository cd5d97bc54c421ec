-- A drawn line lists its colours. Assumes nothing.
use Prim.Native.Nat.{ℕ}
use mathlib.Core.Path.{◌≡◌, ap}
use mathlib.Core.Bool.{Bool}
use mathlib.Core.List.{List, [], ◌∷◌, ◌++◌}
use lib.ListN.{length, drop}
use lib.Seq.{take_at}
use Rattle.rules.specs.Rule.{ok}
use Rattle.session_records.specs.RecordAt.{record_at}
use Rattle.session_records.specs.declared.record.Record.TheVariants.{Line}
use Rattle.session_records.specs.declared.record.RecordAt.TheVariants.{Is}
use Rattle.session_listing.specs.Text.{ascii, ended, spaced, pixels, text}
use Rattle.session_answers.specs.Status.{text_of}
use Rattle.line_setup.specs.Controls.{controls_of}
use Rattle.line.specs.Cells.{Lent, lent_of}
use Rattle.line.specs.Line.{line_of}
use Rattle.line.specs.Request.{request_of}
use Rattle.line.specs.Drawn.{setup_of, drawn}
use Rattle.session.specs.Held.{Held}
use Rattle.session.specs.Record.{context_of, stepped}
use Rattle.line_reads.proofs.Outputs.{colours_length}
use Rattle.session_files.proofs.Step.{by_found}

-- what a line is lent of what is held
abbrev lent_by : Held → Lent
lent_by held = lent_of held.chip.1 held.table held.normal held.overlay

-- a line record whose line is drawn lists `line y`, and each colour of the active width on a line of its own
pub line_lists : (last : Bool) (held : Held) (bytes : List ℕ) {y count : ℕ} {colours : List ℕ} → record_at (context_of held last) bytes ≡ Is (Line y) count
    → line_of (setup_of (request_of held.chip.0 y) (lent_by held) (length held.output)) (lent_by held) ≡ ok colours
    → text_of (stepped last held bytes).0.0.output (stepped last held bytes).1 ≡ ended (ascii "line" ++ spaced (y ∷ [])) ++ pixels colours
unfolding drawn text setup_of
line_lists last held bytes {y} {count} {colours} is drawn_so =
    let width = (controls_of held.chip.0.control).width in
    rw (by_found last held bytes is, drawn_so)
    (ap (λ (shown : List ℕ). ended (ascii "line" ++ spaced (y ∷ [])) ++ pixels shown)
    (take_at colours (drop width held.output) width (colours_length (setup_of (request_of held.chip.0 y) (lent_by held) (length held.output)) (lent_by held) drawn_so)))
