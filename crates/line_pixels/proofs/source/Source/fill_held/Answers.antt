-- The places at either depth are those of the samples.
use Rattle.std.proofs.Common.{rules, ◌+◌, ◌/◌, ◌≤◌, ◌≡◌, length, arith}
use Rattle.line_pixels.specs.SamplePlace.{sample_place}
use Rattle.line_pixels.proofs.Halves.{held_of, held_in_row, apart_two}
use Rattle.line_pixels.proofs.Rows.{said_says}
use Rattle.line_pixels.proofs.source.Source.fill_held.Goals as goal

pub overflow_sub-first : goal.overflow_sub-first
overflow_sub-first g c =
    let s = c.args.self.now in
    let held = held_of (said_says s.screen.depth s.entry c.requires.lent.said) c.requires.held in
    omega (arith, held.within)

pub overflow_sub-first-2 : goal.overflow_sub-first-2
overflow_sub-first-2 g c =
    let s = c.args.self.now in
    let held = held_of (said_says s.screen.depth s.entry c.requires.lent.said) c.requires.held in
    omega (arith, held.within)

pub returns-then-apart-eq4 : goal.returns-then-apart-eq4
returns-then-apart-eq4 g c =
    λ shows is. c.fill.ensures shows (λ i answer below post. is i answer below (rw c.if-apart-eq4.true (search rules)))

pub fill-requires-else-apart-eq4 : goal.fill-requires-else-apart-eq4
fill-requires-else-apart-eq4 g c =
    λ i more.
    let s = c.args.self.now in
    let says = said_says s.screen.depth s.entry c.requires.lent.said in
    let held = held_of says c.requires.held in
    let apart : s.screen.depth / 8 ≡ 2 = apart_two says c.if-apart-eq4.false in
    let inside : sample_place s g.row.BYTES c.args.x i + g.row.BYTES ≤ length s.normal.now =
    held_in_row s.normal.now c.args.x (length c.args.out.now) held (c.requires.lent.said, c.requires.lent.normal_long) i more in
    rw (← apart) (omega arith, c.requires.callable (sample_place s g.row.BYTES c.args.x i) inside)

pub returns : goal.returns
returns g c =
    λ shows is.
    let s = c.args.self.now in
    let apart : s.screen.depth / 8 ≡ 2 = apart_two (said_says s.screen.depth s.entry c.requires.lent.said) c.if-apart-eq4.false in
    c.fill-else-apart-eq4.ensures shows (λ i answer below post. is i answer below (rw apart (search rules)))
