-- `line_formats::Format::part`: the bits say which part, at the two depths.
use Rattle.std.proofs.Common.{ap, arith}
use Rattle.line_formats.specs.declared.Widths.{Widths}
use Rattle.line_formats.proofs.Fitting.{part_half, part_whole, part_unlisted, part_no_depth}
use Rattle.line_formats.proofs.Format.part.Goals as goal

pub returns-then-bits-depth : goal.returns-then-bits-depth
returns-then-bits-depth c =
    part_half c.args.self c.args.depth c.in-16.is (ap (λ (w : Widths). w.bits) c.widths-bits.ensures) (omega arith)

pub returns-then-bits-depth-2 : goal.returns-then-bits-depth-2
returns-then-bits-depth-2 c =
    part_whole c.args.self c.args.depth c.in-16.is (ap (λ (w : Widths). w.bits) c.widths-bits.ensures) (omega arith) (omega arith)

pub returns-else-bits-depth-2 : goal.returns-else-bits-depth-2
returns-else-bits-depth-2 c =
    part_unlisted c.args.self c.args.depth c.in-16.is (ap (λ (w : Widths). w.bits) c.widths-bits.ensures) (omega arith) (omega arith)

pub returns-in_default : goal.returns-in_default
returns-in_default c = part_no_depth c.args.self c.args.depth c.in_default.in_default-own.rest.1
