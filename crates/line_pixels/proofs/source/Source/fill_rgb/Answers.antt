-- A run whose colours are those of the bytes that hold the samples is the run of normal colours.
use Rattle.std.proofs.Common.{rules, ◌≡◌, length, arith}
use Rattle.words.specs.Bytes.{big_endian}
use Rattle.words.specs.Channels.{word_of}
use Rattle.line_formats.specs.Table.{colour_in_format}
use Rattle.line_formats.specs.declared.Format.TheVariants.{Rgb332, Rgb444, Rgb555, Rgb888}
use Rattle.line_pixels.specs.SamplePlace.{sample_place}
use Rattle.line_pixels.proofs.Halves.{HeldBy, held_of}
use Rattle.line_pixels.proofs.WholeRuns.{run_normal}
use Rattle.line_pixels.proofs.Rows.{said_says}
use Rattle.line_pixels.proofs.source.Source.fill_rgb.Goals as goal

pub returns-in-Rgb332 : goal.returns-in-Rgb332
returns-in-Rgb332 c =
    let s = c.args.self.now in
    let says = said_says s.screen.depth s.entry c.requires.0.said in
    let held : HeldBy s.screen.depth s.entry 1 = held_of says (rw c.in-Rgb332.is) in
    run_normal s.store.now s.normal.now says s.bytes c.args.x (length c.args.out.now) c.args.out.now held c.in-Rgb332.is c.requires.1
    (c.fill_held.ensures (λ i. word_of (colour_in_format Rgb332 (big_endian s.normal.now (sample_place s 1 c.args.x i) 1)))
    (λ i answer below post.
    let is : answer ≡ word_of (colour_in_format Rgb332 (big_endian s.normal.now (sample_place s 1 c.args.x i) 1)) = search rules in
    is))
    s.overlay.now

pub returns-in-Rgb444 : goal.returns-in-Rgb444
returns-in-Rgb444 c =
    let s = c.args.self.now in
    let says = said_says s.screen.depth s.entry c.requires.0.said in
    let held : HeldBy s.screen.depth s.entry 2 = held_of says (rw c.in-Rgb444.is) in
    run_normal s.store.now s.normal.now says s.bytes c.args.x (length c.args.out.now) c.args.out.now held c.in-Rgb444.is c.requires.1
    (c.fill_held-in-Rgb444.ensures (λ i. word_of (colour_in_format Rgb444 (big_endian s.normal.now (sample_place s 2 c.args.x i) 2)))
    (λ i answer below post.
    let is : answer ≡ word_of (colour_in_format Rgb444 (big_endian s.normal.now (sample_place s 2 c.args.x i) 2)) = search rules in
    is))
    s.overlay.now

pub returns-in-Rgb555 : goal.returns-in-Rgb555
returns-in-Rgb555 c =
    let s = c.args.self.now in
    let says = said_says s.screen.depth s.entry c.requires.0.said in
    let held : HeldBy s.screen.depth s.entry 2 = held_of says (rw c.in-Rgb555.is) in
    run_normal s.store.now s.normal.now says s.bytes c.args.x (length c.args.out.now) c.args.out.now held c.in-Rgb555.is c.requires.1
    (c.fill_held-in-Rgb555.ensures (λ i. word_of (colour_in_format Rgb555 (big_endian s.normal.now (sample_place s 2 c.args.x i) 2)))
    (λ i answer below post.
    let is : answer ≡ word_of (colour_in_format Rgb555 (big_endian s.normal.now (sample_place s 2 c.args.x i) 2)) = search rules in
    is))
    s.overlay.now

pub returns-in-Rgb888 : goal.returns-in-Rgb888
returns-in-Rgb888 c =
    let s = c.args.self.now in
    let says = said_says s.screen.depth s.entry c.requires.0.said in
    let format : s.entry.format ≡ Rgb888 = grind arith in
    let held : HeldBy s.screen.depth s.entry 4 = held_of says (rw format) in
    run_normal s.store.now s.normal.now says s.bytes c.args.x (length c.args.out.now) c.args.out.now held format c.requires.1
    (c.fill_held-in-Rgb888.ensures (λ i. word_of (colour_in_format Rgb888 (big_endian s.normal.now (sample_place s 4 c.args.x i) 4)))
    (λ i answer below post.
    let is : answer ≡ word_of (colour_in_format Rgb888 (big_endian s.normal.now (sample_place s 4 c.args.x i) 4)) = search rules in
    is))
    s.overlay.now
