-- A channel of 4 bits is widened by 17.
use Rattle.std.proofs.Common.{ℕ, ◌+◌, ◌*◌, ◌/◌, ◌%◌, ◌^◌, ◌<◌, ◌≡◌, ◌∙◌, sym, arith}
use Rattle.line_formats.proofs.Widening.{widened_4}
use Rattle.line_pixels.proofs.RgbRuns.{red_444, green_444, blue_444, word_by}
use Rattle.line_pixels.proofs.rgb.word_444.Goals as goal

-- three channels, each widened, are the three together, widened
together : (r g b : ℕ) → 17 * r * 2 ^ 16 + 17 * g * 2 ^ 8 + 17 * b ≡ 17 * (r * 65536 + g * 256 + b)
together r g b = omega arith

pub returns : goal.returns
returns c =
    let half = c.args.half in
    let low = half % 256 in
    let high = half / 256 in
    let below : high < 256 = omega arith in
    let green_here : high / 16 ≡ half / 4096 = omega arith in
    let blue_here : low % 16 ≡ half % 16 = omega arith in
    sym
    (word_by 4 (λ (v : ℕ). 17 * v) widened_4 (low * 256 + high)
    ∙ rw (red_444 low high below, green_444 low high below, blue_444 low high below, green_here, blue_here) (together (high % 16) (half / 4096) (half % 16)))
