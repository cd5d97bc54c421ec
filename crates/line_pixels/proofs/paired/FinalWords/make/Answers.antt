-- The tables have the channels of the gamma words that the values pick.
use Rattle.std.proofs.Common.{rules, ℕ, List, ◌*◌, ◌/◌, ◌≡◌, length, arith}
use lib.ListN.{replicate, length-replicate}
use Rattle.line_pixels.specs.Inner.{gamma_red, gamma_green, gamma_blue}
use Rattle.line_pixels.proofs.PairedRuns.{reds_many, greens_many, reds_fit, greens_fit, words_made, words_fit}
use Rattle.line_pixels.proofs.paired.FinalWords.make.Goals as goal

pub sum_rows-requires : goal.sum_rows-requires
sum_rows-requires g c =
    let store = c.args.store.now in
    let quarters = c.args.quarters in
    let values = g.row.VALUES in
    let zeros : List ℕ = replicate values 0 in
    let long = length-replicate {A = ℕ} values 0 in
    let before = c.args.self.now in
    let reds = c.fill.ensures (λ v. gamma_red store (quarters * v / 4)) (λ i answer below post. search rules) in
    let greens = c.fill-2.ensures (λ v. gamma_green store (quarters * v / 4)) (λ i answer below post. search rules) in
    let blues = c.fill-3.ensures (λ v. gamma_blue store (quarters * v / 4)) (λ i answer below post. search rules) in
    let red_many : length c.fill.new.words ≡ values = reds_many store quarters values {reds = c.fill.new.words} {greens = c.fill-2.new.words} {blues = c.fill-3.new.words} zeros zeros before.blues long long before.fit.blues_long reds greens blues in
    let green_many : length c.fill-2.new.words ≡ values = greens_many store quarters values {reds = c.fill.new.words} {greens = c.fill-2.new.words} {blues = c.fill-3.new.words} zeros zeros before.blues long long before.fit.blues_long reds greens blues in (
      reds_fit store quarters values {reds = c.fill.new.words} {greens = c.fill-2.new.words} {blues = c.fill-3.new.words} zeros zeros before.blues long long before.fit.blues_long reds greens blues,
      greens_fit store quarters values {reds = c.fill.new.words} {greens = c.fill-2.new.words} {blues = c.fill-3.new.words} zeros zeros before.blues long long before.fit.blues_long reds greens blues,
      rw (red_many, green_many) (omega (arith, before.fit.pairs_long)),
    )

pub invariant_of-self : goal.invariant_of-self
invariant_of-self g c =
    let store = c.args.store.now in
    let quarters = c.args.quarters in
    let values = g.row.VALUES in
    let zeros : List ℕ = replicate values 0 in
    let long = length-replicate {A = ℕ} values 0 in
    let before = c.args.self.now in
    let reds = c.fill.ensures (λ v. gamma_red store (quarters * v / 4)) (λ i answer below post. search rules) in
    let greens = c.fill-2.ensures (λ v. gamma_green store (quarters * v / 4)) (λ i answer below post. search rules) in
    let blues = c.fill-3.ensures (λ v. gamma_blue store (quarters * v / 4)) (λ i answer below post. search rules) in
    record { fit = words_fit (words_made store quarters values {reds = c.fill.new.words} {greens = c.fill-2.new.words} {blues = c.fill-3.new.words} zeros zeros before.blues long long before.fit.blues_long reds greens blues before.pairs c.requires.0 before.fit.pairs_long c.sum_rows.ensures) }

pub returns : goal.returns
returns g c =
    let store = c.args.store.now in
    let quarters = c.args.quarters in
    let values = g.row.VALUES in
    let zeros : List ℕ = replicate values 0 in
    let long = length-replicate {A = ℕ} values 0 in
    let before = c.args.self.now in
    let reds = c.fill.ensures (λ v. gamma_red store (quarters * v / 4)) (λ i answer below post. search rules) in
    let greens = c.fill-2.ensures (λ v. gamma_green store (quarters * v / 4)) (λ i answer below post. search rules) in
    let blues = c.fill-3.ensures (λ v. gamma_blue store (quarters * v / 4)) (λ i answer below post. search rules) in
    words_made store quarters values {reds = c.fill.new.words} {greens = c.fill-2.new.words} {blues = c.fill-3.new.words} zeros zeros before.blues long long before.fit.blues_long reds greens blues before.pairs c.requires.0 before.fit.pairs_long c.sum_rows.ensures
