-- What C is told of the signals, in plain numbers of the control words before the dot: 1 where a window holds, 0 where not. Assumes nothing.
use mathlib.Core.Path.{◌≡◌, refl, ap}
use mathlib.Core.Bool.{◌||◌}
use Rattle.std.specs.Prelude.{Some}
use Rattle.rules.specs.Rule.{ok}
use Rattle.chip_timing.specs.declared.Signals.{Signals}
use Rattle.chip.specs.Call.{Chip}
use Rattle.chip.specs.Dot.{dotted}
use Rattle.chip.proofs.DotInWords.{holds_in, reported_syncs, reported_blank}
use Rattle.c_numbers.specs.Numbers.{yes_no}
use Rattle.c_chip.specs.Calls.{dotted_in_numbers}

module _ (chip : Chip) {signals : Signals} (made : (dotted chip).1 ≡ ok (Some signals)) where
  -- that a dot was made is 1
  pub told_of_a_dot : (dotted_in_numbers chip).0.signals.reported ≡ 1
  unfolding dotted_in_numbers
  told_of_a_dot = rw made refl

  -- hsync goes by control word 2 and x, vsync by control word 3 and y
  pub told_syncs :
      ((dotted_in_numbers chip).0.signals.hsync ≡ yes_no (holds_in chip 2 chip.0.at.x))
      × ((dotted_in_numbers chip).0.signals.vsync ≡ yes_no (holds_in chip 3 chip.0.at.y))
  unfolding dotted_in_numbers
  told_syncs = (rw made (ap yes_no (reported_syncs chip made).0), rw made (ap yes_no (reported_syncs chip made).1))

  -- blank goes by control word 4 and x or by control word 5 and y
  pub told_blank : (dotted_in_numbers chip).0.signals.blank ≡ yes_no (holds_in chip 4 chip.0.at.x || holds_in chip 5 chip.0.at.y)
  unfolding dotted_in_numbers
  told_blank = rw made (ap yes_no (reported_blank chip made))
