-- The two questions that C asks: 1 for yes, 0 for no; and the version of what it calls.
use Rattle.std.specs.Prelude.{ℕ, ◌%◌, ◌^◌}
use Rattle.c_numbers.specs.Numbers.{yes_no}
use Rattle.chip_timing.specs.Window.{in_window}
use Rattle.line_colour.specs.Entry.{decoded, is_defined}

-- whether an entry, of which the low 13 bits count, is defined at a depth (CHIP 5.4, 10.1)
unfoldable pub entry_defined : ℕ → ℕ → ℕ
entry_defined entry depth = yes_no (is_defined (decoded (entry % 2 ^ 13) depth))

-- whether a signal holds at p, by its window from on to off (CHIP 3.1, 10.2)
unfoldable pub signal_holds : ℕ → ℕ → ℕ → ℕ
signal_holds on off p = yes_no (in_window on off p)

-- the version of the header that the library goes with
abbrev pub interface_version : ℕ
interface_version = 1
