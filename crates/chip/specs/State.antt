-- The state: control words, position and queue; and when it keeps its rule.
use Rattle.std.specs.Prelude.{ℕ, suc, ◌≡◌, Bool, true, ◌&&◌, List, [], ◌∷◌, leb, length, get_or, set, replicate}
use Rattle.chip_timing.specs.declared.Position.{Position}
use Rattle.chip_timing.specs.declared.Windows.{Windows}
use Rattle.chip_registers.specs.Kept.{fits}
use Rattle.chip_registers.specs.declared.Block.TheVariants.{Control}
use Rattle.chip_queue.specs.Queue.{HasSlots, empty_queue}
use Rattle.chip_queue.specs.Good.{good_queue}
use Rattle.chip_queue.specs.declared.Queue.{Queue}
use Rattle.chip.specs.declared.state.State.{State}

-- there are 9 control words and 64 slots: the arrays of the code have them, where a definition sees lists
abbrev pub HasArrays : State → Type 0
HasArrays state = (length state.control ≡ 9) × HasSlots state.queue

-- all zero, its queue empty (CHIP 2.7)
abbrev pub fresh : State
fresh = record { control = replicate 9 0; at = record { x = 0; y = 0 }; queue = empty_queue }

-- a control word
abbrev pub control_word : State → ℕ → ℕ
control_word state word = get_or state.control word 0

-- the windows: sync in control words 2 and 3, blank in 4 and 5, each horizontal before vertical (CHIP 2.3)
abbrev pub windows_of : State → Windows
windows_of state =
    record {
      hsync = control_word state 2;
      vsync = control_word state 3;
      hblank = control_word state 4;
      vblank = control_word state 5;
    }

-- a state with one control word changed (CHIP 2.4)
abbrev pub with_word : State → ℕ → ℕ → State
with_word state word value = record { control = set state.control word value; at = state.at; queue = state.queue }

-- a state at another position
abbrev pub with_position : State → Position → State
with_position state at = record { control = state.control; at = at; queue = state.queue }

-- a state with another queue
abbrev pub with_queue : State → Queue → State
with_queue state queue = record { control = state.control; at = state.at; queue = queue }

-- none of the control words, of which the first has this number, has stray bits (CHIP 8.4)
abbrev pub good_words : ℕ → List ℕ → Bool
good_words word [] = true
good_words word (value ∷ others) = fits (record { block = Control; word = word }) value && good_words (suc word) others

-- the rule of number 11: no stray control bits, a position of at most 4,095, at most 64 waiting, each to a colour entry and of at most 24 bits (CHIP 2.4, 8.4)
unfoldable pub good_state : State → Bool
good_state state = good_words 0 state.control && leb state.at.x 4095 && leb state.at.y 4095 && good_queue state.queue
