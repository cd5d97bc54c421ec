-- The circular window.
use Rattle.std.specs.Prelude.{ℕ, Bool, false, cond, ◌&&◌, ◌||◌, ltb, leb}

-- on below off: on ≤ p < off; on above off: on ≤ p or p < off; equal: never (CHIP 3.1)
unfoldable pub in_window : ℕ → ℕ → ℕ → Bool
in_window on off p =
    cond (ltb on off) (leb on p && ltb p off)
    (cond (ltb off on) (leb on p || ltb p off)
    false)
