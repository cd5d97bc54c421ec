-- Pixels beside the cursor stay, every other gets its cursor colour or stays.
use Rattle.std.proofs.Common.{length, arith}
use native.Mathlib.Nat.{le_refl}
use Rattle.rules.proofs.Change.{change_start, change_skip, change_here, change_over}
use Rattle.line_pixels.specs.Source.{view_of}
use Rattle.line_pixels.proofs.LayersCases.{cursor_idle}
use Rattle.line_pixels.proofs.source.Source.lay_cursor.Goals as goal

pub loop-i-init : goal.loop-i-init
loop-i-init c =
    let a = c.args in
    let s = a.self.now in
    let span = c.cursor_span-span in
    change_skip span.result.start (change_start (le_refl (length a.out.now))) (omega arith) (omega arith)
    (λ p low high under.
    cursor_idle (view_of s) s.screen s.entry p under (span.ensures.beside p (omega arith) (omega arith) (λ inside. omega (arith, inside.0)) (view_of s)))

pub loop-i-preserved : goal.loop-i-preserved
loop-i-preserved c = change_here 0 c.loop-i.invariant (omega arith) c.cursor_or.ensures

pub returns : goal.returns
returns c =
    let a = c.args in
    let s = a.self.now in
    let span = c.cursor_span-span in
    change_over
    (change_skip (length a.out.now) c.loop-i.invariant (omega arith) (le_refl (length a.out.now))
    (λ p low high under.
    cursor_idle (view_of s) s.screen s.entry p under (span.ensures.beside p (omega arith) (omega arith) (λ inside. omega (arith, inside.1)) (view_of s))))
    (omega arith)
