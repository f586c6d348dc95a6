use Rattle.std.proofs.Common.{◌≡◌, ℕ, ◌-◌, List, [], length}
use Rattle.byte_layouts.specs.Readers.{chain, with_last}
use Rattle.byte_layouts.specs.Layout.{reading}
use Rattle.state_text.specs.Rows.{register_layout}
use Rattle.byte_layouts.proofs.Loops.{with_front}
use Rattle.state_text.proofs.machine_formats.registers_of.Given as goal

abbrev pub invariant-loop-i : goal.invariant-loop-i
invariant-loop-i l =
    (length l.registers.items ≡ l.i)
    × (with_front l.registers.items (chain (λ (front : List ℕ). reading (register_layout l.kind front)) with_last (l.count - l.i) l.registers.items l.cursor) ≡ chain (λ (front : List ℕ). reading (register_layout l.kind front)) with_last l.count [] l.fn.cursor)
