-- What the code makes of a want for a line.
use Rattle.std.specs.Prelude.{◌≡◌, ◌≢◌, ℕ, Bool, true, false, not, Option, Some, None, option_map}
use Rattle.unit_trait.specs.declared.calls.Want.{Want}
use Rattle.unit_trait.specs.declared.calls.Want.TheVariants as want
use Rattle.unit_trait.specs.declared.calls.Got.{Got}
use Rattle.unit_trait.specs.declared.calls.Got.TheVariants as got
use Rattle.expect_actions.specs.Expects.{ExpectTable, match_at, after_printed}
use Rattle.nova_machine.specs.declared.machine.Stop.{Stop}
use Rattle.nova_machine.specs.declared.machine.Stop.TheVariants.{Expect, Wru as WruStop}
use Rattle.nova_machine.specs.declared.on_line.OnLine.{OnLine}
use Rattle.nova_machine.specs.declared.on_line.OnLine.TheVariants.{Gets, Wru, Put}

-- what the unit gets
abbrev pub got_on : OnLine → Got
got_on (Gets g) = g
got_on Wru = got.NoKey
got_on (Put byte) = got.Done

-- the stop that the machine has for itself
abbrev pub stop_on : OnLine → ExpectTable → Option Stop
stop_on (Gets g) expects = None
stop_on Wru expects = Some WruStop
stop_on (Put byte) expects = option_map Expect (match_at byte expects)

-- the texts that are waited for behind it
abbrev pub expects_on : OnLine → ExpectTable → ExpectTable
expects_on (Put byte) expects = after_printed byte expects
expects_on other expects = expects

-- what a poll of the console line brings, where it has a port and no other key is due
abbrev pub IsKeyDone : OnLine → Type 0
IsKeyDone (Gets (got.Key key)) = Unit {0}
IsKeyDone (Gets got.NoKey) = Unit {0}
IsKeyDone Wru = Unit {0}
IsKeyDone other = ⊥

-- what a byte comes to that is put on it
abbrev pub IsByteDone : ℕ → OnLine → Type 0
IsByteDone byte (Gets got.LineFull) = Unit {0}
IsByteDone byte (Put b) = b ≡ byte
IsByteDone byte other = ⊥

abbrev pub IsPlainDone : OnLine → Type 0
IsPlainDone (Gets g) = Unit {0}
IsPlainDone other = ⊥

-- A want of a line comes to that, whatever the line gives: the console line has a port where a key or a byte of the console is
-- wanted of it, and no other key is due.
abbrev pub IsDoneOn : Want → Bool → Option ℕ → OnLine → Type 0
IsDoneOn (want.LineKey line) ported due made = IsPlainDone made
IsDoneOn (want.LinePut line byte) ported due made = IsPlainDone made
IsDoneOn want.Key ported due made = (ported ≡ true) × (due ≡ None) × IsKeyDone made
IsDoneOn (want.Console byte) ported due made = (ported ≡ true) × IsByteDone byte made
IsDoneOn other ported due made = ⊥

-- A want of the console that is for no line: a byte where its line has no port, and a key where that has none, or where another
-- key is due.
abbrev pub IsOffLine : Want → Bool → Option ℕ → Type 0
IsOffLine want.Key ported due = ported ≡ true → due ≢ None
IsOffLine (want.Console byte) ported due = ported ≡ false
IsOffLine other ported due = Unit {0}

-- a want that is for no line, whichever key is due
abbrev pub is_off_line : Want → Bool → Bool
is_off_line (want.LineKey line) ported = false
is_off_line (want.LinePut line byte) ported = false
is_off_line want.Key ported = not ported
is_off_line (want.Console byte) ported = not ported
is_off_line other ported = true
