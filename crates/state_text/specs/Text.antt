-- The bytes of a state file: its rows, and at the end the SHA-256 of all bytes before.
use Rattle.std.specs.Prelude.{◌≡◌, ◌⊎◌, ℕ, List, ◌++◌, length}
use Rattle.sha2.specs.Sha256.{sha256}
use Rattle.saved_session.specs.Parts.{State}
use Rattle.saved_session.specs.Ranges.{standard_kinds}
use Rattle.byte_layouts.specs.Layout.{text as text_of}
use Rattle.state_text.specs.Rows.{this_version, state_layout}

-- all but the digest, in a version
unfoldable pub body : ℕ → State → List ℕ
body version s = text_of state_layout (version, s)

unfoldable pub text_in : ℕ → State → List ℕ
text_in version s = body version s ++ sha256 (body version s)

-- as it is written
abbrev pub text : State → List ℕ
text s = text_in this_version s

-- in the first version
abbrev pub text1 : State → List ℕ
text1 s = text_in 1 s

-- What the first version has no place for is as it is put where such a file is read: auto-index words are tested behind their
-- change, there is no multiplexer, and no port but that of the second teletype.
pub record IsOfFirst (s : State) : Type 0 where
  pub autobit : s.machine.cpu.autobit ≡ 0
  pub units : length s.machine.units ≡ standard_kinds
  pub qty : s.ports.qty ≡ 0
  pub console : s.ports.console ≡ 0

-- bytes are its text, or its text in the first version, where it has one
abbrev pub IsTextOf : State → List ℕ → Type 0
IsTextOf s bytes = (bytes ≡ text s) ⊎ (IsOfFirst s × (bytes ≡ text1 s))
