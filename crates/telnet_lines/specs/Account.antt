-- All that happens to a connection, and what it comes to: no key and no byte is lost or doubled on the way.
use Rattle.std.specs.Prelude.{◌≡◌, ℕ, List, [], ◌∷◌, ◌++◌, take, drop, Bool, true, false}
use Rattle.telnet_lines.specs.Telnet.{keys_of, rest_of, coded, opening}
use Rattle.telnet_lines.specs.Line.{LineOf, connected, fed, is_full, put_on, key_taken}

-- What can happen: a piece is received, the first key is taken, a byte is put, the first so many coded bytes are taken by a
-- send.
pub data Happens : Type 0 where
  Piece : List ℕ → Happens
  Key : Happens
  Byte : ℕ → Happens
  Taken : ℕ → Happens

-- the line, with the bytes that were received and the keys that were taken since the connection began, and the bytes that
-- were accepted and the coded ones that were sent
pub record Account (P : Type 0) : Type 0 where
  pub line : LineOf P
  pub received : List ℕ
  pub taken : List ℕ
  pub accepted : List ℕ
  pub sent : List ℕ

abbrev pub begins : {P : Type 0} → P → LineOf P → Account P
begins p line = record { line = connected p line; received = []; taken = []; accepted = []; sent = [] }

-- A piece is received only where no key waits, and a byte is accepted only where the line is not full.
abbrev pub with_piece : {P : Type 0} → List ℕ → List ℕ → Account P → Account P
with_piece bytes [] a = record a { line = fed bytes a.line; received = a.received ++ bytes }
with_piece bytes (k ∷ keys) a = a

abbrev pub with_byte : {P : Type 0} → ℕ → Bool → Account P → Account P
with_byte byte false a = record a { line = put_on byte a.line; accepted = a.accepted ++ byte ∷ [] }
with_byte byte true a = a

abbrev pub after : {P : Type 0} → Happens → Account P → Account P
after (Piece bytes) a = with_piece bytes a.line.keys a
after Key a = record a { line = key_taken a.line; taken = a.taken ++ take 1 a.line.keys }
after (Byte byte) a = with_byte byte (is_full a.line) a
after (Taken n) a = record a { line = record a.line { output = drop n a.line.output }; sent = a.sent ++ take n a.line.output }

abbrev pub after_all : {P : Type 0} → List Happens → Account P → Account P
after_all [] a = a
after_all (h ∷ more) a = after_all more (after h a)

-- The keys that were taken and those that wait are the keys of all bytes that were received; the bytes that were sent and
-- those that wait are the opening and the bytes that were accepted, coded.
pub record AddsUp {P : Type 0} (a : Account P) : Type 0 where
  pub keys : a.taken ++ a.line.keys ≡ keys_of a.received
  pub rest : a.line.rest ≡ rest_of a.received
  pub output : a.sent ++ a.line.output ≡ opening ++ coded a.accepted

abbrev pub AccountsAddUp : Type 0
AccountsAddUp = (conn : ℕ) (line : LineOf ℕ) (happened : List Happens) → AddsUp (after_all happened (begins conn line))
