-- A terminal line: its port, who is connected, the keys and the coded output that wait, and what was left undecoded.
use Rattle.std.specs.Prelude.{◌≡◌, ℕ, ◌+◌, ◌&&◌, ◌≤◌, Bool, List, [], ◌∷◌, ◌++◌, length, drop, nat_le, slice_get, Option, Some, None, option_map, is_some, if◌then◌else◌}
use Rattle.telnet_lines.specs.declared.decoder.Rest.{Rest}
use Rattle.telnet_lines.specs.Telnet.{no_rest, further_keys, further_rest, coded, opening}

-- `P` is what stands for a connection: its number, or who is behind it
pub record LineOf (P : Type 0) : Type 0 where
  pub port : Option ℕ
  pub connection : Option P
  pub keys : List ℕ
  pub output : List ℕ
  pub rest : Rest

abbrev pub line_of : {P : Type 0} → Option ℕ → Option P → List ℕ → List ℕ → Rest → LineOf P
line_of port connection keys output rest = record { port = port; connection = connection; keys = keys; output = output; rest = rest }

-- a line with that port and no connection
abbrev pub unconnected : {P : Type 0} → Option ℕ → LineOf P
unconnected port = record { port = port; connection = None; keys = []; output = []; rest = no_rest }

-- a connection begins: the opening waits to be sent, and nothing else
abbrev pub connected : {P : Type 0} → P → LineOf P → LineOf P
connected p line = record { port = line.port; connection = Some p; keys = []; output = opening; rest = no_rest }

-- bytes were received, where no key waited
abbrev pub fed : {P : Type 0} → List ℕ → LineOf P → LineOf P
fed bytes line = record line { keys = further_keys line.rest bytes; rest = further_rest line.rest bytes }

-- where so many coded bytes wait, no more is taken
abbrev pub full_output : ℕ
full_output = 1024

abbrev pub is_full : {P : Type 0} → LineOf P → Bool
is_full line = is_some line.connection && nat_le full_output (length line.output)

-- a byte is put on the line, and goes nowhere where nobody is connected
abbrev pub put_on : {P : Type 0} → ℕ → LineOf P → LineOf P
put_on byte line = if is_some line.connection then record line { output = line.output ++ coded (byte ∷ []) } else line

-- the first key that waits, and the line once it was taken
abbrev pub first_key : List ℕ → Option ℕ
first_key keys = slice_get keys 0

abbrev pub key_taken : {P : Type 0} → LineOf P → LineOf P
key_taken line = record line { keys = drop 1 line.keys }

-- the line, with something else standing for its connection
abbrev pub renamed : {P Q : Type 0} → (P → Q) → LineOf P → LineOf Q
renamed f line = record { port = line.port; connection = option_map f line.connection; keys = line.keys; output = line.output; rest = line.rest }

-- What holds of every line: without a port there is no connection, without a connection nothing waits, and at most 64 keys
-- and 1025 coded bytes do.
pub record IsSettled (line : LineOf ℕ) : Type 0 where
  pub port : line.port ≡ None → line.connection ≡ None
  pub nothing : line.connection ≡ None → line ≡ unconnected line.port
  pub keys : length line.keys ≤ 64
  pub output : length line.output ≤ full_output + 1
