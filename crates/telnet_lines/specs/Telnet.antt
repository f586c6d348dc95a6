-- What the bytes of a Telnet connection give (RFC 854), over the whole list of those that were received on it.
use Rattle.std.specs.Prelude.{ℕ, ◌==◌, ◌&&◌, ◌||◌, nat_le, Bool, false, List, [], ◌∷◌, ◌++◌, if◌then◌else◌}
use Rattle.telnet_lines.specs.declared.decoder.Place.{Place}
use Rattle.telnet_lines.specs.declared.decoder.Place.TheVariants as place
use Rattle.telnet_lines.specs.declared.decoder.Rest.{Rest}

-- interpret as command
abbrev pub iac : ℕ
iac = 255

-- the beginning and the end of a subnegotiation
abbrev pub sb : ℕ
sb = 250

abbrev pub se : ℕ
se = 240

-- WILL, WONT, DO and DONT, behind which the option stands
abbrev pub names_option : ℕ → Bool
names_option b = nat_le 251 b && nat_le b 254

-- the data bytes of a text, and which sequence is unfinished at its end
pub record Text : Type 0 where
  pub data_bytes : List ℕ
  pub ends : Place

abbrev pub ends_at : Place → Text
ends_at place = record { data_bytes = []; ends = place }

abbrev pub with_data : List ℕ → Text → Text
with_data front t = record { data_bytes = front ++ t.data_bytes; ends = t.ends }

-- A byte that is no IAC is data. IAC begins a sequence, which is none, but that IAC IAC is one data byte 255; one that is
-- unfinished gives nothing.
unfoldable mutual
  pub text : List ℕ → Text
  text [] = ends_at place.Outside
  text (b ∷ more) = if b == iac then behind_iac more else with_data (b ∷ []) (text more)

  -- behind IAC: the byte tells which sequence it is
  pub behind_iac : List ℕ → Text
  behind_iac [] = ends_at place.BehindIac
  behind_iac (c ∷ more) =
      if c == iac then with_data (iac ∷ []) (text more)
      else if names_option c then behind_option more
      else if c == sb then within_subnegotiation more
      else text more

  -- behind WILL, WONT, DO or DONT: the option, which is any byte
  pub behind_option : List ℕ → Text
  behind_option [] = ends_at place.BehindOption
  behind_option (option ∷ more) = text more

  -- within a subnegotiation, an IAC and the byte behind it are a pair, and the pair IAC SE ends it
  pub within_subnegotiation : List ℕ → Text
  within_subnegotiation [] = ends_at place.WithinSubnegotiation
  within_subnegotiation (b ∷ more) = if b == iac then within_pair more else within_subnegotiation more

  pub within_pair : List ℕ → Text
  within_pair [] = ends_at place.WithinPair
  within_pair (c ∷ more) = if c == se then text more else within_subnegotiation more

abbrev pub carriage_return : ℕ
carriage_return = 13

-- NUL and LF, which are dropped directly behind a carriage return
abbrev pub fills : ℕ → Bool
fills b = b == 0 || b == 10

-- Data bytes without those that are dropped; and whether a carriage return is the last of them. Whether one stands directly
-- before them is told.
unfoldable pub without_fill : Bool → List ℕ → List ℕ
without_fill returned [] = []
without_fill returned (b ∷ more) =
    if returned && fills b then without_fill (b == carriage_return) more else b ∷ without_fill (b == carriage_return) more

unfoldable pub ends_returned : Bool → List ℕ → Bool
ends_returned returned [] = returned
ends_returned returned (b ∷ more) = ends_returned (b == carriage_return) more

-- the keys of all bytes that were received on a connection
abbrev pub keys_of : List ℕ → List ℕ
keys_of received = without_fill false (text received).data_bytes

-- What those bytes leave undecoded: the sequence that is unfinished, and whether the last data byte is a carriage return.
abbrev pub rest_of : List ℕ → Rest
rest_of received = record { place = (text received).ends; returned = ends_returned false (text received).data_bytes }

-- nothing was received
abbrev pub no_rest : Rest
no_rest = record { place = place.Outside; returned = false }

-- a text that begins within that sequence
abbrev pub text_from : Place → List ℕ → Text
text_from place.Outside more = text more
text_from place.BehindIac more = behind_iac more
text_from place.BehindOption more = behind_option more
text_from place.WithinSubnegotiation more = within_subnegotiation more
text_from place.WithinPair more = within_pair more

-- the keys of further bytes behind what left that rest, and what these leave
abbrev pub further_keys : Rest → List ℕ → List ℕ
further_keys rest more = without_fill rest.returned (text_from rest.place more).data_bytes

abbrev pub further_rest : Rest → List ℕ → Rest
further_rest rest more = record {
  place = (text_from rest.place more).ends;
  returned = ends_returned rest.returned (text_from rest.place more).data_bytes;
}

-- output as it is sent: each 255 is doubled
unfoldable pub coded : List ℕ → List ℕ
coded [] = []
coded (b ∷ more) = if b == iac then iac ∷ iac ∷ coded more else b ∷ coded more

-- What is sent first on a connection: WILL ECHO (RFC 857), WILL SUPPRESS-GO-AHEAD (RFC 858), WILL BINARY and DO BINARY
-- (RFC 856).
abbrev pub opening : List ℕ
opening = 255 ∷ 251 ∷ 1 ∷ 255 ∷ 251 ∷ 3 ∷ 255 ∷ 251 ∷ 0 ∷ 255 ∷ 253 ∷ 0 ∷ []
