-- What is taken and sent of a connection and what waits add up, whatever happens.
use Rattle.std.proofs.Common.{◌≡◌, ◌∙◌, ap, sym, refl, ℕ, ◌==◌, Bool, true, false, List, [], ◌∷◌, ◌++◌, take, drop, is_some, append_assoc, append-nil, if◌then◌else◌}
use Rattle.std.proofs.lemmas.List.{take-append-drop}
use Rattle.telnet_lines.specs.Telnet.{iac, coded, opening, no_rest, further_keys}
use Rattle.telnet_lines.specs.Line.{LineOf, is_full, put_on}
use Rattle.telnet_lines.specs.Account.{Happens, Piece, Key, Byte, Taken, Account, begins, with_piece, with_byte, after, after_all, AddsUp, AccountsAddUp}
use Rattle.telnet_lines.proofs.Cutting.{no_keys, same_rest, keys_behind, rest_behind}

coded_cut : (a b : List ℕ) → coded (a ++ b) ≡ coded a ++ coded b
unfolding coded
coded_cut [] b = refl
coded_cut (x ∷ a) b = elim (x == iac) as (λ y. (if y then iac ∷ iac ∷ coded (a ++ b) else x ∷ coded (a ++ b))
    ≡ (if y then iac ∷ iac ∷ coded a else x ∷ coded a) ++ coded b) [
      | true ↦ ap (λ (l : List ℕ). iac ∷ iac ∷ l) (coded_cut a b)
      | false ↦ ap (λ (l : List ℕ). x ∷ l) (coded_cut a b)
    ]

nothing_coded : opening ++ coded [] ≡ opening
unfolding coded
nothing_coded = refl

-- what adds up, and that the connection stands
record Stands (a : Account ℕ) : Type 0 where
  pub up : AddsUp a
  pub connected : is_some a.line.connection ≡ true

-- what was taken of the front of what waits, behind what was taken before
moved_on : (n : ℕ) (done waits : List ℕ) → (done ++ take n waits) ++ drop n waits ≡ done ++ waits
moved_on n done waits = append_assoc done (take n waits) (drop n waits) ∙ ap (λ (l : List ℕ). done ++ l) (take-append-drop n waits)

piece_stands : (bytes keys : List ℕ) (a : Account ℕ) → a.line.keys ≡ keys → Stands a → Stands (with_piece bytes keys a)
piece_stands bytes [] a none s = record {
  up = record {
    keys = sym (keys_behind a.line.rest a.received bytes s.up.rest
        ∙ ap (λ (l : List ℕ). l ++ further_keys a.line.rest bytes)
        (sym s.up.keys ∙ ap (λ (l : List ℕ). a.taken ++ l) none ∙ append-nil a.taken));
    rest = sym (rest_behind a.line.rest a.received bytes s.up.rest);
    output = s.up.output;
  };
  connected = s.connected;
}
piece_stands bytes (k ∷ keys) a some s = s

byte_stands : (byte : ℕ) (a : Account ℕ) → Stands a → Stands (with_byte byte false a)
byte_stands byte a s =
    let more = coded (byte ∷ []) in
    let put : put_on byte a.line ≡ record a.line { output = a.line.output ++ more } =
    ap (λ (b : Bool). if b then record a.line { output = a.line.output ++ more } else a.line) s.connected in
    record {
      up = record {
        keys = ap (λ (l : LineOf ℕ). a.taken ++ l.keys) put ∙ s.up.keys;
        rest = ap (λ (l : LineOf ℕ). l.rest) put ∙ s.up.rest;
        output = ap (λ (l : LineOf ℕ). a.sent ++ l.output) put
            ∙ sym (append_assoc a.sent a.line.output more)
            ∙ ap (λ (l : List ℕ). l ++ more) s.up.output
            ∙ append_assoc opening (coded a.accepted) more
            ∙ ap (λ (l : List ℕ). opening ++ l) (sym (coded_cut a.accepted (byte ∷ [])));
      };
      connected = ap (λ (l : LineOf ℕ). is_some l.connection) put ∙ s.connected;
    }

full_or_not : (byte : ℕ) (full : Bool) (a : Account ℕ) → Stands a → Stands (with_byte byte full a)
full_or_not byte false a s = byte_stands byte a s
full_or_not byte true a s = s

one_more : (h : Happens) (a : Account ℕ) → Stands a → Stands (after h a)
one_more (Piece bytes) a s = piece_stands bytes a.line.keys a refl s
one_more Key a s = record {
  up = record { keys = moved_on 1 a.taken a.line.keys ∙ s.up.keys; rest = s.up.rest; output = s.up.output };
  connected = s.connected;
}
one_more (Byte byte) a s = full_or_not byte (is_full a.line) a s
one_more (Taken n) a s = record {
  up = record { keys = s.up.keys; rest = s.up.rest; output = moved_on n a.sent a.line.output ∙ s.up.output };
  connected = s.connected;
}

all_stands : (happened : List Happens) (a : Account ℕ) → Stands a → Stands (after_all happened a)
all_stands [] a s = s
all_stands (h ∷ more) a s = all_stands more (after h a) (one_more h a s)

begins_right : (conn : ℕ) (line : LineOf ℕ) → Stands (begins conn line)
begins_right conn line = record {
  up = record { keys = sym (no_keys no_rest); rest = sym (same_rest no_rest); output = sym nothing_coded };
  connected = refl;
}

pub add_up : AccountsAddUp
add_up conn line happened = (all_stands happened (begins conn line) (begins_right conn line)).up
