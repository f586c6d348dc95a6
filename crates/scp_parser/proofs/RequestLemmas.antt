-- What a line is read as keeps the facts of its command, and its texts are parts of the line.
use Rattle.std.proofs.Common.{◌≡◌, ℕ, zero, suc, ◌-◌, ◌<◌, ◌≤◌, ◌^◌, Bool, true, false, nat_le, List, [], ◌∷◌, length, take, drop, arith, Some, None, Result, Ok, Err, refl, subst, ◌∙◌, if◌then◌else◌}
use Rattle.std.specs.List.{AllByRecursion}
use Rattle.std.proofs.lemmas.Bool.{leb-true}
use Rattle.std.proofs.lemmas.List.{length-drop}
use Rattle.std.proofs.lemmas.List.Elements.{All-from_recursion, recursion_from_All, All-take, All-drop}
use Rattle.scp_parser.specs.declared.command.Piece.{Piece}
use Rattle.scp_parser.specs.declared.command.Verb.{Verb}
use Rattle.scp_parser.specs.declared.command.Verb.TheVariants as verb
use Rattle.scp_parser.specs.declared.fault.ParseFault.{ParseFault}
use Rattle.scp_parser.specs.declared.fault.ParseFault.TheVariants.{TooLong}
use Rattle.scp_parser.specs.Command.{Request, IsKept, Keeps, piece_of, request_of}
use Rattle.scp_parser.specs.Grammar.{longest_line}
use Rattle.scp_parser.specs.Reading.{map_ok, asks_nothing, named, placed_in, verb_of, reading}
use Rattle.scp_parser.specs.Laws.{IsOfBytes, RequestsAreKept}
use Rattle.scp_parser.proofs.StepLemmas.{same_Ok}
use Rattle.scp_parser.proofs.KeepsLemmas.{named_keeps}

abbrev AreBytes : List ℕ → Type 0
AreBytes bytes = AllByRecursion (λ (b : ℕ). b < 2 ^ 8) bytes

piece_bytes : (line : List ℕ) (p : Piece) → AreBytes line → AreBytes (piece_of line p)
piece_bytes line p bytes =
    let Byte : ℕ → Type 0 = λ b. b < 2 ^ 8 in
    recursion_from_All Byte (piece_of line p)
    (All-take Byte (p.to - p.from) (drop p.from line) (All-drop Byte p.from line (All-from_recursion Byte line bytes)))

no-longer : (n : ℕ) (xs : List ℕ) → length (take n xs) ≤ length xs
no-longer zero xs = omega arith
no-longer (suc n) [] = omega arith
no-longer (suc n) (x ∷ xs) = let rest = no-longer n xs in omega (arith, rest)

piece_short : (line : List ℕ) (p : Piece) → length line ≤ longest_line → length (piece_of line p) ≤ longest_line
piece_short line p few =
    let left = length-drop p.from line in
    let cut = no-longer (p.to - p.from) (drop p.from line) in
    omega (arith, left, cut, few)

request_bytes : (line : List ℕ) (v : Verb) → AreBytes line → length line ≤ longest_line → IsOfBytes (request_of line v)
request_bytes line (verb.Break at count actions) h few = record { name = tt; text = piece_bytes line actions h; short = piece_short line actions few; quoted = tt }
request_bytes line (verb.Expect count text actions) h few = record { name = tt; text = piece_bytes line actions h; short = piece_short line actions few; quoted = piece_bytes line text h }
request_bytes line (verb.Send after delay text) h few = record { name = tt; text = tt; short = omega arith; quoted = piece_bytes line text h }
request_bytes line (verb.Attach option unit name) h few = record { name = piece_bytes line name h; text = tt; short = omega arith; quoted = tt }
request_bytes line (verb.Load name) h few = record { name = piece_bytes line name h; text = tt; short = omega arith; quoted = tt }
request_bytes line (verb.Save name) h few = record { name = piece_bytes line name h; text = tt; short = omega arith; quoted = tt }
request_bytes line (verb.Dump from to name) h few = record { name = piece_bytes line name h; text = tt; short = omega arith; quoted = tt }
request_bytes line (verb.Restore force name) h few = record { name = piece_bytes line name h; text = tt; short = omega arith; quoted = tt }
request_bytes line (verb.Do echo strict name arguments) h few = record { name = piece_bytes line name h; text = piece_bytes line arguments h; short = piece_short line arguments few; quoted = tt }
request_bytes line (verb.Goto label) h few = record { name = tt; text = piece_bytes line label h; short = piece_short line label few; quoted = tt }
request_bytes line (verb.Echo text) h few = record { name = tt; text = piece_bytes line text h; short = piece_short line text few; quoted = tt }
request_bytes line v h few = record { name = tt; text = tt; short = omega arith; quoted = tt }

request_keeps : (line : List ℕ) (v : Verb) → Keeps line v → IsKept (request_of line v)
request_keeps line (verb.Expect count text actions) h = h.0.1
request_keeps line (verb.Send after delay text) h = h.1
request_keeps line (verb.Attach option unit name) h = (h.0, h.1, h.2.1)
request_keeps line (verb.AttachPort kind port) h = h
request_keeps line (verb.Detach None) h = tt
request_keeps line (verb.Detach (Some unit)) h = h
request_keeps line (verb.Load name) h = h.1
request_keeps line (verb.Save name) h = h.1
request_keeps line (verb.Dump from to name) h = h.1
request_keeps line (verb.Restore force name) h = h.1
request_keeps line (verb.Disconnect kind) h = h
request_keeps line (verb.Show subject) h = h
request_keeps line (verb.Do echo strict name arguments) h = h.0.1
request_keeps line (verb.Assert test) h = h
request_keeps line v h = tt

-- a verb that is read keeps its facts
verb_keeps : (line : List ℕ) (v : Verb) → verb_of line ≡ Ok v → Keeps line v
unfolding verb_of
verb_keeps line v h = by-length (nat_le (length line) longest_line) h
  where
    by-named : (x : Result Verb ParseFault) → named line ≡ x → placed_in (length line) x ≡ Ok v → Keeps line v
    by-named (Ok what) is h = named_keeps line v (is ∙ h)
    by-named (Err fault) is h = absurd (cc h)

    by-nothing : (b : Bool) → (if b then Ok verb.Nothing else placed_in (length line) (named line)) ≡ Ok v → Keeps line v
    by-nothing true h = subst (Keeps line) (same_Ok verb.Nothing v h) tt
    by-nothing false h = by-named (named line) refl h

    by-length : (b : Bool) → (if b then (if asks_nothing line then Ok verb.Nothing else placed_in (length line) (named line)) else Err TooLong) ≡ Ok v → Keeps line v
    by-length true h = by-nothing (asks_nothing line) h
    by-length false h = absurd (cc h)

-- a line of which a verb is read is not too long
verb_short : (line : List ℕ) (v : Verb) → verb_of line ≡ Ok v → length line ≤ longest_line
unfolding verb_of
verb_short line v h = by-length (nat_le (length line) longest_line) refl h
  where
    by-length : (b : Bool) → nat_le (length line) longest_line ≡ b
        → (if b then (if asks_nothing line then Ok verb.Nothing else placed_in (length line) (named line)) else Err TooLong) ≡ Ok v → length line ≤ longest_line
    by-length true is h = leb-true (length line) longest_line is
    by-length false is h = absurd (cc h)

-- what holds of the request of a verb that is read holds of what the line is read as
read_as : (P : Request → Type 0) (line : List ℕ) (r : Request) → reading line ≡ Ok r → ((v : Verb) → verb_of line ≡ Ok v → P (request_of line v)) → P r
unfolding reading
read_as P line r h holds = by-verb (verb_of line) h holds
  where
    by-verb : (x : Result Verb ParseFault) → map_ok (request_of line) x ≡ Ok r → ((v : Verb) → x ≡ Ok v → P (request_of line v)) → P r
    by-verb (Ok v) h holds = let same : request_of line v ≡ r = cc h in subst P same (holds v refl)
    by-verb (Err fault) h holds = absurd (cc h)

pub requests_are_kept : RequestsAreKept
requests_are_kept = record {
  kept = λ line r h. read_as IsKept line r h (λ v is. request_keeps line v (verb_keeps line v is));
  bytes = λ line r bytes h. read_as IsOfBytes line r h (λ v is. request_bytes line v bytes (verb_short line v is));
}
