-- DO, LOAD and DUMP, by the names of their files.
use Rattle.std.proofs.Common.{◌≡◌, ℕ, Bool, List, ap, sym, ◌∙◌}
use Rattle.scp_parser.specs.declared.command.Piece.{Piece}
use Rattle.scp_parser.specs.declared.command.Verb.{Verb}
use Rattle.scp_parser.specs.declared.command.Verb.TheVariants as verb
use Rattle.scp_parser.specs.Command.{Request, Do, Load, Dump, piece_of, request_of, file_name_of}

-- a DO, by the name of its file
pub do-named : (line : List ℕ) (v : Verb) (echo strict : Bool) (file rest : Piece) (r : Request) (name : List ℕ) → r ≡ request_of line v → v ≡ verb.Do echo strict file rest → name ≡ file_name_of r
    → (arguments : List ℕ) × (r ≡ Do echo strict name arguments)
do-named line v echo strict file rest r name read is named =
    let asks = read ∙ ap (request_of line) is in
    (piece_of line rest, asks ∙ ap (λ (n : List ℕ). Do echo strict n (piece_of line rest)) (sym (named ∙ ap file_name_of asks)))

-- a LOAD and a DUMP
pub load-named : (line : List ℕ) (v : Verb) (file : Piece) (r : Request) (name : List ℕ) → r ≡ request_of line v → v ≡ verb.Load file
    → name ≡ file_name_of r → r ≡ Load name
load-named line v file r name read is named =
    let asks = read ∙ ap (request_of line) is in
    asks ∙ ap Load (sym (named ∙ ap file_name_of asks))

pub dump-named : (line : List ℕ) (v : Verb) (from to : ℕ) (file : Piece) (r : Request) (name : List ℕ) → r ≡ request_of line v
    → v ≡ verb.Dump from to file → name ≡ file_name_of r → r ≡ Dump from to name
dump-named line v from to file r name read is named =
    let asks = read ∙ ap (request_of line) is in
    asks ∙ ap (Dump from to) (sym (named ∙ ap file_name_of asks))
