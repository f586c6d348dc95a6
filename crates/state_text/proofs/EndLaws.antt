-- A text that is cut, and one with bytes behind it.
use Rattle.std.proofs.Common.{◌≡◌, ◌≢◌, ℕ, ◌+◌, ◌<◌, ◌≤◌, Bool, true, false, cond, eqb, List, ◌++◌, length, take, Result, Ok, Err, refl, sym, ap, subst, ◌∙◌, append_assoc, arith}
use Rattle.std.specs.Str.{bytes_eq}
use Rattle.std.proofs.lemmas.Bool.{lt-ltb, le-ltb, eqb-true}
use Rattle.std.proofs.lemmas.List.{take_at, length-append}
use Rattle.std.proofs.lemmas.Slice.Eq.{bytes_eq-Decides}
use Rattle.sha2.specs.Sha256.{sha256}
use Rattle.sha2.proofs.Facts256.{length-sha256}
use Rattle.saved_session.specs.Parts.{State}
use Rattle.saved_session.specs.Valid.{Valid}
use Rattle.byte_layouts.specs.declared.fault.FieldFault.{FieldFault}
use Rattle.byte_layouts.specs.declared.fault.FieldFault.TheVariants as fields
use Rattle.byte_layouts.specs.Readers.{At, at_of, behind, counted, longer}
use Rattle.byte_layouts.specs.Layout.{reading as reading_of}
use Rattle.byte_layouts.specs.Held.{IsBytes}
use Rattle.byte_layouts.specs.Fed.{first_place}
use Rattle.byte_layouts.proofs.Results.{one_value, no_fault}
use Rattle.byte_layouts.proofs.ReaderLaws.{counted_again}
use Rattle.state_text.specs.declared.fault.StateFault.TheVariants.{BadDigest, BadField, Truncated}
use Rattle.state_text.specs.Rows.{state_layout}
use Rattle.state_text.specs.Text.{IsTextOf, body, text_in}
use Rattle.state_text.specs.Reading.{then_state, ended, compared, sealed, reading}
use Rattle.state_text.proofs.ValidLaws.{IsToldIn}
use Rattle.state_text.proofs.SealLaws.{body_is, version_of_text}

counted_short : (n : ℕ) (at : At) → length at.rest < n → counted n at ≡ Err fields.Truncated
unfolding counted
counted_short n at few = rw (lt-ltb (length at.rest) n few) refl

pub counted_there : (n : ℕ) (at : At) → n ≤ length at.rest → counted n at ≡ Ok (take n at.rest, behind n at)
unfolding counted
counted_there n at enough = rw (le-ltb (length at.rest) n enough) refl

-- behind the text of all rows its digest is left
read_whole : (version : ℕ) (s : State) → Valid s → IsToldIn version s
    → reading_of state_layout (first_place (text_in version s)) ≡ Ok ((version, s), at_of (0 + length (body version s)) (sha256 (body version s)))
unfolding text_in
read_whole version s valid told = body_is.again 0 (sha256 (body version s)) (version, s) (valid, told)

cut_in : (version : ℕ) (bytes missing : List ℕ) (s : State) → IsBytes bytes → Valid s → IsToldIn version s → bytes ++ missing ≡ text_in version s → 0 < length missing → reading bytes ≡ Err Truncated
unfolding reading
cut_in version bytes missing s fits valid told e some = by_read (reading_of state_layout (first_place bytes)) refl
  where
    whole : reading_of state_layout (longer (first_place bytes) missing) ≡ Ok ((version, s), at_of (0 + length (body version s)) (sha256 (body version s)))
    whole = ap (λ (l : List ℕ). reading_of state_layout (first_place l)) e ∙ read_whole version s valid told

    -- another fault would still be there with the bytes that are missing
    never : (fault : FieldFault) → reading_of state_layout (first_place bytes) ≡ Err fault → fault ≢ fields.Truncated → ⊥
    never fault read other =
        no_fault ((version, s), at_of (0 + length (body version s)) (sha256 (body version s))) fault (reading_of state_layout (longer (first_place bytes) missing)) whole (body_is.bad (first_place bytes) fault missing fits read other)

    -- and all rows would leave what there is of the digest
    left : (x : ℕ × State) (next : At) → reading_of state_layout (first_place bytes) ≡ Ok (x, next) → length next.rest < 32
    left x next read =
        let more = body_is.more (first_place bytes) next x missing fits read in
        let same = one_value (x, longer next missing) ((version, s), at_of (0 + length (body version s)) (sha256 (body version s))) (reading_of state_layout (longer (first_place bytes) missing)) more whole in
        let rest : next.rest ++ missing ≡ sha256 (body version s) = ap (λ (p : (ℕ × State) × At). p.1.rest) same in
        let size : length (next.rest ++ missing) ≡ 32 = ap (λ (l : List ℕ). length l) rest ∙ length-sha256 (body version s) in
        omega (arith, some, size, length-append next.rest missing)

    by_read : (read : Result ((ℕ × State) × At) FieldFault) → reading_of state_layout (first_place bytes) ≡ read → then_state read (sealed bytes) ≡ Err Truncated
    by_read (Ok x) e = ap (λ (z : Result (List ℕ × At) FieldFault). then_state z (compared x.0.1 (sha256 (take x.1.place bytes)))) (counted_short 32 x.1 (left x.0 x.1 e))
    by_read (Err fields.NotHead) e = absurd (never fields.NotHead e (λ q. absurd cc))
    by_read (Err (fields.Version n)) e = absurd (never (fields.Version n) e (λ q. absurd cc))
    by_read (Err (fields.BadField place)) e = absurd (never (fields.BadField place) e (λ q. absurd cc))
    by_read (Err fields.Truncated) e = refl
    by_read (Err fields.OutOfMemory) e = absurd (never fields.OutOfMemory e (λ q. absurd cc))

pub cut_short : (bytes missing : List ℕ) (s : State) → IsBytes bytes → Valid s → IsTextOf s (bytes ++ missing) → 0 < length missing → reading bytes ≡ Err Truncated
cut_short bytes missing s fits valid is some =
    let it = version_of_text s (bytes ++ missing) is in
    cut_in it.0 bytes missing s fits valid it.2 it.1 some

pub some_left : (s : State) (at : At) → 0 < length at.rest → ended s at ≡ Err (BadField at.place)
some_left s at some = by_test (eqb (length at.rest) 0) refl
  where
    by_test : (b : Bool) → eqb (length at.rest) 0 ≡ b → cond b (Ok s) (Err (BadField at.place)) ≡ Err (BadField at.place)
    by_test true e = let none = eqb-true (length at.rest) 0 e in absurd (omega (arith, some, none))
    by_test false e = refl

behind_in_version : (version : ℕ) (s : State) (more : List ℕ) → Valid s → IsToldIn version s → 0 < length more → reading (text_in version s ++ more) ≡ Err (BadField (length (text_in version s)))
unfolding reading text_in
behind_in_version version s more valid told some =
    let front = body version s in
    let digest = sha256 front in
    let n = 0 + length front in
    let bytes = (front ++ digest) ++ more in
    let parts : bytes ≡ front ++ (digest ++ more) = append_assoc front digest more in
    let first : reading_of state_layout (first_place bytes) ≡ Ok ((version, s), at_of n (digest ++ more)) =
    ap (λ (l : List ℕ). reading_of state_layout (first_place l)) parts ∙ body_is.again 0 (digest ++ more) (version, s) (valid, told) in
    let before : take n bytes ≡ front = ap (λ (l : List ℕ). take n l) parts ∙ take_at front (digest ++ more) n (omega arith) in
    let found = sha256 (take n bytes) in
    let past = at_of (n + length digest) more in
    let split : counted 32 (at_of n (digest ++ more)) ≡ Ok (digest, past) = counted_again 32 n more digest (length-sha256 front) in
    let same : bytes_eq digest found ≡ true = (bytes_eq-Decides digest found).1 (ap sha256 (sym before)) in
    let place : n + length digest ≡ length (front ++ digest) = omega (arith, length-append front digest) in
    ap (λ (z : Result ((ℕ × State) × At) FieldFault). then_state z (sealed bytes)) first
    ∙ ap (λ (z : Result (List ℕ × At) FieldFault). then_state z (compared s found)) split
    ∙ ap (λ b. cond b (ended s past) (Err (BadDigest digest found))) same ∙ some_left s past some ∙ ap (λ (k : ℕ). Err (BadField k)) place

pub bytes_behind_it : (bytes more : List ℕ) (s : State) → Valid s → IsTextOf s bytes → 0 < length more → reading (bytes ++ more) ≡ Err (BadField (length bytes))
bytes_behind_it bytes more s valid is some =
    let it = version_of_text s bytes is in
    subst (λ (l : List ℕ). reading (l ++ more) ≡ Err (BadField (length l))) (sym it.1) (behind_in_version it.0 s more valid it.2 some)
