-- The digest, and nothing behind it: what is read is the text of what is valid, and each such text is read.
use Rattle.std.proofs.Common.{◌≡◌, ℕ, ◌+◌, true, cond, eqb, List, [], ◌++◌, length, take, Result, Ok, Err, refl, sym, ap, subst, ◌∙◌, append-nil, arith, inl, inr}
use Rattle.std.specs.Prelude.{IfOk}
use Rattle.std.specs.Str.{bytes_eq}
use Rattle.std.proofs.lemmas.Bool.{eqb-true}
use Rattle.std.proofs.lemmas.List.{take_at, nil_from_length}
use Rattle.std.proofs.lemmas.Slice.Eq.{bytes_eq-Decides}
use Rattle.sha2.specs.Sha256.{sha256}
use Rattle.sha2.proofs.Facts256.{length-sha256}
use Rattle.saved_session.specs.declared.saved.Saved.{Saved}
use Rattle.saved_session.specs.Parts.{State, state_in}
use Rattle.saved_session.specs.Valid.{Valid}
use Rattle.byte_layouts.specs.declared.fault.FieldFault.{FieldFault}
use Rattle.byte_layouts.specs.Readers.{At, at_of, counted}
use Rattle.byte_layouts.specs.Layout.{text as text_of, reading as reading_of, Has}
use Rattle.byte_layouts.specs.Held.{IsBytes}
use Rattle.byte_layouts.specs.Fed.{first_place}
use Rattle.byte_layouts.proofs.ReaderLaws.{IsReaderOf, retold, counted_takes, counted_again}
use Rattle.byte_layouts.proofs.LayoutLaws.{law}
use Rattle.state_text.specs.declared.fault.StateFault.{StateFault}
use Rattle.state_text.specs.declared.fault.StateFault.TheVariants.{BadField, BadDigest}
use Rattle.state_text.specs.Rows.{this_version, state_layout}
use Rattle.state_text.specs.Text.{IsTextOf, body, text_in}
use Rattle.state_text.specs.Gives.{Gives}
use Rattle.state_text.specs.Reading.{then_state, ended, compared, sealed, reading}
use Rattle.state_text.proofs.Results.{state_parts, state_chosen}
use Rattle.state_text.proofs.ValidLaws.{IsToldIn, state_to, state_from}

-- the bytes of a version
abbrev pub body_of : ℕ × State → List ℕ
body_of v = body v.0 v.1

-- what a version tells
abbrev pub IsTold : ℕ × State → Type 0
IsTold v = Valid v.1 × IsToldIn v.0 v.1

pub body_is : IsReaderOf (reading_of state_layout) body_of IsTold
unfolding body
body_is = retold (reading_of state_layout) (text_of state_layout) body_of (Has state_layout) IsTold (law state_layout) (λ v has. (refl, state_to v has)) (λ v is. state_from v is)

-- a text of a session is one in a version that tells it
pub text_of_version : (version : ℕ) (s : State) (bytes : List ℕ) → IsToldIn version s → bytes ≡ text_in version s → IsTextOf s bytes
text_of_version version s bytes told is = elim told [
  | inl now ↦ inl (subst (λ (v : ℕ). bytes ≡ text_in v s) now is)
  | inr first ↦ inr (first.1, subst (λ (v : ℕ). bytes ≡ text_in v s) first.0 is)
]

pub version_of_text : (s : State) (bytes : List ℕ) → IsTextOf s bytes → (version : ℕ) × (bytes ≡ text_in version s) × IsToldIn version s
version_of_text s bytes is = elim is [
  | inl now ↦ (this_version, now, inl refl)
  | inr first ↦ (1, first.1, inr (refl, first.0))
]

nothing_left : (s y : State) (at : At) → ended s at ≡ Ok y → (at.rest ≡ []) × (s ≡ y)
nothing_left s y at e =
    let g = state_chosen (eqb (length at.rest) 0) (Ok s) (BadField at.place) y e in
    (nil_from_length at.rest (eqb-true (length at.rest) 0 g.0), cc)

pub reading_found : (bytes : List ℕ) (s : State) → IsBytes bytes → reading bytes ≡ Ok s → Valid s × IsTextOf s bytes
unfolding reading text_in
reading_found bytes s fits e =
    let p = state_parts (reading_of state_layout (first_place bytes)) (sealed bytes) s e in
    let v = p.0 in
    let mid = p.1 in
    let one = body_is.takes (first_place bytes) mid v fits p.2 in
    let front : take mid.place bytes ≡ body_of v =
    ap (λ (l : List ℕ). take mid.place l) one.0.parts ∙ take_at (body_of v) mid.rest mid.place (let place = one.0.place in omega (arith, place)) in
    let found = sha256 (take mid.place bytes) in
    let q = state_parts (counted 32 mid) (compared v.1 found) s p.3 in
    let two = counted_takes 32 mid q.1 q.0 one.0.fits q.2 in
    let g = state_chosen (bytes_eq q.0 found) (ended v.1 q.1) (BadDigest q.0 found) s q.3 in
    let kept : q.0 ≡ sha256 (body_of v) = (bytes_eq-Decides q.0 found).0 g.0 ∙ ap sha256 front in
    let done = nothing_left v.1 s q.1 g.1 in
    let whole : bytes ≡ body_of v ++ sha256 (body_of v) =
    one.0.parts ∙ ap (λ (l : List ℕ). body_of v ++ l) (two.0.parts ∙ ap (λ (l : List ℕ). q.0 ++ l) done.0 ∙ append-nil q.0 ∙ kept) in
    subst (λ (x : State). Valid x × IsTextOf x bytes) done.1 (one.1.0, text_of_version v.0 v.1 bytes one.1.1 whole)

told_again : (version : ℕ) (s : State) → Valid s → IsToldIn version s → reading (text_in version s) ≡ Ok s
unfolding reading text_in
told_again version s valid told =
    let front = body version s in
    let digest = sha256 front in
    let first : reading_of state_layout (first_place (front ++ digest)) ≡ Ok ((version, s), at_of (0 + length front) digest) = body_is.again 0 digest (version, s) (valid, told) in
    let n = 0 + length front in
    let before : take n (front ++ digest) ≡ front = take_at front digest n (omega arith) in
    let found = sha256 (take n (front ++ digest)) in
    let past = at_of (n + length digest) [] in
    let split : counted 32 (at_of n digest) ≡ Ok (digest, past) =
    ap (λ (l : List ℕ). counted 32 (at_of n l)) (sym (append-nil digest)) ∙ counted_again 32 n [] digest (length-sha256 front) in
    let same : bytes_eq digest found ≡ true = (bytes_eq-Decides digest found).1 (ap sha256 (sym before)) in
    ap (λ (z : Result ((ℕ × State) × At) FieldFault). then_state z (sealed (front ++ digest))) first
    ∙ ap (λ (z : Result (List ℕ × At) FieldFault). then_state z (compared s found)) split ∙ ap (λ b. cond b (ended s past) (Err (BadDigest digest found))) same

pub reading_again : (bytes : List ℕ) (s : State) → Valid s → IsTextOf s bytes → reading bytes ≡ Ok s
reading_again bytes s valid is =
    let it = version_of_text s bytes is in
    ap reading it.1 ∙ told_again it.0 s valid it.2

pub is_found : (bytes : List ℕ) (result : Result Saved StateFault) → IsBytes bytes → Gives state_in result (reading bytes)
    → IfOk result (λ s. Valid (state_in s) × IsTextOf (state_in s) bytes)
is_found bytes (Ok s) fits e = reading_found bytes (state_in s) fits e
is_found bytes (Err fault) fits h = tt
