-- What a reading of pieces tells at the end is what all of them say.
use Rattle.std.proofs.Common.{◌≡◌, ℕ, ◌<◌, cond, List, ◌++◌, length, take, drop, Result, Ok, Err, sym, ap, subst, ◌∙◌, append-nil, arith, inl, inr}
use Rattle.std.specs.Prelude.{OnOk, map}
use Rattle.std.specs.Str.{bytes_eq}
use Rattle.std.specs.declared.alloc.AllocError.{AllocError}
use Rattle.std.proofs.lemmas.List.{take_at, length-append, length-drop, map-id}
use Rattle.sha2.specs.Sha256.{sha256}
use Rattle.sha2.specs.Hashers.{Holds256}
use Rattle.saved_session.specs.declared.saved.Saved.{Saved}
use Rattle.saved_session.specs.declared.saved.SavedEvent.{SavedEvent}
use Rattle.saved_session.specs.declared.saved.SavedSend.{SavedSend}
use Rattle.saved_session.specs.Parts.{State, state_in}
use Rattle.byte_layouts.specs.declared.fault.FieldFault.{FieldFault}
use Rattle.byte_layouts.specs.declared.fault.FieldFault.TheVariants.{NotHead, Version, Truncated, OutOfMemory}
use Rattle.byte_layouts.specs.declared.fault.FieldFault.TheVariants as fields
use Rattle.byte_layouts.specs.Readers.{At, at_of, gives, followed, behind, counted, longer, Fails as FieldFails}
use Rattle.byte_layouts.specs.Layout.{reading as reading_of}
use Rattle.byte_layouts.specs.Held.{Held, at_in}
use Rattle.byte_layouts.specs.Fed.{first_place, LetsGo, Tells}
use Rattle.byte_layouts.proofs.ReaderLaws.{counted_more}
use Rattle.state_text.specs.declared.fault.StateFault.{StateFault}
use Rattle.state_text.specs.declared.fault.StateFault.TheVariants.{BadDigest}
use Rattle.state_text.specs.declared.state_reader.StateReader.{StateReader}
use Rattle.state_text.specs.Faults.{state_fault}
use Rattle.state_text.specs.Rows.{Fields, state_of, state_rows, state_layout}
use Rattle.state_text.specs.Gives.{Fails, Gives}
use Rattle.state_text.specs.Reading.{then_state, ended, compared, sealed, reading}
use Rattle.state_text.specs.Pieces.{ReadsOn, IsFed}
use Rattle.state_text.proofs.Results.{fails_then}
use Rattle.state_text.proofs.EndLaws.{counted_there, some_left}

-- ---- a piece

pub all_taken : (result : Result (Unit {0}) AllocError) (old new : StateReader) (piece : List ℕ) → new.failed ≡ old.failed → new.reading.kept ≡ old.reading.kept
    → OnOk result ((fed : List ℕ) → ReadsOn old fed → ReadsOn new (fed ++ piece)) → OnOk result ((fed : List ℕ) → IsFed old fed → IsFed new (fed ++ piece))
all_taken (Ok u) old new piece works kept reads = λ fed is. record { works = works ∙ is.works; kept = kept ∙ is.kept; reads = reads fed is.reads }
all_taken (Err e) old new piece works kept reads = tt

-- ---- the end

-- the fields as one value
made_so : (y : Fields) (fed : List ℕ) (at : At) → reading_of state_rows (first_place fed) ≡ Ok (y, at) → reading_of state_layout (first_place fed) ≡ Ok (state_of y, at)
unfolding state_layout
made_so y fed at e = ap (λ (z : Result (Fields × At) FieldFault). followed {B = (ℕ × State) × At} z (λ v. gives (state_of v))) e

never_made : (fault : FieldFault) (fed : List ℕ) → FieldFails fault (reading_of state_rows (first_place fed)) → FieldFails fault (reading_of state_layout (first_place fed))
unfolding state_layout
never_made OutOfMemory fed e = tt
never_made NotHead fed e = ap (λ (z : Result (Fields × At) FieldFault). followed {B = (ℕ × State) × At} z (λ v. gives (state_of v))) e
never_made (Version n) fed e = ap (λ (z : Result (Fields × At) FieldFault). followed {B = (ℕ × State) × At} z (λ v. gives (state_of v))) e
never_made (fields.BadField place) fed e = ap (λ (z : Result (Fields × At) FieldFault). followed {B = (ℕ × State) × At} z (λ v. gives (state_of v))) e
never_made Truncated fed e = ap (λ (z : Result (Fields × At) FieldFault). followed {B = (ℕ × State) × At} z (λ v. gives (state_of v))) e

pub tells_fault : (fault : FieldFault) (fed : List ℕ) → FieldFails fault (reading_of state_rows (first_place fed)) → Fails (state_fault fault) (reading fed)
unfolding reading
tells_fault fault fed e = fails_then fault (reading_of state_layout (first_place fed)) (sealed fed) (never_made fault fed e)

-- a byte behind the end is one, whatever comes behind it
same_seal : (s : State) (found : List ℕ) (at : At) (lost : List ℕ) → LetsGo 33 at.rest lost → then_state (counted 32 at) (compared s found) ≡ then_state (counted 32 (longer at lost)) (compared s found)
same_seal s found at lost lets = elim lets [
  | inl none ↦ ap (λ (l : List ℕ). then_state (counted 32 (at_of at.place l)) (compared s found)) (sym (append-nil at.rest) ∙ ap (λ (l : List ℕ). at.rest ++ l) (sym none))
  | inr full ↦
      let kept = take 32 at.rest in
      let next = behind 32 at in
      let first = counted_there 32 at (omega (arith, full)) in
      let some : 0 < length (drop 32 at.rest) = omega (arith, full, length-drop 32 at.rest) in
      let same : ended s next ≡ ended s (longer next lost) =
      some_left s next some ∙ sym (some_left s (longer next lost) (omega (arith, some, length-append (drop 32 at.rest) lost))) in
      ap (λ (z : Result (List ℕ × At) FieldFault). then_state z (compared s found)) first
      ∙ ap (λ (z : Result State StateFault). cond (bytes_eq kept found) z (Err (BadDigest kept found))) same
      ∙ ap (λ (z : Result (List ℕ × At) FieldFault). then_state z (compared s found)) (sym (counted_more 32 at next kept lost first))
]

pub tells_sealed : (y : Fields) (kept : ℕ) (h : Held) (fed : List ℕ) (s : State) (result : Result Saved StateFault) → kept ≡ 33 → Tells (reading_of state_rows) y kept h fed → s ≡ (state_of y).1
    → ((m : List ℕ) → Holds256 h.hasher m → Gives state_in result (then_state (counted 32 (at_in h)) (compared s (sha256 m))))
    → Gives state_in result (reading fed)
unfolding reading
tells_sealed y kept h fed s result size it is told =
    let rest = longer (at_in h) it.lost in
    let read : reading_of state_layout (first_place fed) ≡ Ok (state_of y, rest) = made_so y fed rest it.says in
    let front : take h.place fed ≡ it.keeps.done = ap (λ (l : List ℕ). take h.place l) it.keeps.parts ∙ take_at it.keeps.done (h.rest ++ it.lost) h.place (sym it.keeps.place) in
    let lets : LetsGo 33 h.rest it.lost = subst (λ (k : ℕ). LetsGo k h.rest it.lost) size it.lets in
    subst (λ (z : Result State StateFault). Gives state_in result z)
    (same_seal s (sha256 it.keeps.done) (at_in h) it.lost lets
    ∙ ap (λ (l : List ℕ). then_state (counted 32 rest) (compared s (sha256 l))) (sym front)
    ∙ ap (λ (x : State). then_state (counted 32 rest) (compared x (sha256 (take h.place fed)))) is
    ∙ ap (λ (z : Result ((ℕ × State) × At) FieldFault). then_state z (sealed fed)) (sym read))
    (told it.keeps.done it.keeps.hashed)

-- lists that are seen as they are
pub same_lists : (words : List ℕ) (agenda : List SavedEvent) (sends : List SavedSend) (f : List ℕ → List SavedEvent → List SavedSend → State)
    → f words agenda sends ≡ f (map (λ (n : ℕ). n) words) (map (λ (e : SavedEvent). e) agenda) (map (λ (s : SavedSend). s) sends)
same_lists words agenda sends f = λ i. f (sym (map-id words) i) (sym (map-id agenda) i) (sym (map-id sends) i)
