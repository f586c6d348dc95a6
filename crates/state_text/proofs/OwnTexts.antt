-- What is read of the text of a session that fits is that session, valid or not.
use Rattle.std.proofs.Common.{◌≡◌, ℕ, List, [], Ok, refl, sym, subst, inl, inr}
use Rattle.saved_session.specs.Parts.{BreakPart, State}
use Rattle.saved_session.specs.Valid.{AreBytes, Valid, Fits}
use Rattle.byte_layouts.specs.Layout.{Has, loose}
use Rattle.byte_layouts.proofs.Lists.{bytes_back}
use Rattle.state_text.specs.Rows.{this_version, file_layout, break_layout, expect_layout, state_layout}
use Rattle.state_text.specs.Text.{IsOfFirst, IsTextOf, text_in, text, text1}
use Rattle.state_text.specs.Reading.{reading}
use Rattle.state_text.specs.Laws.{HasWidths}
use Rattle.state_text.proofs.Lists.{all_to}
use Rattle.state_text.proofs.ByteLaws.{FileIsOfBytes, ExpectIsOfBytes, text_bytes}
use Rattle.state_text.proofs.FitLaws.{texts-are-read}
use Rattle.state_text.proofs.LooseLaws.{one-to-one, valid_widths}

own_bytes : (version : ℕ) (s : State) → HasWidths s → AreBytes (text_in version s)
unfolding state_layout
own_bytes version s has =
    let files = has.1.1.1.1.0.0 in
    let tables = has.1.1.1.1.1 in
    text_bytes version s (record {
      files = all_to (λ front. Has (loose (file_layout front))) FileIsOfBytes (λ front f h. record { name = h.1.1.1.0.1.0; digest = h.1.1.1.1.1.0.1 }) [] s.files files.1;
      breaks = all_to (λ front. Has (loose (break_layout front))) (λ (b : BreakPart). AreBytes b.actions) (λ front b h. h.1.1.1.0) [] s.watch.breaks tables.0.0.1;
      expects = all_to (λ front. Has (loose expect_layout)) ExpectIsOfBytes (λ front e h. record { text = h.1.0.1.0; actions = h.1.1.1.0 }) [] s.watch.expects tables.0.1.1;
      tail = tables.1.0.1.0;
    })

read_in : (version : ℕ) (s found : State) (bytes : List ℕ) → HasWidths s → bytes ≡ text_in version s → reading bytes ≡ Ok found → Valid found × IsTextOf found bytes
read_in version s found bytes widths is read =
    texts-are-read.only bytes found (bytes_back bytes (subst (λ (l : List ℕ). AreBytes l) (sym is) (own_bytes version s widths))) read

pub read_own : (s found : State) → Fits s → HasWidths s → reading (text s) ≡ Ok found → found ≡ s
read_own s found fits widths read =
    let is = read_in this_version s found (text s) widths refl read in
    let found_fits = texts-are-read.fits found is.0 in
    let found_widths = valid_widths found is.0 in
    elim is.1 [
      | inl now ↦ one-to-one.now found s found_fits found_widths fits widths (sym now)
      | inr first ↦ absurd (one-to-one.apart s found fits widths found_fits found_widths first.0 first.1)
    ]

-- the same in the first version
pub read_own_first : (s found : State) → Fits s → HasWidths s → IsOfFirst s → reading (text1 s) ≡ Ok found → found ≡ s
read_own_first s found fits widths first read =
    let is = read_in 1 s found (text1 s) widths refl read in
    let found_fits = texts-are-read.fits found is.0 in
    let found_widths = valid_widths found is.0 in
    elim is.1 [
      | inl now ↦ absurd (one-to-one.apart found s found_fits found_widths fits widths first (sym now))
      | inr other ↦ one-to-one.first found s found_fits found_widths other.0 fits widths first (sym other.1)
    ]
