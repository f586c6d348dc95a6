-- The laws of texts, words and faults.
use Rattle.std.proofs.Common.{◌≡◌, ◌↔◌, ℕ, Result, Ok, Err, List, length, refl, ap, sym, ◌∙◌, ◌⊎◌, inl, inr}
use Rattle.nova_symbols.specs.declared.fault.SymbolFault.{SymbolFault}
use Rattle.nova_symbols.specs.Reading.{read_from_end, placed, with_place, reading}
use Rattle.nova_symbols.specs.Forms.{Reads}
use Rattle.nova_symbols.specs.Faults.{Faults}
use Rattle.nova_symbols.proofs.ReadsLemmas.{reads_found}
use Rattle.nova_symbols.proofs.GivenLemmas.{reads_given}
use Rattle.nova_symbols.proofs.FaultLemmas.{fault_given, fault_found}

some_cases : (text : List ℕ) (r : Result ℕ SymbolFault) → reading text ≡ r → ((w : ℕ) × Reads text w) ⊎ ((fault : SymbolFault) × Faults text fault)
some_cases text (Ok w) h = inl (w, reads_found text w h)
some_cases text (Err fault) h = inr (fault, fault_found text fault h)

pub word_or_fault : (text : List ℕ) → ((w : ℕ) × Reads text w) ⊎ ((fault : SymbolFault) × Faults text fault)
word_or_fault text = some_cases text (reading text) refl

pub one_fault : (text : List ℕ) (e fault : SymbolFault) → Faults text e → Faults text fault → e ≡ fault
one_fault text e fault h k =
    let first = fault_given text e h in
    let second = fault_given text fault k in
    cc

pub not_both : (text : List ℕ) (w : ℕ) (fault : SymbolFault) → Reads text w → Faults text fault → ⊥
not_both text w fault h k =
    let first = reads_given text w h in
    let second = fault_given text fault k in
    cc

-- what an answer that is the reading says

pub answers_word : (text : List ℕ) (r : Result ℕ SymbolFault) → reading text ≡ r → (w : ℕ) → (r ≡ Ok w) ↔ Reads text w
answers_word text r is w = ((λ h. reads_found text w (is ∙ h)), (λ h. sym is ∙ reads_given text w h))

pub answers_fault : (text : List ℕ) (r : Result ℕ SymbolFault) → reading text ≡ r → (fault : SymbolFault) → (r ≡ Err fault) ↔ Faults text fault
answers_fault text r is fault = ((λ h. fault_found text fault (is ∙ h)), (λ h. sym is ∙ fault_given text fault h))

pub word_read : (text : List ℕ) (w : ℕ) → Ok w ≡ read_from_end text → reading text ≡ Ok w
unfolding reading
word_read text w h = ap (with_place (length text)) (sym h)

pub fault_read : (text : List ℕ) (e fault : SymbolFault) → Err e ≡ read_from_end text → fault ≡ placed (length text) e → reading text ≡ Err fault
unfolding reading
fault_read text e fault h place = ap (with_place (length text)) (sym h) ∙ ap (λ (f : SymbolFault). Err f) (sym place)
