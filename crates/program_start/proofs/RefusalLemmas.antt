-- The text of a file that was not read.
use Rattle.std.proofs.Common.{◌≡◌, inl, inr, ℕ, ◌<◌, List, length, get_or, sym, subst, arith, string_bytes, String, Global, Result, Ok, Err}
use Rattle.std.proofs.lemmas.List.{length-map}
use Rattle.file_traits.specs.declared.streams.Failed.{Failed}
use Rattle.file_traits.specs.Streams.{Puts}
use Rattle.command_words.specs.declared.options.Options.{Options}
use Rattle.command_words.specs.Words.{texts_of}
use Rattle.program_start.specs.Start.{unopened_text}
use Rattle.program_start.specs.declared.word_files.Refusal.{Refusal}
use Rattle.program_start.specs.declared.word_files.Refusal.TheVariants.{Unopened}
use Rattle.program_start.specs.WordFiles.{RefusalCause, denial_of, IsRefused, status_printed, IsDenied}
use Rattle.program_start.proofs.WordFileLemmas.{name-at}

-- the text of a file that was not read, as the code prints it
refused-by : {T : Type 0} (result : Result T Failed) (there : ℕ) (text : List ℕ) (status : ℕ) (before after : List ℕ) → Puts before text result after → status ≡ status_printed result there → IsRefused there text status before after
refused-by (Ok value) there text status before after puts is = inl (is, puts)
refused-by (Err failed) there text status before after puts is = inr (is, puts)

place-there : (words : List (List ℕ)) (options : Options) (refusal : Refusal) (place : ℕ) → RefusalCause words options refusal → refusal ≡ Unopened place → place < length words
place-there words options refusal place cause is = (subst (λ (r : Refusal). RefusalCause words options r) is cause).0

pub unopened-denied : {T : Type 0} (words : List (String Global)) (options : Options) (refusal : Refusal) (place : ℕ) (word : String Global) (result : Result T Failed) (status : ℕ) (before after : List ℕ)
    → RefusalCause (texts_of words) options refusal → refusal ≡ Unopened place → word ≡ get_or words place word → Puts before (unopened_text (string_bytes word)) result after → status ≡ status_printed result 101
    → IsDenied (denial_of (texts_of words) refusal) status before after
unopened-denied words options refusal place word result status before after cause refused is puts printed =
    let many = length-map words (λ (w : String Global). string_bytes w) in
    let there = place-there (texts_of words) options refusal place cause refused in
    let within : place < length words = omega (arith, many, there) in
    let name = name-at words place word within is in
    subst (λ (r : Refusal). IsDenied (denial_of (texts_of words) r) status before after) (sym refused)
    (subst (λ (n : List ℕ). IsRefused 101 (unopened_text n) status before after) (sym name) (refused-by result 101 (unopened_text (string_bytes word)) status before after puts printed))
