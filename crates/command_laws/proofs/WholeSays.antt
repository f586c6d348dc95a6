-- What holds of the bytes of a file holds of the bytes that its reading gives.
use Rattle.std.proofs.Common.{◌≡◌, ℕ, Bool, true, false, List, [], ◌∷◌, length, IfSome, Option, Some, None, refl, sym, subst, if◌then◌else◌}
use Rattle.std.specs.Prelude.{nat_lt}
use Rattle.file_traits.specs.declared.files.FileCall.{FileCall}
use Rattle.file_traits.specs.declared.files.FileCall.TheVariants.{Opening, Length, Read, Closing}
use Rattle.file_traits.specs.Lists.{NamedBytes, find_file}
use Rattle.whole_files.specs.Whole.{WholeSaid, WholeIs, TooLong, CallFailed, longest_file, closed, bytes_act, open_act, found_act, whole_act}

-- what a reading says is true of the bytes that it gives
abbrev pub SaysBytes : (List ℕ → Type 0) → WholeSaid → Type 0
SaysBytes P (WholeIs bytes) = P bytes
SaysBytes P said = Unit {0}

closed-said : (said : WholeSaid) (failing : List FileCall) (met : ℕ) → (closed said failing met).0 ≡ said
closed-said said [] met = refl
closed-said said (Closing ∷ failing) met = refl
closed-said said (call ∷ failing) met = refl

module _ (P : List ℕ → Type 0) where
  says-closed : (said : WholeSaid) (failing : List FileCall) (met : ℕ) → SaysBytes P said → SaysBytes P (closed said failing met).0
  says-closed said failing met says = subst (SaysBytes P) (sym (closed-said said failing met)) says

  says-bytes : (failing : List FileCall) (bytes : List ℕ) → P bytes → SaysBytes P (bytes_act failing bytes).0
  says-bytes [] bytes is = says-closed (WholeIs bytes) [] 0 is
  says-bytes (Read ∷ failing) [] is = says-closed (WholeIs []) (Read ∷ failing) 0 is
  says-bytes (Read ∷ failing) (b ∷ bytes) is = says-closed CallFailed failing 1 tt
  says-bytes (call ∷ failing) bytes is = says-closed (WholeIs bytes) (call ∷ failing) 0 is

  says-measured : (b : Bool) (failing : List FileCall) (bytes : List ℕ) → P bytes → SaysBytes P (if b then closed TooLong failing 0 else bytes_act failing bytes).0
  says-measured true failing bytes is = says-closed TooLong failing 0 tt
  says-measured false failing bytes is = says-bytes failing bytes is

  says-open : (failing : List FileCall) (bytes : List ℕ) → P bytes → SaysBytes P (open_act failing bytes).0
  says-open [] bytes is = says-measured (nat_lt longest_file (length bytes)) [] bytes is
  says-open (Length ∷ failing) bytes is = says-closed CallFailed failing 1 tt
  says-open (call ∷ failing) bytes is = says-measured (nat_lt longest_file (length bytes)) (call ∷ failing) bytes is

  says-found : (failing : List FileCall) (o : Option (List ℕ)) → IfSome o P → SaysBytes P (found_act failing o).0
  says-found failing None is = tt
  says-found failing (Some bytes) is = says-open failing bytes is

  pub whole-says : (failing : List FileCall) (name : List ℕ) (files : List NamedBytes) → IfSome (find_file files name) P → SaysBytes P (whole_act failing name files).0
  unfolding whole_act
  whole-says [] name files is = says-found [] (find_file files name) is
  whole-says (Opening ∷ failing) name files is = tt
  whole-says (call ∷ failing) name files is = says-found (call ∷ failing) (find_file files name) is
