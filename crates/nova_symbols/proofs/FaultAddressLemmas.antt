-- The faults of addresses.
use Rattle.std.proofs.Common.{◌≡◌, ℕ, ◌+◌, ◌*◌, true, false, eqb, Option, Some, None, Result, Ok, Err, List, [], ◌∷◌, ◌++◌, length, refl, ap, sym, subst, ◌∙◌, ◌⊎◌, inl, inr, arith}
use Rattle.std.proofs.lemmas.Bool.{eqb-true, eqb-false, eq-eqb, ne_eqb, cases_Bool, false_from_ne_true, false≢true}
use Rattle.line_text.specs.Words.{past_blanks}
use Rattle.nova_symbols.specs.declared.fault.SymbolFault.{SymbolFault}
use Rattle.nova_symbols.specs.declared.fault.SymbolFault.TheVariants.{BadField}
use Rattle.nova_symbols.specs.Operands.{◌>>=◌, is_separator, operand_at, after_comma, comma_found, comma_at, index_at, negative, signed, indexed, not_indexed, index_found, absolute, address, indirect, target_at, ended}
use Rattle.nova_symbols.specs.Reading.{memory_operands}
use Rattle.nova_symbols.specs.Forms.{IsIndex, IsSigned, IsAddress}
use Rattle.nova_symbols.specs.Faults.{StartsAs, IsAbove, IsSignedAbove, IsAddressAbove, IsLastIndex, CallsForIndex, AddressFaults, TargetFaults, direct_fault, indirect_fault}
use Rattle.nova_symbols.proofs.FoundLemmas.{operand_parts}
use Rattle.nova_symbols.proofs.SplitLemmas.{StartsWith, operand_split}
use Rattle.nova_symbols.proofs.AddressLemmas.{head_is, address_plain, indirect_plain}
use Rattle.nova_symbols.proofs.StandsLemmas.{operand_free, operand_ends, comma_next, no_comma_next, last_given, last_found, first_given, first_found}
use Rattle.nova_symbols.proofs.FaultFieldLemmas.{NoIndex, index_field, signed_at, signed_field, address_field}

bind_twice : {A B C : Type 0} (r : Result A SymbolFault) (f : A → Result B SymbolFault) (g : B → Result C SymbolFault) → ((r >>= f) >>= g) ≡ (r >>= λ x. f x >>= g)
bind_twice (Ok x) f g = refl
bind_twice (Err e) f g = refl

-- the first byte of a text and that of its operand

head_on : (c : ℕ) (operand rest : List ℕ) → head_is c operand ≡ true → StartsAs c (operand ++ rest)
head_on c [] rest h = cc
head_on c (b ∷ more) rest h = eqb-true b c h

head_starts : (c : ℕ) (text : List ℕ) → head_is c (operand_at text).0 ≡ true → StartsAs c text
head_starts c text h = subst (StartsAs c) (sym (operand_parts text)) (head_on c (operand_at text).0 (operand_at text).1 h)

starts_on : (c : ℕ) (operand rest : List ℕ) → is_separator c ≡ false → StartsWith is_separator rest → StartsAs c (operand ++ rest) → head_is c operand ≡ true
starts_on c [] [] plain ends h = absurd h
starts_on c [] (b ∷ more) plain ends h = absurd (false≢true (sym plain ∙ (ap is_separator (sym h) ∙ ends)))
starts_on c (b ∷ more) rest plain ends h = eq-eqb b c h

starts_head : (c : ℕ) (text : List ℕ) → is_separator c ≡ false → StartsAs c text → head_is c (operand_at text).0 ≡ true
starts_head c text plain h =
    starts_on c (operand_at text).0 (operand_at text).1 plain (operand_ends text) (subst (StartsAs c) (operand_parts text) h)

one_head : (operand : List ℕ) → head_is 45 operand ≡ true → head_is 46 operand ≡ false
one_head [] h = refl
one_head (b ∷ more) h = let is : b ≡ 45 = eqb-true b 45 h in ne_eqb b 46 (λ other. omega (arith, is, other))

-- whether an address calls for an index

abbrev Indexed : List ℕ → Type 0
Indexed text =
    CallsForIndex text × (head_is 46 (operand_at text).0 ≡ false) × ((head_is 45 (operand_at text).0 ≡ true) ⊎ ((s : List ℕ) × (after_comma (operand_at text).1 ≡ Some s)))

abbrev Alone : List ℕ → Type 0
Alone text = (CallsForIndex text → ⊥) × NoIndex (operand_at text).0 (operand_at text).1

comma_decides : (text : List ℕ) (o : Option (List ℕ)) → after_comma (operand_at text).1 ≡ o → head_is 46 (operand_at text).0 ≡ false → head_is 45 (operand_at text).0 ≡ false → Indexed text ⊎ Alone text
comma_decides text (Some s) comma no_point no_minus =
    inl (inr ((λ point. false≢true (sym no_point ∙ starts_head 46 text refl point)), comma_next text s comma), no_point, inr (s, comma))
comma_decides text None comma no_point no_minus =
    inr ((λ calls. elim calls [ inl minus ↦ false≢true (sym no_minus ∙ starts_head 45 text refl minus) | inr next ↦ no_comma_next text comma next.1 ]), inr ((no_point, no_minus), comma))

decided : (text : List ℕ) → Indexed text ⊎ Alone text
decided text =
    let operand = (operand_at text).0 in
    elim (cases_Bool (head_is 46 operand)) [
      | inl point ↦ inr ((λ calls. elim calls [ inl minus ↦ false≢true (sym (one_head operand (starts_head 45 text refl minus)) ∙ point) | inr next ↦ next.0 (head_starts 46 text point) ]), inl point)
      | inr no_point ↦ elim (cases_Bool (head_is 45 operand)) [
        | inl minus ↦ inl (inl (head_starts 45 text minus), no_point, inl minus)
        | inr no_minus ↦ comma_decides text (after_comma (operand_at text).1) refl no_point no_minus
      ]
    ]

-- an address that is the last operand, as a word
abbrev address_word : (ℕ → ℕ) → ℕ → List ℕ → Result ℕ SymbolFault
address_word k start text = address (operand_at text).0 (operand_at text).1 start >>= λ a. ended (k a.0) a.1

abbrev index_word : (ℕ → ℕ) → ℕ → List ℕ → Result ℕ SymbolFault
index_word k d s = index_at s >>= λ i. ended (k (256 * i.0 + d)) i.1

abbrev pub pair_ok : ℕ → List ℕ → Result (ℕ × List ℕ) SymbolFault
pair_ok n rest = Ok (n, rest)

abbrev index_ok : ℕ → ℕ × List ℕ → Result (ℕ × List ℕ) SymbolFault
index_ok d i = Ok (256 * i.0 + d, i.1)

abbrev pair_err : SymbolFault → Result (ℕ × List ℕ) SymbolFault
pair_err fault = Err fault

abbrev signed_word : (ℕ → ℕ) → Result ℕ SymbolFault → List ℕ → Result ℕ SymbolFault
signed_word k q rest = (q >>= λ d. pair_ok d rest) >>= λ x. comma_at x.1 >>= λ s. index_word k x.0 s

some_side : (k : ℕ → ℕ) (q : Result ℕ SymbolFault) (s rest : List ℕ) → comma_at rest ≡ Ok s → ((q >>= λ d. index_at s >>= index_ok d) >>= λ a. ended (k a.0) a.1) ≡ signed_word k q rest
some_side k (Err e) s rest h = refl
some_side k (Ok d) s rest h =
    bind_twice (index_at s) (index_ok d) (λ a. ended (k a.0) a.1) ∙ sym (ap (λ (c : Result (List ℕ) SymbolFault). c >>= λ s. index_word k d s) h)

none_side : (k : ℕ → ℕ) (q : Result ℕ SymbolFault) (rest : List ℕ) (fault : SymbolFault) → comma_at rest ≡ Err fault → ((q >>= λ n. pair_err fault) >>= λ a. ended (k a.0) a.1) ≡ signed_word k q rest
none_side k (Err e) rest fault h = refl
none_side k (Ok d) rest fault h = sym (ap (λ (c : Result (List ℕ) SymbolFault). c >>= λ s. index_word k d s) h)

comma_some : (rest s : List ℕ) → after_comma rest ≡ Some s → comma_at rest ≡ Ok s
unfolding comma_at
comma_some rest s h = ap (λ (o : Option (List ℕ)). comma_found o rest) h

comma_none : (rest : List ℕ) → after_comma rest ≡ None → comma_at rest ≡ Err (BadField (length (past_blanks rest)))
unfolding comma_at
comma_none rest h = ap (λ (o : Option (List ℕ)). comma_found o rest) h

absolute_some : (k : ℕ → ℕ) (operand rest s : List ℕ) (start : ℕ) → after_comma rest ≡ Some s → (absolute operand rest start >>= λ a. ended (k a.0) a.1) ≡ signed_word k (signed operand start (length rest)) rest
unfolding absolute indexed
absolute_some k operand rest s start h =
    ap (λ (o : Option (List ℕ)). index_found o operand rest start >>= λ a. ended (k a.0) a.1) h ∙ some_side k (signed operand start (length rest)) s rest (comma_some rest s h)

minus_none : (k : ℕ → ℕ) (digits rest : List ℕ) (start : ℕ) → after_comma rest ≡ None → (absolute (45 ∷ digits) rest start >>= λ a. ended (k a.0) a.1) ≡ signed_word k (signed (45 ∷ digits) start (length rest)) rest
unfolding absolute not_indexed signed
minus_none k digits rest start h =
    ap (λ (o : Option (List ℕ)). index_found o (45 ∷ digits) rest start >>= λ a. ended (k a.0) a.1) h ∙ none_side k (negative digits start (length rest)) rest (BadField (length (past_blanks rest))) (comma_none rest h)

minus_cases : (k : ℕ → ℕ) (digits rest : List ℕ) (start : ℕ) (o : Option (List ℕ)) → after_comma rest ≡ o → (absolute (45 ∷ digits) rest start >>= λ a. ended (k a.0) a.1) ≡ signed_word k (signed (45 ∷ digits) start (length rest)) rest
minus_cases k digits rest start (Some s) h = absolute_some k (45 ∷ digits) rest s start h
minus_cases k digits rest start None h = minus_none k digits rest start h

absolute_minus : (k : ℕ → ℕ) (operand rest : List ℕ) (start : ℕ) → head_is 45 operand ≡ true → (absolute operand rest start >>= λ a. ended (k a.0) a.1) ≡ signed_word k (signed operand start (length rest)) rest
absolute_minus k [] rest start h = cc
absolute_minus k (b ∷ more) rest start h =
    subst (λ (c : ℕ). (absolute (c ∷ more) rest start >>= λ a. ended (k a.0) a.1) ≡ signed_word k (signed (c ∷ more) start (length rest)) rest) (sym (eqb-true b 45 h)) (minus_cases k more rest start (after_comma rest) refl)

-- the reader of an address that calls for an index
abbrev first_word : (ℕ → ℕ) → ℕ → List ℕ → Result ℕ SymbolFault
first_word k start text = signed_at start text >>= λ x. comma_at x.1 >>= λ s. index_word k x.0 s

with_index : (k : ℕ → ℕ) (start : ℕ) (text : List ℕ) → Indexed text → address_word k start text ≡ first_word k start text
with_index k start text is =
    let operand = (operand_at text).0 in
    let rest = (operand_at text).1 in
    let plain = ap (λ (r : Result (ℕ × List ℕ) SymbolFault). r >>= λ a. ended (k a.0) a.1) (address_plain operand rest start is.1) in
    elim is.2 [
      | inl minus ↦ plain ∙ absolute_minus k operand rest start minus
      | inr comma ↦ plain ∙ absolute_some k operand rest comma.0 start comma.1
    ]

module _ (k : ℕ → ℕ) (start : ℕ) (text : List ℕ) where
  index_given : (v : ℕ) (s : List ℕ) (fault : SymbolFault) → IsLastIndex s fault → index_word k v s ≡ Err fault
  index_given v s fault is = last_given IsIndex (IsAbove 3) (length s) s (index_at s) (index_field s) (λ n. k (256 * n + v)) fault is

  index_faulty : (v : ℕ) (s : List ℕ) (fault : SymbolFault) → index_word k v s ≡ Err fault → IsLastIndex s fault
  index_faulty v s fault h = last_found IsIndex (IsAbove 3) (length s) s (index_at s) (index_field s) (λ n. k (256 * n + v)) fault h

  pub address_given : (fault : SymbolFault) → AddressFaults start text fault → address_word k start text ≡ Err fault
  address_given fault (inl calls) = elim (decided text) [
    | inl is ↦ with_index k start text is ∙ first_given IsSigned IsSignedAbove start text (signed_at start text) (signed_field start text) (λ v s. index_word k v s) IsLastIndex index_given fault calls.1
    | inr alone ↦ absurd (alone.0 calls.0)
  ]
  address_given fault (inr last) = elim (decided text) [
    | inl is ↦ absurd (last.0 is.0)
    | inr alone ↦ last_given IsAddress IsAddressAbove start text (address (operand_at text).0 (operand_at text).1 start) (address_field start text alone.1 (operand_free text)) k fault last.1
  ]

  pub address_faulty : (fault : SymbolFault) → address_word k start text ≡ Err fault → AddressFaults start text fault
  address_faulty fault h = elim (decided text) [
    | inl is ↦ inl (is.0, first_found IsSigned IsSignedAbove start text (signed_at start text) (signed_field start text) (λ v s. index_word k v s) IsLastIndex index_faulty fault (sym (with_index k start text is) ∙ h))
    | inr alone ↦ inr (alone.0, last_found IsAddress IsAddressAbove start text (address (operand_at text).0 (operand_at text).1 start) (address_field start text alone.1 (operand_free text)) k fault h)
  ]

-- the operand of a memory reference

direct_word : (bits : ℕ) (text : List ℕ) → (StartsAs 64 text → ⊥) → memory_operands bits text ≡ address_word (λ v. bits + v) (length text) text
unfolding memory_operands target_at
direct_word bits text plain =
    let no_mark : head_is 64 (operand_at text).0 ≡ false = false_from_ne_true (head_is 64 (operand_at text).0) (λ e. plain (head_starts 64 text e)) in
    ap (λ (r : Result (ℕ × List ℕ) SymbolFault). r >>= λ a. ended (bits + a.0) a.1) (indirect_plain (operand_at text).0 (operand_at text).1 (length text) no_mark)

operand_mark : (text : List ℕ) → operand_at (64 ∷ text) ≡ (64 ∷ (operand_at text).0, (operand_at text).1)
operand_mark text =
    ap (λ (t : List ℕ). operand_at (64 ∷ t)) (operand_parts text) ∙ operand_split (64 ∷ (operand_at text).0) (operand_at text).1 (operand_free text) (operand_ends text)

mark_reads : (operand rest : List ℕ) (field : ℕ) → indirect (64 ∷ operand) rest field ≡ (address operand rest field >>= λ a. Ok (1024 + a.0, a.1))
unfolding indirect
mark_reads operand rest field = refl

indirect_word : (bits : ℕ) (text : List ℕ) → memory_operands bits (64 ∷ text) ≡ address_word (λ v. bits + (1024 + v)) (length (64 ∷ text)) text
unfolding memory_operands target_at
indirect_word bits text =
    let operand = (operand_at text).0 in
    let rest = (operand_at text).1 in
    let long = length (64 ∷ text) in
    let last : Result (ℕ × List ℕ) SymbolFault → Result ℕ SymbolFault = λ r. r >>= λ a. ended (bits + a.0) a.1 in
    ap (λ (p : List ℕ × List ℕ). last (indirect p.0 p.1 long)) (operand_mark text) ∙ ap last (mark_reads operand rest long) ∙ bind_twice (address operand rest long) (λ a. Ok (1024 + a.0, a.1)) (λ a. ended (bits + a.0) a.1)

pub target_given : (bits : ℕ) (text : List ℕ) (fault : SymbolFault) → TargetFaults text fault → memory_operands bits text ≡ Err fault
target_given bits text fault (direct_fault _ _ plain is) = direct_word bits text plain ∙ address_given (λ v. bits + v) (length text) text fault is
target_given bits text fault (indirect_fault more _ is) = indirect_word bits more ∙ address_given (λ v. bits + (1024 + v)) (length (64 ∷ more)) more fault is

direct_faulty : (bits : ℕ) (text : List ℕ) (fault : SymbolFault) → (StartsAs 64 text → ⊥) → memory_operands bits text ≡ Err fault → TargetFaults text fault
direct_faulty bits text fault plain h =
    direct_fault text fault plain (address_faulty (λ v. bits + v) (length text) text fault (sym (direct_word bits text plain) ∙ h))

marked_faulty : (bits : ℕ) (more : List ℕ) (fault : SymbolFault) → memory_operands bits (64 ∷ more) ≡ Err fault → TargetFaults (64 ∷ more) fault
marked_faulty bits more fault h =
    indirect_fault more fault (address_faulty (λ v. bits + (1024 + v)) (length (64 ∷ more)) more fault (sym (indirect_word bits more) ∙ h))

pub target_faulty : (bits : ℕ) (text : List ℕ) (fault : SymbolFault) → memory_operands bits text ≡ Err fault → TargetFaults text fault
target_faulty bits [] fault h = direct_faulty bits [] fault (λ no. no) h
target_faulty bits (b ∷ more) fault h =
    elim (cases_Bool (eqb b 64)) [
      | inl mark ↦
          let is = eqb-true b 64 mark in
          subst (λ (c : ℕ). TargetFaults (c ∷ more) fault) (sym is) (marked_faulty bits more fault (subst (λ (c : ℕ). memory_operands bits (c ∷ more) ≡ Err fault) is h))
      | inr other ↦ direct_faulty bits (b ∷ more) fault (eqb-false b 64 other) h
    ]
