-- Laws of the way through a tape: what its bytes from a place on say, by what stands there.
use Rattle.std.proofs.Common.{◌≡◌, ℕ, zero, suc, ◌+◌, ◌-◌, ◌*◌, ◌<◌, ◌≤◌, ◌==◌, Bool, true, false, List, [], ◌∷◌}
use Rattle.std.proofs.Common.{length, take, drop, refl, sym, ap, subst, ◌∙◌, arith, if◌then◌else◌, Option, Some, None}
use Rattle.std.proofs.Common.{Result, Ok, Err, IsOk, slice_index}
use Rattle.std.specs.List.{position}
use Rattle.std.proofs.lemmas.List.{length-drop, length-take, take_rest}
use Rattle.nova_memory.specs.Memory.{MemoryState}
use Rattle.binary_load.specs.declared.faults.LoadFault.{LoadFault}
use Rattle.binary_load.specs.declared.faults.Start.{Start as Answer}
use Rattle.binary_load.specs.declared.blocks.Kind.{Kind}
use Rattle.binary_load.specs.declared.blocks.Kind.TheVariants.{Words, Repeated, Start, Ignored}
use Rattle.binary_load.specs.declared.blocks.Stores.{Stores}
use Rattle.binary_load.specs.declared.blocks.Item.{Item}
use Rattle.binary_load.specs.declared.blocks.Item.TheVariants.{Passed, Start as StartItem, End}
use Rattle.binary_load.specs.Pieces.{found, stores_in, IsWithin}
use Rattle.binary_load.specs.Tape.{Store, Tape, Front, front, block, kind_of, word_at, unless_faulty, ignored_block, reading}
use Rattle.binary_load.specs.Tape.{continued, with_stores, tape_from, put_all, loaded, answer}
use Rattle.binary_load.specs.Tape.{stores_fault, block_fault, start_at}
use Rattle.binary_load.specs.Tape.Front.{Passes, Ends, Faulty}
use Rattle.binary_load.proofs.StoreLemmas.{put_all-append}

-- what bytes begin with has a byte, unless it ends the tape

abbrev Forward : Front → Type 0
Forward (Passes stores bytes) = 0 < bytes
Forward (Ends start) = Unit {0}
Forward (Faulty fault) = Unit {0}

if_forward : (t : Bool) (one other : Front) → Forward one → Forward other → Forward (if t then one else other)
if_forward true one other first second = first
if_forward false one other first second = second

unless_forward : (fault : Option LoadFault) (says : Front) → Forward says → Forward (unless_faulty fault says)
unless_forward None says forward = forward
unless_forward (Some fault) says forward = tt

ignored_forward : (place : ℕ) (rest : List ℕ) (others : Option ℕ) → Forward (ignored_block place rest others)
ignored_forward place rest None = tt
ignored_forward place rest (Some others) = omega arith

six_more : (n : ℕ) → 0 < 6 + 2 * n
six_more n = omega arith

one_byte : 0 < 1
one_byte = omega arith

eight_bytes : 0 < 8
eight_bytes = omega arith

block_forward : (size place : ℕ) (rest : List ℕ) (kind : Kind) → Forward (block size place rest kind)
unfolding block
block_forward size place rest (Words n) = unless_forward (stores_fault size place rest n n) _ (six_more n)
block_forward size place rest (Repeated n) = unless_forward (stores_fault size place rest 1 n) _ eight_bytes
block_forward size place rest Start = unless_forward (block_fault place rest 0) _ tt
block_forward size place rest Ignored = ignored_forward place rest (position (λ b. b == 0xff) (drop 2 rest))

front_forward : (size place : ℕ) (rest : List ℕ) → Forward (front size place rest)
unfolding front
front_forward size place rest =
    if_forward (length rest == 0) _ _ tt
    (if_forward (slice_index rest 0 == 0) _ _ one_byte
    (if_forward (length rest == 1) _ _ tt (block_forward size place rest (kind_of (word_at rest 0)))))

pub forward_passes : (size place bytes : ℕ) (rest : List ℕ) (stores : List Store) →
    front size place rest ≡ Passes stores bytes → 0 < bytes
forward_passes size place bytes rest stores is = subst Forward is (front_forward size place rest)

-- nothing begins with the end
pub front_none : (size place : ℕ) (rest : List ℕ) → length rest ≡ 0 → front size place rest ≡ Ends None
unfolding front
front_none size place [] none = refl
front_none size place (b ∷ rest) none = absurd (omega arith)

-- as many blocks and zero bytes as there are bytes are enough

continued_same : (says : Front) (one other : ℕ → Result Tape LoadFault) →
    ((stores : List Store) (bytes : ℕ) → says ≡ Passes stores bytes → one bytes ≡ other bytes) →
    continued says one ≡ continued says other
continued_same (Passes stores bytes) one other same = ap (with_stores stores) (same stores bytes refl)
continued_same (Ends start) one other same = refl
continued_same (Faulty fault) one other same = refl

reading_more : (left size place : ℕ) (rest : List ℕ) →
    reading (suc left) size place rest
    ≡ continued (front size place rest) (λ bytes. reading left size (place + bytes) (drop bytes rest))
unfolding reading
reading_more left size place rest = refl

reading_none : (left size place : ℕ) (rest : List ℕ) → length rest ≡ 0 →
    reading left size place rest ≡ Ok (record { stores = []; start = None })
unfolding reading
reading_none zero size place rest none = refl
reading_none (suc left) size place rest none =
    ap (λ (says : Front). continued says (λ bytes. reading left size (place + bytes) (drop bytes rest)))
    (front_none size place rest none)

reading_same : (one other size place : ℕ) (rest : List ℕ) → length rest ≤ one → length rest ≤ other →
    reading one size place rest ≡ reading other size place rest
reading_same zero other size place rest enough also =
    reading_none zero size place rest (omega arith) ∙ sym (reading_none other size place rest (omega arith))
reading_same (suc one) zero size place rest enough also =
    reading_none (suc one) size place rest (omega arith) ∙ sym (reading_none zero size place rest (omega arith))
reading_same (suc one) (suc other) size place rest enough also =
    reading_more one size place rest
    ∙ continued_same (front size place rest) _ _ (λ stores bytes is.
    let some = forward_passes size place bytes rest stores is in
    let shorter = length-drop bytes rest in
    reading_same one other size (place + bytes) (drop bytes rest) (omega arith) (omega arith))
    ∙ sym (reading_more other size place rest)

tape_step : (size place : ℕ) (rest : List ℕ) →
    tape_from size place rest
    ≡ continued (front size place rest) (λ bytes. tape_from size (place + bytes) (drop bytes rest))
tape_step size place rest =
    reading_same (length rest) (suc (length rest)) size place rest (omega arith) (omega arith)
    ∙ reading_more (length rest) size place rest
    ∙ continued_same (front size place rest) _ _ (λ stores bytes is.
    let shorter = length-drop bytes rest in
    reading_same (length rest) (length (drop bytes rest)) size (place + bytes) (drop bytes rest) (omega arith) (omega arith))

-- what a tape says from a place on, by what stands there

pub tape_says : (size place : ℕ) (rest : List ℕ) (says : Front) → says ≡ front size place rest →
    tape_from size place rest ≡ continued says (λ bytes. tape_from size (place + bytes) (drop bytes rest))
tape_says size place rest says is =
    tape_step size place rest
    ∙ ap (λ (x : Front). continued x (λ bytes. tape_from size (place + bytes) (drop bytes rest))) (sym is)

-- what follows, at its place
pub tape_behind : (size place next bytes : ℕ) (rest others : List ℕ) (stores : List Store) →
    Passes stores bytes ≡ front size place rest → others ≡ drop bytes rest → next ≡ place + bytes →
    tape_from size place rest ≡ with_stores stores (tape_from size next others)
tape_behind size place next bytes rest others stores is left on =
    tape_says size place rest (Passes stores bytes) is
    ∙ ap (λ (x : List ℕ). with_stores stores (tape_from size (place + bytes) x)) (sym left)
    ∙ ap (λ (x : ℕ). with_stores stores (tape_from size x others)) (sym on)

-- the answer

answer_with : (stores : List Store) (says : Result Tape LoadFault) → answer (with_stores stores says) ≡ answer says
answer_with stores (Ok tape) = refl
answer_with stores (Err fault) = refl

pub answer_behind : (size place next bytes : ℕ) (rest others : List ℕ) (stores : List Store)
    (wanted : Result Answer LoadFault) →
    Passes stores bytes ≡ front size place rest → others ≡ drop bytes rest → next ≡ place + bytes →
    answer (tape_from size place rest) ≡ wanted → answer (tape_from size next others) ≡ wanted
answer_behind size place next bytes rest others stores wanted is left on wants =
    sym (answer_with stores (tape_from size next others))
    ∙ ap answer (sym (tape_behind size place next bytes rest others stores is left on)) ∙ wants

pub answer_end : (size place : ℕ) (rest : List ℕ) (start said : Option ℕ) (wanted : Result Answer LoadFault) →
    Ends start ≡ front size place rest → answer (tape_from size place rest) ≡ wanted → said ≡ start →
    Ok (record { at = said }) ≡ wanted
answer_end size place rest start said wanted is wants same =
    ap (λ (x : Option ℕ). answer (Ok (record { stores = []; start = x }))) same
    ∙ ap answer (sym (tape_says size place rest (Ends start) is)) ∙ wants

pub answer_fault : (size place : ℕ) (rest : List ℕ) (fault : LoadFault) (wanted : Result Answer LoadFault) →
    Faulty fault ≡ front size place rest → answer (tape_from size place rest) ≡ wanted → Err fault ≡ wanted
answer_fault size place rest fault wanted is wants =
    ap answer (sym (tape_says size place rest (Faulty fault) is)) ∙ wants

pub answer_fine : (says : Result Tape LoadFault) (start : Answer) → answer says ≡ Ok start → IsOk says
answer_fine (Ok tape) start is = refl
answer_fine (Err fault) start is = cc

-- the memory

fine_with : (stores : List Store) (says : Result Tape LoadFault) → IsOk (with_stores stores says) → IsOk says
fine_with stores (Ok tape) fine = refl
fine_with stores (Err fault) fine = fine

loaded_with : (m : MemoryState) (stores : List Store) (says : Result Tape LoadFault) → IsOk says →
    loaded m (with_stores stores says) ≡ loaded (put_all m stores) says
loaded_with m stores (Ok tape) fine = put_all-append stores tape.stores m
loaded_with m stores (Err fault) fine = cc

pub fine_behind : (size place next bytes : ℕ) (rest others : List ℕ) (stores : List Store) →
    Passes stores bytes ≡ front size place rest → others ≡ drop bytes rest → next ≡ place + bytes →
    IsOk (tape_from size place rest) → IsOk (tape_from size next others)
fine_behind size place next bytes rest others stores is left on fine =
    fine_with stores (tape_from size next others)
    (subst (λ (x : Result Tape LoadFault). IsOk x) (tape_behind size place next bytes rest others stores is left on) fine)

pub loaded_behind : (size place next bytes : ℕ) (rest others : List ℕ) (stores : List Store) (m after wanted : MemoryState) →
    Passes stores bytes ≡ front size place rest → others ≡ drop bytes rest → next ≡ place + bytes →
    IsOk (tape_from size place rest) → after ≡ put_all m stores → loaded m (tape_from size place rest) ≡ wanted →
    loaded after (tape_from size next others) ≡ wanted
loaded_behind size place next bytes rest others stores m after wanted is left on fine put wants =
    ap (λ (x : MemoryState). loaded x (tape_from size next others)) put
    ∙ sym (loaded_with m stores (tape_from size next others) (fine_behind size place next bytes rest others stores is left on fine))
    ∙ ap (loaded m) (sym (tape_behind size place next bytes rest others stores is left on)) ∙ wants

pub loaded_end : (size place : ℕ) (rest : List ℕ) (start : Option ℕ) (m wanted : MemoryState) →
    Ends start ≡ front size place rest → loaded m (tape_from size place rest) ≡ wanted → m ≡ wanted
loaded_end size place rest start m wanted is wants =
    ap (loaded m) (sym (tape_says size place rest (Ends start) is)) ∙ wants

error_not_fine : (says : Result Tape LoadFault) (fault : LoadFault) → Err fault ≡ says → IsOk says → ⊥
error_not_fine (Ok tape) fault is fine = cc
error_not_fine (Err other) fault is fine = cc

pub never_faulty : (size place : ℕ) (rest : List ℕ) (fault : LoadFault) →
    Faulty fault ≡ front size place rest → IsOk (tape_from size place rest) → ⊥
never_faulty size place rest fault is fine =
    let faulty : Err fault ≡ tape_from size place rest = sym (tape_says size place rest (Faulty fault) is) in
    error_not_fine (tape_from size place rest) fault faulty fine

-- what is left, which is cut off as a slice, and its place
pub left_within : (bytes n cut : ℕ) (rest : List ℕ) → length rest ≤ bytes → length (take n (drop cut rest)) ≤ bytes
left_within bytes n cut rest within = omega (arith, length-take n (drop cut rest), length-drop cut rest)

pub left_whole : (n cut : ℕ) (rest : List ℕ) → n ≡ length rest → take (n - cut) (drop cut rest) ≡ drop cut rest
left_whole n cut rest is = ap (λ (x : ℕ). take (x - cut) (drop cut rest)) is ∙ take_rest rest cut

pub left_place : (bytes n cut : ℕ) (rest : List ℕ) → n ≡ length rest → length rest ≤ bytes → cut ≤ length rest →
    bytes - length (take (n - cut) (drop cut rest)) ≡ bytes - length rest + cut
left_place bytes n cut rest is within here =
    omega (arith, length-take (n - cut) (drop cut rest), length-drop cut rest)

-- what was found

pub found_passed : (rest : List ℕ) (item : Item) (stores : Stores) (bytes : ℕ) (says : Front) →
    item ≡ Passed stores bytes → found rest (Ok item) ≡ says → Passes (stores_in rest stores) bytes ≡ says
found_passed rest item stores bytes says is found_there =
    ap (λ (x : Item). found rest (Ok x)) (sym is) ∙ found_there

pub passed_within : (size : ℕ) (rest : List ℕ) (item : Item) (stores : Stores) (bytes : ℕ) →
    item ≡ Passed stores bytes → IsWithin size rest item → bytes ≤ length rest
passed_within size rest item stores bytes is within =
    let passed = subst (λ (x : Item). IsWithin size rest x) is within in
    passed.2

pub found_start : (rest : List ℕ) (item : Item) (origin : ℕ) (says : Front) →
    item ≡ StartItem origin → found rest (Ok item) ≡ says → Ends (start_at origin) ≡ says
found_start rest item origin says is found_there = ap (λ (x : Item). found rest (Ok x)) (sym is) ∙ found_there

pub found_end : (rest : List ℕ) (item : Item) (says : Front) →
    item ≡ End → found rest (Ok item) ≡ says → Ends None ≡ says
found_end rest item says is found_there = ap (λ (x : Item). found rest (Ok x)) (sym is) ∙ found_there
