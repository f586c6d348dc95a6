-- Laws of tapes of runs, and of the last store to an address.
use Rattle.std.proofs.Common.{◌≡◌, ℕ, zero, suc, ◌+◌, ◌-◌, ◌*◌, ◌/◌, ◌%◌, ◌^◌, ◌<◌, ◌≤◌, ◌==◌, Bool, true, false}
use Rattle.std.proofs.Common.{List, [], ◌∷◌, ◌++◌, length, take, drop, sum, min, refl, sym, ap, ◌∙◌, arith, if◌then◌else◌}
use Rattle.std.proofs.Common.{Option, Some, None, Result, Ok, Err, unwrap_or}
use Rattle.std.specs.Prelude.{IfSome}
use Rattle.std.proofs.lemmas.Bool.{eqb-true, eqb-false}
use Rattle.std.proofs.lemmas.Bool.Decides.{nat_tests}
use Rattle.std.proofs.lemmas.List.{append_assoc, append-nil, length-append, length-take, length-drop, drop_at}
use Rattle.nova_memory.specs.Memory.{MemoryState, get, put}
use Rattle.nova_memory.proofs.Chains.{put-size}
use Rattle.nova_memory.proofs.Keeps.{get-put, get-put-other, put-long}
use Rattle.binary_load.specs.declared.faults.LoadFault.{LoadFault}
use Rattle.binary_load.specs.declared.blocks.Kind.TheVariants.{Start}
use Rattle.binary_load.specs.Tape.{Store, Tape, front, block, word_at, words_of, kind_of, stores_from, start_at, with_stores, tape_from, put_all}
use Rattle.binary_load.specs.Tape.Front.{Passes, Ends}
use Rattle.binary_load.specs.Dump.{bytes_of, checksum, data_block, start_block, data_blocks, blocks_of}
use Rattle.binary_load.specs.Runs.{Run, blocks_of_runs, stores_of_runs, AreWithin, start_origin, tape_of_runs, first_word, last_word}
use Rattle.binary_load.specs.Laws.{RunsReadBack, LastStoresStay}
use Rattle.binary_load.proofs.StoreLemmas.{stores-split}
use Rattle.binary_load.proofs.ReadingLemmas.{tape_says, tape_behind}
use Rattle.binary_load.proofs.DumpLemmas.{word_back, words_back, length-bytes_of, sum_zero, front_block, block_fine, block_start}
use Rattle.binary_load.proofs.DumpLemmas.{front_data, start_low, blocks_more, blocks_none, no_words}

with_stores-none : (r : Result Tape LoadFault) → with_stores [] r ≡ r
with_stores-none (Ok t) = refl
with_stores-none (Err fault) = refl

with_stores-append : (one other : List Store) (r : Result Tape LoadFault) →
    with_stores one (with_stores other r) ≡ with_stores (one ++ other) r
with_stores-append one other (Ok t) =
    ap (λ (x : List Store). Ok (record { stores = x; start = t.start })) (sym (append_assoc one other t.stores))
with_stores-append one other (Err fault) = refl

-- what bytes say from a place on: those stores, and then what others say
pub record SaysThen (size place : ℕ) (bytes : List ℕ) (stores : List Store) (rest : List ℕ) : Type 0 where
  pub next : ℕ
  pub says : tape_from size place bytes ≡ with_stores stores (tape_from size next rest)

pub blocks_then : (count size place origin : ℕ) (words rest : List ℕ) → (length words + 15) / 16 ≡ count →
    (0 < length words → origin + length words ≤ size) →
    SaysThen size place (data_blocks count origin words ++ rest) (stores_from origin words) rest
blocks_then zero size place origin words rest is within =
    let none : words ≡ [] = no_words words (omega arith) in
    record {
      next = place;
      says = ap (λ (x : List ℕ). tape_from size place (x ++ rest)) (blocks_none origin words)
          ∙ sym (with_stores-none (tape_from size place rest))
          ∙ ap (λ (x : List ℕ). with_stores (stores_from origin x) (tape_from size place rest)) (sym none);
    }
blocks_then (suc count) size place origin words rest is within =
    let first = take 16 words in
    let others = drop 16 words in
    let block_first = data_block origin first in
    let behind = data_blocks count (origin + 16) others ++ rest in
    let n = length first in
    let taken : n ≡ min 16 (length words) = length-take 16 words in
    let left : length others ≡ length words - 16 = length-drop 16 words in
    let bytes : length block_first ≡ 6 + 2 * n =
    omega (arith, length-bytes_of ((2 ^ 16 - n) ∷ origin ∷ checksum ((2 ^ 16 - n) ∷ origin ∷ first) ∷ first)) in
    let whole : data_blocks (suc count) origin words ++ rest ≡ block_first ++ behind =
    ap (λ (x : List ℕ). x ++ rest) (blocks_more count origin words)
    ∙ append_assoc block_first (data_blocks count (origin + 16) others) rest in
    let later : SaysThen size (place + (6 + 2 * n)) behind (stores_from (origin + 16) others) rest =
    blocks_then count size (place + (6 + 2 * n)) (origin + 16) others rest (omega arith)
    (λ some. let fits = within (omega arith) in omega arith) in
    record {
      next = later.next;
      says = ap (tape_from size place) whole
          ∙ tape_behind size place (place + (6 + 2 * n)) (6 + 2 * n) (block_first ++ behind) behind (stores_from origin first)
          (sym (front_data size place origin first behind (omega arith) (omega arith)
          (let fits = within (omega arith) in omega arith)))
          (sym (drop_at block_first behind (6 + 2 * n) bytes)) refl
          ∙ ap (with_stores (stores_from origin first)) later.says
          ∙ with_stores-append (stores_from origin first) (stores_from (origin + 16) others) (tape_from size later.next rest)
          ∙ ap (λ (x : List Store). with_stores x (tape_from size later.next rest)) (stores-split 16 origin words);
    }

runs_then : (size place : ℕ) (runs : List Run) (rest : List ℕ) → AreWithin size runs →
    SaysThen size place (blocks_of_runs runs ++ rest) (stores_of_runs runs) rest
runs_then size place [] rest within =
    record { next = place; says = sym (with_stores-none (tape_from size place rest)) }
runs_then size place (run ∷ runs) rest within =
    let behind = blocks_of_runs runs ++ rest in
    let here = blocks_then ((length run.words + 15) / 16) size place run.origin run.words behind refl (λ some. within.0) in
    let later = runs_then size here.next runs rest within.1 in
    record {
      next = later.next;
      says = ap (tape_from size place) (append_assoc (blocks_of run.origin run.words) (blocks_of_runs runs) rest)
          ∙ here.says ∙ ap (with_stores (stores_from run.origin run.words)) later.says
          ∙ with_stores-append (stores_from run.origin run.words) (stores_of_runs runs) (tape_from size later.next rest);
    }

start_says : (start : Option ℕ) → IfSome start (λ s. s < 2 ^ 15) → start_at (start_origin start) ≡ start
start_says None low = refl
start_says (Some s) low = start_low s low

start_front : (size place origin : ℕ) → front size place (start_block origin) ≡ Ends (start_at origin)
start_front size place origin =
    let all = 1 ∷ origin ∷ checksum (1 ∷ origin ∷ []) ∷ [] in
    let rest = start_block origin in
    let words_there : words_of rest ≡ all = words_back all in
    let summed : sum (words_of (take (6 + 2 * 0) rest)) % 2 ^ 16 ≡ 0 =
    ap (λ (x : List ℕ). sum x % 2 ^ 16) words_there ∙ sum_zero 1 origin [] in
    let second : word_at rest 2 ≡ origin = word_back origin in
    front_block size place rest (omega arith) (omega arith)
    ∙ block_start size place rest (block_fine place rest 0 (omega arith) summed)
    ∙ ap (λ (x : ℕ). Ends (start_at x)) second

start_read : (size place : ℕ) (start : Option ℕ) → IfSome start (λ s. s < 2 ^ 15) →
    tape_from size place (start_block (start_origin start)) ≡ Ok (record { stores = []; start = start })
start_read size place start low =
    let origin = start_origin start in
    tape_says size place (start_block origin) (Ends (start_at origin)) (sym (start_front size place origin))
    ∙ ap (λ (x : Option ℕ). Ok (record { stores = []; start = x })) (start_says start low)

pub runs_read_back : RunsReadBack
runs_read_back size runs start within low =
    let there = runs_then size 0 runs (start_block (start_origin start)) within in
    there.says ∙ ap (with_stores (stores_of_runs runs)) (start_read size there.next start low)
    ∙ ap (λ (x : List Store). Ok (record { stores = x; start = start })) (append-nil (stores_of_runs runs))

-- the last store to an address

stored_last : (later : Option ℕ) (t : Bool) (word old new : ℕ) → (t ≡ true → new ≡ word) → (t ≡ false → new ≡ old) →
    unwrap_or later new ≡ unwrap_or (first_word later (if t then Some word else None)) old
stored_last (Some w) t word old new same other = refl
stored_last None true word old new same other = same refl
stored_last None false word old new same other = other refl

pub last_stores_stay : LastStoresStay
last_stores_stay m [] a long low = refl
last_stores_stay m (store ∷ stores) a long low =
    let after = put m store.at store.word in
    let size : after.size ≡ m.size = put-size m store.at store.word in
    let words : length after.words ≡ length m.words = put-long m store.at store.word in
    last_stores_stay after stores a (omega arith) (omega arith)
    ∙ stored_last (last_word a stores) (store.at == a) store.word (get m a) (get after a)
    (λ is.
    let here : store.at ≡ a = eqb-true store.at a is in
    ap (λ (x : ℕ). get (put m x store.word) a) here ∙ get-put m a store.word long low)
    (λ isn't. get-put-other m store.at a store.word (λ same. eqb-false store.at a isn't (sym same)))
