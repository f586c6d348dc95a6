-- A line that is read byte by byte, against the whole input.
use Rattle.std.proofs.Common.{◌≡◌, ◌⊎◌, ⊎_elim, inl, inr, ℕ, zero, suc, ◌+◌, ◌-◌, ◌*◌, ◌/◌, ◌%◌, ◌<◌, ◌≤◌, max, Bool, true, false, not, ◌&&◌, ◌||◌, ◌==◌, nat_le, nat_lt, nat_eq, List, [], ◌∷◌, ◌++◌, length, slice_index, take, refl, ap, sym, ◌∙◌, subst, arith, append_assoc, append-nil, length-append, if◌then◌else◌}
use Rattle.std.proofs.lemmas.Bool.{ne_eqb, eq-eqb, eqb-true, lt-ltb, le-leb, lt-leb, or_cases, and_parts, leb-true, eqb-false, not-true, cond-true, cond_both}
use Rattle.std.proofs.lemmas.Bool.Decides.{nat_tests}
use Rattle.std.proofs.lemmas.List.{drop_at, drop_all, length_push, length-take-le}
use Rattle.std.proofs.lemmas.List.Sums.{take_while-cons}
use Rattle.session_texts.specs.declared.line_reader.Reading.{Reading}
use Rattle.session_texts.specs.declared.line_reader.Reading.TheVariants.{Line, TooLong, End, Unpaid, Failed}
use Rattle.scp_parser.specs.Grammar.{longest_line}
use Rattle.script_text.specs.Lines.{line_cost, first_line, has_lf, command_line, without_cr}
use Rattle.session_texts.specs.Lines.{Arrival, InputEnds, LineComes, arrival, line_reads, reads_left, unpaid_reads}
use Rattle.session_texts.specs.Lines as lines
use Rattle.session_texts.specs.Reading.{ReaderState, AreRead, IsReading, LineEnds, Pays, is_charged, byte_cost, ended_line}

-- the units that are paid behind so many bytes of a line
abbrev pub spent : ℕ → ℕ
spent count = if count == 0 then 0 else line_cost count

-- the line so far, of an input of which the rest is left
pub record SoFar (input left line : List ℕ) (count : ℕ) : Type 0 where
  pub seen : List ℕ
  pub whole : input ≡ seen ++ left
  pub front : first_line input ≡ seen ++ first_line left
  pub kept : length seen ≤ 513 → line ≡ seen
  pub size : length seen ≡ count

pub so-far-none : (input : List ℕ) → SoFar input input [] 0
so-far-none input = record { seen = []; whole = refl; front = refl; kept = λ _. refl; size = refl }

first_line-more : (b : ℕ) (rest : List ℕ) → (b ≡ 10 → ⊥) → first_line (b ∷ rest) ≡ b ∷ first_line rest
first_line-more b rest other = let test = ne_eqb b 10 other in take_while-cons (λ b. not (b == 10)) b rest ∙ rw test refl

pub first_line-lf : (rest : List ℕ) → first_line (10 ∷ rest) ≡ []
first_line-lf rest = refl

-- one more byte of the line
pub so-far-more : (input rest line line_now : List ℕ) (b count : ℕ) → SoFar input (b ∷ rest) line count → (b ≡ 10 → ⊥)
    → line_now ≡ (if nat_lt (length line) 513 then line ++ b ∷ [] else line) → SoFar input rest line_now (count + 1)
so-far-more input rest line line_now b count s other keeps = record {
  seen = s.seen ++ b ∷ [];
  whole = s.whole ∙ sym (append_assoc s.seen (b ∷ []) rest);
  front = s.front ∙ ap (λ l. s.seen ++ l) (first_line-more b rest other) ∙ sym (append_assoc s.seen (b ∷ []) (first_line rest));
  kept = λ few.
      let size = length_push s.seen b in
      let is : line ≡ s.seen = s.kept (omega (arith, few, size)) in
      let room : nat_lt (length line) 513 ≡ true = lt-ltb (length line) 513 (omega (arith, few, size, ap length is)) in
      keeps ∙ cond-true (nat_lt (length line) 513) (line ++ b ∷ []) line room ∙ ap (λ l. l ++ b ∷ []) is;
  size = omega (arith, length_push s.seen b, s.size);
}

pub spent-lf : (count : ℕ) → spent count + byte_cost count 10 ≡ line_cost count
spent-lf count = grind (arith, nat_tests)

pub spent-more : (count b : ℕ) → (b ≡ 10 → ⊥) → spent (count + 1) ≡ spent count + byte_cost count b
spent-more count b other = grind (arith, nat_tests)

-- what is left, where so many bytes were read and the end was not
read-some : (seen left : List ℕ) → AreRead (length seen) true (seen ++ left) true left
read-some seen left = record {
  rest = sym (drop_at seen left (length seen) refl);
  count = omega (arith, length-append seen left);
}

seen-read : (input left line : List ℕ) (count : ℕ) → SoFar input left line count → AreRead count true input true left
seen-read input left line count s = subst (λ i. AreRead count true i true left) (sym s.whole) (subst (λ n. AreRead n true (s.seen ++ left) true left) s.size (read-some s.seen left))

-- one byte more, which is not kept
byte-read : (input rest line : List ℕ) (b count : ℕ) → SoFar input (b ∷ rest) line count → AreRead (count + 1) true input true rest
byte-read input rest line b count s =
    let whole : input ≡ (s.seen ++ b ∷ []) ++ rest = s.whole ∙ sym (append_assoc s.seen (b ∷ []) rest) in
    let size : length (s.seen ++ b ∷ []) ≡ count + 1 = omega (arith, length_push s.seen b, s.size) in
    subst (λ i. AreRead (count + 1) true i true rest) (sym whole) (subst (λ n. AreRead n true ((s.seen ++ b ∷ []) ++ rest) true rest) size (read-some (s.seen ++ b ∷ []) rest))

-- all bytes and the end
end-read : (input line : List ℕ) (count : ℕ) → SoFar input [] line count → AreRead (count + 1) true input false []
end-read input line count s = record {
  rest = sym (drop_all (count + 1) input (omega (arith, ap length s.whole, ap length (append-nil s.seen), s.size)));
  count = omega (arith, ap length s.whole, ap length (append-nil s.seen), s.size);
}

pub closed-read : (input : List ℕ) → AreRead 0 false input false input
closed-read input = record { rest = refl; count = refl }

-- the whole of a line whose end was found has as many bytes as were read
front-size : (input left line : List ℕ) (count : ℕ) → SoFar input left line count → first_line left ≡ [] → length (first_line input) ≡ count
front-size input left line count s none = omega (arith, ap length s.front, length-append s.seen (first_line left), ap length none, s.size)

front-is : (input left line : List ℕ) (count : ℕ) → (s : SoFar input left line count) → first_line left ≡ [] → first_line input ≡ s.seen
front-is input left line count s none = s.front ∙ ap (λ l. s.seen ++ l) none ∙ append-nil s.seen

some-input : (b : ℕ) (input rest line : List ℕ) (count : ℕ) → SoFar input (b ∷ rest) line count → nat_eq (length input) 0 ≡ false
some-input b input rest line count s = ne_eqb (length input) 0 (λ e. omega (arith, e, ap length s.whole, length-append s.seen (b ∷ rest)))

lf-there : (input rest line : List ℕ) (count : ℕ) → SoFar input (10 ∷ rest) line count → has_lf input ≡ true
lf-there input rest line count s =
    let size = front-size input (10 ∷ rest) line count s refl in
    let shorter = ne_eqb (length (first_line input)) (length input) (λ e. omega (arith, e, size, ap length s.whole, length-append s.seen (10 ∷ rest), s.size)) in
    rw shorter refl

lf-not-there : (input line : List ℕ) (count : ℕ) → SoFar input [] line count → has_lf input ≡ false
lf-not-there input line count s =
    let size = front-size input [] line count s refl in
    let same = eq-eqb (length (first_line input)) (length input) (omega (arith, size, ap length s.whole, ap length (append-nil s.seen), s.size)) in
    rw same refl

-- the line that comes, where its units were paid
arrival-line : (budget : ℕ) (input : List ℕ) → nat_eq (length input) 0 ≡ false → line_cost (length (first_line input)) ≤ budget → arrival budget true input ≡ LineComes (command_line input)
arrival-line budget input some paid = let test = le-leb (line_cost (length (first_line input))) budget paid in rw (some, test) refl

line_reads-line : (budget : ℕ) (input : List ℕ) → line_cost (length (first_line input)) ≤ budget → line_reads budget true input ≡ length (first_line input) + 1
line_reads-line budget input paid = let test = le-leb (line_cost (length (first_line input))) budget paid in rw test refl

line-lf : (input : List ℕ) → has_lf input ≡ true → command_line input ≡ without_cr (first_line input)
line-lf input lf = rw lf refl

line-end : (input : List ℕ) → has_lf input ≡ false → command_line input ≡ first_line input
line-end input lf = rw lf refl

-- a CR is one byte at most
without_cr-length : (line : List ℕ) → length line ≤ length (without_cr line) + 1
without_cr-length line =
    cond_both (not (nat_eq (length line) 0) && (slice_index line (length line - 1) == 13)) (take (length line - 1) line) line
    (λ l. length line ≤ length l + 1)
    (λ _. omega (arith, length-take-le (length line - 1) line (omega arith)))
    (λ _. omega arith)

ended-lf : (line : List ℕ) → ended_line true line ≡ without_cr line
ended-lf line = refl

-- a line with an LF was read
pub reading-lf : (input rest kept : List ℕ) (count budget budget_now : ℕ) (result : Reading) (reader : ReaderState) → SoFar input (10 ∷ rest) kept count
    → budget_now + line_cost count ≡ budget → LineEnds count true kept result reader.line → reader.open_ ≡ true → IsReading budget true input result budget_now reader rest
reading-lf input rest kept count budget budget_now Line reader s paid f on =
    let size = front-size input (10 ∷ rest) kept count s refl in
    let fits : line_cost (length (first_line input)) ≤ budget = omega (arith, paid, ap line_cost size) in
    let lf = lf-there input rest kept count s in
    let keeps : kept ≡ s.seen = s.kept (omega (arith, f.0, s.size)) in
    let line : command_line input ≡ reader.line = line-lf input lf ∙ ap without_cr (front-is input (10 ∷ rest) kept count s refl) ∙ ap without_cr (sym keeps) ∙ sym f.2 in
    let reads : line_reads budget true input ≡ count + 1 = line_reads-line budget input fits ∙ ap (λ n. n + 1) size in (
      arrival-line budget input (some-input 10 input rest kept count s) fits ∙ ap LineComes line,
      omega (arith, paid, ap line_cost size),
      on ∙ sym lf,
      subst (λ n. AreRead n true input reader.open_ rest) (sym reads) (subst (λ o. AreRead (count + 1) true input o rest) (sym on) (byte-read input rest kept 10 count s)),
    )
reading-lf input rest kept count budget budget_now TooLong reader s paid f on =
    let size = front-size input (10 ∷ rest) kept count s refl in
    let fits : line_cost (length (first_line input)) ≤ budget = omega (arith, paid, ap line_cost size) in
    let lf = lf-there input rest kept count s in
    let line : command_line input ≡ without_cr s.seen = line-lf input lf ∙ ap without_cr (front-is input (10 ∷ rest) kept count s refl) in
    let reads : line_reads budget true input ≡ count + 1 = line_reads-line budget input fits ∙ ap (λ n. n + 1) size in
    let long : longest_line < length (without_cr s.seen) = ⊎_elim
    (λ (many : 513 < count). omega (arith, many, without_cr-length s.seen, s.size))
    (λ (few : (count ≤ 513) × (longest_line < length (without_cr kept))). omega (arith, few.1, ap (λ l. length (without_cr l)) (s.kept (omega (arith, few.0, s.size)))))
    f in (
      command_line input,
      arrival-line budget input (some-input 10 input rest kept count s) fits,
      omega (arith, long, ap length line),
      omega (arith, paid, ap line_cost size),
      on ∙ sym lf,
      subst (λ n. AreRead n true input reader.open_ rest) (sym reads) (subst (λ o. AreRead (count + 1) true input o rest) (sym on) (byte-read input rest kept 10 count s)),
    )
reading-lf input rest kept count budget budget_now End reader s paid f on = let wrong : true ≡ false = f.1 in absurd (cc)
reading-lf input rest kept count budget budget_now Unpaid reader s paid f on = absurd f
reading-lf input rest kept count budget budget_now Failed reader s paid f on = absurd f

-- no byte more of a line was there
end-of-input : (budget : ℕ) (input : List ℕ) → input ≡ [] → (arrival budget true input ≡ InputEnds) × AreRead (line_reads budget true input) true input false []
end-of-input budget input none = rw none (refl, subst (λ n. AreRead n true [] false []) (sym (or_reads (nat_le (line_cost 0) budget))) (record { rest = refl; count = omega arith }))
  where
    or_reads : (b : Bool) → (if b || nat_eq 0 0 then 1 else unpaid_reads budget) ≡ 1
    or_reads true = refl
    or_reads false = refl

spent-some : (count : ℕ) → 0 < count → spent count ≡ line_cost count
spent-some count some = let test = ne_eqb count 0 (λ e. omega (arith, e, some)) in rw test refl

nothing-seen : (seen : List ℕ) → length seen ≡ 0 → seen ≡ []
nothing-seen [] h = refl
nothing-seen (b ∷ seen) h = absurd (omega (arith, h))

-- the end of the input was found
pub reading-end : (input kept : List ℕ) (count budget budget_now : ℕ) (result : Reading) (reader : ReaderState) → SoFar input [] kept count
    → budget_now + spent count ≡ budget → LineEnds count false kept result reader.line → reader.open_ ≡ false → IsReading budget true input result budget_now reader []
reading-end input kept count budget budget_now Line reader s paid f closed =
    let size = front-size input [] kept count s refl in
    let costs = spent-some count (f.1 refl) in
    let fits : line_cost (length (first_line input)) ≤ budget = omega (arith, paid, costs, ap line_cost size) in
    let lf = lf-not-there input kept count s in
    let keeps : kept ≡ s.seen = s.kept (omega (arith, f.0, s.size)) in
    let line : command_line input ≡ reader.line = line-end input lf ∙ front-is input [] kept count s refl ∙ sym keeps ∙ sym f.2 in
    let some = ne_eqb (length input) 0 (λ e. omega (arith, e, f.1 refl, ap length s.whole, length-append s.seen [], s.size)) in
    let reads : line_reads budget true input ≡ count + 1 = line_reads-line budget input fits ∙ ap (λ n. n + 1) size in (
      arrival-line budget input some fits ∙ ap LineComes line,
      omega (arith, paid, costs, ap line_cost size),
      closed ∙ sym lf,
      subst (λ n. AreRead n true input reader.open_ []) (sym reads) (subst (λ o. AreRead (count + 1) true input o []) (sym closed) (end-read input kept count s)),
    )
reading-end input kept count budget budget_now TooLong reader s paid f closed =
    let size = front-size input [] kept count s refl in
    let some_count : 0 < count = ⊎_elim
    (λ (many : 513 < count). omega (arith, many))
    (λ (few : (count ≤ 513) × (longest_line < length kept)). omega (arith, few.1, ap length (s.kept (omega (arith, few.0, s.size))), s.size))
    f in
    let costs = spent-some count some_count in
    let fits : line_cost (length (first_line input)) ≤ budget = omega (arith, paid, costs, ap line_cost size) in
    let lf = lf-not-there input kept count s in
    let line : command_line input ≡ s.seen = line-end input lf ∙ front-is input [] kept count s refl in
    let some = ne_eqb (length input) 0 (λ e. omega (arith, e, some_count, ap length s.whole, length-append s.seen [], s.size)) in
    let long : longest_line < length s.seen = ⊎_elim
    (λ (many : 513 < count). omega (arith, many, s.size))
    (λ (few : (count ≤ 513) × (longest_line < length kept)). omega (arith, few.1, ap length (s.kept (omega (arith, few.0, s.size)))))
    f in
    let reads : line_reads budget true input ≡ count + 1 = line_reads-line budget input fits ∙ ap (λ n. n + 1) size in (
      command_line input,
      arrival-line budget input some fits,
      omega (arith, long, ap length line),
      omega (arith, paid, costs, ap line_cost size),
      closed ∙ sym lf,
      subst (λ n. AreRead n true input reader.open_ []) (sym reads) (subst (λ o. AreRead (count + 1) true input o []) (sym closed) (end-read input kept count s)),
    )
reading-end input kept count budget budget_now End reader s paid f closed =
    let none : input ≡ [] = s.whole ∙ append-nil s.seen ∙ nothing-seen s.seen (omega (arith, s.size, f.0)) in
    let free : budget_now ≡ budget = omega (arith, paid, ap spent f.0) in
    let ends = end-of-input budget input none in
    (ends.0, free, subst (λ o. AreRead (line_reads budget true input) true input o []) (sym closed) ends.1)
reading-end input kept count budget budget_now Unpaid reader s paid f closed = absurd f
reading-end input kept count budget budget_now Failed reader s paid f closed = absurd f

-- what makes a unit due
arrival-cases : (count b : ℕ) → is_charged count b ≡ true → (count ≡ 0) ⊎ ((b ≡ 10 → ⊥) × (1024 ≤ count + 1) × ((count + 1) % 512 ≡ 0))
arrival-cases count b h =
    ⊎_elim
    (λ (first : (count == 0) ≡ true). inl (eqb-true count 0 first))
    (λ (later : (not (b == 10) && nat_le 1024 (count + 1) && ((count + 1) % 512 == 0)) ≡ true).
    let outer = and_parts (not (b == 10) && nat_le 1024 (count + 1)) ((count + 1) % 512 == 0) later in
    let inner = and_parts (not (b == 10)) (nat_le 1024 (count + 1)) outer.0 in
    inr (eqb-false b 10 (not-true (b == 10) inner.0), leb-true 1024 (count + 1) inner.1, eqb-true ((count + 1) % 512) 0 outer.1))
    (or_cases (count == 0) (not (b == 10) && nat_le 1024 (count + 1) && ((count + 1) % 512 == 0)) h)

-- a line in which that many bytes were seen is no shorter
front-longer : (input left kept : List ℕ) (count : ℕ) → SoFar input left kept count → count + length (first_line left) ≡ length (first_line input)
front-longer input left kept count s = omega (arith, ap length s.front, length-append s.seen (first_line left), s.size)

unpaid-is : (budget : ℕ) (input : List ℕ) → nat_eq (length input) 0 ≡ false → budget < line_cost (length (first_line input))
    → (arrival budget true input ≡ lines.Unpaid) × (line_reads budget true input ≡ unpaid_reads budget)
unpaid-is budget input some more = let test = lt-leb (line_cost (length (first_line input))) budget more in (rw (some, test) refl, rw (test, some) refl)

unpaid-first : (budget : ℕ) → budget ≡ 0 → unpaid_reads budget ≡ 1
unpaid-first budget none = rw none refl

unpaid-later : (budget : ℕ) → 0 < budget → unpaid_reads budget ≡ 512 * (budget + 1)
unpaid-later budget some = let test = ne_eqb budget 0 (λ e. omega (arith, e, some)) in rw test refl

-- a unit is due that is not there
pub reading-unpaid : (input rest kept : List ℕ) (b count budget : ℕ) → SoFar input (b ∷ rest) kept count → spent count ≡ budget → is_charged count b ≡ true
    → (arrival budget true input ≡ lines.Unpaid) × AreRead (line_reads budget true input) true input true rest
reading-unpaid input rest kept b count budget s paid h =
    let some = some-input b input rest kept count s in
    let longer = front-longer input (b ∷ rest) kept count s in
    ⊎_elim
    (λ (first : count ≡ 0).
    let none : budget ≡ 0 = sym paid ∙ ap spent first in
    let is = unpaid-is budget input some (omega (arith, none)) in
    (is.0, subst (λ n. AreRead n true input true rest) (omega (arith, first) ∙ sym (is.1 ∙ unpaid-first budget none)) (byte-read input rest kept b count s)))
    (λ (later : (b ≡ 10 → ⊥) × (1024 ≤ count + 1) × ((count + 1) % 512 ≡ 0)).
    let costs : budget ≡ max 1 (count / 512) = sym paid ∙ spent-some count (omega (arith, later.1)) in
    let front = ap length (first_line-more b rest later.0) in
    let is = unpaid-is budget input some (omega (arith, costs, later.1, later.2, longer, front)) in
    let reads : count + 1 ≡ line_reads budget true input = omega (arith, costs, later.1, later.2) ∙ sym (is.1 ∙ unpaid-later budget (omega (arith, costs))) in
    (is.0, subst (λ n. AreRead n true input true rest) reads (byte-read input rest kept b count s)))
    (arrival-cases count b h)

-- a read failed before the line was whole
pub reading-failed : (input left kept : List ℕ) (count budget budget_now : ℕ) → SoFar input left kept count → budget_now + spent count ≡ budget
    → (made : ℕ) × (made < line_reads budget true input) × AreRead made true input true left
reading-failed input left kept count budget budget_now s paid =
    let longer = front-longer input left kept count s in (
      count,
      cond_both (nat_le (line_cost (length (first_line input))) budget || nat_eq (length input) 0) (length (first_line input) + 1) (unpaid_reads budget) (λ n. count < n)
          (λ _. omega (arith, longer))
          (λ _. cond_both (budget == 0) 1 (512 * (budget + 1)) (λ n. count < n)
          (λ none. unspent count (omega (arith, paid, eqb-true budget 0 none)))
          (λ _. cheap count budget (omega (arith, paid)))),
      seen-read input left kept count s,
    )
  where
    unspent : (count : ℕ) → spent count ≤ 0 → count < 1
    unspent zero h = omega arith
    unspent (suc count) h = omega (arith, spent-some (suc count) (omega arith), h)

    cheap : (count budget : ℕ) → spent count ≤ budget → count < 512 * (budget + 1)
    cheap zero budget h = omega arith
    cheap (suc count) budget h = omega (arith, spent-some (suc count) (omega arith), h)

-- a line costs a unit at least
pub pays-lf : (count budget budget_now : ℕ) (kept line : List ℕ) (result : Reading) → budget_now + line_cost count ≡ budget → LineEnds count true kept result line → Pays budget result budget_now
pays-lf count budget budget_now kept line Line paid f = omega (arith, paid)
pays-lf count budget budget_now kept line TooLong paid f = omega (arith, paid)
pays-lf count budget budget_now kept line End paid f = omega (arith, paid)
pays-lf count budget budget_now kept line Unpaid paid f = absurd f
pays-lf count budget budget_now kept line Failed paid f = absurd f

some-kept : (count : ℕ) (kept : List ℕ) → length kept ≤ count → (513 < count) ⊎ ((count ≤ 513) × (longest_line < length kept)) → 0 < count
some-kept count kept size (inl many) = omega (arith, many)
some-kept count kept size (inr few) = omega (arith, few.1, size)

pub pays-end : (count budget budget_now : ℕ) (kept line : List ℕ) (result : Reading) → length kept ≤ count → budget_now + spent count ≡ budget → LineEnds count false kept result line
    → Pays budget result budget_now
pays-end count budget budget_now kept line Line size paid f = omega (arith, paid, spent-some count (f.1 refl))
pays-end count budget budget_now kept line TooLong size paid f = omega (arith, paid, spent-some count (some-kept count kept size f))
pays-end count budget budget_now kept line End size paid f = omega (arith, paid)
pays-end count budget budget_now kept line Unpaid size paid f = absurd f
pays-end count budget budget_now kept line Failed size paid f = absurd f

-- the same at the names that the code gives what is left and what was kept
pub read-end : (input left left_now kept kept_now : List ℕ) (count budget budget_now : ℕ) (result : Reading) (reader : ReaderState) → SoFar input left kept count
    → (left ≡ []) × (left_now ≡ []) → kept_now ≡ kept → budget_now + spent count ≡ budget → LineEnds count false kept_now result reader.line → reader.open_ ≡ false
    → IsReading budget true input result budget_now reader left_now
read-end input left left_now kept kept_now count budget budget_now result reader s ends same paid f closed =
    subst (λ l. IsReading budget true input result budget_now reader l) (sym ends.1)
    (reading-end input kept count budget budget_now result reader (subst (λ l. SoFar input l kept count) ends.0 s) paid (subst (λ k. LineEnds count false k result reader.line) same f) closed)

pub read-lf : (input left left_now kept : List ℕ) (b count budget budget_then budget_now : ℕ) (result : Reading) (reader : ReaderState) → SoFar input left kept count
    → left ≡ b ∷ left_now → b ≡ 10 → budget_now + byte_cost count b ≡ budget_then → budget_then + spent count ≡ budget → LineEnds count true kept result reader.line → reader.open_ ≡ true
    → IsReading budget true input result budget_now reader left_now
read-lf input left left_now kept b count budget budget_then budget_now result reader s is lf costs paid f on =
    let costs10 : budget_now + byte_cost count 10 ≡ budget_then = subst (λ b. budget_now + byte_cost count b ≡ budget_then) lf costs in
    reading-lf input left_now kept count budget budget_now result reader (subst (λ l. SoFar input l kept count) (is ∙ ap (λ b. b ∷ left_now) lf) s)
    (omega (arith, spent-lf count, costs10, paid)) f on

pub read-unpaid : (input left left_now kept : List ℕ) (b count budget budget_now : ℕ) → SoFar input left kept count → left ≡ b ∷ left_now → budget_now + spent count ≡ budget
    → budget_now ≡ 0 → is_charged count b ≡ true → (arrival budget true input ≡ lines.Unpaid) × AreRead (line_reads budget true input) true input true left_now
read-unpaid input left left_now kept b count budget budget_now s is paid none h =
    reading-unpaid input left_now kept b count budget (subst (λ l. SoFar input l kept count) is s) (omega (arith, paid, none)) h

pub read-more : (input left left_now kept kept_now : List ℕ) (b count : ℕ) → SoFar input left kept count → left ≡ b ∷ left_now → (b ≡ 10 → ⊥)
    → kept_now ≡ (if nat_lt (length kept) 513 then kept ++ b ∷ [] else kept) → SoFar input left_now kept_now (count + 1)
read-more input left left_now kept kept_now b count s is other keeps = so-far-more input left_now kept kept_now b count (subst (λ l. SoFar input l kept count) is s) other keeps

pub kept-more : (kept kept_now : List ℕ) (b count : ℕ) → length kept ≤ count → kept_now ≡ (if nat_lt (length kept) 513 then kept ++ b ∷ [] else kept) → length kept_now ≤ count + 1
kept-more kept kept_now b count h keeps =
    rw keeps (cond_both (nat_lt (length kept) 513) (kept ++ b ∷ []) kept (λ l. length l ≤ count + 1) (λ _. omega (arith, length_push kept b, h)) (λ _. omega (arith, h)))
