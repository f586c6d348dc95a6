-- Where a trace is cut, behind observations that were let through.
use Rattle.std.proofs.Common.{ℕ, ◌≡◌, ◌≢◌, ◌+◌, ◌-◌, ◌<◌, ◌≤◌, nat_le, Bool, false, true, inl, inr, if◌then◌else◌, List, [], ◌∷◌, ◌++◌, length, take, drop, refl, ap, sym, ◌∙◌, append_assoc, append-nil, add_assoc, zero-add, add-zero, arith, length-append, length-take-le, ⊎_elim}
use Rattle.std.proofs.lemmas.Bool.{cases_lt}
use Rattle.std.proofs.lemmas.List.{take-append-drop}
use Rattle.observations.specs.Observations.{Observation, Prints, Reads, Sends, Ended, text_of, reads_of, sent_of, map_made, map_ended, StandsAt}
use Rattle.observations.specs.Cut.{Outcome, ends, behind, cut, sent_until, map_outcome, BreaksOff}
use Rattle.observations.specs.Laws.{IsWhole, EndsBehind}

yes-le : (m n : ℕ) → m ≤ n → nat_le m n ≡ true
yes-le m n h = grind arith

no-le : (m n : ℕ) → n < m → nat_le m n ≡ false
no-le m n h = grind arith

-- a text that is taken whole
pub cut-printed : {S : Type 0} (text : List ℕ) (at : S) (more : List (Observation S)) (ended : Ended S) (takes gives : ℕ) → length text ≤ takes
    → cut takes gives (Prints text at ∷ more) ended ≡ behind text 0 (cut (takes - length text) gives more ended)
cut-printed text at more ended takes gives h = rw (yes-le (length text) takes h) refl

-- a byte of a text is refused
pub cut-refused : {S : Type 0} (text : List ℕ) (at : S) (more : List (Observation S)) (ended : Ended S) (takes gives : ℕ) → takes < length text
    → cut takes gives (Prints text at ∷ more) ended ≡ ends 102 (take takes text) 0 at
cut-refused text at more ended takes gives h = rw (no-le (length text) takes h) refl

-- reads that are let through
pub cut-read : {S : Type 0} (count : ℕ) (at : S) (more : List (Observation S)) (ended : Ended S) (takes gives : ℕ) → count ≤ gives
    → cut takes gives (Reads count at ∷ more) ended ≡ behind [] count (cut takes (gives - count) more ended)
cut-read count at more ended takes gives h = rw (yes-le count gives h) refl

-- one of the reads fails
pub cut-failed : {S : Type 0} (count : ℕ) (at : S) (more : List (Observation S)) (ended : Ended S) (takes gives : ℕ) → gives < count
    → cut takes gives (Reads count at ∷ more) ended ≡ ends 106 [] gives at
cut-failed count at more ended takes gives h = rw (no-le count gives h) refl

pub more-room : {S : Type 0} (made : List (Observation S)) (ended : Ended S) (takes more gives : ℕ) → takes ≤ more
    → (cut takes gives made ended).status ≢ 102 → cut more gives made ended ≡ cut takes gives made ended
more-room [] ended takes more gives h s = refl
more-room (Prints text at ∷ rest) ended takes more gives h s =
    ⊎_elim
    (λ (short : takes < length text). absurd (s (ap (λ o. o.status) (cut-refused text at rest ended takes gives short))))
    (λ (fits : length text ≤ takes).
    let now = cut-printed text at rest ended takes gives fits in
    let later = cut-printed text at rest ended more gives (omega (arith, h, fits)) in
    let s' = λ (e : (cut (takes - length text) gives rest ended).status ≡ 102). s (ap (λ o. o.status) now ∙ e) in
    later ∙ ap (behind text 0) (more-room rest ended (takes - length text) (more - length text) gives (omega (arith, h)) s') ∙ sym now)
    (cases_lt takes (length text))
more-room (Reads count at ∷ rest) ended takes more gives h s =
    ⊎_elim
    (λ (short : gives < count). cut-failed count at rest ended more gives short ∙ sym (cut-failed count at rest ended takes gives short))
    (λ (fits : count ≤ gives).
    let now = cut-read count at rest ended takes gives fits in
    let later = cut-read count at rest ended more gives fits in
    let s' = λ (e : (cut takes (gives - count) rest ended).status ≡ 102). s (ap (λ o. o.status) now ∙ e) in
    later ∙ ap (behind [] count) (more-room rest ended takes more (gives - count) h s') ∙ sym now)
    (cases_lt gives count)
more-room (Sends bytes ∷ rest) ended takes more gives h s = more-room rest ended takes more gives h s

pub first-part : {S : Type 0} (made : List (Observation S)) (ended : Ended S) (takes gives : ℕ) → (rest : List ℕ) × (text_of made ≡ (cut takes gives made ended).console ++ rest)
first-part [] ended takes gives = ([], refl)
first-part (Prints text at ∷ more) ended takes gives =
    ⊎_elim
    (λ (short : takes < length text). (
      drop takes text ++ text_of more,
      ap (λ t. t ++ text_of more) (sym (take-append-drop takes text)) ∙ append_assoc (take takes text) (drop takes text) (text_of more)
          ∙ ap (λ o. o.console ++ (drop takes text ++ text_of more)) (sym (cut-refused text at more ended takes gives short)),
    ))
    (λ (fits : length text ≤ takes).
    let part = first-part more ended (takes - length text) gives in (
      part.0,
      ap (λ t. text ++ t) part.1 ∙ sym (append_assoc text (cut (takes - length text) gives more ended).console part.0)
          ∙ ap (λ o. o.console ++ part.0) (sym (cut-printed text at more ended takes gives fits)),
    ))
    (cases_lt takes (length text))
first-part (Reads count at ∷ more) ended takes gives =
    ⊎_elim
    (λ (short : gives < count). (text_of more, ap (λ o. o.console ++ text_of more) (sym (cut-failed count at more ended takes gives short))))
    (λ (fits : count ≤ gives).
    let part = first-part more ended takes (gives - count) in
    (part.0, part.1 ∙ ap (λ o. o.console ++ part.0) (sym (cut-read count at more ended takes gives fits))))
    (cases_lt gives count)
first-part (Sends bytes ∷ more) ended takes gives = first-part more ended takes gives

pub no-faults : {S : Type 0} (made : List (Observation S)) (ended : Ended S) (takes gives : ℕ)
    → (cut takes gives made ended).status ≢ 102 → (cut takes gives made ended).status ≢ 106
    → cut takes gives made ended ≡ ends ended.status (text_of made) (reads_of made) ended.state
no-faults [] ended takes gives p r = refl
no-faults (Prints text at ∷ more) ended takes gives p r =
    ⊎_elim
    (λ (short : takes < length text). absurd (p (ap (λ o. o.status) (cut-refused text at more ended takes gives short))))
    (λ (fits : length text ≤ takes).
    let now = cut-printed text at more ended takes gives fits in
    let inner = no-faults more ended (takes - length text) gives (λ e. p (ap (λ o. o.status) now ∙ e)) (λ e. r (ap (λ o. o.status) now ∙ e)) in
    now ∙ ap (behind text 0) inner ∙ ap (λ n. ends ended.status (text ++ text_of more) n ended.state) (zero-add (reads_of more)))
    (cases_lt takes (length text))
no-faults (Reads count at ∷ more) ended takes gives p r =
    ⊎_elim
    (λ (short : gives < count). absurd (r (ap (λ o. o.status) (cut-failed count at more ended takes gives short))))
    (λ (fits : count ≤ gives).
    let now = cut-read count at more ended takes gives fits in
    let inner = no-faults more ended takes (gives - count) (λ e. p (ap (λ o. o.status) now ∙ e)) (λ e. r (ap (λ o. o.status) now ∙ e)) in
    now ∙ ap (behind [] count) inner)
    (cases_lt gives count)
no-faults (Sends bytes ∷ more) ended takes gives p r = no-faults more ended takes gives p r

-- what is sent behind a text that is taken whole, and behind reads that are let through
sent-printed : {S : Type 0} (text : List ℕ) (at : S) (more : List (Observation S)) (takes gives : ℕ) → length text ≤ takes
    → sent_until takes gives (Prints text at ∷ more) ≡ sent_until (takes - length text) gives more
sent-printed text at more takes gives h = rw (yes-le (length text) takes h) refl

sent-read : {S : Type 0} (count : ℕ) (at : S) (more : List (Observation S)) (takes gives : ℕ) → count ≤ gives
    → sent_until takes gives (Reads count at ∷ more) ≡ sent_until takes (gives - count) more
sent-read count at more takes gives h = rw (yes-le count gives h) refl

-- nothing, where a byte of the text is refused or one of the reads fails
sent-refused : {S : Type 0} (text : List ℕ) (at : S) (more : List (Observation S)) (takes gives : ℕ) → takes < length text
    → sent_until takes gives (Prints text at ∷ more) ≡ []
sent-refused text at more takes gives h = rw (no-le (length text) takes h) refl

sent-failed : {S : Type 0} (count : ℕ) (at : S) (more : List (Observation S)) (takes gives : ℕ) → gives < count
    → sent_until takes gives (Reads count at ∷ more) ≡ []
sent-failed count at more takes gives h = rw (no-le count gives h) refl

pub all-sent : {S : Type 0} (made : List (Observation S)) (ended : Ended S) (takes gives : ℕ)
    → (cut takes gives made ended).status ≢ 102 → (cut takes gives made ended).status ≢ 106 → sent_until takes gives made ≡ sent_of made
all-sent [] ended takes gives p r = refl
all-sent (Prints text at ∷ more) ended takes gives p r =
    ⊎_elim
    (λ (short : takes < length text). absurd (p (ap (λ o. o.status) (cut-refused text at more ended takes gives short))))
    (λ (fits : length text ≤ takes).
    let now = ap (λ o. o.status) (cut-printed text at more ended takes gives fits) in
    sent-printed text at more takes gives fits ∙ all-sent more ended (takes - length text) gives (λ e. p (now ∙ e)) (λ e. r (now ∙ e)))
    (cases_lt takes (length text))
all-sent (Reads count at ∷ more) ended takes gives p r =
    ⊎_elim
    (λ (short : gives < count). absurd (r (ap (λ o. o.status) (cut-failed count at more ended takes gives short))))
    (λ (fits : count ≤ gives).
    let now = ap (λ o. o.status) (cut-read count at more ended takes gives fits) in
    sent-read count at more takes gives fits ∙ all-sent more ended takes (gives - count) (λ e. p (now ∙ e)) (λ e. r (now ∙ e)))
    (cases_lt gives count)
all-sent (Sends bytes ∷ more) ended takes gives p r = ap (λ (sent : List (ℕ × ℕ)). bytes ++ sent) (all-sent more ended takes gives p r)

-- a console that takes more, where none of its bytes was refused: the same is sent
pub sent-more-room : {S : Type 0} (made : List (Observation S)) (ended : Ended S) (takes more gives : ℕ) → takes ≤ more
    → (cut takes gives made ended).status ≢ 102 → sent_until more gives made ≡ sent_until takes gives made
sent-more-room [] ended takes more gives h s = refl
sent-more-room (Prints text at ∷ rest) ended takes more gives h s =
    ⊎_elim
    (λ (short : takes < length text). absurd (s (ap (λ o. o.status) (cut-refused text at rest ended takes gives short))))
    (λ (fits : length text ≤ takes).
    let now = ap (λ o. o.status) (cut-printed text at rest ended takes gives fits) in
    sent-printed text at rest more gives (omega (arith, h, fits))
    ∙ sent-more-room rest ended (takes - length text) (more - length text) gives (omega (arith, h)) (λ e. s (now ∙ e))
    ∙ sym (sent-printed text at rest takes gives fits))
    (cases_lt takes (length text))
sent-more-room (Reads count at ∷ rest) ended takes more gives h s =
    ⊎_elim
    (λ (short : gives < count). sent-failed count at rest more gives short ∙ sym (sent-failed count at rest takes gives short))
    (λ (fits : count ≤ gives).
    let now = ap (λ o. o.status) (cut-read count at rest ended takes gives fits) in
    sent-read count at rest more gives fits
    ∙ sent-more-room rest ended takes more (gives - count) h (λ e. s (now ∙ e))
    ∙ sym (sent-read count at rest takes gives fits))
    (cases_lt gives count)
sent-more-room (Sends bytes ∷ rest) ended takes more gives h s = ap (λ (sent : List (ℕ × ℕ)). bytes ++ sent) (sent-more-room rest ended takes more gives h s)

pub whole : {S : Type 0} (made : List (Observation S)) (ended : Ended S) (takes gives : ℕ)
    → (cut takes gives made ended).status ≢ 102 → (cut takes gives made ended).status ≢ 106 → IsWhole made ended takes gives
whole made ended takes gives p r =
    let all = no-faults made ended takes gives p r in
    record {
      status = ap (λ o. o.status) all;
      console = ap (λ o. o.console) all;
      reads = ap (λ o. o.reads) all;
      state = ap (λ o. o.state) all;
      sent = all-sent made ended takes gives p r;
    }

-- the outcomes of two parts, one behind the other, are one
behind-behind : {S : Type 0} (first second : List ℕ) (m n : ℕ) (o : Outcome S) → behind first m (behind second n o) ≡ behind (first ++ second) (m + n) o
behind-behind first second m n o =
    ap (λ t. ends o.status t (m + (n + o.reads)) o.state) (sym (append_assoc first second o.console))
    ∙ ap (λ k. ends o.status ((first ++ second) ++ o.console) k o.state) (sym (add_assoc m n o.reads))

-- a cut behind observations that were let through
pub cut-after : {S : Type 0} (done more : List (Observation S)) (ended : Ended S) (takes gives : ℕ)
    → cut (length (text_of done) + takes) (reads_of done + gives) (done ++ more) ended ≡ behind (text_of done) (reads_of done) (cut takes gives more ended)
cut-after [] more ended takes gives =
    ap (λ n. cut n (0 + gives) more ended) (zero-add takes) ∙ ap (λ n. cut takes n more ended) (zero-add gives)
    ∙ ap (λ n. ends (cut takes gives more ended).status (cut takes gives more ended).console n (cut takes gives more ended).state) (sym (zero-add (cut takes gives more ended).reads))
cut-after (Prints text at ∷ done) more ended takes gives =
    let size = length-append text (text_of done) in
    let fits : length text ≤ length (text ++ text_of done) + takes = omega (arith, size) in
    let rest : length (text ++ text_of done) + takes - length text ≡ length (text_of done) + takes = omega (arith, size) in
    cut-printed text at (done ++ more) ended (length (text ++ text_of done) + takes) (reads_of done + gives) fits
    ∙ ap (λ n. behind text 0 (cut n (reads_of done + gives) (done ++ more) ended)) rest
    ∙ ap (behind text 0) (cut-after done more ended takes gives)
    ∙ behind-behind text (text_of done) 0 (reads_of done) (cut takes gives more ended)
    ∙ ap (λ n. behind (text ++ text_of done) n (cut takes gives more ended)) (zero-add (reads_of done))
cut-after (Reads count at ∷ done) more ended takes gives =
    let fits : count ≤ count + reads_of done + gives = omega arith in
    let rest : count + reads_of done + gives - count ≡ reads_of done + gives = omega arith in
    cut-read count at (done ++ more) ended (length (text_of done) + takes) (count + reads_of done + gives) fits
    ∙ ap (λ n. behind [] count (cut (length (text_of done) + takes) n (done ++ more) ended)) rest
    ∙ ap (behind [] count) (cut-after done more ended takes gives)
    ∙ behind-behind [] (text_of done) count (reads_of done) (cut takes gives more ended)
cut-after (Sends bytes ∷ done) more ended takes gives = cut-after done more ended takes gives

-- what is sent behind observations that were let through
pub sent-after : {S : Type 0} (done more : List (Observation S)) (takes gives : ℕ)
    → sent_until (length (text_of done) + takes) (reads_of done + gives) (done ++ more) ≡ sent_of done ++ sent_until takes gives more
sent-after [] more takes gives = ap (λ n. sent_until n (0 + gives) more) (zero-add takes) ∙ ap (λ n. sent_until takes n more) (zero-add gives)
sent-after (Prints text at ∷ done) more takes gives =
    let size = length-append text (text_of done) in
    let fits : length text ≤ length (text ++ text_of done) + takes = omega (arith, size) in
    let rest : length (text ++ text_of done) + takes - length text ≡ length (text_of done) + takes = omega (arith, size) in
    sent-printed text at (done ++ more) (length (text ++ text_of done) + takes) (reads_of done + gives) fits
    ∙ ap (λ n. sent_until n (reads_of done + gives) (done ++ more)) rest
    ∙ sent-after done more takes gives
sent-after (Reads count at ∷ done) more takes gives =
    let fits : count ≤ count + reads_of done + gives = omega arith in
    let rest : count + reads_of done + gives - count ≡ reads_of done + gives = omega arith in
    sent-read count at (done ++ more) (length (text_of done) + takes) (count + reads_of done + gives) fits
    ∙ ap (λ n. sent_until (length (text_of done) + takes) n (done ++ more)) rest
    ∙ sent-after done more takes gives
sent-after (Sends bytes ∷ done) more takes gives =
    ap (λ (sent : List (ℕ × ℕ)). bytes ++ sent) (sent-after done more takes gives)
    ∙ sym (append_assoc bytes (sent_of done) (sent_until takes gives more))

-- where a byte of a text is refused behind those, and where a read fails
pub ends-refused : {S : Type 0} (done more : List (Observation S)) (text : List ℕ) (at : S) (ended : Ended S) (n gives : ℕ) → n < length text
    → EndsBehind done (done ++ Prints text at ∷ more) ended (length (text_of done) + n) (reads_of done + gives)
    (ends 102 (text_of done ++ take n text) (reads_of done) at)
ends-refused done more text at ended n gives short = record {
  outcome =
      cut-after done (Prints text at ∷ more) ended n gives
      ∙ ap (behind (text_of done) (reads_of done)) (cut-refused text at more ended n gives short)
      ∙ ap (λ r. ends 102 (text_of done ++ take n text) r at) (add-zero (reads_of done));
  sent =
      sent-after done (Prints text at ∷ more) n gives
      ∙ ap (λ (sent : List (ℕ × ℕ)). sent_of done ++ sent) (sent-refused text at more n gives short)
      ∙ append-nil (sent_of done);
}

pub ends-failed : {S : Type 0} (done more : List (Observation S)) (count : ℕ) (at : S) (ended : Ended S) (takes n : ℕ) → n < count
    → EndsBehind done (done ++ Reads count at ∷ more) ended (length (text_of done) + takes) (reads_of done + n)
    (ends 106 (text_of done) (reads_of done + n) at)
ends-failed done more count at ended takes n short = record {
  outcome =
      cut-after done (Reads count at ∷ more) ended takes n
      ∙ ap (behind (text_of done) (reads_of done)) (cut-failed count at more ended takes n short)
      ∙ ap (λ t. ends 106 t (reads_of done + n) at) (append-nil (text_of done));
  sent =
      sent-after done (Reads count at ∷ more) takes n
      ∙ ap (λ (sent : List (ℕ × ℕ)). sent_of done ++ sent) (sent-failed count at more takes n short)
      ∙ append-nil (sent_of done);
}

-- all that is sent where all observations were let through
pub sent-whole : {S : Type 0} (done : List (Observation S)) (gives : ℕ) → sent_until (length (text_of done)) (reads_of done + gives) done ≡ sent_of done
sent-whole done gives =
    ap (λ m. sent_until m (reads_of done + gives) done) (sym (add-zero (length (text_of done))))
    ∙ ap (λ made. sent_until (length (text_of done) + 0) (reads_of done + gives) made) (sym (append-nil done))
    ∙ sent-after done [] 0 gives
    ∙ append-nil (sent_of done)

-- a byte of a text is refused, behind observations that were let through
pub cut-refused-after : {S : Type 0} (done : List (Observation S)) (text : List ℕ) (at : S) (more : List (Observation S)) (ended : Ended S) (n gives : ℕ) → n < length text
    → cut (length (text_of done ++ take n text)) (reads_of done + gives) (done ++ Prints text at ∷ more) ended ≡ ends 102 (text_of done ++ take n text) (reads_of done) at
cut-refused-after done text at more ended n gives h =
    let size : length (text_of done ++ take n text) ≡ length (text_of done) + n = length-append (text_of done) (take n text) ∙ ap (λ m. length (text_of done) + m) (length-take-le n text (omega (arith, h))) in
    ap (λ m. cut m (reads_of done + gives) (done ++ Prints text at ∷ more) ended) size
    ∙ cut-after done (Prints text at ∷ more) ended n gives
    ∙ ap (behind (text_of done) (reads_of done)) (cut-refused text at more ended n gives h)
    ∙ ap (λ r. ends 102 (text_of done ++ take n text) r at) (add-zero (reads_of done))

-- a read fails, behind observations that were let through
pub cut-failed-after : {S : Type 0} (done : List (Observation S)) (count : ℕ) (at : S) (more : List (Observation S)) (ended : Ended S) (n : ℕ) → n < count
    → cut (length (text_of done)) (reads_of done + n) (done ++ Reads count at ∷ more) ended ≡ ends 106 (text_of done) (reads_of done + n) at
cut-failed-after done count at more ended n h =
    ap (λ m. cut m (reads_of done + n) (done ++ Reads count at ∷ more) ended) (sym (add-zero (length (text_of done))))
    ∙ cut-after done (Reads count at ∷ more) ended 0 n
    ∙ ap (behind (text_of done) (reads_of done)) (cut-failed count at more ended 0 n h)
    ∙ ap (λ t. ends 106 t (reads_of done + n) at) (append-nil (text_of done))

-- all observations were let through
pub cut-whole : {S : Type 0} (done : List (Observation S)) (ended : Ended S) (gives : ℕ)
    → cut (length (text_of done)) (reads_of done + gives) done ended ≡ ends ended.status (text_of done) (reads_of done) ended.state
cut-whole done ended gives =
    ap (λ m. cut m (reads_of done + gives) done ended) (sym (add-zero (length (text_of done))))
    ∙ ap (λ made. cut (length (text_of done) + 0) (reads_of done + gives) made ended) (sym (append-nil done))
    ∙ cut-after done [] ended 0 gives
    ∙ ap (λ t. ends ended.status t (reads_of done + 0) ended.state) (append-nil (text_of done))
    ∙ ap (λ r. ends ended.status (text_of done) r ended.state) (add-zero (reads_of done))

-- a cut speaks of no state but hands one on
pub cut-map : {S T : Type 0} (f : S → T) (made : List (Observation S)) (ended : Ended S) (takes gives : ℕ)
    → cut takes gives (map_made f made) (map_ended f ended) ≡ map_outcome f (cut takes gives made ended)
cut-map f [] ended takes gives = refl
cut-map f (Prints text at ∷ more) ended takes gives =
    ⊎_elim
    (λ (short : takes < length text).
    cut-refused text (f at) (map_made f more) (map_ended f ended) takes gives short ∙ ap (map_outcome f) (sym (cut-refused text at more ended takes gives short)))
    (λ (fits : length text ≤ takes).
    cut-printed text (f at) (map_made f more) (map_ended f ended) takes gives fits
    ∙ ap (behind text 0) (cut-map f more ended (takes - length text) gives)
    ∙ ap (map_outcome f) (sym (cut-printed text at more ended takes gives fits)))
    (cases_lt takes (length text))
cut-map f (Reads count at ∷ more) ended takes gives =
    ⊎_elim
    (λ (short : gives < count).
    cut-failed count (f at) (map_made f more) (map_ended f ended) takes gives short ∙ ap (map_outcome f) (sym (cut-failed count at more ended takes gives short)))
    (λ (fits : count ≤ gives).
    cut-read count (f at) (map_made f more) (map_ended f ended) takes gives fits
    ∙ ap (behind [] count) (cut-map f more ended takes (gives - count))
    ∙ ap (map_outcome f) (sym (cut-read count at more ended takes gives fits)))
    (cases_lt gives count)
cut-map f (Sends bytes ∷ more) ended takes gives = cut-map f more ended takes gives

-- nor does what is sent
pub sent-map : {S T : Type 0} (f : S → T) (made : List (Observation S)) (takes gives : ℕ) → sent_until takes gives (map_made f made) ≡ sent_until takes gives made
sent-map f [] takes gives = refl
sent-map f (Prints text at ∷ more) takes gives = ap (λ (sent : List (ℕ × ℕ)). if nat_le (length text) takes then sent else []) (sent-map f more (takes - length text) gives)
sent-map f (Reads count at ∷ more) takes gives = ap (λ (sent : List (ℕ × ℕ)). if nat_le count gives then sent else []) (sent-map f more takes (gives - count))
sent-map f (Sends bytes ∷ more) takes gives = ap (λ (sent : List (ℕ × ℕ)). bytes ++ sent) (sent-map f more takes gives)

-- where a byte was refused, nothing behind it counts
cut-more : {S : Type 0} (made more : List (Observation S)) (ended other : Ended S) (takes gives : ℕ) → ended.status ≢ 102
    → (cut takes gives made ended).status ≡ 102 → cut takes gives (made ++ more) other ≡ cut takes gives made ended
cut-more [] more ended other takes gives fine refused = absurd (fine refused)
cut-more (Prints text at ∷ rest) more ended other takes gives fine refused =
    ⊎_elim
    (λ (short : takes < length text). cut-refused text at (rest ++ more) other takes gives short ∙ sym (cut-refused text at rest ended takes gives short))
    (λ (fits : length text ≤ takes).
    let now = cut-printed text at rest ended takes gives fits in
    cut-printed text at (rest ++ more) other takes gives fits
    ∙ ap (behind text 0) (cut-more rest more ended other (takes - length text) gives fine (sym (ap (λ o. o.status) now) ∙ refused))
    ∙ sym now)
    (cases_lt takes (length text))
cut-more (Reads count at ∷ rest) more ended other takes gives fine refused =
    ⊎_elim
    (λ (short : gives < count). cut-failed count at (rest ++ more) other takes gives short ∙ sym (cut-failed count at rest ended takes gives short))
    (λ (fits : count ≤ gives).
    let now = cut-read count at rest ended takes gives fits in
    cut-read count at (rest ++ more) other takes gives fits
    ∙ ap (behind [] count) (cut-more rest more ended other takes (gives - count) fine (sym (ap (λ o. o.status) now) ∙ refused))
    ∙ sym now)
    (cases_lt gives count)
cut-more (Sends bytes ∷ rest) more ended other takes gives fine refused = cut-more rest more ended other takes gives fine refused

-- nor is anything behind it sent
pub sent-more : {S : Type 0} (made more : List (Observation S)) (ended : Ended S) (takes gives : ℕ) → ended.status ≢ 102
    → (cut takes gives made ended).status ≡ 102 → sent_until takes gives (made ++ more) ≡ sent_until takes gives made
sent-more [] more ended takes gives fine refused = absurd (fine refused)
sent-more (Prints text at ∷ rest) more ended takes gives fine refused =
    ⊎_elim
    (λ (short : takes < length text). sent-refused text at (rest ++ more) takes gives short ∙ sym (sent-refused text at rest takes gives short))
    (λ (fits : length text ≤ takes).
    let now = ap (λ o. o.status) (cut-printed text at rest ended takes gives fits) in
    sent-printed text at (rest ++ more) takes gives fits
    ∙ sent-more rest more ended (takes - length text) gives fine (sym now ∙ refused)
    ∙ sym (sent-printed text at rest takes gives fits))
    (cases_lt takes (length text))
sent-more (Reads count at ∷ rest) more ended takes gives fine refused =
    ⊎_elim
    (λ (short : gives < count). sent-failed count at (rest ++ more) takes gives short ∙ sym (sent-failed count at rest takes gives short))
    (λ (fits : count ≤ gives).
    let now = ap (λ o. o.status) (cut-read count at rest ended takes gives fits) in
    sent-read count at (rest ++ more) takes gives fits
    ∙ sent-more rest more ended takes (gives - count) fine (sym now ∙ refused)
    ∙ sym (sent-read count at rest takes gives fits))
    (cases_lt gives count)
sent-more (Sends bytes ∷ rest) more ended takes gives fine refused = ap (λ (sent : List (ℕ × ℕ)). bytes ++ sent) (sent-more rest more ended takes gives fine refused)

-- a refused byte in an earlier part
pub breaks-before : {S : Type 0} (made more : List (Observation S)) (taken : List ℕ) (at : S) → BreaksOff made taken at → BreaksOff (made ++ more) taken at
breaks-before {S} made more taken at b = record {
  reads = b.reads;
  sent = b.sent;
  sent_is = λ gives.
      let whole : Ended S = record { status = 0; state = at } in
      let broken = b.cut_at gives whole in
      sent-more made more whole (length taken) (b.reads + gives) (λ e. absurd (omega (arith, e))) (ap (λ o. o.status) broken) ∙ b.sent_is gives;
  cut_at = λ gives ended.
      let whole : Ended S = record { status = 0; state = at } in
      let broken = b.cut_at gives whole in
      cut-more made more whole ended (length taken) (b.reads + gives) (λ e. absurd (omega (arith, e))) (ap (λ o. o.status) broken) ∙ broken;
}

-- a refused byte in a later part
pub breaks-behind : {S : Type 0} (done made : List (Observation S)) (taken : List ℕ) (at : S) → BreaksOff made taken at → BreaksOff (done ++ made) (text_of done ++ taken) at
breaks-behind done made taken at b = record {
  reads = reads_of done + b.reads;
  sent = sent_of done ++ b.sent;
  sent_is = λ gives.
      ap (λ n. sent_until n (reads_of done + b.reads + gives) (done ++ made)) (length-append (text_of done) taken)
      ∙ ap (λ n. sent_until (length (text_of done) + length taken) n (done ++ made)) (add_assoc (reads_of done) b.reads gives)
      ∙ sent-after done made (length taken) (b.reads + gives)
      ∙ ap (λ (sent : List (ℕ × ℕ)). sent_of done ++ sent) (b.sent_is gives);
  cut_at = λ gives ended.
      ap (λ n. cut n (reads_of done + b.reads + gives) (done ++ made) ended) (length-append (text_of done) taken)
      ∙ ap (λ n. cut (length (text_of done) + length taken) n (done ++ made) ended) (add_assoc (reads_of done) b.reads gives)
      ∙ cut-after done made ended (length taken) (b.reads + gives)
      ∙ ap (behind (text_of done) (reads_of done)) (b.cut_at gives ended);
}

-- a refused byte of the first text
pub breaks-here : {S : Type 0} (text : List ℕ) (at : S) (more : List (Observation S)) (n : ℕ) → n < length text → BreaksOff (Prints text at ∷ more) (take n text) at
breaks-here text at more n short = record {
  reads = 0;
  sent = [];
  sent_is = λ gives.
      ap (λ k. sent_until k (0 + gives) (Prints text at ∷ more)) (length-take-le n text (omega (arith, short)))
      ∙ sent-refused text at more n (0 + gives) short;
  cut_at = λ gives ended.
      ap (λ k. cut k (0 + gives) (Prints text at ∷ more) ended) (length-take-le n text (omega (arith, short)))
      ∙ cut-refused text at more ended n (0 + gives) short;
}

-- how many reads stand before the refused byte
pub before-reads : {S : Type 0} (made more : List (Observation S)) (taken : List ℕ) (at : S) (b : BreaksOff made taken at) → (breaks-before made more taken at b).reads ≡ b.reads
unfolding breaks-before
before-reads made more taken at b = refl

pub behind-reads : {S : Type 0} (done made : List (Observation S)) (taken : List ℕ) (at : S) (b : BreaksOff made taken at)
    → (breaks-behind done made taken at b).reads ≡ reads_of done + b.reads
unfolding breaks-behind
behind-reads done made taken at b = refl

-- and what was sent before it
pub before-sent : {S : Type 0} (made more : List (Observation S)) (taken : List ℕ) (at : S) (b : BreaksOff made taken at) → (breaks-before made more taken at b).sent ≡ b.sent
unfolding breaks-before
before-sent made more taken at b = refl

pub behind-sent : {S : Type 0} (done made : List (Observation S)) (taken : List ℕ) (at : S) (b : BreaksOff made taken at)
    → (breaks-behind done made taken at b).sent ≡ sent_of done ++ b.sent
unfolding breaks-behind
behind-sent done made taken at b = refl

pub here-sent : {S : Type 0} (text : List ℕ) (at : S) (more : List (Observation S)) (n : ℕ) (short : n < length text) → (breaks-here text at more n short).sent ≡ []
unfolding breaks-here
here-sent text at more n short = refl

-- no cut makes more reads than there are
pub cut-reads : {S : Type 0} (made : List (Observation S)) (ended : Ended S) (takes gives : ℕ) → (cut takes gives made ended).reads ≤ reads_of made
cut-reads [] ended takes gives = omega arith
cut-reads (Prints text at ∷ more) ended takes gives =
    ⊎_elim
    (λ (short : takes < length text). let e = ap (λ o. o.reads) (cut-refused text at more ended takes gives short) in omega (arith, e))
    (λ (fits : length text ≤ takes).
    let e = ap (λ o. o.reads) (cut-printed text at more ended takes gives fits) in
    let inner = cut-reads more ended (takes - length text) gives in
    omega (arith, e, inner))
    (cases_lt takes (length text))
cut-reads (Reads count at ∷ more) ended takes gives =
    ⊎_elim
    (λ (short : gives < count). let e = ap (λ o. o.reads) (cut-failed count at more ended takes gives short) in omega (arith, e, short))
    (λ (fits : count ≤ gives).
    let e = ap (λ o. o.reads) (cut-read count at more ended takes gives fits) in
    let inner = cut-reads more ended takes (gives - count) in
    omega (arith, e, inner))
    (cases_lt gives count)
cut-reads (Sends bytes ∷ more) ended takes gives = cut-reads more ended takes gives

-- a refused byte, with another state in each place. The way back needs each state to have one at least.
pub breaks-map : {S T : Type 0} (f : S → T) (made : List (Observation S)) (taken : List ℕ) (at : S) → BreaksOff made taken at → BreaksOff (map_made f made) taken (f at)
breaks-map {S} {T} f made taken at b = record {
  reads = b.reads;
  sent = b.sent;
  sent_is = λ gives. sent-map f made (length taken) (b.reads + gives) ∙ b.sent_is gives;
  cut_at = λ gives ended.
      let whole : Ended S = record { status = 0; state = at } in
      let other : Ended T = record { status = 0; state = f at } in
      let broken = b.cut_at gives whole in
      let mapped = cut-map f made whole (length taken) (b.reads + gives) ∙ ap (map_outcome f) broken in
      ap (λ l. cut (length taken) (b.reads + gives) l ended) (sym (append-nil (map_made f made)))
      ∙ cut-more (map_made f made) [] other ended (length taken) (b.reads + gives) (λ e. absurd (omega (arith, e))) (ap (λ o. o.status) mapped)
      ∙ mapped;
}

-- and what was sent
pub map-sent : {S T : Type 0} (f : S → T) (made : List (Observation S)) (taken : List ℕ) (at : S) (b : BreaksOff made taken at) → (breaks-map f made taken at b).sent ≡ b.sent
unfolding breaks-map
map-sent f made taken at b = refl

-- the reads before a refused byte are among those that are made
pub breaks-reads : {S : Type 0} (made : List (Observation S)) (taken : List ℕ) (at : S) (b : BreaksOff made taken at) → b.reads ≤ reads_of made
breaks-reads {S} made taken at b =
    let whole : Ended S = record { status = 0; state = at } in
    let e = ap (λ o. o.reads) (b.cut_at 0 whole) in
    let few = cut-reads made whole (length taken) (b.reads + 0) in
    omega (arith, e, few)

-- what holds of each state in which something comes, and of the last one, holds of that in which it is cut
pub cut-state : {S : Type 0} (P : S → Type 0) (made : List (Observation S)) (ended : Ended S) (takes gives : ℕ) → ((at : S) → StandsAt at made → P at) → P ended.state
    → P (cut takes gives made ended).state
cut-state P [] ended takes gives each last = last
cut-state P (Prints text at ∷ more) ended takes gives each last =
    by-room (nat_le (length text) takes) (cut-state P more ended (takes - length text) gives (λ x h. each x (inr h)) last)
  where
    by-room : (b : Bool) → P (cut (takes - length text) gives more ended).state → P (if b then behind text 0 (cut (takes - length text) gives more ended) else ends 102 (take takes text) 0 at).state
    by-room true later = later
    by-room false later = each at (inl refl)
cut-state P (Reads count at ∷ more) ended takes gives each last =
    by-reads (nat_le count gives) (cut-state P more ended takes (gives - count) (λ x h. each x (inr h)) last)
  where
    by-reads : (b : Bool) → P (cut takes (gives - count) more ended).state → P (if b then behind [] count (cut takes (gives - count) more ended) else ends 106 [] gives at).state
    by-reads true later = later
    by-reads false later = each at (inl refl)
cut-state P (Sends bytes ∷ more) ended takes gives each last = cut-state P more ended takes gives each last
