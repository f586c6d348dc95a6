-- Whose refusal that of a session is, and what it leaves of the lines.
use Rattle.std.proofs.Common.{◌≡◌, ◌≢◌, inl, inr, ℕ, ◌+◌, ◌-◌, ◌<◌, ◌≤◌, ◌&&◌, ◌||◌, ◌==◌, not, Bool, true, false, List, [], ◌∷◌, ◌++◌, Ok, Err, refl, ap, sym, subst, ◌∙◌, arith}
use Rattle.std.specs.Prelude.{nat_le}
use Rattle.std.proofs.lemmas.Bool.{and_parts, leb-true, eqb-true}
use Rattle.std.proofs.lemmas.List.{append_assoc}
use Rattle.file_traits.specs.State.{FileState}
use Rattle.host_lines.specs.declared.lines.ListenFault.{ListenFault}
use Rattle.host_lines.specs.declared.lines.ListenFault.TheVariants as listen
use Rattle.host_lines.specs.Told.{Told}
use Rattle.host_lines.specs.LineCalls.{Listens, listen_faults}
use Rattle.host_lines.specs.State.{LineState, parties, with_one, without_one}
use Rattle.terminal_ports.specs.Listening.{rising, listens_each, given_up, TellsEach, ListensEach}
use Rattle.terminal_ports.proofs.Row.{row-none, row-some, back-again}
use Rattle.saved_files.specs.declared.file_faults.RestoreFault.{RestoreFault}
use Rattle.saved_files.specs.declared.file_faults.RestoreFault.TheVariants as fault
use Rattle.saved_session.specs.Ranges.{is_among, is_multiplexer_port}
use Rattle.state_transfer.specs.Listening.{port_fault, IsHeardOn, IsPortFault, LeavesLines, GivesUpEach}
use Rattle.state_transfer.specs.Putting.{SaysMissing}
use Rattle.saved_session.specs.Parts.{FilePart}
use Rattle.saved_files.specs.PuttingCauses.{count_behind, openings_named, IsCompared, OpeningsStand, SessionCause}
use Rattle.saved_files.specs.Putting.{IsOfThese, IsOfSession}

-- ---- behind the files

pub these-of-session : (fs : List FilePart) (e : RestoreFault) → IsOfThese fs e → IsOfSession fs e
these-of-session fs (fault.NoFile unit) these = these
these-of-session fs (fault.TooLong unit) these = these
these-of-session fs (fault.Changed unit) these = these
these-of-session fs (fault.Failed f) these = these
these-of-session fs fault.MissingUnit these = tt
these-of-session fs fault.Port these = tt
these-of-session fs fault.OutOfMemory these = tt

pub no-listening : (tells : Bool) (ports : List ℕ) (fs : List FilePart) (e : RestoreFault) (s : LineState)
    → IsOfThese fs e → LeavesLines tells ports (Err e) s s
no-listening tells ports fs (fault.NoFile unit) s these = refl
no-listening tells ports fs (fault.TooLong unit) s these = refl
no-listening tells ports fs (fault.Changed unit) s these = refl
no-listening tells ports fs (fault.Failed f) s these = refl
no-listening tells ports fs fault.MissingUnit s these = refl
no-listening tells ports fs fault.Port s these = absurd these
no-listening tells ports fs fault.OutOfMemory s these = inl refl

-- a refusal of a file is of no unit that is missing
pub these-found : (fs : List FilePart) (e : RestoreFault) → IsOfThese fs e → SaysMissing (Err e) false
these-found fs (fault.NoFile unit) these = refl
these-found fs (fault.TooLong unit) these = refl
these-found fs (fault.Changed unit) these = refl
these-found fs (fault.Failed f) these = refl
these-found fs fault.MissingUnit these = absurd these
these-found fs fault.Port these = refl
these-found fs fault.OutOfMemory these = refl

-- ---- behind the ports

pub port-of-session : (fs : List FilePart) (e : RestoreFault) → IsPortFault e → IsOfSession fs e
port-of-session fs (fault.NoFile unit) is = absurd is
port-of-session fs (fault.TooLong unit) is = absurd is
port-of-session fs (fault.Changed unit) is = absurd is
port-of-session fs (fault.Failed f) is = absurd is
port-of-session fs fault.MissingUnit is = absurd is
port-of-session fs fault.Port is = tt
port-of-session fs fault.OutOfMemory is = tt

pub no-port : (tells : Bool) (ports : List ℕ) (e : RestoreFault) (old new : LineState) → IsPortFault e
    → IsHeardOn tells ports (Err e) old new → LeavesLines tells ports (Err e) old new
no-port tells ports (fault.NoFile unit) old new is heard = absurd is
no-port tells ports (fault.TooLong unit) old new is heard = absurd is
no-port tells ports (fault.Changed unit) old new is heard = absurd is
no-port tells ports (fault.Failed f) old new is heard = absurd is
no-port tells ports fault.MissingUnit old new is heard = absurd is
no-port tells ports fault.Port old new is heard = heard
no-port tells ports fault.OutOfMemory old new is heard = inr heard

pub port-found : (e : RestoreFault) → IsPortFault e → SaysMissing (Err e) false
port-found (fault.NoFile unit) is = refl
port-found (fault.TooLong unit) is = refl
port-found (fault.Changed unit) is = refl
port-found (fault.Failed f) is = refl
port-found fault.MissingUnit is = absurd is
port-found fault.Port is = refl
port-found fault.OutOfMemory is = refl

-- a refused port is no changed file
pub port-compared : (force : Bool) (e : RestoreFault) → IsPortFault e → IsCompared force (Err e)
port-compared force (fault.Failed f) is = tt
port-compared force (fault.NoFile unit) is = tt
port-compared force (fault.TooLong unit) is = tt
port-compared force (fault.Changed unit) is = absurd is
port-compared force fault.MissingUnit is = tt
port-compared force fault.Port is = tt
port-compared force fault.OutOfMemory is = tt

-- what it leaves of the counts of files
pub port-cause : (tells : Bool) (e : RestoreFault) (old new : FileState) → IsPortFault e → OpeningsStand tells old new
    → SessionCause tells (Err e) old new
port-cause tells (fault.Failed f) old new is h = absurd is
port-cause tells (fault.NoFile unit) old new is h = absurd is
port-cause tells (fault.TooLong unit) old new is h = absurd is
port-cause tells (fault.Changed unit) old new is h = absurd is
port-cause tells fault.MissingUnit old new is h = absurd is
port-cause tells fault.Port old new is h = h
port-cause tells fault.OutOfMemory old new is h = tt

-- and it is of no file
pub port-counts : (e : RestoreFault) → IsPortFault e → (file count : ℕ) → count_behind (Err e) file count ≡ count
port-counts (fault.Failed f) is file count = absurd is
port-counts (fault.NoFile unit) is file count = absurd is
port-counts (fault.TooLong unit) is file count = absurd is
port-counts (fault.Changed unit) is file count = absurd is
port-counts fault.MissingUnit is file count = absurd is
port-counts fault.Port is file count = refl
port-counts fault.OutOfMemory is file count = refl

pub port-unopened : (tells : Bool) (e : RestoreFault) → IsPortFault e → openings_named tells (Err e) ≡ 0
port-unopened tells (fault.Failed f) is = absurd is
port-unopened tells (fault.NoFile unit) is = absurd is
port-unopened tells (fault.TooLong unit) is = absurd is
port-unopened tells (fault.Changed unit) is = absurd is
port-unopened tells fault.MissingUnit is = absurd is
port-unopened tells fault.Port is = refl
port-unopened tells fault.OutOfMemory is = refl

pub is-port-fault : (f : ListenFault) → IsPortFault (port_fault f)
is-port-fault listen.Failed = tt
is-port-fault listen.OutOfMemory = tt

pub heard-fault : (tells : Bool) (ports : List ℕ) (f : ListenFault) (old new : LineState)
    → ListensEach tells ports (Err f) old new → IsHeardOn tells ports (Err (port_fault f)) old new
heard-fault tells ports listen.Failed old new each = each
heard-fault tells ports listen.OutOfMemory old new each = each

-- the ports of a valid session are within their range
pub multiplexer-low : (listed : Bool) (tti1 first : ℕ) → is_multiplexer_port listed tti1 first ≡ true → first ≤ 65472
multiplexer-low listed tti1 first is = by-test (first == 0) refl
  where
    by-test : (b : Bool) → (first == 0) ≡ b → first ≤ 65472
    by-test true none = let zero_port = eqb-true first 0 none in omega (arith, zero_port)
    by-test false some =
        let rest : (listed && (nat_le first 65472 && not (is_among first tti1))) ≡ true =
        sym (ap (λ (x : Bool). x || (listed && (nat_le first 65472 && not (is_among first tti1)))) some) ∙ is in
        leb-true first 65472 (and_parts (nat_le first 65472) (not (is_among first tti1)) (and_parts listed _ rest).1).0

-- ---- a row of ports that is given up

pub none-given : (n port : ℕ) (s : LineState) → n ≡ 0 → GivesUpEach (rising n port) s s
none-given n port s none =
    subst (λ (ports : List ℕ). GivesUpEach ports s s) (sym (row-none n port none))
    (record { told = refl; listens = refl; stands = refl; behind = refl; sent = refl; counted = refl })

-- the last ones were given up, and then the first one
pub all-given : (n port : ℕ) (old mid new : LineState) → 0 < n → GivesUpEach (rising (n - 1) (port + 1)) old mid
    → new.told ≡ mid.told → new.listens ≡ without_one port mid.listens → new.stands ≡ mid.stands → parties new ≡ parties mid
    → new.sent ≡ mid.sent → new.faults ≡ mid.faults → GivesUpEach (rising n port) old new
all-given n port old mid new some more told listens stands behind sent counted =
    subst (λ (ports : List ℕ). GivesUpEach ports old new) (sym (row-some n port some)) (record {
      told = told ∙ more.told;
      listens = listens ∙ ap (without_one port) more.listens;
      stands = stands ∙ more.stands;
      behind = behind ∙ more.behind;
      sent = sent ∙ more.sent;
      counted = counted ∙ more.counted;
    })

-- ---- ports that are listened on behind others

listens-both : (first second : List ℕ) (listens : ℕ → Bool)
    → listens_each (first ++ second) listens ≡ listens_each second (listens_each first listens)
listens-both [] second listens = refl
listens-both (p ∷ first) second listens = listens-both first second (with_one p listens)

tells-both : (first second : List ℕ) (x y z : Told) → TellsEach first x y → TellsEach second y z
    → TellsEach (first ++ second) x z
tells-both [] second x y z one two = subst (λ (w : Told). TellsEach second w z) one two
tells-both (p ∷ first) second x y z one two = (one.0, (one.1.0, tells-both first second one.0 y z one.1.1 two))

given-both : (first second : List ℕ) (listens : ℕ → Bool)
    → given_up (first ++ second) listens ≡ given_up first (given_up second listens)
given-both [] second listens = refl
given-both (p ∷ first) second listens = ap (without_one p) (given-both first second listens)

-- ports that are given up in the end were not listened on to the end
back-each : (first before : List ℕ) (listens : ℕ → Bool)
    → given_up first (given_up before (listens_each first listens)) ≡ given_up first (given_up before listens)
back-each [] before listens = refl
back-each (p ∷ first) before listens =
    ap (without_one p)
    (back-each first before (with_one p listens) ∙ sym (given-both first before (with_one p listens)))
    ∙ back-again p (first ++ before) listens ∙ ap (without_one p) (given-both first before listens)

module _ (tells : Bool) (first second : List ℕ) where
  pub both-listened : (old mid new : LineState) → ListensEach tells first (Ok tt) old mid
      → ListensEach tells second (Ok tt) mid new → ListensEach tells (first ++ second) (Ok tt) old new
  both-listened old mid new one two = record {
    row = record {
      told = λ t. tells-both first second old.told mid.told new.told (one.row.told t) (two.row.told t);
      listens =
          two.row.listens ∙ ap (listens_each second) one.row.listens ∙ sym (listens-both first second old.listens);
    };
    stands = two.stands ∙ one.stands;
    behind = two.behind ∙ one.behind;
    sent = two.sent ∙ one.sent;
    counted = two.counted ∙ one.counted;
  }

  pub first-refused : (why : ListenFault) (old new : LineState) → ListensEach tells first (Err why) old new
      → ListensEach tells (first ++ second) (Err why) old new
  first-refused why old new one =
      let cut = one.row in
      record {
        row = record {
          before = cut.before;
          refused = cut.refused;
          behind = cut.behind ++ second;
          parts = ap (λ (ports : List ℕ). ports ++ second) cut.parts
              ∙ append_assoc cut.before (cut.refused ∷ cut.behind) second;
          told = cut.told;
          listens = cut.listens;
        };
        stands = one.stands;
        behind = one.behind;
        sent = one.sent;
        counted = one.counted;
      }

  pub second-refused : (why : ListenFault) (old mid last new : LineState) → ListensEach tells first (Ok tt) old mid
      → ListensEach tells second (Err why) mid last → GivesUpEach first last new
      → ListensEach tells (first ++ second) (Err why) old new
  second-refused why old mid last new one two back =
      let cut = two.row in
      record {
        row = record {
          before = first ++ cut.before;
          refused = cut.refused;
          behind = cut.behind;
          parts = ap (λ (ports : List ℕ). first ++ ports) cut.parts
              ∙ sym (append_assoc first cut.before (cut.refused ∷ cut.behind));
          told = λ t.
              let (between, chain) = cut.told t in (
                between,
                (
                  tells-both first cut.before old.told mid.told between (one.row.told t) chain.0,
                  subst (λ (x : Told). Listens between x (Err why)) (sym back.told) chain.1,
                ),
              );
          listens = back.listens
              ∙ ap (given_up first) (cut.listens ∙ ap (given_up cut.before) one.row.listens)
              ∙ back-each first cut.before old.listens ∙ sym (given-both first cut.before old.listens);
        };
        stands = back.stands ∙ two.stands ∙ one.stands;
        behind = back.behind ∙ two.behind ∙ one.behind;
        sent = back.sent ∙ two.sent ∙ one.sent;
        counted = back.counted ∙ two.counted ∙ ap (listen_faults (Err why)) one.counted;
      }

-- ---- ports of which one is refused are some

never-empty : (before behind : List ℕ) (port : ℕ) → before ++ (port ∷ behind) ≡ [] → ⊥
never-empty [] behind port none = absurd (cc)
never-empty (p ∷ before) behind port none = absurd (cc)

pub some-wanted : (tells : Bool) (ports : List ℕ) (why : ListenFault) (old new : LineState)
    → ListensEach tells ports (Err why) old new → ports ≢ []
some-wanted tells ports why old new each = λ none.
    never-empty each.row.before each.row.behind each.row.refused (sym each.row.parts ∙ none)
