-- Listenings in a row: what each leaves, put together.
use Rattle.std.proofs.Common.{◌≡◌, ℕ, zero, suc, ◌+◌, ◌-◌, ◌<◌, ◌==◌, Bool, true, false, List, [], ◌∷◌, ◌++◌, Ok, Err, refl, ap, sym, subst, ◌∙◌, arith, if◌then◌else◌}
use Rattle.host_lines.specs.declared.lines.ListenFault.{ListenFault}
use Rattle.host_lines.specs.Traffic.{Quiet, listening}
use Rattle.host_lines.specs.Told.{Told, Gives}
use Rattle.host_lines.specs.LineCalls.{Listens, listen_faults}
use Rattle.host_lines.specs.State.{LineState, parties, with_one, without_one}
use Rattle.terminal_ports.specs.Listening.{rising, IsListening, listens_each, given_up, TellsEach, ListensEach}

-- ---- the ports of a row

pub row-none : (n port : ℕ) → n ≡ 0 → rising n port ≡ []
unfolding rising
row-none zero port none = refl
row-none (suc n) port none = absurd (omega (arith, none))

row-more : (n m port next : ℕ) → n ≡ suc m → next ≡ suc port → rising n port ≡ port ∷ rising m next
unfolding rising
row-more zero m port next is one = absurd (omega (arith, is))
row-more (suc n) m port next is one =
    let same : n ≡ m = omega (arith, is) in
    ap (λ (k : ℕ). port ∷ rising k (suc port)) same ∙ ap (λ (k : ℕ). port ∷ rising m k) (sym one)

pub row-some : (n port : ℕ) → 0 < n → rising n port ≡ port ∷ rising (n - 1) (port + 1)
row-some n port some = row-more n (n - 1) port (port + 1) (omega (arith, some)) (omega arith)

pub row-one : (port : ℕ) → rising 1 port ≡ port ∷ []
unfolding rising
row-one port = refl

-- ---- ports that are given up again

-- a port that is given up in the end was not listened on to the end
taken-back : (port k : ℕ) (more : List ℕ) (listens : ℕ → Bool) → (k == port) ≡ false → given_up more (with_one port listens) k ≡ given_up more listens k
taken-back port k [] listens other = by (k == port) other
  where
    by : (b : Bool) → b ≡ false → (if b then true else listens k) ≡ listens k
    by true is = absurd (cc)
    by false is = refl
taken-back port k (q ∷ more) listens other = by (k == q) (taken-back port k more listens other)
  where
    by : (b : Bool) → given_up more (with_one port listens) k ≡ given_up more listens k
        → (if b then false else given_up more (with_one port listens) k) ≡ (if b then false else given_up more listens k)
    by true same = refl
    by false same = same

pub back-again : (port : ℕ) (more : List ℕ) (listens : ℕ → Bool) → without_one port (given_up more (with_one port listens)) ≡ without_one port (given_up more listens)
back-again port more listens = λ i k. at k i
  where
    at : (k : ℕ) → without_one port (given_up more (with_one port listens)) k ≡ without_one port (given_up more listens) k
    at k = by (k == port) (taken-back port k more listens)
      where
        by : (b : Bool) → (b ≡ false → given_up more (with_one port listens) k ≡ given_up more listens k)
            → (if b then false else given_up more (with_one port listens) k) ≡ (if b then false else given_up more listens k)
        by true same = refl
        by false same = same refl

-- ---- a row

pub none-listened : (tells : Bool) (n port : ℕ) (s : LineState) → n ≡ 0 → ListensEach tells (rising n port) (Ok tt) s s
none-listened tells n port s none =
    subst (λ (ports : List ℕ). ListensEach tells ports (Ok tt) s s) (sym (row-none n port none))
    (record { row = record { told = λ _. refl; listens = refl }; stands = refl; behind = refl; sent = refl; counted = refl })

module _ (tells : Bool) (n port : ℕ) (some : 0 < n) where
  pub first-refused : (fault : ListenFault) (old new : LineState) → IsListening tells port (Err fault) old new → ListensEach tells (rising n port) (Err fault) old new
  first-refused fault old new is = record {
    row = record {
      before = [];
      refused = port;
      behind = rising (n - 1) (port + 1);
      parts = row-some n port some;
      told = λ t. (old.told, (refl, is.told t));
      listens = is.listens;
    };
    stands = is.stands;
    behind = is.behind;
    sent = is.sent;
    counted = is.counted;
  }

  pub all-listened : (old mid new : LineState) → IsListening tells port (Ok tt) old mid → ListensEach tells (rising (n - 1) (port + 1)) (Ok tt) mid new
      → ListensEach tells (rising n port) (Ok tt) old new
  all-listened old mid new is more =
      subst (λ (ports : List ℕ). ListensEach tells ports (Ok tt) old new) (sym (row-some n port some)) (record {
        row = record {
          told = λ t. (mid.told, (is.told t, more.row.told t));
          listens = more.row.listens ∙ ap (listens_each (rising (n - 1) (port + 1))) is.listens;
        };
        stands = more.stands ∙ is.stands;
        behind = more.behind ∙ is.behind;
        sent = more.sent ∙ is.sent;
        counted = more.counted ∙ is.counted;
      })

  pub given-back : (fault : ListenFault) (old mid last new : LineState) → IsListening tells port (Ok tt) old mid
      → ListensEach tells (rising (n - 1) (port + 1)) (Err fault) mid last
      → new.told ≡ last.told → new.listens ≡ without_one port last.listens → new.stands ≡ last.stands → parties new ≡ parties last → new.sent ≡ last.sent → new.faults ≡ last.faults
      → ListensEach tells (rising n port) (Err fault) old new
  given-back fault old mid last new is more told listens stands behind sent counted =
      let cut = more.row in
      record {
        row = record {
          before = port ∷ cut.before;
          refused = cut.refused;
          behind = cut.behind;
          parts = row-some n port some ∙ ap (λ (ports : List ℕ). port ∷ ports) cut.parts;
          told = λ t.
              let (between, chain) = cut.told t in
              (between, ((mid.told, (is.told t, chain.0)), subst (λ (x : Told). Listens between x (Err fault)) (sym told) chain.1));
          listens =
              listens
              ∙ ap (without_one port) (cut.listens ∙ ap (given_up cut.before) is.listens)
              ∙ back-again port cut.before old.listens;
        };
        stands = stands ∙ more.stands ∙ is.stands;
        behind = behind ∙ more.behind ∙ is.behind;
        sent = sent ∙ more.sent ∙ is.sent;
        counted = counted ∙ more.counted ∙ ap (listen_faults (Err fault)) is.counted;
      }

-- ---- one port alone

none-before : (port refused : ℕ) (before behind : List ℕ) → (port ∷ []) ≡ before ++ (refused ∷ behind) → before ≡ []
none-before port refused [] behind parts = refl
none-before port refused (b ∷ []) behind parts = absurd (cc)
none-before port refused (b ∷ c ∷ before) behind parts = absurd (cc)

pub one-listened : (tells : Bool) (port : ℕ) (old new : LineState) → ListensEach tells (rising 1 port) (Ok tt) old new → IsListening tells port (Ok tt) old new
one-listened tells port old new each =
    let one = subst (λ (ports : List ℕ). ListensEach tells ports (Ok tt) old new) (row-one port) each in
    record {
      told = λ t.
          let (mid, chain) = one.row.told t in
          subst (λ (x : Told). Gives old.told x listening Quiet) (sym chain.1) chain.0;
      listens = one.row.listens;
      stands = one.stands;
      behind = one.behind;
      sent = one.sent;
      counted = one.counted;
    }

pub one-refused : (tells : Bool) (port : ℕ) (fault : ListenFault) (old new : LineState) → ListensEach tells (rising 1 port) (Err fault) old new → IsListening tells port (Err fault) old new
one-refused tells port fault old new each =
    let cut = each.row in
    let none : cut.before ≡ [] = none-before port cut.refused cut.before cut.behind (sym (row-one port) ∙ cut.parts) in
    record {
      told = λ t.
          let (mid, chain) = cut.told t in
          let same : mid ≡ old.told = subst (λ (l : List ℕ). TellsEach l old.told mid) none chain.0 in
          subst (λ (x : Told). Listens x new.told (Err fault)) same chain.1;
      listens = cut.listens ∙ ap (λ (l : List ℕ). given_up l old.listens) none;
      stands = each.stands;
      behind = each.behind;
      sent = each.sent;
      counted = each.counted;
    }
