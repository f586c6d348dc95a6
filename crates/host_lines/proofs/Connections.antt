-- Ports that are listened on, and connections by their numbers.
use mathlib.Core.Path.{fun_ext}
use Rattle.std.proofs.Common.{◌≡◌, ◌≢◌, ◌∙◌, ap, sym, refl, arith, ℕ, zero, suc, pred, eq-eqb, ◌==◌, ◌||◌, not, Bool, true, false, true≢false, List, [], ◌∷◌, ◌++◌, length, filter, slice_get, slice_set, Ok, Option, Some, None, is_some, if◌then◌else◌, inl, inr}
use Rattle.std.proofs.lemmas.Bool.Decides.{eqb_tells}
use Rattle.std.proofs.lemmas.Bool.{ne_eqb, eqb-false, eqb-true}
use Rattle.std.proofs.lemmas.Option.{slice_get_past}
use Rattle.std.proofs.Math.Dec.{eqb-suc-zero, eqb-zero-suc}
use Rattle.host_lines.specs.declared.entry.CallerAct.{CallerAct}
use Rattle.host_lines.specs.declared.entry.CallerAct.TheVariants.{Connects, Sends, HangsUp}
use Rattle.host_lines.specs.declared.lines.Received.{Received}
use Rattle.host_lines.specs.declared.lines.Received.TheVariants.{Bytes, NoneYet, HungUp}
use Rattle.host_lines.specs.declared.mem_lines.Given.{Given}
use Rattle.host_lines.specs.Traffic.{is_connect, Peer, Caller, Gone}
use Rattle.host_lines.specs.State.{LineState, parties, caller_of, with_one, without_one}
use Rattle.host_lines.specs.LineCalls.{IsFresh, IsUnused, received_after, Receives}
use Rattle.host_lines.specs.MemLines.{is_listed, connects_in, stands_at, peer_at, ended, given_after}

-- a port that is taken out, wherever it stands
out_of_none : (b : Bool) → false ≡ (if b then false else false)
out_of_none true = refl
out_of_none false = refl

out_of_others : (a b x : Bool) → (b ≡ true → a ≡ false) → (a || (if b then false else x)) ≡ (if b then false else a || x)
out_of_others a true x other = ap (λ c. c || false) (other refl)
out_of_others a false x other = refl

out_of_its : (a b x : Bool) → (b ≡ false → a ≡ false) → (if b then false else x) ≡ (if b then false else a || x)
out_of_its a true x other = refl
out_of_its a false x other = ap (λ c. c || x) (sym (other refl))

listed_less : (ports : List ℕ) (port p : ℕ) → is_listed (filter (λ q. not (q == port)) ports) p ≡ without_one port (is_listed ports) p
listed_less [] port p = out_of_none (p == port)
listed_less (q ∷ ports) port p =
    let kept = filter (λ r. not (r == port)) ports in
    elim (eqb_tells q port) as (λ x. is_listed (if not (q == port) then q ∷ kept else kept) p ≡ without_one port (is_listed (q ∷ ports)) p) [
      | inl e ↦ ap (λ b. is_listed (if not b then q ∷ kept else kept) p) e.0 ∙ listed_less ports port p
          ∙ out_of_its (q == p) (p == port) (is_listed ports p) (λ other. ne_eqb q p (λ is. eqb-false p port other (sym is ∙ e.1)))
      | inr e ↦ ap (λ b. is_listed (if not b then q ∷ kept else kept) p) e.0 ∙ ap (λ x. (q == p) || x) (listed_less ports port p)
          ∙ out_of_others (q == p) (p == port) (is_listed ports p) (λ its. ne_eqb q p (λ is. e.1 (is ∙ eqb-true p port its)))
    ]

pub port_removed : (ports : List ℕ) (port : ℕ) → is_listed (filter (λ q. not (q == port)) ports) ≡ without_one port (is_listed ports)
port_removed ports port = fun_ext (λ p. listed_less ports port p)

-- one more behind a list, and one of it replaced, by their places
same_suc : (k n : ℕ) → (suc k == suc n) ≡ (k == n)
same_suc k n = elim (eqb_tells k n) [
  | inl e ↦ eq-eqb (suc k) (suc n) (ap suc e.1) ∙ sym e.0
  | inr e ↦ ne_eqb (suc k) (suc n) (λ is. e.1 (ap pred is)) ∙ sym e.0
]

get_more : {X : Type 0} (xs : List X) (x : X) (k : ℕ) → slice_get (xs ++ x ∷ []) k ≡ (if k == length xs then Some x else slice_get xs k)
get_more [] x zero = refl
get_more [] x (suc k) = ap (λ b. if b then Some x else None) (sym (eqb-suc-zero k))
get_more (y ∷ xs) x zero = ap (λ b. if b then Some x else Some y) (sym (eqb-zero-suc (length xs)))
get_more (y ∷ xs) x (suc k) = get_more xs x k ∙ ap (λ b. if b then Some x else slice_get xs k) (sym (same_suc k (length xs)))

pub get_last : {X : Type 0} (xs : List X) (x : X) (k : ℕ) → k ≡ length xs → slice_get (xs ++ x ∷ []) k ≡ Some x
get_last xs x k is = get_more xs x k ∙ ap (λ b. if b then Some x else slice_get xs k) (eq-eqb k (length xs) is)

get_before : {X : Type 0} (xs : List X) (x : X) (k : ℕ) → k ≢ length xs → slice_get (xs ++ x ∷ []) k ≡ slice_get xs k
get_before xs x k other = get_more xs x k ∙ ap (λ b. if b then Some x else slice_get xs k) (ne_eqb k (length xs) other)

get_other : {X : Type 0} (xs : List X) (i : ℕ) (y : X) (k : ℕ) → k ≢ i → slice_get (slice_set xs i y) k ≡ slice_get xs k
get_other [] i y k other = refl
get_other (x ∷ xs) zero y zero other = elim (other refl) [ ]
get_other (x ∷ xs) zero y (suc k) other = refl
get_other (x ∷ xs) (suc i) y zero other = refl
get_other (x ∷ xs) (suc i) y (suc k) other = get_other xs i y k (λ is. other (ap suc is))

there_still : {X : Type 0} (xs : List X) (i : ℕ) (y : X) (k : ℕ) → is_some (slice_get (slice_set xs i y) k) ≡ is_some (slice_get xs k)
there_still [] i y k = refl
there_still (x ∷ xs) zero y zero = refl
there_still (x ∷ xs) zero y (suc k) = refl
there_still (x ∷ xs) (suc i) y zero = refl
there_still (x ∷ xs) (suc i) y (suc k) = there_still xs i y k

-- what is true of a connection that was accepted, and of the others
added_at : (of : Option Given → Bool) (given : List Given) (g : Given) (conn k : ℕ) → conn ≡ length given → of (Some g) ≡ true
    → of (slice_get (given ++ g ∷ []) k) ≡ with_one conn (λ c. of (slice_get given c)) k
added_at of given g conn k last is = elim (eqb_tells k conn) as (λ x. of (slice_get (given ++ g ∷ []) k) ≡ with_one conn (λ c. of (slice_get given c)) k) [
  | inl e ↦ ap of (get_last given g k (e.1 ∙ last)) ∙ is ∙ ap (λ b. if b then true else of (slice_get given k)) (sym e.0)
  | inr e ↦ ap of (get_before given g k (λ at. e.1 (at ∙ sym last))) ∙ ap (λ b. if b then true else of (slice_get given k)) (sym e.0)
]

pub one_added : (of : Option Given → Bool) (given : List Given) (g : Given) (conn : ℕ) → conn ≡ length given → of (Some g) ≡ true
    → (λ (k : ℕ). of (slice_get (given ++ g ∷ []) k)) ≡ with_one conn (λ c. of (slice_get given c))
one_added of given g conn last is = fun_ext (λ k. added_at of given g conn k last is)

-- the connection is fresh
pub is_fresh : (given : List Given) (caller conn : ℕ) (s s' : LineState) → conn ≡ length given
    → (is_some (slice_get given conn) ≡ false → peer_at (slice_get given conn) ≡ Gone → IsUnused s.told (s.given conn) (s.peers conn))
    → parties s ≡ (λ k. peer_at (slice_get given k)) → parties s' ≡ (λ k. peer_at (slice_get (given ++ record { caller = caller; stands = true } ∷ []) k)) → IsFresh conn s s'
is_fresh given caller conn s s' last unused old new =
    let g : Given = record { caller = caller; stands = true } in
    let here : parties s' conn ≡ Caller caller = ap (λ (f : ℕ → Peer). f conn) new ∙ ap peer_at (get_last given g conn last) in
    let past : slice_get given conn ≡ None = ap (slice_get given) last ∙ slice_get_past given (length given) (omega arith) in
    record {
      unused = unused (ap is_some past) (ap peer_at past);
      caller = here ∙ ap (λ (p : Peer). Caller (caller_of p)) (sym here);
      others = λ other apart. ap (λ (f : ℕ → Peer). f other) new ∙ ap peer_at (get_before given g other (λ is. apart (is ∙ sym last))) ∙ sym (ap (λ (f : ℕ → Peer). f other) old);
    }

-- a connection has ended
ended_falls : (given : List Given) (conn : ℕ) (g : Given) → g.stands ≡ false → stands_at (slice_get (slice_set given conn g) conn) ≡ false
ended_falls [] conn g ends = refl
ended_falls (x ∷ given) zero g ends = ends
ended_falls (x ∷ given) (suc conn) g ends = ended_falls given conn g ends

stands_else : (given : List Given) (conn k : ℕ) → stands_at (slice_get (ended conn given) k) ≡ without_one conn (λ c. stands_at (slice_get given c)) k
stands_else given conn k = elim (eqb_tells k conn) as (λ x. stands_at (slice_get (ended conn given) k) ≡ without_one conn (λ c. stands_at (slice_get given c)) k) [
  | inl e ↦ ap (λ n. stands_at (slice_get (ended conn given) n)) e.1 ∙ ended_falls given conn _ refl ∙ ap (λ b. if b then false else stands_at (slice_get given k)) (sym e.0)
  | inr e ↦ ap stands_at (get_other given conn _ k e.1) ∙ ap (λ b. if b then false else stands_at (slice_get given k)) (sym e.0)
]

pub stands_ended : (given : List Given) (conn : ℕ) → (λ (k : ℕ). stands_at (slice_get (ended conn given) k)) ≡ without_one conn (λ c. stands_at (slice_get given c))
stands_ended given conn = fun_ext (λ k. stands_else given conn k)

pub given_ended : (given : List Given) (conn : ℕ) → ◌≡◌ {A = ℕ → Bool} (λ k. is_some (slice_get (ended conn given) k)) (λ k. is_some (slice_get given k))
given_ended given conn = fun_ext (λ k. there_still given conn _ k)

pub peers_ended : (given : List Given) (conn other : ℕ) → other ≢ conn → peer_at (slice_get (ended conn given) other) ≡ peer_at (slice_get given other)
peers_ended given conn other apart = ap peer_at (get_other given conn _ other apart)

-- the connections behind a receive
pub stands_received : (conn : ℕ) (r : Received) (given : List Given)
    → (λ (k : ℕ). stands_at (slice_get (given_after conn r given) k)) ≡ received_after conn (Ok r) (λ k. stands_at (slice_get given k))
stands_received conn HungUp given = stands_ended given conn
stands_received conn NoneYet given = refl
stands_received conn (Bytes n) given = refl

pub given_received : (conn : ℕ) (r : Received) (given : List Given)
    → ◌≡◌ {A = ℕ → Bool} (λ k. is_some (slice_get (given_after conn r given) k)) (λ k. is_some (slice_get given k))
given_received conn HungUp given = given_ended given conn
given_received conn NoneYet given = refl
given_received conn (Bytes n) given = refl

pub peers_received : (conn : ℕ) (r : Received) (s s' : LineState) (given : List Given) → parties s ≡ (λ k. peer_at (slice_get given k))
    → parties s' ≡ (λ k. peer_at (slice_get (given_after conn r given) k)) → Receives conn s s' (Ok r)
peers_received conn HungUp s s' given old new = λ other apart.
    ap (λ (f : ℕ → Peer). f other) new ∙ peers_ended given conn other apart ∙ sym (ap (λ (f : ℕ → Peer). f other) old)
peers_received conn NoneYet s s' given old new = new ∙ sym old
peers_received conn (Bytes n) s s' given old new = new ∙ sym old

pub connect_is_one : (port : ℕ) (does : CallerAct) → is_connect port does ≡ true → connects_in does ≡ 1
connect_is_one port (Connects p) is = refl
connect_is_one port Sends is = elim (true≢false (sym is)) [ ]
connect_is_one port HangsUp is = elim (true≢false (sym is)) [ ]
