-- A turn that goes on behind what comes before its instruction.
use Rattle.std.proofs.Common.{◌≡◌, ◌∙◌, ℕ, Bool, true, false, List, map, Option, Some, None, refl, ap, sym, subst}
use Rattle.file_traits.specs.Lists.{NamedBytes}
use Rattle.host_lines.specs.Traffic.{Answer}
use Rattle.host_lines.specs.State.{LineState}
use Rattle.telnet_lines.specs.Line.{LineOf}
use Rattle.telnet_lines.specs.Joined.{seen_line}
use Rattle.nova_machine.specs.declared.machine.Stop.{Stop}
use Rattle.nova_machine.specs.declared.machine.Stop.TheVariants.{FileFault}
use Rattle.nova_machine.specs.declared.instruction_end.InstructionEnd.{InstructionEnd}
use Rattle.nova_machine.specs.declared.instruction_end.InstructionEnd.TheVariants as ends
use Rattle.nova_machine.specs.Ends.{end_stop}
use Rattle.nova_machine.specs.Machine.{MachineState}
use Rattle.nova_machine.specs.Notes.{UnitNote, unit_note}
use Rattle.nova_machine.specs.Seen.{Seen, seen, beside, erased, with_machine}
use Rattle.nova_machine.specs.Parts.{Part, silent}
use Rattle.nova_machine.specs.Turned.{Turned, still}
use Rattle.expect_actions.specs.Watch.{WatchState}
use Rattle.nova_machine.specs.Turn.{fetch, interrupt, breaks_tested, breaks_tested_unless, attended, prepared, turn}
use Rattle.nova_machine.specs.Service.{serving}
use Rattle.nova_machine.specs.Comes.{Output, Comes, IsOwn}
use Rattle.nova_machine.proofs.Parts.{silent-comes, comes-then, comes-stopped}
use Rattle.nova_machine.proofs.Erased.{erased_turned, erased-fetch, erased-interrupt}
use Rattle.nova_machine.proofs.Opened.{turn-opened}

pub own-note : (r : Option Stop) → IsOwn r → unit_note r ≡ None
own-note (Some (FileFault f)) own = absurd own
own-note r own = refl

-- a piece that looks at no number of an open file
still-comes : (watch : WatchState) (keys : List (ℕ × ℕ)) (files : List NamedBytes) (lines : LineState) (whole : List Answer) (f : MachineState → Turned) (mid last : MachineState) (r : Option Stop) (tells : Bool) (b : Output)
    → f (erased mid) ≡ erased_turned (f mid) → IsOwn r → r ≡ (f mid).stop → last ≡ (f mid).machine → last.lines ≡ mid.lines
    → Comes (still (seen (beside watch keys files lines) whole mid) (f (erased mid))) r (seen (beside watch keys files lines) whole last) tells b b
still-comes watch keys files lines whole f mid last r tells b same own stops is kept =
    let P : Turned → Type 0 = λ t. Comes (still (seen (beside watch keys files lines) whole mid) t) r (seen (beside watch keys files lines) whole last) tells b b in
    let at = seen (beside watch keys files lines) whole mid in
    let left : seen (beside watch keys files lines) whole last ≡ with_machine at (erased (f mid).machine) =
    ap (λ (ls : List (LineOf ℕ)). record at { machine = erased last; lines = map (seen_line lines) ls }) kept ∙ ap (λ (x : MachineState). with_machine at (erased x)) is in
    subst P (sym same) (silent-comes (f mid).stop r (with_machine at (erased (f mid).machine)) (seen (beside watch keys files lines) whole last) tells b own stops left)

-- the services go on, and the interrupt is looked for
pub attended-comes : (watch : WatchState) (keys : List (ℕ × ℕ)) (files : List NamedBytes) (lines : LineState) (whole : List Answer) (s : Seen) (mid last : MachineState) (r : Option Stop) (tells : Bool) (b a : Output)
    → Comes (serving None s) None (seen (beside watch keys files lines) whole mid) tells b a → IsOwn r → r ≡ (interrupt mid).stop → last ≡ (interrupt mid).machine → last.lines ≡ mid.lines
    → Comes (attended (unit_note r) s) r (seen (beside watch keys files lines) whole last) tells b a
attended-comes watch keys files lines whole s mid last r tells b a served own stops is kept =
    let P : Part → Type 0 = λ p. Comes p r (seen (beside watch keys files lines) whole last) tells b a in
    let Q : Option UnitNote → Type 0 = λ n. Comes (attended n s) r (seen (beside watch keys files lines) whole last) tells b a in
    subst Q (sym (own-note r own))
    (subst P (sym (turn-opened None false s).attends)
    (comes-then (serving None s) (λ x. still x (interrupt x.machine)) (seen (beside watch keys files lines) whole mid) r (seen (beside watch keys files lines) whole last) tells b a a served
    (still-comes watch keys files lines whole interrupt mid last r tells a (erased-interrupt mid) own stops is kept)))

-- they go on, and the breaks are looked for, but in a run's first turn
pub prepared-comes : (watch watch' : WatchState) (keys : List (ℕ × ℕ)) (files : List NamedBytes) (lines : LineState) (whole : List Answer) (s : Seen) (mid : MachineState) (r : Option Stop) (tells : Bool) (b a : Output)
    → Comes (attended None s) None (seen (beside watch keys files lines) whole mid) tells b a → IsOwn r → breaks_tested (seen (beside watch keys files lines) whole mid) ≡ silent r (seen (beside watch' keys files lines) whole mid)
    → Comes (prepared (unit_note r) false s) r (seen (beside watch' keys files lines) whole mid) tells b a
prepared-comes watch watch' keys files lines whole s mid r tells b a ready own is =
    let P : Part → Type 0 = λ p. Comes p r (seen (beside watch' keys files lines) whole mid) tells b a in
    let Q : Option UnitNote → Type 0 = λ n. Comes (prepared n false s) r (seen (beside watch' keys files lines) whole mid) tells b a in
    let T : Part → Type 0 = λ p. Comes p r (seen (beside watch' keys files lines) whole mid) tells a a in
    subst Q (sym (own-note r own))
    (subst P (sym (turn-opened None false s).prepares)
    (comes-then (attended None s) (λ at. breaks_tested_unless false at) (seen (beside watch keys files lines) whole mid) r (seen (beside watch' keys files lines) whole mid) tells b a a ready
    (subst T (sym is) (silent-comes r r (seen (beside watch' keys files lines) whole mid) (seen (beside watch' keys files lines) whole mid) tells a own refl refl))))

pub first-comes : (watch : WatchState) (keys : List (ℕ × ℕ)) (files : List NamedBytes) (lines : LineState) (whole : List Answer) (s : Seen) (mid : MachineState) (tells : Bool) (b a : Output)
    → Comes (attended None s) None (seen (beside watch keys files lines) whole mid) tells b a → Comes (prepared None true s) None (seen (beside watch keys files lines) whole mid) tells b a
first-comes watch keys files lines whole s mid tells b a ready =
    let P : Part → Type 0 = λ p. Comes p None (seen (beside watch keys files lines) whole mid) tells b a in
    subst P (sym (turn-opened None true s).prepares)
    (comes-then (attended None s) (λ at. breaks_tested_unless true at) (seen (beside watch keys files lines) whole mid) None (seen (beside watch keys files lines) whole mid) tells b a a ready
    (silent-comes None None (seen (beside watch keys files lines) whole mid) (seen (beside watch keys files lines) whole mid) tells a tt refl refl))

-- a service that stops
pub served-stops : (note : Option UnitNote) (s last : Seen) (stop : Stop) (tells : Bool) (b a : Output)
    → Comes (serving note s) (Some stop) last tells b a → Comes (attended note s) (Some stop) last tells b a
served-stops note s last stop tells b a ends =
    let P : Part → Type 0 = λ p. Comes p (Some stop) last tells b a in
    subst P (sym (turn-opened note false s).attends) (comes-stopped (serving note s) (λ x. still x (interrupt x.machine)) stop last tells b a ends)

-- what comes before the instruction stops
pub prepared-stops : (note : Option UnitNote) (first : Bool) (s last : Seen) (stop : Stop) (tells : Bool) (b a : Output)
    → Comes (prepared note first s) (Some stop) last tells b a → Comes (turn note first s) (Some stop) last tells b a
prepared-stops note first s last stop tells b a ends =
    let P : Part → Type 0 = λ p. Comes p (Some stop) last tells b a in
    subst P (sym (turn-opened note first s).executes) (comes-stopped (prepared note first s) (λ x. still x (fetch x.machine)) stop last tells b a ends)

-- a service or an entry that stops
pub attended-stops : (note : Option UnitNote) (first : Bool) (s last : Seen) (stop : Stop) (tells : Bool) (b a : Output)
    → Comes (attended note s) (Some stop) last tells b a → Comes (prepared note first s) (Some stop) last tells b a
attended-stops note first s last stop tells b a ends =
    let P : Part → Type 0 = λ p. Comes p (Some stop) last tells b a in
    subst P (sym (turn-opened note first s).prepares) (comes-stopped (attended note s) (λ at. breaks_tested_unless first at) stop last tells b a ends)

-- what comes before the instruction goes on, and it is executed
pub turn-comes : (first : Bool) (watch : WatchState) (keys : List (ℕ × ℕ)) (files : List NamedBytes) (lines : LineState) (whole : List Answer) (s : Seen) (mid last : MachineState) (r : Option Stop) (tells : Bool) (b a : Output)
    → Comes (prepared None first s) None (seen (beside watch keys files lines) whole mid) tells b a → IsOwn r → r ≡ (fetch mid).stop → last ≡ (fetch mid).machine → last.lines ≡ mid.lines
    → Comes (turn (unit_note r) first s) r (seen (beside watch keys files lines) whole last) tells b a
turn-comes first watch keys files lines whole s mid last r tells b a ready own stops is kept =
    let P : Part → Type 0 = λ p. Comes p r (seen (beside watch keys files lines) whole last) tells b a in
    let Q : Option UnitNote → Type 0 = λ n. Comes (turn n first s) r (seen (beside watch keys files lines) whole last) tells b a in
    subst Q (sym (own-note r own))
    (subst P (sym (turn-opened None first s).executes)
    (comes-then (prepared None first s) (λ x. still x (fetch x.machine)) (seen (beside watch keys files lines) whole mid) r (seen (beside watch keys files lines) whole last) tells b a a ready
    (still-comes watch keys files lines whole fetch mid last r tells a (erased-fetch mid) own stops is kept)))

-- an instruction's own stop is none of the console or of a file
pub ended-own : (end : InstructionEnd) (r : Option Stop) → r ≡ end_stop end → IsOwn r
ended-own end r is = subst (λ (o : Option Stop). IsOwn o) (sym is) (own end)
  where
    own : (e : InstructionEnd) → IsOwn (end_stop e)
    own ends.Executed = tt
    own ends.Halt = tt
    own ends.ChainLimit = tt
    own ends.UnknownDevice = tt
