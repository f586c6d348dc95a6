-- Who is behind the connections of lines in memory.
use Rattle.std.specs.Prelude.{◌≡◌, true, false, Option, Some, None, is_some, slice_get, if◌then◌else◌}
use Rattle.std.proofs.Common.{refl, ap, sym, ◌∙◌, true≢false}
use Rattle.host_lines.specs.declared.mem_lines.Given.{Given}
use Rattle.host_lines.specs.Traffic.{Caller, Gone}
use Rattle.host_lines.specs.State.{PeersStand, caller_of}
use Rattle.host_lines.specs.MemLines.{MemState, state_of, stands_at, peer_at}

standing_given : (o : Option Given) → stands_at o ≡ true → is_some o ≡ true
standing_given None stands = elim (true≢false (sym stands)) [ ]
standing_given (Some g) stands = refl

standing_caller : (o : Option Given) → stands_at o ≡ true → peer_at o ≡ Caller (caller_of (peer_at o))
standing_caller None stands = elim (true≢false (sym stands)) [ ]
standing_caller (Some g) stands =
    let named : peer_at (Some g) ≡ Caller g.caller = ap (λ b. if b then Caller g.caller else Gone) stands in
    named ∙ ap (λ p. Caller (caller_of p)) (sym named)

ended_gone : (o : Option Given) → stands_at o ≡ false → peer_at o ≡ Gone
ended_gone None ends = refl
ended_gone (Some g) ends = ap (λ b. if b then Caller g.caller else Gone) ends

pub peers_stand : (m : MemState) → PeersStand (state_of m)
peers_stand m = record {
  given = λ conn stands. standing_given (slice_get m.given conn) stands;
  caller = λ conn stands. standing_caller (slice_get m.given conn) stands;
  gone = λ conn ends. ended_gone (slice_get m.given conn) ends;
}
