use Rattle.std.proofs.Common.{◌≡◌, ◌∙◌, ap, sym, subst, arith, ℕ, ◌-◌, ◌==◌, ◌≤◌, true, false, true≢false, refl, List, [], ◌∷◌, length, take, drop, length-take, Some, option_map}
use Rattle.std.proofs.Math.Dec.{eqb-suc-zero}
use Rattle.std.proofs.lemmas.List.{take-append-le, take-append-drop}
use Rattle.host_lines.specs.declared.lines.ConnId.{ConnId}
use Rattle.host_lines.specs.Traffic.{sending, taken_answer, sent_bytes, Failed}
use Rattle.host_lines.specs.State.{parties}
use Rattle.host_lines.specs.Told.{Gives, heard_more}
use Rattle.circular_buffer.specs.Buffer.{Buffer}
use Rattle.telnet_lines.specs.Line.{LineOf, line_of, unconnected}
use Rattle.telnet_lines.specs.Poll.{piece_of}
use Rattle.telnet_lines.specs.Joined.{Sends}
use Rattle.telnet_lines.proofs.Sending.{sends_unconnected, sends_without_output, sends_some, sends_failed}
use Rattle.telnet_lines.proofs.line.Line.send.Goals as goal

abbrev number : ConnId → ℕ
number conn = conn.0

pub returns-in_default-clause-told : goal.returns-in_default-clause-told
returns-in_default-clause-told g c = λ tells.
    sends_unconnected _ _ (sym (ap (λ (l : LineOf ℕ). l.connection) c.self.view_is) ∙ ap (option_map number) c.in_default.is)

empty_list : (xs : List ℕ) → (length xs == 0) ≡ true → xs ≡ []
empty_list [] is = refl
empty_list (x ∷ xs) is = elim (true≢false (sym is ∙ eqb-suc-zero (length xs))) [ ]

-- the first of the first bytes
front_of_front : (n m : ℕ) (xs : List ℕ) → n ≤ length (take m xs) → take n (take m xs) ≡ take n xs
front_of_front n m xs few = sym (take-append-le n (take m xs) (drop m xs) few) ∙ ap (take n) (take-append-drop m xs)

pub returns-then-is_empty-clause-told : goal.returns-then-is_empty-clause-told
returns-then-is_empty-clause-told g c = λ tells.
    sends_without_output _ _ (sym (ap (λ (l : LineOf ℕ). l.output) c.self.view_is) ∙ empty_list c.self.inside.output.items (sym c.is_empty.ensures ∙ c.if-is_empty.true))

pub returns-in-Ok-clause-told : goal.returns-in-Ok-clause-told
returns-in-Ok-clause-told g c = λ tells.
    let state = g.L.Lines.state in
    let old = state c.args.lines.now in
    let new = state c.send.new.self in
    let items = c.self.inside.output.items in
    let connection = option_map number c.self.inside.connection in
    let line = line_of c.self.inside.port connection c.self.inside.keys.items items c.self.inside.rest in
    let conn = number c.in-Some.conn in
    let n = c.in-Ok.count in
    let piece = take c.first_bytes-size.result c.first_bytes-size.new.out in
    let is : connection ≡ Some conn = ap (option_map number) c.in-Some.is in
    let some : (length items == 0) ≡ false = sym c.is_empty.ensures ∙ c.if-is_empty.false in
    let bytes : piece ≡ piece_of items = c.first_bytes-size.ensures.bytes in
    let given : Gives old.told new.told (sending (parties old conn) (length piece)) (taken_answer (length piece) n) = c.in-Ok.ensures.told tells in
    let told : Gives old.told new.told (sending (parties old conn) (length (piece_of items))) (taken_answer (length (piece_of items)) n) =
    subst (λ (p : List ℕ). Gives old.told new.told (sending (parties old conn) (length p)) (taken_answer (length p) n)) bytes given in
    let few : n ≤ length piece = c.in-Ok.ensures.bound in
    let heard : new.sent ≡ heard_more old.sent (sent_bytes (parties old conn) (take n piece)) = c.in-Ok.ensures.sent tells in
    let low : n ≤ length items = omega (arith, few, length-take c.first_bytes-size.result c.first_bytes-size.new.out, c.first_bytes-size.ensures.bound.1) in
    let in_piece : n ≤ length (piece_of items) = subst (λ (p : List ℕ). n ≤ length p) bytes few in
    let taken : take n piece ≡ take n items = ap (take n) bytes ∙ front_of_front n 256 items in_piece in
    let sent_is : new.sent ≡ heard_more old.sent (sent_bytes (parties old conn) (take n items)) =
    heard ∙ ap (λ (p : List ℕ). heard_more old.sent (sent_bytes (parties old conn) p)) taken in
    let count : length items - (c.len.result - n) ≡ n = omega (arith, low, c.len.ensures.len) in
    let after : drop n items ≡ c.truncate_front.new.self.items = sym (ap (λ (b : Buffer ℕ). b.items) c.truncate_front.ensures ∙ ap (λ (k : ℕ). drop k items) count) in
    subst (λ (l : LineOf ℕ). Sends old l new (line_of c.self.inside.port connection c.self.inside.keys.items c.truncate_front.new.self.items c.self.inside.rest)) c.self.view_is
    (subst (λ (o : List ℕ). Sends old line new (line_of c.self.inside.port connection c.self.inside.keys.items o c.self.inside.rest)) after
    (sends_some old new line conn n is some told c.in-Ok.ensures.peers sent_is))

pub returns-in-Err-clause-told : goal.returns-in-Err-clause-told
returns-in-Err-clause-told g c = λ tells.
    let state = g.L.Lines.state in
    let old = state c.args.lines.now in
    let mid = state c.send.new.self in
    let new = state c.hang_up.new.self in
    let items = c.self.inside.output.items in
    let connection = option_map number c.self.inside.connection in
    let line = line_of c.self.inside.port connection c.self.inside.keys.items items c.self.inside.rest in
    let conn = number c.in-Some.conn in
    let piece = take c.first_bytes-size.result c.first_bytes-size.new.out in
    let is : connection ≡ Some conn = ap (option_map number) c.in-Some.is in
    let some : (length items == 0) ≡ false = sym c.is_empty.ensures ∙ c.if-is_empty.false in
    let bytes : piece ≡ piece_of items = c.first_bytes-size.ensures.bytes in
    let given : Gives old.told mid.told (sending (parties old conn) (length piece)) Failed = c.in-Err.ensures.told tells in
    let told : Gives old.told mid.told (sending (parties old conn) (length (piece_of items))) Failed =
    subst (λ (p : List ℕ). Gives old.told mid.told (sending (parties old conn) (length p)) Failed) bytes given in
    let heard : mid.sent ≡ heard_more old.sent (sent_bytes (parties old conn) []) = c.in-Err.ensures.sent tells in
    subst (λ (l : LineOf ℕ). Sends old l new c.drop_connection.new.self) c.self.view_is
    (subst (λ (l : LineOf ℕ). Sends old line new l) (ap (λ (l : LineOf ℕ). unconnected l.port) c.self.view_is ∙ sym c.drop_connection.ensures)
    (sends_failed old mid new line conn is some told c.hang_up.ensures.told (c.hang_up.ensures.sent ∙ heard)))
