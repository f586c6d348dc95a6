-- What callers of lines have heard, through one part of a run and the next.
use Rattle.std.proofs.Common.{◌≡◌, ◌∙◌, ap, sym, refl, arith, ℕ, ◌-◌, List, [], ◌∷◌, ◌++◌, map, min, length, take, append_assoc, append-nil, length-append, length-take}
use Rattle.std.proofs.lemmas.List.{take_min}
use Rattle.telnet_lines.proofs.FrontBytes.{taken_of_both}
use Rattle.telnet_lines.proofs.Sending.{nothing_heard}
use Rattle.observations.specs.Observations.{sent_of}
use Rattle.host_lines.specs.declared.lines.Sent.{Sent}
use Rattle.host_lines.specs.Told.{Heard, Named, Unnamed, heard_more}
use Rattle.nova_machine.specs.OnLines.{pair_of, sends}
use Rattle.nova_machine.specs.LineChanges.{named, heard_with}

abbrev bytes_in : List Sent → List ℕ
bytes_in sent = map (λ (s : Sent). s.byte) sent

bytes-append : (a b : List Sent) → bytes_in (a ++ b) ≡ bytes_in a ++ bytes_in b
bytes-append [] b = refl
bytes-append (x ∷ a) b = ap (λ (l : List ℕ). x.byte ∷ l) (bytes-append a b)

-- the first bytes of one text and then of another, up to a room, are the first of both
in-room : (n : ℕ) (f b : List ℕ) → take n f ++ take (n - length (take n f)) b ≡ take n (f ++ b)
in-room n f b =
    let size : length (take n f) ≡ min (length f) n = omega (arith, length-take n f) in
    let turned : min n (length f) ≡ min (length f) n = omega arith in
    let other : min (n - min (length f) n) (length b) ≡ min (length b) (n - min (length f) n) = omega arith in
    ap (λ (k : ℕ). take n f ++ take (n - k) b) size
    ∙ ap (λ (l : List ℕ). l ++ take (n - min (length f) n) b) (sym (take_min n f) ∙ ap (λ (k : ℕ). take k f) turned)
    ∙ ap (λ (l : List ℕ). take (min (length f) n) f ++ l) (sym (take_min (n - min (length f) n) b) ∙ ap (λ (k : ℕ). take k b) other)
    ∙ taken_of_both n f b

pub both-heard : (h : Heard) (a b : List Sent) → heard_more (heard_more h a) b ≡ heard_more h (a ++ b)
both-heard (Named sent) a b = ap Named (append_assoc sent a b)
both-heard (Unnamed room bytes) a b =
    let n = room - length bytes in
    let f = bytes_in a in
    let left : room - length (bytes ++ take n f) ≡ n - length (take n f) = omega (arith, length-append bytes (take n f)) in
    ap (λ (k : ℕ). Unnamed room ((bytes ++ take n f) ++ take k (bytes_in b))) left
    ∙ ap (Unnamed room) (append_assoc bytes (take n f) (take (n - length (take n f)) (bytes_in b)))
    ∙ ap (λ (l : List ℕ). Unnamed room (bytes ++ l)) (in-room n f (bytes_in b) ∙ ap (take n) (sym (bytes-append a b)))

named-append : (a b : List (ℕ × ℕ)) → map named (a ++ b) ≡ map named a ++ map named b
named-append [] b = refl
named-append (x ∷ a) b = ap (λ (l : List Sent). named x ∷ l) (named-append a b)

pub heard-nothing : (h : Heard) → heard_with h [] ≡ h
heard-nothing h = nothing_heard h

pub heard-behind : (h : Heard) (a b : List (ℕ × ℕ)) → heard_with (heard_with h a) b ≡ heard_with h (a ++ b)
heard-behind h a b = both-heard h (map named a) (map named b) ∙ ap (heard_more h) (sym (named-append a b))

-- what is observed of sent bytes names each with its caller
named-pairs : (sent : List Sent) → map named (map pair_of sent) ≡ sent
named-pairs [] = refl
named-pairs (s ∷ sent) = ap (λ (l : List Sent). s ∷ l) (named-pairs sent)

pub sent-observed : (S : Type 0) (sent : List Sent) → map named (sent_of (sends {S = S} sent)) ≡ sent
sent-observed S [] = refl
sent-observed S (s ∷ sent) = ap (map named) (append-nil (map pair_of (s ∷ sent))) ∙ named-pairs (s ∷ sent)

pub heard-sends : (S : Type 0) (h : Heard) (sent : List Sent) → heard_more h sent ≡ heard_with h (sent_of (sends {S = S} sent))
heard-sends S h sent = ap (heard_more h) (sym (sent-observed S sent))
