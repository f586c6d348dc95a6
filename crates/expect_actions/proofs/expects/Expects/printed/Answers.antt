use Rattle.std.proofs.Common.{rules, ◌≡◌, ◌<◌, ◌++◌, ◌∷◌, [], Some, None, Bool, cond, length, drop, take, remove, get_or, slice_set, slice_index_or, sym, ap, ◌∙◌, subst, arith, ℕ, ◌-◌, List, Option}
use Rattle.std.proofs.lemmas.List.{length-set}
use Rattle.std.proofs.lemmas.List.Edits.{length-remove}
use Rattle.circular_buffer.specs.Buffer.{Buffer, buffer}
use Rattle.expect_actions.specs.declared.expects.Expect.{Expect}
use Rattle.expect_actions.specs.Expects.{ExpectTable, table, expect_of, last_bytes, first_match, stop_of, counted_down, matched, match_at, after_printed}
use Rattle.expect_actions.proofs.ExpectLemmas.{copied, found, on_stop, on_table, at_stop, at_table}
use Rattle.expect_actions.proofs.expects.Expects.printed.Goals as goal

pub returns-in_err-place-clause-stop : goal.returns-in_err-place-clause-stop
returns-in_err-place-clause-stop c =
    let items = c.self.inside.list.items in
    let printed = last_bytes (c.self.inside.tail.items ++ c.args.byte ∷ []) in
    let tail : c.push_back.new.self ≡ buffer printed 64 =
    c.push_back.ensures.items
    ∙ ap (λ (n : ℕ). buffer (drop (length (c.self.inside.tail.items ++ c.args.byte ∷ []) - n) (c.self.inside.tail.items ++ c.args.byte ∷ [])) n) c.self.invariant.1 in
    let read : take c.copy_bytes-count.result c.copy_bytes-count.new.out ≡ printed =
    copied _ _ _ _ c.copy_bytes-count.ensures.count c.copy_bytes-count.ensures.bytes ∙ ap (λ (b : Buffer ℕ). b.items) tail in
    let at : c.first_match.result ≡ first_match printed items =
    c.first_match.ensures ∙ ap (λ (bytes : List ℕ). first_match bytes c.as_slice.result.now) read ∙ ap (first_match printed) c.as_slice.ensures.value in
    let none : c.first_match.result ≡ None = search rules in
    let out : c.from_residual.result ≡ None = search rules in
    let P : ExpectTable → Type 0 = λ t. c.from_residual.result ≡ match_at c.args.byte t in
    subst P c.self.view_is (out ∙ ap (λ (o : Option ℕ). stop_of o items) (sym none ∙ at))

pub returns-in_err-place-clause-after : goal.returns-in_err-place-clause-after
returns-in_err-place-clause-after c =
    let items = c.self.inside.list.items in
    let printed = last_bytes (c.self.inside.tail.items ++ c.args.byte ∷ []) in
    let tail : c.push_back.new.self ≡ buffer printed 64 =
    c.push_back.ensures.items
    ∙ ap (λ (n : ℕ). buffer (drop (length (c.self.inside.tail.items ++ c.args.byte ∷ []) - n) (c.self.inside.tail.items ++ c.args.byte ∷ [])) n) c.self.invariant.1 in
    let read : take c.copy_bytes-count.result c.copy_bytes-count.new.out ≡ printed =
    copied _ _ _ _ c.copy_bytes-count.ensures.count c.copy_bytes-count.ensures.bytes ∙ ap (λ (b : Buffer ℕ). b.items) tail in
    let at : c.first_match.result ≡ first_match printed items =
    c.first_match.ensures ∙ ap (λ (bytes : List ℕ). first_match bytes c.as_slice.result.now) read ∙ ap (first_match printed) c.as_slice.ensures.value in
    let none : c.first_match.result ≡ None = search rules in
    let before = table items c.self.inside.tail.items c.self.inside.actions in
    let P : ExpectTable → Type 0 = λ t. table items c.push_back.new.self.items c.self.inside.actions ≡ after_printed c.args.byte t in
    subst P c.self.view_is
    (ap (λ (b : Buffer ℕ). table items b.items c.self.inside.actions) tail ∙ ap (λ (o : Option ℕ). matched o printed before) (sym none ∙ at))

pub invariant_of-self-then-count_down : goal.invariant_of-self-then-count_down
invariant_of-self-then-count_down c =
    let items = c.self.inside.list.items in
    let printed = last_bytes (c.self.inside.tail.items ++ c.args.byte ∷ []) in
    let tail : c.push_back.new.self ≡ buffer printed 64 =
    c.push_back.ensures.items
    ∙ ap (λ (n : ℕ). buffer (drop (length (c.self.inside.tail.items ++ c.args.byte ∷ []) - n) (c.self.inside.tail.items ++ c.args.byte ∷ [])) n) c.self.invariant.1 in
    let read : take c.copy_bytes-count.result c.copy_bytes-count.new.out ≡ printed =
    copied _ _ _ _ c.copy_bytes-count.ensures.count c.copy_bytes-count.ensures.bytes ∙ ap (λ (b : Buffer ℕ). b.items) tail in
    let at : c.first_match.result ≡ first_match printed items =
    c.first_match.ensures ∙ ap (λ (bytes : List ℕ). first_match bytes c.as_slice.result.now) read ∙ ap (first_match printed) c.as_slice.ensures.value in
    let place = c.in_ok-place.place in
    let d = expect_of 0 [] [] in
    let some : c.first_match.result ≡ Some place = search rules in
    let here : first_match printed items ≡ Some place = sym at ∙ some in
    let within : place < length items = found printed items place d here in
    let empty : c.clear.new.self ≡ buffer [] 64 = c.clear.ensures ∙ ap (λ (b : Buffer ℕ). buffer [] b.capacity) tail in
    let list : c.count_down.new.list.items ≡ slice_set items place (counted_down (slice_index_or items place d)) =
    c.count_down.ensures.list d ∙ ap (λ (v : Bool). cond v (slice_set items place (counted_down (slice_index_or items place d))) items) c.if-count_down.true in
    (omega (arith, ap length list, length-set items place (counted_down (get_or items place d)), c.self.invariant.0), ap (λ (b : Buffer ℕ). b.capacity) empty)

pub returns-then-count_down-clause-stop : goal.returns-then-count_down-clause-stop
returns-then-count_down-clause-stop c =
    let items = c.self.inside.list.items in
    let printed = last_bytes (c.self.inside.tail.items ++ c.args.byte ∷ []) in
    let tail : c.push_back.new.self ≡ buffer printed 64 =
    c.push_back.ensures.items
    ∙ ap (λ (n : ℕ). buffer (drop (length (c.self.inside.tail.items ++ c.args.byte ∷ []) - n) (c.self.inside.tail.items ++ c.args.byte ∷ [])) n) c.self.invariant.1 in
    let read : take c.copy_bytes-count.result c.copy_bytes-count.new.out ≡ printed =
    copied _ _ _ _ c.copy_bytes-count.ensures.count c.copy_bytes-count.ensures.bytes ∙ ap (λ (b : Buffer ℕ). b.items) tail in
    let at : c.first_match.result ≡ first_match printed items =
    c.first_match.ensures ∙ ap (λ (bytes : List ℕ). first_match bytes c.as_slice.result.now) read ∙ ap (first_match printed) c.as_slice.ensures.value in
    let place = c.in_ok-place.place in
    let d = expect_of 0 [] [] in
    let some : c.first_match.result ≡ Some place = search rules in
    let here : first_match printed items ≡ Some place = sym at ∙ some in
    let within : place < length items = found printed items place d here in
    let P : ExpectTable → Type 0 = λ t. None ≡ match_at c.args.byte t in
    subst P c.self.view_is
    (sym (on_stop items place d c.count_down.result within (c.count_down.ensures.above d) c.if-count_down.true) ∙ ap (λ (o : Option ℕ). stop_of o items) (sym here))

pub returns-then-count_down-clause-after : goal.returns-then-count_down-clause-after
returns-then-count_down-clause-after c =
    let items = c.self.inside.list.items in
    let printed = last_bytes (c.self.inside.tail.items ++ c.args.byte ∷ []) in
    let tail : c.push_back.new.self ≡ buffer printed 64 =
    c.push_back.ensures.items
    ∙ ap (λ (n : ℕ). buffer (drop (length (c.self.inside.tail.items ++ c.args.byte ∷ []) - n) (c.self.inside.tail.items ++ c.args.byte ∷ [])) n) c.self.invariant.1 in
    let read : take c.copy_bytes-count.result c.copy_bytes-count.new.out ≡ printed =
    copied _ _ _ _ c.copy_bytes-count.ensures.count c.copy_bytes-count.ensures.bytes ∙ ap (λ (b : Buffer ℕ). b.items) tail in
    let at : c.first_match.result ≡ first_match printed items =
    c.first_match.ensures ∙ ap (λ (bytes : List ℕ). first_match bytes c.as_slice.result.now) read ∙ ap (first_match printed) c.as_slice.ensures.value in
    let place = c.in_ok-place.place in
    let d = expect_of 0 [] [] in
    let some : c.first_match.result ≡ Some place = search rules in
    let here : first_match printed items ≡ Some place = sym at ∙ some in
    let within : place < length items = found printed items place d here in
    let empty : c.clear.new.self ≡ buffer [] 64 = c.clear.ensures ∙ ap (λ (b : Buffer ℕ). buffer [] b.capacity) tail in
    let list : c.count_down.new.list.items ≡ slice_set items place (counted_down (slice_index_or items place d)) =
    c.count_down.ensures.list d ∙ ap (λ (v : Bool). cond v (slice_set items place (counted_down (slice_index_or items place d))) items) c.if-count_down.true in
    let before = table items c.self.inside.tail.items c.self.inside.actions in
    let P : ExpectTable → Type 0 = λ t. table c.count_down.new.list.items c.clear.new.self.items c.self.inside.actions ≡ after_printed c.args.byte t in
    subst P c.self.view_is
    (ap (λ (list : List Expect). table list c.clear.new.self.items c.self.inside.actions) list
    ∙ ap (λ (b : Buffer ℕ). table (slice_set items place (counted_down (slice_index_or items place d))) b.items c.self.inside.actions) empty
    ∙ sym (on_table before printed place d c.count_down.result within (c.count_down.ensures.above d) c.if-count_down.true)
    ∙ ap (λ (o : Option ℕ). matched o printed before) (sym here))

pub take_out-self-inside-requires : goal.take_out-self-inside-requires
take_out-self-inside-requires c =
    let items = c.self.inside.list.items in
    let printed = last_bytes (c.self.inside.tail.items ++ c.args.byte ∷ []) in
    let tail : c.push_back.new.self ≡ buffer printed 64 =
    c.push_back.ensures.items
    ∙ ap (λ (n : ℕ). buffer (drop (length (c.self.inside.tail.items ++ c.args.byte ∷ []) - n) (c.self.inside.tail.items ++ c.args.byte ∷ [])) n) c.self.invariant.1 in
    let read : take c.copy_bytes-count.result c.copy_bytes-count.new.out ≡ printed =
    copied _ _ _ _ c.copy_bytes-count.ensures.count c.copy_bytes-count.ensures.bytes ∙ ap (λ (b : Buffer ℕ). b.items) tail in
    let at : c.first_match.result ≡ first_match printed items =
    c.first_match.ensures ∙ ap (λ (bytes : List ℕ). first_match bytes c.as_slice.result.now) read ∙ ap (first_match printed) c.as_slice.ensures.value in
    let place = c.in_ok-place.place in
    let d = expect_of 0 [] [] in
    let some : c.first_match.result ≡ Some place = search rules in
    let here : first_match printed items ≡ Some place = sym at ∙ some in
    let within : place < length items = found printed items place d here in
    let list : c.count_down.new.list.items ≡ items =
    c.count_down.ensures.list d ∙ ap (λ (v : Bool). cond v (slice_set items place (counted_down (slice_index_or items place d))) items) c.if-count_down.false in
    omega (arith, within, ap length list)

pub invariant_of-self-2 : goal.invariant_of-self-2
invariant_of-self-2 c =
    let items = c.self.inside.list.items in
    let printed = last_bytes (c.self.inside.tail.items ++ c.args.byte ∷ []) in
    let tail : c.push_back.new.self ≡ buffer printed 64 =
    c.push_back.ensures.items
    ∙ ap (λ (n : ℕ). buffer (drop (length (c.self.inside.tail.items ++ c.args.byte ∷ []) - n) (c.self.inside.tail.items ++ c.args.byte ∷ [])) n) c.self.invariant.1 in
    let read : take c.copy_bytes-count.result c.copy_bytes-count.new.out ≡ printed =
    copied _ _ _ _ c.copy_bytes-count.ensures.count c.copy_bytes-count.ensures.bytes ∙ ap (λ (b : Buffer ℕ). b.items) tail in
    let at : c.first_match.result ≡ first_match printed items =
    c.first_match.ensures ∙ ap (λ (bytes : List ℕ). first_match bytes c.as_slice.result.now) read ∙ ap (first_match printed) c.as_slice.ensures.value in
    let place = c.in_ok-place.place in
    let d = expect_of 0 [] [] in
    let some : c.first_match.result ≡ Some place = search rules in
    let here : first_match printed items ≡ Some place = sym at ∙ some in
    let within : place < length items = found printed items place d here in
    let empty : c.clear.new.self ≡ buffer [] 64 = c.clear.ensures ∙ ap (λ (b : Buffer ℕ). buffer [] b.capacity) tail in
    let list : c.count_down.new.list.items ≡ items =
    c.count_down.ensures.list d ∙ ap (λ (v : Bool). cond v (slice_set items place (counted_down (slice_index_or items place d))) items) c.if-count_down.false in
    let left : c.take_out-self-inside.new.list.items ≡ remove items place =
    c.take_out-self-inside.ensures.list ∙ ap (λ (list : List Expect). remove list place) list in
    (omega (arith, ap length left, length-remove items place within, c.self.invariant.0), ap (λ (b : Buffer ℕ). b.capacity) empty)

pub returns-clause-stop : goal.returns-clause-stop
returns-clause-stop c =
    let items = c.self.inside.list.items in
    let printed = last_bytes (c.self.inside.tail.items ++ c.args.byte ∷ []) in
    let tail : c.push_back.new.self ≡ buffer printed 64 =
    c.push_back.ensures.items
    ∙ ap (λ (n : ℕ). buffer (drop (length (c.self.inside.tail.items ++ c.args.byte ∷ []) - n) (c.self.inside.tail.items ++ c.args.byte ∷ [])) n) c.self.invariant.1 in
    let read : take c.copy_bytes-count.result c.copy_bytes-count.new.out ≡ printed =
    copied _ _ _ _ c.copy_bytes-count.ensures.count c.copy_bytes-count.ensures.bytes ∙ ap (λ (b : Buffer ℕ). b.items) tail in
    let at : c.first_match.result ≡ first_match printed items =
    c.first_match.ensures ∙ ap (λ (bytes : List ℕ). first_match bytes c.as_slice.result.now) read ∙ ap (first_match printed) c.as_slice.ensures.value in
    let place = c.in_ok-place.place in
    let d = expect_of 0 [] [] in
    let some : c.first_match.result ≡ Some place = search rules in
    let here : first_match printed items ≡ Some place = sym at ∙ some in
    let within : place < length items = found printed items place d here in
    let P : ExpectTable → Type 0 = λ t. Some place ≡ match_at c.args.byte t in
    subst P c.self.view_is
    (sym (at_stop items place d c.count_down.result within (c.count_down.ensures.above d) c.if-count_down.false) ∙ ap (λ (o : Option ℕ). stop_of o items) (sym here))

pub returns-clause-after : goal.returns-clause-after
returns-clause-after c =
    let items = c.self.inside.list.items in
    let printed = last_bytes (c.self.inside.tail.items ++ c.args.byte ∷ []) in
    let tail : c.push_back.new.self ≡ buffer printed 64 =
    c.push_back.ensures.items
    ∙ ap (λ (n : ℕ). buffer (drop (length (c.self.inside.tail.items ++ c.args.byte ∷ []) - n) (c.self.inside.tail.items ++ c.args.byte ∷ [])) n) c.self.invariant.1 in
    let read : take c.copy_bytes-count.result c.copy_bytes-count.new.out ≡ printed =
    copied _ _ _ _ c.copy_bytes-count.ensures.count c.copy_bytes-count.ensures.bytes ∙ ap (λ (b : Buffer ℕ). b.items) tail in
    let at : c.first_match.result ≡ first_match printed items =
    c.first_match.ensures ∙ ap (λ (bytes : List ℕ). first_match bytes c.as_slice.result.now) read ∙ ap (first_match printed) c.as_slice.ensures.value in
    let place = c.in_ok-place.place in
    let d = expect_of 0 [] [] in
    let some : c.first_match.result ≡ Some place = search rules in
    let here : first_match printed items ≡ Some place = sym at ∙ some in
    let within : place < length items = found printed items place d here in
    let empty : c.clear.new.self ≡ buffer [] 64 = c.clear.ensures ∙ ap (λ (b : Buffer ℕ). buffer [] b.capacity) tail in
    let list : c.count_down.new.list.items ≡ items =
    c.count_down.ensures.list d ∙ ap (λ (v : Bool). cond v (slice_set items place (counted_down (slice_index_or items place d))) items) c.if-count_down.false in
    let left : c.take_out-self-inside.new.list.items ≡ remove items place =
    c.take_out-self-inside.ensures.list ∙ ap (λ (list : List Expect). remove list place) list in
    let actions : c.take_out-self-inside.result ≡ (slice_index_or items place d).actions =
    c.take_out-self-inside.ensures.actions d ∙ ap (λ (list : List Expect). (slice_index_or list place d).actions) list in
    let before = table items c.self.inside.tail.items c.self.inside.actions in
    let P : ExpectTable → Type 0 = λ t. table c.take_out-self-inside.new.list.items c.clear.new.self.items c.take_out-self-inside.result ≡ after_printed c.args.byte t in
    subst P c.self.view_is
    (ap (λ (list : List Expect). table list c.clear.new.self.items c.take_out-self-inside.result) left
    ∙ ap (λ (b : Buffer ℕ). table (remove items place) b.items c.take_out-self-inside.result) empty
    ∙ ap (λ (actions : List ℕ). table (remove items place) [] actions) actions
    ∙ sym (at_table before printed place d c.count_down.result within (c.count_down.ensures.above d) c.if-count_down.false)
    ∙ ap (λ (o : Option ℕ). matched o printed before) (sym here))
