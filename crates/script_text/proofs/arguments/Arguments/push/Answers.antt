use Rattle.std.proofs.Common.{rules, ◌≡◌, ◌<◌, ◌+◌, ◌∙◌, ℕ, List, length, take, arith}
use Rattle.std.proofs.lemmas.List.{length-set}
use Rattle.script_text.specs.Storage.{texts_between, IsStored}
use Rattle.script_text.proofs.StorageLemmas.{held, pushed_rise, pushed_texts}
use Rattle.script_text.proofs.arguments.Arguments.push.Goals as goal

-- there is room for one more place
room_left : (bytes places : List ℕ) (count : ℕ) (value : List (List ℕ)) → IsStored bytes places count →
    texts_between bytes (take (count + 1) places) ≡ value → length value < 10 → count + 1 < length places
room_left bytes places count value stored view few =
    omega (arith, stored.room, held bytes places count value (omega (arith, stored.room, stored.most)) view)

pub invariant_of-self-2 : goal.invariant_of-self-2
invariant_of-self-2 c =
    let fields = c.self.inside in
    let stored = c.self.invariant in
    let room = room_left fields.bytes.items fields.places fields.count c.args.self.now stored c.self.view_is
    c.requires in
    record {
      room = length-set fields.places (fields.count + 1) c.len.result ∙ stored.room;
      most = omega (arith, room, stored.room);
      rise = pushed_rise fields.bytes.items c.args.text.now c.extend_from_slice.new.self.items fields.places
          fields.count c.len.result stored.rise room c.in_ok-extend_from_slice.ensures.items (search rules);
    }

pub returns-clause-ok : goal.returns-clause-ok
returns-clause-ok c =
    let fields = c.self.inside in
    let stored = c.self.invariant in
    let room = room_left fields.bytes.items fields.places fields.count c.args.self.now stored c.self.view_is
    c.requires in
    pushed_texts fields.bytes.items c.args.text.now c.extend_from_slice.new.self.items fields.places fields.count
    c.len.result c.args.self.now stored.rise room c.in_ok-extend_from_slice.ensures.items (search rules) c.self.view_is
