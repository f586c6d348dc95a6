-- Tables whose entries were written down, and are added again one by one.
use Rattle.std.specs.Prelude.{◌≡◌, List, [], ◌∷◌, ◌++◌}
use Rattle.expect_actions.specs.declared.breaks.Break.{Break}
use Rattle.expect_actions.specs.declared.expects.Expect.{Expect}
use Rattle.expect_actions.specs.Breaks.{with_break, Rising}
use Rattle.expect_actions.specs.Expects.{ExpectTable, with_expect}
use Rattle.expect_actions.specs.Sends.{Send, queued, InTime}

abbrev pub with_breaks : List Break → List Break → List Break
with_breaks list [] = list
with_breaks list (b ∷ others) = with_breaks (with_break b list) others

abbrev pub with_expects : ExpectTable → List Expect → ExpectTable
with_expects t [] = t
with_expects t (e ∷ others) = with_expects (with_expect e t) others

-- each byte is queued at its own time, with no more delay
abbrev pub with_sends : List Send → List Send → List Send
with_sends sends [] = sends
with_sends sends (send ∷ others) = with_sends (queued send.0 0 0 (send.1 ∷ []) sends) others

-- A table that was empty has the entries that were added in their order: breaks by rising address, expects as they come, and
-- bytes whose times do not fall.
pub record TablesAreFilled : Type 0 where
  pub breaks : (list : List Break) → Rising list → with_breaks [] list ≡ list
  pub expects : (t : ExpectTable) (list : List Expect) → with_expects t list ≡ record t { list = t.list ++ list }
  pub sends : (sends : List Send) → InTime sends → with_sends [] sends ≡ sends
