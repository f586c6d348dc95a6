-- What is saved of what a run watches, and the watch tables that a saved session has.
use Rattle.std.specs.Prelude.{[], map}
use Rattle.expect_actions.specs.declared.breaks.Break.{Break}
use Rattle.expect_actions.specs.declared.expects.Expect.{Expect}
use Rattle.expect_actions.specs.Sends.{Send}
use Rattle.expect_actions.specs.Watch.{WatchState}
use Rattle.saved_session.specs.declared.saved.SavedSend.{SavedSend}
use Rattle.saved_session.specs.Parts.{BreakPart, ExpectPart, WatchPart}

-- ---- what is saved

abbrev pub saved_break : Break → BreakPart
saved_break b = record { address = b.address; count = b.count; actions = b.actions }

abbrev pub saved_expect : Expect → ExpectPart
saved_expect e = record { count = e.count; text = e.text; actions = e.actions }

abbrev pub saved_send : Send → SavedSend
saved_send send = record { time = send.0; byte = send.1 }

-- the actions of the stop that came last are not saved
unfoldable pub saved_watch : WatchState → WatchPart
saved_watch w = record {
  breaks = map saved_break w.breaks.list;
  expects = map saved_expect w.expects.list;
  tail = w.expects.tail;
  sends = map saved_send w.sends;
}

-- ---- what is put back

abbrev pub break_from : BreakPart → Break
break_from b = record { address = b.address; count = b.count; actions = b.actions }

abbrev pub expect_from : ExpectPart → Expect
expect_from e = record { count = e.count; text = e.text; actions = e.actions }

abbrev pub send_from : SavedSend → Send
send_from s = (s.time, s.byte)

-- the tables, with no actions of a stop
unfoldable pub watch_from : WatchPart → WatchState
watch_from w = record {
  breaks = record { list = map break_from w.breaks; actions = [] };
  expects = record { list = map expect_from w.expects; tail = w.tail; actions = [] };
  sends = map send_from w.sends;
}
