-- What follows an operand is no longer than the text before it.
use Rattle.std.proofs.Common.{ℕ, ◌≤◌, Option, Some, None, List, length, arith, length-drop}
use Rattle.std.specs.List.{position_or_len}
use Rattle.line_text.specs.Words.{is_blank, past_blanks, word_at}
use Rattle.scp_parser.specs.Reading.{next_word, maybe_found, maybe}
use Rattle.line_text.proofs.BlankLemmas.{past_shorter}

pub next_within : (text : List ℕ) → length (next_word text).1 ≤ length text
unfolding next_word word_at
next_within text = omega (arith, past_shorter text, length-drop (position_or_len is_blank (past_blanks text)) (past_blanks text))

found_within : {V : Type 0} (o : Option V) (text rest : List ℕ) → length rest ≤ length text → length (maybe_found o text rest).1 ≤ length text
found_within None text rest within = omega arith
found_within (Some v) text rest within = within

pub maybe_within : {V : Type 0} (form : List ℕ → Option V) (text : List ℕ) → length (maybe form text).1 ≤ length text
maybe_within form text = found_within (form (next_word text).0) text (next_word text).1 (next_within text)
