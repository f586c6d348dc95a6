use Rattle.std.proofs.Common.{◌≡◌, drop, get_or, arith}
use Rattle.std.specs.Char.{to_ascii_uppercase}
use Rattle.std.specs.Str.{bytes_eq, str_to_ascii_uppercase}
use Rattle.line_text.proofs.SpellingLemmas.{same_name-drop, letter_differs, letter_agrees}
use Rattle.line_text.proofs.words.is_spelled.Goals as goal

pub returns-then-letter-to_ascii_uppercase : goal.returns-then-letter-to_ascii_uppercase
returns-then-letter-to_ascii_uppercase c =
    let name = c.args.name.now in
    let word = c.args.word.now in
    let i = c.loop-i.i in
    let step = same_name-drop name word i c.loop-i-test.true (omega arith) in
    let apart = c.if-letter-to_ascii_uppercase.true in
    let whole : bytes_eq (drop i name) (drop i (str_to_ascii_uppercase word)) ≡ bytes_eq c.args.name.now (str_to_ascii_uppercase word) = cc (c.loop-i.invariant.rest) in
    letter_differs (get_or name i 0) (to_ascii_uppercase (get_or word i 0)) _ _ _ (λ e. apart (cc (e, c.to_ascii_uppercase.ensures.value))) step whole

pub loop-i-preserved : goal.loop-i-preserved
loop-i-preserved c =
    let name = c.args.name.now in
    let word = c.args.word.now in
    let i = c.loop-i.i in
    let step = same_name-drop name word i c.loop-i-test.true (omega arith) in
    let same : get_or name i 0 ≡ to_ascii_uppercase (get_or word i 0) = cc (c.if-letter-to_ascii_uppercase.false, c.to_ascii_uppercase.ensures.value) in
    record {
      rest = letter_agrees (get_or name i 0) (to_ascii_uppercase (get_or word i 0)) _ _ _ same step c.loop-i.invariant.rest;
      long = c.loop-i.invariant.long;
    }
