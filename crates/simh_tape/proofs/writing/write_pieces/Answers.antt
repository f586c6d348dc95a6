use Rattle.std.specs.Borrow.{Bor}
use Rattle.std.proofs.Common.{◌+◌, ◌≤◌, ◌∙◌, List, [], ℕ, length, drop, get_or, ap, arith}
use Rattle.file_traits.specs.Streams.{joined}
use Rattle.simh_tape.proofs.WriteLemmas.{next_piece, piece_fits, part_more, left_more, all_done, whole}
use Rattle.simh_tape.proofs.writing.write_pieces.Goals as goal

none : Bor (List ℕ)
none = record { ref_ptr = (0, 0); now = [] }

pub write_piece-requires-clause-end : goal.write_piece-requires-clause-end
unfolding none
write_piece-requires-clause-end g c =
    let l = c.loop-piece in
    let pieces = c.args.pieces.now in
    let piece = (get_or pieces l.piece-index none).now in
    let item = joined pieces in
    let left = next_piece pieces l.piece-index none (drop l.done item) c.loop-piece-test.true l.invariant.left in
    let fits : l.done + length piece ≤ length item = piece_fits item piece _ l.done l.invariant.within left in
    omega (arith, fits, c.requires.end)

pub returns-in-Err-clause-written : goal.returns-in-Err-clause-written
unfolding none
returns-in-Err-clause-written g c = λ tells.
    let l = c.loop-piece in
    let pieces = c.args.pieces.now in
    let piece = (get_or pieces l.piece-index none).now in
    let item = joined pieces in
    let left = next_piece pieces l.piece-index none (drop l.done item) c.loop-piece-test.true l.invariant.left in
    part_more _ item piece _ _ _ l.done c.in-Err.fault.done c.in-Err.ensures.bound left (l.invariant.written tells)
    (c.in-Err.ensures.content tells)

pub returns-in-Err-clause-done : goal.returns-in-Err-clause-done
unfolding none
returns-in-Err-clause-done g c =
    let l = c.loop-piece in
    let pieces = c.args.pieces.now in
    let piece = (get_or pieces l.piece-index none).now in
    let item = joined pieces in
    let left = next_piece pieces l.piece-index none (drop l.done item) c.loop-piece-test.true l.invariant.left in
    let fits : l.done + length piece ≤ length item = piece_fits item piece _ l.done l.invariant.within left in
    omega (arith, fits, c.in-Err.ensures.bound)

pub loop-piece-preserved : goal.loop-piece-preserved
unfolding none
loop-piece-preserved g c =
    let l = c.loop-piece in
    let says = c.in-Ok.ensures in
    let pieces = c.args.pieces.now in
    let piece = (get_or pieces l.piece-index none).now in
    let item = joined pieces in
    let left = next_piece pieces l.piece-index none (drop l.done item) c.loop-piece-test.true l.invariant.left in
    record {
      left = left_more item piece _ l.done left;
      within = piece_fits item piece _ l.done l.invariant.within left;
      written = λ tells.
          part_more _ item piece _ _ _ l.done (length piece) (omega arith) left (l.invariant.written tells)
          (says.content tells);
      writable = says.writable ∙ l.invariant.writable;
      behind = says.behind ∙ l.invariant.behind;
      quiet = says.counts ∙ l.invariant.quiet;
    }

pub returns-clause-written : goal.returns-clause-written
returns-clause-written g c = λ tells.
    let l = c.loop-piece in
    whole _ _ _ l.done (all_done c.args.pieces.now l.piece-index l.done c.loop-piece-test.false l.invariant.within l.invariant.left)
    (l.invariant.written tells)

pub returns-clause-place : goal.returns-clause-place
returns-clause-place g c =
    let l = c.loop-piece in
    ap (λ (n : ℕ). c.args.place + n)
    (all_done c.args.pieces.now l.piece-index l.done c.loop-piece-test.false l.invariant.within l.invariant.left)
