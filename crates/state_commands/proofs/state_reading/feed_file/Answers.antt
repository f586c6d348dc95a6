use Rattle.std.proofs.Common.{◌≡◌, ◌++◌, List, ℕ, take, drop, arith, ap, subst, ◌∙◌}
use Rattle.std.proofs.lemmas.List.{length-append, length-take, length-drop}
use Rattle.file_traits.specs.State.{content}
use Rattle.whole_files.proofs.Counts.{all-same}
use Rattle.state_text.specs.Pieces.{IsFed}
use Rattle.file_digests.proofs.Pieces.{next-piece, same-content}
use Rattle.state_commands.proofs.state_reading.feed_file.Goals as goal

pub loop-place-preserved : goal.loop-place-preserved
loop-place-preserved g c =
    let r = c.in-Ok.ensures in
    let inv = c.loop-place.invariant in
    let old = g.F.Files.state c.args.files.now in
    let mid = g.F.Files.state c.loop-place.files in
    let new = g.F.Files.state c.read_at.new.self in
    let bytes = content old c.args.file.0 in
    let same : content mid c.args.file.0 ≡ bytes = same-content mid old c.args.file.0 inv.files inv.«opened» in
    let want = c.min-want.ensures in
    let size = c.read_at.auto.buf in
    let bound = r.bound in
    let whole = inv.piece in
    let taken = length-take c.min-want.result c.loop-place.piece in
    let test = c.loop-place-test.true in
    let within = inv.within in
    let rest = drop c.min-want.result c.loop-place.piece in
    let piece = take c.in-Ok.count (c.read_at.new.buf ++ rest) in
    record {
      within = omega (arith, want, size, bound, whole, taken, test);
      was = (inv.was.0 ++ piece, c.in-Ok-feed.ensures.fed inv.was.0 inv.was.1);
      fed = λ t.
          let known = c.requires.known t in
          let read = (r.reads t).1 ∙ ap (λ (l : List ℕ). take c.in-Ok.count (drop c.loop-place.place l)) same in
          subst (λ (l : List ℕ). IsFed c.feed.new.self l)
          (next-piece bytes c.loop-place.place c.in-Ok.count c.read_at.new.buf rest (omega (arith, within, known)) bound read)
          (c.in-Ok-feed.ensures.fed (take c.loop-place.place bytes) (inv.fed t));
      piece = omega (arith, size, want, whole, taken, length-append c.read_at.new.buf rest, length-drop c.min-want.result c.loop-place.piece);
      files = r.files ∙ inv.files;
      opened = r.«opened» ∙ inv.«opened»;
      counts = λ file. all-same c.args.file.0 new.faults mid.faults r.counted.counts r.counted.others file ∙ inv.counts file;
      openings = r.counted.openings ∙ inv.openings;
      ids = r.counted.ids ∙ inv.ids;
    }
