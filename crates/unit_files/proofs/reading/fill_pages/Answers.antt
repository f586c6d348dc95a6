use Rattle.std.proofs.Common.{◌≡◌, ◌-◌, ℕ, List, length, min, take, drop, rules, subst, ◌∙◌}
use Rattle.file_traits.specs.Lists.{bytes_of}
use Rattle.file_traits.specs.State.{content, name_at}
use Rattle.whole_files.proofs.Counts.{all-same}
use Rattle.whole_files.proofs.Filled.{filled-more, more-within}
use Rattle.unit_files.proofs.reading.fill_pages.Goals as goal

pub loop-done-preserved : goal.loop-done-preserved
loop-done-preserved g c =
    let old = g.F.Files.state c.args.files.now in
    let mid = g.F.Files.state c.loop-done.files in
    let new = g.F.Files.state c.read_at.new.self in
    let before = c.loop-done.invariant in
    let call = c.in_ok-count.ensures in
    let same : content mid c.args.file.0 ≡ content old c.args.file.0 =
    λ i. bytes_of (before.files i) (name_at (before.«opened» i) c.args.file.0) in
    record {
      within = search rules;
      room = search rules;
      read = λ told.
          more-within c.loop-done.done c.in_ok-count.count (length c.read_at.new.buf)
          (length (content old c.args.file.0)) (before.read told)
          (subst (λ (b : List ℕ). c.in_ok-count.count
          ≡ min (length c.read_at.new.buf) (length b - c.loop-done.done)) same
          (call.reads told).0);
      bytes = λ told.
          filled-more c.loop-done.buf c.read_at.new.buf (content old c.args.file.0) c.loop-done.done
          (c.min-end.result - c.loop-done.done) c.in_ok-count.count before.within call.bound (before.bytes told)
          (subst (λ (b : List ℕ). take c.in_ok-count.count c.read_at.new.buf
          ≡ take c.in_ok-count.count (drop c.loop-done.done b)) same (call.reads told).1);
      files = call.files ∙ before.files;
      opened = call.«opened» ∙ before.«opened»;
      counts = λ file.
          all-same c.args.file.0 new.faults mid.faults call.counted.counts call.counted.others file
          ∙ before.counts file;
      openings = call.counted.openings ∙ before.openings;
      ids = call.counted.ids ∙ before.ids;
    }
