use Rattle.std.proofs.Common.{◌*◌, List, length, drop, refl, ap, sym, ◌∙◌, rules, arith}
use Rattle.std.proofs.lemmas.List.{length-take}
use Rattle.file_traits.specs.Lists.{changed}
use Rattle.file_traits.specs.State.{Opened, name_at}
use Rattle.unit_files.specs.Aside.{aside_length}
use Rattle.unit_files.specs.Pages.{page_bytes}
use Rattle.unit_files.specs.InStep.{written_pages}
use Rattle.unit_files.specs.Acts.{piece_of}
use Rattle.unit_files.proofs.WrittenPages.{unchanged, page-written, page-failed, end-within, all-written, claimed}
use Rattle.unit_files.proofs.flushing.write_pages.Goals as goal

pub loop-page-init : goal.loop-page-init
loop-page-init g c =
    let old = g.F.Files.state c.args.files.now in
    record {
      files = unchanged old.files (name_at old.opened c.args.file.0);
      opened = search rules;
      quiet = search rules;
    }

pub overflow_mul-place : goal.overflow_mul-place
unfolding aside_length
overflow_mul-place g c = let all = c.requires.pages in let low = c.loop-page-test.true in omega (arith, all, low)

pub write_page-requires-clause-within : goal.write_page-requires-clause-within
unfolding aside_length page_bytes
write_page-requires-clause-within g c =
    let all = c.requires.pages in
    let low = c.loop-page-test.true in
    let long = ap length c.page_at-piece.ensures ∙ length-take 4096 (drop (c.loop-page.page * 4096) c.args.bytes.now) in
    omega (arith, all, low, long)

pub loop-page-preserved : goal.loop-page-preserved
unfolding page_bytes
loop-page-preserved g c =
    let inv = c.loop-page.invariant in
    let old = g.F.Files.state c.args.files.now in
    let mid = g.F.Files.state c.loop-page.files in
    let new = g.F.Files.state c.write_page.new.files in
    let marks = c.args.marks.now in
    let page = c.loop-page.page in
    let piece = c.page_at-piece.result.now in
    let low = c.loop-page-test.true in
    let name = name_at old.opened c.args.file.0 in
    let same = ap (λ (o : List Opened). name_at o c.args.file.0) inv.«opened» in
    record {
      files = page-written marks c.args.bytes.now page low old.files mid.files new.files
          name (name_at mid.opened c.args.file.0) piece (page * 4096) same refl c.page_at-piece.ensures inv.files
          c.in-Ok.ensures.files;
      opened = c.in-Ok.ensures.«opened» ∙ inv.«opened»;
      quiet = record {
        counts = c.in-Ok.ensures.cause.counts ∙ inv.quiet.counts;
        openings = c.in-Ok.ensures.cause.openings ∙ inv.quiet.openings;
        ids = c.in-Ok.ensures.cause.ids ∙ inv.quiet.ids;
      };
    }

pub returns-in-Err-clause-files : goal.returns-in-Err-clause-files
unfolding page_bytes
returns-in-Err-clause-files g c =
    let inv = c.loop-page.invariant in
    let old = g.F.Files.state c.args.files.now in
    let mid = g.F.Files.state c.loop-page.files in
    let new = g.F.Files.state c.write_page.new.files in
    let marks = c.args.marks.now in
    let page = c.loop-page.page in
    let piece = c.page_at-piece.result.now in
    let low = c.loop-page-test.true in
    let name = name_at old.opened c.args.file.0 in
    let same = ap (λ (o : List Opened). name_at o c.args.file.0) inv.«opened» in
    let f = c.in-Err.fault in
    let done = c.in-Err.ensures.done in
    page-failed marks c.args.bytes.now page low old.files mid.files new.files
    name (name_at mid.opened c.args.file.0) piece (page * 4096) same refl c.page_at-piece.ensures inv.files
    f.done done.0 done.2 done.3 c.in-Err.ensures.files
    ∙ (λ i. changed old.files name (written_pages marks 0 (piece_of (sym (claimed f c.in-Err.ensures.cause.0) i) c.args.bytes.now)))

pub returns-in-Err-clause-part : goal.returns-in-Err-clause-part
unfolding page_bytes
returns-in-Err-clause-part g c =
    let inv = c.loop-page.invariant in
    let old = g.F.Files.state c.args.files.now in
    let mid = g.F.Files.state c.loop-page.files in
    let new = g.F.Files.state c.write_page.new.files in
    let page = c.loop-page.page in
    let low = c.loop-page-test.true in
    let same = ap (λ (o : List Opened). name_at o c.args.file.0) inv.«opened» in
    let done = c.in-Err.ensures.done in
    end-within c.args.marks.now c.args.bytes.now page low old.files mid.files new.files
    (name_at old.opened c.args.file.0) (name_at mid.opened c.args.file.0) c.page_at-piece.result.now (page * 4096) same refl
    c.page_at-piece.ensures inv.files c.in-Err.fault.done done.1 done.3

pub returns-clause-files : goal.returns-clause-files
returns-clause-files g c =
    let inv = c.loop-page.invariant in
    let old = g.F.Files.state c.args.files.now in
    let new = g.F.Files.state c.loop-page.files in
    let end = c.loop-page-test.false in
    all-written c.args.marks.now c.args.bytes.now c.loop-page.page old.files new.files (name_at old.opened c.args.file.0)
    (omega (arith, end)) inv.files
