use Rattle.std.proofs.Common.{List, Option, refl, subst, sym, ap, ◌∙◌}
use Rattle.file_traits.specs.State.{Opened, without}
use Rattle.unit_files.specs.Attachments.{Held, file_place}
use Rattle.unit_files.specs.Open.{AllOpen, Around}
use Rattle.unit_files.specs.View.{HoldsFile}
use Rattle.unit_files.specs.Causes.{OnlyKept}
use Rattle.unit_files.proofs.Opened.{file-of}
use Rattle.unit_files.proofs.Attaching.{open-detached, around-detached, kept-same, kept-without}
use Rattle.unit_files.proofs.attached.Attached.release.Goals as goal

pub close_one-requires : goal.close_one-requires
close_one-requires g c =
    let holds : HoldsFile c.args.self.now.slots c.args.unit c.in-Some.file = c.in-Some.ensures.holds in
    (file-of _ _ _ (g.F.Files.state c.args.files.now).opened c.requires.«open» holds).is_open

pub returns-in-Some-clause-open : goal.returns-in-Some-clause-open
returns-in-Some-clause-open g c =
    let holds : HoldsFile c.args.self.now.slots c.args.unit c.in-Some.file = c.in-Some.ensures.holds in
    let old = g.F.Files.state c.args.files.now in
    let all = open-detached c.args.self.now.slots old.opened (file_place c.args.unit) holds.held holds.there
    c.in-Some.ensures.own c.requires.«open» in
    let closed = ap (λ n. without old.opened n) holds.number ∙ sym c.close_one.ensures.closed in
    subst (λ (x : List (Option Held) × List Opened). AllOpen x.0 x.1) (λ i. (sym c.take.ensures.held i, closed i)) all

pub returns-in-Some-clause-around : goal.returns-in-Some-clause-around
returns-in-Some-clause-around g c = λ base around.
    let holds : HoldsFile c.args.self.now.slots c.args.unit c.in-Some.file = c.in-Some.ensures.holds in
    let old = g.F.Files.state c.args.files.now in
    let less = around-detached c.args.self.now.slots base old.opened (file_place c.args.unit) holds.held holds.there around in
    let closed = ap (λ n. without old.opened n) holds.number ∙ sym c.close_one.ensures.closed in
    subst (λ (x : List (Option Held)
    × List Opened). Around x.0 base x.1) (λ i. (sym c.take.ensures.held i, closed i)) less

pub returns-in-None-clause-kept : goal.returns-in-None-clause-kept
returns-in-None-clause-kept g c = kept-same c.args.self.now.slots c.args.self.now.slots refl

pub returns-in-Some-clause-kept : goal.returns-in-Some-clause-kept
returns-in-Some-clause-kept g c =
    subst (λ (l : List (Option Held)). OnlyKept c.args.self.now.slots l) (sym c.take.ensures.held) (kept-without c.args.self.now.slots c.args.unit)
