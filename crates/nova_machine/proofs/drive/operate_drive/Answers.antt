use Rattle.std.proofs.Common.{◌≡◌, Result, Ok, Err, refl, ap, sym, ◌∙◌, subst}
use Rattle.unit_files.specs.Attachments.{attachments_of, attachment_at}
use Rattle.unit_files.proofs.Opened.{file-of}
use Rattle.unit_trait.specs.declared.calls.Got.{Got}
use Rattle.memory_transfer.specs.declared.tape.TapeStop.{TapeStop}
use Rattle.memory_transfer.specs.declared.tape.TapeStop.TheVariants.{Image, Call}
use Rattle.nova_machine.proofs.Operating.{Done, may-write, on-file}
use Rattle.nova_machine.proofs.ServiceCauses.{tape-made}
use Rattle.nova_machine.proofs.Steps.{done-tape, stopped-tape}
use Rattle.nova_machine.proofs.drive.operate_drive.Goals as goal

pub operate_file-requires-clause-open : goal.operate_file-requires-clause-open
operate_file-requires-clause-open g c =
    (file-of _ _ _ (g.F.Files.state c.args.files.now).opened c.requires.«open» c.in-Some.ensures.holds).is_open

pub operate_file-requires-clause-writable : goal.operate_file-requires-clause-writable
operate_file-requires-clause-writable g c = λ writes.
    (file-of _ _ _ (g.F.Files.state c.args.files.now).opened c.requires.«open» c.in-Some.ensures.holds).writable
    (may-write c.args.order _ c.args.unit writes (sym c.is_refused.ensures ∙ c.if-is_refused.false))

pub returns-in-Ok-clause-memory : goal.returns-in-Ok-clause-memory
returns-in-Ok-clause-memory g c = λ told.
    let e = c.in-Ok.ensures in
    (on-file (Ok c.in-Ok.got) g.F.Files.tells c.args.attached.now.slots c.args.unit c.in-Some.field-0 (g.F.Files.state c.args.files.now).opened c.args.order
    (g.F.Files.state c.args.files.now).files (g.F.Files.state c.operate_file.new.files).files c.args.memory.now c.operate_file.new.memory
    c.requires.«open» c.in-Some.ensures.holds (sym c.is_refused.ensures ∙ c.if-is_refused.false) e.said e.memory e.files told).memory_is

pub returns-in-Ok-clause-said : goal.returns-in-Ok-clause-said
returns-in-Ok-clause-said g c = λ told key expects.
    let e = c.in-Ok.ensures in (
      sym (on-file (Ok c.in-Ok.got) g.F.Files.tells c.args.attached.now.slots c.args.unit c.in-Some.field-0 (g.F.Files.state c.args.files.now).opened c.args.order
          (g.F.Files.state c.args.files.now).files (g.F.Files.state c.operate_file.new.files).files c.args.memory.now c.operate_file.new.memory
          c.requires.«open» c.in-Some.ensures.holds (sym c.is_refused.ensures ∙ c.if-is_refused.false) e.said e.memory e.files told).said,
      refl,
    )

pub returns-in-Ok-clause-files : goal.returns-in-Ok-clause-files
returns-in-Ok-clause-files g c = λ told.
    let e = c.in-Ok.ensures in
    (on-file (Ok c.in-Ok.got) g.F.Files.tells c.args.attached.now.slots c.args.unit c.in-Some.field-0 (g.F.Files.state c.args.files.now).opened c.args.order
    (g.F.Files.state c.args.files.now).files (g.F.Files.state c.operate_file.new.files).files c.args.memory.now c.operate_file.new.memory
    c.requires.«open» c.in-Some.ensures.holds (sym c.is_refused.ensures ∙ c.if-is_refused.false) e.said e.memory e.files told).files_are

pub returns-in-Err-Image-clause-memory : goal.returns-in-Err-Image-clause-memory
returns-in-Err-Image-clause-memory g c = λ told.
    let e = c.operate_file.ensures in
    let is : c.operate_file.result ≡ Err (Image c.in-Err-Image.place) = c.in-Err-Image.is ∙ ap (λ (stop : TapeStop). Err stop) c.in-Err-Image.field-0-is in
    (subst (λ (r : Result Got TapeStop). Done r (attachment_at (attachments_of c.args.attached.now.slots) c.args.unit) (g.F.Files.state c.args.files.now).files (g.F.Files.state c.operate_file.new.files).files c.args.order c.args.memory.now c.operate_file.new.memory) is
    (on-file c.operate_file.result g.F.Files.tells c.args.attached.now.slots c.args.unit c.in-Some.field-0 (g.F.Files.state c.args.files.now).opened c.args.order
    (g.F.Files.state c.args.files.now).files (g.F.Files.state c.operate_file.new.files).files c.args.memory.now c.operate_file.new.memory
    c.requires.«open» c.in-Some.ensures.holds (sym c.is_refused.ensures ∙ c.if-is_refused.false) e.said e.memory e.files told)).memory_is

pub returns-in-Err-Image-clause-said : goal.returns-in-Err-Image-clause-said
returns-in-Err-Image-clause-said g c = λ told key expects.
    let e = c.operate_file.ensures in
    let is : c.operate_file.result ≡ Err (Image c.in-Err-Image.place) = c.in-Err-Image.is ∙ ap (λ (stop : TapeStop). Err stop) c.in-Err-Image.field-0-is in
    sym (subst (λ (r : Result Got TapeStop). Done r (attachment_at (attachments_of c.args.attached.now.slots) c.args.unit) (g.F.Files.state c.args.files.now).files (g.F.Files.state c.operate_file.new.files).files c.args.order c.args.memory.now c.operate_file.new.memory) is
    (on-file c.operate_file.result g.F.Files.tells c.args.attached.now.slots c.args.unit c.in-Some.field-0 (g.F.Files.state c.args.files.now).opened c.args.order
    (g.F.Files.state c.args.files.now).files (g.F.Files.state c.operate_file.new.files).files c.args.memory.now c.operate_file.new.memory
    c.requires.«open» c.in-Some.ensures.holds (sym c.is_refused.ensures ∙ c.if-is_refused.false) e.said e.memory e.files told)).said

pub returns-in-Err-Image-clause-files : goal.returns-in-Err-Image-clause-files
returns-in-Err-Image-clause-files g c = λ told.
    let e = c.operate_file.ensures in
    let is : c.operate_file.result ≡ Err (Image c.in-Err-Image.place) = c.in-Err-Image.is ∙ ap (λ (stop : TapeStop). Err stop) c.in-Err-Image.field-0-is in
    (subst (λ (r : Result Got TapeStop). Done r (attachment_at (attachments_of c.args.attached.now.slots) c.args.unit) (g.F.Files.state c.args.files.now).files (g.F.Files.state c.operate_file.new.files).files c.args.order c.args.memory.now c.operate_file.new.memory) is
    (on-file c.operate_file.result g.F.Files.tells c.args.attached.now.slots c.args.unit c.in-Some.field-0 (g.F.Files.state c.args.files.now).opened c.args.order
    (g.F.Files.state c.args.files.now).files (g.F.Files.state c.operate_file.new.files).files c.args.memory.now c.operate_file.new.memory
    c.requires.«open» c.in-Some.ensures.holds (sym c.is_refused.ensures ∙ c.if-is_refused.false) e.said e.memory e.files told)).files_are

pub returns-in-Err-Call-clause-files : goal.returns-in-Err-Call-clause-files
returns-in-Err-Call-clause-files g c = λ told.
    let e = c.operate_file.ensures in
    let is : c.operate_file.result ≡ Err (Call c.in-Err-Call.fault) = c.in-Err-Call.is ∙ ap (λ (stop : TapeStop). Err stop) c.in-Err-Call.field-0-is in
    (subst (λ (r : Result Got TapeStop). Done r (attachment_at (attachments_of c.args.attached.now.slots) c.args.unit) (g.F.Files.state c.args.files.now).files (g.F.Files.state c.operate_file.new.files).files c.args.order c.args.memory.now c.operate_file.new.memory) is
    (on-file c.operate_file.result g.F.Files.tells c.args.attached.now.slots c.args.unit c.in-Some.field-0 (g.F.Files.state c.args.files.now).opened c.args.order
    (g.F.Files.state c.args.files.now).files (g.F.Files.state c.operate_file.new.files).files c.args.memory.now c.operate_file.new.memory
    c.requires.«open» c.in-Some.ensures.holds (sym c.is_refused.ensures ∙ c.if-is_refused.false) e.said e.memory e.files told)).files_are

pub returns-in-Err-Call-clause-memory : goal.returns-in-Err-Call-clause-memory
returns-in-Err-Call-clause-memory g c = λ told.
    let e = c.operate_file.ensures in
    let is : c.operate_file.result ≡ Err (Call c.in-Err-Call.fault) = c.in-Err-Call.is ∙ ap (λ (stop : TapeStop). Err stop) c.in-Err-Call.field-0-is in
    (subst (λ (r : Result Got TapeStop). Done r (attachment_at (attachments_of c.args.attached.now.slots) c.args.unit) (g.F.Files.state c.args.files.now).files (g.F.Files.state c.operate_file.new.files).files c.args.order c.args.memory.now c.operate_file.new.memory) is
    (on-file c.operate_file.result g.F.Files.tells c.args.attached.now.slots c.args.unit c.in-Some.field-0 (g.F.Files.state c.args.files.now).opened c.args.order
    (g.F.Files.state c.args.files.now).files (g.F.Files.state c.operate_file.new.files).files c.args.memory.now c.operate_file.new.memory
    c.requires.«open» c.in-Some.ensures.holds (sym c.is_refused.ensures ∙ c.if-is_refused.false) e.said e.memory e.files told)).memory_is

pub returns-in-Err-Call-clause-said : goal.returns-in-Err-Call-clause-said
returns-in-Err-Call-clause-said g c = λ told key expects.
    let e = c.operate_file.ensures in
    let is : c.operate_file.result ≡ Err (Call c.in-Err-Call.fault) = c.in-Err-Call.is ∙ ap (λ (stop : TapeStop). Err stop) c.in-Err-Call.field-0-is in
    sym (subst (λ (r : Result Got TapeStop). Done r (attachment_at (attachments_of c.args.attached.now.slots) c.args.unit) (g.F.Files.state c.args.files.now).files (g.F.Files.state c.operate_file.new.files).files c.args.order c.args.memory.now c.operate_file.new.memory) is
    (on-file c.operate_file.result g.F.Files.tells c.args.attached.now.slots c.args.unit c.in-Some.field-0 (g.F.Files.state c.args.files.now).opened c.args.order
    (g.F.Files.state c.args.files.now).files (g.F.Files.state c.operate_file.new.files).files c.args.memory.now c.operate_file.new.memory
    c.requires.«open» c.in-Some.ensures.holds (sym c.is_refused.ensures ∙ c.if-is_refused.false) e.said e.memory e.files told)).said

pub returns-in-Ok-clause-made : goal.returns-in-Ok-clause-made
returns-in-Ok-clause-made g c = λ key expects.
    let holds = c.in-Some.ensures.holds in
    (tape-made c.in-Ok.got (attachment_at (attachments_of c.args.attached.now.slots) c.args.unit) (holds.held.attachment, holds.attachment) c.in-Ok.ensures.moved, refl)

pub returns-in-Ok-clause-answer : goal.returns-in-Ok-clause-answer
returns-in-Ok-clause-answer g c =
    done-tape c.args.order c.args.attached.now.slots c.args.unit c.in-Some.field-0 c.in-Ok.got c.in-Some.ensures.holds (sym c.is_refused.ensures ∙ c.if-is_refused.false) c.in-Ok.ensures.moved

pub returns-in-Err-Image-clause-answer : goal.returns-in-Err-Image-clause-answer
returns-in-Err-Image-clause-answer g c =
    stopped-tape c.args.order c.args.attached.now.slots c.args.unit c.in-Some.field-0 _ c.in-Some.ensures.holds (sym c.is_refused.ensures ∙ c.if-is_refused.false) tt

pub returns-in-Err-Call-clause-answer : goal.returns-in-Err-Call-clause-answer
returns-in-Err-Call-clause-answer g c =
    stopped-tape c.args.order c.args.attached.now.slots c.args.unit c.in-Some.field-0 _ c.in-Some.ensures.holds (sym c.is_refused.ensures ∙ c.if-is_refused.false) tt
