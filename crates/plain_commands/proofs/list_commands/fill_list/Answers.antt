use Rattle.std.proofs.Common.{◌≡◌, ◌∙◌, ap, sym, subst, ℕ, Err}
use Rattle.plain_commands.specs.ListEffects.{handed}
use Rattle.plain_commands.proofs.ListLemmas.{list_answer, Deposits, deposits-of, deposit-silent, deposit-frame}
use Rattle.plain_commands.proofs.ListKinds.{deposit-kinds}
use Rattle.plain_commands.proofs.list_commands.fill_list.Goals.{in-Ok, in-Err}
use Rattle.plain_commands.proofs.list_commands.fill_list.Goals as goal

pub returns-clause-answer : goal.returns-clause-answer
returns-clause-answer g c =
    let m = c.session.inside.machine in
    let new = c.deposit.new.machine in
    let l = c.args.listing.now in
    let r = c.deposit.result in
    let deposits : Deposits m l c.handed.result r new = deposits-of m new l c.handed.result r c.deposit.ensures.done c.deposit.ensures.refused in
    let there = sym c.lacks_device.ensures ∙ c.if-lacks_device.false in
    let done : Deposits m l (handed c.args.value) r new = subst (λ (v : ℕ). Deposits m l v r new) c.handed.ensures deposits in
    let answer_is : c.match-deposit.result ≡ list_answer r =
    elim c.match-deposit.branch [
      | in-Ok w ↦ w.result-is ∙ sym (ap list_answer w.in-Ok.is)
      | in-Err w ↦ w.result-is ∙ ap Err w.fault_of_list.ensures ∙ sym (ap list_answer w.in-Err.is)
    ] in
    rw (← c.session.view_is) (λ files. answer_is ∙ (deposit-silent m new c.session.inside.watch c.session.inside.keys files l c.args.value r there done).answer_is)

pub returns-clause-after : goal.returns-clause-after
returns-clause-after g c =
    let m = c.session.inside.machine in
    let new = c.deposit.new.machine in
    let l = c.args.listing.now in
    let r = c.deposit.result in
    let deposits : Deposits m l c.handed.result r new = deposits-of m new l c.handed.result r c.deposit.ensures.done c.deposit.ensures.refused in
    let there = sym c.lacks_device.ensures ∙ c.if-lacks_device.false in
    let done : Deposits m l (handed c.args.value) r new = subst (λ (v : ℕ). Deposits m l v r new) c.handed.ensures deposits in
    rw (← c.session.view_is) (λ files. (deposit-silent m new c.session.inside.watch c.session.inside.keys files l c.args.value r there done).after_is)

pub returns-clause-attached : goal.returns-clause-attached
returns-clause-attached g c =
    let m = c.session.inside.machine in
    let new = c.deposit.new.machine in
    let l = c.args.listing.now in
    let r = c.deposit.result in
    let deposits : Deposits m l c.handed.result r new = deposits-of m new l c.handed.result r c.deposit.ensures.done c.deposit.ensures.refused in
    rw (← c.session.view_is) (deposit-frame m new l c.handed.result r deposits).attached

pub returns-clause-time : goal.returns-clause-time
returns-clause-time g c =
    let m = c.session.inside.machine in
    let new = c.deposit.new.machine in
    let l = c.args.listing.now in
    let r = c.deposit.result in
    let deposits : Deposits m l c.handed.result r new = deposits-of m new l c.handed.result r c.deposit.ensures.done c.deposit.ensures.refused in
    rw (← c.session.view_is) (deposit-frame m new l c.handed.result r deposits).time

pub returns-clause-terminals : goal.returns-clause-terminals
returns-clause-terminals g c =
    let m = c.session.inside.machine in
    let new = c.deposit.new.machine in
    let l = c.args.listing.now in
    let r = c.deposit.result in
    let deposits : Deposits m l c.handed.result r new = deposits-of m new l c.handed.result r c.deposit.ensures.done c.deposit.ensures.refused in
    rw (← c.session.view_is) (deposit-frame m new l c.handed.result r deposits).lines

pub returns-clause-kinds : goal.returns-clause-kinds
returns-clause-kinds g c =
    let m = c.session.inside.machine in
    let new = c.deposit.new.machine in
    let l = c.args.listing.now in
    let r = c.deposit.result in
    let deposits : Deposits m l c.handed.result r new = deposits-of m new l c.handed.result r c.deposit.ensures.done c.deposit.ensures.refused in
    rw (← c.session.view_is) (deposit-kinds m new l c.handed.result r deposits)
