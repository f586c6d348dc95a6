-- What EXIT answers, by its status.
use Rattle.std.proofs.Common.{◌≡◌, ℕ, ◌<◌, ◌≤◌, nat_le, true, false, List, Option, unwrap_or, refl, ap, sym, ◌∙◌, subst, Err, Bool, if◌then◌else◌, arith}
use Rattle.std.proofs.lemmas.Bool.Decides.{nat_tests}
use Rattle.file_commands.specs.Notes.{CommandNote, Note}
use Rattle.nova_machine.specs.Comes.{Output}
use Rattle.command_session.specs.declared.next.Next.TheVariants.{Exit}
use Rattle.command_session.specs.declared.fault.CommandFault.TheVariants.{OutOfRange}
use Rattle.command_session.specs.Live.{Live}
use Rattle.command_session.specs.Reply.{Reply, refused}
use Rattle.unit_trait.specs.declared.kind.UnitName.{UnitName}
use Rattle.command_session.specs.FileEffects.{emptied_all, emptied_reply, kept_answer}
use Rattle.command_session.specs.ExitEffects.{exit_reply}
use Rattle.command_session.specs.Doing.{Did, Closes}
use Rattle.command_session.proofs.CloseLemmas.{all-did}
use Rattle.command_session.proofs.DidLemmas.{refused-did}

within : (notes : List CommandNote) (live : Live) (status : Option ℕ) (number : ℕ) → number ≡ unwrap_or status 0 → number ≤ 99
    → exit_reply notes live status ≡ emptied_reply (Exit number) (emptied_all notes live) live
unfolding exit_reply
within notes live status number is low =
    let small : nat_le (unwrap_or status 0) 99 ≡ true = grind (arith, nat_tests) in
    ap (λ (b : Bool). if b then emptied_reply (Exit (unwrap_or status 0)) (emptied_all notes live) live else refused OutOfRange live) small
    ∙ ap (λ (n : ℕ). emptied_reply (Exit n) (emptied_all notes live) live) (sym is)

past : (notes : List CommandNote) (live : Live) (status : Option ℕ) (number : ℕ) → number ≡ unwrap_or status 0 → 99 < number
    → exit_reply notes live status ≡ refused OutOfRange live
unfolding exit_reply
past notes live status number is high =
    let large : nat_le (unwrap_or status 0) 99 ≡ false = grind (arith, nat_tests) in
    ap (λ (b : Bool). if b then emptied_reply (Exit (unwrap_or status 0)) (emptied_all notes live) live else refused OutOfRange live) large

pub exit-did : (step : Type 0) (status : Option ℕ) (code number : ℕ) (live new : Live) (k : Option UnitName) (tells : Bool) (text : Output) (notes notes' : List Note)
    → code ≡ unwrap_or status 0 → code ≤ 99 → Closes step number live new k notes notes' → step
    → Did (λ (own : List CommandNote). exit_reply own live status) number (kept_answer k (Exit code)) new tells text text notes notes'
exit-did step status code number live new k tells text notes notes' is low closes steps =
    subst (λ (reply : List CommandNote → Reply). Did reply number (kept_answer k (Exit code)) new tells text text notes notes')
    (λ i own. sym (within own live status code is low) i)
    (all-did step (Exit code) number live new k tells text notes notes' refl (λ at reply both. both) closes steps)

pub exit-refused : (status : Option ℕ) (code number : ℕ) (live : Live) (tells : Bool) (text : Output) (notes : List Note)
    → code ≡ unwrap_or status 0 → 99 < code → Did (λ (own : List CommandNote). exit_reply own live status) number (Err OutOfRange) live tells text text notes notes
exit-refused status code number live tells text notes is high =
    refused-did (λ (own : List CommandNote). exit_reply own live status) OutOfRange number live tells text notes tt (λ own. past own live status code is high)
