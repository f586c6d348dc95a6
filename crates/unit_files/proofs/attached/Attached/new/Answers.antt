use Rattle.std.proofs.Common.{◌≡◌, List, Option, None, replicate, map, get_or, ap, sym, ◌∙◌, subst, rules}
use Rattle.unit_files.specs.Attachments.{HaveFileNames}
use Rattle.unit_files.specs.Open.{HaveOwnNumbers}
use Rattle.unit_files.specs.View.{slot_of, marks_of}
use Rattle.unit_files.proofs.Marks.{marks-none}
use Rattle.unit_files.specs.declared.slots.UnitFile.{UnitFile}
use Rattle.unit_files.proofs.Attaching.{own-none, names-none}
use Rattle.unit_files.proofs.attached.Attached.new.Goals as goal

pub invariant_of-result : goal.invariant_of-result
invariant_of-result c =
    let all : c.loop-place.slots.items ≡ replicate {A = Option UnitFile} 12 None = search rules in (
      search rules,
      search rules,
      record {
        copy = λ h there. absurd (cc (ap (λ (l : List (Option UnitFile)). get_or (map slot_of l) 0 None) (sym all) ∙ there));
        writable = λ h there written. absurd (cc);
        none = λ _. (c.none.ensures.bytes, c.none.ensures.marks, c.none.ensures.written);
        unmarked = λ _. ap marks_of c.none.ensures.marks ∙ marks-none;
      },
      subst HaveOwnNumbers (sym (ap (λ (l : List (Option UnitFile)). map slot_of l) all)) (own-none 12),
      subst HaveFileNames (sym (ap (λ (l : List (Option UnitFile)). map slot_of l) all)) (names-none 12),
    )
