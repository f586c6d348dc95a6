-- Files and lines that tell theirs.
use Rattle.program_laws.specs.Told.{ToldIsEnough}
use Rattle.scp_script.proofs.UsedLemmas.{all-told}

pub told-is-enough : ToldIsEnough
told-is-enough files lines units words input named outside told telling = record {
  names = λ _. told;
  texts = λ whole notes front at reaches. all-told files lines at told telling;
}
