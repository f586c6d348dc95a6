use Rattle.expect_actions.proofs.AnswerLemmas.{computed_answers, one_answer}
use Rattle.expect_actions.proofs.keys.keys_files_have_one_answer.Goals as goal

pub returns-clause-one : goal.returns-clause-one
returns-clause-one c = one_answer

pub returns-clause-computed : goal.returns-clause-computed
returns-clause-computed c = computed_answers
