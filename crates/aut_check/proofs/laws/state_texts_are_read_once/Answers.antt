use Rattle.aut_check.proofs.ReadingLaws.{bad_state_texts_have_no_states, bad_state_texts_have_one_first_bad_line}
use Rattle.aut_check.proofs.laws.state_texts_are_read_once.Goals as goal

pub returns-clause-apart : goal.returns-clause-apart
returns-clause-apart c = bad_state_texts_have_no_states

pub returns-clause-bad : goal.returns-clause-bad
returns-clause-bad c = bad_state_texts_have_one_first_bad_line
