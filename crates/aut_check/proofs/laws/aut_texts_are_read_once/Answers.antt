use Rattle.aut_check.proofs.ReadingLaws.{aut_texts_have_one_header, bad_aut_texts_have_no_edges, bad_aut_texts_have_one_first_bad_line}
use Rattle.aut_check.proofs.laws.aut_texts_are_read_once.Goals as goal

pub returns-clause-header : goal.returns-clause-header
returns-clause-header c = aut_texts_have_one_header

pub returns-clause-apart : goal.returns-clause-apart
returns-clause-apart c = bad_aut_texts_have_no_edges

pub returns-clause-bad : goal.returns-clause-bad
returns-clause-bad c = bad_aut_texts_have_one_first_bad_line
