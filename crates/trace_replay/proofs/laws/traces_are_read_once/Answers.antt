use Rattle.trace_replay.proofs.TraceLemmas.{traces_have_one_list_of_labels, bad_traces_have_no_labels, bad_traces_have_one_first_bad_line}
use Rattle.trace_replay.proofs.laws.traces_are_read_once.Goals as goal

pub returns : goal.returns
returns c = record { labels = traces_have_one_list_of_labels; apart = bad_traces_have_no_labels; bad = bad_traces_have_one_first_bad_line }
