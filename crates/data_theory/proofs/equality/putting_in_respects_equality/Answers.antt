use Rattle.data_theory.proofs.EqualityLemmas.{put_equal, put_all_equal}
use Rattle.data_theory.proofs.equality.putting_in_respects_equality.Goals as goal

pub returns : goal.returns
returns c = record { in_a_term = put_equal; in_a_list = put_all_equal }
