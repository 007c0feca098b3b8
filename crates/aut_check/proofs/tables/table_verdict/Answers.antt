use Rattle.std.proofs.Common.{List, ◌∙◌, subst}
use Rattle.std.proofs.lemmas.List.{length-map}
use Rattle.trace_replay.specs.declared.deciding.Answer.{Answer as CodeAnswer}
use Rattle.trace_replay.specs.DecidedConditions.{answer_of}
use Rattle.aut_check.specs.Tables.{answers_of, IsWorst}
use Rattle.aut_check.proofs.tables.table_verdict.Goals as goal

pub returns : goal.returns
returns c = record {
  row_bests = answers_of c.in_ok-row_bests.row_bests.items;
  are_row_bests = c.in_ok-row_bests.ensures;
  by_rows = c.worst_of.result;
  are_by_rows = subst (λ (z : List CodeAnswer). IsWorst (answers_of z) c.worst_of.result) c.as_slice.ensures.value c.worst_of.ensures;
  column_bests = answers_of c.in_ok-column_bests.column_bests.items;
  long = length-map c.in_ok-column_bests.column_bests.items answer_of ∙ c.in_ok-column_bests.ensures.long;
  are_column_bests = c.in_ok-column_bests.ensures.bests;
  by_columns = c.worst_of-2.result;
  are_by_columns = subst (λ (z : List CodeAnswer). IsWorst (answers_of z) c.worst_of-2.result) c.as_slice-2.ensures.value c.worst_of-2.ensures;
  is = c.worse.ensures;
}
