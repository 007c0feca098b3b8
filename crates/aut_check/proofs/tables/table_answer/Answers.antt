use Rattle.std.proofs.Common.{◌∙◌, true, false, ap, subst, sym}
use Rattle.aut_check.specs.Matchings.{rows, HasMatching, IsSquare}
use Rattle.aut_check.proofs.TableLaws.{not_true}
use Rattle.aut_check.proofs.tables.table_answer.Goals as goal

pub has_matching-requires : goal.has_matching-requires
has_matching-requires c = record { square = subst IsSquare (sym (ap rows c.as_slice.ensures.value ∙ c.in_ok-holding.ensures)) (c.requires false) }

pub has_matching-requires-2 : goal.has_matching-requires-2
has_matching-requires-2 c = record { square = subst IsSquare (sym (ap rows c.as_slice-2.ensures.value ∙ c.in_ok-open.ensures)) (c.requires true) }

pub returns : goal.returns
returns c = λ h. not_true c.in_ok-has_matching-2.field-0 (c.in_ok-has_matching-2.ensures.1 (subst HasMatching (sym (ap rows c.as_slice-2.ensures.value ∙ c.in_ok-open.ensures)) h)) c.if-branch-2.false
