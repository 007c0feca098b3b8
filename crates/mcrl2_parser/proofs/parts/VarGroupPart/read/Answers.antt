use Rattle.std.proofs.Common.{refl, sym, ◌∙◌}
use Rattle.std.proofs.lemmas.Result.{err_from_is_err_and}
use Rattle.mcrl2_lexer.specs.declared.kind.Kind.TheVariants.{Colon}
use Rattle.mcrl2_syntax.proofs.Lists.{moved, tails}
use Rattle.mcrl2_syntax.proofs.LabelsOnce.{var_group_once, sort_from}
use Rattle.mcrl2_syntax.specs.Words.{word_of, word_span}
use Rattle.mcrl2_parser.proofs.Names.{same_span, by_variables, variables_of, variables_shorter}
use Rattle.mcrl2_parser.proofs.parts.VarGroupPart.read.Goals as goal

pub returns-in_err-names-clause-only : goal.returns-in_err-names-clause-only
returns-in_err-names-clause-only c = λ g r d s. let e = err_from_is_err_and c.from_residual.result c.from_residual.ensures.1 in
    let v = variables_of d in
    rw e.1 (e.2 ∙ c.in_err-names.ensures.only v.names _ v.named v.no_comma)

pub returns-in_err-behind-clause-only : goal.returns-in_err-behind-clause-only
returns-in_err-behind-clause-only c = λ g r d s.
    let v = variables_of d in
    absurd (c.in_err-behind.ensures.none refl (moved Colon (sym (c.in_ok-names.ensures.only v.names _ v.named v.no_comma).1) v.is_colon))

pub returns-in_err-sort-clause-only : goal.returns-in_err-sort-clause-only
returns-in_err-sort-clause-only c = λ g r d s. let e = err_from_is_err_and c.from_residual-in_err-sort.result c.from_residual-in_err-sort.ensures.1 in
    let v = variables_of d in
    let same = c.in_ok-names.ensures.only v.names _ v.named v.no_comma in
    rw e.1 (e.2 ∙ c.in_err-sort.ensures.only v.sort r (sort_from (tails (sym c.in_ok-behind.ensures.found.0 ∙ same.1)) v.sorted))

pub returns-clause-found : goal.returns-clause-found
returns-clause-found c =
    by_variables c.new.ensures c.joined_spans-span.ensures (same_span word_span word_of c.names_span.ensures c.as_slice.ensures.value) c.span.ensures c.in_ok-names.ensures.found c.in_ok-behind.ensures.found.0 c.in_ok-behind.ensures.found.1 c.in_ok-sort.ensures.found

pub returns-clause-only : goal.returns-clause-only
returns-clause-only c = λ g r d s. var_group_once
    (by_variables c.new.ensures c.joined_spans-span.ensures (same_span word_span word_of c.names_span.ensures c.as_slice.ensures.value) c.span.ensures c.in_ok-names.ensures.found c.in_ok-behind.ensures.found.0 c.in_ok-behind.ensures.found.1 c.in_ok-sort.ensures.found) d

pub returns-clause-shorter : goal.returns-clause-shorter
returns-clause-shorter c = variables_shorter c.args.tokens.now c.in_ok-names.ensures.shorter c.in_ok-behind.ensures.found.0 c.in_ok-sort.ensures.found
