use Rattle.std.proofs.Common.{◌∙◌}
use Rattle.std.proofs.lemmas.Result.{err_from_is_err_and}
use Rattle.mcrl2_syntax.specs.Words.{word_of, word_span}
use Rattle.mcrl2_parser.proofs.Names.{same_span}
use Rattle.mcrl2_parser.proofs.Operations.{by_name_set, named, name_set_only}
use Rattle.mcrl2_parser.proofs.operator_parts.NameSetPart.read.Goals as goal

pub returns-in_err-names-clause-only : goal.returns-in_err-names-clause-only
returns-in_err-names-clause-only c = λ x r d s. let e = err_from_is_err_and c.from_residual.result c.from_residual.ensures.1 in
    let g = named d in
    rw e.1 (e.2 ∙ c.in_err-names.ensures.only g.names r g.read s)

pub returns-clause-found : goal.returns-clause-found
returns-clause-found c = by_name_set c.new.ensures (same_span word_span word_of c.names_span.ensures c.as_slice.ensures.value) c.in_ok-names.ensures.found

pub returns-clause-only : goal.returns-clause-only
returns-clause-only c = λ x r d s. let g = named d in
    name_set_only c.new.ensures (same_span word_span word_of c.names_span.ensures c.as_slice.ensures.value) g (c.in_ok-names.ensures.only g.names r g.read s)
