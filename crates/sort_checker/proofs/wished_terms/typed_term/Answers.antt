use Rattle.mcrl2_syntax.specs.DataTrees.{plain_data}
use Rattle.sort_table.specs.BareData.{bare_data}
use Rattle.data_typing.specs.CodeSteps.{wish_of}
use Rattle.data_typing.specs.Making.{wished}
use Rattle.data_typing.specs.Meanings.{typing_in}
use Rattle.sort_checker.proofs.WhatStays.{some_is_found, the_found}
use Rattle.sort_checker.proofs.wished_terms.typed_term.Goals as goal

pub unreachable-requires : goal.unreachable-requires
unreachable-requires c =
    let t = c.requires.typed in
    some_is_found c.wished_term.new.sig c.wished_term.new.pool _ t.term t.is c.in_ok-found.found c.in_default.is (c.in_ok-found.ensures.means t.vocabulary t.scope t.sees)

pub returns-clause-means : goal.returns-clause-means
returns-clause-means c = λ v variables sees. the_found c.wished_term.new.sig c.wished_term.new.pool (wished (wish_of c.args.wanted) (typing_in v variables (bare_data (plain_data c.args.tree.now)))) c.in_ok-found.found c.in-Some.term c.in-Some.is (c.in_ok-found.ensures.means v variables sees)
