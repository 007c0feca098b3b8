use Rattle.data_typing.specs.NodeTypings.{scheme_of}
use Rattle.data_typing.proofs.WordLemmas.{any_row_is, no_any_row}
use Rattle.data_typing.proofs.words.any_row.Goals as goal

pub returns-then-one_hangs-clause-means : goal.returns-then-one_hangs-clause-means
returns-then-one_hangs-clause-means c = any_row_is c.args.row c.in_ok-any.any.arguments.items c.as_slice.result.now c.is_list_constant.result c.one_hangs.result c.is_list_constant.ensures c.if-is_list_constant.false c.one_hangs.ensures c.as_slice.ensures.value c.in_ok-any.ensures.places c.if-one_hangs.true (scheme_of c.in_ok-any.any) c.in_ok-any.ensures.means

pub returns-clause-means : goal.returns-clause-means
returns-clause-means c = no_any_row c.args.row c.in_ok-any.any.arguments.items c.as_slice.result.now c.is_list_constant.result c.one_hangs.result c.is_list_constant.ensures c.if-is_list_constant.false c.one_hangs.ensures c.as_slice.ensures.value c.in_ok-any.ensures.places c.if-one_hangs.false
