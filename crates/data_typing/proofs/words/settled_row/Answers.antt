use Rattle.data_typing.specs.NodeTypings.{signature_of, scheme_of}
use Rattle.data_typing.proofs.WordLemmas.{no_settled_row, settled_row_is}
use Rattle.data_typing.proofs.words.settled_row.Goals as goal

pub returns-then-one_hangs-clause-means : goal.returns-then-one_hangs-clause-means
returns-then-one_hangs-clause-means c = λ y. no_settled_row c.args.row c.in_ok-any.any.arguments.items c.as_slice.result.now c.is_list_constant.result c.one_hangs.result c.is_list_constant.ensures c.if-is_list_constant.false c.one_hangs.ensures c.as_slice.ensures.value c.in_ok-any.ensures.places c.if-one_hangs.true

pub returns-clause-means : goal.returns-clause-means
returns-clause-means c = λ y. settled_row_is c.args.row c.in_ok-any.any.arguments.items c.as_slice.result.now c.is_list_constant.result c.one_hangs.result c.is_list_constant.ensures c.if-is_list_constant.false c.one_hangs.ensures c.as_slice.ensures.value c.in_ok-any.ensures.places c.if-one_hangs.false (scheme_of c.in_ok-any.any) c.in_ok-any.ensures.means (signature_of y c.in_ok-overload.overload) (c.in_ok-overload.ensures.means y)
