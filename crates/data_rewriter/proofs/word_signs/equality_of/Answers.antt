use Rattle.data_theory.specs.declared.words.Word.TheVariants as words
use Rattle.data_theory.specs.declared.rows.Row.TheVariants as rows
use Rattle.data_theory.specs.Table.{bool_sort}
use Rattle.data_rewriter.proofs.WordSigns.{row_found, found_means, equality_stands}
use Rattle.data_rewriter.proofs.word_signs.equality_of.Goals as goal

pub unwrap-requires : goal.unwrap-requires
unwrap-requires c = row_found c.args.sig.now (rows.Two words.Equal c.args.sort c.args.sort bool_sort) (equality_stands c.args.sig.now c.requires.stands c.args.sort c.requires.sort) c.fun.result c.fun.ensures

pub returns : goal.returns
returns c = found_means c.args.sig.now (rows.Two words.Equal c.args.sort c.args.sort bool_sort) (equality_stands c.args.sig.now c.requires.stands c.args.sort c.requires.sort) c.fun.result c.fun.ensures c.unwrap.result c.unwrap.ensures
