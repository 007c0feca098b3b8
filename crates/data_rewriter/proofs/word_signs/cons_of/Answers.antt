use Rattle.data_theory.specs.declared.words.Word.TheVariants as words
use Rattle.data_theory.specs.declared.words.ListWord.TheVariants as lists
use Rattle.data_theory.specs.declared.rows.Row.TheVariants as rows
use Rattle.data_rewriter.proofs.WordSigns.{row_found, found_means, cons_stands, cons_means}
use Rattle.data_rewriter.proofs.word_signs.cons_of.Goals as goal

pub unwrap-requires : goal.unwrap-requires
unwrap-requires c = row_found c.args.sig.now (rows.Two (words.List lists.Cons) c.args.element c.args.list c.args.list) (cons_stands c.args.sig.now c.requires.stands c.args.element c.args.list c.requires.list) c.fun.result c.fun.ensures

pub returns : goal.returns
returns c = cons_means c.args.sig.now c.requires.stands c.args.element c.args.list c.requires.list c.unwrap.result (found_means c.args.sig.now (rows.Two (words.List lists.Cons) c.args.element c.args.list c.args.list) (cons_stands c.args.sig.now c.requires.stands c.args.element c.args.list c.requires.list) c.fun.result c.fun.ensures c.unwrap.result c.unwrap.ensures)
