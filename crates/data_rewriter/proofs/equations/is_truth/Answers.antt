use Rattle.data_rewriter.proofs.equations.is_truth.Goals as goal

pub returns : goal.returns
returns c = λ sig own all term.
    c.is_true.ensures sig c.args.pool.now.trees _ (c.view_of.ensures.shown sig all.signs.signs term)
