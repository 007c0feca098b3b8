use Rattle.data_rewriter.proofs.FixedFunctions.{pos_to_nat_at, succ_at}
use Rattle.data_rewriter.proofs.making.longer.Goals as goal

pub returns-clause-made : goal.returns-clause-made
returns-clause-made c = λ sig ok a t f x.
    c.in_ok-made.ensures.made sig ok.table _ _ (pos_to_nat_at sig ok) (c.in_ok-next.ensures.made sig ok.table _ _ (succ_at sig ok) (c.in_ok-count.ensures.made sig ok.table _ _ f x))
