use Rattle.std.proofs.Common.{inl, refl}
use Rattle.data_theory.specs.Terms.{equality}
use Rattle.data_rewriter.proofs.Deciding.{plainly}
use Rattle.data_rewriter.proofs.TruthClauses.{different_decided}
use Rattle.data_rewriter.proofs.truth_lines.different_line.Goals as goal

pub returns : goal.returns
returns c = λ sig ts a t u eq sx sy.
    different_decided sig ts a t u _ (inl (tt, plainly sig ts 17 _ _ _ c.line.ensures (equality a, t, u, eq, sx, sy, refl)))
