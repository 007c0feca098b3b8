use Rattle.std.proofs.Common.{map}
use Rattle.std.specs.List.{All}
use Rattle.data_theory.specs.IdTerms.{IsTreeWithin}
use Rattle.mcrl2_syntax.specs.DataTrees.{plain_data}
use Rattle.term_pool.specs.Pools.{Extends}
use Rattle.aut_check.proofs.ReadStates.{TermsTo}
use Rattle.aut_check.proofs.state_reading.terms_of_trees.Given as goal

abbrev pub invariant-loop-place : goal.invariant-loop-place
invariant-loop-place l = record {
  kept : Extends l.fn.pool.trees l.pool.trees;
  trees : All (IsTreeWithin l.sig) l.pool.trees;
  read : TermsTo l.sig l.pool.trees l.sorts (map plain_data l.trees) l.place l.terms.items;
}
