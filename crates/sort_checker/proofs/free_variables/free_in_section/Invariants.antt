use Rattle.std.proofs.Common.{◌≡◌, drop}
use Rattle.sort_checker.specs.FreeTrees.{free_in}
use Rattle.sort_checker.specs.FullVocabularies.{FullVocabulary}
use Rattle.sort_checker.specs.Refusals.{first_from}
use Rattle.sort_checker.specs.ScopedTrees.{scoped_under}
use Rattle.sort_checker.specs.TextContexts.{IsContextOver}
use Rattle.sort_checker.proofs.free_variables.free_in_section.Given as goal

abbrev pub invariant-loop-declaration : goal.invariant-loop-declaration
invariant-loop-declaration l = (v : FullVocabulary) → IsContextOver v l.context → first_from (free_in v) l.number (scoped_under l.before (drop l.declaration-index l.declarations)) ≡ first_from (free_in v) l.first (scoped_under l.before l.declarations)
