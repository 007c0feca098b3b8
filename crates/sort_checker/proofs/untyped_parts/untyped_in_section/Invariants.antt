use Rattle.std.proofs.Common.{◌≡◌, drop}
use Rattle.sort_checker.specs.FullVocabularies.{FullVocabulary}
use Rattle.sort_checker.specs.Refusals.{number_from}
use Rattle.sort_checker.specs.ScopedTrees.{scoped_under}
use Rattle.sort_checker.specs.TextContexts.{IsContextOver}
use Rattle.sort_checker.specs.TypedTrees.{is_untyped}
use Rattle.sort_checker.proofs.untyped_parts.untyped_in_section.Given as goal

abbrev pub invariant-loop-declaration : goal.invariant-loop-declaration
invariant-loop-declaration l = (v : FullVocabulary) → IsContextOver v l.context → number_from (is_untyped v) l.number (scoped_under l.before (drop l.declaration-index l.declarations)) ≡ number_from (is_untyped v) l.first (scoped_under l.before l.declarations)
