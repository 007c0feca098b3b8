use Rattle.std.proofs.Common.{◌≡◌, drop}
use Rattle.sort_checker.specs.FullVocabularies.{FullVocabulary}
use Rattle.sort_checker.specs.Refusals.{first_from}
use Rattle.sort_checker.specs.ScopedTrees.{scoped_under}
use Rattle.sort_checker.specs.UnknownTrees.{IsKnown, unknown_in}
use Rattle.sort_checker.proofs.unknown_names.unknown_in_section.Given as goal

abbrev pub invariant-loop-declaration : goal.invariant-loop-declaration
invariant-loop-declaration l = (v : FullVocabulary) → IsKnown v l.known → first_from (unknown_in v) l.number (scoped_under l.before (drop l.declaration-index l.declarations)) ≡ first_from (unknown_in v) l.first (scoped_under l.before l.declarations)
