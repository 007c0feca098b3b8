use Rattle.std.proofs.Common.{◌≡◌, map, drop}
use Rattle.mcrl2_syntax.specs.Declarations.{section_of}
use Rattle.sort_table.specs.BareDeclarations.{bare_section}
use Rattle.sort_checker.specs.FullVocabularies.{FullVocabulary}
use Rattle.sort_checker.specs.Parts.{scoped_behind, scoped_declarations}
use Rattle.sort_checker.specs.ReadyTrees.{AreReadyDeclarations}
use Rattle.sort_checker.specs.Refusals.{number_from}
use Rattle.sort_checker.specs.ScopedTrees.{variables_under}
use Rattle.sort_checker.specs.TextContexts.{IsContextOver}
use Rattle.sort_checker.specs.TypedTrees.{is_untyped}
use Rattle.sort_checker.proofs.untyped_parts.untyped.Given as goal

abbrev pub invariant-loop-section : goal.invariant-loop-section
invariant-loop-section l = record {
  ready : AreReadyDeclarations l.context.sig.now.texts l.before;
  rest : (v : FullVocabulary) → IsContextOver v l.context
      → number_from (is_untyped v) l.number (scoped_behind (variables_under l.before) (map bare_section (map section_of (drop l.section-index l.section-items))))
      ≡ number_from (is_untyped v) 1 (scoped_declarations (map bare_section (map section_of l.section-items)));
}
