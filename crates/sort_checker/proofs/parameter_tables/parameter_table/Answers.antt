use Rattle.std.proofs.Common.{◌++◌, ◌∙◌, List, map, take, sym, ap, subst}
use Rattle.mcrl2_syntax.specs.declared.declaration.Decl.{Decl}
use Rattle.mcrl2_syntax.specs.declared.declaration.Section.{Section}
use Rattle.sort_table.specs.BareDeclarations.{declarations_in}
use Rattle.sort_table.specs.DeclarationTrees.{declaration_of}
use Rattle.sort_table.proofs.Searches.{listed_more}
use Rattle.sort_checker.specs.FullVocabularies.{Written, processes_in}
use Rattle.sort_checker.specs.ParameterTables.{HasProcesses}
use Rattle.sort_checker.proofs.ParameterLists.{sections_listed}
use Rattle.sort_checker.proofs.ScopedLists.{bare_of}
use Rattle.sort_checker.proofs.parameter_tables.parameter_table.Goals as goal

pub loop-section-preserved : goal.loop-section-preserved
loop-section-preserved c =
    let before : List Written = processes_in (declarations_in (bare_of (take c.loop-section.section-index c.deref-section-items.result.now))) in
    subst (λ (ws : List Written). HasProcesses c.args.sig.now ws c.add_processes.new.table)
    (ap (λ (ds : List Decl). before ++ processes_in (map declaration_of ds)) c.as_slice-declarations.ensures.value
    ∙ sym (listed_more (λ (ss : List Section). processes_in (declarations_in (bare_of ss))) (λ (s : Section). processes_in (map declaration_of s.declarations.items)) sections_listed c.deref-section-items.result.now c.loop-section.section-index c.section-item.result c.loop-section-test.true c.section-item.is))
    (c.in_ok-add_processes.ensures before c.loop-section.invariant)
