use Rattle.std.proofs.Common.{List, subst}
use Rattle.mcrl2_syntax.specs.declared.declaration.Decl.{Decl}
use Rattle.mcrl2_syntax.specs.declared.declaration.Section.{Section}
use Rattle.sort_checker.specs.KnownNames.{process_names, process_names_of}
use Rattle.sort_checker.specs.NameNumbers.{AddsNames}
use Rattle.sort_checker.proofs.NameLists.{told_more}
use Rattle.sort_checker.proofs.NamesKnown.{section_names_listed}
use Rattle.sort_checker.proofs.ScopedLists.{bare_of}
use Rattle.sort_checker.proofs.known_names.names_of_processes.Goals as goal

pub loop-section-preserved : goal.loop-section-preserved
loop-section-preserved c =
    told_more (λ (ss : List Section). process_names (bare_of ss)) (λ (s : Section). process_names_of s.declarations.items) section_names_listed c.loop-section.names c.add_processes.new.names c.deref-section-items.result.now c.loop-section.section-index c.section-item.result
    c.loop-section-test.true c.section-item.is c.loop-section.invariant
    (subst (λ (ds : List Decl). AddsNames c.loop-section.names c.add_processes.new.names (process_names_of ds)) c.as_slice.ensures.value c.in_ok-add_processes.ensures)
