use Rattle.std.proofs.Common.{◌≡◌, ◌++◌, List, map, ap, sym, ◌∙◌}
use Rattle.std.proofs.lemmas.Result.{on_ok_weaker}
use Rattle.std.proofs.lemmas.Simd.{map-map}
use Rattle.mcrl2_syntax.specs.declared.declaration.Decl.{Decl}
use Rattle.mcrl2_syntax.specs.declared.word.Word.{Word}
use Rattle.mcrl2_syntax.specs.Words.{word_of}
use Rattle.sort_table.specs.Expressions.{Name}
use Rattle.sort_table.specs.BareProcesses.{bare_name, bare_names}
use Rattle.sort_table.specs.SortMeanings.{Kind, alone, kinds_by}
use Rattle.sort_table.specs.DeclarationTrees.{declaration_of}
use Rattle.sort_table.specs.IndexedKinds.{kinds_of_index}
use Rattle.sort_table.proofs.sort_indexes.add_names.Goals as goal

one_alone : Word → Name × Kind
one_alone w = (w.bytes.items, alone)

name_alone : Name → Name × Kind
name_alone n = (n, alone)

bare_alone : (ws : List Word) → map one_alone ws ≡ map name_alone (bare_names (map word_of ws))
unfolding one_alone name_alone
bare_alone ws = sym (ap (map name_alone) (map-map bare_name word_of ws) ∙ map-map name_alone (λ (w : Word). w.bytes.items) ws)

pub returns-in-Sorts : goal.returns-in-Sorts
unfolding one_alone name_alone
returns-in-Sorts c =
    on_ok_weaker c.add_sorts.result (λ (added : kinds_of_index c.add_sorts.new.index ≡ kinds_of_index c.args.index.now ++ map one_alone c.as_slice.result.now).
    added ∙ (ap (λ (ws : List Word). kinds_of_index c.args.index.now ++ map one_alone ws) c.as_slice.ensures.value
    ∙ (ap (λ (ks : List (Name × Kind)). kinds_of_index c.args.index.now ++ ks) (bare_alone c.in-Sorts.names.items)
    ∙ ap (λ (d : Decl). kinds_of_index c.args.index.now ++ kinds_by (declaration_of d)) (sym c.in-Sorts.is)))) c.add_sorts.ensures
