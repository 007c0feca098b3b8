use Rattle.std.proofs.Common.{◌≡◌, ◌++◌, ◌∙◌, ℕ, List, [], ◌∷◌, map, refl, ap}
use Rattle.mcrl2_syntax.specs.declared.word.Word.{Word}
use Rattle.mcrl2_syntax.specs.declared.process_tree.VarGroup.{VarGroup}
use Rattle.mcrl2_syntax.specs.Words.{PlainWord, word_of}
use Rattle.mcrl2_syntax.specs.ProcessParts.{var_group_of}
use Rattle.sort_table.specs.BareSorts.{SortExpression, bare_sort}
use Rattle.sort_table.specs.BareProcesses.{Variables, bare_group, bare_variables}
use Rattle.sort_table.specs.Repeats.{marks_of}
use Rattle.sort_table.specs.ItemMarks.{marks_of_groups, marks_of_variables, marks_of_names, same_mark, key}
use Rattle.sort_table.proofs.Searches.{IsListed}
use Rattle.sort_table.proofs.PushedMarks.{pushed}
use Rattle.sort_table.proofs.item_entries.add_groups.Goals as goal

behind : (i k : ℕ) (vs ws : Variables) → marks_of_variables i k (vs ++ ws) ≡ marks_of_variables i k vs ++ marks_of_variables i k ws
behind i k [] ws = refl
behind i k (v ∷ vs) ws = ap (λ ms. same_mark i (key 5 k v.0) ∷ ms) (behind i k vs ws)

of_words : (i k : ℕ) (e : SortExpression) (ws : List Word) → marks_of_variables i k (map (λ (w : PlainWord). (w.bytes, e)) (map word_of ws)) ≡ marks_of_names i k ws
of_words i k e [] = refl
of_words i k e (w ∷ ws) = ap (λ ms. same_mark i (key 5 k w.bytes.items) ∷ ms) (of_words i k e ws)

listed : (i k : ℕ) → IsListed (marks_of_groups i k) (λ (g : VarGroup). marks_of_names i k g.names.items)
listed i k = record {
  of_none = refl;
  of_more = λ g gs. behind i k (bare_group (var_group_of g)) (bare_variables (map var_group_of gs)) ∙ ap (λ ms. ms ++ marks_of_groups i k gs) (of_words i k (bare_sort (var_group_of g).sort) g.names.items);
}

pub loop-group-preserved : goal.loop-group-preserved
loop-group-preserved c =
    pushed (marks_of_groups c.args.number c.args.section) (λ (g : VarGroup). marks_of_names c.args.number c.args.section g.names.items) (listed c.args.number c.args.section) c.args.groups.now c.loop-group.group-index c.group-item.result
    (marks_of c.args.entries.now.items) (marks_of c.loop-group.entries.items) (marks_of c.add_variables.new.entries.items) c.loop-group-test.true c.group-item.is c.loop-group.invariant
    (c.in_ok-add_variables.ensures ∙ ap (λ (ws : List Word). marks_of c.loop-group.entries.items ++ marks_of_names c.args.number c.args.section ws) c.as_slice.ensures.value)
