-- The stops that trees are.
use Rattle.std.specs.Prelude.{List, [], ◌∷◌, map}
use Rattle.mcrl2_syntax.specs.Words.{word_of}
use Rattle.mcrl2_syntax.specs.DataTrees.{plain_data}
use Rattle.mcrl2_syntax.specs.ProcessParts as trees
use Rattle.mcrl2_syntax.specs.ProcessParts.{PlainAssignment, PlainNameSet, PlainRenaming, PlainCommRule, plain_action, assignment_of, name_set_of, comm_rule_of, var_group_of}
use Rattle.process_terms.specs.Processes.{allow, block, hide, rename, comm}
use Rattle.sort_table.specs.BareData.{bare_data}
use Rattle.sort_table.specs.BareProcesses.{bare_names, bare_action, bare_variables}
use Rattle.sort_checker.specs.declared.stops.PartTree.{PartTree}
use Rattle.sort_checker.specs.declared.stops.PartTree.TheVariants as parts
use Rattle.sort_checker.specs.declared.stops.StopTree.{StopTree}
use Rattle.sort_checker.specs.declared.stops.StopTree.TheVariants as stops
use Rattle.sort_checker.specs.Operators.{renaming_of, rule_of}
use Rattle.sort_checker.specs.Parts.{Part, a_label, a_call, a_condition, an_operator}
use Rattle.sort_checker.specs.Stops.{Stop, enter, leave, at}

abbrev pub part_of : PartTree → Part
part_of (parts.Action a) = a_label (bare_action (plain_action a.now) ∷ [])
part_of (parts.Multi as_) = a_label (map bare_action (map plain_action as_.now))
part_of (parts.Call w xs) = a_call (word_of w.now).bytes (map (λ (d : PlainAssignment). (d.name.bytes, bare_data d.value)) (map assignment_of xs.now))
part_of (parts.Condition d) = a_condition (bare_data (plain_data d.now))
part_of (parts.Allow sets) = an_operator (allow (map (λ (s : PlainNameSet). bare_names s.names) (map name_set_of sets.now)))
part_of (parts.Block ns) = an_operator (block (bare_names (map word_of ns.now)))
part_of (parts.Hide ns) = an_operator (hide (bare_names (map word_of ns.now)))
part_of (parts.Rename rs) = an_operator (rename (map renaming_of (map (λ (r : PlainRenaming). (r.old.bytes, r.renamed.bytes)) (map trees.renaming_of rs.now))))
part_of (parts.Comm cs) = an_operator (comm (map rule_of (map (λ (r : PlainCommRule). (bare_names r.names, r.outcome.bytes)) (map comm_rule_of cs.now))))

abbrev pub stop_of : StopTree → Stop
stop_of (stops.Enter gs) = enter (bare_variables (map var_group_of gs.now))
stop_of (stops.Leave gs) = leave (bare_variables (map var_group_of gs.now))
stop_of (stops.At p) = at (part_of p)

abbrev pub stops_of : List StopTree → List Stop
stops_of ss = map stop_of ss
