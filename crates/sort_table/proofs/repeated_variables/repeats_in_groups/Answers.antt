use Rattle.std.proofs.Common.{◌++◌, ◌∙◌, List, sym, ap}
use Rattle.std.proofs.lemmas.List.{length-map}
use Rattle.mcrl2_syntax.specs.ProcessParts.{var_group_of}
use Rattle.sort_table.specs.declared.repeats.Entry.{Entry}
use Rattle.sort_table.specs.BareProcesses.{bare_variables}
use Rattle.sort_table.specs.Repeats.{mark_of, marks_of}
use Rattle.sort_table.specs.ItemMarks.{marks_of_groups}
use Rattle.sort_table.proofs.TwiceLemmas.{twice_found}
use Rattle.sort_table.proofs.repeated_variables.repeats_in_groups.Goals as goal
use Rattle.std.proofs.Common.{map}

pub returns : goal.returns
returns c =
    c.is_some.ensures
    ∙ twice_found (bare_variables (map var_group_of c.args.groups.now)) (marks_of c.as_slice.result.now) _ c.in_ok-found.found
    (ap (λ (es : List Entry). marks_of es) c.as_slice.ensures.value ∙ (c.in_ok-add_groups.ensures ∙ ap (λ (es : List Entry). marks_of es ++ marks_of_groups 0 0 c.args.groups.now) c.new-entries.ensures.items))
    (sym (length-map c.as_slice.result.now mark_of)) c.in_ok-found.ensures
