use Rattle.std.proofs.Common.{◌≡◌, ◌++◌, ◌∷◌, ◌<◌, ◌+◌, [], List, ℕ, length, map, sym, ap, ◌∙◌, subst, arith, length-append}
use Rattle.std.specs.Prelude.{Some, None, Vec, cond, bytes_eq}
use Rattle.std.specs.Option.{option_or}
use Rattle.std.specs.Global.{Global}
use Rattle.std.specs.List.{AllByRecursion, Contains, flat_map}
use Rattle.std.proofs.lemmas.List.{append-nil}
use Rattle.mcrl2_syntax.specs.declared.declaration.Decl.{Decl}
use Rattle.mcrl2_syntax.specs.declared.process_tree.VarGroup.{VarGroup}
use Rattle.mcrl2_syntax.specs.Declarations.{plain_decl}
use Rattle.mcrl2_syntax.specs.ProcessParts.{var_group_of}
use Rattle.mcrl2_syntax.specs.ProcessTrees.{plain_process}
use Rattle.mcrl2_syntax.proofs.Lists.{all_front, all_both}
use Rattle.sort_table.specs.BareProcesses.{bare_process, bare_variables}
use Rattle.sort_table.specs.DeclarationTrees.{declaration_of}
use Rattle.sort_table.specs.Expressions.{Name}
use Rattle.sort_table.specs.Identifiers.{in_group, in_process}
use Rattle.sort_table.specs.SignatureVocabularies.{vocabulary_of}
use Rattle.sort_checker.specs.declared.process_tables.Parameter.{Parameter}
use Rattle.sort_checker.specs.declared.process_tables.ProcessTable.{ProcessTable}
use Rattle.sort_checker.specs.FullVocabularies.{Written, process_by}
use Rattle.sort_checker.specs.NameNumbers.{number_under}
use Rattle.sort_checker.specs.ParameterTables.{sorted_variables}
use Rattle.sort_checker.specs.CodeContexts.{IsParameterOver}
use Rattle.sort_checker.specs.ReadyTrees.{AreReadyGroups, IsReadyDeclaration}
use Rattle.sort_checker.specs.TextProcesses.{ListsProcesses}
use Rattle.sort_checker.proofs.ListedProcesses.{lists_more, places_within}
use Rattle.sort_checker.proofs.OtherDeclarations.{no_process}
use Rattle.sort_checker.proofs.ReadyLeaves.{groups_ready}
use Rattle.sort_checker.proofs.table_building.add_process.Goals as goal

pub returns-in_default-clause-lists : goal.returns-in_default-clause-lists
returns-in_default-clause-lists c = λ ws lists.
    subst (λ (us : List Written). ListsProcesses c.args.sig.now us c.args.table.now) (sym (append-nil ws) ∙ ap (λ (us : List Written). ws ++ us) (sym (no_process c.args.declaration.now c.in_default.not-Proc))) lists

pub parameters_of-requires-clause-ready : goal.parameters_of-requires-clause-ready
parameters_of-requires-clause-ready c =
    let ready = subst (λ (d : Decl). IsReadyDeclaration c.args.sig.now.texts (plain_decl d)) c.in-Proc.is c.requires.ready in
    let gs = map var_group_of c.in-Proc.groups.items in
    subst (λ (vs : List VarGroup). AreReadyGroups c.args.sig.now.texts (map var_group_of vs)) (sym c.as_slice.ensures.value)
    (groups_ready c.args.sig.now.texts gs ready.0.1 (all_front (Contains c.args.sig.now.texts) (flat_map in_group gs) (in_process (plain_process c.in-Proc.field-3.value)) ready.1.1))

pub returns-clause-lists : goal.returns-clause-lists
returns-clause-lists c = λ ws lists.
    let written : Name → Written = λ n. record { name = n; parameters = bare_variables (map var_group_of c.in-Proc.groups.items); body = bare_process (plain_process c.in-Proc.field-3.value) } in
    let new : ProcessTable = record { places = c.put_first.new.places; parameters = c.push.new.self; actions = c.args.table.now.actions } in
    let name : Name = c.as_slice-name.result.now in
    let count : c.len-number.result ≡ length c.args.table.now.parameters.items = omega (arith, c.len-number.ensures, c.args.table.now.parameters.ok.0) in
    let put : (x : Name) → number_under c.put_first.new.places x ≡ option_or (number_under c.args.table.now.places x) (cond (bytes_eq name x) (Some (length c.args.table.now.parameters.items)) None)
    = λ x. c.in_ok-put_first.ensures x ∙ ap (λ (n : ℕ). option_or (number_under c.args.table.now.places x) (cond (bytes_eq name x) (Some n) None)) count in
    subst (λ (d : Decl). ListsProcesses c.args.sig.now (ws ++ process_by (declaration_of d)) new) (sym c.in-Proc.is)
    (subst (λ (n : Name). ListsProcesses c.args.sig.now (ws ++ written n ∷ []) new) c.as_slice-name.ensures.value
    (lists_more c.args.sig.now ws c.args.table.now new (written name) c.in_ok-parameters.parameters lists (λ x. put x)
    c.in_ok-push.ensures.items
    (c.in_ok-parameters.ensures.means ∙ ap (λ (vs : List VarGroup). sorted_variables (vocabulary_of c.args.sig.now).sort_names (bare_variables (map var_group_of vs))) c.as_slice.ensures.value)))

pub returns-clause-over : goal.returns-clause-over
returns-clause-over c = λ over.
    let name : Name = c.as_slice-name.result.now in
    let count : c.len-number.result ≡ length c.args.table.now.parameters.items = omega (arith, c.len-number.ensures, c.args.table.now.parameters.ok.0) in
    let put : (x : Name) → number_under c.put_first.new.places x ≡ option_or (number_under c.args.table.now.places x) (cond (bytes_eq name x) (Some (length c.args.table.now.parameters.items)) None)
    = λ x. c.in_ok-put_first.ensures x ∙ ap (λ (n : ℕ). option_or (number_under c.args.table.now.places x) (cond (bytes_eq name x) (Some n) None)) count in
    let long : length c.push.new.self.items ≡ length c.args.table.now.parameters.items + 1 = ap length c.in_ok-push.ensures.items ∙ length-append c.args.table.now.parameters.items (c.in_ok-parameters.parameters ∷ []) in
    record {
      places = λ x k e.
          let within = places_within (number_under c.args.table.now.places x) (number_under c.put_first.new.places x) (bytes_eq name x) (length c.args.table.now.parameters.items) (put x) (over.places x) k e in
          omega (arith, within, long);
      parameters =
          subst (AllByRecursion (λ (ps : Vec Parameter Global). AllByRecursion (IsParameterOver c.args.sig.now) ps.items)) (sym c.in_ok-push.ensures.items)
          (all_both (λ (ps : Vec Parameter Global). AllByRecursion (IsParameterOver c.args.sig.now) ps.items) c.args.table.now.parameters.items (c.in_ok-parameters.parameters ∷ []) over.parameters (c.in_ok-parameters.ensures.over, tt));
      actions = over.actions;
    }
