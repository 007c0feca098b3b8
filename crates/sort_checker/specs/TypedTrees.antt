-- What is asked of expressions that were read.
use Rattle.std.specs.Prelude.{◌≡◌, ◌&&◌, ◌||◌, Bool, true, false, not, List, [], ◌∷◌, map, Option, Some, None, is_some, is_none, option_map, option_and_then}
use Rattle.std.specs.Global.{Global}
use Rattle.std.specs.BTreeMap.{BTreeMap, get_by}
use Rattle.std.specs.Cmp.Lexicographic.{slice_cmp}
use Rattle.std.specs.Ordering.{nat_cmp}
use Rattle.std.specs.List.{list_all}
use denote.Ref.{Bor}
use Rattle.mcrl2_syntax.specs.declared.data_tree.DataTree.{DataTree}
use Rattle.mcrl2_syntax.specs.declared.process_tree.Renaming.{Renaming}
use Rattle.mcrl2_syntax.specs.DataTrees.{plain_data}
use Rattle.mcrl2_syntax.specs.ProcessParts.{PlainAction, tau_action, named_action}
use Rattle.data_theory.specs.declared.actions.ActEntry.{ActEntry}
use Rattle.data_theory.specs.IdTerms.{sort_under}
use Rattle.data_theory.specs.Signature.{Sig}
use Rattle.data_theory.specs.Terms.{Sort, Term, boolean}
use Rattle.process_terms.specs.Processes as processes
use Rattle.sort_table.specs.Expressions.{Name, Expression}
use Rattle.sort_table.specs.BareData.{bare_data}
use Rattle.sort_table.specs.NamedLists.{all_named, first_named}
use Rattle.sort_table.specs.SignatureVocabularies.{vocabulary_of}
use Rattle.sort_table.specs.Vocabularies.{EachPair}
use Rattle.data_typing.specs.declared.nodes.Reading.{Reading}
use Rattle.data_typing.specs.CodeWords as code
use Rattle.data_typing.specs.Contexts.{IsReadingOf}
use Rattle.data_typing.specs.Meanings.{typing_in}
use Rattle.data_typing.specs.Typings.{Typing, exactly, checked, all_at}
use Rattle.sort_checker.specs.declared.parameter_tables.Parameter.{Parameter}
use Rattle.sort_checker.specs.declared.text_contexts.TextContext.{TextContext}
use Rattle.sort_checker.specs.declared.typed_parts.Way.{Way}
use Rattle.sort_checker.specs.declared.typed_parts.Way.TheVariants as ways
use Rattle.sort_checker.specs.declared.variable_scopes.VariableScope.{VariableScope}
use Rattle.sort_checker.specs.FullVocabularies.{Parameters, FullVocabulary}
use Rattle.sort_checker.specs.PartTypings.{action_of, are_assignments, right_side}
use Rattle.sort_checker.specs.Parts.{ScopedDeclaration, parts_of}
use Rattle.sort_checker.specs.ParameterTables.{parameters_of, parameters_under}
use Rattle.sort_checker.specs.ScopeLaws.{Both}
use Rattle.sort_checker.specs.Faults.{is_typed}

-- the typing of an expression in code
abbrev pub typing_of : TextContext → VariableScope → Expression → Typing
typing_of c s e = typing_in (vocabulary_of c.sig.now) (code.scope_of c.sig.now.texts s.scope) e

abbrev pub typings_of : TextContext → VariableScope → List DataTree → List Typing
typings_of c s ts = map (typing_of c s) (map bare_data (map plain_data ts))

-- each of these was read from an expression with this typing
abbrev pub AreReadings : Sig → List Reading → List Typing → Type 0
AreReadings g rs ts = EachPair (IsReadingOf g) rs ts

abbrev pub how_of : Way → Sort → Typing → Option Term
how_of ways.Exactly = exactly
how_of ways.Checked = checked

-- ---- actions and calls
abbrev pub is_action : TextContext → Name → List Typing → Bool
is_action c x ts = is_some (action_of x ts (all_named x (vocabulary_of c.sig.now).actions))

abbrev pub is_call : TextContext → Name → List Typing → Bool
is_call c x ts = is_some (option_and_then (λ ps. all_at checked (map (λ (p : Name × Sort). p.1) ps) ts) (option_map (parameters_of c.sig.now) (parameters_under c.processes x)))

-- the arguments fit the sorts of an action in one way or the other
abbrev pub fits_action : Sig → List Typing → Bor ActEntry → Bool
fits_action g ts a = is_some (all_at exactly (map (sort_under g) a.now.sorts.items) ts) || is_some (all_at checked (map (sort_under g) a.now.sorts.items) ts)

-- an action or a call
abbrev pub is_step : TextContext → VariableScope → PlainAction → Bool
is_step c s (tau_action span) = true
is_step c s (named_action span x ds) = is_action c x.bytes (map (typing_of c s) (map bare_data ds)) || is_call c x.bytes (map (typing_of c s) (map bare_data ds))

-- ---- calls by assignment
abbrev pub value_under : BTreeMap (Bor Name) Reading → Name → Option Reading
value_under m x = get_by (λ (k : Bor Name). slice_cmp nat_cmp x k.now) m

-- what is assigned to each name was read
abbrev pub HasValues : TextContext → VariableScope → List (Name × Expression) → BTreeMap (Bor Name) Reading → Type 0
HasValues c s ds m = (x : Name) → Both (λ r e. IsReadingOf c.sig.now r (typing_of c s e)) (value_under m x) (first_named x ds)

-- what is assigned to a parameter checks at its sort
abbrev pub value_checks : TextContext → VariableScope → List (Name × Expression) → Name × Sort → Bool
value_checks c s ds p = is_some (option_and_then (λ e. (typing_of c s e).checks p.1) (first_named p.0 ds)) || is_none (first_named p.0 ds)

abbrev pub values_check : TextContext → VariableScope → List (Name × Expression) → Parameters → Bool
values_check c s ds ps = list_all (value_checks c s ds) ps

-- values for the parameters of a process, where there is one
abbrev pub are_values : TextContext → VariableScope → List (Name × Expression) → Option Parameters → Bool
are_values c s ds None = false
are_values c s ds (Some ps) = are_assignments ps ds && values_check c s ds ps

-- ---- equations
-- a condition that isn't written is `true`
abbrev pub is_condition : TextContext → VariableScope → Option Expression → Bool
is_condition c s None = true
is_condition c s (Some e) = is_some ((typing_of c s e).checks boolean)

abbrev pub is_equation : TextContext → VariableScope → Option Expression → Expression → Expression → Bool
is_equation c s e l r = is_condition c s e && is_some (right_side (typing_of c s l) (typing_of c s r))

-- ---- renamings
abbrev pub renaming_at : Renaming → processes.Renaming
renaming_at r = record { from = r.old.bytes.items; to = r.renamed.bytes.items }

-- what is answered for a declaration
abbrev pub are_parts_typed : FullVocabulary → ScopedDeclaration → Bool
are_parts_typed v d = list_all (is_typed v) (parts_of d)

abbrev pub is_untyped : FullVocabulary → ScopedDeclaration → Bool
is_untyped v d = not (are_parts_typed v d)
