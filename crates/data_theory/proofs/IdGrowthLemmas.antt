-- Calls that let a signature grow.
use Rattle.std.proofs.Common.{◌≡◌, ◌==◌, List, [], ◌∷◌, ◌++◌, length, Bool, true, false, cond, refl, sym, ap, ◌∙◌, append_assoc, append-nil}
use Rattle.std.specs.List.{list_any}
use Rattle.data_theory.specs.declared.ids.NameId.{NameId}
use Rattle.data_theory.specs.Names.{with_text, place_in}
use Rattle.data_theory.specs.Keys.{key}
use Rattle.data_theory.specs.Taken.{with_name}
use Rattle.data_theory.specs.Complete.{BeginsWith}
use Rattle.data_theory.specs.Sorts.{abstract_sort, list_sort}
use Rattle.data_theory.specs.Rows.{built_ins}
use Rattle.data_theory.specs.Table.{sort_rows, list_table}
use Rattle.data_theory.specs.IdGrowth.{WithATextItIsGrown, WithAnActionItIsGrown, WithAVariableItIsGrown, WithAnAliasItIsGrown, WithAFunctionItIsGrown, WithASortItIsGrown, WithAListSortItIsGrown, GrowthAfterGrowthIsGrowth}
use Rattle.data_theory.proofs.NameLemmas.{text_behind}

same : {A : Type 0} (xs : List A) → xs ≡ xs ++ []
same xs = sym (append-nil xs)

-- a name that is taken comes behind the others
pub name_behind : (ns : List NameId) (n : NameId) → BeginsWith ns (with_name ns n)
name_behind ns n = by_test (list_any (λ (m : NameId). n.0 == m.0) ns)
  where
    by_test : (b : Bool) → BeginsWith ns (cond b ns (ns ++ n ∷ []))
    by_test true = ([], same ns)
    by_test false = (n ∷ [], refl)

pub with_a_text_it_is_grown : WithATextItIsGrown
with_a_text_it_is_grown g t = record {
  new_texts = (text_behind g.texts t).more;
  new_taken = (name_behind g.taken (place_in (with_text g.texts t) t)).0;
  new_sorts = [];
  new_sort_names = [];
  new_functions = [];
  new_declared = [];
  new_actions = [];
  new_variables = [];
  texts = (text_behind g.texts t).is;
  taken = (name_behind g.taken (place_in (with_text g.texts t) t)).1;
  sorts = same g.sorts;
  sort_names = same g.sort_names;
  functions = same g.functions;
  declared = same g.declared;
  actions = same g.actions;
  variables = same g.variables;
}

pub with_an_action_it_is_grown : WithAnActionItIsGrown
with_an_action_it_is_grown g t sorts = record {
  new_texts = (text_behind g.texts t).more;
  new_taken = [];
  new_sorts = [];
  new_sort_names = [];
  new_functions = [];
  new_declared = [];
  new_actions = key (place_in (with_text g.texts t) t) sorts ∷ [];
  new_variables = [];
  texts = (text_behind g.texts t).is;
  taken = same g.taken;
  sorts = same g.sorts;
  sort_names = same g.sort_names;
  functions = same g.functions;
  declared = same g.declared;
  actions = refl;
  variables = same g.variables;
}

pub with_a_variable_it_is_grown : WithAVariableItIsGrown
with_a_variable_it_is_grown g v = record {
  new_texts = [];
  new_taken = [];
  new_sorts = [];
  new_sort_names = [];
  new_functions = [];
  new_declared = [];
  new_actions = [];
  new_variables = v ∷ [];
  texts = same g.texts;
  taken = same g.taken;
  sorts = same g.sorts;
  sort_names = same g.sort_names;
  functions = same g.functions;
  declared = same g.declared;
  actions = same g.actions;
  variables = refl;
}

pub with_an_alias_it_is_grown : WithAnAliasItIsGrown
with_an_alias_it_is_grown g n s = record {
  new_texts = [];
  new_taken = (name_behind g.taken n).0;
  new_sorts = [];
  new_sort_names = (n, s) ∷ [];
  new_functions = [];
  new_declared = [];
  new_actions = [];
  new_variables = [];
  texts = same g.texts;
  taken = (name_behind g.taken n).1;
  sorts = same g.sorts;
  sort_names = refl;
  functions = same g.functions;
  declared = same g.declared;
  actions = same g.actions;
  variables = same g.variables;
}

pub with_a_function_it_is_grown : WithAFunctionItIsGrown
with_a_function_it_is_grown g f = record {
  new_texts = [];
  new_taken = (name_behind g.taken f.name).0;
  new_sorts = [];
  new_sort_names = [];
  new_functions = f ∷ [];
  new_declared = record { 0 = length g.functions } ∷ [];
  new_actions = [];
  new_variables = [];
  texts = same g.texts;
  taken = (name_behind g.taken f.name).1;
  sorts = same g.sorts;
  sort_names = same g.sort_names;
  functions = refl;
  declared = refl;
  actions = same g.actions;
  variables = same g.variables;
}

pub with_a_sort_it_is_grown : WithASortItIsGrown
with_a_sort_it_is_grown g n = record {
  new_texts = [];
  new_taken = (name_behind g.taken n).0;
  new_sorts = abstract_sort n ∷ [];
  new_sort_names = (n, record { 0 = length g.sorts }) ∷ [];
  new_functions = built_ins g.texts (sort_rows (record { 0 = length g.sorts }));
  new_declared = [];
  new_actions = [];
  new_variables = [];
  texts = same g.texts;
  taken = (name_behind g.taken n).1;
  sorts = refl;
  sort_names = refl;
  functions = refl;
  declared = same g.declared;
  actions = same g.actions;
  variables = same g.variables;
}

pub with_a_list_sort_it_is_grown : WithAListSortItIsGrown
with_a_list_sort_it_is_grown g e = record {
  new_texts = [];
  new_taken = [];
  new_sorts = list_sort e ∷ [];
  new_sort_names = [];
  new_functions = built_ins g.texts (list_table e (record { 0 = length g.sorts }));
  new_declared = [];
  new_actions = [];
  new_variables = [];
  texts = same g.texts;
  taken = same g.taken;
  sorts = refl;
  sort_names = same g.sort_names;
  functions = refl;
  declared = same g.declared;
  actions = same g.actions;
  variables = same g.variables;
}

pub growth_after_growth_is_growth : GrowthAfterGrowthIsGrowth
growth_after_growth_is_growth g h k a b = record {
  new_texts = a.new_texts ++ b.new_texts;
  new_taken = a.new_taken ++ b.new_taken;
  new_sorts = a.new_sorts ++ b.new_sorts;
  new_sort_names = a.new_sort_names ++ b.new_sort_names;
  new_functions = a.new_functions ++ b.new_functions;
  new_declared = a.new_declared ++ b.new_declared;
  new_actions = a.new_actions ++ b.new_actions;
  new_variables = a.new_variables ++ b.new_variables;
  texts = b.texts ∙ ap (λ l. l ++ b.new_texts) a.texts ∙ append_assoc g.texts a.new_texts b.new_texts;
  taken = b.taken ∙ ap (λ l. l ++ b.new_taken) a.taken ∙ append_assoc g.taken a.new_taken b.new_taken;
  sorts = b.sorts ∙ ap (λ l. l ++ b.new_sorts) a.sorts ∙ append_assoc g.sorts a.new_sorts b.new_sorts;
  sort_names = b.sort_names ∙ ap (λ l. l ++ b.new_sort_names) a.sort_names ∙ append_assoc g.sort_names a.new_sort_names b.new_sort_names;
  functions = b.functions ∙ ap (λ l. l ++ b.new_functions) a.functions ∙ append_assoc g.functions a.new_functions b.new_functions;
  declared = b.declared ∙ ap (λ l. l ++ b.new_declared) a.declared ∙ append_assoc g.declared a.new_declared b.new_declared;
  actions = b.actions ∙ ap (λ l. l ++ b.new_actions) a.actions ∙ append_assoc g.actions a.new_actions b.new_actions;
  variables = b.variables ∙ ap (λ l. l ++ b.new_variables) a.variables ∙ append_assoc g.variables a.new_variables b.new_variables;
}
