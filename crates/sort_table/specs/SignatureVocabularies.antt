-- The vocabulary of a signature.
use Rattle.std.specs.Prelude.{ℕ, suc, List, [], ◌∷◌, map, get_or, slice_get, Option, Some, None}
use Rattle.data_theory.specs.declared.ids.NameId.{NameId}
use Rattle.data_theory.specs.declared.ids.SortId.{SortId}
use Rattle.data_theory.specs.declared.ids.FunId.{FunId}
use Rattle.data_theory.specs.Terms.{Sort}
use Rattle.data_theory.specs.Keys.{Key}
use Rattle.data_theory.specs.Functions.{Function}
use Rattle.data_theory.specs.Signature.{Sig}
use Rattle.data_theory.specs.IdData.{data_meant}
use Rattle.data_theory.specs.IdTerms.{sort_under}
use Rattle.sort_table.specs.Expressions.{Name}
use Rattle.sort_table.specs.Vocabularies.{Vocabulary}

-- the text of a name
abbrev pub text_under : Sig → NameId → Name
text_under g n = get_or g.texts n.0 []

abbrev pub function_name_of : Sig → Option Function → Name
function_name_of g None = []
function_name_of g (Some f) = text_under g f.name

-- the names of functions, which are numbered from here on
abbrev pub function_names_from : Sig → ℕ → List FunId → List (Name × ℕ)
function_names_from g k [] = []
function_names_from g k (i ∷ is) = (function_name_of g (slice_get g.functions i.0), k) ∷ function_names_from g (suc k) is

abbrev pub sort_name_under : Sig → NameId × SortId → Name × Sort
sort_name_under g e = (text_under g e.0, sort_under g e.1)

abbrev pub action_under : Sig → Key → Name × List Sort
action_under g a = (text_under g a.name, map (sort_under g) a.sorts)

abbrev pub vocabulary_of : Sig → Vocabulary
vocabulary_of g = record {
  tables = data_meant g;
  sort_names = map (sort_name_under g) g.sort_names;
  function_names = function_names_from g 0 g.declared;
  actions = map (action_under g) g.actions;
}
