-- A signature with a `struct` sort has what it had in front.
use Rattle.std.proofs.Common.{◌≡◌, List, [], ◌∷◌, ◌++◌, length, map, refl, sym, ap, ◌∙◌, append_assoc, append-nil}
use Rattle.data_theory.specs.declared.ids.NameId.{NameId}
use Rattle.data_theory.specs.declared.ids.SortId.{SortId}
use Rattle.data_theory.specs.Taken.{with_name, with_names}
use Rattle.data_theory.specs.Complete.{BeginsWith}
use Rattle.data_theory.specs.Sorts.{Kind, SortInfo, structured, with_kind, abstract_sort}
use Rattle.data_theory.specs.Functions.{Function}
use Rattle.data_theory.specs.Rows.{built_ins}
use Rattle.data_theory.specs.Table.{sort_rows}
use Rattle.data_theory.specs.Structs.{struct_functions, numbers_from}
use Rattle.data_theory.specs.Signature.{with_sort}
use Rattle.data_theory.specs.StructGrowth.{WithAStructSortItIsGrown}
use Rattle.data_theory.proofs.IdGrowthLemmas.{name_behind}

pub last_kind : (ss : List SortInfo) (s : SortInfo) (k : Kind) → with_kind (ss ++ s ∷ []) (length ss) k ≡ ss ++ record s { kind = k } ∷ []
last_kind [] s k = refl
last_kind (t ∷ ss) s k = ap (λ l. t ∷ l) (last_kind ss s k)

-- names that are taken come behind the others
pub names_behind : (ns ms : List NameId) → BeginsWith ns (with_names ns ms)
names_behind ns [] = ([], sym (append-nil ns))
names_behind ns (m ∷ ms) =
    let one = name_behind ns m in
    let rest = names_behind (with_name ns m) ms in
    (one.0 ++ rest.0, rest.1 ∙ (ap (λ l. l ++ rest.0) one.1 ∙ append_assoc ns one.0 rest.0))

pub with_a_struct_sort_it_is_grown : WithAStructSortItIsGrown
with_a_struct_sort_it_is_grown g n cs =
    let sort : SortId = record { 0 = length g.sorts } in
    let behind = length (with_sort g n).functions in
    let functions = struct_functions sort behind cs in
    let taken = names_behind g.taken (n ∷ map (λ (f : Function). f.name) functions) in
    record {
      new_texts = [];
      new_taken = taken.0;
      new_sorts = record (abstract_sort n) { kind = structured (numbers_from behind (length cs)) } ∷ [];
      new_sort_names = (n, sort) ∷ [];
      new_functions = built_ins g.texts (sort_rows sort) ++ functions;
      new_declared = numbers_from behind (length functions);
      new_actions = [];
      new_variables = [];
      texts = sym (append-nil g.texts);
      taken = taken.1;
      sorts = last_kind g.sorts (abstract_sort n) (structured (numbers_from behind (length cs)));
      sort_names = refl;
      functions = append_assoc g.functions (built_ins g.texts (sort_rows sort)) functions;
      declared = refl;
      actions = sym (append-nil g.actions);
      variables = sym (append-nil g.variables);
    }
