-- What a `struct` declares keeps the tables of a signature.
use Rattle.std.proofs.Common.{◌≡◌, ℕ, suc, ◌<◌, ◌+◌, List, [], ◌∷◌, ◌++◌, map, length, false, Option, Some, None, refl, sym, ap, ◌∙◌, arith}
use Rattle.std.specs.List.{All}
use Rattle.std.proofs.lemmas.List.Elements.{All-nil, All-cons, All-head, All-tail, All-append, All-weaker, All-from_recursion}
use Rattle.std.proofs.lemmas.Option.{slice_get_within}
use Rattle.data_theory.specs.declared.ids.NameId.{NameId}
use Rattle.data_theory.specs.declared.ids.SortId.{SortId}
use Rattle.data_theory.specs.Table.{bool_sort}
use Rattle.data_theory.specs.Functions.{Function, AreNew, declared_function}
use Rattle.data_theory.specs.Taken.{with_names}
use Rattle.data_theory.specs.Sorts.{structured}
use Rattle.data_theory.specs.Structs.{Con, named_function, projections_of, recogniser_of, all_projections, all_recognisers, count_of, named_fields, constructor_of, constructors_of, struct_functions, numbers_from}
use Rattle.data_theory.specs.Signature.{Sig}
use Rattle.data_theory.specs.Complete.{IsFunctionWithin}
use Rattle.data_theory.specs.IdSymbols.{if_declared, declared_from}
use Rattle.data_theory.specs.IdTables.{IsEntry, declared, HasSortsIn, IsTable}
use Rattle.data_theory.specs.IdTableLaws.{StructsKeepTheTables}
use Rattle.data_theory.proofs.IdSymbolLemmas.{declared_both}
use Rattle.data_theory.proofs.IdTableLemmas.{first_stays, one_place_joined, constructors_keep_the_tables}
use Rattle.data_theory.proofs.StructWithin.{struct_within}

-- ---- all of them are declared
abbrev IsDeclared : Function → Type 0
IsDeclared f = (f.word ≡ None) × (f.is_list_constant ≡ false)

-- what holds of the function of a name holds of all projections and recognisers
module _ (s : SortId) (P : Function → Type 0) (here : (n : NameId) (to : SortId) → P (declared_function n (s ∷ []) to)) where
  named_is : (n : Option NameId) (to : SortId) → All P (named_function s n to)
  named_is None to = All-nil P
  named_is (Some n) to = All-from_recursion P (named_function s (Some n) to) (here n to, tt)

  projections_are : (fields : List (Option NameId × SortId)) → All P (projections_of s fields)
  projections_are [] = All-nil P
  projections_are (f ∷ fields) = All-append P (named_function s f.0 f.1) (projections_of s fields) (named_is f.0 f.1) (projections_are fields)

  pub all_projections_are : (cs : List Con) → All P (all_projections s cs)
  all_projections_are [] = All-nil P
  all_projections_are (c ∷ cs) = All-append P (projections_of s c.fields) (all_projections s cs) (projections_are c.fields) (all_projections_are cs)

  pub all_recognisers_are : (cs : List Con) → All P (all_recognisers s cs)
  all_recognisers_are [] = All-nil P
  all_recognisers_are (c ∷ cs) = All-append P (recogniser_of s c) (all_recognisers s cs) (named_is c.test bool_sort) (all_recognisers_are cs)

constructors_declared : (s : SortId) (p t : ℕ) (cs : List Con) → All IsDeclared (constructors_of s p t cs)
constructors_declared s p t [] = All-nil IsDeclared
constructors_declared s p t (c ∷ cs) =
    All-cons IsDeclared (constructor_of s p t c) (constructors_of s (p + named_fields c.fields) (t + count_of c.test) cs) (refl, refl) (constructors_declared s (p + named_fields c.fields) (t + count_of c.test) cs)

struct_declared : (s : SortId) (n : ℕ) (cs : List Con) → All IsDeclared (struct_functions s n cs)
struct_declared s n cs =
    let ps : List Function = all_projections s cs in
    let made : List Function = constructors_of s (n + length cs) (n + length cs + length ps) cs in
    All-append IsDeclared (made ++ ps) (all_recognisers s cs) (All-append IsDeclared made ps (constructors_declared s (n + length cs) (n + length cs + length ps) cs) (all_projections_are s IsDeclared (λ k to. (refl, refl)) cs)) (all_recognisers_are s IsDeclared (λ k to. (refl, refl)) cs)

-- ---- functions that are declared together keep the tables
declared_numbers : (fs : List Function) (k : ℕ) → All IsDeclared fs → declared_from k fs ≡ numbers_from k (length fs)
declared_numbers [] k all = refl
declared_numbers (f ∷ fs) k all =
    let here : f.word ≡ None = (All-head IsDeclared f fs all).0 in
    let next : suc k ≡ k + 1 = omega arith in
    (λ i. if_declared k (here i) ++ declared_from (suc k) fs) ∙ ap (λ l. record { 0 = k } ∷ l) (declared_numbers fs (suc k) (All-tail IsDeclared f fs all) ∙ ap (λ n. numbers_from n (length fs)) next)

pub declared_functions_keep : (g : Sig) (fs : List Function) (taken : List NameId) → IsTable g → All IsDeclared fs → All (HasSortsIn g.sorts) fs → AreNew g.functions fs
    → IsTable (record g { functions = g.functions ++ fs; declared = g.declared ++ numbers_from (length g.functions) (length fs); taken = taken })
declared_functions_keep g fs taken table are within new =
    let start : 0 + length g.functions ≡ length g.functions = omega arith in
    record {
      different = table.different;
      sorts = table.sorts;
      entries = All-append (IsEntry g.texts g.sorts) g.functions fs table.entries (All-weaker IsDeclared (IsEntry g.texts g.sorts) (λ f h. declared h.0 h.1) fs are);
      within = All-append (HasSortsIn g.sorts) g.functions fs table.within within;
      once = one_place_joined g.functions fs table.once new;
      first = first_stays g.functions fs table.first;
      listed = (λ i. table.listed i ++ numbers_from (length g.functions) (length fs)) ∙ sym (declared_both g.functions fs 0 ∙ ap (λ l. declared_from 0 g.functions ++ l) (ap (λ n. declared_from n fs) start ∙ declared_numbers fs (length g.functions) are));
    }

pub structs_keep_the_tables : StructsKeepTheTables
structs_keep_the_tables g s cs table bare within new =
    let n : ℕ = length g.functions in
    let fs : List Function = struct_functions s n cs in
    let l : s.0 < length g.sorts = slice_get_within g.sorts s.0 bare.0 bare.1 in
    let sorts : All (HasSortsIn g.sorts) fs = All-weaker (IsFunctionWithin (length g.texts) (length g.sorts) (n + length fs)) (HasSortsIn g.sorts) (λ f h. (h.found, h.gives)) fs (struct_within (length g.texts) (length g.sorts) s n cs l (omega (arith, l)) within) in
    let taken : List NameId = with_names g.taken (map (λ f. f.name) fs) in
    let declared : Sig = record g { functions = g.functions ++ fs; declared = g.declared ++ numbers_from n (length fs); taken = taken } in
    constructors_keep_the_tables declared s (structured (numbers_from n (length cs))) (declared_functions_keep g fs taken table (struct_declared s n cs) sorts new) bare refl
