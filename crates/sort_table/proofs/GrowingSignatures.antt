-- The vocabulary of a signature that has grown.
use Rattle.std.proofs.Common.{◌≡◌, ◌<◌, ℕ, zero, suc, List, [], ◌∷◌, ◌++◌, length, map, get_or, refl, ap, ◌∙◌, subst, arith}
use Rattle.std.specs.Prelude.{Option, Some, None, slice_get}
use Rattle.std.specs.List.{All}
use Rattle.std.proofs.lemmas.Option.{none-some, same_Some}
use Rattle.std.proofs.lemmas.List.Elements.{All-head, All-tail}
use Rattle.data_theory.specs.declared.ids.NameId.{NameId}
use Rattle.data_theory.specs.declared.ids.SortId.{SortId}
use Rattle.data_theory.specs.declared.ids.FunId.{FunId}
use Rattle.data_theory.specs.Terms.{Sort}
use Rattle.data_theory.specs.EqualityLaws.{Grows}
use Rattle.data_theory.specs.Keys.{Key}
use Rattle.data_theory.specs.Functions.{Function}
use Rattle.data_theory.specs.Signature.{Sig}
use Rattle.data_theory.specs.Complete.{IsComplete, IsFunctionWithin, IsActionWithin}
use Rattle.data_theory.specs.IdData.{data_meant}
use Rattle.data_theory.specs.IdTerms.{sort_under, IsGrown}
use Rattle.data_theory.proofs.IdDataLemmas.{growth_keeps_meant_data}
use Rattle.data_theory.proofs.IdSortLemmas.{growth_keeps_meant_sorts}
use Rattle.sort_table.specs.Expressions.{Name}
use Rattle.sort_table.specs.SignatureVocabularies.{text_under, function_name_of, function_names_from, sort_name_under, action_under}
use Rattle.sort_table.specs.Growth.{More}
use Rattle.sort_table.specs.SignatureGrowth.{GrownSignaturesHaveMore}
use Rattle.sort_table.proofs.Growing.{front_entry}

map_behind : {A B : Type 0} (f : A → B) (xs ys : List A) → map f (xs ++ ys) ≡ map f xs ++ map f ys
map_behind f [] ys = refl
map_behind f (x ∷ xs) ys = ap (λ zs. f x ∷ zs) (map_behind f xs ys)

pub map_as : {A B : Type 0} (P : A → Type 0) (f k : A → B) → ((x : A) → P x → f x ≡ k x) → (xs : List A) → All P xs → map f xs ≡ map k xs
map_as P f k same [] all = refl
map_as P f k same (x ∷ xs) all =
    let p : f x ≡ k x = same x (All-head P x xs all) in
    let q : map f xs ≡ map k xs = map_as P f k same xs (All-tail P x xs all) in
    λ j. p j ∷ q j

at_place : {A : Type 0} (P : A → Type 0) (xs : List A) (i : ℕ) (x : A) → All P xs → slice_get xs i ≡ Some x → P x
at_place P [] i x all h = absurd (none-some x h)
at_place P (y ∷ ys) zero x all h = subst P (same_Some y x h) (All-head P y ys all)
at_place P (y ∷ ys) (suc i) x all h = at_place P ys i x (All-tail P y ys all) h

get_in_front : {A : Type 0} (xs ys : List A) (i : ℕ) → i < length xs → slice_get (xs ++ ys) i ≡ slice_get xs i
get_in_front [] ys i h = let no_way : ⊥ = omega arith in absurd no_way
get_in_front (x ∷ xs) ys zero h = refl
get_in_front (x ∷ xs) ys (suc i) h = let l : i < length xs = omega arith in get_in_front xs ys i l

count_on : ℕ → List FunId → ℕ
count_on k [] = k
count_on k (i ∷ is) = count_on (suc k) is

names_behind : (g : Sig) (k : ℕ) (is js : List FunId) → function_names_from g k (is ++ js) ≡ function_names_from g k is ++ function_names_from g (count_on k is) js
unfolding count_on
names_behind g k [] js = refl
names_behind g k (i ∷ is) js = ap (λ rs. (function_name_of g (slice_get g.functions i.0), k) ∷ rs) (names_behind g (suc k) is js)

module _ (g h : Sig) (complete : IsComplete g) (grown : IsGrown g h) where
  same_text : (n : NameId) → n.0 < length g.texts → text_under h n ≡ text_under g n
  same_text n l = ap (λ ts. get_or ts n.0 []) grown.texts ∙ front_entry g.texts grown.new_texts n.0 [] l

  pub same_sort_name : (e : NameId × SortId) → (e.0.0 < length g.texts) × (e.1.0 < length g.sorts) → sort_name_under h e ≡ sort_name_under g e
  same_sort_name e l =
      let n : text_under h e.0 ≡ text_under g e.0 = same_text e.0 l.0 in
      let s : sort_under h e.1 ≡ sort_under g e.1 = growth_keeps_meant_sorts g h grown e.1 l.1 in
      λ j. (n j, s j)

  same_action : (a : Key) → IsActionWithin (length g.texts) (length g.sorts) a → action_under h a ≡ action_under g a
  same_action a l =
      let n : text_under h a.name ≡ text_under g a.name = same_text a.name l.named in
      let ss : map (sort_under h) a.sorts ≡ map (sort_under g) a.sorts = map_as (λ (s : SortId). s.0 < length g.sorts) (sort_under h) (sort_under g) (growth_keeps_meant_sorts g h grown) a.sorts l.takes in
      λ j. (n j, ss j)

  same_function_name : (i : FunId) → i.0 < length g.functions → function_name_of h (slice_get h.functions i.0) ≡ function_name_of g (slice_get g.functions i.0)
  same_function_name i l =
      ap (λ fs. function_name_of h (slice_get fs i.0)) grown.functions ∙ ap (function_name_of h) (get_in_front g.functions grown.new_functions i.0 l)
      ∙ of_entry (slice_get g.functions i.0) refl
    where
      of_entry : (o : Option Function) → slice_get g.functions i.0 ≡ o → function_name_of h o ≡ function_name_of g o
      of_entry None q = refl
      of_entry (Some f) q = same_text f.name (at_place (IsFunctionWithin (length g.texts) (length g.sorts) (length g.functions)) g.functions i.0 f complete.within.functions_within q).named

  same_names : (k : ℕ) (is : List FunId) → All (λ (i : FunId). i.0 < length g.functions) is → function_names_from h k is ≡ function_names_from g k is
  same_names k [] all = refl
  same_names k (i ∷ is) all =
      let P : FunId → Type 0 = λ j. j.0 < length g.functions in
      let n : function_name_of h (slice_get h.functions i.0) ≡ function_name_of g (slice_get g.functions i.0) = same_function_name i (All-head P i is all) in
      let rest : function_names_from h (suc k) is ≡ function_names_from g (suc k) is = same_names (suc k) is (All-tail P i is all) in
      λ j. (n j, k) ∷ rest j

pub grown_signatures_have_more : GrownSignaturesHaveMore
grown_signatures_have_more g h complete table roles roles_after grown =
    let grows : Grows (data_meant g) (data_meant h) = growth_keeps_meant_data g h table roles roles_after grown in
    let more_names : List (Name × Sort) = map (sort_name_under h) grown.new_sort_names in
    let more_functions : List (Name × ℕ) = function_names_from h (count_on 0 g.declared) grown.new_declared in
    let more_actions : List (Name × List Sort) = map (action_under h) grown.new_actions in
    let m : More = record { sorts = grows.new_sorts; functions = grows.new_functions; sort_names = more_names; function_names = more_functions; actions = more_actions } in
    let s : map (sort_name_under h) h.sort_names ≡ map (sort_name_under g) g.sort_names ++ more_names =
    ap (map (sort_name_under h)) grown.sort_names ∙ map_behind (sort_name_under h) g.sort_names grown.new_sort_names
    ∙ ap (λ rs. rs ++ more_names) (map_as (λ e. (e.0.0 < length g.texts) × (e.1.0 < length g.sorts)) (sort_name_under h) (sort_name_under g) (same_sort_name g h complete grown) g.sort_names complete.within.sort_names) in
    let f : function_names_from h 0 h.declared ≡ function_names_from g 0 g.declared ++ more_functions =
    ap (function_names_from h 0) grown.declared ∙ names_behind h 0 g.declared grown.new_declared ∙ ap (λ rs. rs ++ more_functions) (same_names g h complete grown 0 g.declared complete.within.declared) in
    let a : map (action_under h) h.actions ≡ map (action_under g) g.actions ++ more_actions =
    ap (map (action_under h)) grown.actions ∙ map_behind (action_under h) g.actions grown.new_actions
    ∙ ap (λ as_. as_ ++ more_actions) (map_as (IsActionWithin (length g.texts) (length g.sorts)) (action_under h) (action_under g) (same_action g h complete grown) g.actions complete.within.actions) in
    (m, (λ j. record { tables = record { sorts = grows.sorts j; functions = grows.functions j }; sort_names = s j; function_names = f j; actions = a j }), refl)
