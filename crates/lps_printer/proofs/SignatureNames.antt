-- The names of a signature word a text.
use Rattle.std.proofs.Common.{◌≡◌, ℕ, zero, suc, ◌+◌, ◌<◌, false, List, [], ◌∷◌, ◌++◌, length, map, take, codes, get_or, Option, Some, None, sym, ap, ◌∙◌, subst, arith, length-append}
use Rattle.std.specs.Prelude.{slice_get, IfSome}
use Rattle.std.proofs.lemmas.List.{length-map, get_or-map, get_or-append-add}
use Rattle.std.proofs.lemmas.Option.{none-some, same_Some, slice_get_within, slice_get-get_or, get_or_from_slice_get}
use Rattle.data_theory.specs.declared.ids.ActId.{ActId}
use Rattle.data_theory.specs.declared.ids.FunId.{FunId}
use Rattle.data_theory.specs.declared.ids.NameId.{NameId}
use Rattle.data_theory.specs.declared.ids.VarId.{VarId}
use Rattle.data_theory.specs.declared.signature.Variable.{Variable}
use Rattle.data_theory.specs.declared.words.ListWord.TheVariants as lists
use Rattle.data_theory.specs.declared.words.Word.TheVariants as words
use Rattle.data_theory.specs.Terms.{Sort, function}
use Rattle.data_theory.specs.Declarations.{Construction}
use Rattle.data_theory.specs.Sorts.{SortInfo}
use Rattle.data_theory.specs.Keys.{Key}
use Rattle.data_theory.specs.Functions.{Function}
use Rattle.data_theory.specs.Complete.{IsActionWithin, IsFunctionWithin, IsSortWithin}
use Rattle.data_theory.specs.Signature.{Sig}
use Rattle.data_theory.specs.IdSorts.{construction_of, constructions, IsDeclaredKind}
use Rattle.data_theory.specs.IdSymbols.{element_of}
use Rattle.data_theory.specs.IdTerms.{sort_under}
use Rattle.data_theory.specs.WholeSignatures.{IsSignature}
use Rattle.data_theory.proofs.IdSymbolLemmas.{holds_at, declared_is, listed_functions_mean_their_places}
use Rattle.data_theory.proofs.NameLemmas.{place_is}
use Rattle.sort_table.specs.Expressions.{Name}
use Rattle.sort_table.specs.SignatureVocabularies.{text_under, function_name_of}
use Rattle.sort_table.proofs.NewFunctions.{declared_place}
use Rattle.lps_printer.specs.Wordings.{place_of, IsConstantOf, no_constant}
use Rattle.lps_printer.specs.TextWordings.{NamesSorts, IsTextWordedBy}
use Rattle.lps_printer.specs.SignatureNames.{is_action_once, once_actions, once_functions, declared_name_of, is_declared_once, variable_name_of, names_under, text_or_none, sort_names, text_names_under}

-- ---- sorts
many_names : (g : Sig) (s : SortInfo) → length (map (λ (c : Construction). text_or_none g s.name) (construction_of s.kind)) ≡ length (construction_of s.kind)
many_names g s = length-map (construction_of s.kind) (λ (c : Construction). text_or_none g s.name)

pub sort_named_at : (g : Sig) (ss : List SortInfo) (k : ℕ) (i : SortInfo) (x : NameId) (d : Name) → slice_get ss k ≡ Some i → IsDeclaredKind i.kind → i.name ≡ Some x → get_or (sort_names g ss) (length (constructions (take k ss))) d ≡ text_under g x
sort_named_at g [] k i x d at declared named = absurd (none-some i at)
sort_named_at g (s ∷ ss) zero i x d at declared named = by_list (construction_of s.kind) (ap (λ (j : SortInfo). length (construction_of j.kind)) (same_Some s i at) ∙ declared)
  where
    by_list : (cs : List Construction) → length cs ≡ 1 → get_or (map (λ (c : Construction). text_or_none g s.name) cs ++ sort_names g ss) 0 d ≡ text_under g x
    by_list [] e = absurd (omega (arith, e))
    by_list (c ∷ cs) e = ap (text_or_none g) (ap (λ (j : SortInfo). j.name) (same_Some s i at) ∙ named)
sort_named_at g (s ∷ ss) (suc k) i x d at declared named =
    let front = map (λ (c : Construction). text_or_none g s.name) (construction_of s.kind) in
    let long : length (construction_of s.kind ++ constructions (take k ss)) ≡ length front + length (constructions (take k ss)) = length-append (construction_of s.kind) (constructions (take k ss)) ∙ ap (λ n. n + length (constructions (take k ss))) (sym (many_names g s)) in
    ap (λ n. get_or (front ++ sort_names g ss) n d) long ∙ get_or-append-add front (sort_names g ss) (length (constructions (take k ss))) d ∙ sort_named_at g ss k i x d at declared named

-- ---- functions
same_number : (j k : ℕ) → function j ≡ function k → j ≡ k
same_number j k e = cc

module _ (g : Sig) (is : IsSignature g) where
  pub declared_there : (f : FunId) (e : Function) → slice_get g.functions f.0 ≡ Some e → e.word ≡ None → slice_get g.declared (place_of g f) ≡ Some f
  declared_there f e at none =
      let p = declared_place g.functions 0 f.0 e at none in
      let z : 0 + f.0 ≡ f.0 = omega arith in
      let listed : slice_get g.declared p.0 ≡ Some f = ap (λ ds. slice_get ds p.0) is.table.listed ∙ p.1 ∙ ap (λ (n : ℕ). Some (record { 0 = n })) z in
      let same : p.0 ≡ place_of g f = same_number p.0 (place_of g f) (sym (listed_functions_mean_their_places g is.table p.0 f listed) ∙ declared_is g is.table f e at none) in
      ap (slice_get g.declared) (sym same) ∙ listed

  text_there : (n : NameId) → n.0 < length g.texts → slice_get g.texts n.0 ≡ Some (text_under g n)
  text_there n l = slice_get-get_or g.texts n.0 [] l

  variable_names_stand : (v : VarId) (x : Variable) → slice_get g.variables v.0 ≡ Some x → slice_get g.texts x.name.0 ≡ Some ((names_under g).variable v.0)
  variable_names_stand v x at =
      text_there x.name (holds_at (λ (y : Variable). (y.name.0 < length g.texts) × (y.sort.0 < length g.sorts)) g.variables v.0 x is.complete.within.variables at).0 ∙ ap Some (ap (variable_name_of g) (sym at))

  pub function_names_stand : (f : FunId) (e : Function) → slice_get g.functions f.0 ≡ Some e → e.word ≡ None → slice_get g.texts e.name.0 ≡ Some ((names_under g).function (place_of g f))
  function_names_stand f e at none =
      text_there e.name (holds_at (IsFunctionWithin (length g.texts) (length g.sorts) (length g.functions)) g.functions f.0 e is.complete.within.functions_within at).named
      ∙ ap Some (sym (ap (declared_name_of g) (declared_there f e at none) ∙ ap (function_name_of g) at))

  sort_names_stand : (x : Name) → NamesSorts g (text_names_under g x)
  sort_names_stand x = record {
    named = λ s i n at declared named.
        text_there n (subst (λ (o : Option NameId). IfSome o (λ (m : NameId). m.0 < length g.texts)) named (holds_at (IsSortWithin (length g.texts) (length g.sorts) (length g.functions)) g.sorts s.0 i is.complete.within.sorts_within at).named)
        ∙ ap Some (sym (sort_named_at g g.sorts s.0 i n (codes "S") at declared named));
  }

  actions_stand : (x : Name) (a : ActId) (k : Key) → slice_get g.actions a.0 ≡ Some k → (text_names_under g x).once (text_under g k.name) ≡ get_or (once_actions g) a.0 false
  actions_stand x a k at =
      let within = (holds_at (IsActionWithin (length g.texts) (length g.sorts)) g.actions a.0 k is.complete.within.actions at).named in
      let place = place_is g.texts (text_under g k.name) k.name.0 is.table.different (text_there k.name within) in
      ap (is_action_once g) (sym place)
      ∙ sym (get_or-map (λ (y : Key). is_action_once g y.name) g.actions a.0 k false (slice_get_within g.actions a.0 k at) ∙ ap (λ (y : Key). is_action_once g y.name) (get_or_from_slice_get g.actions a.0 k k at))

  -- with constants that a table has
  pub text_is_worded : (x : Name) (constants : List (Option FunId)) (constant : Sort → Option ℕ)
      → ((f : FunId) (e : Function) → slice_get g.functions f.0 ≡ Some e → e.word ≡ Some (words.List lists.Empty) → IsConstantOf g (record { names = names_under g; constant = constant }) (constant (element_of (sort_under g e.result))) (get_or constants f.0 None))
      → IsTextWordedBy g (once_functions g) constants (once_actions g) (record { names = text_names_under g x; constant = constant })
  text_is_worded x constants constant empty_lists = record {
    terms = record {
      variables = variable_names_stand;
      functions = function_names_stand;
      once_declared = λ f e at none. ap (is_declared_once g) (declared_there f e at none);
      empty_lists = empty_lists;
    };
    sorts = sort_names_stand x;
    actions_once = actions_stand x;
  }

  -- without constants
  pub bare_text_is_worded : (x : Name) → IsTextWordedBy g (once_functions g) [] (once_actions g) (record { names = text_names_under g x; constant = λ s. None })
  bare_text_is_worded x = text_is_worded x [] (λ s. None) (λ f e at word. no_constant)
