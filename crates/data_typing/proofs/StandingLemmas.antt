-- Terms whose sorts stand in a signature.
use Rattle.std.proofs.Common.{◌≡◌, ◌<◌, ◌⊎◌, inl, inr, ℕ, zero, suc, Bool, true, false, cond, List, [], ◌∷◌, map, length, get_or, refl, sym, subst, ap, ◌∙◌, arith, Some}
use Rattle.std.specs.Prelude.{Option}
use Rattle.std.specs.List.{All, AllByRecursion, Contains}
use Rattle.std.proofs.lemmas.Bool.{cases_order}
use Rattle.std.proofs.lemmas.Option.{same_Some}
use Rattle.std.proofs.lemmas.List.Elements.{All-head, All-tail}
use Rattle.data_theory.specs.declared.ids.SortId.{SortId}
use Rattle.data_theory.specs.declared.ids.FunId.{FunId}
use Rattle.data_theory.specs.declared.signature.Variable.{Variable}
use Rattle.data_theory.specs.declared.words.Word.{Word}
use Rattle.data_theory.specs.declared.rows.Row.{Row}
use Rattle.data_theory.specs.declared.rows.Row.TheVariants as rows
use Rattle.data_theory.specs.Terms.{Sort, boolean, positive, natural, integer, list, named, Symbol, minus, upcast, Term, Terms, variable, numeral, unknown, application, none, more, apply}
use Rattle.data_theory.specs.Declarations.{IsSort, Declares, argument_sorts, result_sort, HasSort, HaveSorts}
use Rattle.data_theory.specs.Rows.{row_word, row_sorts, row_result, row_is_list_constant}
use Rattle.data_theory.specs.Sorts.{IsListOver, IsAnyListOver}
use Rattle.data_theory.specs.Table.{language_table}
use Rattle.data_theory.specs.Signature.{Sig}
use Rattle.data_theory.specs.WholeSignatures.{IsSignature}
use Rattle.data_theory.specs.IdData.{data_meant}
use Rattle.data_theory.specs.IdSorts.{sort_meant}
use Rattle.data_theory.specs.IdSymbols.{word_symbol}
use Rattle.data_theory.specs.IdTables.{HasSortsIn}
use Rattle.data_theory.specs.IdTrees as trees
use Rattle.data_theory.specs.IdTrees.{Tree, Trees}
use Rattle.data_theory.specs.IdTerms.{sort_under, term_under, terms_under, variable_sorts, IsTreeWithin, AreTreesWithin}
use Rattle.data_theory.proofs.IdSortLemmas.{read_within, sorts_mean_their_kinds, same_meant_sort}
use Rattle.data_theory.proofs.IdSymbolLemmas.{holds_at, symbol_fits, positive_is, natural_is, integer_is, positive_within, natural_within, integer_within}
use Rattle.sort_table.specs.NamedSorts.{sort_count}
use Rattle.sort_table.specs.Duplicates.{any_sort, lists_of_any}
use Rattle.data_typing.specs.declared.flat_sorts.FlatSort.{FlatSort}
use Rattle.data_typing.specs.declared.nodes.Callee.TheVariants as callees
use Rattle.data_typing.specs.declared.nodes.Overload.{Overload}
use Rattle.data_typing.specs.declared.steps.Step.{Step}
use Rattle.data_typing.specs.declared.steps.Step.TheVariants as steps
use Rattle.data_typing.specs.Typings.{Place, itself, elements, settled}
use Rattle.data_typing.specs.Typings as typings
use Rattle.data_typing.specs.BuiltIns.{place_numbered, row_places}
use Rattle.data_typing.specs.FlatSorts.{flat_sort, lists}
use Rattle.data_typing.specs.NodeTypings.{callee_symbol, signature_of}
use Rattle.data_typing.specs.Making.{Item, leaf, over, terms_of, Turns, Make}
use Rattle.data_typing.specs.CodeSteps.{item_of, items_of, AreSteps, IsStepWithin}
use Rattle.data_typing.specs.Within.{IsFlatWithin, IsRowOf, IsBuiltIn, IsCallee, IsOverloadWithin}
use Rattle.data_typing.specs.StandingSorts.{IsSortIn, EachSubtermOf, HasSortIn, HasItsSortsIn, TreesHaveTheirSortsIn, HasFunctionSortsIn, StepLacksASort}
use Rattle.data_typing.proofs.MeaningSorts.{any_row_tells}
use Rattle.data_typing.proofs.RowNumbers.{list_kind}
use Rattle.data_typing.proofs.StepsWithin.{all_appended, all_popped, all_read}
use Rattle.data_typing.proofs.WithinLemmas.{IsSortWithin, flat_there}

pub mapped_get : {A B : Type 0} (P : B → Type 0) (f : A → B) (xs : List A) (k : ℕ) (d : A) → k < length xs → AllByRecursion P (map f xs) → P (f (get_or xs k d))
mapped_get P f [] k d l all = absurd (let never : ⊥ = omega (arith, l) in never)
mapped_get P f (x ∷ xs) zero d l all = all.0
mapped_get P f (x ∷ xs) (suc k) d l all = mapped_get P f xs k d (omega (arith, l)) all.1

module _ (g : Sig) (signature : IsSignature g) where
  -- ---- sorts
  positive_in : IsSortIn g positive
  positive_in = (record { 0 = 1 }, positive_within g signature.table, positive_is g signature.table)

  natural_in : IsSortIn g natural
  natural_in = (record { 0 = 2 }, natural_within g signature.table, natural_is g signature.table)

  integer_in : IsSortIn g integer
  integer_in = (record { 0 = 3 }, integer_within g signature.table, integer_is g signature.table)

  -- a list sort stands behind its element
  pub record HasElement (s : Sort) : Type 0 where
    pub element : SortId
    pub lists_at : SortId
    pub is_list : IsListOver g.sorts element lists_at
    pub within : element.0 < length g.sorts
    pub means : sort_under g element ≡ s

  pub element_in : (s : Sort) → IsSortIn g (list s) → HasElement s
  element_in s (i, l, e) =
      let x = read_within g.sorts i.0 l in
      let k = list_kind (sort_meant g.sorts) _ x.0.kind s (sym (sorts_mean_their_kinds g.sorts signature.table.sorts i x.0 x.1) ∙ e) in
      let before = signature.table.sorts.behind_element k.0 i (x.0, x.1, k.1) in
      record { element = k.0; lists_at = i; is_list = (x.0, x.1, k.1); within = (let less : k.0.0 < length g.sorts = omega (arith, before, l) in less); means = k.2 }

  fewer_lists_in : (n : ℕ) (s : Sort) (i : ℕ) → i < n → IsSortIn g (lists n s) → IsSortIn g (list (lists i s))
  fewer_lists_in zero s i l h = absurd (let never : ⊥ = omega (arith, l) in never)
  fewer_lists_in (suc n) s i l h = by_order (cases_order i n) (λ less. let k = element_in (lists n s) h in fewer_lists_in n s i less (k.element, k.within, k.means))
    where
      by_order : (i ≡ n) ⊎ ((i < n) ⊎ (n < i)) → (i < n → IsSortIn g (list (lists i s))) → IsSortIn g (list (lists i s))
      by_order (inl e) below = subst (λ (k : ℕ). IsSortIn g (list (lists k s))) (sym e) h
      by_order (inr (inl less)) below = below less
      by_order (inr (inr above)) below = absurd (let never : ⊥ = omega (arith, l, above) in never)

  -- where there are no lists over the lists, so deep, there are no deeper ones
  pub no_lists_in : (n i : ℕ) (base sort : SortId) → i < n → sort.0 < length g.sorts → sort_under g sort ≡ lists i (sort_under g base) → ¬ (IsAnyListOver g.sorts sort) → ¬ (IsSortIn g (lists n (sort_under g base)))
  no_lists_in n i base sort l within means none_over h =
      let k = element_in (lists i (sort_under g base)) (fewer_lists_in n (sort_under g base) i l h) in
      let same : k.element ≡ sort = same_meant_sort g.sorts signature.table.sorts k.element sort k.within within (k.means ∙ sym means) in
      none_over (k.lists_at.0, subst (λ (e : SortId). IsListOver g.sorts e k.lists_at) same k.is_list)

  -- ---- symbols
  abbrev pub SymbolSortsIn : Symbol → Type 0
  SymbolSortsIn f = AllByRecursion (IsSortIn g) (argument_sorts (data_meant g) f) × IsSortIn g (result_sort (data_meant g) f)

  abbrev mutual
    -- the sorts of all symbols of a term are in the signature
    pub SymbolsIn : Term → Type 0
    SymbolsIn (variable v) = Unit {0}
    SymbolsIn (numeral a z) = Unit {0}
    SymbolsIn (unknown d k) = Unit {0}
    SymbolsIn (application f ts) = SymbolSortsIn f × AllSymbolsIn ts

    pub AllSymbolsIn : Terms → Type 0
    AllSymbolsIn none = Unit {0}
    AllSymbolsIn (more t ts) = SymbolsIn t × AllSymbolsIn ts

  root_in : (t : Term) (s : Sort) → HasItsSortsIn g t → HasSort (data_meant g) (variable_sorts g) t s → IsSortIn g s
  root_in (variable v) s h k = h s k
  root_in (numeral a z) s h k = h s k
  root_in (unknown d n) s h k = h s k
  root_in (application f ts) s h k = h.0 s k

  arguments_in : (ts : Terms) (ss : List Sort) → HaveSorts (data_meant g) (variable_sorts g) ts ss → EachSubtermOf (HasSortIn g) ts → AllByRecursion (IsSortIn g) ss
  arguments_in none [] k h = tt
  arguments_in none (s ∷ ss) k h = absurd k
  arguments_in (more t ts) [] k h = absurd k
  arguments_in (more t ts) (s ∷ ss) k h = (root_in t s h.0 k.0, arguments_in ts ss k.1 h.1)

  mutual
    -- of a well-sorted term each subterm's sort is in the signature only where the sorts of its symbols are
    symbols_in : (t : Term) (s : Sort) → HasSort (data_meant g) (variable_sorts g) t s → HasItsSortsIn g t → SymbolsIn t
    symbols_in (variable v) s k h = tt
    symbols_in (numeral a z) s k h = tt
    symbols_in (unknown d n) s k h = tt
    symbols_in (application f ts) s k h = ((arguments_in ts (argument_sorts (data_meant g) f) k.1 h.1, subst (IsSortIn g) (sym k.2) (h.0 s k)), all_symbols_in ts (argument_sorts (data_meant g) f) k.1 h.1)

    all_symbols_in : (ts : Terms) (ss : List Sort) → HaveSorts (data_meant g) (variable_sorts g) ts ss → EachSubtermOf (HasSortIn g) ts → AllSymbolsIn ts
    all_symbols_in none ss k h = tt
    all_symbols_in (more t ts) [] k h = absurd k
    all_symbols_in (more t ts) (s ∷ ss) k h = (symbols_in t s k.0 h.0, all_symbols_in ts ss k.1 h.1)

  -- what merges has sorts of numbers alone
  applied_in : (f : Symbol) (us : Terms) → SymbolsIn (apply f us) → SymbolSortsIn f × AllSymbolsIn us
  applied_in (upcast positive natural) (more (numeral positive z) none) h = (((positive_in, tt), natural_in), (tt, tt))
  applied_in (upcast natural integer) (more (numeral natural z) none) h = (((natural_in, tt), integer_in), (tt, tt))
  applied_in (upcast positive integer) (more (numeral positive z) none) h = (((positive_in, tt), integer_in), (tt, tt))
  applied_in (minus positive) (more (numeral positive z) none) h = (((positive_in, tt), integer_in), (tt, tt))
  applied_in (minus natural) (more (numeral natural z) none) h = (((natural_in, tt), integer_in), (tt, tt))
  applied_in (minus integer) (more (numeral integer z) none) h = (((integer_in, tt), integer_in), (tt, tt))
  applied_in f us h = h

  -- ---- making
  listed_in : (ts : List Term) → AllSymbolsIn (terms_of ts) → AllByRecursion SymbolsIn ts
  listed_in [] h = tt
  listed_in (t ∷ ts) h = (h.0, listed_in ts h.1)

  abbrev ItemIn : Item → Type 0
  ItemIn (leaf t) = Unit {0}
  ItemIn (over f n) = SymbolSortsIn f

  turned_in : (h : Item) (ws ys : List Term) → Turns h ws ys → AllByRecursion SymbolsIn ys → ItemIn h × AllByRecursion SymbolsIn ws
  turned_in (leaf t) ws ys e all = (tt, (all_popped SymbolsIn ws ys t e all).0)
  turned_in (over f n) ws ys j all =
      let both = all_popped SymbolsIn j.front ys (apply f (terms_of j.last)) j.become all in
      let parts = applied_in f (terms_of j.last) both.1 in
      (parts.0, all_appended SymbolsIn j.front j.last ws j.are both.0 (listed_in j.last parts.1))

  made_in : (hs : List Item) (xs ys : List Term) → Make hs xs ys → AllByRecursion SymbolsIn ys → AllByRecursion ItemIn hs × AllByRecursion SymbolsIn xs
  made_in [] xs ys e all = (tt, subst (AllByRecursion SymbolsIn) (sym e) all)
  made_in (h ∷ hs) xs ys m all =
      let here = turned_in h m.0 ys m.2 all in
      let rest = made_in hs xs m.0 m.1 here.1 in
      ((here.0, rest.0), rest.1)

  -- ---- functions of steps
  hang_or_not : (at : Sort) (ps : List Place) → AllByRecursion (IsSort (data_meant g)) (map (typings.over at) ps) → IsSort (data_meant g) at ⊎ (map (typings.over at) ps ≡ map (typings.over boolean) ps)
  hang_or_not at [] h = inr refl
  hang_or_not at (itself ∷ ps) h = inl h.0
  hang_or_not at (elements ∷ ps) h = inl h.0
  hang_or_not at (settled r ∷ ps) h = behind (hang_or_not at ps h.1)
    where
      behind : IsSort (data_meant g) at ⊎ (map (typings.over at) ps ≡ map (typings.over boolean) ps) → IsSort (data_meant g) at ⊎ (r ∷ map (typings.over at) ps ≡ r ∷ map (typings.over boolean) ps)
      behind (inl k) = inl k
      behind (inr e) = inr (ap (λ l. r ∷ l) e)

  constant_alone : (r : Row) → row_is_list_constant r ≡ true → row_sorts r ≡ row_result r ∷ []
  constant_alone (rows.Constant w to) e = cc
  constant_alone (rows.ListConstant w to) e = refl
  constant_alone (rows.One w a to) e = cc
  constant_alone (rows.Two w a b to) e = cc
  constant_alone (rows.Three w a b c to) e = cc

  by_constant : (c : Bool) (ss as_ : List Sort) (to : Sort) → as_ ≡ cond c [] ss → (c ≡ true → ss ≡ to ∷ []) → AllByRecursion (IsSortIn g) as_ → IsSortIn g to → AllByRecursion (IsSortIn g) ss
  by_constant true ss as_ to e alone all last = subst (AllByRecursion (IsSortIn g)) (sym (alone refl)) (last, tt)
  by_constant false ss as_ to e alone all last = subst (AllByRecursion (IsSortIn g)) e all

  abbrev InWhereSymbol : Word → List Sort → Sort → Type 0
  InWhereSymbol w ss to = SymbolSortsIn (word_symbol w ss to) → AllByRecursion (IsSortIn g) ss × IsSortIn g to

  -- where the sorts of a row's symbol are in the signature, those of the row are
  row_in : (at : Sort) → IsSort (data_meant g) at → (r : Row) → Contains (language_table any_sort lists_of_any) r → InWhereSymbol (row_word r) (map (typings.over at) (row_places r)) (typings.over at (place_numbered (row_result r)))
  row_in at is r stands h =
      let tells = any_row_tells (data_meant g) at is r stands in
      let ss : List Sort = map (typings.over at) (row_places r) in
      let to : Sort = typings.over at (place_numbered (row_result r)) in
      let last : IsSortIn g to = subst (IsSortIn g) tells.5 h.1 in
      (by_constant (row_is_list_constant r) ss (argument_sorts (data_meant g) (word_symbol (row_word r) ss to)) to tells.4 (λ e. ap (λ is_. map (typings.over at) (map place_numbered is_)) (constant_alone r e)) h.0 last, last)

  word_in : (at : Sort) → IsSort (data_meant g) at → (w : Word) (ps : List Place) (p : Place) → IsRowOf w ps p → InWhereSymbol w (map (typings.over at) ps) (typings.over at p)
  word_in at is w ps p r =
      subst (λ v. InWhereSymbol v (map (typings.over at) ps) (typings.over at p)) r.word
      (subst (λ qs. InWhereSymbol (row_word r.row) (map (typings.over at) qs) (typings.over at p)) r.places
      (subst (λ q. InWhereSymbol (row_word r.row) (map (typings.over at) (row_places r.row)) (typings.over at q)) r.result (row_in at is r.row r.stands)))

  same_heads : (x y : Sort) (xs ys : List Sort) → x ∷ xs ≡ y ∷ ys → (x ≡ y) × (xs ≡ ys)
  same_heads x y xs ys e = ((let h : x ≡ y = cc in h), (let t : xs ≡ ys = cc in t))

  built_in_sorts_in : (w : Word) (ss : List Sort) (to : Sort) → IsBuiltIn w ss to → AllByRecursion (IsSort (data_meant g)) ss → IsSort (data_meant g) to → InWhereSymbol w ss to
  built_in_sorts_in w ss to b all last =
      by_place (hang_or_not b.at (b.result ∷ b.arguments) (subst (IsSort (data_meant g)) b.result_sort last, subst (AllByRecursion (IsSort (data_meant g))) b.sorts all))
    where
      at_place : (at : Sort) → IsSort (data_meant g) at → ss ≡ map (typings.over at) b.arguments → to ≡ typings.over at b.result → InWhereSymbol w ss to
      at_place at is e f = subst (λ rs. InWhereSymbol w rs to) (sym e) (subst (λ r. InWhereSymbol w (map (typings.over at) b.arguments) r) (sym f) (word_in at is w b.arguments b.result b.row))

      by_place : IsSort (data_meant g) b.at ⊎ (map (typings.over b.at) (b.result ∷ b.arguments) ≡ map (typings.over boolean) (b.result ∷ b.arguments)) → InWhereSymbol w ss to
      by_place (inl is) = at_place b.at is b.sorts b.result_sort
      by_place (inr e) =
          let both = same_heads (typings.over b.at b.result) (typings.over boolean b.result) (map (typings.over b.at) b.arguments) (map (typings.over boolean) b.arguments) e in
          at_place boolean tt (b.sorts ∙ both.1) (b.result_sort ∙ both.0)

  is_sort : (s : Sort) → IsSortWithin (sort_count g) s → IsSort (data_meant g) s
  is_sort boolean h = tt
  is_sort positive h = tt
  is_sort natural h = tt
  is_sort integer h = tt
  is_sort (list s) h = is_sort s h
  is_sort (named d) h = h

  flats_are_sorts : (fs : List FlatSort) → AllByRecursion (IsFlatWithin (sort_count g)) fs → AllByRecursion (IsSort (data_meant g)) (map flat_sort fs)
  flats_are_sorts [] h = tt
  flats_are_sorts (f ∷ fs) h = (is_sort (flat_sort f) (flat_there (sort_count g) f h.0), flats_are_sorts fs h.1)

  lacks_nothing : (y : FunId → Symbol) (c : ℕ) (f : Overload) → IsOverloadWithin (sort_count g) c f → (w : Word) → f.callee ≡ callees.BuiltIn w → SymbolSortsIn (signature_of y f).symbol → HasFunctionSortsIn g f
  lacks_nothing y c f within w is h =
      let ss : List Sort = map flat_sort f.arguments.items in
      let to : Sort = flat_sort f.result in
      built_in_sorts_in w ss to (subst (λ k. IsCallee c k ss to) is within.callee) (flats_are_sorts f.arguments.items within.arguments) (is_sort to (flat_there (sort_count g) f.result within.result))
      (subst (λ k. SymbolSortsIn (callee_symbol y k ss to)) is h)

  of_items : (y : FunId → Symbol) (hs : List Step) → AllByRecursion ItemIn (items_of y hs) → AllByRecursion (λ h. ItemIn (item_of y h)) hs
  of_items y [] h = tt
  of_items y (x ∷ hs) h = (h.0, of_items y hs h.1)

  step_lacks_nothing : (y : FunId → Symbol) (c : ℕ) (x : Step) → IsStepWithin (sort_count g) c x → ItemIn (item_of y x) → StepLacksASort g x → ⊥
  step_lacks_nothing y c (steps.Variable v) within h lacks = lacks
  step_lacks_nothing y c (steps.Numeral n) within h lacks = lacks
  step_lacks_nothing y c (steps.Apply f n) within h lacks = lacks.2 (lacks_nothing y c f within lacks.0 lacks.1 h)

  -- where a step lacks a sort, so does the term that the steps make
  pub term_lacks_a_sort : (y : FunId → Symbol) (c : ℕ) (hs : List Step) (want : Option Term) → AreSteps y (Some hs) want → AllByRecursion (IsStepWithin (sort_count g) c) hs → (x : Step) → Contains hs x → StepLacksASort g x
      → (t : Term) (s : Sort) → want ≡ Some t → HasSort (data_meant g) (variable_sorts g) t s → ¬ (HasItsSortsIn g t)
  term_lacks_a_sort y c hs want are within x among lacks t s is has in_ =
      let same : are.0 ≡ t = same_Some are.0 t (sym are.1 ∙ is) in
      let made = made_in (items_of y hs) [] (are.0 ∷ []) are.2 (subst SymbolsIn (sym same) (symbols_in t s has in_), tt) in
      let at : x ≡ get_or hs among.0 x = sym among.2 in
      step_lacks_nothing y c x (all_read (IsStepWithin (sort_count g) c) hs among.0 x among.1 at within) (all_read (λ h. ItemIn (item_of y h)) hs among.0 x among.1 at (of_items y hs made.0)) lacks

  -- ---- trees
  variable_in : (vs : List Variable) → All (λ (v : Variable). (v.name.0 < length g.texts) × (v.sort.0 < length g.sorts)) vs → (v : ℕ) (s : Sort) → Declares (map (λ (x : Variable). sort_under g x.sort) vs) v s → IsSortIn g s
  variable_in [] all v s h = absurd h
  variable_in (x ∷ vs) all zero s h = (x.sort, (All-head (λ (v : Variable). (v.name.0 < length g.texts) × (v.sort.0 < length g.sorts)) x vs all).1, h)
  variable_in (x ∷ vs) all (suc v) s h = variable_in vs (All-tail (λ (v : Variable). (v.name.0 < length g.texts) × (v.sort.0 < length g.sorts)) x vs all) v s h

  mutual
    tree_in : (t : Tree) → IsTreeWithin g t → HasItsSortsIn g (term_under g t)
    tree_in (trees.variable v) w = λ s h. variable_in g.variables signature.complete.within.variables v.0 s h
    tree_in (trees.numeral a z) w = λ s h. (a, w, h.0)
    tree_in (trees.function f ts) w =
        let entry = read_within g.functions f.0 w.0 in
        let fits = symbol_fits g signature.table f entry.0 entry.1 in
        let sorts = holds_at (HasSortsIn g.sorts) g.functions f.0 entry.0 signature.table.within entry.1 in
        (λ s h. (entry.0.result, sorts.1, sym fits.2 ∙ h.2), trees_in ts w.1)

    trees_in : (ts : Trees) → AreTreesWithin g ts → EachSubtermOf (HasSortIn g) (terms_under g ts)
    trees_in trees.none w = tt
    trees_in (trees.more t ts) w = (tree_in t w.0, trees_in ts w.1)

pub trees_have_their_sorts_in : TreesHaveTheirSortsIn
trees_have_their_sorts_in g signature t w = tree_in g signature t w
