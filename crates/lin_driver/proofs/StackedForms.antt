-- What the stack encoder makes of a form: how the signature grows, and the names of variables.
use Rattle.std.proofs.Common.{◌≡◌, ◌<◌, ◌⊎◌, inl, inr, ⊎_elim, ℕ, List, [], ◌∷◌, map, length, get_or, codes, refl, sym, ap, ◌∙◌, subst, arith, length-append}
use Rattle.std.specs.Prelude.{Contains}
use Rattle.std.specs.List.{All}
use Rattle.std.proofs.lemmas.List.Elements.{All-nil, All-cons, All-weaker, All-contains, Contains-append_cases, Contains-append_left, Contains-append_right}
use Rattle.std.proofs.lemmas.Option.{get_or_from_slice_get}
use Rattle.data_theory.specs.declared.ids.NameId.{NameId}
use Rattle.data_theory.specs.declared.ids.SortId.{SortId}
use Rattle.data_theory.specs.declared.ids.VarId.{VarId}
use Rattle.data_theory.specs.declared.ids.TermId.{TermId}
use Rattle.data_theory.specs.declared.signature.Variable.{Variable}
use Rattle.data_theory.specs.Functions.{Function, declared_function}
use Rattle.data_theory.specs.Names.{place_in, with_text}
use Rattle.data_theory.specs.Signature.{Sig, IsTaken, with_variable}
use Rattle.data_theory.specs.Fresh.{IsFreshIn}
use Rattle.data_theory.specs.IdTerms.{IsGrown}
use Rattle.data_theory.specs.WholeSignatures.{IsSignature}
use Rattle.data_theory.proofs.IdGrowthLemmas.{growth_after_growth_is_growth, with_a_variable_it_is_grown}
use Rattle.data_theory.proofs.NameLemmas.{place_is}
use Rattle.term_pool.specs.Pools.{PoolContents}
use Rattle.term_pool.proofs.DeclaredConstants.{fresh_grows, still_read}
use Rattle.lps_core.specs.Fitting.{IsVariable}
use Rattle.lps_core.specs.Naming.{name_of, list_names, table_names, function_names, ParamsHaveOwnNames}
use Rattle.lps_core.specs.PlainLinears.{PlainLinear}
use Rattle.lps_core.proofs.FunctionNames.{functions_taken, list_names_stay}
use Rattle.lps_core.proofs.Members.{contains_map, map_contains}
use Rattle.lps_core.proofs.NamedSums.{name_kept, not_taken, with_name_has, last_variable}
use Rattle.lps_core.proofs.NamingLoops.{fresh_names}
use Rattle.sort_table.specs.SignatureVocabularies.{text_under}
use Rattle.greibach.specs.FittingForms.{FormFits, EquationFits}
use Rattle.greibach.specs.PlainForms.{PlainEquation, PlainForm}
use Rattle.regular_encoder.specs.FormColumns.{IsKindIn, column_kinds}
use Rattle.regular_encoder.proofs.LayingOut.{kinds_in}
use Rattle.stack_encoder.specs.AddedSort.{AreFreshNames, no_name, one_more_name, DeclaresStack}
use Rattle.stack_encoder.specs.StackColumns.{AreClosedTerms, no_closed_term, one_more_closed_term}
use Rattle.stack_encoder.specs.StackedForms.{IsStackedForm}
use Rattle.lps_printer.specs.GrowingByAdditions.{GrowsByStruct, GrowsByAdditions, nothing_added, then_constants, then_struct, added_actions}
use Rattle.lps_printer.proofs.GrowingByConstants.{GrowsOn, on_then}
use Rattle.lps_printer.proofs.GrownStructs.{it_is_grown}
use Rattle.lin_driver.specs.TakenNames.{HaveIdentifiers}
use Rattle.lin_driver.proofs.NamedVariables.{KindNamed, kinds_named, constants_variables, below_or_last, named_still, named_more, fresh_named, fresh_text}
use Rattle.lin_driver.proofs.StackGrowth.{by_struct, struct_sort_stands, parameter_grows, closed_terms_grow}

-- ---- variables
words_variables : (g : Sig) (bases : List (List ℕ)) (h : Sig) (names : List NameId) → AreFreshNames g bases h names → h.variables ≡ g.variables
words_variables g _ _ _ no_name = refl
words_variables g _ i _ (one_more_name {bases = bases} {names = names} {h = h} a f) = ap (λ (z : Sig). z.variables) f.taken ∙ words_variables g bases h names a

closed_variables : {g : Sig} {p : PoolContents} {h : Sig} {q : PoolContents} {ss : List SortId} {ts : List TermId} → AreClosedTerms g p ss h q ts → h.variables ≡ g.variables
closed_variables no_closed_term = refl
closed_variables (one_more_closed_term a k) = constants_variables k.declared ∙ closed_variables a

-- the name that was fresh is taken
fresh_is_taken : (g h : Sig) (base : List ℕ) (n : NameId) → IsSignature g → (f : IsFreshIn g base n h) → Contains h.taken n
fresh_is_taken g h base n s f =
    let place : n ≡ place_in h.texts f.text = place_is h.texts f.text n.0 (fresh_names g h base n s f).stands.table.different f.named in
    subst (Contains h.taken) (sym place) (subst (λ (z : Sig). Contains z.taken (place_in z.texts f.text)) (sym f.taken) (with_name_has g.taken (place_in (with_text g.texts f.text) f.text)))

module _ (g h : Sig) (p q : PoolContents) (f : PlainForm) (l : PlainLinear) (sg : IsSignature g) (sh : IsSignature h) (fits : FormFits g p.trees f) (names : HaveIdentifiers g) (e : IsStackedForm g p h q f l) where
  abbrev kinds : List (NameId × SortId)
  kinds = column_kinds g f

  abbrev d : Sig
  d = e.has.declared

  abbrev x : DeclaresStack g kinds d e.symbols e.stack
  x = e.has.sort

  abbrev s1 : Sig
  s1 = x.with_sort_only

  abbrev named : Sig
  named = x.parameter.named

  abbrev one : Variable
  one = record { name = x.parameter.name; sort = e.symbols.sort }

  there : All (IsKindIn g) kinds
  there = kinds_in g p f sg fits kinds refl

  its_names : All (KindNamed g) kinds
  its_names = kinds_named g f names (All-weaker (EquationFits g p.trees f) (λ (q : PlainEquation). All (IsVariable g) q.params) (λ q k. k.params) f.equations fits.equations)

  struct : GrowsByStruct g s1
  struct = by_struct g kinds s1 e.symbols.sort sg x.sort there its_names

  s1_stands : IsSignature s1
  s1_stands = struct_sort_stands g kinds s1 e.symbols.sort sg x.sort there its_names

  closed : GrowsOn d h
  closed = closed_terms_grow e.has.values.closed_terms

  rest : GrowsOn s1 h
  rest = on_then s1 d h (parameter_grows s1 d e.symbols.sort e.stack x.parameter) closed

  -- a struct, and then constants
  pub stack_grows : GrowsByAdditions g h
  stack_grows = then_constants (then_struct nothing_added struct s1_stands) rest.grows sh

  pub stack_adds_no_actions : added_actions stack_grows ≡ []
  unfolding stack_grows
  stack_adds_no_actions = refl

  -- ---- its parameter is the one new variable
  sort_variables : s1.variables ≡ g.variables
  sort_variables = ap (λ (z : Sig). z.variables) x.sort.is ∙ words_variables g _ x.sort.named _ x.sort.are_words.fresh

  named_variables : named.variables ≡ g.variables
  named_variables = ap (λ (z : Sig). z.variables) x.parameter.fresh.taken ∙ sort_variables

  variables_are : h.variables ≡ (with_variable named one).variables
  variables_are = closed_variables e.has.values.closed_terms ∙ ap (λ (z : Sig). z.variables) x.parameter.is

  stack_is : e.stack ≡ record { 0 = length named.variables }
  stack_is = ap (λ n. record { 0 = n }) x.parameter.number

  pub stack_or_old : (y : VarId) → IsVariable h y → IsVariable g y ⊎ Contains l.params y
  stack_or_old y k =
      let own : y.0 < length (with_variable named one).variables = subst (λ vs. y.0 < length vs) variables_are k in
      let long = length-append named.variables (one ∷ []) in
      ⊎_elim
      (λ old. inl (subst (λ vs. y.0 < length vs) named_variables old))
      (λ last. inr (subst (λ ys. Contains ys y) (sym e.params) (0, omega arith, stack_is ∙ ap (λ n. record { 0 = n }) (sym last))))
      (below_or_last y.0 (length named.variables) (omega (arith, own, long)))

  -- ---- its name
  struct_grown : IsGrown g s1
  struct_grown = it_is_grown g s1 sg struct

  pub stack_identifiers : HaveIdentifiers h
  stack_identifiers =
      let at_sort : HaveIdentifiers s1 = named_still g s1 struct_grown sort_variables names in
      let at_name : HaveIdentifiers named = fresh_named s1 named (codes "q") x.parameter.name x.parameter.fresh at_sort in
      let at_parameter : HaveIdentifiers d = subst HaveIdentifiers (sym x.parameter.is) (named_more named one (fresh_text s1 named (codes "q") x.parameter.name (refl, refl) x.parameter.fresh) at_name) in
      named_still d h closed.grows.grown (closed_variables e.has.values.closed_terms) at_parameter

  stack_there : IsVariable d e.stack
  stack_there =
      let long = length-append named.variables (one ∷ []) in
      let at = ap (λ (v : VarId). v.0) stack_is in
      subst (λ (z : Sig). e.stack.0 < length z.variables) (sym x.parameter.is) (omega (arith, long, at))

  stack_name : name_of h e.stack ≡ x.parameter.name
  stack_name =
      let none : Variable = record { name = record { 0 = 0 }; sort = record { 0 = 0 } } in
      name_kept d h e.stack closed.grows.grown stack_there ∙ ap (λ (z : Sig). name_of z e.stack) x.parameter.is
      ∙ ap (λ (v : VarId). (get_or (with_variable named one).variables v.0 none).name) stack_is ∙ ap (λ (v : Variable). v.name) (last_variable named one none)

  -- the name is taken once the parameter is there
  name_taken_then : IsTaken d x.parameter.fresh.text
  name_taken_then = subst (λ (z : Sig). IsTaken z x.parameter.fresh.text) (sym x.parameter.is) (x.parameter.name, x.parameter.fresh.named, fresh_is_taken s1 named (codes "q") x.parameter.name s1_stands x.parameter.fresh)

  name_text : text_under h x.parameter.name ≡ x.parameter.fresh.text
  name_text =
      let w = growth_after_growth_is_growth named d h (subst (IsGrown named) (sym x.parameter.is) (with_a_variable_it_is_grown named one)) closed.grows.grown in
      get_or_from_slice_get h.texts x.parameter.name.0 x.parameter.fresh.text [] (still_read named.texts h.texts w.new_texts w.texts x.parameter.name.0 x.parameter.fresh.text x.parameter.fresh.named)

  -- it isn't that of what was taken before
  not_before : Contains s1.taken x.parameter.name → ⊥
  not_before i = not_taken s1 x.parameter.fresh.text named.texts x.parameter.name s1_stands x.parameter.fresh.fresh.free ((fresh_grows s1 (codes "q") x.parameter.name named x.parameter.fresh).new_texts, (fresh_grows s1 (codes "q") x.parameter.name named x.parameter.fresh).texts) x.parameter.fresh.named i

  no_function : Contains (function_names h) x.parameter.name → ⊥
  no_function i = ⊎_elim
      (λ listed. not_before (functions_taken s1 s1_stands x.parameter.name (Contains-append_left (list_names s1.texts) (table_names s1) x.parameter.name (subst (λ ns. Contains ns x.parameter.name) (list_names_stay s1 h s1_stands rest.grows.grown) listed))))
      (λ named_. (
      let r = contains_map (λ (k : Function). k.name) h.functions x.parameter.name named_ in
      ⊎_elim
      (λ old. not_before (functions_taken s1 s1_stands x.parameter.name (Contains-append_right (list_names s1.texts) (table_names s1) x.parameter.name (subst (Contains (table_names s1)) (sym r.1.1) (map_contains (λ (k : Function). k.name) s1.functions r.0 (subst (λ fs. Contains fs r.0) functions_then old))))))
      (λ new. (
      let c = contains_map (λ (k : NameId × SortId). declared_function k.0 [] k.1) closed.grows.constants r.0 new in
      let same : c.0.0 ≡ x.parameter.name = sym (r.1.1 ∙ ap (λ (k : Function). k.name) c.1.1) in
      All-contains (λ (k : NameId × SortId). ¬ (IsTaken d (text_under h k.0))) closed.grows.constants c.0 closed.grows.taken c.1.0 (subst (IsTaken d) (sym (ap (text_under h) same ∙ name_text)) name_taken_then)
      ))
      (Contains-append_cases d.functions (map (λ (k : NameId × SortId). declared_function k.0 [] k.1) closed.grows.constants) r.0 (subst (λ fs. Contains fs r.0) closed.grows.functions r.1.0))
      ))
      (Contains-append_cases (list_names h.texts) (table_names h) x.parameter.name i)
    where
      functions_then : d.functions ≡ s1.functions
      functions_then = ap (λ (z : Sig). z.functions) x.parameter.is ∙ ap (λ (z : Sig). z.functions) x.parameter.fresh.taken

  pub stack_has_own_name : ParamsHaveOwnNames h l.params
  stack_has_own_name = subst (ParamsHaveOwnNames h) (sym e.params) (record {
    differ = ((λ c. (let low = c.1 in omega (arith, low))), tt);
    unused = All-cons (λ y. ¬ (Contains (function_names h) (name_of h y))) e.stack [] (λ i. no_function (subst (Contains (function_names h)) stack_name i)) (All-nil (λ y. ¬ (Contains (function_names h) (name_of h y))));
  })
