-- The names behind a product whose first step is of one kind: those behind the product, and that of the parameter which says that the first step is
-- still to come.
use Rattle.std.proofs.Common.{◌++◌, ◌∷◌, List, [], codes, refl, sym, subst, ⊎_elim}
use Rattle.std.specs.List.{All, Contains}
use Rattle.std.proofs.lemmas.List.Elements.{All-contains, Contains-append_cases}
use Rattle.data_theory.specs.declared.ids.VarId.{VarId}
use Rattle.data_theory.specs.IdTrees.{Tree}
use Rattle.data_theory.specs.Signature.{Sig}
use Rattle.data_theory.specs.Table.{bool_sort}
use Rattle.data_theory.specs.WholeSignatures.{IsSignature}
use Rattle.process_terms.specs.Processes.{Start}
use Rattle.bisim_laws.proofs.Firing.{contains_cases, contains_none}
use Rattle.lps_core.specs.Fitting.{Fits}
use Rattle.lps_core.specs.Naming.{name_of, function_names, GrowsByNames, ParamsHaveOwnNames}
use Rattle.lps_core.specs.PlainLinears.{PlainLinear}
use Rattle.lps_core.proofs.FunctionNames.{functions_taken, function_names_stay}
use Rattle.lps_core.proofs.Members.{all_from}
use Rattle.summand_expander.specs.Product.{product}
use Rattle.summand_expander.specs.StartedProducts.{IsFirst, new_first, IsProductFrom}
use Rattle.summand_expander.proofs.DoneStarting.{first_stands, one_more_name}
use Rattle.summand_expander.proofs.Separating.{IsNewFlag}
use Rattle.lin_driver.specs.TakenNames.{HaveIdentifiers}
use Rattle.lin_driver.proofs.NamedVariables.{fresh_text, fresh_named, named_more}
use Rattle.lin_driver.proofs.ProductNames.{whole_product, to_h, product_params_have_own_names, product_named}
use Rattle.lin_driver.proofs.StayingLinears.{fresh_by_names, own_names_stay}

first_named : {g h : Sig} {x : VarId} → IsFirst g h x → HaveIdentifiers g → HaveIdentifiers h
first_named {g = g} (new_first {h = h} {name = name} f) all = named_more h (record { name = name; sort = bool_sort }) (fresh_text g h (codes "first") name (refl, refl) f) (fresh_named g h (codes "first") name f all)

module _ (o : Start) (g h : Sig) (ts us : List Tree) (l r k : PlainLinear) (s : IsSignature g) (fl : Fits g ts l) (fr : Fits g ts r) (made : IsProductFrom o g h us l r k) where
  abbrev m : Sig
  m = made.between

  abbrev f : VarId
  f = made.flag

  pub to_product : GrowsByNames g m
  to_product = to_h product whole_product g m ts us l r made.plain s fl fr made.product

  pub to_first : GrowsByNames m h × IsNewFlag m h f
  to_first = first_stands m h f to_product.stands made.first

  -- the name of the parameter is no function's
  first_unused : ¬ (Contains (function_names h) (name_of h f))
  first_unused i = to_first.1.fresh (functions_taken m to_product.stands (name_of h f) (subst (λ ns. Contains ns (name_of h f)) (function_names_stay m h to_product.stands to_first.0.grown to_first.0.functions) i))

  with_first : ParamsHaveOwnNames m made.plain.params → ParamsHaveOwnNames h (made.plain.params ++ f ∷ [])
  with_first own =
      let still = own_names_stay m h made.plain.params to_first.0.grown (fresh_by_names m h to_product.stands to_first.0) made.fits.params made.fits.taken own in
      record {
        differ = one_more_name m h f to_first.0 to_first.1 made.plain.params made.fits.params made.fits.taken own.differ;
        unused = all_from (λ x. ¬ (Contains (function_names h) (name_of h x))) (made.plain.params ++ f ∷ []) (λ x i. ⊎_elim
            (λ j. All-contains (λ x. ¬ (Contains (function_names h) (name_of h x))) made.plain.params x still.unused j)
            (λ j. ⊎_elim (λ e. subst (λ y. ¬ (Contains (function_names h) (name_of h y))) e first_unused) (λ n. absurd (contains_none x n)) (contains_cases f x [] j))
            (Contains-append_cases made.plain.params (f ∷ []) x i));
      }

  pub started_params_have_own_names : ParamsHaveOwnNames g l.params → ParamsHaveOwnNames g r.params → ParamsHaveOwnNames h k.params
  started_params_have_own_names own other =
      subst (ParamsHaveOwnNames h) (sym made.params) (with_first (product_params_have_own_names product whole_product g m ts us l r made.plain s fl fr made.product own other))

  pub started_named : HaveIdentifiers g → HaveIdentifiers h
  started_named all = first_named made.first (product_named product whole_product g m ts us l r made.plain s fl fr made.product all)
