-- The names behind a product: its parameters have names of their own where those of its sides have, and its variables are named by
-- identifiers.
use Rattle.std.proofs.Common.{◌≡◌, ◌++◌, ◌∷◌, Bool, List, [], map, codes, refl, sym, ap, ap₂, ◌∙◌, subst, ⊎_elim, Option, Some, None}
use Rattle.std.specs.Prelude.{option_map, option_to_list, IfSome}
use Rattle.std.specs.List.{All, Contains}
use Rattle.std.proofs.lemmas.List.{map-append}
use Rattle.std.proofs.lemmas.List.Elements.{All-contains, All-weaker, Contains-append_cases}
use Rattle.data_theory.specs.declared.ids.NameId.{NameId}
use Rattle.data_theory.specs.declared.ids.VarId.{VarId}
use Rattle.data_theory.specs.declared.signature.Variable.{Variable}
use Rattle.data_theory.specs.Environments.{AreDistinct}
use Rattle.data_theory.specs.IdTerms.{IsGrown}
use Rattle.data_theory.specs.IdTrees.{Tree}
use Rattle.data_theory.specs.Signature.{Sig, with_variable}
use Rattle.data_theory.specs.Table.{bool_sort}
use Rattle.data_theory.specs.WholeSignatures.{IsSignature}
use Rattle.data_theory.proofs.IdGrowthLemmas.{with_a_variable_it_is_grown, growth_after_growth_is_growth}
use Rattle.term_pool.proofs.DeclaredConstants.{grown_itself, fresh_grows}
use Rattle.process_terms.specs.Meanings.{Entries, bound_at}
use Rattle.process_terms.specs.Processes.{Bound}
use Rattle.process_terms.specs.SignatureEntries.{entries_of}
use Rattle.bisim_laws.specs.BaseStates.{Side}
use Rattle.bisim_laws.specs.LinearProcesses.{Summand, Linear}
use Rattle.bisim_laws.proofs.Firing.{contains_cases, contains_none}
use Rattle.lps_core.specs.Fitting.{Fits, IsVariable, sort_of_variable, HasTakenName}
use Rattle.lps_core.specs.Naming.{name_of, function_names, GrowsByNames, it_is_new, ParamsHaveOwnNames}
use Rattle.lps_core.specs.PlainLinears.{PlainLinear, can_end}
use Rattle.lps_core.proofs.FunctionNames.{functions_taken, function_names_stay}
use Rattle.lps_core.proofs.Members.{all_from, contains_map}
use Rattle.lps_core.proofs.NamedSums.{names_then, variable_kept, name_kept, all_front, all_last}
use Rattle.lps_core.proofs.PoolTrees.{extends_itself}
use Rattle.lps_core.proofs.StayingFits.{what_fits_fits_still}
use Rattle.summand_expander.specs.Product.{flag_of, columns, product}
use Rattle.summand_expander.specs.Renewals.{IsFlag, no_flag, new_flag, all_sums, HasVariable, IsNew, under_its_name, under_a_fresh_name, OneIsRenewed, it_has_been, it_stays, it_is_renewed, AreRenewed, no_variable, one_variable, IsNoName, IsNameOf, renewed_variable, renewed_variables}
use Rattle.summand_expander.specs.Renewing.{renewed_bounds}
use Rattle.summand_expander.specs.WholeProducts.{renewed_number, side_of_linear, renewed_side, IsMadeOfSides}
use Rattle.summand_expander.proofs.DifferentNames.{run_grows, right_apart, all_names_differ}
use Rattle.summand_expander.proofs.GivingWay.{HasGivenWay, has_given_way, none_new, all_stand, all_each}
use Rattle.summand_expander.proofs.MadeProducts.{all_sums_are_variables}
use Rattle.summand_expander.proofs.NewVariables.{variable_renewed}
use Rattle.summand_expander.proofs.Separating.{IsNewFlag, FlagStands, flag_stands}
use Rattle.lin_driver.specs.TakenNames.{HaveIdentifiers}
use Rattle.lin_driver.proofs.NamedVariables.{fresh_text, fresh_named, named_more, sum_named}

-- ---- which variables the parameters are
abbrev ids_of : List Bound → List VarId
ids_of bs = map (λ (b : Bound). record { 0 = b.var }) bs

ids_back : (e : Entries) (xs : List VarId) → ids_of (map (bound_at e) xs) ≡ xs
ids_back e [] = refl
ids_back e (x ∷ xs) = ap (λ ys. x ∷ ys) (ids_back e xs)

flag_back : (flag : Option VarId) → ids_of (flag_of (option_map (λ (v : VarId). v.0) flag)) ≡ option_to_list flag
flag_back None = refl
flag_back (Some f) = refl

renewed_back : (e : Entries) (os ns xs : List VarId) → ids_of (renewed_bounds (renewed_number os ns) (map (bound_at e) xs)) ≡ renewed_variables os ns xs
renewed_back e os ns [] = refl
renewed_back e os ns (x ∷ xs) = ap (λ ys. renewed_variable os ns x ∷ ys) (renewed_back e os ns xs)

-- the product without some of its summands
pub record IsPartOfProduct (f : Side → Side → Linear) : Type 0 where
  pub params : (a b : Side) → (f a b).params ≡ (product a b).params
  pub among : (a b : Side) (s : Summand) → Contains (f a b).summands s → Contains (product a b).summands s

pub whole_product : IsPartOfProduct product
whole_product = record { params = λ a b. refl; among = λ a b s i. i }

module _ (f : Side → Side → Linear) (part : IsPartOfProduct f) (g h : Sig) (us : List Tree) (l r k : PlainLinear) (made : IsMadeOfSides f g h us l r k) where
  abbrev e : Entries
  e = entries_of h us

  abbrev left_params : List VarId
  left_params = l.params ++ option_to_list made.left_flag

  abbrev right_params : List VarId
  right_params = renewed_variables made.olds made.news r.params ++ option_to_list made.right_flag

  left_back : ids_of (columns (side_of_linear e l made.left_flag)) ≡ left_params
  left_back =
      map-append (λ (b : Bound). record { 0 = b.var }) (map (bound_at e) l.params) (flag_of (option_map (λ (v : VarId). v.0) made.left_flag))
      ∙ ap₂ (λ (xs ys : List VarId). xs ++ ys) (ids_back e l.params) (flag_back made.left_flag)

  right_back : ids_of (columns (renewed_side e made.olds made.news r made.right_flag)) ≡ right_params
  right_back =
      map-append (λ (b : Bound). record { 0 = b.var }) (renewed_bounds (renewed_number made.olds made.news) (map (bound_at e) r.params)) (flag_of (option_map (λ (v : VarId). v.0) made.right_flag))
      ∙ ap₂ (λ (xs ys : List VarId). xs ++ ys) (renewed_back e made.olds made.news r.params) (flag_back made.right_flag)

  -- those of the left side with its flag, and the new ones of the right side with its flag
  pub params_are : k.params ≡ left_params ++ right_params
  params_are =
      sym (ids_back e k.params)
      ∙ ap (λ (z : Linear). ids_of z.params) made.linear
      ∙ ap ids_of (part.params (side_of_linear e l made.left_flag) (renewed_side e made.olds made.news r made.right_flag))
      ∙ map-append (λ (b : Bound). record { 0 = b.var }) (columns (side_of_linear e l made.left_flag)) (columns (renewed_side e made.olds made.news r made.right_flag))
      ∙ ap₂ (λ (xs ys : List VarId). xs ++ ys) left_back right_back

-- ---- names of their own
module _ (f : Side → Side → Linear) (part : IsPartOfProduct f) (g h : Sig) (ts us : List Tree) (l r k : PlainLinear) (s : IsSignature g) (fl : Fits g ts l) (fr : Fits g ts r) (made : IsMadeOfSides f g h us l r k) where
  abbrev g1 : Sig
  g1 = made.with_left_flag

  abbrev g2 : Sig
  g2 = made.with_new

  pub one : FlagStands g g1 (can_end l) made.left_flag
  one = flag_stands g g1 (can_end l) made.left_flag s made.left

  fr1 : Fits g1 ts r
  fr1 = what_fits_fits_still g g1 ts ts r s.table s.complete one.on.stands.table (record { signature = one.on.grown; pool = extends_itself ts }) fr

  pub given : HasGivenWay g1 g2 l r made.olds made.news
  given = has_given_way g1 g2 l r made.olds made.news one.on.stands fr1.params fr1.taken (all_sums_are_variables g1 ts r fr1) (all_each (HasTakenName g1) r.summands fr1.sums_taken) made.gives_way

  pub two : FlagStands g2 h (can_end r) made.right_flag
  two = flag_stands g2 h (can_end r) made.right_flag given.new.on.stands made.right

  sums_grow : GrowsByNames made.gives_way.between g2
  sums_grow =
      let way = made.gives_way in
      run_grows IsNoName (HasVariable l) g1 way.between way.old_params way.new_params (all_sums r.summands) g2 made.olds made.news
      (all_stand (IsNameOf g1 l.params) (HasVariable l) g1 g1 [] [] r.params way.between way.old_params way.new_params (none_new g1 one.on.stands) fr1.params fr1.taken way.params)
      (all_sums_are_variables g1 ts r fr1) (all_each (HasTakenName g1) r.summands fr1.sums_taken) way.sums

  pub to2 : GrowsByNames g g2
  to2 = names_then g g1 g2 one.on given.new.on

  pub to_h : GrowsByNames g h
  to_h = names_then g g2 h to2 two.on

  function_before : (n : NameId) → Contains (function_names h) n → Contains (function_names g) n
  function_before n i = subst (λ ns. Contains ns n) (function_names_stay g h s to_h.grown to_h.functions) i

  function_taken : (n : NameId) → Contains (function_names h) n → Contains g.taken n
  function_taken n i = functions_taken g s n (function_before n i)

  flag_is : (flag : Option VarId) (x : VarId) → Contains (option_to_list flag) x → flag ≡ Some x
  flag_is None x i = absurd (contains_none x i)
  flag_is (Some f) x i = ⊎_elim (λ q. ap (λ z. Some z) q) (λ j. absurd (contains_none x j)) (contains_cases f x [] i)

  left_unused : ParamsHaveOwnNames g l.params → (x : VarId) → Contains l.params x → ¬ (Contains (function_names h) (name_of h x))
  left_unused own x i j =
      All-contains (λ x. ¬ (Contains (function_names g) (name_of g x))) l.params x own.unused i
      (subst (Contains (function_names g)) (name_kept g h x to_h.grown (All-contains (IsVariable g) l.params x fl.params i)) (function_before (name_of h x) j))

  left_flag_unused : (x : VarId) → Contains (option_to_list made.left_flag) x → ¬ (Contains (function_names h) (name_of h x))
  left_flag_unused x i j =
      let is = subst (λ o. IfSome o (IsNewFlag g g1)) (flag_is made.left_flag x i) one.new in
      is.fresh (subst (Contains g.taken) (name_kept g1 h x (names_then g1 g2 h given.new.on two.on).grown is.is.variable) (function_taken (name_of h x) j))

  right_unused : ParamsHaveOwnNames g r.params → (x : VarId) → Contains (renewed_variables made.olds made.news r.params) x → ¬ (Contains (function_names h) (name_of h x))
  right_unused own x i j =
      let p = contains_map (renewed_variable made.olds made.news) r.params x i in
      let y = p.0 in
      let there : IsVariable g2 x = subst (IsVariable g2) (sym p.1.1) (variable_renewed g1 g2 made.olds made.news given.new y (variable_kept g1 g2 y given.new.on.grown (All-contains (IsVariable g1) r.params y fr1.params p.1.0))) in
      let same : name_of g2 (renewed_variable made.olds made.news y) ≡ name_of h x = ap (name_of g2) (sym p.1.1) ∙ sym (name_kept g2 h x two.on.grown there) in
      right_apart g1 g2 ts l r made.olds made.news one.on.stands fr1 made.gives_way given.new sums_grow y p.1.0 (name_of h x) (one.on.taken (name_of h x) (function_taken (name_of h x) j))
      (λ q. absurd (All-contains (λ x. ¬ (Contains (function_names g) (name_of g x))) r.params y own.unused p.1.0
      (subst (Contains (function_names g)) (sym q ∙ name_kept g g1 y one.on.grown (All-contains (IsVariable g) r.params y fr.params p.1.0)) (function_before (name_of h x) j)))) same

  right_flag_unused : (x : VarId) → Contains (option_to_list made.right_flag) x → ¬ (Contains (function_names h) (name_of h x))
  right_flag_unused x i j =
      let is = subst (λ o. IfSome o (IsNewFlag g2 h)) (flag_is made.right_flag x i) two.new in
      is.fresh (to2.taken (name_of h x) (function_taken (name_of h x) j))

  each_unused : ParamsHaveOwnNames g l.params → ParamsHaveOwnNames g r.params → (x : VarId) → Contains k.params x → ¬ (Contains (function_names h) (name_of h x))
  each_unused own other x i =
      let xs = l.params ++ option_to_list made.left_flag in
      let ys = renewed_variables made.olds made.news r.params ++ option_to_list made.right_flag in
      ⊎_elim
      (λ j. ⊎_elim (λ c. left_unused own x c) (λ c. left_flag_unused x c) (Contains-append_cases l.params (option_to_list made.left_flag) x j))
      (λ j. ⊎_elim (λ c. right_unused other x c) (λ c. right_flag_unused x c) (Contains-append_cases (renewed_variables made.olds made.news r.params) (option_to_list made.right_flag) x j))
      (Contains-append_cases xs ys x (subst (λ zs. Contains zs x) (params_are f part g h us l r k made) i))

  pub product_params_have_own_names : ParamsHaveOwnNames g l.params → ParamsHaveOwnNames g r.params → ParamsHaveOwnNames h k.params
  product_params_have_own_names own other = record {
    differ = subst (λ xs. AreDistinct (map (λ (n : NameId). n.0) (map (name_of h) xs))) (sym (params_are f part g h us l r k made))
        (all_names_differ g g1 g2 h ts ts l r made.left_flag made.right_flag made.olds made.news (can_end l) (can_end r) fl fr fr1 one made.gives_way given.new two own.differ other.differ);
    unused = all_from (λ x. ¬ (Contains (function_names h) (name_of h x))) k.params (each_unused own other);
  }

-- ---- identifiers
flag_named : {g h : Sig} {b : Bool} {flag : Option VarId} → IsFlag g b h flag → HaveIdentifiers g → HaveIdentifiers h
flag_named no_flag all = all
flag_named {g = g} (new_flag {h = h} {name = name} f) all = named_more h (record { name = name; sort = bool_sort }) (fresh_text g h (codes "ended") name (refl, refl) f) (fresh_named g h (codes "ended") name f all)

record StillNamed (g h : Sig) : Type 0 where
  grown : IsGrown g h
  all : HaveIdentifiers h

new_named : {P : NameId → Type 0} {g h : Sig} {x y : VarId} → IsNew P g x h y → IsVariable g x → HaveIdentifiers g → StillNamed g h
new_named {g = g} {x = x} (under_its_name n) l all =
    let v : Variable = record { name = name_of g x; sort = sort_of_variable g x } in
    record { grown = with_a_variable_it_is_grown g v; all = named_more g v (all x l) all }
new_named {P = P} {g = g} {x = x} (under_a_fresh_name {h = h} {base = base} {name = name} p at f) l all =
    let v : Variable = record { name = name; sort = sort_of_variable g x } in
    record { grown = growth_after_growth_is_growth g h (with_variable h v) (fresh_grows g base name h f) (with_a_variable_it_is_grown h v); all = sum_named {IsOne = P} (it_is_new p at f) l all }

one_named : {P : NameId → Type 0} {A : VarId → Type 0} {g : Sig} {os ns : List VarId} {x : VarId} {h : Sig} {us vs : List VarId} → OneIsRenewed P A g os ns x h us vs → IsVariable g x → HaveIdentifiers g → StillNamed g h
one_named {g = g} (it_has_been i) l all = record { grown = grown_itself g; all = all }
one_named {g = g} (it_stays n o) l all = record { grown = grown_itself g; all = all }
one_named (it_is_renewed a u i) l all = new_named i l all

run_named : {P : NameId → Type 0} {A : VarId → Type 0} {g : Sig} {os ns xs : List VarId} {h : Sig} {us vs : List VarId} → AreRenewed P A g os ns xs h us vs → All (IsVariable g) xs → HaveIdentifiers g → StillNamed g h
run_named {g = g} no_variable l all = record { grown = grown_itself g; all = all }
run_named {g = g} (one_variable {xs = xs} {h = h} {k = k} {x = x} a o) l all =
    let r = run_named a (all_front (IsVariable g) xs x l) all in
    let m = one_named o (variable_kept g h x r.grown (all_last (IsVariable g) xs x l)) r.all in
    record { grown = growth_after_growth_is_growth g h k r.grown m.grown; all = m.all }

pub product_named : (f : Side → Side → Linear) → IsPartOfProduct f → (g h : Sig) (ts us : List Tree) (l r k : PlainLinear) → IsSignature g → Fits g ts l → Fits g ts r → IsMadeOfSides f g h us l r k → HaveIdentifiers g → HaveIdentifiers h
product_named f part g h ts us l r k s fl fr made all =
    let still = fr1 f part g h ts us l r k s fl fr made in
    let way = made.gives_way in
    let params = run_named way.params still.params (flag_named made.left all) in
    let sums = run_named way.sums (All-weaker (IsVariable made.with_left_flag) (IsVariable way.between) (λ x i. variable_kept made.with_left_flag way.between x params.grown i) (all_sums r.summands) (all_sums_are_variables made.with_left_flag ts r still)) params.all in
    flag_named made.right sums.all
