-- The columns of a form that fits lay it out, and serve its encoding.
use Rattle.std.proofs.Common.{◌≡◌, ◌<◌, ◌≤◌, ⊎_elim, ℕ, List, [], ◌∷◌, ◌++◌, map, length, get_or, refl, sym, ap, ap₂, ◌∙◌, subst, Option, Some, None}
use Rattle.std.specs.Prelude.{slice_get, option_to_list, is_some}
use Rattle.std.specs.List.{All, AllZip, Contains}
use Rattle.std.proofs.lemmas.List.Elements.{All-nil, All-head, All-tail, All-contains, All-weaker, All-append, All-map}
use Rattle.std.proofs.lemmas.Slice.Zip.{AllZip-long}
use Rattle.data_theory.specs.declared.ids.NameId.{NameId}
use Rattle.data_theory.specs.declared.ids.SortId.{SortId}
use Rattle.data_theory.specs.declared.ids.VarId.{VarId}
use Rattle.data_theory.specs.declared.ids.TermId.{TermId}
use Rattle.data_theory.specs.declared.signature.Variable.{Variable}
use Rattle.data_theory.specs.Environments.{bound}
use Rattle.data_theory.specs.Terms.{boolean, positive}
use Rattle.data_theory.specs.Table.{pos_sort, bool_sort}
use Rattle.data_theory.specs.Signature.{Sig}
use Rattle.data_theory.specs.IdData.{data_meant}
use Rattle.data_theory.specs.IdTables.{IsTable}
use Rattle.data_theory.specs.IdTrees.{Tree}
use Rattle.data_theory.specs.IdTerms.{sort_under, variable_sorts, IsGrown}
use Rattle.data_theory.specs.WholeSignatures.{IsSignature}
use Rattle.term_pool.specs.Pools.{PoolContents}
use Rattle.bisim_laws.proofs.Firing.{contains_first, contains_later}
use Rattle.data_theory.proofs.IdGrowthLemmas.{growth_after_growth_is_growth}
use Rattle.process_terms.specs.Meanings.{bound_at, term_at}
use Rattle.process_terms.specs.SignatureEntries.{entries_of, BothGrow}
use Rattle.bisim_laws.specs.LinearProcesses.{variables, reading, AreDeclared, HaveDataSorts}
use Rattle.bisim_laws.specs.BaseStates.{control_of}
use Rattle.lps_core.specs.Fitting.{IsVariable, sort_of_variable, HasTakenName}
use Rattle.lps_core.specs.Naming.{name_of, function_names, GrowsByNames, ParamsHaveOwnNames}
use Rattle.lps_core.proofs.Members.{all_at, all_from}
use Rattle.lps_core.proofs.PoolTrees.{extends_itself}
use Rattle.lps_core.proofs.MeantParts.{positive_meant}
use Rattle.lps_core.proofs.FunctionNames.{functions_taken, function_names_stay}
use Rattle.lps_core.proofs.NamedSums.{taken_name, name_taken, sort_kept, names_then, name_kept, variable_kept}
use Rattle.lps_core.proofs.Staying.{read_mapped, sort_is_within, variables_declared, variables_have_sorts}
use Rattle.lps_core.proofs.StayingFits.{term_fits, closed_terms_fit, lists_are_closed}
use Rattle.greibach.specs.PlainForms.{PlainEquation, PlainForm}
use Rattle.greibach.specs.FittingForms.{EquationFits, FormSummandFits, FormFits}
use Rattle.regular_encoder.specs.Encoding.{control_params, encoded_params, place_of}
use Rattle.regular_encoder.specs.TreeEncoding.{PlainLayout, place_at}
use Rattle.regular_encoder.specs.MeantEncoding.{HasControl}
use Rattle.regular_encoder.specs.Layouts.{IsPlaceOf, LaidOut, control_variable}
use Rattle.regular_encoder.specs.FormColumns.{kind_of, all_params, column_kinds, IsColumnOf, HasItsColumns, layout_params, layout_meant, meant_firsts, ServesTheEncoding, WhatIsLaidOutServes}
use Rattle.regular_encoder.proofs.NewColumns.{KindsStand, ColumnsStand, columns_stand, columns_stand_on, control_sorts, control_stands, none_alone}
use Rattle.regular_encoder.proofs.FoundKinds.{all_with_kinds}
use Rattle.regular_encoder.proofs.FirstTerms.{FirstStands, ArgumentStands, argument_stands, firsts_stand, closed_args, args_closed}
use Rattle.regular_encoder.proofs.LaidOutColumns.{numbers, read_numbers, laid_out}
use Rattle.regular_encoder.proofs.ServingLayouts.{zip_at, place_distinct, place_among, place_sorts, firsts_read, are_terms, are_closed, names_of_firsts}

-- ---- the names and sorts of parameters stand in the tables
params_all : (P : VarId → Type 0) (qs : List PlainEquation) → All (λ (q : PlainEquation). All P q.params) qs → All P (all_params qs)
params_all P [] h = All-nil P
params_all P (q ∷ qs) h = All-append P q.params (all_params qs) (All-head (λ (q : PlainEquation). All P q.params) q qs h) (params_all P qs (All-tail (λ (q : PlainEquation). All P q.params) q qs h))

pub kinds_stand : (g : Sig) (ts : List Tree) (f : PlainForm) → IsSignature g → FormFits g ts f → KindsStand g (column_kinds g f)
kinds_stand g ts f s fits =
    let vs : All (IsVariable g) (all_params f.equations) = params_all (IsVariable g) f.equations (All-weaker (EquationFits g ts f) (λ (q : PlainEquation). All (IsVariable g) q.params) (λ q k. k.params) f.equations fits.equations) in
    let ns : All (HasTakenName g) (all_params f.equations) = params_all (HasTakenName g) f.equations (All-weaker (EquationFits g ts f) (λ (q : PlainEquation). All (HasTakenName g) q.params) (λ q k. k.taken) f.equations fits.equations) in
    let P : NameId × SortId → Type 0 = λ k. Contains g.taken k.0 in
    let Q : NameId × SortId → Type 0 = λ k. k.1.0 < length g.sorts in
    record {
      taken = all_with_kinds P [] (map (kind_of g) (all_params f.equations)) (All-nil P)
          (All-map P (kind_of g) (all_params f.equations) (all_from (λ x. P (kind_of g x)) (all_params f.equations) (λ x i. taken_name g x (All-contains (IsVariable g) (all_params f.equations) x vs i) (All-contains (HasTakenName g) (all_params f.equations) x ns i))));
      sorts = all_with_kinds Q [] (map (kind_of g) (all_params f.equations)) (All-nil Q)
          (All-map Q (kind_of g) (all_params f.equations) (All-weaker (IsVariable g) (λ x. Q (kind_of g x)) (λ x l. sort_is_within g x s.complete l) (all_params f.equations) vs));
    }

-- ---- what a variable is bound to
bound_sort : (h : Sig) (x : VarId) → IsVariable h x → get_or (variable_sorts h) x.0 boolean ≡ sort_under h (sort_of_variable h x)
bound_sort h x l = read_mapped (λ (y : Variable). sort_under h y.sort) h.variables x.0 boolean (record { name = record { 0 = 0 }; sort = bool_sort }) l

same_bounds : (g h : Sig) (params place : List VarId) → IsGrown g h → All (IsVariable g) params → ((c : VarId) → Contains place c → IsVariable h c) → AllZip (λ p c. sort_of_variable g p ≡ sort_of_variable h c) params place
    → AllZip (λ (p c : VarId). (bound_at (entries_of h []) p).sort ≡ (bound_at (entries_of h []) c).sort) params place
same_bounds g h [] [] w l k z = tt
same_bounds g h [] (c ∷ place) w l k z = absurd z
same_bounds g h (p ∷ params) [] w l k z = absurd z
same_bounds g h (p ∷ params) (c ∷ place) w l k z =
    let own = All-head (IsVariable g) p params l in (
      bound_sort h p (variable_kept g h p w own) ∙ ap (sort_under h) (sort_kept g h p w own ∙ z.0) ∙ sym (bound_sort h c (k c (contains_first c place))),
      same_bounds g h params place w (All-tail (IsVariable g) p params l) (λ x i. k x (contains_later c x place i)) z.1,
    )

-- ---- the parameters
module _ (h : Sig) (us : List Tree) (table : IsTable h) (cs : List VarId) where
  params_meant : (o : Option VarId) (rs : List SortId) → All (IsVariable h) (option_to_list o ++ cs) → map (sort_of_variable h) (option_to_list o ++ cs) ≡ control_sorts o ++ rs
      → map (bound_at (entries_of h us)) (option_to_list o ++ cs) ≡ control_params (is_some o) (control_variable o) ++ map (bound_at (entries_of h [])) cs
  params_meant None rs l e = refl
  params_meant (Some x) rs l e =
      let own : sort_of_variable h x ≡ pos_sort = cc in
      let positive_is : get_or (variable_sorts h) x.0 boolean ≡ positive = bound_sort h x (All-head (IsVariable h) x cs l) ∙ ap (sort_under h) own ∙ positive_meant h table in
      ap (λ s. record { var = x.0; sort = s } ∷ map (bound_at (entries_of h [])) cs) positive_is

has_control : (o : Option VarId) → HasControl o (is_some o) (control_variable o)
has_control None = refl
has_control (Some x) = (refl, refl)

-- ---- the law
module _ (g h : Sig) (p q : PoolContents) (f : PlainForm) (l : PlainLayout) (firsts : List TermId) (old : IsSignature g) (new : IsSignature h) (fits : FormFits g p.trees f) (w : HasItsColumns g p f h q l firsts) where
  abbrev IsFunction : NameId → Type 0
  IsFunction n = Contains (function_names g) n

  abbrev kinds : List (NameId × SortId)
  kinds = column_kinds g f

  abbrev kind_sorts : List SortId
  kind_sorts = map (λ (k : NameId × SortId). k.1) kinds

  abbrev place : List VarId
  place = place_at l 1

  pub named : GrowsByNames g w.with_columns × ColumnsStand g w.with_columns IsFunction kind_sorts l.columns
  named = columns_stand g old (functions_taken g old) kinds w.with_columns l.columns w.columns (kinds_stand g p.trees f old fits)

  pub controlled : GrowsByNames w.with_columns w.with_control × ColumnsStand g w.with_control IsFunction (control_sorts l.control ++ kind_sorts) (layout_params l)
  controlled = control_stands g IsFunction kind_sorts l.columns w.with_columns (length f.equations) w.with_control l.control named.0 (λ n i. named.0.taken n (functions_taken g old n i)) named.1 w.control

  all_named : GrowsByNames g w.with_control
  all_named = names_then g w.with_columns w.with_control named.0 controlled.0

  columns_named : ColumnsStand g w.with_control IsFunction kind_sorts l.columns
  columns_named = columns_stand_on g w.with_columns w.with_control IsFunction kind_sorts l.columns controlled.0.grown named.1

  place_of_first : AllZip (IsColumnOf g kinds l.columns) fits.first.params place
  place_of_first = zip_at (λ (e : PlainEquation) at. AllZip (IsColumnOf g kinds l.columns) e.params at) f.equations l.places 0 fits.first [] w.places fits.starts

  arguments : All (ArgumentStands place f.init w.with_control p.trees) l.columns
  arguments = all_from (ArgumentStands place f.init w.with_control p.trees) l.columns (λ c i t e.
      let closed = closed_args g p.trees f.init fits.init.within (lists_are_closed (data_meant g) (map (term_at (entries_of g p.trees)) f.init) _ fits.closed) in
      let r = argument_stands g w.with_control p.trees fits.first.params place f.init c t (place_sorts g kinds l.columns w.with_control fits.first.params place columns_named.sorts place_of_first) fits.init closed e in
      (term_fits g w.with_control p.trees p.trees (record { signature = all_named.grown; pool = extends_itself p.trees }) (sort_of_variable w.with_control c) t r.0, r.1))

  pub values : BothGrow w.with_control h p.trees q.trees × AllZip (FirstStands place f.init h q.trees) l.columns firsts
  values = firsts_stand place f.init w.with_control p l.columns h q firsts w.values columns_named.variables arguments

  pub grown : IsGrown g h
  grown = growth_after_growth_is_growth g w.with_control h all_named.grown values.0.signature

  params : ColumnsStand g h IsFunction (control_sorts l.control ++ kind_sorts) (layout_params l)
  params = columns_stand_on g w.with_control h IsFunction (control_sorts l.control ++ kind_sorts) (layout_params l) values.0.signature controlled.1

  pub columns : ColumnsStand g h IsFunction kind_sorts l.columns
  columns = columns_stand_on g w.with_control h IsFunction kind_sorts l.columns values.0.signature columns_named

  equation_fits : (i : ℕ) (e : PlainEquation) → slice_get f.equations i ≡ Some e → EquationFits g p.trees f e
  equation_fits i e at = all_at (EquationFits g p.trees f) f.equations i e fits.equations at

  place_stands : (i : ℕ) (e : PlainEquation) → slice_get f.equations i ≡ Some e → IsPlaceOf h l e.params (get_or l.places i [])
  place_stands i e at =
      let at_places = zip_at (λ (e : PlainEquation) at. AllZip (IsColumnOf g kinds l.columns) e.params at) f.equations l.places i e [] w.places at in
      let own = equation_fits i e at in
      let among = place_among g kinds l.columns e.params (get_or l.places i []) at_places in
      record {
        same = same_bounds g h e.params (get_or l.places i []) grown own.params (λ c j. All-contains (IsVariable h) l.columns c columns.variables (among c j)) (place_sorts g kinds l.columns h e.params (get_or l.places i []) columns.sorts at_places);
        among = among;
        distinct = place_distinct g kinds l.columns e.params (get_or l.places i []) columns.distinct own.named at_places;
      }

  laid : length f.equations < 340282366920938463463374607431768211456 → LaidOut (length g.variables) h f l
  laid few = record {
    long = AllZip-long (λ (e : PlainEquation) at. AllZip (IsColumnOf g kinds l.columns) e.params at) f.equations l.places w.places;
    few = few;
    single = none_alone w.with_columns (length f.equations) w.with_control l.control w.control;
    new = λ x i. All-contains (λ c. length g.variables ≤ c.0) (layout_params l) x params.new i;
    distinct = params.distinct;
    places = place_stands;
    sums = λ i e s at j x k.
        let own = All-contains (FormSummandFits g p.trees f) e.summands s (equation_fits i e at).summands j in
        All-contains (IsVariable g) s.sums x own.sums k;
  }

  meant_params : map (bound_at (entries_of h q.trees)) (layout_params l) ≡ encoded_params (layout_meant h q.trees l firsts) (control_variable l.control)
  meant_params = params_meant h q.trees new.table l.columns l.control kind_sorts params.variables params.sorts

  firsts_are_read : reading (bound (place_of (layout_meant h q.trees l firsts) 0) (map (term_at (entries_of h q.trees)) f.init) ++ bound (variables (layout_meant h q.trees l firsts).columns) (meant_firsts h q.trees firsts)) (variables (layout_meant h q.trees l firsts).columns)
      ≡ meant_firsts h q.trees firsts
  firsts_are_read =
      ap₂ (λ at xs. reading (bound at (map (term_at (entries_of h q.trees)) f.init) ++ bound xs (meant_firsts h q.trees firsts)) xs) (read_numbers l.places 0) (numbers h [] l.columns)
      ∙ firsts_read (term_at (entries_of h q.trees)) place f.init h q.trees l.columns firsts columns.distinct values.1

  serves : length f.equations < 340282366920938463463374607431768211456 → ServesTheEncoding h q.trees f l firsts
  serves few =
      let C = layout_meant h q.trees l firsts in
      let terms = are_terms place f.init h q.trees l.columns firsts values.1 in
      record {
        layout = laid_out (length g.variables) h q.trees f l (meant_firsts h q.trees firsts) (laid few);
        meant = record { columns = numbers h [] l.columns; places = refl; control = has_control l.control };
        params = meant_params;
        variables = params.variables;
        taken = all_from (HasTakenName h) (layout_params l) (λ x i. name_taken h x (All-contains (IsVariable h) (layout_params l) x params.variables i) (All-contains (λ c. Contains h.taken (name_of h c)) (layout_params l) x params.taken i));
        declared = subst (λ z. AreDeclared (variable_sorts h) z) meant_params (variables_declared h q.trees (layout_params l) params.variables);
        sorted = subst (λ z. HaveDataSorts (data_meant h) z) meant_params (variables_have_sorts h q.trees (layout_params l) new.table new.complete params.variables);
        terms = terms;
        closed = closed_terms_fit h q.trees l.columns firsts new.table columns.variables terms (args_closed h q.trees firsts terms.within (are_closed place f.init h q.trees l.columns firsts values.1));
        starts = ap (λ z. control_of C.control 0 ++ z) firsts_are_read;
      }

  own_names : ParamsHaveOwnNames h (layout_params l)
  own_names = record {
    differ = params.names_differ;
    unused = all_from (λ x. ¬ (Contains (function_names h) (name_of h x))) (layout_params l) (λ x i u.
        let late = (names_of_firsts place f.init w.with_control p all_named.stands l.columns h q firsts w.values).1 in
        let there = All-contains (IsVariable w.with_control) (layout_params l) x controlled.1.variables i in
        let name : name_of h x ≡ name_of w.with_control x = name_kept w.with_control h x values.0.signature there in
        ⊎_elim
        (λ j. All-contains (λ c. ¬ (IsFunction (name_of h c))) (layout_params l) x params.unused i (subst (λ ns. Contains ns (name_of h x)) (function_names_stay g w.with_control old all_named.grown all_named.functions) j))
        (λ n. n (subst (λ m. Contains w.with_control.taken m) (sym name) (All-contains (λ c. Contains w.with_control.taken (name_of w.with_control c)) (layout_params l) x controlled.1.taken i)))
        (late (name_of h x) u));
  }

pub what_is_laid_out_serves : WhatIsLaidOutServes
what_is_laid_out_serves g h p q f l firsts old new fits few w = (laid g h p q f l firsts old new fits w few, serves g h p q f l firsts old new fits w few, own_names g h p q f l firsts old new fits w)
