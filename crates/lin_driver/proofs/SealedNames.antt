-- What sealing adds to a signature, and that names stay names of their own.
use Rattle.std.proofs.Common.{◌≡◌, ⊎_elim, inl, inr, ℕ, List, [], ◌∷◌, ◌++◌, map, length, codes, refl, sym, ap, ◌∙◌, subst, arith, length-append}
use Rattle.std.specs.Prelude.{◌<◌, slice_get, Some, true}
use Rattle.std.specs.List.{All, Contains}
use Rattle.std.proofs.lemmas.List.{map-append}
use Rattle.std.proofs.lemmas.List.Elements.{All-nil, All-contains, Contains-append_cases}
use Rattle.std.proofs.lemmas.Option.{slice_get_within, get_or_from_slice_get}
use Rattle.data_theory.specs.declared.ids.ActId.{ActId}
use Rattle.data_theory.specs.declared.ids.NameId.{NameId}
use Rattle.data_theory.specs.declared.ids.SortId.{SortId}
use Rattle.data_theory.specs.declared.ids.VarId.{VarId}
use Rattle.data_theory.specs.declared.signature.Variable.{Variable}
use Rattle.data_theory.specs.Environments.{AreDistinct}
use Rattle.data_theory.specs.Fresh.{IsFreshIn}
use Rattle.data_theory.specs.Keys.{key}
use Rattle.data_theory.specs.Names.{place_in, with_text}
use Rattle.data_theory.specs.Signature.{Sig, IsAct, with_action, with_variable}
use Rattle.data_theory.specs.Table.{pos_sort}
use Rattle.data_theory.specs.IdTrees.{Tree}
use Rattle.data_theory.specs.IdTerms.{IsGrown}
use Rattle.data_theory.specs.WholeSignatures.{IsSignature}
use Rattle.data_theory.proofs.EnvironmentLemmas.{contains_nothing}
use Rattle.data_theory.proofs.IdGrowthLemmas.{with_an_action_it_is_grown}
use Rattle.data_theory.proofs.NameLemmas.{place_reads, has_text}
use Rattle.data_theory.proofs.WholeSignatureLemmas.{action_stands}
use Rattle.term_pool.proofs.DeclaredConstants.{fresh_grows}
use Rattle.process_terms.specs.SignatureEntries.{entries_of}
use Rattle.process_terms.proofs.MeaningLemmas.{entry_stays}
use Rattle.bisim_laws.specs.Terminations.{terminate_name}
use Rattle.bisim_laws.proofs.Firing.{contains_cases, contains_none}
use Rattle.lps_core.specs.Fitting.{Fits, IsVariable, HasTakenName, SummandFits}
use Rattle.lps_core.specs.Naming.{name_of, names_of, function_names, GrowsByNames, IsUsed, HasOwnNames, ParamsHaveOwnNames}
use Rattle.lps_core.specs.PlainLinears.{PlainSummand, PlainLinear, can_end, linear_of}
use Rattle.lps_core.specs.SealedTrees.{HasPhase, a_phase, IsNoAction, IsSealed, it_never_ends, it_is_sealed}
use Rattle.lps_core.proofs.FunctionNames.{functions_taken, function_names_stay}
use Rattle.lps_core.proofs.Members.{all_from, contains_map, map_contains}
use Rattle.lps_core.proofs.NamedSums.{name_kept, names_kept, last_variable, taken_name, not_taken}
use Rattle.lps_core.proofs.NamingLoops.{fresh_names}
use Rattle.lps_core.proofs.OverVariables.{distinct_append}
use Rattle.regular_encoder.proofs.InhabitedColumns.{still_inhabited}
use Rattle.sort_table.specs.SignatureVocabularies.{text_under}
use Rattle.lps_printer.specs.DataLayout.{IsIdentifier}
use Rattle.lps_printer.specs.GrowingByActions.{GrowsByAction}
use Rattle.lps_printer.specs.GrowingByAdditions.{nothing_added, then_action}
use Rattle.lin_driver.specs.SealedLinears.{IsTerminateAdded, nothing_is_added, it_is_added, GrowsByTerminate, SealingAddsTerminate, SealingEmptiesNoSort, SealingKeepsIdentifiers, SealedParamsHaveOwnNames, SealedSumsHaveOwnNames}
use Rattle.lin_driver.specs.TakenNames.{HaveIdentifiers}
use Rattle.lin_driver.proofs.NamedVariables.{fresh_text, fresh_named, named_more, named_still}
use Rattle.lin_driver.proofs.SealedSummands.{IsSealedOf, of_a_summand, the_last, sealed_of, same_sums, no_sums}
use Rattle.lin_driver.proofs.StayingLinears.{own_names_stay}

-- ---- the action
terminate_stands : (g : Sig) → IsSignature g → IsNoAction g terminate_name → IsSignature (with_action g terminate_name [])
terminate_stands g old absent = action_stands g terminate_name [] old (All-nil (λ (i : SortId). i.0 < length g.sorts)) (λ (u : IsAct g terminate_name []). absent u.0 (key u.0 []) u.1 u.2 refl)

terminate_named : (g k : Sig) (name : NameId) → IsFreshIn (with_action g terminate_name []) (codes "phase") name k → text_under k (place_in (with_text g.texts terminate_name) terminate_name) ≡ terminate_name
terminate_named g k name f =
    let m = with_action g terminate_name [] in
    let n = place_in m.texts terminate_name in
    let read : slice_get m.texts n.0 ≡ Some terminate_name = place_reads m.texts terminate_name (has_text g.texts terminate_name) in
    let w = fresh_grows m (codes "phase") name k f in
    (entry_stays m.texts k.texts [] n.0 (w.new_texts, w.texts) (slice_get_within m.texts n.0 terminate_name read)).0 ∙ get_or_from_slice_get m.texts n.0 terminate_name [] read

adds_terminate : (g h : Sig) (act : ActId) (v : VarId) → IsSignature h → IsGrown g h → IsNoAction g terminate_name → HasPhase g h act v → GrowsByTerminate g h true
adds_terminate g _ _ _ new grown absent (a_phase {h = k} {name = name} f) =
    let h = with_variable k (record { name = name; sort = pos_sort }) in
    let n = place_in (with_text g.texts terminate_name) terminate_name in
    let named : text_under h n ≡ terminate_name = terminate_named g k name f in
    let actions : h.actions ≡ g.actions ++ key n [] ∷ [] = ap (λ (z : Sig). z.actions) f.taken in
    let one : GrowsByAction g h = record {
      name = n;
      grown = grown;
      actions = actions;
      functions = ap (λ (z : Sig). z.functions) f.taken;
      declared = ap (λ (z : Sig). z.declared) f.taken;
      sorts = ap (λ (z : Sig). z.sorts) f.taken;
      sort_names = ap (λ (z : Sig). z.sort_names) f.taken;
      new = subst (IsNoAction g) (sym named) absent;
      identifier = subst IsIdentifier (sym named) (refl, refl);
    } in
    record { grows = then_action nothing_added one new; structs = refl; constants = refl; actions = it_is_added named actions }

by_terminate : {g : Sig} {ts : List Tree} {l : PlainLinear} {h : Sig} {us : List Tree} {k : PlainLinear} → IsSealed g ts l h us k → IsSignature h → IsGrown g h → IsNoAction g terminate_name → GrowsByTerminate g h (can_end l)
by_terminate {g = g} (it_never_ends stays same) new grown absent = record { grows = nothing_added; structs = refl; constants = refl; actions = subst (λ b. IsTerminateAdded g g b []) (sym stays) (nothing_is_added refl) }
by_terminate {g = g} {h = h} (it_is_sealed act v ends added params linear initial) new grown absent = subst (GrowsByTerminate g h) (sym ends) (adds_terminate g h act v new grown absent added)

pub sealing_adds_terminate : SealingAddsTerminate
sealing_adds_terminate g h p q l k w = by_terminate w.sealed w.new w.grown w.absent

-- ---- the phase
-- it has a name that wasn't taken, and neither sorts nor functions are new
pub record PhaseIsNamed (g h : Sig) (v : VarId) : Type 0 where
  pub variable : IsVariable h v
  pub fresh : ¬ (Contains g.taken (name_of h v))
  pub functions : h.functions ≡ g.functions
  pub sorts : h.sorts ≡ g.sorts

pub phase_named : (g h : Sig) (act : ActId) (v : VarId) → IsSignature g → IsNoAction g terminate_name → HasPhase g h act v → PhaseIsNamed g h v
phase_named g _ _ _ old absent (a_phase {h = k} {name = name} f) =
    let m = with_action g terminate_name [] in
    let x : Variable = record { name = name; sort = pos_sort } in
    let stands = terminate_stands g old absent in
    let on : GrowsByNames m k = fresh_names m k (codes "phase") name stands f in
    let new_name : name_of (with_variable k x) (record { 0 = length k.variables }) ≡ name = ap (λ (y : Variable). y.name) (last_variable k x (record { name = record { 0 = 0 }; sort = record { 0 = 0 } })) in
    record {
      variable = let long = length-append k.variables (x ∷ []) in omega (arith, long);
      fresh = λ i. not_taken m f.text k.texts name stands f.fresh.free (on.grown.new_texts, on.grown.texts) f.named (subst (λ z. Contains m.taken z) new_name i);
      functions = ap (λ (z : Sig). z.functions) f.taken;
      sorts = ap (λ (z : Sig). z.sorts) f.taken;
    }

same_sorts : {g : Sig} {ts : List Tree} {l : PlainLinear} {h : Sig} {us : List Tree} {k : PlainLinear} → IsSealed g ts l h us k → IsSignature g → IsNoAction g terminate_name → h.sorts ≡ g.sorts
same_sorts (it_never_ends _ same) old absent = refl
same_sorts {g = g} {h = h} (it_is_sealed act v ends added params linear initial) old absent = (phase_named g h act v old absent added).sorts

pub sealing_empties_no_sort : SealingEmptiesNoSort
sealing_empties_no_sort g h p q l k w some = still_inhabited g h w.old w.new w.grown (same_sorts w.sealed w.old w.absent) some

-- ---- identifiers
phase_identified : (g h : Sig) (act : ActId) (v : VarId) → HasPhase g h act v → HaveIdentifiers g → HaveIdentifiers h
phase_identified g _ _ _ (a_phase {h = k} {name = name} f) all =
    let m = with_action g terminate_name [] in
    named_more k (record { name = name; sort = pos_sort }) (fresh_text m k (codes "phase") name (refl, refl) f)
    (fresh_named m k (codes "phase") name f (named_still g m (with_an_action_it_is_grown g terminate_name []) refl all))

identified : {g : Sig} {ts : List Tree} {l : PlainLinear} {h : Sig} {us : List Tree} {k : PlainLinear} → IsSealed g ts l h us k → HaveIdentifiers g → HaveIdentifiers h
identified (it_never_ends _ same) all = all
identified {g = g} {h = h} (it_is_sealed act v ends added params linear initial) all = phase_identified g h act v added all

pub sealing_keeps_identifiers : SealingKeepsIdentifiers
sealing_keeps_identifiers g h p q l k w all = identified w.sealed all

-- ---- names of their own
module _ (g h : Sig) (ts : List Tree) (l : PlainLinear) (v : VarId) (old : IsSignature g) (grown : IsGrown g h) (fits : Fits g ts l) (named : PhaseIsNamed g h v) where
  functions_were : (n : NameId) → Contains (function_names h) n → Contains (function_names g) n
  functions_were n i = subst (λ ns. Contains ns n) (function_names_stay g h old grown named.functions) i

  -- what had a name that was taken has another one
  phase_apart : (x : VarId) → IsVariable g x → HasTakenName g x → name_of h x ≡ name_of h v → ⊥
  phase_apart x there taken same = named.fresh (subst (Contains g.taken) (sym (name_kept g h x grown there) ∙ same) (taken_name g x there taken))

  parameter_apart : (x : VarId) → Contains l.params x → name_of h x ≡ name_of h v → ⊥
  parameter_apart x i = phase_apart x (All-contains (IsVariable g) l.params x fits.params i) (All-contains (HasTakenName g) l.params x fits.taken i)

  phase_unused : ¬ (Contains (function_names h) (name_of h v))
  phase_unused i = named.fresh (functions_taken g old (name_of h v) (functions_were (name_of h v) i))

  numbers_apart : (n : ℕ) → Contains (map (λ (m : NameId). m.0) (names_of h l.params)) n → Contains ((name_of h v).0 ∷ []) n → ⊥
  numbers_apart n i j =
      let r = contains_map (λ (m : NameId). m.0) (names_of h l.params) n i in
      let x = contains_map (name_of h) l.params r.0 r.1.0 in
      let last : (name_of h v).0 ≡ n = ⊎_elim (λ q. q) (λ c. absurd (contains_none n c)) (contains_cases (name_of h v).0 n [] j) in
      let same : name_of h v ≡ r.0 = ap (λ m. record { 0 = m }) (last ∙ r.1.1) in
      parameter_apart x.0 x.1.0 (sym x.1.1 ∙ sym same)

  pub params_named : ParamsHaveOwnNames g l.params → ParamsHaveOwnNames h (l.params ++ v ∷ [])
  params_named own =
      let still = own_names_stay g h l.params grown (λ n t i. functions_were n i) fits.params fits.taken own in
      let numbers : map (λ (n : NameId). n.0) (names_of h (l.params ++ v ∷ [])) ≡ map (λ (n : NameId). n.0) (names_of h l.params) ++ (name_of h v).0 ∷ [] =
      ap (map (λ (n : NameId). n.0)) (map-append (name_of h) l.params (v ∷ [])) ∙ map-append (λ (n : NameId). n.0) (names_of h l.params) (name_of h v ∷ []) in
      record {
        differ = subst AreDistinct (sym numbers) (distinct_append (map (λ (n : NameId). n.0) (names_of h l.params)) ((name_of h v).0 ∷ []) still.differ (λ i. contains_nothing (name_of h v).0 i, tt) numbers_apart);
        unused = all_from (λ x. ¬ (Contains (function_names h) (name_of h x))) (l.params ++ v ∷ []) (λ x i. ⊎_elim
            (λ j. All-contains (λ x. ¬ (Contains (function_names h) (name_of h x))) l.params x still.unused j)
            (λ j. ⊎_elim (λ e. subst (λ y. ¬ (Contains (function_names h) (name_of h y))) e phase_unused) (λ n. absurd (contains_none x n)) (contains_cases v x [] j))
            (Contains-append_cases l.params (v ∷ []) x i));
      }

  -- the sums of a summand that was there
  module _ (s : PlainSummand) (among : Contains l.summands s) (own : HasOwnNames g l.params s) where
    there : All (IsVariable g) s.sums
    there = (All-contains (SummandFits g ts l.params) l.summands s fits.summands among).sums

    name_stays : (x : VarId) → Contains s.sums x → name_of h x ≡ name_of g x
    name_stays x i = name_kept g h x grown (All-contains (IsVariable g) s.sums x there i)

    -- the name was used before, or is that of the phase
    was_used : (x : VarId) → Contains s.sums x → IsUsed h (l.params ++ v ∷ []) (name_of h x) → IsUsed g l.params (name_of g x)
    was_used x i u = ⊎_elim
        (λ j.
        let y = contains_map (name_of h) (l.params ++ v ∷ []) (name_of h x) j in
        ⊎_elim
        (λ c. inl (subst (Contains (names_of g l.params)) (sym (name_kept g h y.0 grown (All-contains (IsVariable g) l.params y.0 fits.params c)) ∙ sym y.1.1 ∙ name_stays x i) (map_contains (name_of g) l.params y.0 c)))
        (λ c.
        let last : v ≡ y.0 = ⊎_elim (λ q. q) (λ n. absurd (contains_none y.0 n)) (contains_cases v y.0 [] c) in
        absurd (phase_apart x (All-contains (IsVariable g) s.sums x there i)
        (All-contains (HasTakenName g) s.sums x (All-contains (λ (z : PlainSummand). All (HasTakenName g) z.sums) l.summands s fits.sums_taken among) i) (y.1.1 ∙ sym (ap (name_of h) last))))
        (Contains-append_cases l.params (v ∷ []) y.0 y.1.0))
        (λ j. inr (subst (Contains (function_names g)) (name_stays x i) (functions_were (name_of h x) j)))
        u

    sums_named : All (λ x. ¬ (IsUsed h (l.params ++ v ∷ []) (name_of h x))) s.sums × AreDistinct (map (λ (n : NameId). n.0) (names_of h s.sums))
    sums_named = (
      all_from (λ x. ¬ (IsUsed h (l.params ++ v ∷ []) (name_of h x))) s.sums (λ x i u. All-contains (λ x. ¬ (IsUsed g l.params (name_of g x))) s.sums x own.0 i (was_used x i u)),
      subst (λ ns. AreDistinct (map (λ (n : NameId). n.0) ns)) (sym (names_kept g h s.sums grown there)) own.1,
    )

  pub summand_named : (us : List Tree) (t : PlainSummand) → IsSealedOf (entries_of h us) (entries_of g ts) l v.0 t → All (HasOwnNames g l.params) l.summands → HasOwnNames h (l.params ++ v ∷ []) t
  summand_named us t (of_a_summand s among is) own =
      subst (λ xs. All (λ x. ¬ (IsUsed h (l.params ++ v ∷ []) (name_of h x))) xs × AreDistinct (map (λ (n : NameId). n.0) (names_of h xs))) (sym (same_sums (entries_of h us) (entries_of g ts) (linear_of (entries_of g ts) l).params v.0 s t is)) (sums_named s among (All-contains (HasOwnNames g l.params) l.summands s own among))
  summand_named us t (the_last is) own =
      subst (λ xs. All (λ x. ¬ (IsUsed h (l.params ++ v ∷ []) (name_of h x))) xs × AreDistinct (map (λ (n : NameId). n.0) (names_of h xs))) (sym (no_sums (entries_of h us) (linear_of (entries_of g ts) l).params v.0 t is)) (All-nil (λ x. ¬ (IsUsed h (l.params ++ v ∷ []) (name_of h x))), tt)

-- ---- the whole process
params_still_named : {g : Sig} {ts : List Tree} {l : PlainLinear} {h : Sig} {us : List Tree} {k : PlainLinear} → IsSealed g ts l h us k → IsSignature g → IsGrown g h → IsNoAction g terminate_name → Fits g ts l → ParamsHaveOwnNames g l.params → ParamsHaveOwnNames h k.params
params_still_named {g = g} (it_never_ends _ same) old grown absent fits own = subst (λ (z : PlainLinear). ParamsHaveOwnNames g z.params) (sym same) own
params_still_named {g = g} {ts = ts} {l = l} {h = h} (it_is_sealed act v ends added params linear initial) old grown absent fits own =
    subst (ParamsHaveOwnNames h) (sym params) (params_named g h ts l v old grown fits (phase_named g h act v old absent added) own)

pub sealed_params_have_own_names : SealedParamsHaveOwnNames
sealed_params_have_own_names g h p q l k w own = params_still_named w.sealed w.old w.grown w.absent w.fits own

sums_still_named : {g : Sig} {ts : List Tree} {l : PlainLinear} {h : Sig} {us : List Tree} {k : PlainLinear} → IsSealed g ts l h us k → IsSignature g → IsGrown g h → IsNoAction g terminate_name → Fits g ts l → All (HasOwnNames g l.params) l.summands
    → All (HasOwnNames h k.params) k.summands
sums_still_named {g = g} (it_never_ends _ same) old grown absent fits own = subst (λ (z : PlainLinear). All (HasOwnNames g z.params) z.summands) (sym same) own
sums_still_named {g = g} {ts = ts} {l = l} {h = h} {us = us} {k = k} (it_is_sealed act v ends added params linear initial) old grown absent fits own =
    subst (λ ps. All (HasOwnNames h ps) k.summands) (sym params)
    (all_from (HasOwnNames h (l.params ++ v ∷ [])) k.summands (λ t i. summand_named g h ts l v old grown fits (phase_named g h act v old absent added) us t (sealed_of (entries_of h us) (entries_of g ts) l k v.0 linear t i) own))

pub sealed_sums_have_own_names : SealedSumsHaveOwnNames
sealed_sums_have_own_names g h p q l k w own = sums_still_named w.sealed w.old w.grown w.absent w.fits own
