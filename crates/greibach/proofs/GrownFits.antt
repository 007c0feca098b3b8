-- What fits over a signature and a pool fits over grown ones, and over more variables.
use Rattle.std.proofs.Common.{◌-◌, ℕ, List, [], ◌∷◌, ◌++◌, map, refl, sym, ◌∙◌, subst}
use Rattle.std.specs.List.{All}
use Rattle.std.proofs.lemmas.List.Elements.{All-nil, All-cons, All-head, All-tail, All-weaker}
use Rattle.data_theory.specs.declared.ids.SortId.{SortId}
use Rattle.data_theory.specs.declared.ids.VarId.{VarId}
use Rattle.data_theory.specs.declared.ids.TermId.{TermId}
use Rattle.data_theory.specs.Complete.{BeginsWith}
use Rattle.data_theory.specs.Environments.{IsOver}
use Rattle.data_theory.specs.Table.{bool_sort}
use Rattle.data_theory.specs.Signature.{Sig}
use Rattle.data_theory.specs.WholeSignatures.{IsSignature}
use Rattle.data_theory.specs.IdTrees.{Tree}
use Rattle.data_theory.proofs.IdTermLemmas.{sorted_trees_are_within}
use Rattle.data_theory.proofs.IdGrowthLemmas.{growth_after_growth_is_growth}
use Rattle.term_pool.specs.HeadTrees.{tree_at, IsIn}
use Rattle.term_pool.specs.Pools.{Extends}
use Rattle.process_terms.specs.PlainProcesses.{PlainAction}
use Rattle.process_terms.specs.Meanings.{ReadsOnly}
use Rattle.process_terms.specs.SignatureEntries.{entries_of, BothGrow}
use Rattle.lps_core.specs.Fitting.{IsTermOf, AreTermsOf, IsVariable, sort_of_variable}
use Rattle.lps_core.specs.Naming.{GrowsByNames}
use Rattle.lps_core.specs.TreeSummands.{numbers_of}
use Rattle.lps_core.proofs.GrownSignatures.{grown_same}
use Rattle.lps_core.proofs.NamedSums.{variable_kept, sort_kept, sorts_kept}
use Rattle.lps_core.proofs.OverVariables.{over_more}
use Rattle.lps_core.proofs.PoolTrees.{extends_on}
use Rattle.lps_core.proofs.Staying.{term_stays}
use Rattle.lps_core.proofs.StayingFits.{term_fits, terms_fit, action_fits}
use Rattle.proc_unfold.specs.FittingModels.{TermFits, TermsFit, ActionFits}
use Rattle.greibach.specs.PlainForms.{PlainFormSummand}
use Rattle.greibach.specs.PlacesInCode.{PlainPlace, PlainPlaces}
use Rattle.greibach.specs.FittingPlaces.{AreAmong, PlacesFitSince}
use Rattle.greibach.specs.Surroundings.{PlainAround, PlainUnfolding, BindingFits, CallOfPlace, NumberedCall, Surrounds, SummandStands, CanAdd, Added}
use Rattle.greibach.proofs.ReadPlaces.{still_read, begins_itself, begins_then}

pub both_by_names : (g h : Sig) (ts us : List Tree) → GrowsByNames g h → Extends ts us → BothGrow g h ts us
both_by_names g h ts us n e = record { signature = n.grown; pool = e }

pub pool_alone : (g : Sig) (ts us : List Tree) → Extends ts us → BothGrow g g ts us
pool_alone g ts us e = record { signature = grown_same g g refl; pool = e }

-- ---- growth
module _ (g h : Sig) (ts us : List Tree) (sg : IsSignature g) (grow : BothGrow g h ts us) where
  over_stays : (xs : List VarId) (s : SortId) (id : TermId) → IsTermOf g ts s id → ReadsOnly (entries_of g ts) xs id → ReadsOnly (entries_of h us) xs id
  over_stays xs s id k o = subst (IsOver (numbers_of xs)) (sym (term_stays g h ts us sg.table sg.complete grow id k.within (sorted_trees_are_within g sg.table (tree_at ts id) s k.sorted))) o

  overs_stay : (xs : List VarId) (ss : List SortId) (ids : List TermId) → AreTermsOf g ts ss ids → All (ReadsOnly (entries_of g ts) xs) ids → All (ReadsOnly (entries_of h us) xs) ids
  overs_stay xs ss [] k o = All-nil (ReadsOnly (entries_of h us) xs)
  overs_stay xs [] (id ∷ ids) k o = absurd k.sorted
  overs_stay xs (s ∷ ss) (id ∷ ids) k o =
      All-cons (ReadsOnly (entries_of h us) xs) id ids (over_stays xs s id (record { within = All-head (IsIn ts) id ids k.within; sorted = k.sorted.0 }) (All-head (ReadsOnly (entries_of g ts) xs) id ids o))
      (overs_stay xs ss ids (record { within = All-tail (IsIn ts) id ids k.within; sorted = k.sorted.1 }) (All-tail (ReadsOnly (entries_of g ts) xs) id ids o))

  pub term_grows : (xs : List VarId) (s : SortId) (id : TermId) → TermFits g ts xs s id → TermFits h us xs s id
  term_grows xs s id k = record { term = term_fits g h ts us grow s id k.term; over = over_stays xs s id k.term k.over }

  pub terms_grow : (xs : List VarId) (ss : List SortId) (ids : List TermId) → TermsFit g ts xs ss ids → TermsFit h us xs ss ids
  terms_grow xs ss ids k = record { terms = terms_fit g h ts us grow ss ids k.terms; over = overs_stay xs ss ids k.terms k.over }

  pub action_grows : (xs : List VarId) (a : PlainAction) → ActionFits g ts xs a → ActionFits h us xs a
  action_grows xs a k = record { action = action_fits g h ts us grow a k.action; over = overs_stay xs k.action.key.sorts a.args k.action.args k.over }

  binding_grows : (xs : List VarId) (p : VarId × TermId) → BindingFits g ts xs p → BindingFits h us xs p
  binding_grows xs p k = record {
    variable = variable_kept g h p.0 grow.signature k.variable;
    term = subst (λ s. TermFits h us xs s p.1) (sym (sort_kept g h p.0 grow.signature k.variable)) (term_grows xs (sort_of_variable g p.0) p.1 k.term);
  }

  pub variables_grow : (xs : List VarId) → All (IsVariable g) xs → All (IsVariable h) xs
  variables_grow xs k = All-weaker (IsVariable g) (IsVariable h) (λ x l. variable_kept g h x grow.signature l) xs k

  pub call_grows : (ps : List PlainPlace) (xs : List VarId) (c : ℕ × List TermId) → CallOfPlace g ts ps xs c → CallOfPlace h us ps xs c
  call_grows ps xs c k = record {
    place = k.place;
    stands = k.stands;
    variables = variables_grow k.place.params k.variables;
    args = subst (λ ss. TermsFit h us xs ss c.1) (sym (sorts_kept g h k.place.params grow.signature k.variables)) (terms_grow xs (map (sort_of_variable g) k.place.params) c.1 k.args);
  }

  pub numbered_grows : (ps : List PlainPlace) (met later : List ℕ) (xs : List VarId) (c : ℕ × List TermId) → BeginsWith met later → NumberedCall g ts ps met xs c → NumberedCall h us ps later xs c
  numbered_grows ps met later xs c b k = record { place = k.place; number = (k.number.0, still_read met later (c.0 - 1) k.place b k.number.1); call = call_grows ps xs (k.place, c.1) k.call }

  pub surrounds_grow : (ps : List PlainPlace) (a : PlainAround) (waiting : List (ℕ × List TermId)) → Surrounds g ts ps a waiting → Surrounds h us ps a waiting
  surrounds_grow ps a waiting k = record {
    params = variables_grow a.params k.params;
    sums = variables_grow a.sums k.sums;
    distinct = k.distinct;
    apart = k.apart;
    listed = All-weaker (BindingFits g ts (a.sums ++ a.params)) (BindingFits h us (a.sums ++ a.params)) (λ p f. binding_grows (a.sums ++ a.params) p f) a.by k.listed;
    parts = All-weaker (TermFits g ts (a.sums ++ a.params) bool_sort) (TermFits h us (a.sums ++ a.params) bool_sort) (λ id f. term_grows (a.sums ++ a.params) bool_sort id f) a.parts k.parts;
    waiting_fits = All-weaker (CallOfPlace g ts ps (a.sums ++ a.params)) (CallOfPlace h us ps (a.sums ++ a.params)) (λ c f. call_grows ps (a.sums ++ a.params) c f) waiting k.waiting_fits;
  }

  pub summand_grows : (ps : List PlainPlace) (met later : List ℕ) (params : List VarId) (s : PlainFormSummand) → BeginsWith met later → SummandStands g ts ps met params s → SummandStands h us ps later params s
  summand_grows ps met later params s b k = record {
    sums = variables_grow s.sums k.sums;
    distinct = k.distinct;
    apart = k.apart;
    condition = term_grows (s.sums ++ params) bool_sort s.condition k.condition;
    label = All-weaker (ActionFits g ts (s.sums ++ params)) (ActionFits h us (s.sums ++ params)) (λ a f. action_grows (s.sums ++ params) a f) s.label k.label;
    next = All-weaker (NumberedCall g ts ps met (s.sums ++ params)) (NumberedCall h us ps later (s.sums ++ params)) (λ c f. numbered_grows ps met later (s.sums ++ params) c b f) s.next k.next;
  }

  pub summands_grow : (ps : List PlainPlace) (met later : List ℕ) (params : List VarId) (ss : List PlainFormSummand) → BeginsWith met later → All (SummandStands g ts ps met params) ss → All (SummandStands h us ps later params) ss
  summands_grow ps met later params ss b k = All-weaker (SummandStands g ts ps met params) (SummandStands h us ps later params) (λ s f. summand_grows ps met later params s b f) ss k

pub since_grows : (g h : Sig) (ts us : List Tree) (t : PlainPlaces) → GrowsByNames g h → Extends ts us → PlacesFitSince g ts t → PlacesFitSince h us t
since_grows g h ts us t n e k = record {
  old = k.old;
  trees = k.trees;
  signature = k.signature;
  grown = record { signature = growth_after_growth_is_growth k.old g h k.grown.signature n.grown; pool = extends_on k.trees ts us k.grown.pool e };
  fit = k.fit;
}

-- ---- more variables
module _ (g : Sig) (ts : List Tree) (xs ys : List VarId) (w : AreAmong xs ys) where
  pub term_wider : (s : SortId) (id : TermId) → TermFits g ts xs s id → TermFits g ts ys s id
  term_wider s id k = record { term = k.term; over = over_more (numbers_of xs) (numbers_of ys) w _ k.over }

  pub terms_wider : (ss : List SortId) (ids : List TermId) → TermsFit g ts xs ss ids → TermsFit g ts ys ss ids
  terms_wider ss ids k = record { terms = k.terms; over = All-weaker (ReadsOnly (entries_of g ts) xs) (ReadsOnly (entries_of g ts) ys) (λ id o. over_more (numbers_of xs) (numbers_of ys) w _ o) ids k.over }

  pub action_wider : (a : PlainAction) → ActionFits g ts xs a → ActionFits g ts ys a
  action_wider a k = record { action = k.action; over = All-weaker (ReadsOnly (entries_of g ts) xs) (ReadsOnly (entries_of g ts) ys) (λ id o. over_more (numbers_of xs) (numbers_of ys) w _ o) a.args k.over }

  pub binding_wider : (p : VarId × TermId) → BindingFits g ts xs p → BindingFits g ts ys p
  binding_wider p k = record { variable = k.variable; term = term_wider (sort_of_variable g p.0) p.1 k.term }

  pub call_wider : (ps : List PlainPlace) (c : ℕ × List TermId) → CallOfPlace g ts ps xs c → CallOfPlace g ts ps ys c
  call_wider ps c k = record { place = k.place; stands = k.stands; variables = k.variables; args = terms_wider (map (sort_of_variable g) k.place.params) c.1 k.args }

-- ---- steps one after another
-- what is around a place is around the next one
pub can_later : (g h : Sig) (ts us : List Tree) (t : PlainPlaces) (a : PlainAround) (u v : PlainUnfolding) → CanAdd g ts t a u → GrowsByNames g h → Extends ts us → Added g h ts us t a.params u v → CanAdd h us t a v
can_later g h ts us t a u v k n e d = record {
  signature = n.stands;
  names = d.names;
  table = since_grows g h ts us t n e k.table;
  around = subst (λ w. Surrounds h us t.places a w) (sym d.waiting) (surrounds_grow g h ts us k.signature (both_by_names g h ts us n e) t.places a u.waiting k.around);
  standing = d.standing;
}

pub added_then : (g h j : Sig) (ts us vs : List Tree) (t : PlainPlaces) (params : List VarId) (u v w : PlainUnfolding) → Added g h ts us t params u v → Added h j us vs t params v w → Added g j ts vs t params u w
added_then g h j ts us vs t params u v w d k = record { names = k.names; waiting = k.waiting ∙ d.waiting; met = begins_then u.met v.met w.met d.met k.met; standing = k.standing }

pub added_nothing : (g : Sig) (ts : List Tree) (t : PlainPlaces) (a : PlainAround) (u : PlainUnfolding) → CanAdd g ts t a u → Added g g ts ts t a.params u u
added_nothing g ts t a u k = record { names = k.names; waiting = refl; met = begins_itself u.met; standing = k.standing }

-- as the pool alone grows
pub can_in_pool : (g : Sig) (ts us : List Tree) (t : PlainPlaces) (a : PlainAround) (u : PlainUnfolding) → CanAdd g ts t a u → Extends ts us → CanAdd g us t a u
can_in_pool g ts us t a u k e =
    let grow = pool_alone g ts us e in
    record {
      signature = k.signature;
      names = k.names;
      table = record { old = k.table.old; trees = k.table.trees; signature = k.table.signature; grown = record { signature = k.table.grown.signature; pool = extends_on k.table.trees ts us k.table.grown.pool e }; fit = k.table.fit };
      around = surrounds_grow g g ts us k.signature grow t.places a u.waiting k.around;
      standing = record { met_there = k.standing.met_there; summands = summands_grow g g ts us k.signature grow t.places u.met u.met a.params u.summands (begins_itself u.met) k.standing.summands };
    }

pub added_from_pool : (g h : Sig) (ts us vs : List Tree) (t : PlainPlaces) (params : List VarId) (u v : PlainUnfolding) → Added g h us vs t params u v → Added g h ts vs t params u v
added_from_pool g h ts us vs t params u v d = record { names = d.names; waiting = d.waiting; met = d.met; standing = d.standing }
