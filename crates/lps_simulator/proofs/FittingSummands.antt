-- From a process that fits to its summands, and states and moves as the pool grows.
use Rattle.std.proofs.Common.{◌≡◌, ◌<◌, ℕ, List, [], ◌∷◌, map, length, refl, sym, ap, ap₂, ◌∙◌, subst, Option, Some, None}
use Rattle.std.specs.Prelude.{IfSome, option_map, slice_get, Contains}
use Rattle.std.specs.List.{All, AllZip}
use Rattle.std.proofs.lemmas.List.Elements.{All-nil, All-cons, All-head, All-tail, All-contains, All-weaker}
use Rattle.data_theory.specs.declared.ids.SortId.{SortId}
use Rattle.data_theory.specs.declared.ids.VarId.{VarId}
use Rattle.data_theory.specs.declared.ids.TermId.{TermId}
use Rattle.data_theory.specs.Complete.{IsActionWithin}
use Rattle.data_theory.specs.Terms.{Sort, Term, Terms, more}
use Rattle.data_theory.specs.Declarations.{Data, HaveSorts}
use Rattle.data_theory.specs.Environments.{terms_of}
use Rattle.data_theory.specs.Keys.{Key}
use Rattle.data_theory.specs.Table.{bool_sort}
use Rattle.data_theory.specs.Signature.{Sig}
use Rattle.data_theory.specs.WholeSignatures.{IsSignature}
use Rattle.data_theory.specs.IdData.{data_meant}
use Rattle.data_theory.specs.IdTrees.{Tree, trees_of}
use Rattle.data_theory.specs.IdTreeSorts.{HaveTreeSorts}
use Rattle.data_theory.specs.IdTerms.{sort_under, term_under, terms_under, variable_sorts, AreTreesWithin}
use Rattle.data_theory.proofs.EnvironmentLemmas.{closed_terms_fit}
use Rattle.data_theory.proofs.IdTermLemmas.{sorted_trees_are_within}
use Rattle.term_pool.specs.HeadTrees.{tree_at, trees_at, IsIn, AreIn}
use Rattle.term_pool.specs.Pools.{Extends}
use Rattle.data_rewriter.specs.Standing.{IsTerm}
use Rattle.process_terms.specs.PlainProcesses.{PlainAction}
use Rattle.process_terms.specs.Meanings.{bound_at, term_at, action_of, label_of}
use Rattle.process_terms.specs.SignatureEntries.{entries_of}
use Rattle.bisim_laws.specs.LinearProcesses.{sorts, IsSummand, SummandIsSorted, LabelIsSorted, AreDeclared}
use Rattle.lps_core.specs.Fitting.{IsTermOf, AreTermsOf, IsActionOf, IsVariable, sort_of_variable, SummandFits, Fits}
use Rattle.lps_core.specs.PlainLinears.{PlainSummand, PlainLinear, summand_of, linear_of}
use Rattle.lps_core.proofs.Members.{map_contains, all_at}
use Rattle.lps_core.proofs.PoolTrees.{all_in_kept, trees_kept}
use Rattle.lps_core.proofs.Staying.{terms_are, sorts_of_variables, sort_is_within, what_fits_is_sorted}
use Rattle.lps_simulator.specs.Rewritten.{IsActionOver}
use Rattle.lps_simulator.specs.OptionsInCode.{PlainMove, IsState, IsMove, meant_move, terms_at}
use Rattle.lps_simulator.specs.Trying.{IsSummandOver}
use Rattle.lps_simulator.proofs.SortedTrees.{all_sorted_back}

-- ---- terms of sorts, and terms of the signature
module _ (g : Sig) (stands : IsSignature g) (ts : List Tree) where
  pub sorted_within : (s : SortId) (id : TermId) → IsTermOf g ts s id → IsTerm g ts id
  sorted_within s id h = record { inside = h.within; within = sorted_trees_are_within g stands.table (tree_at ts id) s h.sorted }

  pub all_sorted_within : (ss : List SortId) (ids : List TermId) → AreTermsOf g ts ss ids → All (IsTerm g ts) ids
  all_sorted_within ss [] h = All-nil (IsTerm g ts)
  all_sorted_within [] (id ∷ ids) h = absurd h.sorted
  all_sorted_within (s ∷ ss) (id ∷ ids) h =
      All-cons (IsTerm g ts) id ids (sorted_within s id (record { within = All-head (IsIn ts) id ids h.within; sorted = h.sorted.0 }))
      (all_sorted_within ss ids (record { within = All-tail (IsIn ts) id ids h.within; sorted = h.sorted.1 }))

  action_over : (a : PlainAction) → IsActionOf g ts a → IsActionOver g ts a
  action_over a h = record { key = h.key; stands = h.stands; args = all_sorted_within h.key.sorts a.args h.args }

  next_over : (ss : List SortId) (o : Option (List TermId)) → IfSome o (AreTermsOf g ts ss) → IfSome o (All (IsTerm g ts))
  next_over ss None h = tt
  next_over ss (Some ids) h = all_sorted_within ss ids h

  pub summand_over : (ps : List VarId) (s : PlainSummand) → SummandFits g ts ps s → IsSummandOver g ts s
  summand_over ps s h = record {
    condition = sorted_within bool_sort s.condition h.condition;
    label = All-weaker (IsActionOf g ts) (IsActionOver g ts) action_over s.label h.label;
    next = next_over (map (sort_of_variable g) ps) s.next h.next;
  }

  pub fitting_over : (l : PlainLinear) (s : PlainSummand) → Fits g ts l → Contains l.summands s → IsSummandOver g ts s
  fitting_over l s fits i = summand_over l.params s (All-contains (SummandFits g ts l.params) l.summands s fits.summands i)

  pub fitting_shape : (l : PlainLinear) (s : PlainSummand) → Fits g ts l → Contains l.summands s → IsSummand (linear_of (entries_of g ts) l).params (summand_of (entries_of g ts) s)
  fitting_shape l s fits i = fits.linear.summands (summand_of (entries_of g ts) s) (map_contains (summand_of (entries_of g ts)) l.summands s i)

  pub fitting_sorted : (l : PlainLinear) (s : PlainSummand) → Fits g ts l → Contains l.summands s → SummandIsSorted (data_meant g) (variable_sorts g) (linear_of (entries_of g ts) l).params (summand_of (entries_of g ts) s)
  fitting_sorted l s fits i = (what_fits_is_sorted g ts l stands.table stands.complete fits).summands (summand_of (entries_of g ts) s) (map_contains (summand_of (entries_of g ts)) l.summands s i)

  pub fitting_declared : (l : PlainLinear) → Fits g ts l → AreDeclared (variable_sorts g) (linear_of (entries_of g ts) l).params
  fitting_declared l fits = (what_fits_is_sorted g ts l stands.table stands.complete fits).params

  -- ---- from closed terms of sorts back to their trees
  trees_within : (ids : List TermId) → All (IsTerm g ts) ids → AreTreesWithin g (trees_of (trees_at ts ids))
  trees_within [] h = tt
  trees_within (id ∷ ids) h = ((All-head (IsTerm g ts) id ids h).within, trees_within ids (All-tail (IsTerm g ts) id ids h))

  trees_mean : (ids : List TermId) → terms_under g (trees_of (trees_at ts ids)) ≡ terms_of (map (term_under g) (trees_at ts ids))
  trees_mean [] = refl
  trees_mean (id ∷ ids) = ap (λ (z : Terms). more (term_under g (tree_at ts id)) z) (trees_mean ids)

  pub all_inside : (ids : List TermId) → All (IsTerm g ts) ids → AreIn ts ids
  all_inside ids h = All-weaker (IsTerm g ts) (IsIn ts) (λ id k. k.inside) ids h

  pub terms_back : (ss : List SortId) (ids : List TermId) → All (IsTerm g ts) ids → All (λ (s : SortId). s.0 < length g.sorts) ss → HaveSorts (data_meant g) [] (terms_of (terms_at g ts ids)) (map (sort_under g) ss) → AreTermsOf g ts ss ids
  terms_back ss ids h l k = record {
    within = all_inside ids h;
    sorted = all_sorted_back g stands (trees_of (trees_at ts ids)) ss (trees_within ids h) l
        (subst (λ z. HaveSorts (data_meant g) (variable_sorts g) z (map (sort_under g) ss)) (ap terms_of (terms_are g ts ids (all_inside ids h)) ∙ sym (trees_mean ids))
        (anywhere (data_meant g) (variable_sorts g) (terms_at g ts ids) (map (sort_under g) ss) k));
  }
    where
      anywhere : (d : Data) (vs : List Sort) (us : List Term) (rs : List Sort) → HaveSorts d [] (terms_of us) rs → HaveSorts d vs (terms_of us) rs
      anywhere d vs [] [] h = tt
      anywhere d vs [] (r ∷ rs) h = absurd h
      anywhere d vs (u ∷ us) [] h = absurd h
      anywhere d vs (u ∷ us) (r ∷ rs) h = (closed_terms_fit d vs u r h.0, anywhere d vs us rs h.1)

  pub key_within : (key : Key) (k : ℕ) → slice_get g.actions k ≡ Some key → All (λ (s : SortId). s.0 < length g.sorts) key.sorts
  key_within key k e = (all_at (IsActionWithin (length g.texts) (length g.sorts)) g.actions k key stands.complete.within.actions e).takes

  pub sorts_within : (ps : List VarId) → All (IsVariable g) ps → All (λ (s : SortId). s.0 < length g.sorts) (map (sort_of_variable g) ps)
  sorts_within [] h = All-nil (λ (s : SortId). s.0 < length g.sorts)
  sorts_within (p ∷ ps) h =
      All-cons (λ (s : SortId). s.0 < length g.sorts) (sort_of_variable g p) (map (sort_of_variable g) ps) (sort_is_within g p stands.complete (All-head (IsVariable g) p ps h)) (sorts_within ps (All-tail (IsVariable g) p ps h))

-- ---- pools that grow
module _ (g : Sig) (ts us : List Tree) (e : Extends ts us) where
  pub ids_stay : (ids : List TermId) → AreIn ts ids → terms_at g us ids ≡ terms_at g ts ids
  ids_stay ids h = terms_are g us ids (all_in_kept ts us ids e h) ∙ ap (map (term_under g)) (trees_kept ts us ids e h) ∙ sym (terms_are g ts ids h)

  pub terms_of_stay : (ss : List SortId) (ids : List TermId) → AreTermsOf g ts ss ids → AreTermsOf g us ss ids
  terms_of_stay ss ids h = record { within = all_in_kept ts us ids e h.within; sorted = subst (λ z. HaveTreeSorts g (trees_of z) ss) (sym (trees_kept ts us ids e h.within)) h.sorted }

  pub state_stays : (ps : List VarId) (state : List TermId) → IsState g ts ps state → IsState g us ps state
  state_stays ps state h = record {
    terms = terms_of_stay (map (sort_of_variable g) ps) state h.terms;
    closed = subst (λ z. HaveSorts (data_meant g) [] (terms_of z) (sorts (map (bound_at (entries_of g ts)) ps))) (sym (ids_stay state h.terms.within)) h.closed;
  }

  action_stays : (a : PlainAction) → IsActionOf g ts a → IsActionOf g us a
  action_stays a h = record { key = h.key; stands = h.stands; args = terms_of_stay h.key.sorts a.args h.args }

  pub label_stays : (m : List PlainAction) → All (IsActionOf g ts) m → label_of (entries_of g us) m ≡ label_of (entries_of g ts) m
  label_stays [] h = refl
  label_stays (a ∷ m) h =
      ap₂ (λ args n. record { name = (action_of (entries_of g ts) a).name; sorts = (action_of (entries_of g ts) a).sorts; args = args } ∷ n)
      (ids_stay a.args (All-head (IsActionOf g ts) a m h).args.within)
      (label_stays m (All-tail (IsActionOf g ts) a m h))

  next_stays : (ps : List VarId) (o : Option (List TermId)) → IfSome o (IsState g ts ps) → IfSome o (IsState g us ps)
  next_stays ps None h = tt
  next_stays ps (Some ids) h = state_stays ps ids h

  next_means : (ps : List VarId) (o : Option (List TermId)) → IfSome o (IsState g ts ps) → option_map (terms_at g us) o ≡ option_map (terms_at g ts) o
  next_means ps None h = refl
  next_means ps (Some ids) h = ap (λ (z : List Term). Some z) (ids_stay ids h.terms.within)

  pub move_stays : (ps : List VarId) (m : PlainMove) → IsMove g ts ps m → IsMove g us ps m
  move_stays ps m h = record {
    label = All-weaker (IsActionOf g ts) (IsActionOf g us) action_stays m.label h.label;
    closed = subst (LabelIsSorted (data_meant g) []) (sym (label_stays m.label h.label)) h.closed;
    next = next_stays ps m.next h.next;
  }

  pub moves_stay : (ps : List VarId) (ms : List PlainMove) → All (IsMove g ts ps) ms → All (IsMove g us ps) ms
  moves_stay ps ms h = All-weaker (IsMove g ts ps) (IsMove g us ps) (λ m k. move_stays ps m k) ms h

  pub moves_mean : (ps : List VarId) (ms : List PlainMove) → All (IsMove g ts ps) ms → map (meant_move g us) ms ≡ map (meant_move g ts) ms
  moves_mean ps [] h = refl
  moves_mean ps (m ∷ ms) h =
      let k = All-head (IsMove g ts ps) m ms h in
      ap₂ (λ x xs. x ∷ xs) (ap₂ (λ label next. record { summand = m.summand; label = label; next = next }) (label_stays m.label k.label) (next_means ps m.next k.next)) (moves_mean ps ms (All-tail (IsMove g ts ps) m ms h))
