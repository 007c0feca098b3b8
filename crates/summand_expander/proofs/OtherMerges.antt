-- Merges that are cut and have other numbers.
use Rattle.std.proofs.Common.{◌≡◌, ℕ, Bool, true, List, [], ◌∷◌, ◌++◌, map, refl, sym, ap, ap₂, ◌∙◌, subst, Option, ⊎_elim}
use Rattle.std.specs.Prelude.{Contains, flat_map, ◌↔◌}
use Rattle.std.proofs.lemmas.List.{map-append}
use Rattle.std.proofs.lemmas.List.Elements.{Contains-append_left, Contains-append_right}
use Rattle.data_theory.specs.Terms.{Sort}
use Rattle.data_theory.specs.Declarations.{Data}
use Rattle.data_theory.specs.Environments.{AreDistinct}
use Rattle.data_theory.proofs.EnvironmentLemmas.{contains_first, contains_later, contains_cases, contains_nothing}
use Rattle.process_terms.specs.Names.{Name}
use Rattle.process_terms.specs.Labels.{names}
use Rattle.process_terms.specs.Communication.{Rule}
use Rattle.process_terms.specs.Processes.{Bound}
use Rattle.bisim_laws.specs.LinearProcesses.{Summand, Linear, variables, sorts, IsSummand, IsLinear}
use Rattle.bisim_laws.proofs.Firing.{contains_first as first_in, contains_later as later_in}
use Rattle.lps_core.proofs.Members.{In, here, there, in_each, map_in, in_contains}
use Rattle.lps_core.proofs.OverVariables.{distinct_append}
use Rattle.bisim_laws.specs.Within.{GoesToParts}
use Rattle.bisim_laws.specs.Scopes.{completable, Matters}
use Rattle.bisim_laws.proofs.Completing.{goes_to_parts}
use Rattle.summand_expander.specs.Product.{flag_of, columns, product, Separate}
use Rattle.summand_expander.specs.Renewing.{renewed_bounds, renewed_summand, renewed}
use Rattle.summand_expander.proofs.Whole.{linear_product}
use Rattle.communication.specs.Communicated.{communicated}
use Rattle.communication.proofs.Communicating.{in_ways}
use Rattle.summand_expander.specs.LeavingOut.{LeavesOut, MergeTree, full, within}
use Rattle.summand_expander.specs.LeavingOut as exact
use Rattle.summand_expander.proofs.CutProducts.{pruned_out}
use Rattle.action_filters.specs.Filtering.{if_allowed}
use Rattle.summand_expander.specs.PruningLaws.{can_complete}
use Rattle.action_filters.proofs.AllowedExactly.{in_if}
use Rattle.summand_expander.proofs.KeptAlike.{keep, none_kept, each_twice}
use Rattle.summand_expander.proofs.ToldCompletable.{test_tells}
use Rattle.summand_expander.specs.OtherIds.{HasOtherIds, LeavesOutOf, none_there, one_stays, one_left_out, AreAlike, no_numbers, more_numbers, IsCutWithOtherIds, AllWithOtherIds, no_summands, more_summands, FlagsAlike, side_of, MergesAlike, same_process, same_merge}
use Rattle.summand_expander.specs.OtherIdsLaws.{SameName, AllowKeepsTheSameButIds}
use Rattle.summand_expander.proofs.RenewedTerms.{summand_along, summand_twice, bounds_along, bounds_twice}
use Rattle.summand_expander.proofs.RenewedWays.{names_renewed, kept_renewed}
use Rattle.summand_expander.proofs.OtherProducts.{out_map, summands_out}
use Rattle.summand_expander.proofs.Numberings.{in_place, place_bounds, same_renewal, split_bounds, bounds_append, sorts_append, flags_sorts, flags_alike, alike_append}

-- ---- other numbers keep names
other_names : {Alike : ℕ → ℕ → Type 0} {ps qs : List Bound} {s t : Summand} → HasOtherIds Alike ps qs s t → names t.label ≡ names s.label
other_names {s = s} h = ap (λ (z : Summand). names z.label) h.is ∙ names_renewed h.to s.label

-- ---- one after the other
module _ (Can : List Name → Type 0) (Alike : ℕ → ℕ → Type 0) (ps qs : List Bound) where
  out_then : {ss ts us : List Summand} → LeavesOutOf Can (HasOtherIds Alike ps qs) ss ts → LeavesOut Can ts us → LeavesOutOf Can (HasOtherIds Alike ps qs) ss us
  out_then none_there exact.none_there = none_there
  out_then (one_stays e h) (exact.one_stays k) = one_stays e (out_then h k)
  out_then (one_stays e h) (exact.one_left_out n k) = one_left_out (λ c. n (subst Can (sym (other_names e)) c)) (out_then h k)
  out_then (one_left_out n h) k = one_left_out n (out_then h k)

-- ---- other variables
renewed_sorts : (r : ℕ → ℕ) (xs : List Bound) → sorts (renewed_bounds r xs) ≡ sorts xs
renewed_sorts r [] = refl
renewed_sorts r (x ∷ xs) = ap (λ l. x.sort ∷ l) (renewed_sorts r xs)

renewed_from : (r : ℕ → ℕ) (xs : List Bound) (v : ℕ) → Contains (variables (renewed_bounds r xs)) v → (x : ℕ) × (Contains (variables xs) x × (r x ≡ v))
renewed_from r [] v h = absurd (contains_nothing v h)
renewed_from r (x ∷ xs) v h = ⊎_elim (λ q. (x.var, (contains_first x.var (variables xs), q))) (λ j. let k = renewed_from r xs v j in (k.0, (contains_later x.var k.0 (variables xs) k.1.0, k.1.1))) (contains_cases (r x.var) v (variables (renewed_bounds r xs)) h)

alike_renewed : {Alike : ℕ → ℕ → Type 0} (r r' : ℕ → ℕ) (xs ys : List Bound) → ((v w : ℕ) → Contains (variables xs) v → Alike v w → Alike (r v) (r' w)) → AreAlike Alike (variables xs) (variables ys) → AreAlike Alike (variables (renewed_bounds r xs)) (variables (renewed_bounds r' ys))
alike_renewed r r' [] [] f no_numbers = no_numbers
alike_renewed r r' [] (y ∷ ys) f h = elim h [ ]
alike_renewed r r' (x ∷ xs) [] f h = elim h [ ]
alike_renewed r r' (x ∷ xs) (y ∷ ys) f (more_numbers h k) = more_numbers (f x.var y.var (contains_first x.var (variables xs)) h) (alike_renewed r r' xs ys (λ v w i. f v w (contains_later x.var v (variables xs) i)) k)

variables_both : (xs ys : List Bound) → variables (xs ++ ys) ≡ variables xs ++ variables ys
variables_both xs ys = map-append (λ (x : Bound). x.var) xs ys

module _ (Alike : ℕ → ℕ → Type 0) (r r' : ℕ → ℕ) (ps qs : List Bound) (s t : Summand) (is : IsSummand ps s) (still : IsSummand (renewed_bounds r ps) (renewed_summand r s)) (apart_params : AreDistinct (variables (renewed_bounds r ps)))
    (alike : (v w : ℕ) → Contains (variables s.sums) v → Alike v w → Alike (r v) (r' w)) (h : HasOtherIds Alike ps qs s t) where
  abbrev cs : List Bound
  cs = s.sums ++ ps

  abbrev after : ℕ → ℕ
  after v = r' (h.to v)

  abbrev new_to : ℕ → ℕ
  new_to = in_place (variables (renewed_bounds r cs)) (variables (renewed_bounds after cs))

  distinct : AreDistinct (variables (renewed_bounds r cs))
  distinct = subst AreDistinct (sym (ap variables (bounds_append r s.sums ps) ∙ variables_both (renewed_bounds r s.sums) (renewed_bounds r ps)))
      (distinct_append (variables (renewed_bounds r s.sums)) (variables (renewed_bounds r ps)) still.distinct apart_params still.apart)

  on_scope : (v : ℕ) → Contains (variables s.sums ++ variables ps) v → new_to (r v) ≡ after v
  on_scope v i =
      same_renewal (λ v. new_to (r v)) after cs
      (sym (bounds_twice r new_to cs) ∙ place_bounds (renewed_bounds r cs) (renewed_bounds after cs) (renewed_sorts r cs ∙ sym (renewed_sorts after cs)) distinct)
      v (subst (λ z. Contains z v) (sym (variables_both s.sums ps)) i)

  pub renewed_other : HasOtherIds Alike (renewed_bounds r ps) (renewed_bounds r' qs) (renewed_summand r s) (renewed_summand r' t)
  renewed_other = record {
    to = new_to;
    params = bounds_twice r new_to ps ∙ bounds_along (λ v. new_to (r v)) after ps (λ v i. on_scope v (Contains-append_right (variables s.sums) (variables ps) v i)) ∙ sym (bounds_twice h.to r' ps) ∙ ap (renewed_bounds r') h.params;
    is = ap (renewed_summand r') h.is ∙ summand_twice h.to r' s ∙ sym (summand_along ps (λ v. new_to (r v)) after s is on_scope) ∙ sym (summand_twice r new_to s);
    sums = λ v i. let k = renewed_from r s.sums v i in
        subst (λ z. Alike z (new_to z)) k.1.1 (subst (λ z. Alike (r k.0) z) (sym (on_scope k.0 (Contains-append_left (variables s.sums) (variables ps) k.0 k.1.0))) (alike k.0 (h.to k.0) k.1.0 (h.sums k.0 k.1.0)));
  }

renewed_cut : (Can : List Name → Type 0) (Alike : ℕ → ℕ → Type 0) (r r' : ℕ → ℕ) (l k : Linear) → IsLinear l → IsLinear (renewed r l) → ((v w : ℕ) → Contains (variables l.params) v → Alike v w → Alike (r v) (r' w))
    → ((s : Summand) (v w : ℕ) → Contains l.summands s → Contains (variables s.sums) v → Alike v w → Alike (r v) (r' w)) → IsCutWithOtherIds Can Alike l k → IsCutWithOtherIds Can Alike (renewed r l) (renewed r' k)
renewed_cut Can Alike r r' l k is still params sums h = record {
  sorts_same = renewed_sorts r l.params ∙ h.sorts_same ∙ sym (renewed_sorts r' k.params);
  params = alike_renewed r r' l.params k.params params h.params;
  summands = out_map Can (HasOtherIds Alike l.params k.params) (HasOtherIds Alike (renewed_bounds r l.params) (renewed_bounds r' k.params)) (λ s. renewed_summand r s) (λ s. renewed_summand r' s) l.summands
      (λ s t i e. renewed_other Alike r r' l.params k.params s t (is.summands s (in_contains i)) (still.summands (renewed_summand r s) (in_contains (map_in (λ s. renewed_summand r s) i))) still.distinct (λ v w j. sums s v w (in_contains i) j) e)
      (λ s c. subst Can (names_renewed r s.label) c) h.summands;
}

-- ---- products
product_cut : (Can : List Name → Type 0) → GoesToParts Can → (Alike : ℕ → ℕ → Type 0) (g : Data) (vs : List Sort) (l k m n : Linear) (e f e' f' : Option ℕ) → Separate g vs (side_of l e) (side_of k f) → FlagsAlike Alike e e' → FlagsAlike Alike f f'
    → IsCutWithOtherIds Can Alike l m → IsCutWithOtherIds Can Alike k n → IsCutWithOtherIds Can Alike (product (side_of l e) (side_of k f)) (product (side_of m e') (side_of n f'))
product_cut Can part Alike g vs l k m n e f e' f' ok x y h w =
    let cs = columns (side_of l e) ++ columns (side_of k f) in
    let ds = columns (side_of m e') ++ columns (side_of n f') in
    let left : sorts (columns (side_of l e)) ≡ sorts (columns (side_of m e')) = sorts_append l.params (flag_of e) ∙ ap₂ (λ a b. a ++ b) h.sorts_same (flags_sorts x) ∙ sym (sorts_append m.params (flag_of e')) in
    let right : sorts (columns (side_of k f)) ≡ sorts (columns (side_of n f')) = sorts_append k.params (flag_of f) ∙ ap₂ (λ a b. a ++ b) w.sorts_same (flags_sorts y) ∙ sym (sorts_append n.params (flag_of f')) in
    let same : sorts cs ≡ sorts ds = sorts_append (columns (side_of l e)) (columns (side_of k f)) ∙ ap₂ (λ a b. a ++ b) left right ∙ sym (sorts_append (columns (side_of m e')) (columns (side_of n f'))) in
    let col = in_place (variables cs) (variables ds) in
    let whole = split_bounds col (columns (side_of l e)) (columns (side_of k f)) (columns (side_of m e')) (columns (side_of n f')) left (place_bounds cs ds same ok.distinct) in
    let one = split_bounds col l.params (flag_of e) m.params (flag_of e') h.sorts_same whole.0 in
    let two = split_bounds col k.params (flag_of f) n.params (flag_of f') w.sorts_same whole.1 in
    record {
      sorts_same = same;
      params = subst (λ z. AreAlike Alike z (variables ds)) (sym (variables_both (columns (side_of l e)) (columns (side_of k f))))
          (subst (λ z. AreAlike Alike (variables (columns (side_of l e)) ++ variables (columns (side_of k f))) z) (sym (variables_both (columns (side_of m e')) (columns (side_of n f'))))
          (alike_append (both l.params m.params e e' h.params x) (both k.params n.params f f' w.params y)));
      summands = summands_out Can Alike l k m n e f e' f' ok.left.linear ok.right.linear col one.0 one.1 two.0 two.1 ok.left_apart ok.right_apart ok.sums part h.summands w.summands;
    }
  where
    both : (xs ys : List Bound) (a b : Option ℕ) → AreAlike Alike (variables xs) (variables ys) → FlagsAlike Alike a b → AreAlike Alike (variables (xs ++ flag_of a)) (variables (ys ++ flag_of b))
    both xs ys a b h x = subst (λ z. AreAlike Alike z (variables (ys ++ flag_of b))) (sym (variables_both xs (flag_of a)))
        (subst (λ z. AreAlike Alike (variables xs ++ variables (flag_of a)) z) (sym (variables_both ys (flag_of b))) (alike_append h (flags_alike x)))

-- ---- nested merges
module _ (Can : List Name → Type 0) (part : GoesToParts Can) (can : List Name → Bool) (tells : (ns : List Name) → (can ns ≡ true) ↔ Can ns) (Alike : ℕ → ℕ → Type 0) (g : Data) (vs : List Sort) where
  full_linear : {t u : MergeTree} → MergesAlike Alike g vs t u → IsLinear (full t)
  full_linear (same_process is merged params sums) = is
  full_linear (same_merge {t = t} {u = u} {e = e} {f = f} {r = r} h k x y params sums ok) = linear_product g vs (side_of (full t) e) (side_of (renewed r (full u)) f) ok

  pub merges_cut : {t u : MergeTree} → MergesAlike Alike g vs t u → IsCutWithOtherIds Can Alike (full t) (within can u)
  merges_cut (same_process {l = l} is merged params sums) = record { sorts_same = refl; params = params; summands = all l.summands merged sums }
    where
      itself : (xs : List Bound) → renewed_bounds (λ v. v) xs ≡ xs
      itself [] = refl
      itself (x ∷ xs) = ap (λ l. x ∷ l) (itself xs)

      all : (ss : List Summand) → ((s : Summand) → Contains ss s → renewed_summand (λ v. v) s ≡ s) → ((s : Summand) (v : ℕ) → Contains ss s → Contains (variables s.sums) v → Alike v v) → LeavesOutOf Can (HasOtherIds Alike l.params l.params) ss ss
      all [] f h = none_there
      all (s ∷ ss) f h = one_stays (record { to = λ v. v; params = itself l.params; is = sym (f s (first_in s ss)); sums = λ v i. h s v (first_in s ss) i }) (all ss (λ z i. f z (later_in s z ss i)) (λ z v i. h z v (later_in s z ss i)))
  merges_cut (same_merge {t = t} {t' = t'} {u = u} {u' = u'} {e = e} {e' = e'} {f = f} {f' = f'} {r = r} {r' = r'} h k x y params sums ok) =
      let left = merges_cut h in
      let right = renewed_cut Can Alike r r' (full u) (within can u') (full_linear k) ok.right.linear params sums (merges_cut k) in
      let both = product_cut Can part Alike g vs (full t) (renewed r (full u)) (within can t') (renewed r' (within can u')) e f e' f' ok x y left right in
      let whole = product (side_of (within can t') e') (side_of (renewed r' (within can u')) f') in
      record { sorts_same = both.sorts_same; params = both.params; summands = out_then Can Alike _ _ both.summands (pruned_out Can can tells whole.summands) }

-- ---- what is kept
module _ (rules : List Rule) (sets : List (List Name)) (Alike : ℕ → ℕ → Type 0) (ps qs : List Bound) where
  kept_sums : (s y : Summand) → In y (keep rules sets s) → y.sums ≡ s.sums
  kept_sums s y i =
      let k = in_each (if_allowed sets) (communicated rules s) i in
      let w = in_ways rules s k.0 k.1 in
      ap (λ (z : Summand). z.sums) (in_if sets k.0 y k.2).0 ∙ ap (λ (z : Summand). z.sums) w.2

  one_by_one : (to : ℕ → ℕ) → renewed_bounds to ps ≡ qs → (ys : List Summand) {ss ts : List Summand} → ((y : Summand) (v : ℕ) → In y ys → Contains (variables y.sums) v → Alike v (to v)) → AllWithOtherIds Alike ps qs ss ts → AllWithOtherIds Alike ps qs (ys ++ ss) (map (renewed_summand to) ys ++ ts)
  one_by_one to e [] h k = k
  one_by_one to e (y ∷ ys) h k = more_summands (record { to = to; params = e; is = refl; sums = λ v i. h y v here i }) (one_by_one to e ys (λ z v i j. h z v (there i) j) k)

  all_kept : {ss ts : List Summand} → LeavesOutOf (Matters (completable rules sets)) (HasOtherIds Alike ps qs) ss ts → AllWithOtherIds Alike ps qs (flat_map (keep rules sets) ss) (flat_map (keep rules sets) ts)
  all_kept none_there = no_summands
  all_kept (one_stays {s = s} {t = t} {ss = ss} {ts = ts} e h) =
      subst (λ z. AllWithOtherIds Alike ps qs (keep rules sets s ++ flat_map (keep rules sets) ss) (z ++ flat_map (keep rules sets) ts)) (sym (kept_renewed e.to rules sets s) ∙ ap (keep rules sets) (sym e.is))
      (one_by_one e.to e.params (keep rules sets s) (λ y v i j. e.sums v (subst (λ z. Contains (variables z) v) (kept_sums s y i) j)) (all_kept h))
  all_kept (one_left_out {s = s} {ss = ss} {ts = ts} n h) =
      subst (λ z. AllWithOtherIds Alike ps qs (z ++ flat_map (keep rules sets) ss) (flat_map (keep rules sets) ts)) (sym (none_kept rules sets s n)) (all_kept h)

pub keeps_the_same_but_ids : AllowKeepsTheSameButIds
keeps_the_same_but_ids name other_name g vs rules sets t u h =
    let k = merges_cut (Matters (completable rules sets)) (goes_to_parts rules sets) (can_complete rules sets) (test_tells rules sets) (SameName name other_name) g vs h in
    record {
      sorts_same = k.sorts_same;
      params = k.params;
      summands = subst (λ z. AllWithOtherIds (SameName name other_name) (full t).params (within (can_complete rules sets) u).params z (flat_map (if_allowed sets) (flat_map (communicated rules) (within (can_complete rules sets) u).summands))) (sym (each_twice rules sets (full t).summands))
          (subst (λ z. AllWithOtherIds (SameName name other_name) (full t).params (within (can_complete rules sets) u).params (flat_map (keep rules sets) (full t).summands) z) (sym (each_twice rules sets (within (can_complete rules sets) u).summands))
          (all_kept rules sets (SameName name other_name) (full t).params (within (can_complete rules sets) u).params k.summands));
    }
