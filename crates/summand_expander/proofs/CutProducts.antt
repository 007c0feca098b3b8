-- Products of linear processes without some summands that can't be completed.
use Rattle.std.proofs.Common.{◌≡◌, ℕ, Bool, true, false, ◌&&◌, List, [], ◌∷◌, ◌++◌, map, refl, sym, ap, ◌∙◌, subst, Option, Some, None, if◌then◌else◌, true≢false}
use Rattle.std.proofs.lemmas.List.{map-append}
use Rattle.std.specs.Prelude.{flat_map, ◌↔◌}
use Rattle.data_theory.specs.Terms.{Term}
use Rattle.process_terms.specs.Names.{Name}
use Rattle.process_terms.specs.Labels.{Action, Label, names}
use Rattle.bisim_laws.specs.LinearProcesses.{Summand, Linear}
use Rattle.bisim_laws.specs.BaseStates.{Side}
use Rattle.lps_core.specs.Columns.{as_terms}
use Rattle.lps_core.proofs.Members.{In, here, there, in_map}
use Rattle.bisim_laws.specs.Within.{GoesToParts}
use Rattle.bisim_laws.specs.Scopes.{Matters}
use Rattle.bisim_laws.specs.SomeSummands.{with_summands}
use Rattle.lps_core.specs.Conditions.{parts, conjoined}
use Rattle.summand_expander.specs.Product.{columns, running_part, alone, lone, own_first, own_last, together, pair, product}
use Rattle.summand_expander.specs.Renewing.{renewed_bounds, renewed_summand, renewed, renewed_label}
use Rattle.summand_expander.specs.Pruned.{kept, all_ends_fail, pruned, ends, can_stay, pruned_linear}
use Rattle.summand_expander.specs.LeavingOut.{LeavesOut, none_there, one_stays, one_left_out, IsCut, one_process, two_sides, full, within}
use Rattle.summand_expander.specs.PrunedLaws.{PrunedMergesAreCut}

module _ (Can : List Name → Type 0) where
  -- ---- lists
  pub nothing_out : (ss : List Summand) → LeavesOut Can ss ss
  nothing_out [] = none_there
  nothing_out (s ∷ ss) = one_stays (nothing_out ss)

  pub out_then : {ss ts us : List Summand} → LeavesOut Can ss ts → LeavesOut Can ts us → LeavesOut Can ss us
  out_then none_there h = h
  out_then (one_stays h) (one_stays k) = one_stays (out_then h k)
  out_then (one_stays h) (one_left_out n k) = one_left_out n (out_then h k)
  out_then (one_left_out n h) k = one_left_out n (out_then h k)

  pub out_append : {ss ts us vs : List Summand} → LeavesOut Can ss ts → LeavesOut Can us vs → LeavesOut Can (ss ++ us) (ts ++ vs)
  out_append none_there k = k
  out_append (one_stays h) k = one_stays (out_append h k)
  out_append (one_left_out n h) k = one_left_out n (out_append h k)

  all_out : (xs : List Summand) {ss ts : List Summand} → ((y : Summand) → In y xs → Can (names y.label) → ⊥) → LeavesOut Can ss ts → LeavesOut Can (xs ++ ss) ts
  all_out [] f h = h
  all_out (x ∷ xs) f h = one_left_out (f x here) (all_out xs (λ y i. f y (there i)) h)

  -- what is made of each; of one that is left out only such as can't be completed either
  out_each : (f g : Summand → List Summand) → ((s : Summand) → LeavesOut Can (f s) (g s)) → ((s y : Summand) → In y (f s) → Can (names y.label) → Can (names s.label)) → {ss ts : List Summand} → LeavesOut Can ss ts → LeavesOut Can (flat_map f ss) (flat_map g ts)
  out_each f g w n none_there = none_there
  out_each f g w n (one_stays {s = s} h) = out_append (w s) (out_each f g w n h)
  out_each f g w n (one_left_out {s = s} m h) = all_out (f s) (λ y i c. m (n s y i c)) (out_each f g w n h)

  out_map : (f g : Summand → Summand) → ((s : Summand) → f s ≡ g s) → ((s : Summand) → Can (names (f s).label) → Can (names s.label)) → {ss ts : List Summand} → LeavesOut Can ss ts → LeavesOut Can (map f ss) (map g ts)
  out_map f g w n none_there = none_there
  out_map f g w n (one_stays {s = s} {ss = ss} {ts = ts} h) = subst (λ z. LeavesOut Can (f s ∷ map f ss) (z ∷ map g ts)) (w s) (one_stays (out_map f g w n h))
  out_map f g w n (one_left_out {s = s} m h) = one_left_out (λ c. m (n s c)) (out_map f g w n h)

  same_out : {ss ts : List Summand} → ss ≡ ts → LeavesOut Can ss ts
  same_out {ss} e = subst (λ z. LeavesOut Can ss z) e (nothing_out ss)

  -- ---- sides with other summands
  abbrev side : Linear → List Summand → Option ℕ → Side
  side l ss f = record { process = with_summands l ss; flag = f }

  abbrev whole_side : Linear → Option ℕ → Side
  whole_side l f = record { process = l; flag = f }

  pub alone_same : (place : List Term → List Term → List Term) (l : Linear) (ss : List Summand) (f : Option ℕ) (others : List Term) (s : Summand) (n : Option (List Term)) (g : Option ℕ) → alone place (whole_side l f) others s n g ≡ alone place (side l ss f) others s n g
  alone_same place l ss f others s (Some ts) g = refl
  alone_same place l ss f others s None None = refl
  alone_same place l ss f others s None (Some g) = refl

  pub alone_label : (place : List Term → List Term → List Term) (a : Side) (others : List Term) (s : Summand) (n : Option (List Term)) (g : Option ℕ) (y : Summand) → In y (alone place a others s n g) → y.label ≡ s.label
  alone_label place a others s (Some ts) g y here = refl
  alone_label place a others s (Some ts) g y (there i) = elim i [ ]
  alone_label place a others s None None y here = refl
  alone_label place a others s None None y (there i) = elim i [ ]
  alone_label place a others s None (Some g) y here = refl
  alone_label place a others s None (Some g) y (there here) = refl
  alone_label place a others s None (Some g) y (there (there i)) = elim i [ ]

  together_same : (l k : Linear) (ss ts : List Summand) (f g : Option ℕ) (m n : Option (List Term)) → together (whole_side l f) (whole_side k g) m n ≡ together (side l ss f) (side k ts g) m n
  together_same l k ss ts f g None None = refl
  together_same l k ss ts f g None (Some us) = refl
  together_same l k ss ts f g (Some us) None = refl
  together_same l k ss ts f g (Some us) (Some vs) = refl

  pub pair_same : (l k : Linear) (ss ts : List Summand) (f g : Option ℕ) (s t : Summand) → pair (whole_side l f) (whole_side k g) s t ≡ pair (side l ss f) (side k ts g) s t
  pair_same l k ss ts f g s t = ap (next_is s t f g) (together_same l k ss ts f g s.next t.next)
    where
      next_is : Summand → Summand → Option ℕ → Option ℕ → Option (List Term) → Summand
      next_is s t f g n = record { sums = s.sums ++ t.sums; condition = conjoined ((running_part f ++ running_part g) ++ (parts s.condition ++ parts t.condition)); label = s.label ++ t.label; next = n }

  -- ---- products
  module _ (part : GoesToParts Can) where
    left_names : (m n : Label) → Can (names (m ++ n)) → Can (names m)
    left_names m n c = part.first (names m) (names n) (subst Can (map-append (λ (a : Action). a.name) m n) c)

    right_names : (m n : Label) → Can (names (m ++ n)) → Can (names n)
    right_names m n c = part.second (names m) (names n) (subst Can (map-append (λ (a : Action). a.name) m n) c)

    module _ (l k : Linear) (ss ts : List Summand) (f g : Option ℕ) (h : LeavesOut Can l.summands ss) (j : LeavesOut Can k.summands ts) where
      lone_out : LeavesOut Can (flat_map (lone own_first (whole_side l f) (whole_side k g)) l.summands) (flat_map (lone own_first (side l ss f) (side k ts g)) ss)
      lone_out = out_each (lone own_first (whole_side l f) (whole_side k g)) (lone own_first (side l ss f) (side k ts g))
          (λ s. same_out (alone_same own_first l ss f (as_terms (columns (whole_side k g))) s s.next g))
          (λ s y i c. subst (λ m. Can (names m)) (alone_label own_first (whole_side l f) (as_terms (columns (whole_side k g))) s s.next g y i) c) h

      lone_last_out : LeavesOut Can (flat_map (lone own_last (whole_side k g) (whole_side l f)) k.summands) (flat_map (lone own_last (side k ts g) (side l ss f)) ts)
      lone_last_out = out_each (lone own_last (whole_side k g) (whole_side l f)) (lone own_last (side k ts g) (side l ss f))
          (λ s. same_out (alone_same own_last k ts g (as_terms (columns (whole_side l f))) s s.next f))
          (λ s y i c. subst (λ m. Can (names m)) (alone_label own_last (whole_side k g) (as_terms (columns (whole_side l f))) s s.next f y i) c) j

      pairs_out : LeavesOut Can (flat_map (λ s. map (pair (whole_side l f) (whole_side k g) s) k.summands) l.summands) (flat_map (λ s. map (pair (side l ss f) (side k ts g) s) ts) ss)
      pairs_out = out_each (λ s. map (pair (whole_side l f) (whole_side k g) s) k.summands) (λ s. map (pair (side l ss f) (side k ts g) s) ts)
          (λ s. out_map (pair (whole_side l f) (whole_side k g) s) (pair (side l ss f) (side k ts g) s) (λ t. pair_same l k ss ts f g s t) (λ t c. right_names s.label t.label c) j)
          (λ s y i c. let r = in_map (pair (whole_side l f) (whole_side k g) s) k.summands i in left_names s.label r.0.label (subst (λ (z : Summand). Can (names z.label)) r.2 c)) h

      pub product_out : LeavesOut Can (product (whole_side l f) (whole_side k g)).summands (product (side l ss f) (side k ts g)).summands
      product_out = out_append lone_out (out_append lone_last_out pairs_out)

  -- ---- other variables
  renewed_names : (r : ℕ → ℕ) (m : Label) → names (renewed_label r m) ≡ names m
  renewed_names r [] = refl
  renewed_names r (a ∷ m) = ap (λ l. a.name ∷ l) (renewed_names r m)

  pub renewed_out : (r : ℕ → ℕ) {ss ts : List Summand} → LeavesOut Can ss ts → LeavesOut Can (map (λ s. renewed_summand r s) ss) (map (λ s. renewed_summand r s) ts)
  renewed_out r h = out_map (λ s. renewed_summand r s) (λ s. renewed_summand r s) (λ s. refl) (λ s c. subst Can (renewed_names r s.label) c) h

  -- ---- what is pruned
  module _ (can : List Name → Bool) (tells : (ns : List Name) → (can ns ≡ true) ↔ Can ns) where
    pub kept_out : (spare : Bool) (ss : List Summand) → LeavesOut Can ss (kept (can_stay can) ends spare ss)
    kept_out spare [] = none_there
    kept_out spare (s ∷ ss) = by (can (names s.label)) refl (spare && ends s) (λ spare. kept_out spare ss)
      where
        by : (b : Bool) → can (names s.label) ≡ b → (c : Bool) → ((spare : Bool) → LeavesOut Can ss (kept (can_stay can) ends spare ss)) → LeavesOut Can (s ∷ ss) (if b then s ∷ kept (can_stay can) ends spare ss else (if c then s ∷ kept (can_stay can) ends false ss else kept (can_stay can) ends spare ss))
        by true q c k = one_stays (k spare)
        by false q true k = one_stays (k false)
        by false q false k = one_left_out (λ c. true≢false (sym ((tells (names s.label)).1 c) ∙ q)) (k spare)

    pub pruned_out : (ss : List Summand) → LeavesOut Can ss (pruned (can_stay can) ends ss)
    pruned_out ss = kept_out (all_ends_fail (can_stay can) ends ss) ss

-- ---- nested merges
-- a linear process by its parameters and summands
by_parts : (l k : Linear) → l.params ≡ k.params → l ≡ with_summands k l.summands
by_parts l k e = ap (λ ps. record { params = ps; summands = l.summands }) e

renewed_cut : (Can : List Name → Type 0) (r : ℕ → ℕ) {l k : Linear} → IsCut Can l k → IsCut Can (renewed r l) (renewed r k)
renewed_cut Can r h = record { params = ap (renewed_bounds r) h.params; summands = renewed_out Can r h.summands }

product_cut : (Can : List Name → Type 0) → GoesToParts Can → (l k m n : Linear) (f g : Option ℕ) → IsCut Can l m → IsCut Can k n
    → IsCut Can (product (record { process = l; flag = f }) (record { process = k; flag = g })) (product (record { process = m; flag = f }) (record { process = n; flag = g }))
product_cut Can parts l k m n f g h j = subst (λ z. IsCut Can (product (record { process = l; flag = f }) (record { process = k; flag = g })) (product (record { process = z; flag = f }) (record { process = n; flag = g }))) (sym (by_parts m l h.params))
    (subst (λ z. IsCut Can (product (record { process = l; flag = f }) (record { process = k; flag = g })) (product (record { process = with_summands l m.summands; flag = f }) (record { process = z; flag = g }))) (sym (by_parts n k j.params))
    (record { params = refl; summands = product_out Can parts l k m.summands n.summands f g h.summands j.summands }))

pruned_cut : (Can : List Name → Type 0) (can : List Name → Bool) → ((ns : List Name) → (can ns ≡ true) ↔ Can ns) → {l k : Linear} → IsCut Can l k → IsCut Can l (pruned_linear can k)
pruned_cut Can can tells {l} {k} h = record { params = h.params; summands = out_then Can h.summands (pruned_out Can can tells k.summands) }

pub merges_cut : PrunedMergesAreCut
merges_cut w parts can tells (one_process l) = record { params = refl; summands = nothing_out (Matters w) l.summands }
merges_cut w parts can tells (two_sides t f r u g) =
    pruned_cut (Matters w) can tells
    (product_cut (Matters w) parts (full t) (renewed r (full u)) (within can t) (renewed r (within can u)) f g (merges_cut w parts can tells t) (renewed_cut (Matters w) r (merges_cut w parts can tells u)))
