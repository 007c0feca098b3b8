-- Products of linear processes that are cut and have other numbers.
use Rattle.std.proofs.Common.{◌≡◌, ℕ, List, [], ◌∷◌, ◌++◌, map, refl, sym, ap, ap₂, ◌∙◌, subst, Option, ⊎_elim}
use Rattle.std.specs.Prelude.{Contains, flat_map, option_map}
use Rattle.std.proofs.lemmas.List.{map-append}
use Rattle.std.proofs.lemmas.List.Elements.{Contains-append_cases}
use Rattle.data_theory.specs.Environments.{Apart}
use Rattle.process_terms.specs.Names.{Name}
use Rattle.process_terms.specs.Labels.{Action, Label, names}
use Rattle.process_terms.specs.Processes.{Bound}
use Rattle.bisim_laws.specs.LinearProcesses.{Summand, Linear, variables, IsLinear}
use Rattle.bisim_laws.specs.BaseStates.{Side}
use Rattle.lps_core.specs.Columns.{as_terms}
use Rattle.lps_core.proofs.Members.{In, here, there, in_map, in_contains}
use Rattle.lps_core.proofs.OverVariables.{variables_front, variables_back}
use Rattle.bisim_laws.specs.Within.{GoesToParts}
use Rattle.summand_expander.specs.Product.{flag_of, columns, alone, lone, own_first, own_last, pair, product}
use Rattle.summand_expander.specs.Renewing.{renewed_bounds, renewed_terms, renewed_next, renewed_summand}
use Rattle.summand_expander.proofs.OneSide.{alone_sums}
use Rattle.summand_expander.proofs.CutProducts.{alone_same, pair_same, alone_label}
use Rattle.summand_expander.specs.OtherIds.{HasOtherIds, LeavesOutOf, none_there, one_stays, one_left_out, side_of}
use Rattle.summand_expander.proofs.RenewedTerms.{summand_along, bounds_along}
use Rattle.summand_expander.proofs.RenewedPairs.{renewed_side, terms_renewed, alone_renewed, pair_renewed}
use Rattle.summand_expander.proofs.Numberings.{pick, pick_in, pick_out, same_renewal, bounds_append, flag_to}

-- ---- lists
module _ (Can : List Name → Type 0) where
  module _ (Same : Summand → Summand → Type 0) where
    pub out_append : {ss ts us vs : List Summand} → LeavesOutOf Can Same ss ts → LeavesOutOf Can Same us vs → LeavesOutOf Can Same (ss ++ us) (ts ++ vs)
    out_append none_there k = k
    out_append (one_stays e h) k = one_stays e (out_append h k)
    out_append (one_left_out n h) k = one_left_out n (out_append h k)

    all_out : (xs : List Summand) {ss ts : List Summand} → ((y : Summand) → In y xs → Can (names y.label) → ⊥) → LeavesOutOf Can Same ss ts → LeavesOutOf Can Same (xs ++ ss) ts
    all_out [] f h = h
    all_out (x ∷ xs) f h = one_left_out (f x here) (all_out xs (λ y i. f y (there i)) h)

  -- what is made of each, along elements of a list
  pub out_each : (Same Other : Summand → Summand → Type 0) (f g : Summand → List Summand) (ss : List Summand) → ((s t : Summand) → In s ss → Same s t → LeavesOutOf Can Other (f s) (g t)) → ((s y : Summand) → In y (f s) → Can (names y.label) → Can (names s.label)) → {ts : List Summand}
      → LeavesOutOf Can Same ss ts → LeavesOutOf Can Other (flat_map f ss) (flat_map g ts)
  out_each Same Other f g _ w n none_there = none_there
  out_each Same Other f g _ w n (one_stays {s = s} {t = t} {ss = ss} e h) = out_append Other (w s t here e) (out_each Same Other f g ss (λ s t i. w s t (there i)) n h)
  out_each Same Other f g _ w n (one_left_out {s = s} {ss = ss} m h) = all_out Other (f s) (λ y i c. m (n s y i c)) (out_each Same Other f g ss (λ s t i. w s t (there i)) n h)

  pub out_map : (Same Other : Summand → Summand → Type 0) (f g : Summand → Summand) (ss : List Summand) → ((s t : Summand) → In s ss → Same s t → Other (f s) (g t)) → ((s : Summand) → Can (names (f s).label) → Can (names s.label)) → {ts : List Summand}
      → LeavesOutOf Can Same ss ts → LeavesOutOf Can Other (map f ss) (map g ts)
  out_map Same Other f g _ w n none_there = none_there
  out_map Same Other f g _ w n (one_stays {s = s} {t = t} {ss = ss} e h) = one_stays (w s t here e) (out_map Same Other f g ss (λ s t i. w s t (there i)) n h)
  out_map Same Other f g _ w n (one_left_out {s = s} {ss = ss} m h) = one_left_out (λ c. m (n s c)) (out_map Same Other f g ss (λ s t i. w s t (there i)) n h)

-- summands, and the same with other numbers
pub all_other : (Can : List Name → Type 0) (Alike : ℕ → ℕ → Type 0) (ps qs : List Bound) (to : ℕ → ℕ) → renewed_bounds to ps ≡ qs → (ss : List Summand) → ((y : Summand) (v : ℕ) → In y ss → Contains (variables y.sums) v → Alike v (to v))
    → LeavesOutOf Can (HasOtherIds Alike ps qs) ss (map (renewed_summand to) ss)
all_other Can Alike ps qs to e [] h = none_there
all_other Can Alike ps qs to e (s ∷ ss) h = one_stays (record { to = to; params = e; is = refl; sums = λ v i. h s v here i }) (all_other Can Alike ps qs to e ss (λ y v i j. h y v (there i) j))

-- ---- products
module _ (Can : List Name → Type 0) (Alike : ℕ → ℕ → Type 0) (l k m n : Linear) (f g f' g' : Option ℕ) (first : IsLinear l) (second : IsLinear k) where
  abbrev a : Side
  a = side_of l f

  abbrev b : Side
  b = side_of k g

  abbrev a' : Side
  a' = side_of m f'

  abbrev b' : Side
  b' = side_of n g'

  abbrev all : List Bound
  all = columns a ++ columns b

  abbrev all' : List Bound
  all' = columns a' ++ columns b'

  module _ (col : ℕ → ℕ) (left_is : renewed_bounds col l.params ≡ m.params) (left_flag : renewed_bounds col (flag_of f) ≡ flag_of f') (right_is : renewed_bounds col k.params ≡ n.params) (right_flag : renewed_bounds col (flag_of g) ≡ flag_of g') where
    -- a numbering that does the same on the columns
    module _ (to : ℕ → ℕ) (on_left : (v : ℕ) → Contains (variables (columns a)) v → to v ≡ col v) (on_right : (v : ℕ) → Contains (variables (columns b)) v → to v ≡ col v) where
      to_left : renewed_bounds to l.params ≡ m.params
      to_left = bounds_along to col l.params (λ v i. on_left v (variables_front l.params (flag_of f) v i)) ∙ left_is

      to_left_flag : renewed_bounds to (flag_of f) ≡ flag_of f'
      to_left_flag = bounds_along to col (flag_of f) (λ v i. on_left v (variables_back l.params (flag_of f) v i)) ∙ left_flag

      to_right : renewed_bounds to k.params ≡ n.params
      to_right = bounds_along to col k.params (λ v i. on_right v (variables_front k.params (flag_of g) v i)) ∙ right_is

      to_right_flag : renewed_bounds to (flag_of g) ≡ flag_of g'
      to_right_flag = bounds_along to col (flag_of g) (λ v i. on_right v (variables_back k.params (flag_of g) v i)) ∙ right_flag

      to_columns : renewed_bounds to (columns a) ≡ columns a'
      to_columns = bounds_append to l.params (flag_of f) ∙ ap₂ (λ xs ys. xs ++ ys) to_left to_left_flag

      to_others : renewed_bounds to (columns b) ≡ columns b'
      to_others = bounds_append to k.params (flag_of g) ∙ ap₂ (λ xs ys. xs ++ ys) to_right to_right_flag

      pub to_all : renewed_bounds to all ≡ all'
      to_all = bounds_append to (columns a) (columns b) ∙ ap₂ (λ xs ys. xs ++ ys) to_columns to_others

      -- a side with other numbers, by its parameters
      left_side : renewed_side to a ≡ record { process = record { params = m.params; summands = map (λ s. renewed_summand to s) l.summands }; flag = f' }
      left_side = ap₂ (λ ps e. record { process = record { params = ps; summands = map (λ s. renewed_summand to s) l.summands }; flag = e }) to_left (flag_to to f f' to_left_flag)

      right_side : renewed_side to b ≡ record { process = record { params = n.params; summands = map (λ s. renewed_summand to s) k.summands }; flag = g' }
      right_side = ap₂ (λ ps e. record { process = record { params = ps; summands = map (λ s. renewed_summand to s) k.summands }; flag = e }) to_right (flag_to to g g' to_right_flag)

      pub lone_left : (s : Summand) → map (renewed_summand to) (lone own_first a b s) ≡ lone own_first a' b' (renewed_summand to s)
      lone_left s =
          alone_renewed to own_first (λ us ts. map-append _ us ts) a (as_terms (columns b)) s s.next g
          ∙ ap (λ z. alone own_first z (renewed_terms to (as_terms (columns b))) (renewed_summand to s) (renewed_next to s.next) (option_map to g)) left_side
          ∙ ap₂ (λ us e. alone own_first (record { process = record { params = m.params; summands = map (λ s. renewed_summand to s) l.summands }; flag = f' }) us (renewed_summand to s) (renewed_next to s.next) e)
          (terms_renewed to (columns b) ∙ ap as_terms to_others) (flag_to to g g' to_right_flag)
          ∙ sym (alone_same Can own_first m (map (λ s. renewed_summand to s) l.summands) f' (as_terms (columns b')) (renewed_summand to s) (renewed_next to s.next) g')

      pub lone_right : (t : Summand) → map (renewed_summand to) (lone own_last b a t) ≡ lone own_last b' a' (renewed_summand to t)
      lone_right t =
          alone_renewed to own_last (λ us ts. map-append _ ts us) b (as_terms (columns a)) t t.next f
          ∙ ap (λ z. alone own_last z (renewed_terms to (as_terms (columns a))) (renewed_summand to t) (renewed_next to t.next) (option_map to f)) right_side
          ∙ ap₂ (λ us e. alone own_last (record { process = record { params = n.params; summands = map (λ s. renewed_summand to s) k.summands }; flag = g' }) us (renewed_summand to t) (renewed_next to t.next) e)
          (terms_renewed to (columns a) ∙ ap as_terms to_columns) (flag_to to f f' to_left_flag)
          ∙ sym (alone_same Can own_last n (map (λ s. renewed_summand to s) k.summands) g' (as_terms (columns a')) (renewed_summand to t) (renewed_next to t.next) f')

      pub pair_both : (s t : Summand) → renewed_summand to (pair a b s t) ≡ pair a' b' (renewed_summand to s) (renewed_summand to t)
      pair_both s t =
          pair_renewed to a b s t
          ∙ ap₂ (λ x y. pair x y (renewed_summand to s) (renewed_summand to t)) left_side right_side
          ∙ sym (pair_same Can m n (map (λ s. renewed_summand to s) l.summands) (map (λ s. renewed_summand to s) k.summands) f' g' (renewed_summand to s) (renewed_summand to t))

    -- ---- summand by summand
    module _ (left_apart : (s : Summand) → Contains l.summands s → Apart (variables s.sums) (variables all)) (right_apart : (t : Summand) → Contains k.summands t → Apart (variables t.sums) (variables all)) (sums : (s t : Summand) → Contains l.summands s → Contains k.summands t → Apart (variables s.sums) (variables t.sums)) where
      abbrev Left : Summand → Summand → Type 0
      Left = HasOtherIds Alike l.params m.params

      abbrev Right : Summand → Summand → Type 0
      Right = HasOtherIds Alike k.params n.params

      abbrev Both : Summand → Summand → Type 0
      Both = HasOtherIds Alike all all'

      in_left : (v : ℕ) → Contains (variables (columns a)) v → Contains (variables all) v
      in_left v i = variables_front (columns a) (columns b) v i

      in_right : (v : ℕ) → Contains (variables (columns b)) v → Contains (variables all) v
      in_right v i = variables_back (columns a) (columns b) v i

      left_one : (s t : Summand) → In s l.summands → Left s t → LeavesOutOf Can Both (lone own_first a b s) (lone own_first a' b' t)
      left_one s t i h =
          let to = pick (variables s.sums) h.to col in
          let out : (v : ℕ) → Contains (variables all) v → to v ≡ col v = λ v j. pick_out (variables s.sums) h.to col v (λ w. left_apart s (in_contains i) v w j) in
          let on_left : (v : ℕ) → Contains (variables (columns a)) v → to v ≡ col v = λ v j. out v (in_left v j) in
          let on_right : (v : ℕ) → Contains (variables (columns b)) v → to v ≡ col v = λ v j. out v (in_right v j) in
          let same : renewed_summand to s ≡ t = summand_along l.params to h.to s (first.summands s (in_contains i)) (λ v j. ⊎_elim
          (λ w. pick_in (variables s.sums) h.to col v w)
          (λ w. on_left v (variables_front l.params (flag_of f) v w) ∙ same_renewal col h.to l.params (left_is ∙ sym h.params) v w)
          (Contains-append_cases (variables s.sums) (variables l.params) v j)) ∙ sym h.is in
          subst (λ z. LeavesOutOf Can Both (lone own_first a b s) z) (lone_left to on_left on_right s ∙ ap (λ z. lone own_first a' b' z) same)
          (all_other Can Alike all all' to (to_all to on_left on_right) (lone own_first a b s)
          (λ y v j w. let x : Contains (variables s.sums) v = subst (λ xs. Contains (variables xs) v) (alone_sums own_first a (as_terms (columns b)) s s.next g y j) w in
          subst (λ z. Alike v z) (sym (pick_in (variables s.sums) h.to col v x)) (h.sums v x)))

      right_one : (s t : Summand) → In s k.summands → Right s t → LeavesOutOf Can Both (lone own_last b a s) (lone own_last b' a' t)
      right_one s t i h =
          let to = pick (variables s.sums) h.to col in
          let out : (v : ℕ) → Contains (variables all) v → to v ≡ col v = λ v j. pick_out (variables s.sums) h.to col v (λ w. right_apart s (in_contains i) v w j) in
          let on_left : (v : ℕ) → Contains (variables (columns a)) v → to v ≡ col v = λ v j. out v (in_left v j) in
          let on_right : (v : ℕ) → Contains (variables (columns b)) v → to v ≡ col v = λ v j. out v (in_right v j) in
          let same : renewed_summand to s ≡ t = summand_along k.params to h.to s (second.summands s (in_contains i)) (λ v j. ⊎_elim
          (λ w. pick_in (variables s.sums) h.to col v w)
          (λ w. on_right v (variables_front k.params (flag_of g) v w) ∙ same_renewal col h.to k.params (right_is ∙ sym h.params) v w)
          (Contains-append_cases (variables s.sums) (variables k.params) v j)) ∙ sym h.is in
          subst (λ z. LeavesOutOf Can Both (lone own_last b a s) z) (lone_right to on_left on_right s ∙ ap (λ z. lone own_last b' a' z) same)
          (all_other Can Alike all all' to (to_all to on_left on_right) (lone own_last b a s)
          (λ y v j w. let x : Contains (variables s.sums) v = subst (λ xs. Contains (variables xs) v) (alone_sums own_last b (as_terms (columns a)) s s.next f y j) w in
          subst (λ z. Alike v z) (sym (pick_in (variables s.sums) h.to col v x)) (h.sums v x)))

      pair_one : (s s' t t' : Summand) → In s l.summands → In t k.summands → Left s s' → Right t t' → Both (pair a b s t) (pair a' b' s' t')
      pair_one s s' t t' i j h w =
          let later = pick (variables t.sums) w.to col in
          let to = pick (variables s.sums) h.to later in
          let out : (v : ℕ) → Contains (variables all) v → to v ≡ col v = λ v c.
          pick_out (variables s.sums) h.to later v (λ x. left_apart s (in_contains i) v x c) ∙ pick_out (variables t.sums) w.to col v (λ x. right_apart t (in_contains j) v x c) in
          let on_left : (v : ℕ) → Contains (variables (columns a)) v → to v ≡ col v = λ v c. out v (in_left v c) in
          let on_right : (v : ℕ) → Contains (variables (columns b)) v → to v ≡ col v = λ v c. out v (in_right v c) in
          let on_first : (v : ℕ) → Contains (variables s.sums) v → to v ≡ h.to v = λ v c. pick_in (variables s.sums) h.to later v c in
          let on_second : (v : ℕ) → Contains (variables t.sums) v → to v ≡ w.to v = λ v c. pick_out (variables s.sums) h.to later v (λ x. sums s t (in_contains i) (in_contains j) v x c) ∙ pick_in (variables t.sums) w.to col v c in
          let same : renewed_summand to s ≡ s' = summand_along l.params to h.to s (first.summands s (in_contains i)) (λ v c. ⊎_elim
          (on_first v)
          (λ x. on_left v (variables_front l.params (flag_of f) v x) ∙ same_renewal col h.to l.params (left_is ∙ sym h.params) v x)
          (Contains-append_cases (variables s.sums) (variables l.params) v c)) ∙ sym h.is in
          let same' : renewed_summand to t ≡ t' = summand_along k.params to w.to t (second.summands t (in_contains j)) (λ v c. ⊎_elim
          (on_second v)
          (λ x. on_right v (variables_front k.params (flag_of g) v x) ∙ same_renewal col w.to k.params (right_is ∙ sym w.params) v x)
          (Contains-append_cases (variables t.sums) (variables k.params) v c)) ∙ sym w.is in
          record {
            to = to;
            params = to_all to on_left on_right;
            is = sym (pair_both to on_left on_right s t ∙ ap₂ (λ x y. pair a' b' x y) same same');
            sums = λ v c. ⊎_elim
                (λ x. subst (λ z. Alike v z) (sym (on_first v x)) (h.sums v x))
                (λ x. subst (λ z. Alike v z) (sym (on_second v x)) (w.sums v x))
                (Contains-append_cases (variables s.sums) (variables t.sums) v (subst (λ z. Contains z v) (map-append (λ (x : Bound). x.var) s.sums t.sums) c));
          }

      module _ (parts : GoesToParts Can) where
        left_names : (x y : Label) → Can (names (x ++ y)) → Can (names x)
        left_names x y c = parts.first (names x) (names y) (subst Can (map-append (λ (z : Action). z.name) x y) c)

        right_names : (x y : Label) → Can (names (x ++ y)) → Can (names y)
        right_names x y c = parts.second (names x) (names y) (subst Can (map-append (λ (z : Action). z.name) x y) c)

        pub summands_out : LeavesOutOf Can Left l.summands m.summands → LeavesOutOf Can Right k.summands n.summands → LeavesOutOf Can Both (product a b).summands (product a' b').summands
        summands_out h w =
            out_append Can Both
            (out_each Can Left Both (lone own_first a b) (lone own_first a' b') l.summands left_one (λ s y i c. subst (λ z. Can (names z)) (alone_label Can own_first a (as_terms (columns b)) s s.next g y i) c) h)
            (out_append Can Both
            (out_each Can Right Both (lone own_last b a) (lone own_last b' a') k.summands right_one (λ s y i c. subst (λ z. Can (names z)) (alone_label Can own_last b (as_terms (columns a)) s s.next f y i) c) w)
            (out_each Can Left Both (λ s. map (pair a b s) k.summands) (λ s. map (pair a' b' s) n.summands) l.summands
            (λ s s' i x. out_map Can Right Both (pair a b s) (pair a' b' s') k.summands (λ t t' j y. pair_one s s' t t' i j x y) (λ t c. right_names s.label t.label c) w)
            (λ s y i c. let r = in_map (pair a b s) k.summands i in left_names s.label r.0.label (subst (λ (z : Summand). Can (names z.label)) r.2 c)) h))
