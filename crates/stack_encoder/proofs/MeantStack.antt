-- What an encoding over trees means.
use Rattle.std.proofs.Common.{◌≡◌, ◌≤◌, ◌<◌, ◌+◌, ◌-◌, ◌==◌, ℕ, zero, suc, true, false, List, [], ◌∷◌, ◌++◌, map, take, length, get_or, refl, sym, ap, ap₂, ◌∙◌, subst, arith, cond, Some, if◌then◌else◌, ⊎_elim}
use Rattle.std.specs.Prelude.{pos, option_map, slice_get}
use Rattle.std.specs.List.{All}
use Rattle.std.proofs.lemmas.List.{map-append}
use Rattle.std.proofs.lemmas.Option.{slice_get-get_or}
use Rattle.std.proofs.lemmas.Bool.Decides.{eqb_tells}
use Rattle.std.proofs.lemmas.List.Elements.{All-head, All-tail}
use Rattle.data_theory.specs.declared.ids.VarId.{VarId}
use Rattle.data_theory.specs.declared.ids.FunId.{FunId}
use Rattle.data_theory.specs.declared.ids.TermId.{TermId}
use Rattle.data_theory.specs.Terms.{positive, negation, function as named_function, Term, variable as var, numeral as num, application, none as no_terms, more as and_more, put}
use Rattle.data_theory.specs.Environments.{Environment, term_in, bound, terms_of, AreDistinct}
use Rattle.data_theory.specs.Functions.{Function}
use Rattle.data_theory.specs.Rows.{built_in, built_ins}
use Rattle.data_theory.specs.declared.rows.Row.TheVariants as rows
use Rattle.data_theory.specs.declared.words.Word.TheVariants as words
use Rattle.data_theory.specs.Table.{bool_sort, first_rows, truth_rows, sort_rows, first_table}
use Rattle.data_theory.specs.IdSymbols.{declared_from, symbol_at}
use Rattle.data_theory.specs.Signature.{Sig}
use Rattle.data_theory.specs.Complete.{IsComplete}
use Rattle.data_theory.specs.IdTables.{IsTable}
use Rattle.data_theory.specs.IdTrees.{Tree, trees_of, put_tree}
use Rattle.data_theory.specs.IdTerms.{sort_under, symbol_under, term_under, terms_under, IsTreeWithin}
use Rattle.term_pool.specs.HeadTrees.{tree_at, trees_at}
use Rattle.process_terms.specs.Labels.{put_label}
use Rattle.process_terms.specs.Meanings.{bound_at, term_at, label_of}
use Rattle.process_terms.specs.SignatureEntries.{entries_of}
use Rattle.process_terms.specs.Communication.{conjunction_of}
use Rattle.bisim_laws.specs.LinearProcesses.{variables, reading, is_true}
use Rattle.bisim_laws.specs.BaseStates.{Columns, number_of, columns_of}
use Rattle.bisim_laws.proofs.Firing.{bound_reads}
use Rattle.lps_core.specs.Conditions.{parts, all_parts, without_true, joined}
use Rattle.greibach.specs.PlainForms.{PlainFormSummand, call_of, form_summand_of}
use Rattle.greibach.specs.Forms.{FormEquation}
use Rattle.lps_core.specs.TreeSummands.{numbers_of, meant_summand}
use Rattle.lps_core.specs.TreeConditions.{tree_parts, trees_without_true, conjunction_tree}
use Rattle.lps_core.proofs.Staying.{term_is, terms_are}
use Rattle.std.proofs.lemmas.List.{length-map}
use Rattle.lps_core.proofs.MeantParts.{numbers_mean, positive_meant, parts_mean_parts, chains_mean_chains}
use Rattle.stack_encoder.specs.StackEncoding.{StackSymbols, is_pushed, rest_of, fields_of, pushed_on, to_fields, put_call, Way, way_down, way_out, way_up, ways, stack_parts, stack_summand}
use Rattle.lps_core.specs.NumberTrees.{number_tree}
use Rattle.lps_core.proofs.MeantTrees.{Means, bound_means, put_means, puts_mean, label_means}
use Rattle.stack_encoder.specs.StackEntries.{StackIds}
use Rattle.stack_encoder.specs.TreeStack.{FrameLayout, place_at, argument_tree, column_trees, column_numbers, one_tree, not_function, frame_tree, pushed_trees, TreeWay, rest_tree, tree_way_down, tree_way_out, tree_way_up, tree_ways, first_parts, tree_stacked, field_tree, fields_for, MeansSymbols, MeansFrames, IsCallIn, IsFormSummandIn, StackedTreesMean}

-- ---- columns
front_means : (g : Sig) (place : List ℕ) (us : List Tree) (x : ℕ) (d : Tree) (e : Environment) → term_in e x ≡ term_under g d → term_under g (argument_tree place us x d) ≡ term_in (bound place (map (term_under g) us) ++ e) x
front_means g [] us x d e h = sym h
front_means g (p ∷ ps) [] x d e h = sym h
front_means g (p ∷ ps) (u ∷ us) x d e h = elim (p == x) as (λ b. term_under g (cond b u (argument_tree ps us x d)) ≡ cond b (term_under g u) (term_in (bound ps (map (term_under g) us) ++ e) x)) [ true ↦ refl | false ↦ front_means g ps us x d e h ]

head_same : {A : Type 0} {x y : A} {xs ys : List A} → x ∷ xs ≡ y ∷ ys → x ≡ y
head_same e = cc

tail_same : {A : Type 0} {x y : A} {xs ys : List A} → x ∷ xs ≡ y ∷ ys → xs ≡ ys
tail_same e = cc

columns_from_mean : (g : Sig) (place : List ℕ) (us : List Tree) (e : Environment) (x : ℕ) (ds : List Tree) → reading e (column_numbers x ds) ≡ map (term_under g) ds
    → map (term_under g) (column_trees place us x ds) ≡ reading (bound place (map (term_under g) us) ++ e) (column_numbers x ds)
columns_from_mean g place us e x [] h = refl
columns_from_mean g place us e x (d ∷ ds) h = ap₂ (λ t ts. t ∷ ts) (front_means g place us x d e (head_same h)) (columns_from_mean g place us e (suc x) ds (tail_same h))

pub numbers_long : (x : ℕ) (ds : List Tree) → length (column_numbers x ds) ≡ length ds
numbers_long x [] = refl
numbers_long x (d ∷ ds) = ap suc (numbers_long (suc x) ds)

terms_mean : (g : Sig) (ts : List Tree) → terms_under g (trees_of ts) ≡ terms_of (map (term_under g) ts)
terms_mean g [] = refl
terms_mean g (t ∷ ts) = ap (and_more (term_under g t)) (terms_mean g ts)

number_means : (g : Sig) → IsTable g → (i : ℕ) → 1 ≤ i → term_under g (number_tree i) ≡ number_of (i - 1)
number_means g table i l = ap (λ s. num s (pos i)) (positive_meant g table) ∙ ap (λ n. num positive (pos n)) (let n : i ≡ (i - 1) + 1 = omega (arith, l) in n)

module _ (g : Sig) (table : IsTable g) (complete : IsComplete g) (y : StackIds) (k : StackSymbols) (l : FrameLayout) (c : Columns) (m : MeansSymbols g y k) (f : MeansFrames g l c) where
  abbrev T : Tree → Term
  T = term_under g

  columns_mean : (place : List ℕ) (us : List Tree) → map T (column_trees place us 0 l.defaults) ≡ columns_of c (Some place) (map T us)
  columns_mean place us =
      columns_from_mean g place us (bound (column_numbers 0 l.defaults) (map T l.defaults)) 0 l.defaults
      (bound_reads (column_numbers 0 l.defaults) (map T l.defaults) (length-map l.defaults T ∙ sym (numbers_long 0 l.defaults)) (subst (λ z. AreDistinct z) f.columns f.distinct))
      ∙ ap₂ (λ xs ds. reading (bound place (map T us) ++ bound xs ds) xs) (sym f.columns) (sym f.defaults)

  pub frame_means : (i : ℕ) (us : List Tree) (below : Tree) → 1 ≤ i → i ≤ length l.places
      → T (frame_tree y l i us below) ≡ application (named_function k.names.push) (terms_of (number_of (i - 1) ∷ (columns_of c (slice_get c.places (i - 1)) (map T us) ++ (T below ∷ []))))
  frame_means i us below a b =
      let stands : slice_get c.places (i - 1) ≡ Some (place_at l i) = ap (λ ps. slice_get ps (i - 1)) f.places ∙ slice_get-get_or l.places (i - 1) [] (omega (arith, a, b)) in
      ap₂ (λ s ts. application s ts) m.push
      (terms_mean g (number_tree i ∷ (column_trees (place_at l i) us 0 l.defaults ++ below ∷ []))
      ∙ ap₂ (λ n ts. terms_of (n ∷ ts)) (number_means g table i a)
      (map-append T (column_trees (place_at l i) us 0 l.defaults) (below ∷ []) ∙ ap (λ z. z ++ T below ∷ []) (columns_mean (place_at l i) us ∙ ap (λ o. columns_of c o (map T us)) (sym stands))))

  rest_means : (q : VarId) → T (rest_tree y q) ≡ rest_of k (var q.0)
  rest_means q = ap (λ s. application s (and_more (var q.0) no_terms)) m.rest

  is_pushed_means : (t : Tree) → T (one_tree y.is_push t) ≡ is_pushed k (T t)
  is_pushed_means t = ap (λ s. application s (and_more (T t) no_terms)) m.is_push

  module _ (e : VarId → Tree) (r : Environment) (h : Means g e r) (ts : List Tree) where
    pushed_mean : (cs : List (ℕ × List TermId)) (below : Tree) (u : Term) → All (IsCallIn ts l) cs → T below ≡ u → T (pushed_trees y l e ts cs below) ≡ pushed_on k.names c (map (put_call r) (map (call_of (entries_of g ts)) cs)) u
    pushed_mean [] below u w b = b
    pushed_mean (a ∷ cs) below u w b =
        let j = All-head (IsCallIn ts l) a cs w in
        frame_means a.0 (map (put_tree e) (trees_at ts a.1)) (pushed_trees y l e ts cs below) j.from_one j.within
        ∙ ap₂ (λ us z. application (named_function k.names.push) (terms_of (number_of (a.0 - 1) ∷ (columns_of c (slice_get c.places (a.0 - 1)) us ++ (z ∷ [])))))
        (puts_mean g table e r h (trees_at ts a.1) ∙ ap (map (put (term_in r))) (sym (terms_are g ts a.1 j.args)))
        (pushed_mean cs below u (All-tail (IsCallIn ts l) a cs w) b)

-- ---- fields
map_map : {A B C : Type 0} (p : B → C) (q : A → B) (xs : List A) → map p (map q xs) ≡ map (λ x. p (q x)) xs
map_map p q [] = refl
map_map p q (x ∷ xs) = ap (λ l. p (q x) ∷ l) (map_map p q xs)

read_mapped : {A B : Type 0} (p : A → B) (xs : List A) (i : ℕ) (d : A) → p (get_or xs i d) ≡ get_or (map p xs) i (p d)
read_mapped p [] i d = refl
read_mapped p (x ∷ xs) zero d = refl
read_mapped p (x ∷ xs) (suc i) d = read_mapped p xs i d

read_number : (x : ℕ) (ds : List Tree) (ts : List Term) (j : ℕ) (d : Term) → length ts ≡ length ds → j < length ds → term_in (bound (column_numbers x ds) ts) (j + x) ≡ get_or ts j d
read_number x [] ts j d l w = absurd (omega (arith, w))
read_number x (a ∷ ds) [] j d l w = absurd (omega (arith, l))
read_number x (a ∷ ds) (t ∷ ts) zero d l w = ⊎_elim (λ k. ap (λ b. cond b t (term_in (bound (column_numbers (suc x) ds) ts) (0 + x))) k.0) (λ k. absurd (k.1 (omega arith))) (eqb_tells x (0 + x))
read_number x (a ∷ ds) (t ∷ ts) (suc j) d l w = ⊎_elim
    (λ k. absurd (let e = k.1 in omega (arith, e)))
    (λ k. ap (λ b. cond b t (term_in (bound (column_numbers (suc x) ds) ts) (suc j + x))) k.0
    ∙ ap (term_in (bound (column_numbers (suc x) ds) ts)) (let e : suc j + x ≡ j + suc x = omega arith in e) ∙ read_number (suc x) ds ts j d (omega (arith, l)) (omega (arith, w)))
    (eqb_tells x (suc j + x))

-- ---- conditions
without_append : (xs ys : List Term) → without_true (xs ++ ys) ≡ without_true xs ++ without_true ys
without_append [] ys = refl
without_append (x ∷ xs) ys = elim (is_true x) as (λ b. (if b then without_true (xs ++ ys) else x ∷ without_true (xs ++ ys)) ≡ (if b then without_true xs else x ∷ without_true xs) ++ without_true ys) [ true ↦ without_append xs ys | false ↦ ap (λ l. x ∷ l) (without_append xs ys) ]

module _ (g : Sig) (table : IsTable g) (complete : IsComplete g) (y : StackIds) (k : StackSymbols) (l : FrameLayout) (c : Columns) (m : MeansSymbols g y k) (f : MeansFrames g l c) (v : VarId) (i : ℕ) (one_or_more : 1 ≤ i) where
  abbrev S : Tree → Term
  S = term_under g

  field_of : FunId → Term
  field_of p = application (symbol_under g p) (and_more (var v.0) no_terms)

  fields_are : map (λ p. application (symbol_under g p) (and_more (var v.0) no_terms)) y.fields ≡ fields_of k.fields (var v.0)
  fields_are =
      sym (map_map (λ s. application s (and_more (var v.0) no_terms)) (symbol_under g) y.fields)
      ∙ ap (map (λ s. application s (and_more (var v.0) no_terms))) m.fields
      ∙ map_map (λ s. application s (and_more (var v.0) no_terms)) named_function k.fields

  one_field : length y.fields ≡ length l.defaults → (x : ℕ) → suc x ≤ length l.defaults → S (field_tree y v x) ≡ term_in (bound (variables c.columns) (fields_of k.fields (var v.0))) x
  one_field long x w =
      let ts = map (λ p. application (symbol_under g p) (and_more (var v.0) no_terms)) y.fields in
      let d = application (symbol_under g (record { 0 = 0 })) (and_more (var v.0) no_terms) in
      read_mapped (λ p. application (symbol_under g p) (and_more (var v.0) no_terms)) y.fields x (record { 0 = 0 })
      ∙ sym (read_number 0 l.defaults ts x d (length-map y.fields (λ p. application (symbol_under g p) (and_more (var v.0) no_terms)) ∙ long) w)
      ∙ ap (term_in (bound (column_numbers 0 l.defaults) ts)) (let e : x + 0 ≡ x = omega arith in e)
      ∙ ap₂ (λ xs us. term_in (bound xs us) x) (sym f.columns) fields_are

  place_fields : length y.fields ≡ length l.defaults → (place : List ℕ) → All (λ x. suc x ≤ length l.defaults) place → map S (map (field_tree y v) place) ≡ reading (bound (variables c.columns) (fields_of k.fields (var v.0))) place
  place_fields long [] w = refl
  place_fields long (x ∷ place) w =
      ap₂ (λ t ts. t ∷ ts) (one_field long x (All-head (λ z. suc z ≤ length l.defaults) x place w)) (place_fields long place (All-tail (λ z. suc z ≤ length l.defaults) x place w))

  fields_mean : (q : FormEquation) (params : List VarId) → length y.fields ≡ length l.defaults → variables q.params ≡ numbers_of params → All (λ x. suc x ≤ length l.defaults) (place_at l i) → Means g (fields_for y l v i params) (to_fields k c v.0 (i - 1) q)
  fields_mean q params long own w x =
      bound_means g params (map (field_tree y v) (place_at l i)) x
      ∙ ap₂ (λ xs us. term_in (bound xs us) x.0) (sym own)
      (place_fields long (place_at l i) w ∙ ap (λ ps. reading (bound (variables c.columns) (fields_of k.fields (var v.0))) (get_or ps (i - 1) [])) (sym f.places))

  condition_means : (own : Tree) → IsTreeWithin g own → (further : List Tree) (us : List Term) → map S further ≡ us → without_true (all_parts us) ≡ us
      → S (conjunction_tree (first_parts y v i ++ (trees_without_true (tree_parts own) ++ further))) ≡ joined (stack_parts k v.0 (i - 1) (S own) us)
  condition_means own w further us e h =
      chains_mean_chains g table complete (first_parts y v i ++ (trees_without_true (tree_parts own) ++ further))
      ∙ ap conjunction_of
      (ap₂ (λ a b. a ∷ b)
      (ap (λ s. application s (and_more (var v.0) no_terms)) m.is_push)
      (ap₂ (λ a b. a ∷ b)
      (ap₂ (λ s p. application s p) (numbers_mean g table complete).2
      (ap₂ (λ s n. and_more (application s (and_more (var v.0) no_terms)) (and_more n no_terms)) m.pc (number_means g table i one_or_more)))
      (map-append S (trees_without_true (tree_parts own)) further
      ∙ ap₂ (λ a b. a ++ b) (parts_mean_parts g table complete own w) (e ∙ sym h)
      ∙ sym (without_append (parts (S own)) (all_parts us)))))

-- ---- `!`
not_at : (texts : List (List ℕ)) (new : List Function) → slice_get (built_ins texts first_table ++ new) 8 ≡ Some (built_in texts (rows.One words.Not bool_sort bool_sort))
unfolding first_table first_rows truth_rows sort_rows
not_at texts new = refl

not_means : (g : Sig) → IsComplete g → symbol_under g not_function ≡ negation
not_means g h =
    ap (symbol_at (sort_under g) (length (declared_from 0 (take 8 g.functions)))) (ap (λ fs. slice_get fs 8) h.first_functions_stay.1 ∙ not_at g.texts h.first_functions_stay.0)

-- ---- summands
module _ (g : Sig) (table : IsTable g) (complete : IsComplete g) (y : StackIds) (k : StackSymbols) (l : FrameLayout) (c : Columns) (m : MeansSymbols g y k) (f : MeansFrames g l c) (v : VarId) (i : ℕ) (one_or_more : 1 ≤ i) (q : FormEquation) (e : VarId → Tree) (h : Means g e (to_fields k c v.0 (i - 1) q)) (ts : List Tree) (s : PlainFormSummand) (within : IsFormSummandIn ts l s) (moved_within : IsTreeWithin g (put_tree e (tree_at ts s.condition))) where
  abbrev r : Environment
  r = to_fields k c v.0 (i - 1) q

  abbrev own : Term
  own = put (term_in r) (term_at (entries_of g ts) s.condition)

  one_means : (w : TreeWay) (u : Way) → map (term_under g) w.further ≡ u.further → without_true (all_parts u.further) ≡ u.further → option_map (map (term_under g)) w.next ≡ u.next
      → meant_summand g (tree_stacked y v i e ts s w) ≡ stack_summand k c v.0 (i - 1) q (form_summand_of (entries_of g ts) s) u
  one_means w u a b n =
      let t = tree_at ts s.condition in
      ap₂ (λ x z. record { sums = map (bound_at (entries_of g [])) s.sums; condition = x; label = z; next = option_map (map (term_under g)) w.next })
      (condition_means g table complete y k l c m f v i one_or_more (put_tree e t) moved_within w.further u.further a b
      ∙ ap (λ z. joined (stack_parts k v.0 (i - 1) z u.further)) (put_means g table e r h t ∙ ap (put (term_in r)) (sym (term_is g ts s.condition within.condition))))
      (label_means g table e r h ts s.label within.label)
      ∙ ap (λ z. record { sums = map (bound_at (entries_of g [])) s.sums; condition = joined (stack_parts k v.0 (i - 1) own u.further); label = put_label r (label_of (entries_of g ts) s.label); next = z }) n

  more_means : term_under g (one_tree y.is_push (rest_tree y v)) ≡ is_pushed k (rest_of k (var v.0))
  more_means = is_pushed_means g table complete y k l c m f (rest_tree y v) ∙ ap (is_pushed k) (rest_means g table complete y k l c m f v)

  ways_mean : (cs : List (ℕ × List TermId)) → All (IsCallIn ts l) cs
      → map (meant_summand g) (map (tree_stacked y v i e ts s) (tree_ways y l v e ts cs)) ≡ map (stack_summand k c v.0 (i - 1) q (form_summand_of (entries_of g ts) s)) (ways k c v.0 r (map (call_of (entries_of g ts)) cs))
  ways_mean [] w = ap₂ (λ a b. a ∷ b ∷ [])
      (one_means (tree_way_down y v) (way_down k v.0) (ap (λ t. t ∷ []) more_means) refl (ap (λ t. Some (t ∷ [])) (rest_means g table complete y k l c m f v)))
      (one_means (tree_way_out y v) (way_out k v.0) (ap₂ (λ n t. application n (and_more t no_terms) ∷ []) (not_means g complete) more_means) refl refl)
  ways_mean (a ∷ cs) w = ap (λ z. z ∷ [])
      (one_means (tree_way_up y l v e ts (a ∷ cs)) (way_up k c v.0 r (map (call_of (entries_of g ts)) (a ∷ cs))) refl refl
      (ap (λ t. Some (t ∷ [])) (pushed_mean g table complete y k l c m f e r h ts (a ∷ cs) (rest_tree y v) (rest_of k (var v.0)) w (rest_means g table complete y k l c m f v))))

pub stacked_trees_mean : StackedTreesMean
stacked_trees_mean g y k l c v i params q ts s table complete m f from_one long own within place moved =
    ways_mean g table complete y k l c m f v i from_one q (fields_for y l v i params) (fields_mean g table complete y k l c m f v i from_one q params long own place) ts s within moved s.next within.next
