-- What an encoding over trees means.
use Rattle.std.proofs.Common.{◌≡◌, ◌≤◌, ◌+◌, ◌-◌, ℕ, zero, suc, Bool, true, false, List, [], ◌∷◌, ◌++◌, map, get_or, refl, sym, ap, ap₂, ◌∙◌, arith, Option, Some, None}
use Rattle.std.specs.Prelude.{pos, option_map}
use Rattle.std.specs.List.{All}
use Rattle.std.proofs.lemmas.List.{append-nil, map-append}
use Rattle.std.proofs.lemmas.List.Elements.{All-head}
use Rattle.data_theory.specs.declared.ids.VarId.{VarId}
use Rattle.data_theory.specs.declared.ids.TermId.{TermId}
use Rattle.data_theory.specs.Terms.{positive, Term, variable as var, numeral as num, application, none as no_terms, more as and_more, put}
use Rattle.data_theory.specs.Equations.{equals}
use Rattle.data_theory.specs.Environments.{Environment, term_in, bound}
use Rattle.data_theory.specs.Signature.{Sig}
use Rattle.data_theory.specs.Complete.{IsComplete}
use Rattle.data_theory.specs.IdTables.{IsTable}
use Rattle.data_theory.specs.IdTrees.{Tree, variable, put_tree}
use Rattle.data_theory.specs.IdTerms.{term_under}
use Rattle.term_pool.specs.HeadTrees.{tree_at, trees_at}
use Rattle.process_terms.specs.Labels.{put_label}
use Rattle.process_terms.specs.Meanings.{bound_at, term_at, label_of}
use Rattle.process_terms.specs.SignatureEntries.{entries_of}
use Rattle.process_terms.specs.Communication.{conjunction_of}
use Rattle.bisim_laws.specs.BaseStates.{Columns, number_of, control_of}
use Rattle.lps_core.specs.Conditions.{parts, without_true, joined}
use Rattle.greibach.specs.PlainForms.{call_of}
use Rattle.lps_core.specs.TreeSummands.{bound_tree, numbers_of}
use Rattle.lps_core.specs.NumberTrees.{number_tree}
use Rattle.lps_core.specs.TreeConditions.{tree_parts, trees_without_true, conjunction_tree}
use Rattle.lps_core.proofs.Staying.{term_is, terms_are}
use Rattle.lps_core.proofs.MeantTrees.{Means, bound_means, variables_mean, put_means, puts_mean, label_means}
use Rattle.lps_core.proofs.MeantParts.{numbers_mean, positive_meant, parts_mean_parts, chains_mean_chains}
use Rattle.regular_encoder.specs.Encoding.{control_parts, place_of, to_columns, encoded_next}
use Rattle.regular_encoder.specs.TreeEncoding.{PlainLayout, place_at, tree_control_parts, tree_control_of, tree_encoded_next, IsCallIn}
use Rattle.regular_encoder.specs.MeantEncoding.{HasControl, MeansColumns, EncodedTreesMean}

-- ---- the control number
number_means : (g : Sig) → IsTable g → (i : ℕ) → 1 ≤ i → term_under g (number_tree i) ≡ number_of (i - 1)
number_means g table i l = ap (λ s. num s (pos i)) (positive_meant g table) ∙ ap (λ n. num positive (pos n)) (let n : i ≡ (i - 1) + 1 = omega (arith, l) in n)

control_of_means : (g : Sig) → IsTable g → (o : Option VarId) (b : Bool) (v i : ℕ) → HasControl o b v → 1 ≤ i → map (term_under g) (tree_control_of o i) ≡ control_of b (i - 1)
control_of_means g table None b v i h l = ap (λ z. control_of z (i - 1)) (sym h)
control_of_means g table (Some x) b v i h l = ap (λ t. t ∷ []) (number_means g table i l) ∙ ap (λ z. control_of z (i - 1)) (sym h.0)

control_parts_mean : (g : Sig) → IsTable g → IsComplete g → (o : Option VarId) (b : Bool) (v i : ℕ) → HasControl o b v → 1 ≤ i → map (term_under g) (tree_control_parts o i) ≡ control_parts b v (i - 1)
control_parts_mean g table complete None b v i h l = ap (λ z. control_parts z v (i - 1)) (sym h)
control_parts_mean g table complete (Some x) b v i h l =
    ap₂ (λ s t. application s (and_more (var x.0) (and_more t no_terms)) ∷ []) (numbers_mean g table complete).2 (number_means g table i l)
    ∙ ap₂ (λ z w. control_parts z w (i - 1)) (sym h.0) (sym h.1)

joined_parts : (b : Bool) (v i : ℕ) (c : Term) → conjunction_of (control_parts b v i ++ without_true (parts c)) ≡ joined (control_parts b v i ++ c ∷ [])
joined_parts false v i c = ap (λ cs. conjunction_of (without_true cs)) (sym (append-nil (parts c)))
joined_parts true v i c = ap (λ cs. conjunction_of (equals positive (var v) (number_of i) ∷ without_true cs)) (sym (append-nil (parts c)))

-- ---- places
place_means : (l : PlainLayout) (c : Columns) (v i : ℕ) → MeansColumns l c v → place_of c (i - 1) ≡ numbers_of (place_at l i)
place_means l c v i m = ap (λ ps. get_or ps (i - 1) []) m.places ∙ read_numbers l.places (i - 1)
  where
    read_numbers : (ps : List (List VarId)) (k : ℕ) → get_or (map numbers_of ps) k [] ≡ numbers_of (get_or ps k [])
    read_numbers [] k = refl
    read_numbers (p ∷ ps) zero = refl
    read_numbers (p ∷ ps) (suc k) = read_numbers ps k

columns_mean : (g : Sig) (ps : List VarId) (us : List Tree) (xs : List VarId) → map (term_under g) (map (bound_tree ps us) xs) ≡ map (term_in (bound (numbers_of ps) (map (term_under g) us))) (numbers_of xs)
columns_mean g ps us [] = refl
columns_mean g ps us (x ∷ xs) = ap₂ (λ t ts. t ∷ ts) (bound_means g ps us x) (columns_mean g ps us xs)

next_means : (g : Sig) → IsTable g → (l : PlainLayout) (c : Columns) (v : ℕ) → MeansColumns l c v → (e : VarId → Tree) (r : Environment) → Means g e r → (ts : List Tree) (cs : List (ℕ × List TermId)) → All (IsCallIn ts l) cs
    → option_map (map (term_under g)) (tree_encoded_next l e ts cs) ≡ encoded_next c r (map (call_of (entries_of g ts)) cs)
next_means g table l c v m e r h ts [] w = refl
next_means g table l c v m e r h ts (a ∷ cs) w =
    let k = All-head (IsCallIn ts l) a cs w in
    let us = map (put_tree e) (trees_at ts a.1) in
    let args = map (put (term_in r)) (map (term_at (entries_of g ts)) a.1) in
    ap Some
    (map-append (term_under g) (tree_control_of l.control a.0) (map (bound_tree (place_at l a.0) us) l.columns)
    ∙ ap₂ (λ xs ys. xs ++ ys) (control_of_means g table l.control c.control v a.0 m.control k.from_one)
    (columns_mean g (place_at l a.0) us l.columns
    ∙ ap₂ (λ p zs. map (term_in (bound p zs)) (numbers_of l.columns)) (sym (place_means l c v a.0 m)) (puts_mean g table e r h (trees_at ts a.1) ∙ ap (map (put (term_in r))) (sym (terms_are g ts a.1 k.args)))
    ∙ ap (map (term_in (bound (place_of c (a.0 - 1)) args))) (sym m.columns)))

pub encoded_trees_mean : EncodedTreesMean
encoded_trees_mean g l c v i params q ts s table complete m one own within moved_within =
    let place = place_at l i in
    let e = bound_tree params (map variable place) in
    let r = to_columns c (i - 1) q in
    let h : Means g e r = λ x. bound_means g params (map variable place) x ∙ ap₂ (λ xs us. term_in (bound xs us) x.0) (sym own) (variables_mean g place ∙ ap (map var) (sym (place_means l c v i m))) in
    let t = tree_at ts s.condition in
    let condition : term_under g (conjunction_tree (tree_control_parts l.control i ++ trees_without_true (tree_parts (put_tree e t)))) ≡ joined (control_parts c.control v (i - 1) ++ put (term_in r) (term_at (entries_of g ts) s.condition) ∷ []) =
    chains_mean_chains g table complete (tree_control_parts l.control i ++ trees_without_true (tree_parts (put_tree e t)))
    ∙ ap conjunction_of (map-append (term_under g) (tree_control_parts l.control i) (trees_without_true (tree_parts (put_tree e t)))
    ∙ ap₂ (λ xs ys. xs ++ ys) (control_parts_mean g table complete l.control c.control v i m.control one)
    (parts_mean_parts g table complete (put_tree e t) moved_within ∙ ap (λ z. without_true (parts z)) (put_means g table e r h t ∙ ap (put (term_in r)) (sym (term_is g ts s.condition within.condition)))))
    ∙ joined_parts c.control v (i - 1) (put (term_in r) (term_at (entries_of g ts) s.condition)) in
    ap₂ (λ x y. record { sums = map (bound_at (entries_of g [])) s.sums; condition = x; label = y; next = option_map (map (term_under g)) (tree_encoded_next l e ts s.next) }) condition (label_means g table e r h ts s.label within.label)
    ∙ ap (λ n. record { sums = map (bound_at (entries_of g [])) s.sums; condition = joined (control_parts c.control v (i - 1) ++ put (term_in r) (term_at (entries_of g ts) s.condition) ∷ []); label = put_label r (label_of (entries_of g ts) s.label); next = n })
    (next_means g table l c v m e r h ts s.next within.next)
