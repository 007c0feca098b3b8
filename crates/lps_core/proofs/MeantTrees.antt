-- What summands over trees mean.
use Rattle.std.proofs.Common.{◌≡◌, ◌==◌, ℕ, true, false, List, [], ◌∷◌, map, refl, sym, ap, ap₂, ◌∙◌, cond, Option, Some, None}
use Rattle.std.specs.Prelude.{option_map, IfSome}
use Rattle.std.specs.List.{All}
use Rattle.std.proofs.lemmas.List.Elements.{All-head, All-tail}
use Rattle.data_theory.specs.declared.ids.VarId.{VarId}
use Rattle.data_theory.specs.declared.ids.TermId.{TermId}
use Rattle.data_theory.specs.Terms.{Term, Terms, variable as var, numeral as num, unknown, application, none as no_terms, more as and_more, apply, put, put_all}
use Rattle.data_theory.specs.Environments.{Environment, term_in, bound}
use Rattle.data_theory.specs.Signature.{Sig}
use Rattle.data_theory.specs.IdTables.{IsTable}
use Rattle.data_theory.specs.IdTrees.{Tree, variable, put_tree}
use Rattle.data_theory.specs.IdTerms.{term_under}
use Rattle.data_theory.proofs.IdTermLemmas.{putting_in_trees_puts_in_terms}
use Rattle.term_pool.specs.HeadTrees.{tree_at, trees_at, AreIn}
use Rattle.process_terms.specs.PlainProcesses.{PlainAction}
use Rattle.process_terms.specs.Labels.{put_label}
use Rattle.process_terms.specs.Meanings.{action_at, bound_at, term_at, label_of}
use Rattle.process_terms.specs.SignatureEntries.{entries_of}
use Rattle.bisim_laws.specs.LinearProcesses.{variables, put_next}
use Rattle.lps_core.specs.PlainLinears.{PlainSummand, summand_of}
use Rattle.lps_core.specs.TreeSummands.{trees_of_label, trees_of_summand, IsActionIn, IsSummandIn, put_actions, bound_tree, renaming_tree, numbers_of, meant_action, meant_summand}
use Rattle.lps_core.specs.Moving.{renaming_to}
use Rattle.lps_core.proofs.Staying.{term_is, terms_are}

-- ---- putting in
mutual
  pub put_pointwise : (d e : ℕ → Term) → ((v : ℕ) → d v ≡ e v) → (t : Term) → put d t ≡ put e t
  put_pointwise d e h (var v) = h v
  put_pointwise d e h (num a z) = refl
  put_pointwise d e h (unknown a k) = refl
  put_pointwise d e h (application f ts) = ap (apply f) (put_all_pointwise d e h ts)

  pub put_all_pointwise : (d e : ℕ → Term) → ((v : ℕ) → d v ≡ e v) → (ts : Terms) → put_all d ts ≡ put_all e ts
  put_all_pointwise d e h no_terms = refl
  put_all_pointwise d e h (and_more t ts) = ap₂ (λ u us. and_more u us) (put_pointwise d e h t) (put_all_pointwise d e h ts)

pub bound_means : (g : Sig) (xs : List VarId) (us : List Tree) (x : VarId) → term_under g (bound_tree xs us x) ≡ term_in (bound (numbers_of xs) (map (term_under g) us)) x.0
bound_means g [] us x = refl
bound_means g (p ∷ xs) [] x = refl
bound_means g (p ∷ xs) (u ∷ us) x = elim (p.0 == x.0) as (λ b. term_under g (cond b u (bound_tree xs us x)) ≡ cond b (term_under g u) (term_in (bound (numbers_of xs) (map (term_under g) us)) x.0)) [ true ↦ refl | false ↦ bound_means g xs us x ]

pub variables_mean : (g : Sig) (xs : List VarId) → map (term_under g) (map variable xs) ≡ map var (numbers_of xs)
variables_mean g [] = refl
variables_mean g (x ∷ xs) = ap (λ ts. var x.0 ∷ ts) (variables_mean g xs)

-- trees that are put in mean the terms of an environment
abbrev pub Means : Sig → (VarId → Tree) → Environment → Type 0
Means g e r = (x : VarId) → term_under g (e x) ≡ term_in r x.0

pub put_means : (g : Sig) → IsTable g → (e : VarId → Tree) (r : Environment) → Means g e r → (t : Tree) → term_under g (put_tree e t) ≡ put (term_in r) (term_under g t)
put_means g table e r h t = putting_in_trees_puts_in_terms g table e t ∙ put_pointwise (λ v. term_under g (e (record { 0 = v }))) (term_in r) (λ v. h (record { 0 = v })) (term_under g t)

pub puts_mean : (g : Sig) → IsTable g → (e : VarId → Tree) (r : Environment) → Means g e r → (ts : List Tree) → map (term_under g) (map (put_tree e) ts) ≡ map (put (term_in r)) (map (term_under g) ts)
puts_mean g table e r h [] = refl
puts_mean g table e r h (t ∷ ts) = ap₂ (λ u us. u ∷ us) (put_means g table e r h t) (puts_mean g table e r h ts)

pub label_means : (g : Sig) → IsTable g → (e : VarId → Tree) (r : Environment) → Means g e r → (ts : List Tree) (m : List PlainAction) → All (IsActionIn ts) m
    → map (meant_action g) (put_actions e (trees_of_label ts m)) ≡ put_label r (label_of (entries_of g ts) m)
label_means g table e r h ts [] w = refl
label_means g table e r h ts (a ∷ m) w =
    ap₂ (λ args n. record { name = (action_at (entries_of g ts) a.act).name; sorts = (action_at (entries_of g ts) a.act).sorts; args = args } ∷ n)
    (puts_mean g table e r h (trees_at ts a.args) ∙ ap (map (put (term_in r))) (sym (terms_are g ts a.args (All-head (IsActionIn ts) a m w))))
    (label_means g table e r h ts m (All-tail (IsActionIn ts) a m w))

-- ---- what stands under numbers
pub label_read : (g : Sig) (ts : List Tree) (m : List PlainAction) → All (IsActionIn ts) m → label_of (entries_of g ts) m ≡ map (meant_action g) (trees_of_label ts m)
label_read g ts [] h = refl
label_read g ts (a ∷ m) h =
    ap₂ (λ args n. record { name = (action_at (entries_of g ts) a.act).name; sorts = (action_at (entries_of g ts) a.act).sorts; args = args } ∷ n) (terms_are g ts a.args (All-head (IsActionIn ts) a m h)) (label_read g ts m (All-tail (IsActionIn ts) a m h))

pub next_read : (g : Sig) (ts : List Tree) (next : Option (List TermId)) → IfSome next (AreIn ts) → option_map (map (term_at (entries_of g ts))) next ≡ option_map (map (term_under g)) (option_map (trees_at ts) next)
next_read g ts None h = refl
next_read g ts (Some ids) h = ap Some (terms_are g ts ids h)

pub summand_read : (g : Sig) (ts : List Tree) (s : PlainSummand) → IsSummandIn ts s → summand_of (entries_of g ts) s ≡ meant_summand g (trees_of_summand ts s)
summand_read g ts s h =
    ap (λ c. record { sums = map (bound_at (entries_of g ts)) s.sums; condition = c; label = label_of (entries_of g ts) s.label; next = option_map (map (term_at (entries_of g ts))) s.next }) (term_is g ts s.condition h.condition)
    ∙ ap₂ (λ m n. record { sums = map (bound_at (entries_of g ts)) s.sums; condition = term_under g (tree_at ts s.condition); label = m; next = n }) (label_read g ts s.label h.label) (next_read g ts s.next h.next)

pub summands_read : (g : Sig) (ts : List Tree) (ss : List PlainSummand) → All (IsSummandIn ts) ss → map (summand_of (entries_of g ts)) ss ≡ map (meant_summand g) (map (trees_of_summand ts) ss)
summands_read g ts [] h = refl
summands_read g ts (s ∷ ss) h = ap₂ (λ x xs. x ∷ xs) (summand_read g ts s (All-head (IsSummandIn ts) s ss h)) (summands_read g ts ss (All-tail (IsSummandIn ts) s ss h))

-- ---- other variables
pub numbers_meant : (g : Sig) (ts : List Tree) (xs : List VarId) → variables (map (bound_at (entries_of g ts)) xs) ≡ numbers_of xs
numbers_meant g ts [] = refl
numbers_meant g ts (x ∷ xs) = ap (λ ys. x.0 ∷ ys) (numbers_meant g ts xs)

pub renaming_means : (g : Sig) (xs ys : List VarId) → Means g (renaming_tree xs ys) (renaming_to (numbers_of xs) (numbers_of ys))
renaming_means g xs ys x = bound_means g xs (map variable ys) x ∙ ap (λ us. term_in (bound (numbers_of xs) us) x.0) (variables_mean g ys)

pub next_puts_mean : (g : Sig) → IsTable g → (e : VarId → Tree) (r : Environment) → Means g e r → (ts : List Tree) (next : Option (List TermId)) → IfSome next (AreIn ts)
    → option_map (map (term_under g)) (option_map (map (put_tree e)) (option_map (trees_at ts) next)) ≡ put_next r (option_map (map (term_at (entries_of g ts))) next)
next_puts_mean g table e r h ts None w = refl
next_puts_mean g table e r h ts (Some ids) w = ap Some (puts_mean g table e r h (trees_at ts ids) ∙ ap (map (put (term_in r))) (sym (terms_are g ts ids w)))
