-- Communication of labels with other variables.
use Rattle.std.proofs.Common.{◌≡◌, ℕ, suc, Bool, true, false, ◌||◌, List, [], ◌∷◌, ◌++◌, map, length, refl, sym, ap, ap₂, ◌∙◌, if◌then◌else◌}
use Rattle.std.specs.Prelude.{flat_map}
use Rattle.std.specs.List.{All, list_any}
use Rattle.std.specs.Str.{bytes_eq}
use Rattle.std.proofs.lemmas.List.{map-append}
use Rattle.data_theory.specs.Terms.{Sort, Term}
use Rattle.data_theory.specs.Equations.{equals, !ᵗ◌}
use Rattle.process_terms.specs.Names.{Name}
use Rattle.process_terms.specs.Labels.{Action, Label, names}
use Rattle.process_terms.specs.Communication.{Rule, equalities, group_equalities, conjunction_of}
use Rattle.bisim_laws.specs.LinearProcesses.{Summand}
use Rattle.lps_core.specs.Conditions.{parts, conjoined}
use Rattle.action_filters.specs.NameTests.{is_nothing}
use Rattle.action_filters.specs.LabelFilters.{are_allowed}
use Rattle.communication.specs.Ways.{Joining, Item, stays, joins, ways, rest, further}
use Rattle.communication.specs.Communicated.{texts, joining, ActionGroup, Way, action_of_item, way_label, equalities_of, item_equalities, further_groups, is_no_group, way_parts, has_no_arguments, with_way, of_way, label_ways, communicated}
use Rattle.communication.proofs.Mapped.{IsRead, group_along, item_along, ways_along, rest_along, further_along, all_true}
use Rattle.summand_expander.specs.Renewing.{renewed_terms, renewed_label, renewed_summand}
use Rattle.action_filters.specs.Filtering.{if_allowed}
use Rattle.summand_expander.proofs.RenewedTerms.{renewed_term, renewed_parts, renewed_conjunction, renewed_conjoined, by_fields}

abbrev pub Anything : {A : Type 0} → A → Type 0
Anything x = Unit {0}

module _ (r : ℕ → ℕ) where
  abbrev pub renewed_action : Action → Action
  renewed_action a = record { name = a.name; sorts = a.sorts; args = renewed_terms r a.args }

  read : IsRead texts texts renewed_action (λ (n : Name). n) Anything Anything
  read = record { named = λ a i. (refl, tt); same = λ x y i j. refl; alike = λ a b i j. refl }

  abbrev new_group : ActionGroup → ActionGroup
  new_group g = group_along texts texts renewed_action (λ n. n) Anything Anything read g

  abbrev new_item : Item Action Name → Item Action Name
  new_item i = item_along texts texts renewed_action (λ n. n) Anything Anything read i

  any_all : {A : Type 0} (xs : List A) → All Anything xs
  any_all xs = all_true Anything (λ x. tt) xs

  itself : {A : Type 0} (xs : List A) → map (λ x. x) xs ≡ xs
  itself [] = refl
  itself (x ∷ xs) = ap (λ l. x ∷ l) (itself xs)

  rules_same : (rules : List Rule) → map (λ (c : Joining Name). record { left = map (λ n. n) c.left; result = c.result }) (map joining rules) ≡ map joining rules
  rules_same [] = refl
  rules_same (c ∷ rules) = ap₂ (λ ns l. record { left = ns; result = c.result } ∷ l) (itself c.left) (rules_same rules)

  lefts_have : (rules : List Rule) → All (λ (c : Joining Name). All Anything c.left) (map joining rules)
  lefts_have rules = all_true (λ (c : Joining Name). All Anything c.left) (λ c. any_all c.left) (map joining rules)

  length_same : (m : Label) → length (renewed_label r m) ≡ length m
  length_same [] = refl
  length_same (a ∷ m) = ap suc (length_same m)

  ways_renewed : (rules : List Rule) (m : Label) → label_ways rules (renewed_label r m) ≡ map (map new_item) (label_ways rules m)
  ways_renewed rules m =
      ap (λ n. ways texts (map joining rules) n (renewed_label r m)) (length_same m)
      ∙ ap (λ cs. ways texts cs (length m) (renewed_label r m)) (sym (rules_same rules))
      ∙ ways_along texts texts renewed_action (λ n. n) Anything Anything read (map joining rules) (length m) m (lefts_have rules) (any_all m)

  rest_renewed : (v : Way) → rest (map new_item v) ≡ renewed_label r (rest v)
  rest_renewed v = rest_along texts texts renewed_action (λ n. n) Anything Anything read v

  further_renewed : (rules : List Rule) (m : Label) → further_groups rules (renewed_label r m) ≡ map new_group (further_groups rules m)
  further_renewed rules m =
      ap (λ cs. further texts cs (renewed_label r m)) (sym (rules_same rules))
      ∙ further_along texts texts renewed_action (λ n. n) Anything Anything read (map joining rules) m (lefts_have rules) (any_all m)

  -- ---- parts
  equalities_renewed : (ss : List Sort) (ts us : List Term) → equalities ss (renewed_terms r ts) (renewed_terms r us) ≡ map (renewed_term r) (equalities ss ts us)
  equalities_renewed [] ts us = refl
  equalities_renewed (s ∷ ss) [] us = refl
  equalities_renewed (s ∷ ss) (t ∷ ts) [] = refl
  equalities_renewed (s ∷ ss) (t ∷ ts) (u ∷ us) = ap (λ l. equals s (renewed_term r t) (renewed_term r u) ∷ l) (equalities_renewed ss ts us)

  group_renewed : (a : Action) (m : Label) → group_equalities (renewed_action a) (renewed_label r m) ≡ map (renewed_term r) (group_equalities a m)
  group_renewed a [] = refl
  group_renewed a (b ∷ m) = ap₂ (λ k l. k ++ l) (equalities_renewed a.sorts a.args b.args) (group_renewed a m) ∙ sym (map-append (renewed_term r) (equalities a.sorts a.args b.args) (group_equalities a m))

  equal_renewed : (v : Way) → flat_map item_equalities (map new_item v) ≡ map (renewed_term r) (flat_map item_equalities v)
  equal_renewed [] = refl
  equal_renewed (stays a ∷ v) = equal_renewed v
  equal_renewed (joins g ∷ v) = ap₂ (λ k l. k ++ l) (group_renewed g.first g.others) (equal_renewed v) ∙ sym (map-append (renewed_term r) (equalities_of g) (flat_map item_equalities v))

  nots_renewed : (gs : List ActionGroup) → map is_no_group (map new_group gs) ≡ map (renewed_term r) (map is_no_group gs)
  nots_renewed [] = refl
  nots_renewed (g ∷ gs) = ap₂ (λ t l. (!ᵗ t) ∷ l) (ap conjunction_of (group_renewed g.first g.others) ∙ sym (renewed_conjunction r (equalities_of g))) (nots_renewed gs)

  parts_renewed : (rules : List Rule) (v : Way) → way_parts rules (map new_item v) ≡ map (renewed_term r) (way_parts rules v)
  parts_renewed rules v =
      ap₂ (λ k l. k ++ l) (equal_renewed v) (ap (λ gs. map is_no_group gs) (ap (further_groups rules) (rest_renewed v) ∙ further_renewed rules (rest v)) ∙ nots_renewed (further_groups rules (rest v)))
      ∙ sym (map-append (renewed_term r) (flat_map item_equalities v) (map is_no_group (further_groups rules (rest v))))

  label_renewed : (v : Way) → way_label (map new_item v) ≡ renewed_label r (way_label v)
  label_renewed [] = refl
  label_renewed (stays a ∷ v) = ap (λ l. renewed_action a ∷ l) (label_renewed v)
  label_renewed (joins g ∷ v) = ap (λ l. renewed_action (action_of_item (joins g)) ∷ l) (label_renewed v)

  nothing_mapped : (ts : List Term) → is_nothing (map (renewed_term r) ts) ≡ is_nothing ts
  nothing_mapped [] = refl
  nothing_mapped (t ∷ ts) = refl

  shut_renewed : (gs : List ActionGroup) → list_any has_no_arguments (map new_group gs) ≡ list_any has_no_arguments gs
  shut_renewed [] = refl
  shut_renewed (g ∷ gs) = ap₂ (λ b c. b || c) (ap is_nothing (group_renewed g.first g.others) ∙ nothing_mapped (equalities_of g)) (shut_renewed gs)

  -- ---- summands
  with_renewed : (rules : List Rule) (s : Summand) (v : Way) → with_way rules (renewed_summand r s) (map new_item v) ≡ renewed_summand r (with_way rules s v)
  with_renewed rules s v =
      by_fields refl
      (ap conjoined (ap₂ (λ k l. k ++ l) (renewed_parts r s.condition) (parts_renewed rules v) ∙ sym (map-append (renewed_term r) (parts s.condition) (way_parts rules v))) ∙ sym (renewed_conjoined r (parts s.condition ++ way_parts rules v)))
      (label_renewed v) refl

  of_renewed : (rules : List Rule) (s : Summand) (v : Way) → of_way rules (renewed_summand r s) (map new_item v) ≡ map (renewed_summand r) (of_way rules s v)
  of_renewed rules s v =
      ap₂ (λ (b : Bool) (t : Summand). if b then [] else t ∷ [])
      (ap (λ gs. list_any has_no_arguments gs) (ap (further_groups rules) (rest_renewed v) ∙ further_renewed rules (rest v)) ∙ shut_renewed (further_groups rules (rest v)))
      (with_renewed rules s v)
      ∙ by (list_any has_no_arguments (further_groups rules (rest v)))
    where
      by : (b : Bool) → (if b then [] else renewed_summand r (with_way rules s v) ∷ []) ≡ map (renewed_summand r) (if b then [] else with_way rules s v ∷ [])
      by true = refl
      by false = refl

  each_renewed : (rules : List Rule) (s : Summand) (vs : List Way) → flat_map (of_way rules (renewed_summand r s)) (map (map new_item) vs) ≡ map (renewed_summand r) (flat_map (of_way rules s) vs)
  each_renewed rules s [] = refl
  each_renewed rules s (v ∷ vs) = ap₂ (λ k l. k ++ l) (of_renewed rules s v) (each_renewed rules s vs) ∙ sym (map-append (renewed_summand r) (of_way rules s v) (flat_map (of_way rules s) vs))

  pub communicated_renewed : (rules : List Rule) (s : Summand) → communicated rules (renewed_summand r s) ≡ map (renewed_summand r) (communicated rules s)
  communicated_renewed rules s = ap (λ vs. flat_map (of_way rules (renewed_summand r s)) vs) (ways_renewed rules s.label) ∙ each_renewed rules s (label_ways rules s.label)

  -- ---- allow
  pub names_renewed : (m : Label) → names (renewed_label r m) ≡ names m
  names_renewed [] = refl
  names_renewed (a ∷ m) = ap (λ l. a.name ∷ l) (names_renewed m)

  allowed_renewed : (sets : List (List Name)) (s : Summand) → if_allowed sets (renewed_summand r s) ≡ map (renewed_summand r) (if_allowed sets s)
  allowed_renewed sets s = ap (λ ns. if are_allowed bytes_eq sets ns then renewed_summand r s ∷ [] else []) (names_renewed s.label) ∙ by (are_allowed bytes_eq sets (names s.label))
    where
      by : (b : Bool) → (if b then renewed_summand r s ∷ [] else []) ≡ map (renewed_summand r) (if b then s ∷ [] else [])
      by true = refl
      by false = refl

  each_allowed_renewed : (sets : List (List Name)) (ss : List Summand) → flat_map (if_allowed sets) (map (renewed_summand r) ss) ≡ map (renewed_summand r) (flat_map (if_allowed sets) ss)
  each_allowed_renewed sets [] = refl
  each_allowed_renewed sets (s ∷ ss) = ap₂ (λ k l. k ++ l) (allowed_renewed sets s) (each_allowed_renewed sets ss) ∙ sym (map-append (renewed_summand r) (if_allowed sets s) (flat_map (if_allowed sets) ss))

  pub kept_renewed : (rules : List Rule) (sets : List (List Name)) (s : Summand) → flat_map (if_allowed sets) (communicated rules (renewed_summand r s)) ≡ map (renewed_summand r) (flat_map (if_allowed sets) (communicated rules s))
  kept_renewed rules sets s = ap (λ ss. flat_map (if_allowed sets) ss) (communicated_renewed rules s) ∙ each_allowed_renewed sets (communicated rules s)
