-- A filter by an index does what it does by the names.
use Rattle.std.proofs.Common.{◌≡◌, ◌||◌, List, [], ◌∷◌, map, refl, ap₂, Some, None, if◌then◌else◌}
use Rattle.std.specs.List.{list_any}
use Rattle.data_theory.specs.declared.ids.NameId.{NameId}
use Rattle.data_theory.specs.Keys.{key}
use Rattle.data_theory.specs.Signature.{Sig}
use Rattle.process_terms.specs.PlainProcesses.{PlainAction}
use Rattle.lps_core.specs.PlainLinears.{PlainLinear}
use Rattle.action_filters.specs.NameTests.{is_among, is_nothing, is_permuted}
use Rattle.action_filters.specs.LabelFilters.{Naming, shown, new_name}
use Rattle.action_filters.specs.Filters.{naming, same_name, key_of_action, place_of_key, with_labels, allowed, unblocked, hidden, renamed}

-- both lists have the same names
abbrev pub HaveSameNames : List NameId → List NameId → Type 0
HaveSameNames xs ys = (x : NameId) → is_among same_name xs x ≡ is_among same_name ys x

shown_same : {A N : Type 0} (w : Naming A N) (xs ys : List N) → ((x : N) → is_among w.same xs x ≡ is_among w.same ys x) → (m : List A) → shown w xs m ≡ shown w ys m
shown_same w xs ys h [] = refl
shown_same w xs ys h (a ∷ m) = ap₂ (λ b l. if b then l else a ∷ l) (h (w.name a)) (shown_same w xs ys h m)

module _ (g : Sig) (l : PlainLinear) where
  pub allowed_same : (xs ys : List (List NameId)) → ((ns : List NameId) → list_any (is_permuted same_name ns) xs ≡ list_any (is_permuted same_name ns) ys) → allowed g xs l ≡ allowed g ys l
  allowed_same xs ys h = λ i. with_labels (λ m. if is_nothing (map (naming g).name m) || h (map (naming g).name m) i then Some m else None) l

  pub unblocked_same : (xs ys : List NameId) → HaveSameNames xs ys → unblocked g xs l ≡ unblocked g ys l
  unblocked_same xs ys h = λ i. with_labels (λ m. if list_any (λ x. h x i) (map (naming g).name m) then None else Some m) l

  pub hidden_same : (xs ys : List NameId) → HaveSameNames xs ys → hidden g xs l ≡ hidden g ys l
  hidden_same xs ys h = λ i. with_labels (λ m. Some (shown_same (naming g) xs ys h m i)) l

  pub renamed_same : (ps qs : List (NameId × NameId)) → ((x : NameId) → new_name same_name ps x ≡ new_name same_name qs x) → renamed g ps l ≡ renamed g qs l
  renamed_same ps qs h = λ i. with_labels (λ m. Some (map (λ (a : PlainAction). record { act = record { 0 = place_of_key g.actions (key (h (key_of_action g a).name i) (key_of_action g a).sorts) }; args = a.args }) m)) l
