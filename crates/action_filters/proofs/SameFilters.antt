-- What a filter of labels makes of summands is what the operator makes of them.
use Rattle.std.proofs.Common.{◌≡◌, Bool, true, false, List, [], ◌∷◌, ◌++◌, map, refl, ap, ap₂, if◌then◌else◌, Some, None}
use Rattle.std.specs.Prelude.{flat_map}
use Rattle.std.specs.Str.{bytes_eq}
use Rattle.process_terms.specs.Names.{Name}
use Rattle.process_terms.specs.Labels.{names}
use Rattle.process_terms.specs.Processes.{Renaming}
use Rattle.bisim_laws.specs.LinearProcesses.{Summand}
use Rattle.action_filters.specs.LabelFilters.{are_allowed, are_blocked, allowed_label, unblocked_label, shown_label}
use Rattle.action_filters.specs.Filtering.{texts, pairs_of, if_allowed, if_unblocked, without_hidden, with_new_names}
use Rattle.action_filters.proofs.TheoryLabels.{labelled, by_label, renamed_label}

all_same : {A B : Type 0} (f g : A → List B) → ((x : A) → f x ≡ g x) → (xs : List A) → flat_map f xs ≡ flat_map g xs
all_same f g same [] = refl
all_same f g same (x ∷ xs) = ap₂ (λ ys zs. ys ++ zs) (same x) (all_same f g same xs)

pub as_allowed : (sets : List (List Name)) (ss : List Summand) → flat_map (by_label (allowed_label texts sets)) ss ≡ flat_map (if_allowed sets) ss
as_allowed sets ss = all_same (by_label (allowed_label texts sets)) (if_allowed sets) (λ s. by s (are_allowed bytes_eq sets (names s.label))) ss
  where
    by : (s : Summand) (b : Bool) → labelled s (if b then Some s.label else None) ≡ (if b then s ∷ [] else [])
    by s true = refl
    by s false = refl

pub as_unblocked : (blocked : List Name) (ss : List Summand) → flat_map (by_label (unblocked_label texts blocked)) ss ≡ flat_map (if_unblocked blocked) ss
as_unblocked blocked ss = all_same (by_label (unblocked_label texts blocked)) (if_unblocked blocked) (λ s. by s (are_blocked bytes_eq blocked (names s.label))) ss
  where
    by : (s : Summand) (b : Bool) → labelled s (if b then None else Some s.label) ≡ (if b then [] else s ∷ [])
    by s true = refl
    by s false = refl

pub as_shown : (hidden : List Name) (ss : List Summand) → flat_map (by_label (shown_label texts hidden)) ss ≡ map (without_hidden hidden) ss
as_shown hidden [] = refl
as_shown hidden (s ∷ ss) = ap (λ l. without_hidden hidden s ∷ l) (as_shown hidden ss)

pub as_renamed : (rs : List Renaming) (ss : List Summand) → flat_map (by_label (renamed_label (pairs_of rs))) ss ≡ map (with_new_names rs) ss
as_renamed rs [] = refl
as_renamed rs (s ∷ ss) = ap (λ l. with_new_names rs s ∷ l) (as_renamed rs ss)
