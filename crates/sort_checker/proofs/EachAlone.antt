-- Operands of `|` that are actions or calls, each alone.
use Rattle.std.proofs.Common.{◌≡◌, ℕ, Bool, true, ◌&&◌, ◌||◌, List, [], ◌∷◌, map, refl, sym, ap₂, ◌∙◌}
use Rattle.std.specs.Prelude.{Option, Some, None, is_some, option_map, option_and_then}
use Rattle.std.specs.List.{AllByRecursion, list_all}
use Rattle.process_terms.specs.Labels as written
use Rattle.sort_table.specs.Expressions.{Name, Expression}
use Rattle.sort_table.specs.BareProcesses.{Action, tau, act}
use Rattle.sort_table.specs.NamedLists.{all_named}
use Rattle.sort_table.specs.Vocabularies.{Vocabulary}
use Rattle.data_typing.specs.Meanings.{Scope, typing_in}
use Rattle.data_typing.proofs.SortsFirst.{still_there}
use Rattle.sort_checker.specs.FullVocabularies.{Parameters, FullVocabulary, process_named}
use Rattle.sort_checker.specs.PartTypings.{action_of, label_in}
use Rattle.sort_checker.specs.Elaborations.{names_process, each_alone}
use Rattle.sort_checker.specs.FittingBodies.{EachExpressionOf, EachArgument}

pub expressions_alone : (P : Expression → Type 0) (as_ : List Action) → AllByRecursion (EachArgument P) as_ → EachExpressionOf P (each_alone as_)
expressions_alone P [] h = tt
expressions_alone P (a ∷ as_) h = ((h.0, tt), expressions_alone P as_ h.1)

-- where the processes are the same
pub names_alike : (v w : FullVocabulary) → ((x : Name) → process_named v x ≡ process_named w x) → (as_ : List Action) → names_process v as_ ≡ names_process w as_
names_alike v w same [] = refl
names_alike v w same (tau ∷ as_) = names_alike v w same as_
names_alike v w same (act x es ∷ as_) = ap₂ (λ (o : Option (ℕ × Parameters)) (b : Bool). is_some o || b) (same x) (names_alike v w same as_)

-- ---- labels
-- each of these has an elaboration
abbrev pub is_action_in : Vocabulary → Scope → Action → Bool
is_action_in v scope tau = true
is_action_in v scope (act x es) = is_some (action_of x (map (typing_in v scope) es) (all_named x v.actions))

pub label_told : (v : Vocabulary) (scope : Scope) (as_ : List Action) → is_some (label_in v scope as_) ≡ list_all (is_action_in v scope) as_
label_told v scope [] = refl
label_told v scope (tau ∷ as_) = label_told v scope as_
label_told v scope (act x es ∷ as_) = of_action (label_told v scope as_) (action_of x (map (typing_in v scope) es) (all_named x v.actions))
  where
    of_action : is_some (label_in v scope as_) ≡ list_all (is_action_in v scope) as_ → (o : Option written.Action) → is_some (option_and_then (λ a. option_map (λ m. a ∷ m) (label_in v scope as_)) o) ≡ (is_some o && list_all (is_action_in v scope) as_)
    of_action later None = refl
    of_action later (Some a) = sym (still_there (λ m. a ∷ m) (label_in v scope as_)) ∙ later
