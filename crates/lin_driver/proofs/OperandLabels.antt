-- Operands of `|`, one of which is a process, are no multi-action.
use Rattle.std.proofs.Common.{◌≡◌, ◌||◌, ℕ, true, false, List, [], ◌∷◌, map, sym, ap, ◌∙◌, refl}
use Rattle.std.specs.Prelude.{Option, Some, None, is_some, option_map, option_and_then}
use Rattle.data_theory.specs.Terms.{Sort}
use Rattle.process_terms.specs.Labels as written
use Rattle.process_terms.specs.Labels.{Label}
use Rattle.sort_table.specs.Expressions.{Name}
use Rattle.sort_table.specs.NamedLists.{all_named}
use Rattle.sort_table.specs.BareProcesses.{Action, tau, act}
use Rattle.sort_table.specs.Vocabularies.{Vocabulary}
use Rattle.data_typing.specs.Meanings.{Scope, typing_in}
use Rattle.sort_checker.specs.FullVocabularies.{Parameters, FullVocabulary, process_named}
use Rattle.sort_checker.specs.PartTypings.{action_of, label_in}
use Rattle.sort_checker.specs.Elaborations.{names_process}

-- where there is a label of all, there is one of all but the first
label_behind : (o : Option written.Action) (q : Option Label) (m : Label) → option_and_then (λ (a : written.Action). option_map (λ (l : Label). a ∷ l) q) o ≡ Some m → (l : Label) × (q ≡ Some l)
label_behind None q m e = absurd cc
label_behind (Some a) None m e = absurd cc
label_behind (Some a) (Some l) m e = (l, refl)

-- The processes are those of one vocabulary, and their names are no actions' in the other one.
pub no_labels : (v : Vocabulary) (w : FullVocabulary) → ((x : Name) (r : ℕ × Parameters) → process_named w x ≡ Some r → all_named x v.actions ≡ []) → (scope : Scope) (as_ : List Action) (m : Label) → names_process w as_ ≡ true → label_in v scope as_ ≡ Some m → ⊥
no_labels v w apart scope [] m f g = let never : false ≡ true = f in absurd cc
no_labels v w apart scope (tau ∷ as_) m f g = no_labels v w apart scope as_ m f g
no_labels v w apart scope (act x es ∷ as_) m f g = by_process (no_labels v w apart scope as_) (process_named w x) refl f
  where
    by_process : ((l : Label) → names_process w as_ ≡ true → label_in v scope as_ ≡ Some l → ⊥) → (o : Option (ℕ × Parameters)) → process_named w x ≡ o → (is_some o || names_process w as_) ≡ true → ⊥
    by_process later (Some r) e k =
        let h : None ≡ Some m = sym (ap (λ (sss : List (List Sort)). option_and_then (λ (a : written.Action). option_map (λ (l : Label). a ∷ l) (label_in v scope as_)) (action_of x (map (typing_in v scope) es) sss)) (apart x r e)) ∙ g in absurd cc
    by_process later None e k = let rest = label_behind (action_of x (map (typing_in v scope) es) (all_named x v.actions)) (label_in v scope as_) m g in later rest.0 k rest.1
