-- Names of labels, and those behind them.
use Rattle.std.proofs.Common.{◌≡◌, ◌<◌, ℕ, zero, suc, List, [], ◌∷◌, ◌++◌, map, length, get_or, sym, ap, ◌∙◌, subst, arith}
use Rattle.std.specs.Prelude.{Contains}
use Rattle.std.proofs.lemmas.List.{map-append}
use Rattle.data_theory.specs.declared.ids.NameId.{NameId}
use Rattle.process_terms.specs.declared.labels.Action.{Action}
use Rattle.process_terms.specs.PlainProcesses.{PlainAction, plain_action}
use Rattle.bisim_laws.proofs.Firing.{contains_first, contains_later}

-- the name of an action is one of the label's
pub action_name_in : (f : PlainAction → NameId) (xs : List Action) (i : ℕ) (a d : Action) → i < length xs → a ≡ get_or xs i d → Contains (map f (map plain_action xs)) (f (plain_action a))
action_name_in f [] i a d l e = absurd (omega (arith, l))
action_name_in f (y ∷ ys) zero a d l e = subst (λ z. Contains (map f (map plain_action (y ∷ ys))) (f (plain_action z))) (sym e) (contains_first (f (plain_action y)) (map f (map plain_action ys)))
action_name_in f (y ∷ ys) (suc i) a d l e = contains_later (f (plain_action y)) (f (plain_action a)) (map f (map plain_action ys)) (action_name_in f ys i a d (omega (arith, l)) e)

-- the names of two labels, one after the other
pub names_of_both : (f : PlainAction → NameId) (names : List NameId) (m n : List PlainAction) → names ≡ map f m → names ++ map f n ≡ map f (m ++ n)
names_of_both f names m n e = ap (λ z. z ++ map f n) e ∙ sym (map-append f m n)
