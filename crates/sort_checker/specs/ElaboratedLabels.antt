-- Actions, labels and calls in code.
use Rattle.std.specs.Prelude.{◌≡◌, ℕ, List, Option, Some, None, option_map}
use Rattle.data_theory.specs.Signature.{Sig}
use Rattle.process_terms.specs.Labels.{Action, Label}
use Rattle.process_terms.specs.Meanings as code
use Rattle.process_terms.specs.Meanings.{HasAction}
use Rattle.process_terms.specs.PlainProcesses.{PlainAction, PlainProcess}
use Rattle.process_terms.specs.Processes.{written_call}
use Rattle.process_terms.specs.SignatureEntries.{entries_of}
use Rattle.term_pool.specs.Pools.{PoolContents}
use Rattle.sort_table.specs.Expressions.{Name, Expression}
use Rattle.sort_table.specs.NamedLists.{all_named}
use Rattle.sort_table.specs.SignatureVocabularies.{vocabulary_of}
use Rattle.data_typing.specs.Meanings.{Scope}
use Rattle.data_typing.specs.Typings.{Typing, all_at, first_of}
use Rattle.data_theory.specs.Terms.{Sort, Term}
use Rattle.sort_checker.specs.declared.chosen_actions.Chosen.{Chosen}
use Rattle.sort_checker.specs.declared.sorted_actions.SortedAction.{SortedAction}
use Rattle.sort_checker.specs.Additions.{GoesOn}
use Rattle.sort_checker.specs.ElaboratedParts.{IsLabel, IsBody}
use Rattle.sort_checker.specs.FullVocabularies.{Parameters, FullVocabulary, process_named}
use Rattle.sort_checker.specs.PartTypings.{action_of, arguments_in}
use Rattle.sort_checker.specs.ReadArguments.{HaveTermsAt}
use Rattle.sort_checker.specs.SortedActions.{sorts_of, IsSortedAction}
use Rattle.sort_checker.specs.TypedTrees.{AreReadings, how_of}

-- ---- candidates
-- the action, where each argument has a term at its sort
abbrev pub taken : (Sort → Typing → Option Term) → List Typing → SortedAction → Option SortedAction
taken how ts a = option_map (λ us. a) (all_at how (sorts_of a) ts)

-- the first of these at which the arguments have terms
abbrev pub first_taken : (Sort → Typing → Option Term) → List Typing → List SortedAction → Option SortedAction
first_taken how ts as_ = first_of (taken how ts) as_

-- ---- choices
-- the arguments have these terms at the sorts of the action of this name
pub record IsChosen (g : Sig) (x : Name) (ts : List Typing) (c : Chosen) (us : List Term) : Type 0 where
  pub sorted : IsSortedAction g x c.action.now
  pub readings : AreReadings g c.readings.items ts
  pub have : HaveTermsAt (how_of c.way) (sorts_of c.action.now) ts us

-- the action that a name with arguments is, where it is one
pub data IsChoice (g : Sig) (x : Name) (ts : List Typing) : Option Chosen → Type 0 where
  no_choice : action_of x ts (all_named x (vocabulary_of g).actions) ≡ None → IsChoice g x ts None
  the_choice : {c : Chosen} (us : List Term) → IsChosen g x ts c us → action_of x ts (all_named x (vocabulary_of g).actions) ≡ Some (record { name = x; sorts = sorts_of c.action.now; args = us }) → IsChoice g x ts (Some c)

-- ---- answers
-- the action in code stands for this one
pub record IsAction (g : Sig) (p : PoolContents) (x : PlainAction) (a : Action) : Type 0 where
  pub there : (h : Sig) (q : PoolContents) → GoesOn g p h q → HasAction (entries_of h q.trees) x
  pub means : (h : Sig) (q : PoolContents) → GoesOn g p h q → code.action_of (entries_of h q.trees) x ≡ a

-- the action that is wished, where there is one
pub data IsWishedAction (g : Sig) (p : PoolContents) (want : Option Action) : Option PlainAction → Type 0 where
  no_action : want ≡ None → IsWishedAction g p want None
  the_action : {x : PlainAction} (a : Action) → want ≡ Some a → IsAction g p x a → IsWishedAction g p want (Some x)

-- the label that is wished, where there is one
pub data IsWishedLabel (g : Sig) (p : PoolContents) (want : Option Label) : Option (List PlainAction) → Type 0 where
  no_label : want ≡ None → IsWishedLabel g p want None
  the_label : {xs : List PlainAction} (m : Label) → want ≡ Some m → IsLabel g p xs m → IsWishedLabel g p want (Some xs)

-- the call that a name with arguments in order is, where it is one
pub data IsWishedCall (v : FullVocabulary) (scope : Scope) (x : Name) (es : List Expression) (g : Sig) (p : PoolContents) : Option PlainProcess → Type 0 where
  no_call : ((k : ℕ) (ps : Parameters) → process_named v x ≡ Some (k, ps) → arguments_in v.declared scope ps es ≡ None) → IsWishedCall v scope x es g p None
  the_call : {c : PlainProcess} (k : ℕ) (ps : Parameters) (ts : List Term) → process_named v x ≡ Some (k, ps) → arguments_in v.declared scope ps es ≡ Some ts → IsBody g p c (written_call k ts)
      → IsWishedCall v scope x es g p (Some c)
