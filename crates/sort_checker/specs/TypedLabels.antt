-- Labels over a signature to which nothing is added: which trees are closed, typed labels, and what was found of them.
use Rattle.std.specs.Prelude.{◌≡◌, [], List, map, Option, Some, None}
use Rattle.std.specs.List.{AllByRecursion}
use Rattle.data_theory.specs.declared.ids.TermId.{TermId}
use Rattle.data_theory.specs.Terms.{Sort, Term}
use Rattle.data_theory.specs.Declarations.{HaveSorts}
use Rattle.data_theory.specs.Environments.{terms_of}
use Rattle.data_theory.specs.Signature.{Sig}
use Rattle.data_theory.specs.IdData.{data_meant}
use Rattle.data_theory.specs.IdTerms.{variable_sorts}
use Rattle.mcrl2_syntax.specs.ProcessParts.{PlainLabel}
use Rattle.term_pool.specs.Pools.{PoolContents}
use Rattle.process_terms.specs.Labels.{Action, Label}
use Rattle.process_terms.specs.Meanings as code
use Rattle.process_terms.specs.Meanings.{HasLabel}
use Rattle.process_terms.specs.PlainProcesses.{PlainAction}
use Rattle.process_terms.specs.SignatureEntries.{entries_of}
use Rattle.sort_table.specs.BareProcesses.{bare_action}
use Rattle.sort_table.specs.SignatureVocabularies.{vocabulary_of}
use Rattle.data_typing.specs.StandingSorts.{HasItsSortsIn}
use Rattle.sort_checker.specs.ElaboratedParts.{AreTerms, IsLabel}
use Rattle.sort_checker.specs.ElaboratedLabels.{IsAction}
use Rattle.sort_checker.specs.PartTypings.{label_in}

-- ---- sorts of arguments
-- the sort of each subterm of each argument is in the signature
abbrev pub HaveTheirSortsIn : Sig → List Term → Type 0
HaveTheirSortsIn g ts = AllByRecursion (HasItsSortsIn g) ts

abbrev pub ActionHasItsSortsIn : Sig → Action → Type 0
ActionHasItsSortsIn g a = HaveTheirSortsIn g a.args

abbrev pub LabelHasItsSortsIn : Sig → Label → Type 0
LabelHasItsSortsIn g m = AllByRecursion (ActionHasItsSortsIn g) m

-- each argument has its sort, over variables of these sorts
abbrev pub FitsItsSorts : Sig → List Sort → Action → Type 0
FitsItsSorts g vs a = HaveSorts (data_meant g) vs (terms_of a.args) a.sorts

-- ---- labels
-- A closed, typed label: where nothing is in scope the tree elaborates to this one, and the sort of each subterm is in the signature.
pub record IsTypedLabel (g : Sig) (l : PlainLabel) (m : Label) : Type 0 where
  pub elaborates : label_in (vocabulary_of g) [] (map bare_action l.actions) ≡ Some m
  pub sorts : LabelHasItsSortsIn g m

-- The actions in code stand for the label of the tree. Their numbers are those of the signature and the pool, and each argument is a closed
-- term of its sort.
pub record IsLabelOf (g : Sig) (p : PoolContents) (l : PlainLabel) (xs : List PlainAction) : Type 0 where
  pub label : Label
  pub typed : IsTypedLabel g l label
  pub closed : AllByRecursion (FitsItsSorts g []) label
  pub there : HasLabel (entries_of g p.trees) xs
  pub means : code.label_of (entries_of g p.trees) xs ≡ label

-- ---- what was found
-- Terms that are wished at these sorts have these numbers, and each subterm's sort is in the signature. There are none where some aren't well
-- sorted, or have a subterm whose sort isn't in the signature.
abbrev pub AreFoundIn : Sig → PoolContents → List Sort → List Term → Option (List TermId) → Type 0
AreFoundIn g p ss us None = HaveSorts (data_meant g) (variable_sorts g) (terms_of us) ss → ¬ (HaveTheirSortsIn g us)
AreFoundIn g p ss us (Some ids) = AreTerms g p ids us × HaveTheirSortsIn g us

-- so with an action that was chosen
abbrev pub IsTakenIn : Sig → PoolContents → Action → Option PlainAction → Type 0
IsTakenIn g p a None = FitsItsSorts g (variable_sorts g) a → ¬ (ActionHasItsSortsIn g a)
IsTakenIn g p a (Some x) = IsAction g p x a × ActionHasItsSortsIn g a

-- with one that is wished
abbrev pub IsActionIn : Sig → PoolContents → Option Action → Option PlainAction → Type 0
IsActionIn g p want None = (a : Action) → want ≡ Some a → FitsItsSorts g (variable_sorts g) a → ¬ (ActionHasItsSortsIn g a)
IsActionIn g p want (Some x) = (a : Action) × (want ≡ Some a) × IsAction g p x a × ActionHasItsSortsIn g a

-- and with a label
abbrev pub IsLabelIn : Sig → PoolContents → Option Label → Option (List PlainAction) → Type 0
IsLabelIn g p want None = (m : Label) → want ≡ Some m → AllByRecursion (FitsItsSorts g (variable_sorts g)) m → ¬ (LabelHasItsSortsIn g m)
IsLabelIn g p want (Some xs) = (m : Label) × (want ≡ Some m) × IsLabel g p xs m × LabelHasItsSortsIn g m

-- what was found of a tree: its label, or nothing where it is no closed, typed one
abbrev pub IsClosedLabelIn : Sig → PoolContents → PlainLabel → Option (List PlainAction) → Type 0
IsClosedLabelIn g p l None = (m : Label) → ¬ (IsTypedLabel g l m)
IsClosedLabelIn g p l (Some xs) = IsLabelOf g p l xs
