-- Linear processes that are plainly conditioned for what is written, with the stacks and the parameters that were added on the way.
use Rattle.std.specs.Prelude.{◌≡◌, ℕ, true, List, [], map, Some}
use Rattle.std.specs.List.{All, AllZip, Contains}
use Rattle.data_theory.specs.declared.ids.ActId.{ActId}
use Rattle.data_theory.specs.declared.ids.VarId.{VarId}
use Rattle.data_theory.specs.Signature.{Sig}
use Rattle.data_theory.specs.IdData.{data_meant}
use Rattle.data_theory.specs.IdTerms.{IsGrown}
use Rattle.term_pool.specs.Pools.{PoolContents}
use Rattle.process_terms.specs.PlainProcesses.{PlainAround, allow, block, hide, rename, comm, PlainModel, PlainComponent}
use Rattle.process_terms.specs.Meanings.{Entries, bound_at, body_of, table_of}
use Rattle.process_terms.specs.SignatureEntries.{entries_of}
use Rattle.lps_core.specs.Fitting.{Fits}
use Rattle.lps_core.specs.MadeTerms.{Written, written_by, StackSort, IsPlain}
use Rattle.lps_core.specs.PlainLinears.{PlainLinear}
use Rattle.lps_core.specs.SealedTrees.{HasPhase}
use Rattle.proc_unfold.specs.Networks.{PlainNetwork, PlainNetworks, leaf, side_by_side, left_merge, sync, under, no_networks, more_networks}
use Rattle.greibach.specs.PlainComponents.{written_from}
use Rattle.greibach.specs.PlainForms.{PlainForm}
use Rattle.greibach.specs.PlainTerms.{FormIsPlain}
use Rattle.regular_encoder.specs.FormColumns.{IsControl}
use Rattle.stack_encoder.specs.AddedStacks.{IsAddedStack}
use Rattle.summand_expander.specs.Renewals.{IsFlag, GivesWay, renewed_variable}
use Rattle.summand_expander.specs.StartedProducts.{IsFirst}

-- ---- what was added
-- A parameter that was added between two signatures: the number of an equation, whether a side of a product has ended, whether the first step of
-- a product is still to come, and the phase of a process that was sealed, each under a fresh name; or the parameter that stands for such a one where
-- it gave way in a product.
pub data IsAddedParameter (g h : Sig) : VarId → Type 0 where
  a_control_number : {before after : Sig} {equations : ℕ} {x : VarId} → IsGrown g before → IsControl before equations after (Some x) → IsGrown after h → IsAddedParameter g h x
  an_ended_flag : {before after : Sig} {x : VarId} → IsGrown g before → IsFlag before true after (Some x) → IsGrown after h → IsAddedParameter g h x
  a_first_flag : {before after : Sig} {x : VarId} → IsGrown g before → IsFirst before after x → IsGrown after h → IsAddedParameter g h x
  a_phase : {before after : Sig} {act : ActId} {x : VarId} → IsGrown g before → HasPhase before after act x → IsGrown after h → IsAddedParameter g h x
  in_its_place : {before after : Sig} {l r : PlainLinear} {olds news : List VarId} {x : VarId} → IsAddedParameter g h x → GivesWay before l r after olds news → IsGrown after h → IsAddedParameter g h (renewed_variable olds news x)

-- It fits. Between the signatures stacks were added, and some of its parameters, and with these it is plainly conditioned for what is
-- written.
pub record IsPlainFor (g h : Sig) (q : PoolContents) (w : Written) (l : PlainLinear) : Type 0 where
  pub fits : Fits h q.trees l
  pub stacks : List StackSort
  pub stacks_added : All (IsAddedStack (data_meant g) (data_meant h)) stacks
  pub added : List VarId
  pub are_added : All (IsAddedParameter g h) added
  pub are_parameters : (x : VarId) → Contains added x → Contains l.params x
  pub plain : IsPlain h q w stacks (map (bound_at (entries_of h q.trees)) added) l

-- ---- step by step
-- the encoding of a form that is plainly conditioned
abbrev pub EncodesPlainly : Sig → Sig → PoolContents → PlainForm → PlainLinear → Type 0
EncodesPlainly g h q f l = (w : Written) → FormIsPlain h q w [] f → IsPlainFor g h q w l

-- the linear processes of components, each for what its component and the definitions write
abbrev pub ArePlainLeaves : Sig → PoolContents → Sig → PoolContents → PlainModel → List PlainComponent → List PlainLinear → Type 0
ArePlainLeaves g p h q m cs ls = AllZip (λ c l. IsPlainFor g h q (written_from (entries_of g p.trees) m c) l) cs ls

-- a `comm` is written where the operator is one
abbrev pub IsCommWritten : Written → PlainAround → Type 0
IsCommWritten w (allow sets) = Unit {0}
IsCommWritten w (block names) = Unit {0}
IsCommWritten w (hide names) = Unit {0}
IsCommWritten w (rename renamings) = Unit {0}
IsCommWritten w (comm rules) = w.communicates ≡ true

-- an operator around a linear process
abbrev pub StaysPlainAround : Sig → PoolContents → PoolContents → PlainAround → PlainLinear → PlainLinear → Type 0
StaysPlainAround g p q a l k = (s : Sig) (w : Written) → IsCommWritten w a → IsPlainFor s g p w l → IsPlainFor s g q w k

abbrev mutual
  pub AreCommsWritten : Written → PlainNetwork → Type 0
  AreCommsWritten w (leaf c) = Unit {0}
  AreCommsWritten w (side_by_side ns) = AreCommsWrittenBeside w ns
  AreCommsWritten w (left_merge m n) = AreCommsWritten w m × AreCommsWritten w n
  AreCommsWritten w (sync ns) = AreCommsWrittenBeside w ns
  AreCommsWritten w (under a n) = IsCommWritten w a × AreCommsWritten w n

  pub AreCommsWrittenBeside : Written → PlainNetworks → Type 0
  AreCommsWrittenBeside w no_networks = Unit {0}
  AreCommsWrittenBeside w (more_networks n ns) = AreCommsWritten w n × AreCommsWrittenBeside w ns

-- the linear process of a network of which all linear processes are plainly conditioned; those that are left stay so
abbrev pub ComposesPlainly : Sig → PoolContents → PlainNetwork → List PlainLinear → Sig → PoolContents → List PlainLinear → PlainLinear → Type 0
ComposesPlainly g p n queue h q left l = (s : Sig) (w : Written) → IsGrown s g → AreCommsWritten w n → All (IsPlainFor s g p w) queue → IsPlainFor s h q w l × All (IsPlainFor s h q w) left

-- ---- the whole specification
-- what its definitions and its `init` write
abbrev pub written_in_model : Entries → PlainModel → Written
written_in_model e m = written_by (table_of e m.definitions) (body_of e m.init)
