-- What the network of a specification is, its settled network is, too, and it keeps a call.
use Rattle.std.proofs.Common.{◌≡◌, Bool, true, false, not, ◌&&◌, List, [], refl, sym, ap, subst}
use Rattle.data_theory.specs.declared.ids.ProcId.{ProcId}
use Rattle.data_theory.specs.declared.ids.VarId.{VarId}
use Rattle.data_theory.specs.declared.ids.TermId.{TermId}
use Rattle.data_theory.specs.Signature.{Sig}
use Rattle.data_theory.specs.IdTrees.{Tree}
use Rattle.graphs.specs.Graphs.{IsMarked}
use Rattle.process_terms.specs.Meanings.{Entries, component_body, table_of, process_of}
use Rattle.process_terms.specs.PlainProcesses.{PlainProcess, call, PlainDefinition, PlainModel, PlainComponent, call_of, term_of}
use Rattle.process_terms.specs.Processes.{close}
use Rattle.bisim_laws.specs.Links.{Same, Pairs}
use Rattle.proc_unfold.specs.Networks.{PlainNetwork, leaf, side_by_side, left_merge, sync, under, network_body}
use Rattle.proc_unfold.specs.Opening.{Opens, term_kept, call_kept, call_opened, beside, one_choice, one_step, left_merged, synced, no_sum, within}
use Rattle.proc_unfold.specs.ParallelTests.{is_sequential}
use Rattle.proc_unfold.specs.PutTerms.{ArePut, IsPutIn, put_delta, put_act, put_call, put_choice, put_seq, put_cond, put_sum, put_merge, put_left, put_sync, put_around}
use Rattle.proc_unfold.specs.Unfolded.{IsOpened, IsSameNetwork, IsComponentOf, HasItsComponents}
use Rattle.process_terms.specs.SignatureEntries.{entries_of}
use Rattle.lin_driver.specs.SettledNetworks.{settled_component, settled, KeepsTheCall}

-- ---- what stays
not_marked : (b : Bool) → (not b && true) ≡ true → b ≡ true → ⊥
not_marked true h e = cc
not_marked false h e = cc

module _ (ds : List PlainDefinition) (marks : List Bool) (ts : List Tree) where
  term_settles : {by : List (VarId × TermId)} {p q : PlainProcess} → is_sequential marks p ≡ true → IsPutIn ts by p q → Opens ds marks ts by p (settled (leaf (term_of q)))
  term_settles s put_delta = term_kept s put_delta
  term_settles s (put_act k) = term_kept s (put_act k)
  term_settles s (put_call k) = call_kept (not_marked _ s) k
  term_settles s (put_choice k) = term_kept s (put_choice k)
  term_settles s (put_seq k) = term_kept s (put_seq k)
  term_settles s (put_cond c k l) = term_kept s (put_cond c k l)
  term_settles s (put_sum k) = term_kept s (put_sum k)
  term_settles s (put_merge k) = term_kept s (put_merge k)
  term_settles s (put_left k l) = term_kept s (put_left k l)
  term_settles s (put_sync k) = term_kept s (put_sync k)
  term_settles s (put_around k) = term_kept s (put_around k)

  opens_settled : {by : List (VarId × TermId)} {p : PlainProcess} {n : PlainNetwork} → Opens ds marks ts by p n → Opens ds marks ts by p (settled n)
  opens_settled (term_kept s k) = term_settles s k
  opens_settled (call_kept k a) = call_kept k a
  opens_settled (call_opened f at k a o) = call_opened f at k a (opens_settled o)
  opens_settled (beside o) = beside o
  opens_settled (one_choice one o) = one_choice one o
  opens_settled (one_step one o) = one_step one o
  opens_settled (left_merged o k) = left_merged o k
  opens_settled (synced o) = synced o
  opens_settled (no_sum o) = no_sum (opens_settled o)
  opens_settled (within o) = within o

pub settled_is_opened : (m : PlainModel) (ts : List Tree) (n : PlainNetwork) → IsOpened m ts n → IsOpened m ts (settled n)
settled_is_opened m ts n h = record { reached = h.reached; parallel = h.parallel; ranks = h.ranks; are = h.are; opens = opens_settled m.definitions h.parallel ts h.opens }

settled_body : (e : Entries) (c : PlainComponent) → component_body e (settled_component c) ≡ component_body e c
settled_body e (term_of (call x ids)) = refl
settled_body e c = refl

settled_means : (e : Entries) (n : PlainNetwork) → network_body e (settled n) ≡ network_body e n
settled_means e (leaf c) = settled_body e c
settled_means e (side_by_side ns) = refl
settled_means e (left_merge m n) = refl
settled_means e (sync ns) = refl
settled_means e (under o n) = refl

pub settled_is_same : (g : Sig) (ts : List Tree) (m : PlainModel) (n : PlainNetwork) → IsSameNetwork g ts m n → IsSameNetwork g ts m (settled n)
settled_is_same g ts m n h th = subst (λ b. Pairs th Same (process_of (entries_of g ts) m) (close (table_of (entries_of g ts) m.definitions) [] b)) (sym (settled_means (entries_of g ts) n)) (h th)

component_settles : (g : Sig) (ts : List Tree) (m : PlainModel) (c : PlainComponent) → IsComponentOf g ts m c → IsComponentOf g ts m (settled_component c)
component_settles g ts m (term_of (call x ids)) h = record { fits = h.fits; sequential = h.sequential; reached = h.reached }
component_settles g ts m c h = h

pub settled_has_its_components : (g : Sig) (ts : List Tree) (m : PlainModel) (n : PlainNetwork) → HasItsComponents g ts m n → HasItsComponents g ts m (settled n)
settled_has_its_components g ts m (leaf c) h = component_settles g ts m c h
settled_has_its_components g ts m (side_by_side ns) h = h
settled_has_its_components g ts m (left_merge p n) h = h
settled_has_its_components g ts m (sync ns) h = h
settled_has_its_components g ts m (under o n) h = h

-- ---- a call that isn't opened
record IsPutCall (ts : List Tree) (by : List (VarId × TermId)) (x : ProcId) (us : List TermId) (n : PlainNetwork) : Type 0 where
  arguments : List TermId
  is : n ≡ leaf (call_of x arguments)
  put : ArePut ts by us arguments

module _ (ts : List Tree) (x : ProcId) (us : List TermId) where
  call_put : {by : List (VarId × TermId)} {p q : PlainProcess} → IsPutIn ts by p q → p ≡ call x us → IsPutCall ts by x us (settled (leaf (term_of q)))
  call_put put_delta e = cc
  call_put (put_act k) e = cc
  call_put {by = by} (put_call {x = y} {ids = vs} {made = made} k) e =
      let process : y ≡ x = cc in
      let given : vs ≡ us = cc in
      record { arguments = made; is = ap (λ z. leaf (call_of z made)) process; put = subst (λ zs. ArePut ts by zs made) given k }
  call_put (put_choice k) e = cc
  call_put (put_seq k) e = cc
  call_put (put_cond c k l) e = cc
  call_put (put_sum k) e = cc
  call_put (put_merge k) e = cc
  call_put (put_left k l) e = cc
  call_put (put_sync k) e = cc
  call_put (put_around k) e = cc

  call_opens : {ds : List PlainDefinition} {marks : List Bool} {by : List (VarId × TermId)} {p : PlainProcess} {n : PlainNetwork} → Opens ds marks ts by p n → p ≡ call x us → (IsMarked marks x.0 → ⊥) → IsPutCall ts by x us (settled n)
  call_opens (term_kept s k) e none = call_put k e
  call_opens {by = by} (call_kept {x = y} {us = vs} {vs = made} k a) e none =
      let process : y ≡ x = cc in
      let given : vs ≡ us = cc in
      record { arguments = made; is = ap (λ z. leaf (call_of z made)) process; put = subst (λ zs. ArePut ts by zs made) given a }
  call_opens {marks = marks} (call_opened {x = y} f at k a o) e none =
      let process : y ≡ x = cc in
      absurd (none (subst (λ (z : ProcId). IsMarked marks z.0) process k))
  call_opens (beside o) e none = cc
  call_opens (one_choice one o) e none = cc
  call_opens (one_step one o) e none = cc
  call_opens (left_merged o k) e none = cc
  call_opens (synced o) e none = cc
  call_opens (no_sum o) e none = cc
  call_opens (within o) e none = cc

pub settled_keeps_the_call : (m : PlainModel) (ts : List Tree) (n : PlainNetwork) → IsOpened m ts n → KeepsTheCall m ts (settled n)
settled_keeps_the_call m ts n h e x us starts none =
    let r = call_opens ts x us h.opens starts (λ k. none ((h.are.parallel_are e x.0).0 k)) in
    record { arguments = r.arguments; is = r.is; put = r.put }
