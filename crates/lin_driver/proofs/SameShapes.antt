-- Which names a process term calls, and where its parallel operators stand, doesn't hang on the numbers of sorts, functions and variables.
use Rattle.std.proofs.Common.{◌≡◌, ◌⊎◌, inl, inr, ℕ, zero, suc, List, [], ◌∷◌, ◌++◌, refl, ap, ap₂, sym, ◌∙◌, subst, map}
use Rattle.std.specs.Prelude.{Option, Some, None, Contains, slice_get, option_map, option_and_then}
use Rattle.std.proofs.lemmas.Option.{none-some, same_Some}
use Rattle.data_theory.specs.Terms.{Sort, Term}
use Rattle.graphs.specs.Graphs.{IsPath}
use Rattle.process_terms.specs.Labels as written
use Rattle.process_terms.specs.Labels.{Label}
use Rattle.process_terms.specs.Processes as processes
use Rattle.process_terms.specs.Processes.{Around, Start, Bound, Body, written_delta, written_act, written_choice, written_seq, written_cond, written_sum, written_call, written_merge, written_starting, written_around, Definition, Table, choice_of, seq_of, merged_with, merge_of, synced_with, sync_of, sums_around}
use Rattle.guard_check.specs.declared.calls.Extent.{Extent}
use Rattle.guard_check.specs.declared.calls.Extent.TheVariants.{Everywhere, BeforeActions}
use Rattle.guard_check.specs.Calls.{behind, calls, Calls, Leads, By, Reaches}
use Rattle.guard_check.specs.Guards.{IsGuarded}
use Rattle.proc_unfold.specs.Parallel.{HasParallel, HasParallelBody, IsParallelName, IsSequentialBut, IsOutsideBut, IsOutside, IsOutsideRecursion}
use Rattle.sort_table.specs.Expressions.{Name, Expression}
use Rattle.sort_table.specs.NamedLists.{all_named}
use Rattle.sort_table.specs.BareProcesses as bare
use Rattle.sort_table.specs.BareProcesses.{Variables, act}
use Rattle.data_typing.specs.Meanings.{Scope, typing_in}
use Rattle.sort_checker.specs.FullVocabularies.{Parameters, FullVocabulary, process_named}
use Rattle.sort_checker.specs.Scopes.{Binds, binds_none, binds_more}
use Rattle.sort_checker.specs.PartTypings.{action_of, label_in}
use Rattle.sort_checker.specs.Elaborations.{Elaborates, nothing, label, call_in_order, one_by_one, call_by_name, only_these, none_of_these, unseen, renamed, joined, in_sequence, one_of, at_once, left_first, side_by_side, for_each, where_true, by_truth, AllElaborate, all_done, one_and_more}
use Rattle.lin_driver.proofs.AlikeTypings.{EachWith, each_none, each_more}
use Rattle.lin_driver.proofs.OperandLabels.{no_labels}

-- ---- process terms that are the same but for their data
pub data SameShape : Body → Body → Type 0 where
  shape_delta : SameShape written_delta written_delta
  shape_act : {m l : Label} → SameShape (written_act m) (written_act l)
  shape_choice : {a b c d : Body} → SameShape a c → SameShape b d → SameShape (written_choice a b) (written_choice c d)
  shape_seq : {a b c d : Body} → SameShape a c → SameShape b d → SameShape (written_seq a b) (written_seq c d)
  shape_cond : {t u : Term} {a b c d : Body} → SameShape a c → SameShape b d → SameShape (written_cond t a b) (written_cond u c d)
  shape_sum : {x y : Bound} {a b : Body} → SameShape a b → SameShape (written_sum x a) (written_sum y b)
  shape_call : {x : ℕ} {ts us : List Term} → SameShape (written_call x ts) (written_call x us)
  shape_merge : {a b c d : Body} → SameShape a c → SameShape b d → SameShape (written_merge a b) (written_merge c d)
  shape_starting : {o : Start} {a b c d : Body} → SameShape a c → SameShape b d → SameShape (written_starting o a b) (written_starting o c d)
  shape_around : {o q : Around} {a b : Body} → SameShape a b → SameShape (written_around o a) (written_around q b)

pub shape_back : {a b : Body} → SameShape a b → SameShape b a
shape_back shape_delta = shape_delta
shape_back shape_act = shape_act
shape_back (shape_choice h k) = shape_choice (shape_back h) (shape_back k)
shape_back (shape_seq h k) = shape_seq (shape_back h) (shape_back k)
shape_back (shape_cond h k) = shape_cond (shape_back h) (shape_back k)
shape_back (shape_sum h) = shape_sum (shape_back h)
shape_back shape_call = shape_call
shape_back (shape_merge h k) = shape_merge (shape_back h) (shape_back k)
shape_back (shape_starting h k) = shape_starting (shape_back h) (shape_back k)
shape_back (shape_around h) = shape_around (shape_back h)

calls_same : (n : Extent) {a b : Body} → SameShape a b → calls n a ≡ calls n b
calls_same n shape_delta = refl
calls_same n shape_act = refl
calls_same n (shape_choice h k) = ap₂ (λ (xs ys : List ℕ). xs ++ ys) (calls_same n h) (calls_same n k)
calls_same n (shape_seq h k) = ap₂ (λ (xs ys : List ℕ). xs ++ behind n ys) (calls_same n h) (calls_same n k)
calls_same n (shape_cond h k) = ap₂ (λ (xs ys : List ℕ). xs ++ ys) (calls_same n h) (calls_same n k)
calls_same n (shape_sum h) = calls_same n h
calls_same n shape_call = refl
calls_same n (shape_merge h k) = ap₂ (λ (xs ys : List ℕ). xs ++ ys) (calls_same n h) (calls_same n k)
calls_same n (shape_starting h k) = ap₂ (λ (xs ys : List ℕ). xs ++ ys) (calls_same n h) (calls_same n k)
calls_same n (shape_around h) = calls_same n h

either_on : {A B C D : Type 0} → (A → C) → (B → D) → A ⊎ B → C ⊎ D
either_on f g (inl a) = inl (f a)
either_on f g (inr b) = inr (g b)

parallel_on : {a b : Body} → SameShape a b → HasParallel a → HasParallel b
parallel_on shape_delta p = p
parallel_on shape_act p = p
parallel_on (shape_choice h k) p = either_on (parallel_on h) (parallel_on k) p
parallel_on (shape_seq h k) p = either_on (parallel_on h) (parallel_on k) p
parallel_on (shape_cond h k) p = either_on (parallel_on h) (parallel_on k) p
parallel_on (shape_sum h) p = parallel_on h p
parallel_on shape_call p = p
parallel_on (shape_merge h k) p = tt
parallel_on (shape_starting h k) p = tt
parallel_on (shape_around h) p = tt

called_on : (n : Extent) {a b : Body} (x : ℕ) → SameShape a b → Contains (calls n a) x → Contains (calls n b) x
called_on n x h c = subst (λ (xs : List ℕ). Contains xs x) (calls_same n h) c

module _ (P Q : ℕ → Type 0) (back : (x : ℕ) → Q x → P x) where
  sequential_on : {a b : Body} → SameShape a b → IsSequentialBut P a → IsSequentialBut Q b
  sequential_on h is = (λ p. is.0 (parallel_on (shape_back h) p), λ x c q. is.1 x (called_on Everywhere x (shape_back h) c) (back x q))

  outside_on : {a b : Body} → SameShape a b → IsOutsideBut P a → IsOutsideBut Q b
  outside_on shape_delta is = tt
  outside_on shape_act is = tt
  outside_on (shape_choice h k) is = sequential_on (shape_choice h k) is
  outside_on (shape_seq h k) is = sequential_on (shape_seq h k) is
  outside_on (shape_cond {t = t} {u = u} h k) is = sequential_on (shape_cond {t = t} {u = u} h k) is
  outside_on (shape_sum {x = x} {y = y} h) is = sequential_on (shape_sum {x = x} {y = y} h) is
  outside_on shape_call is = tt
  outside_on (shape_merge h k) is = (outside_on h is.0, outside_on k is.1)
  outside_on (shape_starting h k) is = (outside_on h is.0, outside_on k is.1)
  outside_on (shape_around h) is = outside_on h is

-- ---- definitions
abbrev pub SameBodies : Definition → Definition → Type 0
SameBodies f g = SameShape f.body g.body

pub tables_back : {d e : Table} → EachWith SameBodies d e → EachWith SameBodies e d
tables_back each_none = each_none
tables_back (each_more h hs) = each_more (shape_back h) (tables_back hs)

definition_on : {d e : Table} → EachWith SameBodies d e → (x : ℕ) (f : Definition) → slice_get d x ≡ Some f → (g : Definition) × (slice_get e x ≡ Some g) × SameShape f.body g.body
definition_on each_none x f at = absurd (none-some f at)
definition_on (each_more {x = f'} {y = g} h hs) zero f at = (g, refl, subst (λ (z : Definition). SameShape z.body g.body) (same_Some f' f at) h)
definition_on (each_more h hs) (suc x) f at = definition_on hs x f at

pub path_on : (Edge Link : ℕ → ℕ → Type 0) → ((x y : ℕ) → Edge x y → Link x y) → (a : ℕ) (xs : List ℕ) (b : ℕ) → IsPath Edge a xs b → IsPath Link a xs b
path_on Edge Link w a [] b p = w a b p
path_on Edge Link w a (x ∷ xs) b p = (w a x p.0, path_on Edge Link w x xs b p.1)

module _ {d e : Table} (same : EachWith SameBodies d e) where
  calls_on : (n : Extent) (x y : ℕ) → Calls n d x y → Calls n e x y
  calls_on n x y c = let g = definition_on same x c.0 c.1 in (g.0, g.1, called_on n y g.2 c.2)

  by_on : (n : Extent) (x y : ℕ) → By (Calls n d) x y → By (Calls n e) x y
  by_on n x y b = (b.0, path_on (Calls n d) (Calls n e) (calls_on n) x b.0 y b.1)

  reaches_on : {p q : Body} (x : ℕ) → SameShape p q → Reaches d p x → Reaches e q x
  reaches_on x h r = either_on (called_on Everywhere x h) (λ c. (c.0, called_on Everywhere c.0 h c.1, by_on Everywhere c.0 x c.2)) r

  parallel_body_on : (x : ℕ) → HasParallelBody d x → HasParallelBody e x
  parallel_body_on x h = let g = definition_on same x h.0 h.1 in (g.0, g.1, parallel_on g.2 h.2)

  parallel_name_on : (x : ℕ) → IsParallelName d x → IsParallelName e x
  parallel_name_on x h = either_on (parallel_body_on x) (λ c. (c.0, by_on Everywhere x c.0 c.1, parallel_body_on c.0 c.2)) h

-- ---- recursion and parallelism
pub guarded_on : {d e : Table} {p q : Body} → EachWith SameBodies d e → SameShape p q → IsGuarded d p → IsGuarded e q
guarded_on same h is x r b = is x (reaches_on (tables_back same) x (shape_back h) r) (by_on (tables_back same) BeforeActions x x b)

pub outside_recursion_on : {d e : Table} {p q : Body} → EachWith SameBodies d e → SameShape p q → IsOutsideRecursion d p → IsOutsideRecursion e q
outside_recursion_on {d = d} {e = e} {p = p} {q = q} same h is =
    let back = tables_back same in
    record {
      no_recursion = λ x r n b. is.no_recursion x (reaches_on back x (shape_back h) r) (parallel_name_on back x n) (by_on back Everywhere x x b);
      init_outside = outside_on (IsParallelName d) (IsParallelName e) (parallel_name_on back) h is.init_outside;
      all_outside = λ x g r at. (
          let f = definition_on back x g at in
          outside_on (IsParallelName d) (IsParallelName e) (parallel_name_on back) (shape_back f.2) (is.all_outside x f.0 (reaches_on back x (shape_back h) r) f.1)
          );
    }

-- ---- several operands
choices : {bs cs : List Body} → EachWith SameShape bs cs → SameShape (choice_of bs) (choice_of cs)
choices each_none = shape_delta
choices (each_more h each_none) = h
choices (each_more h (each_more k hs)) = shape_choice h (choices (each_more k hs))

sequences : {bs cs : List Body} → EachWith SameShape bs cs → SameShape (seq_of bs) (seq_of cs)
sequences each_none = shape_delta
sequences (each_more h each_none) = h
sequences (each_more h (each_more k hs)) = shape_seq h (sequences (each_more k hs))

merged : {p q : Body} {bs cs : List Body} → SameShape p q → EachWith SameShape bs cs → SameShape (merged_with p bs) (merged_with q cs)
merged h each_none = h
merged h (each_more k hs) = merged (shape_merge h k) hs

merges : {bs cs : List Body} → EachWith SameShape bs cs → SameShape (merge_of bs) (merge_of cs)
merges each_none = shape_delta
merges (each_more h hs) = merged h hs

synced : {p q : Body} {bs cs : List Body} → SameShape p q → EachWith SameShape bs cs → SameShape (synced_with p bs) (synced_with q cs)
synced h each_none = h
synced h (each_more k hs) = synced (shape_starting h k) hs

syncs : {bs cs : List Body} → EachWith SameShape bs cs → SameShape (sync_of bs) (sync_of cs)
syncs each_none = shape_delta
syncs (each_more h hs) = synced h hs

some_same : {A : Type 0} {o : Option A} {x y : A} → o ≡ Some x → o ≡ Some y → x ≡ y
some_same f g = cc

no_label : (w : FullVocabulary) (scope : Scope) (x : Name) (es : List Expression) (m : Label) → all_named x w.declared.actions ≡ [] → label_in w.declared scope (act x es ∷ []) ≡ Some m → ⊥
no_label w scope x es m none g =
    let h : None ≡ Some m = sym (ap (λ (sss : List (List Sort)). option_and_then (λ (a : written.Action). option_map (λ (l : Label). a ∷ l) (label_in w.declared scope [])) (action_of x (map (typing_in w.declared scope) es) sss)) none) ∙ g in absurd cc

-- ---- the same process term over two vocabularies
-- the processes have their places in both, and no name of theirs is an action's in the other
pub record SameProcesses (v w : FullVocabulary) : Type 0 where
  pub places : (x : Name) (r q : ℕ × Parameters) → process_named v x ≡ Some r → process_named w x ≡ Some q → r.0 ≡ q.0
  pub first_apart : (x : Name) (r : ℕ × Parameters) → process_named v x ≡ Some r → all_named x w.declared.actions ≡ []
  pub second_apart : (x : Name) (r : ℕ × Parameters) → process_named w x ≡ Some r → all_named x v.declared.actions ≡ []

module _ (v w : FullVocabulary) (same : SameProcesses v w) where
  call_same : {k j : ℕ} {ts us : List Term} → k ≡ j → SameShape (written_call k ts) (written_call j us)
  call_same {k = k} {ts = ts} {us = us} e = subst (λ (n : ℕ). SameShape (written_call k ts) (written_call n us)) e shape_call

  sums : {one other inner deeper : Scope} {xs : Variables} {bs cs : List Bound} {p q : Body} → Binds v.declared one xs inner bs → Binds w.declared other xs deeper cs → SameShape p q → SameShape (sums_around bs p) (sums_around cs q)
  sums binds_none binds_none h = h
  sums (binds_more a f bs) (binds_more b g cs) h = shape_sum (sums bs cs h)

  mutual
    pub same_shape : {one other : Scope} {p : bare.Process} {b c : Body} → Elaborates v one p b → Elaborates w other p c → SameShape b c
    same_shape nothing nothing = shape_delta
    same_shape (label f) (label g) = shape_act
    same_shape {one = one} (label {m = m} f) (call_in_order {x = x} {es = es} {k = k} {ps = ps} g q) = absurd (no_label v one x es m (same.second_apart x (k, ps) g) f)
    same_shape {other = other} (call_in_order {x = x} {es = es} {k = k} {ps = ps} g q) (label {m = m} f) = absurd (no_label w other x es m (same.first_apart x (k, ps) g) f)
    same_shape (call_in_order {x = x} {k = k} {ps = ps} f g) (call_in_order {k = j} {ps = qs} f' g') = call_same (same.places x (k, ps) (j, qs) f f')
    same_shape {one = one} (label {m = m} f) (one_by_one {a = x} {b = y} {as_ = as_} n ys) = absurd (no_labels v.declared w same.second_apart one (x ∷ y ∷ as_) m n f)
    same_shape {other = other} (one_by_one {a = x} {b = y} {as_ = as_} n ys) (label {m = m} f) = absurd (no_labels w.declared v same.first_apart other (x ∷ y ∷ as_) m n f)
    same_shape (one_by_one n xs) (one_by_one m ys) = syncs (same_shapes xs ys)
    same_shape (call_by_name {x = x} {k = k} {ps = ps} f y g) (call_by_name {k = j} {ps = qs} f' y' g') = call_same (same.places x (k, ps) (j, qs) f f')
    same_shape (only_these f x) (only_these g y) = shape_around (same_shape x y)
    same_shape (none_of_these f x) (none_of_these g y) = shape_around (same_shape x y)
    same_shape (unseen f x) (unseen g y) = shape_around (same_shape x y)
    same_shape (renamed f x) (renamed g y) = shape_around (same_shape x y)
    same_shape (joined f x) (joined g y) = shape_around (same_shape x y)
    same_shape (in_sequence xs) (in_sequence ys) = sequences (same_shapes xs ys)
    same_shape (one_of xs) (one_of ys) = choices (same_shapes xs ys)
    same_shape (at_once xs) (at_once ys) = syncs (same_shapes xs ys)
    same_shape (left_first x y) (left_first x' y') = shape_starting (same_shape x x') (same_shape y y')
    same_shape (side_by_side xs) (side_by_side ys) = merges (same_shapes xs ys)
    same_shape (for_each bs x) (for_each cs y) = sums bs cs (same_shape x y)
    same_shape (where_true f x) (where_true g y) = shape_cond (same_shape x y) shape_delta
    same_shape (by_truth f x y) (by_truth g x' y') = shape_cond (same_shape x x') (same_shape y y')

    same_shapes : {one other : Scope} {ps : bare.Processes} {bs cs : List Body} → AllElaborate v one ps bs → AllElaborate w other ps cs → EachWith SameShape bs cs
    same_shapes all_done all_done = each_none
    same_shapes (one_and_more x xs) (one_and_more y ys) = each_more (same_shape x y) (same_shapes xs ys)
