-- The first declaration in which something parallel stands where it may not.
use Rattle.std.proofs.Common.{◌≡◌, ◌<◌, ◌≤◌, ◌+◌, ◌↔◌, ◌⊎◌, inl, inr, Bool, true, false, ℕ, List, map, length, get_or, refl, sym, ap, ◌∙◌, subst, Some, arith}
use Rattle.std.specs.Prelude.{slice_get, Option, None, MatchOption}
use Rattle.std.specs.Option.{option_map}
use Rattle.std.proofs.lemmas.Option.{slice_get-map, slice_get-get_or, slice_get_within}
use Rattle.graphs.specs.Graphs.{IsMarked}
use Rattle.graphs.proofs.Marks.{same_or_not}
use Rattle.process_terms.specs.Processes.{Body, written_delta, written_act, written_choice, written_seq, written_cond, written_sum, written_call, written_merge, written_starting, written_around, Definition}
use Rattle.process_terms.specs.declared.definitions.ProcDef.{ProcDef}
use Rattle.process_terms.specs.PlainProcesses.{PlainDefinition, PlainProcess, PlainModel, plain_definition}
use Rattle.process_terms.specs.Meanings.{Entries, table_of, body_of}
use Rattle.guard_check.specs.Calls.{Reaches}
use Rattle.proc_unfold.specs.Parallel.{IsParallelName, IsSequentialBut, IsOutsideBut, IsOutside}
use Rattle.proc_unfold.specs.ParallelTests.{is_outside}
use Rattle.proc_unfold.specs.ParallelMarks.{AreParallelNames, FailsAt, IsLeastWithin}
use Rattle.proc_unfold.specs.Parallelism.{StandsWithin, StandsFirstWithin, HasNoParallelRecursion, StandsOutsideRecursion}
use Rattle.proc_unfold.proofs.ParallelLemmas.{outside_tells, outside_told}
use Rattle.proc_unfold.proofs.ParallelNames.{no_recursion}
use Rattle.proc_unfold.proofs.WellFormed.{body_at}

-- ---- fewer names
sequential_fewer : (P Q : ℕ → Type 0) → ((x : ℕ) → Q x → P x) → (p : Body) → IsSequentialBut P p → IsSequentialBut Q p
sequential_fewer P Q f p h = (h.0, λ x stands q. h.1 x stands (f x q))

pub outside_fewer : (P Q : ℕ → Type 0) → ((x : ℕ) → Q x → P x) → (p : Body) → IsOutsideBut P p → IsOutsideBut Q p
outside_fewer P Q f written_delta h = tt
outside_fewer P Q f (written_act m) h = tt
outside_fewer P Q f (written_choice p q) h = sequential_fewer P Q f (written_choice p q) h
outside_fewer P Q f (written_seq p q) h = sequential_fewer P Q f (written_seq p q) h
outside_fewer P Q f (written_cond c p q) h = sequential_fewer P Q f (written_cond c p q) h
outside_fewer P Q f (written_sum x p) h = sequential_fewer P Q f (written_sum x p) h
outside_fewer P Q f (written_call x ts) h = tt
outside_fewer P Q f (written_merge p q) h = (outside_fewer P Q f p h.0, outside_fewer P Q f q h.1)
outside_fewer P Q f (written_starting o p q) h = (outside_fewer P Q f p h.0, outside_fewer P Q f q h.1)
outside_fewer P Q f (written_around o p) h = outside_fewer P Q f p h

true_or_false : (b : Bool) → (b ≡ true) ⊎ (b ≡ false)
true_or_false true = inl refl
true_or_false false = inr refl

not_both : (b : Bool) → b ≡ true → b ≡ false → ⊥
not_both true e f = cc
not_both false e f = cc

-- ---- the test and the definition
module _ (m : PlainModel) (parallel : List Bool) (are : AreParallelNames m parallel) (g : Entries) where
  pub passes : (p : PlainProcess) → is_outside parallel p ≡ true → IsOutside (table_of g m.definitions) (body_of g p)
  passes p e = outside_fewer (IsMarked parallel) (IsParallelName (table_of g m.definitions)) (λ x is. (are.exact g x).1 is) (body_of g p) (outside_tells g parallel p e)

  pub fails : (p : PlainProcess) → is_outside parallel p ≡ false → IsOutside (table_of g m.definitions) (body_of g p) → ⊥
  fails p e h = not_both (is_outside parallel p) (outside_told g parallel p (outside_fewer (IsParallelName (table_of g m.definitions)) (IsMarked parallel) (λ x marked. (are.exact g x).0 marked) (body_of g p) h)) e

  pub failed : (p : PlainProcess) → (IsOutside (table_of g m.definitions) (body_of g p) → ⊥) → is_outside parallel p ≡ false
  failed p h = elim (true_or_false (is_outside parallel p)) [ inl e ↦ absurd (h (passes p e)) | inr e ↦ e ]

module _ (m : PlainModel) (reached parallel : List Bool) (are : AreParallelNames m parallel) (reached_are : (g : Entries) (x : ℕ) → IsMarked reached x ↔ Reaches (table_of g m.definitions) (body_of g m.init) x) where
  fails_within : (g : Entries) (n : ℕ) → FailsAt m reached parallel (length m.definitions) n → StandsWithin g m n
  fails_within g n (inl h) = inl (h.0, fails m parallel are g m.init h.1)
  fails_within g n (inr (x, f, below, marked, at, is, e)) = inr (x, f, (reached_are g x).0 marked, at, is, fails m parallel are g f.body e)

  within_fails : (g : Entries) (n : ℕ) → StandsWithin g m n → FailsAt m reached parallel (length m.definitions) n
  within_fails g n (inl h) = inl (h.0, failed m parallel are g m.init h.1)
  within_fails g n (inr (x, f, r, at, is, h)) = inr (x, f, slice_get_within m.definitions x f at, (reached_are g x).1 r, at, is, failed m parallel are g f.body h)

  pub first_stands : (n : ℕ) → IsLeastWithin m reached parallel (length m.definitions) (Some n) → (g : Entries) → StandsFirstWithin g m n
  first_stands n least g = record { stands = fails_within g n least.0; first = λ k within. least.1 k (within_fails g k within) }

  pub init_stands_outside : IsLeastWithin m reached parallel (length m.definitions) None → (g : Entries) → IsOutside (table_of g m.definitions) (body_of g m.init)
  init_stands_outside none g = passes m parallel are g m.init (elim (true_or_false (is_outside parallel m.init)) [ inl e ↦ e | inr e ↦ absurd (none m.init_declaration (inl (refl, e))) ])

  pub all_stand_outside : IsLeastWithin m reached parallel (length m.definitions) None → (g : Entries) (x : ℕ) (f : Definition) → Reaches (table_of g m.definitions) (body_of g m.init) x → slice_get (table_of g m.definitions) x ≡ Some f → IsOutside (table_of g m.definitions) f.body
  all_stand_outside none g x f r at =
      let c = body_at g m.definitions x f at in
      subst (λ d. IsOutside (table_of g m.definitions) d.body) (sym c.2)
      (passes m parallel are g c.0.body (elim (true_or_false (is_outside parallel c.0.body)) [
        | inl e ↦ e
        | inr e ↦ absurd (none c.0.declaration (inr (x, c.0, slice_get_within m.definitions x c.0 c.1, (reached_are g x).1 r, c.1, refl, e)))
      ]))

  pub stands_outside : (ranks : List ℕ) → HasNoParallelRecursion m ranks → IsLeastWithin m reached parallel (length m.definitions) None → StandsOutsideRecursion m
  stands_outside ranks none_recurs none g = record {
    no_recursion = no_recursion (table_of g m.definitions) (body_of g m.init) ranks (none_recurs.falls g);
    init_outside = init_stands_outside none g;
    all_outside = all_stand_outside none g;
  }

-- ---- the loop
pub definition_at : (ds : List ProcDef) (x : ℕ) (d : ProcDef) → x < length ds → d ≡ get_or ds x d → slice_get (map plain_definition ds) x ≡ Some (plain_definition d)
definition_at ds x d below is = slice_get-map plain_definition ds x ∙ ap (option_map plain_definition) (slice_get-get_or ds x d below ∙ ap Some (sym is))

module _ (m : PlainModel) (reached parallel : List Bool) where
  fails_more : (k n : ℕ) → FailsAt m reached parallel k n → FailsAt m reached parallel (k + 1) n
  fails_more k n (inl h) = inl h
  fails_more k n (inr h) = inr (h.0, h.1, omega (arith, h.2), h.3, h.4, h.5, h.6)

  -- the one more is this definition
  fails_last : (k n : ℕ) (f : PlainDefinition) → slice_get m.definitions k ≡ Some f → FailsAt m reached parallel (k + 1) n → FailsAt m reached parallel k n ⊎ (IsMarked reached k × (n ≡ f.declaration) × (is_outside parallel f.body ≡ false))
  fails_last k n f at (inl h) = inl (inl h)
  fails_last k n f at (inr (x, c, below, marked, at_x, is, e)) = elim (same_or_not x k) [
    | inl same ↦
        let both : Some c ≡ Some f = sym at_x ∙ (ap (slice_get m.definitions) same ∙ at) in
        let one : c ≡ f = cc in
        inr (subst (IsMarked reached) same marked, is ∙ ap (λ (d : PlainDefinition). d.declaration) one, sym (ap (λ (d : PlainDefinition). is_outside parallel d.body) one) ∙ e)
    | inr differs ↦ inl (inr (x, c, omega (arith, below), marked, at_x, is, e))
  ]

  pub none_yet : (e : is_outside parallel m.init ≡ true) → IsLeastWithin m reached parallel 0 None
  none_yet e n (inl h) = not_both (is_outside parallel m.init) e h.1
  none_yet e n (inr h) = absurd (omega (arith, h.2))

  pub init_yet : (e : is_outside parallel m.init ≡ false) → IsLeastWithin m reached parallel 0 (Some m.init_declaration)
  init_yet e = (inl (refl, e), λ k h. elim h [ inl same ↦ omega (arith, same.0) | inr far ↦ absurd (let below = far.2 in omega (arith, below)) ])

  pub least_same : (k : ℕ) (f : PlainDefinition) (found : Option ℕ) → slice_get m.definitions k ≡ Some f → is_outside parallel f.body ≡ true → IsLeastWithin m reached parallel k found → IsLeastWithin m reached parallel (k + 1) found
  least_same k f None at passed so = λ n h. elim (fails_last k n f at h) [ inl before ↦ so n before | inr last ↦ not_both (is_outside parallel f.body) passed last.2 ]
  least_same k f (Some n) at passed so = (fails_more k n so.0, λ j h. elim (fails_last k j f at h) [ inl before ↦ so.1 j before | inr last ↦ absurd (not_both (is_outside parallel f.body) passed last.2) ])

  fails_marked : (k n : ℕ) → (IsMarked reached k → ⊥) → FailsAt m reached parallel (k + 1) n → FailsAt m reached parallel k n
  fails_marked k n unmarked (inl h) = inl h
  fails_marked k n unmarked (inr h) = elim (same_or_not h.0 k) [
    | inl same ↦ absurd (unmarked (subst (IsMarked reached) same h.3))
    | inr differs ↦ inr (h.0, h.1, omega (arith, h.2), h.3, h.4, h.5, h.6)
  ]

  pub least_unmarked : (k : ℕ) (found : Option ℕ) → (IsMarked reached k → ⊥) → IsLeastWithin m reached parallel k found → IsLeastWithin m reached parallel (k + 1) found
  least_unmarked k None unmarked so = λ n h. so n (fails_marked k n unmarked h)
  least_unmarked k (Some n) unmarked so = (fails_more k n so.0, λ j h. so.1 j (fails_marked k j unmarked h))

  pub least_more : (k : ℕ) (f : PlainDefinition) (found : Option ℕ) (n : ℕ) → slice_get m.definitions k ≡ Some f → IsMarked reached k → is_outside parallel f.body ≡ false
      → MatchOption found (n ≡ f.declaration) (λ earlier. ((n ≡ earlier) × (earlier ≤ f.declaration)) ⊎ ((n ≡ f.declaration) × (f.declaration ≤ earlier)))
      → IsLeastWithin m reached parallel k found → IsLeastWithin m reached parallel (k + 1) (Some n)
  least_more k f None n at marked e is so = (inr (k, f, omega arith, marked, at, is, e), λ j h. elim (fails_last k j f at h) [ inl before ↦ absurd (so j before) | inr last ↦ omega (arith, is, last.1) ])
  least_more k f (Some earlier) n at marked e (inl is) so =
      (subst (FailsAt m reached parallel (k + 1)) (sym is.0) (fails_more k earlier so.0), λ j h. elim (fails_last k j f at h) [ inl before ↦ (let less = so.1 j before in omega (arith, is.0)) | inr last ↦ omega (arith, is.0, is.1, last.1) ])
  least_more k f (Some earlier) n at marked e (inr is) so =
      (inr (k, f, omega arith, marked, at, is.0, e), λ j h. elim (fails_last k j f at h) [ inl before ↦ (let less = so.1 j before in omega (arith, is.0, is.1)) | inr last ↦ omega (arith, is.0, last.1) ])
