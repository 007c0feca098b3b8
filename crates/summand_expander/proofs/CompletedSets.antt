-- Steps of the tests in code.
use Rattle.std.proofs.Common.{◌≡◌, ◌<◌, ◌||◌, ◌&&◌, ◌==◌, ℕ, zero, suc, Bool, true, false, List, [], ◌∷◌, map, length, get_or, slice_index_or, refl, sym, ap, ap₂, ◌∙◌, arith, true≢false}
use Rattle.std.specs.Prelude.{Vec}
use Rattle.std.specs.Global.{Global}
use Rattle.std.specs.List.{list_any}
use Rattle.data_theory.specs.declared.ids.NameId.{NameId}
use Rattle.process_terms.specs.declared.comm_rules.CommRule.{CommRule}
use Rattle.process_terms.specs.PlainProcesses.{plain_rule, items_of_each}
use Rattle.action_filters.specs.Filters.{same_name}
use Rattle.action_filters.proofs.Loops.{any_at, nothing_is_empty, or_true}
use Rattle.action_filters.proofs.Ordered.{same_name_told}
use Rattle.communication.specs.Ways.{Joining}
use Rattle.communication.specs.Places.{joining_of}
use Rattle.summand_expander.specs.CompletableTests.{completes, is_completable}
use Rattle.summand_expander.specs.ByFirst.{rules_with}
use Rattle.summand_expander.specs.Nearby.{is_home}
use Rattle.summand_expander.specs.PlainAllowed.{joinings}
use Rattle.summand_expander.proofs.NearNames.{away}

pub some_gives : (f : Joining NameId → Bool) (rs : List CommRule) (i : ℕ) (r d : CommRule) (left : List NameId) → i < length rs → r ≡ get_or rs i d → left ≡ r.left.items → f (record { left = left; result = r.result }) ≡ true → list_any f (joinings (map plain_rule rs)) ≡ true
some_gives f [] i r d left l e q h = absurd (omega (arith, l))
some_gives f (x ∷ rs) zero r d left l e q h =
    ap (λ b. b || list_any f (joinings (map plain_rule rs))) (ap (λ (z : CommRule). f (joining_of (plain_rule z))) (sym e) ∙ ap (λ ns. f (record { left = ns; result = r.result })) (sym q) ∙ h)
some_gives f (x ∷ rs) (suc i) r d left l e q h = ap (λ b. f (joining_of (plain_rule x)) || b) (some_gives f rs i r d left (omega (arith, l)) e q h) ∙ or_true (f (joining_of (plain_rule x)))

pub set_gives : (f : List NameId → Bool) (vs : List (Vec NameId Global)) (i : ℕ) (v d : Vec NameId Global) (items : List NameId) → i < length vs → v ≡ get_or vs i d → items ≡ v.items → f items ≡ true → true ≡ list_any f (items_of_each vs)
set_gives f vs i v d items l e q h = sym (any_at (λ (set : Vec NameId Global). set.items) f vs i v d l e (ap f (sym q) ∙ h))

pub nothing_completable : (rules : List (Joining NameId)) (sets : List (List NameId)) (ns : List NameId) → (length ns == 0) ≡ true → true ≡ is_completable same_name rules sets ns
nothing_completable rules sets [] e = refl
nothing_completable rules sets (n ∷ ns) e = absurd (true≢false (sym e ∙ sym (nothing_is_empty (n ∷ ns))))

-- a set in which the first name can't stand completes nothing
at_home : (rules cs : List (Joining NameId)) (n : NameId) (ns v : List NameId) → cs ≡ rules_with same_name n rules → (is_home same_name cs n v && completes same_name rules (n ∷ ns) v) ≡ completes same_name rules (n ∷ ns) v
at_home rules cs n ns v q = by (is_home same_name cs n v) refl
  where
    by : (b : Bool) → is_home same_name cs n v ≡ b → (b && completes same_name rules (n ∷ ns) v) ≡ completes same_name rules (n ∷ ns) v
    by true e = refl
    by false e = sym (away same_name same_name_told rules n ns v (ap (λ l. is_home same_name l n v) (sym q) ∙ e))

all_at_home : (rules cs : List (Joining NameId)) (n : NameId) (ns : List NameId) (sets : List (List NameId)) → cs ≡ rules_with same_name n rules
    → list_any (λ v. is_home same_name cs n v && completes same_name rules (n ∷ ns) v) sets ≡ list_any (λ v. completes same_name rules (n ∷ ns) v) sets
all_at_home rules cs n ns [] q = refl
all_at_home rules cs n ns (v ∷ sets) q = ap₂ (λ b c. b || c) (at_home rules cs n ns v q) (all_at_home rules cs n ns sets q)

pub some_completable : (rules cs : List (Joining NameId)) (sets : List (List NameId)) (ns : List NameId) (d : NameId) → (length ns == 0) ≡ false → cs ≡ rules_with same_name (slice_index_or ns 0 d) rules
    → list_any (λ v. is_home same_name cs (slice_index_or ns 0 d) v && completes same_name rules ns v) sets ≡ is_completable same_name rules sets ns
some_completable rules cs sets [] d e q = absurd (true≢false e)
some_completable rules cs sets (n ∷ ns) d e q = all_at_home rules cs n ns sets q
