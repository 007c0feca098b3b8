-- A summand of a product, and the summands that it is made of.
use Rattle.std.proofs.Common.{◌≡◌, ℕ, Bool, true, false, List, [], ◌∷◌, ◌++◌, map, refl, ap, ap₂, ◌∙◌, Option, Some, None}
use Rattle.std.proofs.lemmas.List.{map-append}
use Rattle.data_theory.specs.Terms.{Sort, boolean, Term, variable, put}
use Rattle.data_theory.specs.Declarations.{Data}
use Rattle.data_theory.specs.Equations.{trueᵗ, !ᵗ◌}
use Rattle.data_theory.specs.Provable.{symmetric, transitive}
use Rattle.data_theory.specs.Environments.{Environment, term_in}
use Rattle.data_theory.proofs.EnvironmentLemmas.{contains_first as number_first}
use Rattle.process_terms.specs.Theories.{Theory, IsTrue, IsFalse, IsConsistent, AllTrue, none_left, true_and_more}
use Rattle.process_terms.specs.Labels.{Label}
use Rattle.process_terms.specs.Processes.{Bound}
use Rattle.bisim_laws.specs.LinearProcesses.{Summand, variables, AreDeclared, put_next}
use Rattle.bisim_laws.specs.BaseStates.{Side, FlagSays, no_flag, not_ended, has_ended}
use Rattle.bisim_laws.proofs.Firing.{contains_first}
use Rattle.lps_core.specs.Columns.{as_terms, read}
use Rattle.lps_core.specs.Conditions.{IsCondition, AreConditions, no_conditions, more_conditions}
use Rattle.lps_core.proofs.Members.{In, here, there}
use Rattle.lps_core.proofs.SortedTerms.{HaveTerms}
use Rattle.lps_core.proofs.Chains.{not_condition, conditions_append, not_holds, holds_not, guard_holds, holds_guard, all_true_append, all_true_split, first_true}
use Rattle.lps_core.proofs.Environments.{put_variables}
use Rattle.lps_core.proofs.OverVariables.{Within}
use Rattle.summand_expander.specs.Product.{flag_of, running_part, set, onward, guarded, alone, together}

-- a side's columns after a summand, by values
abbrev pub moved : List Term → List Term → Option (List Term) → List Term
moved ts fs None = ts ++ map (λ f. trueᵗ) fs
moved ts fs (Some us) = us ++ fs

-- ---- flags
-- the flag is declared, and among the variables
abbrev pub FlagKnown : List Sort → List ℕ → Option ℕ → Type 0
FlagKnown vs xs f = AreDeclared vs (flag_of f) × Within (variables (flag_of f)) xs

pub flag_condition : (g : Data) (vs : List Sort) (xs : List ℕ) (f : ℕ) → FlagKnown vs xs (Some f) → IsCondition g vs xs (variable f)
flag_condition g vs xs f k = record { over = k.1 f (number_first f []); sorted = k.0 (record { var = f; sort = boolean }) (contains_first (record { var = f; sort = boolean }) []) }

pub flag_conditions : (g : Data) (vs : List Sort) (xs : List ℕ) (f : Option ℕ) → FlagKnown vs xs f → AreConditions g vs xs (running_part f)
flag_conditions g vs xs None k = no_conditions
flag_conditions g vs xs (Some f) k = more_conditions (not_condition g vs xs (variable f) (flag_condition g vs xs f k)) no_conditions

-- the parts for the other side's flag
abbrev pub ended_part : Bool → ℕ → List Term
ended_part true g = variable g ∷ []
ended_part false g = (!ᵗ (variable g)) ∷ []

pub both_flag_conditions : (g : Data) (vs : List Sort) (xs : List ℕ) (f : Option ℕ) (k : ℕ) (b : Bool) → FlagKnown vs xs f → FlagKnown vs xs (Some k) → AreConditions g vs xs (running_part f ++ ended_part b k)
both_flag_conditions g vs xs f k true h j = conditions_append g vs xs (running_part f) (ended_part true k) (flag_conditions g vs xs f h) (more_conditions (flag_condition g vs xs k j) no_conditions)
both_flag_conditions g vs xs f k false h j = conditions_append g vs xs (running_part f) (ended_part false k) (flag_conditions g vs xs f h) (more_conditions (not_condition g vs xs (variable k) (flag_condition g vs xs k j)) no_conditions)

module _ (th : Theory) (vs : List Sort) (xs : List ℕ) (e : Environment) (has : HaveTerms th.declared vs xs (term_in e)) where
  pub says_running : (f : Option ℕ) → FlagKnown vs xs f → FlagSays th false (read e (flag_of f)) → AllTrue th (map (put (term_in e)) (running_part f))
  says_running None k h = none_left
  says_running (Some f) k (not_ended h) = true_and_more (not_holds th vs xs e has (variable f) (flag_condition th.declared vs xs f k) h) none_left

  pub running_says : (f : Option ℕ) → FlagKnown vs xs f → AllTrue th (map (put (term_in e)) (running_part f)) → FlagSays th false (read e (flag_of f))
  running_says None k h = no_flag
  running_says (Some f) k h = not_ended (holds_not th vs xs e has (variable f) (flag_condition th.declared vs xs f k) (first_true th h))

-- ---- a side's columns in an environment
put_set : (e : Environment) (xs : List Bound) → map (put (term_in e)) (set xs) ≡ map (λ f. trueᵗ) (read e xs)
put_set e [] = refl
put_set e (x ∷ xs) = ap (λ l. trueᵗ ∷ l) (put_set e xs)

pub put_onward : (e : Environment) (a : Side) (n : Option (List Term)) → map (put (term_in e)) (onward a n) ≡ moved (read e a.process.params) (read e (flag_of a.flag)) (put_next e n)
put_onward e a None = map-append (put (term_in e)) (as_terms a.process.params) (set (flag_of a.flag)) ∙ ap₂ (λ x y. x ++ y) (put_variables e a.process.params) (put_set e (flag_of a.flag))
put_onward e a (Some ts) = map-append (put (term_in e)) ts (as_terms (flag_of a.flag)) ∙ ap (λ y. map (put (term_in e)) ts ++ y) (put_variables e (flag_of a.flag))

-- whether a summand ends
abbrev pub ends : Option (List Term) → Bool
ends None = true
ends (Some ts) = false

-- the product has ended once both sides have
abbrev pub out : Bool → Bool → List Term → Option (List Term)
out true true cs = None
out true false cs = Some cs
out false b cs = Some cs

pub out_swap : (a b : Bool) (cs : List Term) → out a b cs ≡ out b a cs
out_swap true true cs = refl
out_swap true false cs = refl
out_swap false true cs = refl
out_swap false false cs = refl

-- a place for the columns of both sides that terms can be put into
abbrev pub IsPlace : (List Term → List Term → List Term) → Type 0
IsPlace place = (e : Environment) (us ts : List Term) → map (put (term_in e)) (place us ts) ≡ place (map (put (term_in e)) us) (map (put (term_in e)) ts)

-- ---- one side alone
pub alone_sums : (place : List Term → List Term → List Term) (a : Side) (others : List Term) (s : Summand) (n : Option (List Term)) (g : Option ℕ) (y : Summand) → In y (alone place a others s n g) → y.sums ≡ s.sums
alone_sums place a others s (Some ts) g y here = refl
alone_sums place a others s (Some ts) g y (there i) = elim i [ ]
alone_sums place a others s None None y here = refl
alone_sums place a others s None None y (there i) = elim i [ ]
alone_sums place a others s None (Some g) y here = refl
alone_sums place a others s None (Some g) y (there here) = refl
alone_sums place a others s None (Some g) y (there (there i)) = elim i [ ]

-- what a summand y of one side alone does, where s is the side's
pub record AloneDoes (th : Theory) (place : List Term → List Term → List Term) (a : Side) (others : List Term) (s : Summand) (e : Environment) (ended : Bool) (y : Summand) : Type 0 where
  pub sums : y.sums ≡ s.sums
  pub label : y.label ≡ s.label
  pub running : FlagSays th false (read e (flag_of a.flag))
  pub holds : IsTrue th (put (term_in e) s.condition)
  pub next : put_next e y.next ≡ out (ends s.next) ended (place (moved (read e a.process.params) (read e (flag_of a.flag)) (put_next e s.next)) (map (put (term_in e)) others))

-- the summand of one side alone that can do it
pub record AloneCan (th : Theory) (place : List Term → List Term → List Term) (a : Side) (others : List Term) (s : Summand) (e : Environment) (ended : Bool) (g : Option ℕ) : Type 0 where
  pub summand : Summand
  pub among : In summand (alone place a others s s.next g)
  pub sums : summand.sums ≡ s.sums
  pub label : summand.label ≡ s.label
  pub holds : IsTrue th (put (term_in e) summand.condition)
  pub next : put_next e summand.next ≡ out (ends s.next) ended (place (moved (read e a.process.params) (read e (flag_of a.flag)) (put_next e s.next)) (map (put (term_in e)) others))

module _ (th : Theory) (sane : IsConsistent th) (vs : List Sort) (xs : List ℕ) (e : Environment) (has : HaveTerms th.declared vs xs (term_in e)) (place : List Term → List Term → List Term) (is_place : IsPlace place) (a : Side) (own : FlagKnown vs xs a.flag) (others : List Term) (sums : List Bound) (condition : Term) (is : IsCondition th.declared vs xs condition) (label : Label) where
  abbrev with : Option (List Term) → Summand
  with n = record { sums = sums; condition = condition; label = label; next = n }

  placed : (n : Option (List Term)) → map (put (term_in e)) (place (onward a n) others) ≡ place (moved (read e a.process.params) (read e (flag_of a.flag)) (put_next e n)) (map (put (term_in e)) others)
  placed n = is_place e (onward a n) others ∙ ap (λ x. place x (map (put (term_in e)) others)) (put_onward e a n)

  opened : IsTrue th (put (term_in e) (guarded (running_part a.flag) (with None) None).condition) → FlagSays th false (read e (flag_of a.flag)) × IsTrue th (put (term_in e) condition)
  opened k =
      let r = holds_guard th vs xs e has (running_part a.flag) condition (flag_conditions th.declared vs xs a.flag own) is k in
      (running_says th vs xs e has a.flag own r.0, r.1)

  -- with a part for the other flag
  opened_twice : (g : ℕ) (b : Bool) → FlagKnown vs xs (Some g) → IsTrue th (put (term_in e) (guarded (running_part a.flag ++ ended_part b g) (with None) None).condition)
      → FlagSays th false (read e (flag_of a.flag)) × AllTrue th (map (put (term_in e)) (ended_part b g)) × IsTrue th (put (term_in e) condition)
  opened_twice g b other k =
      let r = holds_guard th vs xs e has (running_part a.flag ++ ended_part b g) condition (both_flag_conditions th.declared vs xs a.flag g b own other) is k in
      let q = all_true_split th (put (term_in e)) (running_part a.flag) (ended_part b g) r.0 in
      (running_says th vs xs e has a.flag own q.0, q.1, r.1)

  is_false : (g : ℕ) → FlagKnown vs xs (Some g) → AllTrue th (map (put (term_in e)) (ended_part false g)) → IsFalse th (term_in e g)
  is_false g other h = holds_not th vs xs e has (variable g) (flag_condition th.declared vs xs g other) (first_true th h)

  pub alone_does : (n : Option (List Term)) (g : Option ℕ) (ended : Bool) (y : Summand) → FlagKnown vs xs g → FlagSays th ended (read e (flag_of g)) → In y (alone place a others (with n) n g)
      → IsTrue th (put (term_in e) y.condition) → AloneDoes th place a others (with n) e ended y
  alone_does (Some ts) g ended y other h here k = let u = opened k in record { sums = refl; label = refl; running = u.0; holds = u.1; next = ap (λ x. Some x) (placed (Some ts)) }
  alone_does (Some ts) g ended y other h (there i) k = elim i [ ]
  alone_does None None ended y other no_flag here k = let u = opened k in record { sums = refl; label = refl; running = u.0; holds = u.1; next = ap (λ x. Some x) (placed None) }
  alone_does None None ended y other h (there i) k = elim i [ ]
  alone_does None (Some g) ended y other (not_ended h) here k = let u = opened_twice g false other k in record { sums = refl; label = refl; running = u.0; holds = u.2; next = ap (λ x. Some x) (placed None) }
  alone_does None (Some g) ended y other (has_ended h) here k = let u = opened_twice g false other k in absurd (sane (transitive (symmetric h) (is_false g other u.1)))
  alone_does None (Some g) ended y other (not_ended h) (there here) k = let u = opened_twice g true other k in absurd (sane (transitive (symmetric (first_true th u.1)) h))
  alone_does None (Some g) ended y other (has_ended h) (there here) k = let u = opened_twice g true other k in record { sums = refl; label = refl; running = u.0; holds = u.2; next = refl }
  alone_does None (Some g) ended y other h (there (there i)) k = elim i [ ]

  shut : FlagSays th false (read e (flag_of a.flag)) → IsTrue th (put (term_in e) condition) → IsTrue th (put (term_in e) (guarded (running_part a.flag) (with None) None).condition)
  shut r k = guard_holds th vs xs e has (running_part a.flag) condition (flag_conditions th.declared vs xs a.flag own) is (says_running th vs xs e has a.flag own r) k

  shut_twice : (g : ℕ) (b : Bool) → FlagKnown vs xs (Some g) → FlagSays th false (read e (flag_of a.flag)) → AllTrue th (map (put (term_in e)) (ended_part b g)) → IsTrue th (put (term_in e) condition)
      → IsTrue th (put (term_in e) (guarded (running_part a.flag ++ ended_part b g) (with None) None).condition)
  shut_twice g b other r h k =
      guard_holds th vs xs e has (running_part a.flag ++ ended_part b g) condition (both_flag_conditions th.declared vs xs a.flag g b own other) is
      (all_true_append th (put (term_in e)) (running_part a.flag) (ended_part b g) (says_running th vs xs e has a.flag own r) h) k

  pub alone_can : (n : Option (List Term)) (g : Option ℕ) (ended : Bool) → FlagKnown vs xs g → FlagSays th false (read e (flag_of a.flag)) → FlagSays th ended (read e (flag_of g))
      → IsTrue th (put (term_in e) condition) → AloneCan th place a others (with n) e ended g
  alone_can (Some ts) g ended other r h k = record { summand = _; among = here; sums = refl; label = refl; holds = shut r k; next = ap (λ x. Some x) (placed (Some ts)) }
  alone_can None None ended other r no_flag k = record { summand = _; among = here; sums = refl; label = refl; holds = shut r k; next = ap (λ x. Some x) (placed None) }
  alone_can None (Some g) ended other r (not_ended h) k = record {
    summand = _;
    among = here;
    sums = refl;
    label = refl;
    holds = shut_twice g false other r (true_and_more (not_holds th vs xs e has (variable g) (flag_condition th.declared vs xs g other) h) none_left) k;
    next = ap (λ x. Some x) (placed None);
  }
  alone_can None (Some g) ended other r (has_ended h) k = record { summand = _; among = there here; sums = refl; label = refl; holds = shut_twice g true other r (true_and_more h none_left) k; next = refl }

-- ---- a pair
pub put_together : (e : Environment) (a b : Side) (n o : Option (List Term)) → put_next e (together a b n o) ≡ out (ends n) (ends o) (moved (read e a.process.params) (read e (flag_of a.flag)) (put_next e n) ++ moved (read e b.process.params) (read e (flag_of b.flag)) (put_next e o))
put_together e a b None None = refl
put_together e a b None (Some us) = ap (λ x. Some x) (map-append (put (term_in e)) (onward a None) (onward b (Some us)) ∙ ap₂ (λ x y. x ++ y) (put_onward e a None) (put_onward e b (Some us)))
put_together e a b (Some ts) None = ap (λ x. Some x) (map-append (put (term_in e)) (onward a (Some ts)) (onward b None) ∙ ap₂ (λ x y. x ++ y) (put_onward e a (Some ts)) (put_onward e b None))
put_together e a b (Some ts) (Some us) = ap (λ x. Some x) (map-append (put (term_in e)) (onward a (Some ts)) (onward b (Some us)) ∙ ap₂ (λ x y. x ++ y) (put_onward e a (Some ts)) (put_onward e b (Some us)))
