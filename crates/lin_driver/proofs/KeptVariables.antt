-- Written summands with other variables in place of their own, and others again in place of these.
use Rattle.std.proofs.Common.{◌≡◌, ⊎_elim, ℕ, cond, List, [], ◌∷◌, map, length, refl, sym, ap, ap₂, ◌∙◌, arith, Option, Some, None}
use Rattle.std.specs.Prelude.{Contains}
use Rattle.std.proofs.lemmas.Bool.Decides.{eqb_tells}
use Rattle.std.proofs.lemmas.List.{length-map}
use Rattle.data_theory.specs.Terms.{Term, variable, put}
use Rattle.data_theory.specs.Environments.{Environment, term_in, bound, terms_of, IsOver, AreOver, AreDistinct}
use Rattle.data_theory.proofs.EnvironmentLemmas.{contains_first as number_first, contains_later as number_later}
use Rattle.process_terms.specs.Labels.{put_label}
use Rattle.process_terms.specs.Processes.{Bound}
use Rattle.bisim_laws.specs.LinearProcesses.{Summand, variables, sorts, reading, LabelIsOver, put_next}
use Rattle.bisim_laws.proofs.Firing.{contains_none, head_same, tail_same, bound_reads}
use Rattle.lps_core.specs.Moving.{Through, renaming_to}
use Rattle.lps_core.proofs.Environments.{put_through, puts_through, label_through, later_in, unrenamed_stay}
use Rattle.greibach.specs.LinearShapes.{WrittenSummand, with_sums}
use Rattle.lin_driver.specs.KeptTexts.{condition_in, KeepsSummand}
use Rattle.lin_driver.specs.NeededParts.{tidied, tidied_summand}
use Rattle.lin_driver.proofs.KeptConditions.{AreVariables, tidied_put}

-- ---- the scope of a written summand
-- its sums in front of the parameters, the innermost first
abbrev pub scope_under : List Bound → List ℕ → List ℕ
scope_under [] ps = ps
scope_under (x ∷ xs) ps = scope_under xs (x.var ∷ ps)

abbrev pub ConditionIsOver : List ℕ → Option Term → Type 0
ConditionIsOver xs None = Unit {0}
ConditionIsOver xs (Some c) = IsOver xs c

abbrev pub CallIsOver : List ℕ → Option (List Term) → Type 0
CallIsOver xs None = Unit {0}
CallIsOver xs (Some ts) = AreOver xs (terms_of ts)

pub record IsInScope (ps : List ℕ) (s : WrittenSummand) : Type 0 where
  pub condition : ConditionIsOver (scope_under s.sums ps) s.condition
  pub label : LabelIsOver (scope_under s.sums ps) s.label
  pub next : CallIsOver (scope_under s.sums ps) s.next

-- ---- one environment after another
bound_through : (x y z : ℕ) (ps : List ℕ) (r d e : Environment) → term_in d y ≡ variable z → Through ps r d e → Through (x ∷ ps) (record { var = x; term = variable y } ∷ r) d (record { var = x; term = variable z } ∷ e)
bound_through x y z ps r d e at h v i = ⊎_elim
    (λ k. ap (λ c. put (term_in d) (cond c (variable y) (term_in r v))) k.0 ∙ at ∙ ap (λ c. cond c (variable z) (term_in e v)) (sym k.0))
    (λ k. ap (λ c. put (term_in d) (cond c (variable y) (term_in r v))) k.0 ∙ h v (later_in x v ps k.1 i) ∙ ap (λ c. cond c (variable z) (term_in e v)) (sym k.0))
    (eqb_tells x v)

-- parameters place by place
pub parameters_through : (d : Environment) (ps qs rs : List ℕ) → length qs ≡ length ps → reading d qs ≡ map variable rs → Through ps (bound ps (map variable qs)) d (bound ps (map variable rs))
parameters_through d [] qs rs l h v i = absurd (contains_none v i)
parameters_through d (p ∷ ps) [] rs l h v i = absurd (omega (arith, l))
parameters_through d (p ∷ ps) (q ∷ qs) [] l h v i = absurd (let n : length (reading d (q ∷ qs)) ≡ 0 = ap length h in omega (arith, n))
parameters_through d (p ∷ ps) (q ∷ qs) (r ∷ rs) l h v i =
    bound_through p q r ps (bound ps (map variable qs)) d (bound ps (map variable rs)) (head_same h) (parameters_through d ps qs rs (omega (arith, l)) (tail_same h)) v i

-- and then the sums
pub sums_through : (d : Environment) (xs ys zs : List Bound) (ps : List ℕ) (r e : Environment) → length ys ≡ length xs → reading d (variables ys) ≡ map variable (variables zs) → Through ps r d e → Through (scope_under xs ps) (with_sums r xs ys) d (with_sums e xs zs)
sums_through d [] ys zs ps r e l h t = t
sums_through d (x ∷ xs) [] zs ps r e l h t = absurd (omega (arith, l))
sums_through d (x ∷ xs) (y ∷ ys) [] ps r e l h t = absurd (let n : length (reading d (variables (y ∷ ys))) ≡ 0 = ap length h in omega (arith, n))
sums_through d (x ∷ xs) (y ∷ ys) (z ∷ zs) ps r e l h t =
    sums_through d xs ys zs (x.var ∷ ps) (record { var = x.var; term = variable y.var } ∷ r) (record { var = x.var; term = variable z.var } ∷ e) (omega (arith, l)) (tail_same h)
    (bound_through x.var y.var z.var ps r d e (head_same h) t)

-- ---- what a renaming reads
-- its own variables become the others
pub renamed_read : (xs ys : List ℕ) → length ys ≡ length xs → AreDistinct xs → reading (renaming_to xs ys) xs ≡ map variable ys
renamed_read xs ys l d = bound_reads xs (map variable ys) (length-map ys variable ∙ l) d

-- and those apart from them stay
pub apart_read : (xs ys vs : List ℕ) → length ys ≡ length xs → ((v : ℕ) → Contains vs v → Contains xs v → ⊥) → reading (renaming_to xs ys) vs ≡ map variable vs
apart_read xs ys [] l n = refl
apart_read xs ys (v ∷ vs) l n =
    ap₂ (λ t ts. t ∷ ts) (unrenamed_stay xs ys v l (λ i. n v (number_first v vs) i)) (apart_read xs ys vs l (λ w i j. n w (number_later v w vs i) j))

-- ---- a summand that is kept, with other variables again
next_moved : (xs : List ℕ) (r d e : Environment) → Through xs r d e → (n : Option (List Term)) → CallIsOver xs n → put_next d (put_next r n) ≡ put_next e n
next_moved xs r d e t None h = refl
next_moved xs r d e t (Some ts) h = ap Some (puts_through xs r d e t ts h)

condition_moved : (xs : List ℕ) (r d e : Environment) → AreVariables (term_in d) → Through xs r d e → (c : Option Term) → ConditionIsOver xs c → put (term_in d) (condition_in r c) ≡ condition_in e c
condition_moved xs r d e are t None h = refl
condition_moved xs r d e are t (Some c) h = sym (tidied_put (term_in d) are (put (term_in r) c)) ∙ ap tidied (put_through xs r d e t c h)

pub summand_moved : (ps : List ℕ) (a b d : Environment) (s : WrittenSummand) (k t : Summand) → IsInScope ps s → AreVariables (term_in d) → sorts t.sums ≡ sorts k.sums → Through (scope_under s.sums ps) (with_sums a s.sums k.sums) d (with_sums b s.sums t.sums)
    → tidied t.condition ≡ tidied (put (term_in d) k.condition) → t.label ≡ put_label d k.label → t.next ≡ put_next d k.next → KeepsSummand a s (tidied_summand k) → KeepsSummand b s (tidied_summand t)
summand_moved ps a b d s k t scope are same w condition label next kept =
    let xs = scope_under s.sums ps in
    let r = with_sums a s.sums k.sums in
    let e = with_sums b s.sums t.sums in
    record {
      same_sorts = same ∙ kept.same_sorts;
      condition = condition ∙ tidied_put (term_in d) are k.condition ∙ ap (put (term_in d)) kept.condition ∙ condition_moved xs r d e are w s.condition scope.condition;
      label = label ∙ ap (put_label d) kept.label ∙ label_through xs r d e w s.label scope.label;
      next = next ∙ ap (put_next d) kept.next ∙ next_moved xs r d e w s.next scope.next;
    }
