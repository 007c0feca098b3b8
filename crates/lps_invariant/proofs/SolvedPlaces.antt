-- A place that is solved says the same in every closed instance in which its hypotheses hold.
use Rattle.std.proofs.Common.{◌≡◌, ℕ, List, [], ◌∷◌, sym, subst, cond, ⊎_elim}
use Rattle.std.specs.Prelude.{Contains}
use Rattle.std.specs.List.{AllByRecursion}
use Rattle.std.proofs.lemmas.Bool.Decides.{eqb_tells}
use Rattle.data_theory.specs.Terms.{Sort, boolean, Term, conjunction, put}
use Rattle.data_theory.specs.Declarations.{HasSort}
use Rattle.data_theory.specs.Equations.{trueᵗ, falseᵗ, ◌∧ᵗ◌, and_true, and_false}
use Rattle.data_theory.specs.Provable.{reflexive, symmetric, transitive, reflected, congruent, built_in, place, no_places}
use Rattle.data_theory.specs.Environments.{Binding, term_in}
use Rattle.data_theory.specs.Rewriting.{Closes}
use Rattle.data_theory.proofs.BooleanLemmas.{true_has_sort, false_has_sort, and_has_sort}
use Rattle.data_theory.proofs.EqualityLemmas.{put_equal}
use Rattle.data_theory.proofs.EnvironmentLemmas.{putting_in_twice}
use Rattle.process_terms.specs.Theories.{Theory, Equal, IsTrue}
use Rattle.bisim_laws.proofs.Firing.{contains_none, contains_first, contains_later, contains_cases}
use Rattle.lps_sumelm.specs.Solutions.{Gives, on_the_left, on_the_right, NoneGives}
use Rattle.lps_invariant.specs.PlacesInCode.{IsPlaceStep}
use Rattle.lps_sumelm.proofs.SolvableParts.{first_is_found, taken_apart}
use Rattle.lps_invariant.specs.Places.{Place, put_each, IsSolvedPlace, nothing_to_solve, one_solved, IsContradictory, IsShown}

-- ---- what holds of all
all_of : (P : Term → Type 0) (ts : List Term) → AllByRecursion P ts → (t : Term) → Contains ts t → P t
all_of P [] h t i = absurd (contains_none t i)
all_of P (u ∷ ts) h t i = ⊎_elim (λ q. subst P q h.0) (λ j. all_of P ts h.1 t j) (contains_cases u t ts i)

each_all : (P : Term → Type 0) (ts : List Term) → ((t : Term) → Contains ts t → P t) → AllByRecursion P ts
each_all P [] h = tt
each_all P (t ∷ ts) h = (h t (contains_first t ts), each_all P ts (λ u i. h u (contains_later t u ts i)))

-- ---- data that prove `true` equal to `false` prove everything
pub all_is_true : (th : Theory) → Equal th trueᵗ falseᵗ → (t : Term) → HasSort th.declared [] t boolean → IsTrue th t
all_is_true th e t h =
    let with_true : Equal th (t ∧ᵗ trueᵗ) t = built_in boolean and_true (and_has_sort th.declared t trueᵗ h (true_has_sort th.declared)) reflexive in
    let with_false : Equal th (t ∧ᵗ falseᵗ) falseᵗ = built_in boolean and_false (and_has_sort th.declared t falseᵗ h (false_has_sort th.declared)) reflexive in
    let same : Equal th (t ∧ᵗ trueᵗ) (t ∧ᵗ falseᵗ) = congruent conjunction (place reflexive (place e no_places)) in
    transitive (symmetric with_true) (transitive same (transitive with_false (symmetric e)))

module _ (th : Theory) (vs : List Sort) (e : ℕ → Term) where
  abbrev pub Holds : Term → Type 0
  Holds t = IsTrue th (put e t)

  abbrev pub AllHold : List Term → Type 0
  AllHold ts = AllByRecursion Holds ts

  -- ---- one step
  given_equal : {p : Term} {v : ℕ} {t : Term} → Gives p v t → Holds p → Equal th (put e t) (e v)
  given_equal on_the_left h = symmetric (reflected h)
  given_equal on_the_right h = reflected h

  put_first : (b : Binding) → Equal th (put e b.term) (e b.var) → (x : ℕ) → Equal th (put e (term_in (b ∷ []) x)) (e x)
  put_first b h x = ⊎_elim
      (λ k. subst (λ c. Equal th (put e (cond c b.term (term_in [] x))) (e x)) (sym k.0) (subst (λ z. Equal th (put e b.term) (e z)) k.1 h))
      (λ k. subst (λ c. Equal th (put e (cond c b.term (term_in [] x))) (e x)) (sym k.0) reflexive)
      (eqb_tells b.var x)

  put_in_same : (b : Binding) → Equal th (put e b.term) (e b.var) → (t : Term) → Equal th (put e (put (term_in (b ∷ [])) t)) (put e t)
  put_in_same b h t =
      subst (λ z. Equal th z (put e t)) (sym (putting_in_twice (term_in (b ∷ [])) e t)) (put_equal th.declared th.equations (λ x. put e (term_in (b ∷ []) x)) e (put_first b h) t)

  put_each_holds : (b : Binding) → Equal th (put e b.term) (e b.var) → (ts : List Term) → AllHold ts → AllHold (put_each b ts)
  put_each_holds b h [] k = tt
  put_each_holds b h (t ∷ ts) k = (transitive (put_in_same b h t) k.0, put_each_holds b h ts k.1)

  put_each_held : (b : Binding) → Equal th (put e b.term) (e b.var) → (ts : List Term) → AllHold (put_each b ts) → AllHold ts
  put_each_held b h [] k = tt
  put_each_held b h (t ∷ ts) k = (transitive (symmetric (put_in_same b h t)) k.0, put_each_held b h ts k.1)

  -- ---- all steps
  pub record SaysTheSame (p q : Place) : Type 0 where
    pub hypotheses : AllHold q.hypotheses
    pub goals : AllHold q.goals → AllHold p.goals

  pub solved_same : (xs : List ℕ) {p q : Place} → IsSolvedPlace xs p q → AllHold p.hypotheses → SaysTheSame p q
  solved_same xs (nothing_to_solve n) h = record { hypotheses = h; goals = λ k. k }
  solved_same xs (one_solved {p = p} {b = b} {rest = rest} f s) h =
      let k = first_is_found f in
      let w = taken_apart Holds k.taken h in
      let same = given_equal k.solvable.gives w.0 in
      let r = solved_same xs s (put_each_holds b same rest w.1) in
      record { hypotheses = r.hypotheses; goals = λ g. put_each_held b same p.goals (r.goals g) }

  -- ---- what decisions tell of a closed instance
  pub shown_holds : Closes th.declared vs e → (p : Place) → IsShown th vs p → AllHold p.hypotheses → AllHold p.goals
  shown_holds c p s h = each_all Holds p.goals (λ t i. ⊎_elim (λ j. all_of Holds p.hypotheses h t j) (λ k. k e c) (s t i))

  pub contradiction : Closes th.declared vs e → (p : Place) → IsContradictory th vs p → AllHold p.hypotheses → Equal th trueᵗ falseᵗ
  contradiction c p k h = transitive (symmetric (all_of Holds p.hypotheses h k.hypothesis k.among)) (k.never e c)

-- ---- step by step
-- whatever the place at hand is solved to, the one at the start is
abbrev pub IsOnTheWay : List ℕ → Place → Place → Type 0
IsOnTheWay xs p now = (q : Place) → IsSolvedPlace xs now q → IsSolvedPlace xs p q

pub way_goes_on : (xs : List ℕ) (p now next : Place) → IsOnTheWay xs p now → IsPlaceStep xs now next → IsOnTheWay xs p next
way_goes_on xs p now next w s q h = w q (one_solved s.first (subst (λ z. IsSolvedPlace xs z q) s.is h))

pub way_ends : (xs : List ℕ) (p now : Place) → IsOnTheWay xs p now → NoneGives xs now.hypotheses → IsSolvedPlace xs p now
way_ends xs p now w n = w now (nothing_to_solve n)

-- the same variables and the same place
pub solved_as : {xs ys : List ℕ} {p q r : Place} → xs ≡ ys → p ≡ q → IsSolvedPlace xs p r → IsSolvedPlace ys q r
solved_as {xs} {ys} {p} {q} {r} a b h = subst (λ zs. IsSolvedPlace zs q r) a (subst (λ z. IsSolvedPlace xs z r) b h)
