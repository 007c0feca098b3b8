-- Laws of options.
use Rattle.std.proofs.Common.{◌≡◌, ◌+◌, ℕ, zero, suc, Bool, true, false, not, List, [], ◌∷◌, ◌++◌, map, refl, sym, ap, ap₂, ◌∙◌, subst, arith, ⊎_elim, ◌||◌, Option, Some, None}
use Rattle.std.specs.Prelude.{◌↔◌, Contains, slice_get, IsTrue}
use Rattle.std.specs.List.{All, AllZip, list_any}
use Rattle.std.proofs.lemmas.List.Elements.{All-head, All-tail, All-contains}
use Rattle.data_theory.specs.declared.ids.VarId.{VarId}
use Rattle.data_theory.specs.declared.ids.TermId.{TermId}
use Rattle.data_theory.specs.Terms.{Sort, boolean, Term, put}
use Rattle.data_theory.specs.Declarations.{HasSort, HaveSorts}
use Rattle.data_theory.specs.Environments.{term_in, terms_of}
use Rattle.data_theory.specs.Equations.{trueᵗ, falseᵗ}
use Rattle.data_theory.specs.Provable.{Equation}
use Rattle.data_theory.specs.Rewriting.{IsDecided}
use Rattle.data_theory.specs.Signature.{Sig}
use Rattle.data_theory.specs.WholeSignatures.{IsSignature}
use Rattle.data_theory.specs.IdData.{data_meant}
use Rattle.data_theory.specs.IdTrees.{Tree}
use Rattle.data_theory.specs.IdTerms.{sort_under, variable_sorts}
use Rattle.data_theory.proofs.IdDataLemmas.{meant_data_are_data}
use Rattle.term_pool.specs.ConstructorValues.{ConstructorValue}
use Rattle.value_enum.specs.Values.{AreWhole}
use Rattle.value_enum.proofs.OneList.{first_values_once}
use Rattle.value_enum.proofs.ClosedValues.{values_are_closed}
use Rattle.data_rewriter.specs.Simplifying.{AreLater, AreWellFormed}
use Rattle.process_terms.specs.Theories.{Theory, IsFalse}
use Rattle.process_terms.specs.Labels.{Label, put_label}
use Rattle.process_terms.specs.Meanings.{bound_at}
use Rattle.process_terms.specs.SignatureEntries.{entries_of}
use Rattle.bisim_laws.specs.LinearProcesses.{Linear, Summand, sorts, put_next, Fires}
use Rattle.bisim_laws.proofs.Firing.{fire}
use Rattle.lps_core.specs.Fitting.{IsVariable, sort_of_variable, SummandFits, Fits}
use Rattle.lps_core.specs.PlainLinears.{PlainSummand, PlainLinear, summand_of, linear_of}
use Rattle.lps_core.proofs.Members.{In, here, there, in_contains, contains_in, in_append, append_front, append_back, in_map, map_in, in_each, map_contains}
use Rattle.lps_core.proofs.Staying.{sorts_of_variables}
use Rattle.lps_simulator.specs.declared.options.Open.{Open}
use Rattle.lps_simulator.specs.Combinations.{combinations}
use Rattle.lps_simulator.specs.SumValues.{value_term, Listed, AreListedFor, terms_of_each, is_cut}
use Rattle.lps_simulator.specs.Options.{Answer, it_does, it_does_nothing, it_is_open, IsAnswer, open_decision, Tried, IsTried, TermMove, environment_at, moves_of, first_open, open_with, cut_with, moves_from, opens_from, cuts_from}
use Rattle.lps_simulator.specs.OptionsInCode.{PlainMove, PlainOptions, IsState, meant_move, terms_at, IsTriedAt, AreOptions}
use Rattle.lps_simulator.specs.OptionLaws.{HasOptions, IsStepOf, MovesAreSteps, environment_for, IsMoveFor, NothingIsMissed, CutSummandsAreTold, HasCause, UndecidedSummandsHaveCauses}
use Rattle.lps_simulator.proofs.RewrittenClosed.{goes_equal, label_agrees, next_equal}
use Rattle.lps_simulator.proofs.ClosedInstances.{IsInstance, is_instance}
use Rattle.lps_simulator.proofs.FittingSummands.{fitting_shape, fitting_sorted, fitting_declared}

-- ---- lists side by side
module _ {A B : Type 0} (R : A → B → Type 0) where
  zip_at : (xs : List A) (ys : List B) (i : ℕ) (x : A) → AllZip R xs ys → slice_get xs i ≡ Some x → (y : B) × (slice_get ys i ≡ Some y) × R x y
  zip_at [] ys i x h e = absurd (none_there e)
    where
      none_there : None ≡ Some x → ⊥
      none_there q = cc
  zip_at (a ∷ xs) [] i x h e = absurd h
  zip_at (a ∷ xs) (b ∷ ys) zero x h e = (b, refl, let q : a ≡ x = cc in subst (λ z. R z b) q h.0)
  zip_at (a ∷ xs) (b ∷ ys) (suc i) x h e = zip_at xs ys i x h.1 e

  zip_back : (xs : List A) (ys : List B) (i : ℕ) (y : B) → AllZip R xs ys → slice_get ys i ≡ Some y → (x : A) × (slice_get xs i ≡ Some x) × R x y
  zip_back [] [] i y h e = absurd (none_there e)
    where
      none_there : None ≡ Some y → ⊥
      none_there q = cc
  zip_back [] (b ∷ ys) i y h e = absurd h
  zip_back (a ∷ xs) [] i y h e = absurd h
  zip_back (a ∷ xs) (b ∷ ys) zero y h e = (a, refl, let q : b ≡ y = cc in subst (λ z. R a z) q h.0)
  zip_back (a ∷ xs) (b ∷ ys) (suc i) y h e = zip_back xs ys i y h.1 e

  zip_in : (xs : List A) (ys : List B) {x : A} → AllZip R xs ys → In x xs → (y : B) × In y ys × R x y
  zip_in (a ∷ xs) [] h i = absurd h
  zip_in (a ∷ xs) (b ∷ ys) h here = (b, here, h.0)
  zip_in (a ∷ xs) (b ∷ ys) h (there i) = let r = zip_in xs ys h.1 i in (r.0, there r.1, r.2)
  zip_in [] ys h i = elim i [ ]

  zip_in_back : (xs : List A) (ys : List B) {y : B} → AllZip R xs ys → In y ys → (x : A) × In x xs × R x y
  zip_in_back [] (b ∷ ys) h i = absurd h
  zip_in_back (a ∷ xs) (b ∷ ys) h here = (a, here, h.0)
  zip_in_back (a ∷ xs) (b ∷ ys) h (there i) = let r = zip_in_back xs ys h.1 i in (r.0, there r.1, r.2)
  zip_in_back [] [] h i = elim i [ ]
  zip_in_back (a ∷ xs) [] h i = absurd h

at_is_in : {A : Type 0} (xs : List A) (i : ℕ) (x : A) → slice_get xs i ≡ Some x → In x xs
at_is_in {A} [] i x e = absurd (none_there e)
  where
    none_there : {x : A} → None ≡ Some x → ⊥
    none_there q = cc
at_is_in (y ∷ xs) zero x e = let q : y ≡ x = cc in subst (λ z. In z (y ∷ xs)) q here
at_is_in (y ∷ xs) (suc i) x e = there (at_is_in xs i x e)

-- ---- what stands among the moves, the undecided and the cut
move_among : (k : ℕ) (olds : List Answer) {m : TermMove} → In m (moves_of k olds) → (label : Label) × ((next : Option (List Term)) × (In (it_does label next) olds × (m ≡ record { summand = k; label = label; next = next })))
move_among k [] i = elim i [ ]
move_among k (it_does label next ∷ olds) here = (label, (next, (here, refl)))
move_among k (it_does label next ∷ olds) (there i) = let r = move_among k olds i in (r.0, (r.1.0, (there r.1.1.0, r.1.1.1)))
move_among k (it_does_nothing ∷ olds) i = let r = move_among k olds i in (r.0, (r.1.0, (there r.1.1.0, r.1.1.1)))
move_among k (it_is_open b ∷ olds) i = let r = move_among k olds i in (r.0, (r.1.0, (there r.1.1.0, r.1.1.1)))

among_moves : (k : ℕ) (olds : List Answer) (label : Label) (next : Option (List Term)) → In (it_does label next) olds → In (record { summand = k; label = label; next = next }) (moves_of k olds)
among_moves k (it_does l n ∷ olds) _ _ here = here
among_moves k (it_does l n ∷ olds) label next (there i) = there (among_moves k olds label next i)
among_moves k (it_does_nothing ∷ olds) label next (there i) = among_moves k olds label next i
among_moves k (it_is_open b ∷ olds) label next (there i) = among_moves k olds label next i
among_moves k [] label next i = elim i [ ]

open_among : (k : ℕ) (olds : List Answer) {o : Open} → In o (open_with k (first_open olds)) → In (it_is_open o.spent) olds × (o.summand ≡ k)
open_among k [] i = elim i [ ]
open_among k (it_does label next ∷ olds) i = let r = open_among k olds i in (there r.0, r.1)
open_among k (it_does_nothing ∷ olds) i = let r = open_among k olds i in (there r.0, r.1)
open_among k (it_is_open b ∷ olds) here = (here, refl)
open_among k (it_is_open b ∷ olds) (there i) = elim i [ ]

among_open : (k : ℕ) (olds : List Answer) (b : Bool) → In (it_is_open b) olds → (o : Open) × (In o (open_with k (first_open olds)) × (o.summand ≡ k))
among_open k [] b i = elim i [ ]
among_open k (it_does label next ∷ olds) b (there i) = among_open k olds b i
among_open k (it_does_nothing ∷ olds) b (there i) = among_open k olds b i
among_open k (it_is_open c ∷ olds) b i = (record { summand = k; spent = c }, (here, refl))

cut_among : (k : ℕ) (b : Bool) {n : ℕ} → In n (cut_with k b) → (b ≡ true) × (n ≡ k)
cut_among k true here = (refl, refl)
cut_among k true (there i) = elim i [ ]
cut_among k false i = elim i [ ]

among_cut : (k : ℕ) (b : Bool) → b ≡ true → In k (cut_with k b)
among_cut k true e = here
among_cut k false e = let never : ⊥ = cc in absurd never

-- of all summands, by their places
module _ {A : Type 0} (of_one : ℕ → Tried → List A) where
  abbrev from : ℕ → List Tried → List A
  from k [] = []
  from k (t ∷ ts) = of_one k t ++ from (suc k) ts

  at_place : (k : ℕ) (ts : List Tried) {x : A} → In x (from k ts) → (i : ℕ) × ((t : Tried) × ((slice_get ts i ≡ Some t) × In x (of_one (k + i) t)))
  at_place k [] i = elim i [ ]
  at_place k (t ∷ ts) {x} i = ⊎_elim
      (λ j. (0, (t, (refl, subst (λ n. In x (of_one n t)) (let e : k ≡ k + 0 = omega arith in e) j))))
      (λ j. let r = at_place (suc k) ts j in (suc r.0, (r.1.0, (r.1.1.0, subst (λ n. In x (of_one n r.1.0)) (let e : suc k + r.0 ≡ k + suc r.0 = omega arith in e) r.1.1.1))))
      (in_append (of_one k t) (from (suc k) ts) i)

  from_place : (k : ℕ) (ts : List Tried) (i : ℕ) (t : Tried) {x : A} → slice_get ts i ≡ Some t → In x (of_one (k + i) t) → In x (from k ts)
  from_place k [] i t e j = absurd (none_there e)
    where
      none_there : None ≡ Some t → ⊥
      none_there q = cc
  from_place k (u ∷ ts) zero t {x} e j =
      let q : u ≡ t = cc in
      append_front (of_one k u) (from (suc k) ts) (subst (λ z. In x (of_one k z)) (sym q) (subst (λ n. In x (of_one n t)) (let e : k + 0 ≡ k = omega arith in e) j))
  from_place k (u ∷ ts) (suc i) t {x} e j = append_back (of_one k u) (from_place (suc k) ts i t e (subst (λ n. In x (of_one n t)) (let e : k + suc i ≡ suc k + i = omega arith in e) j))

abbrev moves_one : ℕ → Tried → List TermMove
moves_one k t = moves_of k t.answers

abbrev opens_one : ℕ → Tried → List Open
opens_one k t = open_with k (first_open t.answers)

abbrev cuts_one : ℕ → Tried → List ℕ
cuts_one k t = cut_with k t.cut

moves_are : (k : ℕ) (ts : List Tried) → moves_from k ts ≡ from moves_one k ts
moves_are k [] = refl
moves_are k (t ∷ ts) = ap (λ z. moves_of k t.answers ++ z) (moves_are (suc k) ts)

opens_are : (k : ℕ) (ts : List Tried) → opens_from k ts ≡ from opens_one k ts
opens_are k [] = refl
opens_are k (t ∷ ts) = ap (λ z. open_with k (first_open t.answers) ++ z) (opens_are (suc k) ts)

cuts_are : (k : ℕ) (ts : List Tried) → cuts_from k ts ≡ from cuts_one k ts
cuts_are k [] = refl
cuts_are k (t ∷ ts) = ap (λ z. cut_with k t.cut ++ z) (cuts_are (suc k) ts)

-- ---- listed values
module _ (g : Sig) (stands : IsSignature g) (bound : ℕ) where
  listed_sorted : (xs : List VarId) (listed : List Listed) (c : List Term) → AllZip (AreListedFor g bound) xs listed → In c (combinations (terms_of_each listed)) → HaveSorts (data_meant g) [] (terms_of c) (map (sort_under g) (map (sort_of_variable g) xs))
  listed_sorted [] [] c h here = tt
  listed_sorted [] [] c h (there i) = elim i [ ]
  listed_sorted [] (l ∷ listed) c h i = absurd h
  listed_sorted (x ∷ xs) [] c h i = absurd h
  listed_sorted (x ∷ xs) (l ∷ listed) c h i =
      let first = in_each (λ t. map (λ (d : List Term). t ∷ d) (combinations (terms_of_each listed))) l.terms i in
      let rest = in_map (λ (d : List Term). first.0 ∷ d) (combinations (terms_of_each listed)) first.2 in
      let value = in_map (value_term g) h.0.values (subst (λ (z : List Term). In first.0 z) h.0.terms first.1) in
      let closed = values_are_closed g stands (sort_of_variable g x) value.0 (h.0.first.values value.0 (in_contains value.1)) in
      subst (λ (z : List Term). HaveSorts (data_meant g) [] (terms_of z) (map (sort_under g) (map (sort_of_variable g) (x ∷ xs)))) (sym rest.2) (
        subst (λ (t : Term). HasSort (data_meant g) [] t (sort_under g (sort_of_variable g x))) (sym value.2) closed.closed,
        listed_sorted xs listed rest.0 h.1 rest.1,
      )

  same_values : (x : VarId) (a b : Listed) (h : AreListedFor g bound x a) (k : AreListedFor g bound x b) → h.values ≡ k.values
  same_values x a b h k = first_values_once g (sort_of_variable g x) bound h.values k.values h.first k.first

  same_terms : (xs : List VarId) (olds bs : List Listed) → AllZip (AreListedFor g bound) xs olds → AllZip (AreListedFor g bound) xs bs → terms_of_each olds ≡ terms_of_each bs
  same_terms [] [] [] h k = refl
  same_terms [] [] (b ∷ bs) h k = absurd k
  same_terms [] (a ∷ olds) bs h k = absurd h
  same_terms (x ∷ xs) [] bs h k = absurd h
  same_terms (x ∷ xs) (a ∷ olds) [] h k = absurd k
  same_terms (x ∷ xs) (a ∷ olds) (b ∷ bs) h k = ap₂ (λ (t : List Term) ts. t ∷ ts) (h.0.terms ∙ ap (map (value_term g)) (same_values x a b h.0 k.0) ∙ sym k.0.terms) (same_terms xs olds bs h.1 k.1)

  same_bool : (a b : Bool) → (IsTrue a → IsTrue b) → (IsTrue b → IsTrue a) → a ≡ b
  same_bool true true f h = refl
  same_bool false false f h = refl
  same_bool true false f h = sym (f refl)
  same_bool false true f h = h refl

  same_whole : (x : VarId) (a b : Listed) → AreListedFor g bound x a → AreListedFor g bound x b → a.whole ≡ b.whole
  same_whole x a b h k = same_bool a.whole b.whole
      (λ t. k.whole.1 (subst (AreWhole g (sort_of_variable g x)) (same_values x a b h k) (h.whole.0 t)))
      (λ t. h.whole.1 (subst (AreWhole g (sort_of_variable g x)) (sym (same_values x a b h k)) (k.whole.0 t)))

  same_cut : (xs : List VarId) (olds bs : List Listed) → AllZip (AreListedFor g bound) xs olds → AllZip (AreListedFor g bound) xs bs → is_cut olds ≡ is_cut bs
  same_cut [] [] [] h k = refl
  same_cut [] [] (b ∷ bs) h k = absurd k
  same_cut [] (a ∷ olds) bs h k = absurd h
  same_cut (x ∷ xs) [] bs h k = absurd h
  same_cut (x ∷ xs) (a ∷ olds) [] h k = absurd k
  same_cut (x ∷ xs) (a ∷ olds) (b ∷ bs) h k = ap₂ (λ c d. not c || d) (same_whole x a b h.0 k.0) (same_cut xs olds bs h.1 k.1)

-- ---- the laws
module _ (g : Sig) (own : List Equation) (fuel bound : ℕ) (ts us : List Tree) (l : PlainLinear) (state : List TermId) (found : PlainOptions) (has : HasOptions g own fuel bound ts us l state found) where
  abbrev Lin : Linear
  Lin = linear_of (entries_of g ts) l

  abbrev terms : List Term
  terms = terms_at g ts state

  instance_of : (s : PlainSummand) → Contains l.summands s → (listed : List Listed) (c : List Term) → AllZip (AreListedFor g bound) s.sums listed → In c (combinations (terms_of_each listed)) → IsInstance (data_meant g) Lin (summand_of (entries_of g ts) s) terms c
  instance_of s among listed c values i =
      let fit = All-contains (SummandFits g ts l.params) l.summands s has.fits.summands among in
      is_instance (data_meant g) (variable_sorts g) Lin (summand_of (entries_of g ts) s) terms c (fitting_shape g has.signature ts l s has.fits among) (fitting_sorted g has.signature ts l s has.fits among) (fitting_declared g has.signature ts l has.fits)
      has.fits.linear.distinct has.stands.closed
      (subst (λ ss. HaveSorts (data_meant g) [] (terms_of c) ss) (sym (sorts_of_variables g ts s.sums fit.sums)) (listed_sorted g has.signature bound s.sums listed c values i))

  step_of : (th : Theory) → AreLater g own th.declared th.equations → (s : PlainSummand) → Contains l.summands s → (listed : List Listed) (c : List Term) → AllZip (AreListedFor g bound) s.sums listed → In c (combinations (terms_of_each listed))
      → (k : ℕ) (label : Label) (next : Option (List Term)) → IsAnswer (data_meant g) own fuel (summand_of (entries_of g ts) s) (environment_for g ts l state s c) (it_does label next) → IsStepOf th Lin terms (record { summand = k; label = label; next = next })
  step_of th later s among listed c values i k label next a =
      let S = summand_of (entries_of g ts) s in
      let e = environment_for g ts l state s c in
      let instance = instance_of s among listed c values i in
      let formed = meant_data_are_data g has.signature.table has.signature.roles in
      let fires : Fires th Lin terms (put_label e S.label) (put_next e S.next) = record {
        summand = S;
        among = map_contains (summand_of (entries_of g ts)) l.summands s among;
        environment = e;
        reads = instance.reads;
        bound = instance.bound th later.grows;
        does = record { holds = goes_equal (data_meant g) own formed has.fine fuel th later.grows later.is_data later.among (put (term_in e) S.condition) trueᵗ boolean a.0.0 instance.condition a.0.1; label = refl; onward = refl };
      } in
      record {
        label = put_label e S.label;
        next = put_next e S.next;
        step = fire th Lin terms (put_label e S.label) (put_next e S.next) has.fits.linear fires;
        agrees = label_agrees (data_meant g) own formed has.fine fuel th later.grows later.is_data later.among (put_label e S.label) label instance.label a.1;
        equal = next_equal (data_meant g) own formed has.fine fuel th later.grows later.is_data later.among (sorts Lin.params) instance.next a.2;
      }

  steps : (m : PlainMove) → Contains found.moves m → (th : Theory) → AreLater g own th.declared th.equations → IsStepOf th Lin terms (meant_move g us m)
  steps m among th later =
      let options = has.options in
      let i = contains_in (map (meant_move g us) found.moves) (map_contains (meant_move g us) found.moves m among) in
      let place = at_place moves_one 1 options.tried (subst (λ z. In (meant_move g us m) z) (options.moves ∙ moves_are 1 options.tried) i) in
      let summand = zip_back (IsTriedAt g own fuel bound ts l state) l.summands options.tried place.0 place.1.0 options.each place.1.1.0 in
      let answer = move_among (1 + place.0) place.1.0.answers place.1.1.1 in
      let tried = summand.2 in
      let combination = zip_in_back (λ (c : List Term). IsAnswer (data_meant g) own fuel (summand_of (entries_of g ts) summand.0) (environment_for g ts l state summand.0 c)) (combinations (terms_of_each tried.listed)) place.1.0.answers tried.answers answer.1.1.0 in
      subst (IsStepOf th Lin terms) (sym answer.1.1.1)
      (step_of th later summand.0 (in_contains (at_is_in l.summands place.0 summand.0 summand.1)) tried.listed combination.0 tried.values combination.1 (1 + place.0) answer.0 answer.1.0 combination.2)

  missed : (i : ℕ) (s : PlainSummand) → slice_get l.summands i ≡ Some s → ((o : Open) → Contains found.undecided o → o.summand ≡ suc i → ⊥)
      → (listed : List Listed) → AllZip (AreListedFor g bound) s.sums listed → (c : List Term) → Contains (combinations (terms_of_each listed)) c
      → (th : Theory) → AreLater g own th.declared th.equations → (IsFalse th (put (term_in (environment_for g ts l state s c)) (summand_of (entries_of g ts) s).condition) → ⊥)
      → (m : TermMove) × (Contains (map (meant_move g us) found.moves) m × IsMoveFor g own fuel ts l state (suc i) s c m)
  missed i s there_is not_open listed values c among th later not_false =
      let options = has.options in
      let place = zip_at (IsTriedAt g own fuel bound ts l state) l.summands options.tried i s options.each there_is in
      let tried = place.2 in
      let member = contains_in (combinations (terms_of_each listed)) among in
      let own_member = subst (λ z. In c (combinations z)) (same_terms g has.signature bound s.sums listed tried.listed values tried.values) member in
      let found_there = zip_in (λ (c : List Term). IsAnswer (data_meant g) own fuel (summand_of (entries_of g ts) s) (environment_for g ts l state s c)) (combinations (terms_of_each tried.listed)) place.0.answers tried.answers own_member in
      by_answer place.0 place.1 found_there.0 found_there.1 found_there.2 (instance_of s (in_contains (at_is_in l.summands i s there_is)) listed c values member)
    where
      by_answer : (t : Tried) → slice_get has.options.tried i ≡ Some t → (a : Answer) → In a t.answers → IsAnswer (data_meant g) own fuel (summand_of (entries_of g ts) s) (environment_for g ts l state s c) a
          → IsInstance (data_meant g) Lin (summand_of (entries_of g ts) s) terms c → (m : TermMove) × (Contains (map (meant_move g us) found.moves) m × IsMoveFor g own fuel ts l state (suc i) s c m)
      by_answer t e (it_does label next) j a instance =
          let m : TermMove = record { summand = 1 + i; label = label; next = next } in (
            m,
            (
              in_contains (subst (λ z. In m z) (sym (has.options.moves ∙ moves_are 1 has.options.tried)) (from_place moves_one 1 has.options.tried i t e (among_moves (1 + i) t.answers label next j))),
              record { summand = (let q : 1 + i ≡ suc i = omega arith in q); label = a.1; next = a.2 },
            ),
          )
      by_answer t e it_does_nothing j a instance =
          absurd (not_false (goes_equal (data_meant g) own (meant_data_are_data g has.signature.table has.signature.roles) has.fine fuel th later.grows later.is_data later.among (put (term_in (environment_for g ts l state s c)) (summand_of (entries_of g ts) s).condition) falseᵗ boolean a.0 instance.condition a.1))
      by_answer t e (it_is_open b) j a instance =
          let o = among_open (1 + i) t.answers b j in
          absurd (not_open o.0 (in_contains (subst (λ z. In o.0 z) (sym (has.options.undecided ∙ opens_are 1 has.options.tried)) (from_place opens_one 1 has.options.tried i t e o.1.0))) (o.1.1 ∙ (let q : 1 + i ≡ suc i = omega arith in q)))

  cut_told : (i : ℕ) (s : PlainSummand) → slice_get l.summands i ≡ Some s → (listed : List Listed) → AllZip (AreListedFor g bound) s.sums listed → (Contains found.cut (suc i) ↔ IsTrue (is_cut listed))
  cut_told i s there_is listed values =
      let options = has.options in
      let place = zip_at (IsTriedAt g own fuel bound ts l state) l.summands options.tried i s options.each there_is in
      let same : place.0.cut ≡ is_cut listed = place.2.cut ∙ same_cut g has.signature bound s.sums place.2.listed listed place.2.values values in (
        (λ among.
            let j = at_place cuts_one 1 options.tried (subst (λ z. In (suc i) z) (options.cut ∙ cuts_are 1 options.tried) (contains_in found.cut among)) in
            let r = cut_among (1 + j.0) j.1.0.cut j.1.1.1 in
            let at_same : j.0 ≡ i = (let q = r.1 in omega (arith, q)) in
            let told : is_cut listed ≡ true = sym same ∙ ap (λ (z : Tried). z.cut) (one_there options.tried i place.0 j.1.0 place.1 (subst (λ n. slice_get options.tried n ≡ Some j.1.0) at_same j.1.1.0)) ∙ r.0 in
            told),
        (λ t. in_contains (subst (λ z. In (suc i) z) (sym (options.cut ∙ cuts_are 1 options.tried))
            (from_place cuts_one 1 options.tried i place.0 place.1 (subst (λ n. In n (cut_with (1 + i) place.0.cut)) (let q : 1 + i ≡ suc i = omega arith in q) (among_cut (1 + i) place.0.cut (same ∙ t)))))),
      )
    where
      one_there : (xs : List Tried) (n : ℕ) (x y : Tried) → slice_get xs n ≡ Some x → slice_get xs n ≡ Some y → x ≡ y
      one_there xs n x y e q = same_some (sym e ∙ q)
        where
          same_some : {x y : Tried} → Some x ≡ Some y → x ≡ y
          same_some r = cc

  causes : (o : Open) → Contains found.undecided o → HasCause g own fuel bound ts l state o
  causes o among =
      let options = has.options in
      let place = at_place opens_one 1 options.tried (subst (λ z. In o z) (options.undecided ∙ opens_are 1 options.tried) (contains_in found.undecided among)) in
      let summand = zip_back (IsTriedAt g own fuel bound ts l state) l.summands options.tried place.0 place.1.0 options.each place.1.1.0 in
      let answer = open_among (1 + place.0) place.1.0.answers place.1.1.1 in
      let tried = summand.2 in
      let combination = zip_in_back (λ (c : List Term). IsAnswer (data_meant g) own fuel (summand_of (entries_of g ts) summand.0) (environment_for g ts l state summand.0 c)) (combinations (terms_of_each tried.listed)) place.1.0.answers tried.answers answer.0 in
      record {
        place = place.0;
        summand = summand.0;
        stands = summand.1;
        number = answer.1 ∙ (let q : 1 + place.0 ≡ suc place.0 = omega arith in q);
        listed = tried.listed;
        values = tried.values;
        combination = combination.0;
        among = in_contains combination.1;
        decided = combination.2;
      }

pub moves_are_steps : MovesAreSteps
moves_are_steps g own fuel bound ts us l state found has m among th later = steps g own fuel bound ts us l state found has m among th later

pub nothing_is_missed : NothingIsMissed
nothing_is_missed g own fuel bound ts us l state found has i s there_is not_open listed values c among th later not_false = missed g own fuel bound ts us l state found has i s there_is not_open listed values c among th later not_false

pub cut_summands_are_told : CutSummandsAreTold
cut_summands_are_told g own fuel bound ts us l state found has i s there_is listed values = cut_told g own fuel bound ts us l state found has i s there_is listed values

pub undecided_summands_have_causes : UndecidedSummandsHaveCauses
undecided_summands_have_causes g own fuel bound ts us l state found has o among = causes g own fuel bound ts us l state found has o among
