-- A linear process with enough of its summands.
use Rattle.std.proofs.Common.{◌≡◌, List, [], ◌∷◌, refl, sym, ap, ◌∙◌, subst, Option, Some}
use Rattle.data_theory.specs.Terms.{Sort, Term}
use Rattle.data_theory.specs.Environments.{Environment}
use Rattle.process_terms.specs.Names.{Name}
use Rattle.process_terms.specs.Theories.{Theory, Equals, AreOfSorts}
use Rattle.process_terms.specs.Labels.{Label, names, put_label}
use Rattle.process_terms.specs.Processes.{Process}
use Rattle.process_terms.specs.Steps.{Outcome, Step}
use Rattle.process_terms.proofs.AgreeingLabels.{equals_refl, equals_sym}
use Rattle.bisim_laws.specs.Bisimulations.{Lands, both_end, both_go_on, Answer, Flipped, UpTo, up_to}
use Rattle.bisim_laws.specs.LinearProcesses.{Summand, Linear, sorts, state_of, IsLinear, IsWellSorted, NextEquals, both_without, both_with, outcome_of, Fires}
use Rattle.bisim_laws.specs.BaseStates.{SolvedState, solved_state}
use Rattle.bisim_laws.proofs.AlikeFiring.{fire_alike}
use Rattle.bisim_laws.proofs.AlikeProcesses.{alike_refl}
use Rattle.bisim_laws.proofs.Firing.{fired, fire}
use Rattle.bisim_laws.proofs.SortedFiring.{firings_keep}
use Rattle.bisim_laws.specs.Within.{ProgressWithin}
use Rattle.bisim_laws.specs.Scopes.{Matters}
use Rattle.bisim_laws.specs.SomeSummands.{with_summands, AreEnough, SomeSummandsAreLinear, SomeSummandsAreGoodWithin}
use Rattle.bisim_laws.proofs.ComposedWithin.{up_to_within}

-- terms put in keep the names
pub names_put : (e : Environment) (m : Label) → names (put_label e m) ≡ names m
names_put e [] = refl
names_put e (a ∷ m) = ap (λ l. a.name ∷ l) (names_put e m)

pub some_linear : SomeSummandsAreLinear
some_linear g vs w l ss enough is sorted = (
  record { distinct = is.distinct; summands = λ s i. is.summands s (enough.among s i) },
  record { params = sorted.params; param_sorts = sorted.param_sorts; summands = λ s i. sorted.summands s (enough.among s i) },
)

module _ (th : Theory) (vs : List Sort) (Can : List Name → Type 0) (l : Linear) (ss : List Summand) (enough : AreEnough Can l.summands ss) (is : IsLinear l) (sorted : IsWellSorted th.declared vs l) where
  abbrev k : Linear
  k = with_summands l ss

  k_linear : IsLinear k
  k_linear = record { distinct = is.distinct; summands = λ s i. is.summands s (enough.among s i) }

  abbrev Related : Process → Process → Type 0
  Related = UpTo th (SolvedState th l k)

  fires_there : {ts : List Term} {m : Label} {next : Option (List Term)} → Can (names m) → Fires th l ts m next → Fires th k ts m next
  fires_there c f = record {
    summand = f.summand;
    among = enough.there f.summand f.among (subst Can (ap names f.does.label ∙ names_put f.environment f.summand.label) c);
    environment = f.environment;
    reads = f.reads;
    bound = f.bound;
    does = f.does;
  }

  fires_among : {ts : List Term} {m : Label} {next : Option (List Term)} → Fires th k ts m next → Fires th l ts m next
  fires_among f = record { summand = f.summand; among = enough.among f.summand f.among; environment = f.environment; reads = f.reads; bound = f.bound; does = f.does }

  abbrev KeepsSorts : Option (List Term) → Type 0
  KeepsSorts next = (us : List Term) → next ≡ Some us → AreOfSorts th (sorts l.params) us

  keeps : {ts : List Term} {m : Label} {next : Option (List Term)} → AreOfSorts th (sorts l.params) ts → Fires th l ts m next → KeepsSorts next
  keeps {ts} {m} a f us q = firings_keep th vs l ts us m is sorted a (subst (λ n. Fires th l ts m n) q f)

  lands : {next onward : Option (List Term)} → KeepsSorts next → KeepsSorts onward → NextEquals th next onward → Lands Related (outcome_of l next) (outcome_of k onward)
  lands f g both_without = both_end
  lands f g (both_with {ts = ts} {us = us} h) = both_go_on (up_to (alike_refl th (state_of l ts)) (solved_state (f ts refl) (g us refl) h) (alike_refl th (state_of k us)))

  lands_back : {next onward : Option (List Term)} → KeepsSorts next → KeepsSorts onward → NextEquals th next onward → Lands (Flipped Related) (outcome_of k next) (outcome_of l onward)
  lands_back f g both_without = both_end
  lands_back f g (both_with {ts = ts} {us = us} h) = both_go_on (up_to (alike_refl th (state_of l us)) (solved_state (g us refl) (f ts refl) (equals_sym h)) (alike_refl th (state_of k ts)))

  forth_at : (ts us : List Term) → AreOfSorts th (sorts l.params) ts → AreOfSorts th (sorts l.params) us → Equals th ts us → (m : Label) (r : Outcome) → Can (names m) → Step th (state_of l ts) m r → Answer th Related (state_of k us) m r
  forth_at ts us a b h m r c s =
      let f = fired th l ts m r is s in
      let j = fire_alike th k ts us m f.0 k_linear h (fires_there c f.1.0) in
      subst (λ o. Answer th Related (state_of k us) m o) (sym f.1.1)
      (record {
        label = j.label;
        outcome = outcome_of k j.onward;
        step = fire th k us j.label j.onward k_linear j.fires;
        agree = j.agree;
        lands = lands (keeps a f.1.0) (keeps b (fires_among j.fires)) j.equal;
      })

  back_at : (ts us : List Term) → AreOfSorts th (sorts l.params) ts → AreOfSorts th (sorts l.params) us → Equals th ts us → (m : Label) (r : Outcome) → Step th (state_of k us) m r → Answer th (Flipped Related) (state_of l ts) m r
  back_at ts us a b h m r s =
      let f = fired th k us m r k_linear s in
      let j = fire_alike th l us ts m f.0 is (equals_sym h) (fires_among f.1.0) in
      subst (λ o. Answer th (Flipped Related) (state_of l ts) m o) (sym f.1.1)
      (record {
        label = j.label;
        outcome = outcome_of l j.onward;
        step = fire th l ts j.label j.onward is j.fires;
        agree = j.agree;
        lands = lands_back (keeps b (fires_among f.1.0)) (keeps a j.fires) j.equal;
      })

  forth : (p q : Process) (m : Label) (r : Outcome) → SolvedState th l k p q → Can (names m) → Step th p m r → Answer th Related q m r
  forth p q m r (solved_state {ts = ts} {us = us} a b h) c s = forth_at ts us a b h m r c s

  back : (p q : Process) (m : Label) (r : Outcome) → SolvedState th l k p q → Step th q m r → Answer th (Flipped Related) p m r
  back p q m r (solved_state {ts = ts} {us = us} a b h) s = back_at ts us a b h m r s

  pub some_progress : ProgressWithin th Can (SolvedState th l k)
  some_progress = record { forth = λ p q m r h c s. forth p q m r h c s; back = λ q p m r h c s. back p q m r h s }

pub some_good : SomeSummandsAreGoodWithin
some_good th vs w l ss enough is sorted ts a = record {
  starts = up_to (alike_refl th (state_of l ts)) (solved_state a a (equals_refl th ts)) (alike_refl th (state_of (with_summands l ss) ts));
  follows = up_to_within (Matters w) (some_progress th vs (Matters w) l ss enough is sorted);
}
