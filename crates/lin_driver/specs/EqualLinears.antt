-- Linear processes that have the same parameters and, summand by summand, provably equal data.
use Rattle.std.specs.Prelude.{◌≡◌, List}
use Rattle.std.specs.List.{Contains}
use Rattle.data_theory.specs.Terms.{Sort, Term, put}
use Rattle.data_theory.specs.Environments.{Environment, term_in}
use Rattle.process_terms.specs.Theories.{Theory, Equal, Equals, AreOfSorts}
use Rattle.process_terms.specs.Labels.{put_label, AgreeInOrder}
use Rattle.bisim_laws.specs.LinearProcesses.{Summand, Linear, sorts, state_of, put_next, NextEquals, IsLinear, IsWellSorted}
use Rattle.bisim_laws.specs.Links.{Dropped, IsGood}
use Rattle.lps_core.specs.Moving.{all_kept}

-- it has a summand with the same sums that is provably equal to this one, whatever is put in
pub record HasEqualSummand (th : Theory) (k : Linear) (s : Summand) : Type 0 where
  pub summand : Summand
  pub among : Contains k.summands summand
  pub sums : summand.sums ≡ s.sums
  pub condition : (e : Environment) → Equal th (put (term_in e) s.condition) (put (term_in e) summand.condition)
  pub label : (e : Environment) → AgreeInOrder th (put_label e s.label) (put_label e summand.label)
  pub next : (e : Environment) → NextEquals th (put_next e s.next) (put_next e summand.next)

pub record AreEqualLinears (th : Theory) (l k : Linear) : Type 0 where
  pub params : k.params ≡ l.params
  pub forth : (s : Summand) → Contains l.summands s → HasEqualSummand th k s
  pub back : (s : Summand) → Contains k.summands s → HasEqualSummand th l s

-- a link that drops no parameter is good for both, from provably equal arguments
abbrev pub EqualLinearsAreGood : Type 0
EqualLinearsAreGood =
    (th : Theory) (vs ws : List Sort) (l k : Linear) (ts us : List Term) → IsLinear l → IsLinear k → IsWellSorted th.declared vs l → IsWellSorted th.declared ws k → AreEqualLinears th l k
    → AreOfSorts th (sorts l.params) ts → AreOfSorts th (sorts l.params) us → Equals th ts us
    → IsGood th (Dropped (all_kept l.params) l k) (state_of l ts) (state_of k us)
