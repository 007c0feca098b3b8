-- Parameters that are dropped from a linear process, summand by summand: one relation for all ways to drop them.
use Rattle.std.specs.Prelude.{◌≡◌, List, [], ◌∷◌, Option, Some, None}
use Rattle.data_theory.specs.Terms.{Term, put}
use Rattle.data_theory.specs.Environments.{Environment, term_in}
use Rattle.process_terms.specs.Theories.{Theory, Equal, Equals, AreOfSorts}
use Rattle.process_terms.specs.Labels.{put_label, AgreeInOrder}
use Rattle.process_terms.specs.Processes.{Bound}
use Rattle.bisim_laws.specs.LinearProcesses.{Summand, Linear, variables, sorts, reading, put_next, AreBound}
use Rattle.bisim_laws.specs.BaseStates.{Fate, kept, constant, not_needed}
use Rattle.lps_parelm.specs.Keeping.{keep}

-- as many, and the constant ones are provably what they were
abbrev pub Stay : Theory → List Fate → List Term → Type 0
Stay th [] [] = Unit {0}
Stay th [] (t ∷ ts) = ⊥
Stay th (f ∷ fates) [] = ⊥
Stay th (kept ∷ fates) (t ∷ ts) = Stay th fates ts
Stay th (constant c ∷ fates) (t ∷ ts) = Equal th t c × Stay th fates ts
Stay th (not_needed ∷ fates) (t ∷ ts) = Stay th fates ts

-- closed terms of their sorts for a summand's variables, with the constant parameters what they were
pub record IsAt (th : Theory) (fates : List Fate) (l : Linear) (xs : List Bound) (e : Environment) : Type 0 where
  pub sums : AreBound th xs e
  pub params : AreOfSorts th (sorts l.params) (reading e (variables l.params))
  pub stay : Stay th fates (reading e (variables l.params))

pub data NextDropped (th : Theory) (fates : List Fate) : Option (List Term) → Option (List Term) → Type 0 where
  neither_goes_on : NextDropped th fates None None
  both_go_on : {ts us : List Term} → Stay th fates ts → Equals th (keep fates ts) us → NextDropped th fates (Some ts) (Some us)

-- a summand with the same sums that does provably the same where the constant parameters are what they were
pub record IsDropped (th : Theory) (fates : List Fate) (l : Linear) (s t : Summand) : Type 0 where
  pub sums : t.sums ≡ s.sums
  pub condition : (e : Environment) → IsAt th fates l s.sums e → Equal th (put (term_in e) s.condition) (put (term_in e) t.condition)
  pub label : (e : Environment) → IsAt th fates l s.sums e → AgreeInOrder th (put_label e s.label) (put_label e t.label)
  pub next : (e : Environment) → IsAt th fates l s.sums e → NextDropped th fates (put_next e s.next) (put_next e t.next)

pub data AreDropped (th : Theory) (fates : List Fate) (l : Linear) : List Summand → List Summand → Type 0 where
  no_summand : AreDropped th fates l [] []
  one_summand : {s t : Summand} {ss ts : List Summand} → IsDropped th fates l s t → AreDropped th fates l ss ts → AreDropped th fates l (s ∷ ss) (t ∷ ts)

pub record Drops (th : Theory) (fates : List Fate) (l k : Linear) : Type 0 where
  pub params : k.params ≡ keep fates l.params
  pub summands : AreDropped th fates l l.summands k.summands
