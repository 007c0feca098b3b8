-- Terms that become others by one relation become them by a weaker one.
use Rattle.std.proofs.Common.{List, [], ◌∷◌, Option}
use Rattle.std.specs.List.{AllZip}
use Rattle.data_theory.specs.Provable.{Equation}
use Rattle.data_theory.specs.Signature.{Sig}
use Rattle.data_theory.specs.Terms.{Term}
use Rattle.process_terms.specs.Labels.{Label}
use Rattle.bisim_laws.specs.LinearProcesses.{Summand, Linear}
use Rattle.lps_constelm.specs.Simplified.{IsSimplerTerm, ActionBecomes, NextBecomes, both_end, both_go_on, SummandBecomes, Becomes}

module _ (g : Sig) (own : List Equation) (P Q : Term → Type 0) (w : (t : Term) → P t → Q t) where
  simpler : (t u : Term) → IsSimplerTerm g own P t u → IsSimplerTerm g own Q t u
  simpler t u h = record { simple = w u h.simple; variables = h.variables; sort = h.sort; equal = h.equal }

  terms : (ts us : List Term) → AllZip (IsSimplerTerm g own P) ts us → AllZip (IsSimplerTerm g own Q) ts us
  terms [] [] h = tt
  terms [] (u ∷ us) h = absurd h
  terms (t ∷ ts) [] h = absurd h
  terms (t ∷ ts) (u ∷ us) h = (simpler t u h.0, terms ts us h.1)

  labels : (m n : Label) → AllZip (ActionBecomes (IsSimplerTerm g own P)) m n → AllZip (ActionBecomes (IsSimplerTerm g own Q)) m n
  labels [] [] h = tt
  labels [] (b ∷ n) h = absurd h
  labels (a ∷ m) [] h = absurd h
  labels (a ∷ m) (b ∷ n) h = (record { name = h.0.name; sorts = h.0.sorts; args = terms a.args b.args h.0.args }, labels m n h.1)

  nexts : {o p : Option (List Term)} → NextBecomes (IsSimplerTerm g own P) o p → NextBecomes (IsSimplerTerm g own Q) o p
  nexts both_end = both_end
  nexts (both_go_on {ts = ts} {us = us} h) = both_go_on (terms ts us h)

  summands : (ss ts : List Summand) → AllZip (SummandBecomes (IsSimplerTerm g own P)) ss ts → AllZip (SummandBecomes (IsSimplerTerm g own Q)) ss ts
  summands [] [] h = tt
  summands [] (t ∷ ts) h = absurd h
  summands (s ∷ ss) [] h = absurd h
  summands (s ∷ ss) (t ∷ ts) h = (record { sums = h.0.sums; condition = simpler s.condition t.condition h.0.condition; label = labels s.label t.label h.0.label; next = nexts h.0.next }, summands ss ts h.1)

  pub becomes_weaker : {l k : Linear} {init first : List Term} → Becomes (IsSimplerTerm g own P) l init k first → Becomes (IsSimplerTerm g own Q) l init k first
  becomes_weaker {l} {k} {init} {first} b = record { params = b.params; initial = terms init first b.initial; summands = summands l.summands k.summands b.summands }
