-- What is decided equal is provably equal, over later data.
use Rattle.std.specs.Prelude.{List, [], ◌∷◌, Contains, Option, Some, None}
use Rattle.std.proofs.Common.{refl, sym, subst}
use Rattle.std.specs.List.{AllByRecursion}
use Rattle.data_theory.specs.Terms.{Sort, boolean, Term}
use Rattle.data_theory.specs.Equations.{trueᵗ, equals}
use Rattle.data_theory.specs.Declarations.{IsData, HasSort, HaveSorts}
use Rattle.data_theory.specs.Environments.{terms_of}
use Rattle.data_theory.specs.EqualityLaws.{Grows, AreAmong}
use Rattle.data_theory.specs.Provable.{Equation, reflected}
use Rattle.data_theory.specs.Rewriting.{IsWellFormed, yes_decided}
use Rattle.data_theory.proofs.WellSorted.{sort_of_term}
use Rattle.process_terms.specs.Communication.{equalities}
use Rattle.process_terms.specs.Labels.{Label, AgreeInOrder, both_silent, next_agree, Agree}
use Rattle.process_terms.specs.Theories.{Theory, Equal, Equals, no_terms, more_terms}
use Rattle.bisim_laws.specs.LinearProcesses.{LabelIsSorted, no_action_to_sort, action_sorted, NextIsSorted, next_sorted}
use Rattle.lps_simulator.specs.Options.{TermMove}
use Rattle.lps_simulator.proofs.RewrittenClosed.{goes_equal}
use Rattle.trace_replay.specs.Decidings.{Decides, hold, ComeOut, all_hold}
use Rattle.aut_check.specs.Matching.{EndAlike, both_ended, neither_ended, state_equalities, Match}
use Rattle.trace_replay.specs.Pairings.{AreAlike, label_equalities, IsClosedAction, IsClosedLabel}
use Rattle.trace_replay.specs.Settings.{Setting, data_in}
use Rattle.trace_replay.proofs.PairedLabels.{agree_named, all_cut, permuted_all}
use Rattle.aut_check.specs.Systems.{FileState}

pub all_of_hold : {s : Setting} {cs : List Term} → ComeOut s cs hold → AllByRecursion (Decides s yes_decided) cs
all_of_hold (all_hold h) = h

-- ---- closed labels
sorted_closed : (s : Setting) (m : Label) → LabelIsSorted (data_in s) [] m → IsClosedLabel (data_in s) m
sorted_closed s _ no_action_to_sort = tt
sorted_closed s _ (action_sorted {m = m} h k) = (h, sorted_closed s m k)

-- what the next terms of a move and the terms of a state are where both match
pub data LandAlike (th : Theory) : Option (List Term) → FileState → Type 0 where
  both_land_ended : LandAlike th None None
  land_equal : {ts us : List Term} → Equals th ts us → LandAlike th (Some ts) (Some us)

-- a state of the file is sorted
abbrev pub StateIsSorted : Setting → List Sort → FileState → Type 0
StateIsSorted s ss o = NextIsSorted (data_in s) [] ss o

module _ (s : Setting) (ok : IsData (data_in s)) (formed : (q : Equation) → Contains s.equations q → IsWellFormed (data_in s) q) (th : Theory) (grows : Grows (data_in s) th.declared) (later : IsData th.declared) (among : AreAmong s.equations th.equations) where
  equality_sorted : (a : Sort) (t u : Term) → HasSort (data_in s) [] t a → HasSort (data_in s) [] u a → HasSort (data_in s) [] (equals a t u) boolean
  equality_sorted a t u h k = (sort_of_term (data_in s) ok t a h, (h, (k, tt)), refl, refl)

  yes_equal : (a : Sort) (t u : Term) → HasSort (data_in s) [] t a → HasSort (data_in s) [] u a → Decides s yes_decided (equals a t u) → Equal th t u
  yes_equal a t u h k d = reflected (goes_equal (data_in s) s.equations ok formed s.fuel th grows later among (equals a t u) trueᵗ boolean d.0 (equality_sorted a t u h k) d.1)

  pub arguments_equal : (ss : List Sort) (ts us : List Term) → HaveSorts (data_in s) [] (terms_of ts) ss → HaveSorts (data_in s) [] (terms_of us) ss → AllByRecursion (Decides s yes_decided) (equalities ss ts us) → Equals th ts us
  arguments_equal [] [] [] h k d = no_terms
  arguments_equal [] [] (u ∷ us) h k d = absurd k
  arguments_equal [] (t ∷ ts) us h k d = absurd h
  arguments_equal (a ∷ ss) [] us h k d = absurd h
  arguments_equal (a ∷ ss) (t ∷ ts) [] h k d = absurd k
  arguments_equal (a ∷ ss) (t ∷ ts) (u ∷ us) h k d = more_terms (yes_equal a t u h.0 k.0 d.0) (arguments_equal ss ts us h.1 k.1 d.1)

  decided_agree : (m n : Label) → IsClosedLabel (data_in s) m → IsClosedLabel (data_in s) n → AreAlike m n → AllByRecursion (Decides s yes_decided) (label_equalities m n) → AgreeInOrder th m n
  decided_agree [] [] f h alike d = both_silent
  decided_agree [] (b ∷ n) f h alike d = absurd alike
  decided_agree (a ∷ m) [] f h alike d = absurd alike
  decided_agree (a ∷ m) (b ∷ n) f h alike d =
      let parts = all_cut (Decides s yes_decided) (equalities a.sorts a.args b.args) (label_equalities m n) d in
      let same : HaveSorts (data_in s) [] (terms_of b.args) a.sorts = subst (HaveSorts (data_in s) [] (terms_of b.args)) (sym alike.1) h.0 in
      next_agree (agree_named th a b alike.0 alike.1 (arguments_equal a.sorts a.args b.args f.0 same parts.0)) (decided_agree m n f.1 h.1 alike.2 parts.1)

  states_equal : (ss : List Sort) {next : Option (List Term)} {o : FileState} → NextIsSorted (data_in s) [] ss next → StateIsSorted s ss o → EndAlike next o → AllByRecursion (Decides s yes_decided) (state_equalities ss next o) → LandAlike th next o
  states_equal ss h k both_ended d = both_land_ended
  states_equal ss (next_sorted h) (next_sorted k) (neither_ended {ts = ts} {us = us}) d = land_equal (arguments_equal ss ts us h k d)

  -- a move and an edge that match: the labels agree, and both lead to the same
  pub match_agrees : (ss : List Sort) (m : TermMove) (n : Label) (o : FileState) → LabelIsSorted (data_in s) [] m.label → LabelIsSorted (data_in s) [] n → Match s ss m n o → Agree th m.label n
  match_agrees ss m n o f h c =
      let parts = all_cut (Decides s yes_decided) (label_equalities m.label c.pairing.paired) (state_equalities ss m.next o) (all_of_hold c.comes) in
      record {
        reordered = c.pairing.paired;
        in_order = decided_agree m.label c.pairing.paired (sorted_closed s m.label f) (permuted_all (IsClosedAction (data_in s)) c.pairing.same (sorted_closed s n h)) c.pairing.alike parts.0;
        same = c.pairing.same;
      }

  pub match_lands : (ss : List Sort) (m : TermMove) (n : Label) (o : FileState) → NextIsSorted (data_in s) [] ss m.next → StateIsSorted s ss o → Match s ss m n o → LandAlike th m.next o
  match_lands ss m n o f h c =
      let parts = all_cut (Decides s yes_decided) (label_equalities m.label c.pairing.paired) (state_equalities ss m.next o) (all_of_hold c.comes) in
      states_equal ss f h c.ends parts.1
