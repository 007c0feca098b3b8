-- What never ends stays so, as it is made smaller and as its text is read.
use Rattle.std.proofs.Common.{◌≡◌, ⊎_elim, List, [], ◌∷◌, map, refl, sym, ap, ◌∙◌, subst, Option, Some, None}
use Rattle.std.specs.Prelude.{option_map, Contains}
use Rattle.std.specs.List.{AllZip}
use Rattle.data_theory.specs.declared.ids.TermId.{TermId}
use Rattle.data_theory.specs.Environments.{Environment}
use Rattle.data_theory.specs.Terms.{Term}
use Rattle.data_rewriter.specs.Simplifying.{IsSimpleWith}
use Rattle.process_terms.specs.Meanings.{Entries, term_at}
use Rattle.process_terms.specs.SignatureEntries.{entries_of}
use Rattle.process_terms.specs.Theories.{Theory}
use Rattle.bisim_laws.specs.BaseStates.{Fate}
use Rattle.bisim_laws.specs.LinearProcesses.{Summand, Linear, put_next, NextEquals, both_without, both_with}
use Rattle.bisim_laws.proofs.Firing.{contains_first, contains_later, contains_cases, contains_none}
use Rattle.lps_core.specs.PlainLinears.{PlainSummand, PlainLinear, summand_of, linear_of}
use Rattle.lps_core.specs.Sealing.{NeverEnds}
use Rattle.lps_core.proofs.Members.{contains_map}
use Rattle.lps_parelm.specs.Keeping.{keep, kept_summand}
use Rattle.lps_constelm.specs.Constants.{put_summand, putting}
use Rattle.lps_constelm.specs.Eliminating.{Eliminates, simplified as first_round, one_more}
use Rattle.lps_constelm.specs.Simplified as simplified
use Rattle.lps_constelm.specs.Simplified.{Becomes}
use Rattle.lps_sumelm.specs.Simplified as solved
use Rattle.lps_sumelm.specs.Simplified.{IsAnswer}
use Rattle.lps_sumelm.specs.Solving.{IsSolvedFrom, nothing_to_solve, one_solved, IsSolvedSummand}
use Rattle.lin_driver.specs.SealedLinears.{EliminationsMakeNoEnd, EqualLinearsNeverEnd, SomeSummandsNeverEnd}
use Rattle.lin_driver.specs.declared.eliminations.Elimination.TheVariants.{Constants, Parameters, Sums}

-- ---- summand by summand
abbrev NoneEnds : List Summand → Type 0
NoneEnds ss = (s : Summand) → Contains ss s → s.next ≡ None → ⊥

-- the second one ends only where the first one does
abbrev EndsWhereThat : Summand → Summand → Type 0
EndsWhereThat s t = t.next ≡ None → s.next ≡ None

none_ends : (Q : Summand → Summand → Type 0) → ((s t : Summand) → Q s t → EndsWhereThat s t) → (ss ts : List Summand) → AllZip Q ss ts → NoneEnds ss → NoneEnds ts
none_ends Q w [] [] h never t i e = contains_none t i
none_ends Q w [] (t ∷ ts) h never u i e = absurd h
none_ends Q w (s ∷ ss) [] h never t i e = contains_none t i
none_ends Q w (s ∷ ss) (t ∷ ts) h never u i e = ⊎_elim
    (λ q. never s (contains_first s ss) (w s t h.0 (ap (λ (z : Summand). z.next) q ∙ e)))
    (λ j. none_ends Q w ss ts h.1 (λ x k. never x (contains_later s x ss k)) u j e)
    (contains_cases t u ts i)

mapped_end : {A B : Type 0} (f : A → B) (n : Option A) → option_map f n ≡ None → n ≡ None
mapped_end f None e = refl
mapped_end f (Some x) e = cc

-- where each summand is made of one that ends where it does
mapped_none_ends : {A : Type 0} (f : A → Summand) (ss : List A) → ((s : A) → Contains ss s → (f s).next ≡ None → ⊥) → NoneEnds (map f ss)
mapped_none_ends f ss never t i e = let r = contains_map f ss t i in never r.0 r.1.0 (sym (ap (λ (z : Summand). z.next) r.1.1) ∙ e)

-- ---- parameters that aren't needed
kept_ends : (e : Entries) (fates : List Fate) (ss : List PlainSummand) → NoneEnds (map (summand_of e) ss) → NoneEnds (map (summand_of e) (map (kept_summand fates) ss))
kept_ends e fates [] never t i q = contains_none t i
kept_ends e fates (s ∷ ss) never t i q = ⊎_elim
    (λ same. never (summand_of e s) (contains_first (summand_of e s) (map (summand_of e) ss)) (as_before s.next (ap (λ (z : Summand). z.next) same ∙ q)))
    (λ j. kept_ends e fates ss (λ u k. never u (contains_later (summand_of e s) u (map (summand_of e) ss) k)) t j q)
    (contains_cases (summand_of e (kept_summand fates s)) t (map (summand_of e) (map (kept_summand fates) ss)) i)
  where
    as_before : (n : Option (List TermId)) → option_map (map (term_at e)) (option_map (keep fates) n) ≡ None → option_map (map (term_at e)) n ≡ None
    as_before None h = refl
    as_before (Some ids) h = cc

-- ---- constants that were put in
become_end : {R : Term → Term → Type 0} {n m : Option (List Term)} → simplified.NextBecomes R n m → m ≡ None → n ≡ None
become_end simplified.both_end e = refl
become_end (simplified.both_go_on h) e = cc

becomes_never_ends : {R : Term → Term → Type 0} {l k : Linear} {init first : List Term} → Becomes R l init k first → NeverEnds l → NeverEnds k
becomes_never_ends {R} {l} {k} h never = none_ends (simplified.SummandBecomes R) (λ s t b e. become_end b.next e) l.summands k.summands h.summands never

put_ends : (r : Environment) (fates : List Fate) (ss : List Summand) → NoneEnds ss → NoneEnds (map (put_summand r fates) ss)
put_ends r fates ss never = mapped_none_ends (put_summand r fates) ss (λ s i e. never s i (mapped_end _ s.next e))

eliminated_never_ends : {R : Term → Term → Type 0} {l : Linear} {init : List Term} {k : Linear} {first : List Term} {fates : List Fate} → Eliminates R l init k first fates → NeverEnds l → NeverEnds k
eliminated_never_ends (first_round b) never = becomes_never_ends b never
eliminated_never_ends (one_more {m = m} set h greatest some b) never = becomes_never_ends b (put_ends (putting set m) set m.summands (eliminated_never_ends h never))

-- ---- sums that were solved
solved_becomes_end : {To : Term → Term → Type 0} {n m : Option (List Term)} → solved.NextBecomes To n m → m ≡ None → n ≡ None
solved_becomes_end solved.neither_goes_on e = refl
solved_becomes_end (solved.both_go_on h) e = cc

put_next_end : (r : Environment) (n : Option (List Term)) → put_next r n ≡ None → n ≡ None
put_next_end r None e = refl
put_next_end r (Some ts) e = cc

solved_from_ends : {To : Term → Term → Type 0} {s t : Summand} → IsSolvedFrom To s t → EndsWhereThat s t
solved_from_ends (nothing_to_solve h) e = e
solved_from_ends (one_solved {s = s} {b = b} f becomes h) e = put_next_end (b ∷ []) s.next (solved_becomes_end becomes.next (solved_from_ends h e))

solved_ends : {To : Term → Term → Type 0} (s t : Summand) → IsSolvedSummand To s t → EndsWhereThat s t
solved_ends s t h e = solved_becomes_end h.becomes.next (solved_from_ends h.solved e)

-- ---- the eliminations
pub eliminations_make_no_end : EliminationsMakeNoEnd
eliminations_make_no_end (Constants fuel) g own ts l k h never = eliminated_never_ends h.eliminated never
eliminations_make_no_end Parameters g own ts l k h never = subst (λ (z : PlainLinear). NeverEnds (linear_of (entries_of g ts) z)) (sym h.is) (kept_ends (entries_of g ts) h.fates l.summands never)
eliminations_make_no_end (Sums fuel) g own ts l k h never =
    none_ends (IsSolvedSummand (IsAnswer g own (IsSimpleWith g own fuel))) (λ s t w. solved_ends s t w) (linear_of (entries_of g ts) l).summands (linear_of (entries_of g ts) k).summands h.summands never

-- ---- equal data
equal_end : {th : Theory} {n m : Option (List Term)} → NextEquals th n m → n ≡ None → m ≡ None
equal_end both_without e = refl
equal_end (both_with h) e = cc

pub equal_linears_never_end : EqualLinearsNeverEnd
equal_linears_never_end th l k same never s i e =
    let r = same.back s i in
    never r.summand r.among (put_next_end [] r.summand.next (equal_end (r.next []) (ap (put_next []) e)))

-- ---- some of the summands
pub some_summands_never_end : SomeSummandsNeverEnd
some_summands_never_end l k among never s i e = never s (among s i) e
