-- A drop after a drop is one drop.
use Rattle.std.proofs.Common.{◌≡◌, suc, List, [], ◌∷◌, length, refl, sym, ap, ◌∙◌, subst, arith, Option}
use Rattle.std.proofs.lemmas.List.{length-map}
use Rattle.data_theory.specs.Terms.{Term}
use Rattle.data_theory.specs.Provable.{transitive}
use Rattle.data_theory.specs.Environments.{Environment, term_in}
use Rattle.process_terms.specs.Theories.{Theory, Equals, no_terms, more_terms, AreOfSorts}
use Rattle.process_terms.specs.Processes.{Bound}
use Rattle.process_terms.proofs.AgreeingLabels.{equals_trans, agree_trans}
use Rattle.bisim_laws.specs.LinearProcesses.{Summand, Linear, variables, sorts, reading, AreBound}
use Rattle.bisim_laws.specs.BaseStates.{Fate, kept, constant, not_needed}
use Rattle.lps_parelm.specs.Keeping.{keep}
use Rattle.lps_parelm.proofs.Drops.{Stay, IsAt, NextDropped, neither_goes_on, both_go_on, IsDropped, AreDropped, no_summand, one_summand, Drops}
use Rattle.lps_parelm.proofs.KeptPlaces.{keep_map, keep_variables, keep_sorts, keep_sorted}
use Rattle.lps_constelm.specs.Constants.{then_fates}

split_stay : (th : Theory) (fates later : List Fate) (ts : List Term) → length later ≡ length (keep fates ts) → Stay th (then_fates fates later) ts → Stay th fates ts × Stay th later (keep fates ts)
split_stay th [] [] [] l s = (tt, tt)
split_stay th [] (f ∷ later) [] l s = absurd (omega (arith, l))
split_stay th [] later (t ∷ ts) l s = absurd s
split_stay th (kept ∷ fates) [] [] l s = absurd s
split_stay th (kept ∷ fates) (f ∷ later) [] l s = absurd s
split_stay th (constant c ∷ fates) later [] l s = absurd s
split_stay th (not_needed ∷ fates) later [] l s = absurd s
split_stay th (kept ∷ fates) [] (t ∷ ts) l s = absurd (omega (arith, l))
split_stay th (kept ∷ fates) (kept ∷ later) (t ∷ ts) l s = let r = split_stay th fates later ts (omega (arith, l)) s in (r.0, r.1)
split_stay th (kept ∷ fates) (constant c ∷ later) (t ∷ ts) l s = let r = split_stay th fates later ts (omega (arith, l)) s.1 in (r.0, (s.0, r.1))
split_stay th (kept ∷ fates) (not_needed ∷ later) (t ∷ ts) l s = let r = split_stay th fates later ts (omega (arith, l)) s in (r.0, r.1)
split_stay th (constant c ∷ fates) later (t ∷ ts) l s = let r = split_stay th fates later ts l s.1 in ((s.0, r.0), r.1)
split_stay th (not_needed ∷ fates) later (t ∷ ts) l s = split_stay th fates later ts l s

pub join_stay : (th : Theory) (fates later : List Fate) (ts : List Term) → Stay th fates ts → Stay th later (keep fates ts) → Stay th (then_fates fates later) ts
join_stay th [] later [] s r = tt
join_stay th [] later (t ∷ ts) s r = absurd s
join_stay th (kept ∷ fates) later [] s r = absurd s
join_stay th (constant c ∷ fates) later [] s r = absurd s
join_stay th (not_needed ∷ fates) later [] s r = absurd s
join_stay th (kept ∷ fates) [] (t ∷ ts) s r = absurd r
join_stay th (kept ∷ fates) (kept ∷ later) (t ∷ ts) s r = join_stay th fates later ts s r
join_stay th (kept ∷ fates) (constant c ∷ later) (t ∷ ts) s r = (r.0, join_stay th fates later ts s r.1)
join_stay th (kept ∷ fates) (not_needed ∷ later) (t ∷ ts) s r = join_stay th fates later ts s r
join_stay th (constant c ∷ fates) later (t ∷ ts) s r = (s.0, join_stay th fates later ts s.1 r)
join_stay th (not_needed ∷ fates) later (t ∷ ts) s r = join_stay th fates later ts s r

-- as many as are kept
pub keep_then : {A : Type 0} (fates later : List Fate) (xs : List A) → length later ≡ length (keep fates xs) → keep (then_fates fates later) xs ≡ keep later (keep fates xs)
keep_then [] [] xs l = refl
keep_then [] (f ∷ later) xs l = absurd (omega (arith, l))
keep_then (kept ∷ fates) [] [] l = refl
keep_then (kept ∷ fates) (f ∷ later) [] l = refl
keep_then (constant c ∷ fates) [] [] l = refl
keep_then (constant c ∷ fates) (f ∷ later) [] l = refl
keep_then (not_needed ∷ fates) [] [] l = refl
keep_then (not_needed ∷ fates) (f ∷ later) [] l = refl
keep_then (kept ∷ fates) [] (x ∷ xs) l = absurd (omega (arith, l))
keep_then (kept ∷ fates) (kept ∷ later) (x ∷ xs) l = ap (λ r. x ∷ r) (keep_then fates later xs (omega (arith, l)))
keep_then (kept ∷ fates) (constant c ∷ later) (x ∷ xs) l = keep_then fates later xs (omega (arith, l))
keep_then (kept ∷ fates) (not_needed ∷ later) (x ∷ xs) l = keep_then fates later xs (omega (arith, l))
keep_then (constant c ∷ fates) later (x ∷ xs) l = keep_then fates later xs l
keep_then (not_needed ∷ fates) later (x ∷ xs) l = keep_then fates later xs l

pub stay_long : (th : Theory) (fates : List Fate) (ts : List Term) → Stay th fates ts → length fates ≡ length ts
stay_long th [] [] s = refl
stay_long th [] (t ∷ ts) s = absurd s
stay_long th (f ∷ fates) [] s = absurd s
stay_long th (kept ∷ fates) (t ∷ ts) s = ap suc (stay_long th fates ts s)
stay_long th (constant c ∷ fates) (t ∷ ts) s = ap suc (stay_long th fates ts s.1)
stay_long th (not_needed ∷ fates) (t ∷ ts) s = ap suc (stay_long th fates ts s)

pub stay_equal : {th : Theory} (fates : List Fate) {ts us : List Term} → Equals th ts us → Stay th fates us → Stay th fates ts
stay_equal [] no_terms s = s
stay_equal [] (more_terms e h) s = absurd s
stay_equal (f ∷ fates) no_terms s = absurd s
stay_equal (kept ∷ fates) (more_terms e h) s = stay_equal fates h s
stay_equal (constant c ∷ fates) (more_terms e h) s = (transitive e s.0, stay_equal fates h s.1)
stay_equal (not_needed ∷ fates) (more_terms e h) s = stay_equal fates h s

pub keep_equal : {th : Theory} (fates : List Fate) {ts us : List Term} → Equals th ts us → Equals th (keep fates ts) (keep fates us)
keep_equal [] h = no_terms
keep_equal (f ∷ fates) no_terms = no_terms
keep_equal (kept ∷ fates) (more_terms e h) = more_terms e (keep_equal fates h)
keep_equal (constant c ∷ fates) (more_terms e h) = keep_equal fates h
keep_equal (not_needed ∷ fates) (more_terms e h) = keep_equal fates h

next_then : {th : Theory} (fates later : List Fate) {o p q : Option (List Term)} → NextDropped th fates o p → NextDropped th later p q → NextDropped th (then_fates fates later) o q
next_then fates later neither_goes_on neither_goes_on = neither_goes_on
next_then {th} fates later (both_go_on {ts = ts} s h) (both_go_on {us = us} r k) =
    let mid = stay_equal later h r in
    both_go_on (join_stay th fates later ts s mid) (subst (λ z. Equals th z us) (sym (keep_then fates later ts (stay_long th later (keep fates ts) mid))) (equals_trans (keep_equal later h) k))

one_then : {th : Theory} {fates later : List Fate} {l m : Linear} {s t u : Summand} → m.params ≡ keep fates l.params → length later ≡ length m.params → IsDropped th fates l s t → IsDropped th later m t u → IsDropped th (then_fates fates later) l s u
one_then {th} {fates} {later} {l} {m} {s} {t} {u} params long a b = record {
  sums = b.sums ∙ a.sums;
  condition = λ e h. transitive (a.condition e (first e h)) (b.condition e (second e h));
  label = λ e h. agree_trans (a.label e (first e h)) (b.label e (second e h));
  next = λ e h. next_then fates later (a.next e (first e h)) (b.next e (second e h));
}
  where
    read : (e : Environment) → keep fates (reading e (variables l.params)) ≡ reading e (variables m.params)
    read e = keep_map (term_in e) fates (variables l.params) ∙ ap (reading e) (sym (ap variables params ∙ keep_variables fates l.params))

    as_many : (e : Environment) → length later ≡ length (keep fates (reading e (variables l.params)))
    as_many e = long ∙ sym (length-map m.params (λ (x : Bound). x.var)) ∙ sym (length-map (variables m.params) (term_in e)) ∙ ap length (sym (read e))

    first : (e : Environment) → IsAt th (then_fates fates later) l s.sums e → IsAt th fates l s.sums e
    first e h = record { sums = h.sums; params = h.params; stay = (split_stay th fates later (reading e (variables l.params)) (as_many e) h.stay).0 }

    second : (e : Environment) → IsAt th (then_fates fates later) l s.sums e → IsAt th later m t.sums e
    second e h = record {
      sums = subst (λ z. AreBound th z e) (sym a.sums) h.sums;
      params = subst (λ ss. AreOfSorts th ss (reading e (variables m.params))) (sym (ap sorts params ∙ keep_sorts fates l.params))
          (subst (λ ts. AreOfSorts th (keep fates (sorts l.params)) ts) (read e) (keep_sorted th.declared [] fates (reading e (variables l.params)) (sorts l.params) h.params));
      stay = subst (λ ts. Stay th later ts) (read e) (split_stay th fates later (reading e (variables l.params)) (as_many e) h.stay).1;
    }

all_then : {th : Theory} {fates later : List Fate} {l m : Linear} {ss ts us : List Summand} → m.params ≡ keep fates l.params → length later ≡ length m.params → AreDropped th fates l ss ts → AreDropped th later m ts us → AreDropped th (then_fates fates later) l ss us
all_then p n no_summand no_summand = no_summand
all_then {l = l} {m = m} p n (one_summand a h) (one_summand b k) = one_summand (one_then {l = l} {m = m} p n a b) (all_then {l = l} {m = m} p n h k)

pub drops_then : (th : Theory) (fates later : List Fate) (l m k : Linear) → Drops th fates l m → Drops th later m k → length later ≡ length m.params → Drops th (then_fates fates later) l k
drops_then th fates later l m k a b n = record {
  params = b.params ∙ ap (keep later) a.params ∙ sym (keep_then fates later l.params (n ∙ ap length a.params));
  summands = all_then {l = l} {m = m} a.params n a.summands b.summands;
}
