-- What a simplifier makes of summands and of linear processes, from what it makes of their parts.
use Rattle.std.proofs.Common.{◌≡◌, ◌<◌, ℕ, List, map, length, get_or, sym, ap, ◌∙◌, subst, arith, Option, Some, None}
use Rattle.std.specs.Global.{Global}
use Rattle.std.specs.Prelude.{Vec, IfSome}
use Rattle.std.specs.List.{All, AllZip}
use Rattle.std.proofs.lemmas.List.{get_or-map, length-map}
use Rattle.std.proofs.lemmas.List.Elements.{All-weaker}
use Rattle.data_theory.specs.declared.ids.TermId.{TermId}
use Rattle.data_theory.specs.Provable.{Equation}
use Rattle.data_theory.specs.Signature.{Sig}
use Rattle.data_theory.specs.Terms.{Term}
use Rattle.data_theory.specs.IdTrees.{Tree}
use Rattle.term_pool.specs.Pools.{Extends}
use Rattle.data_rewriter.specs.Simplifying.{AreWellFormed, IsSimplified}
use Rattle.data_rewriter.specs.Standing.{IsTerm, term_at}
use Rattle.lps_core.specs.PlainLinears.{PlainSummand, PlainLinear, plain_next}
use Rattle.lps_core.proofs.PoolTrees.{extends_on}
use Rattle.lps_constelm.specs.Runs.{AreTerms, IsActionWithin, IsSummandWithin, IsLinearWithin, TermBecomes, ActionBecomes, NextBecomes, both_end, both_go_on, SummandBecomes, LinearBecomes, Runs, Makes}
use Rattle.lps_constelm.proofs.RunLoops.{runs_on, zip_weaker, zip_weaker_fine, terms_stable, summands_stable, label_fine_kept, next_fine_kept, summand_fine_kept, label_later, label_sooner, label_alike, next_sooner, next_alike}

abbrev pub Fitting : Type 1
Fitting = Sig → List Equation → List Tree → Type 0

abbrev pub Simple : Type 1
Simple = Sig → List Equation → Term → Type 0

-- ---- items of a list
pub item_at : {A B : Type 0} (f : A → B) (xs : List A) (i : ℕ) (x : A) → i < length xs → x ≡ get_or xs i x → f x ≡ get_or (map f xs) i (f x)
item_at f xs i x l e = ap f e ∙ sym (get_or-map f xs i x (f x) l)

pub item_below : {A B : Type 0} (f : A → B) (xs : List A) (i : ℕ) → i < length xs → i < length (map f xs)
item_below f xs i l = let k = length-map xs f in omega (arith, l, k)

-- ---- one call
pub one_becomes : (g : Sig) (own : List Equation) (P : Term → Type 0) (ts us : List Tree) (t u : TermId) → IsSimplified g own ts us t u → AreWellFormed g own → P (term_at g us u) → TermBecomes g own P ts us t u
one_becomes g own P ts us t u h fine p = record { within = h.term; simpler = record { simple = p; variables = h.variables (λ q i. (fine q i).covered); sort = h.sort fine; equal = h.equal fine } }

-- where more is known
pub runs_for : {f f' : Fitting} {s s' : Simple} {A : Sig → Type 0} (C : Sig → Type 0) {ts us : List Tree} → Runs f f' s s' A ts us → ((g : Sig) → C g → A g) → Runs f f' s s' C ts us
runs_for C r w = record { kept = r.kept; fitting = λ g own f h. r.fitting g own f (w g h); same = r.same }

-- ---- summands
module _ {f0 f1 f2 : Fitting} {s0 s1 s2 : Simple} (t0 t1 t2 : List Tree) (s : PlainSummand) (first : Runs f0 f1 s0 s1 (λ g. IsTerm g t0 s.condition) t0 t1) (then : Runs f1 f2 s1 s2 (λ g. All (IsActionWithin g t1) s.label) t1 t2) where
  pub two_run : Runs f0 f2 s0 s2 (λ g. IsSummandWithin g t0 s) t0 t2
  two_run = runs_on f0 f1 f2 s0 s1 s2 _ _ (λ g. IsSummandWithin g t0 s) t0 t1 t2 first then (λ g h. h.condition) (λ g h. label_fine_kept g t0 t1 s.label first.kept h.label)

  module _ {f3 : Fitting} {s3 : Simple} (t3 : List Tree) (last : Runs f2 f3 s2 s3 (λ g. IfSome s.next (AreTerms g t2)) t2 t3) where
    pub three_run : Runs f0 f3 s0 s3 (λ g. IsSummandWithin g t0 s) t0 t3
    three_run = runs_on f0 f2 f3 s0 s2 s3 _ _ (λ g. IsSummandWithin g t0 s) t0 t2 t3 two_run last (λ g h. h) (λ g h. next_fine_kept g t0 t2 s.next (extends_on t0 t1 t2 first.kept then.kept) h.next)

    pub summand_made : (new : PlainSummand) → new.sums ≡ s.sums → Makes f0 s0 (λ g. IsTerm g t0 s.condition) t0 (λ g own P. TermBecomes g own P t0 t1 s.condition new.condition)
        → Makes f1 s1 (λ g. All (IsActionWithin g t1) s.label) t1 (λ g own P. AllZip (ActionBecomes g own P t1 t2) s.label new.label)
        → Makes f2 s2 (λ g. IfSome s.next (AreTerms g t2)) t2 (λ g own P. NextBecomes g own P t2 t3 s.next new.next)
        → Makes f0 s0 (λ g. IsSummandWithin g t0 s) t0 (λ g own P. SummandBecomes g own P t0 t3 s new)
    summand_made new sums condition label next g own f w h =
        let k1 = first.fitting g own f h.condition in
        let l1 = label_fine_kept g t0 t1 s.label first.kept h.label in
        let k2 = then.fitting g own k1 l1 in
        let both = extends_on t0 t1 t2 first.kept then.kept in
        let l2 = next_fine_kept g t0 t2 s.next both h.next in
        record {
          sums = sums;
          condition = terms_stable.later g own (s0 g own) t0 t1 t3 s.condition new.condition (extends_on t1 t2 t3 then.kept last.kept) (condition g own f w h.condition);
          label = label_later g own (s0 g own) t0 t2 t3 s.label new.label last.kept
              (label_alike g own (s1 g own) (s0 g own) t0 t2 s.label new.label (λ t. (first.same g own t).0) (label_sooner g own (s1 g own) t0 t1 t2 s.label new.label h.label first.kept (label g own k1 w l1)));
          next = next_alike g own (s2 g own) (s0 g own) t0 t3 (λ t p. (first.same g own t).0 ((then.same g own t).0 p)) (next_sooner g own (s2 g own) t0 t2 t3 h.next both (next g own k2 w l2));
        }

-- ---- linear processes
pub lin_within : (g : Sig) (ts us : List Tree) (l : PlainLinear) → Extends ts us → IsLinearWithin g ts l → All (IsSummandWithin g us) l.summands
lin_within g ts us l e h = All-weaker (IsSummandWithin g ts) (IsSummandWithin g us) (λ s k. summand_fine_kept g ts us s e k) l.summands h.summands

module _ {f0 f1 f2 : Fitting} {s0 s1 s2 : Simple} (t0 t1 t2 : List Tree) (l : PlainLinear) (first : Runs f0 f1 s0 s1 (λ g. AreTerms g t0 l.init) t0 t1) (then : Runs f1 f2 s1 s2 (λ g. All (IsSummandWithin g t1) l.summands) t1 t2) where
  all_within : (g : Sig) → IsLinearWithin g t0 l → All (IsSummandWithin g t1) l.summands
  all_within g h = lin_within g t0 t1 l first.kept h

  pub linear_runs : Runs f0 f2 s0 s2 (λ g. IsLinearWithin g t0 l) t0 t2
  linear_runs = runs_on f0 f1 f2 s0 s1 s2 _ _ (λ g. IsLinearWithin g t0 l) t0 t1 t2 first then (λ g h. h.init) all_within

  pub linear_made : (k : PlainLinear) → k.params ≡ l.params → Makes f0 s0 (λ g. AreTerms g t0 l.init) t0 (λ g own P. AllZip (TermBecomes g own P t0 t1) l.init k.init)
      → Makes f1 s1 (λ g. All (IsSummandWithin g t1) l.summands) t1 (λ g own P. AllZip (SummandBecomes g own P t1 t2) l.summands k.summands)
      → Makes f0 s0 (λ g. IsLinearWithin g t0 l) t0 (λ g own P. LinearBecomes g own P t0 t2 l k)
  linear_made k params init summands g own f w h =
      let k1 = first.fitting g own f h.init in
      record {
        params = params;
        init = zip_weaker (TermBecomes g own (s0 g own) t0 t1) (TermBecomes g own (s0 g own) t0 t2) (λ t u b. terms_stable.later g own (s0 g own) t0 t1 t2 t u then.kept b) l.init k.init (init g own f w h.init);
        summands = zip_weaker_fine (IsSummandWithin g t0) (SummandBecomes g own (s1 g own) t1 t2) (SummandBecomes g own (s0 g own) t0 t2)
            (λ s t i b. summands_stable.alike g own (s1 g own) (s0 g own) t0 t2 s t (λ z. (first.same g own z).0) (summands_stable.sooner g own (s1 g own) t0 t1 t2 s t i first.kept b)) l.summands k.summands h.summands (summands g own k1 w (all_within g h));
      }

-- ---- where the pool grows
pub runs_grown : {f f' : Fitting} {s s' : Simple} {A : Sig → Type 0} {ts now us : List Tree} → Runs f f' s s' A ts now → Extends now us → ((g : Sig) (own : List Equation) → f' g own now → f' g own us) → Runs f f' s s' A ts us
runs_grown {ts = ts} {now = now} {us = us} r e grow = record { kept = extends_on ts now us r.kept e; fitting = λ g own f h. grow g own (r.fitting g own f h); same = r.same }

pub runs_first_grown : {f f' : Fitting} {s s' : Simple} {A : Sig → Type 0} (C : Sig → Type 0) {ts now us : List Tree} → Extends ts now → ((g : Sig) (own : List Equation) → f g own ts → f g own now) → Runs f f' s s' A now us → ((g : Sig) → C g → A g) → Runs f f' s s' C ts us
runs_first_grown C {ts = ts} {now = now} {us = us} e grow r w = record { kept = extends_on ts now us e r.kept; fitting = λ g own f h. r.fitting g own (grow g own f) (w g h); same = r.same }

-- ---- next terms
pub next_some : (g : Sig) (ts : List Tree) (next : Option (Vec TermId Global)) (terms : Vec TermId Global) (args : List TermId) → next ≡ Some terms → args ≡ terms.items → IfSome (plain_next next) (AreTerms g ts) → AreTerms g ts args
next_some g ts next terms args e q h = subst (AreTerms g ts) (sym q) (subst (λ o. IfSome (plain_next o) (AreTerms g ts)) e h)

pub next_made : (g : Sig) (own : List Equation) (P : Term → Type 0) (ts us : List Tree) (next : Option (Vec TermId Global)) (terms made : Vec TermId Global) (args : List TermId) → next ≡ Some terms → args ≡ terms.items → AllZip (TermBecomes g own P ts us) args made.items
    → NextBecomes g own P ts us (plain_next next) (Some made.items)
next_made g own P ts us next terms made args e q h = subst (λ o. NextBecomes g own P ts us (plain_next o) (Some made.items)) (sym e) (both_go_on (subst (λ z. AllZip (TermBecomes g own P ts us) z made.items) q h))

pub next_none : (g : Sig) (own : List Equation) (P : Term → Type 0) (ts us : List Tree) (next : Option (Vec TermId Global)) → next ≡ None → NextBecomes g own P ts us (plain_next next) None
next_none g own P ts us next e = subst (λ o. NextBecomes g own P ts us (plain_next o) None) (sym e) both_end
