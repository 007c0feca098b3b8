-- Runs of a simplifier along a list.
use Rattle.std.proofs.Common.{◌≡◌, ◌<◌, ◌≤◌, ◌+◌, ℕ, List, [], ◌∷◌, ◌++◌, take, length, get_or, sym, ap, ◌∙◌, subst, Option, Some, None}
use Rattle.std.specs.Prelude.{◌↔◌, IfSome}
use Rattle.std.specs.List.{All, AllZip}
use Rattle.std.proofs.lemmas.List.{take_more, take_all}
use Rattle.std.proofs.lemmas.List.Elements.{AllZip-push, All-head, All-tail, All-get_or, All-weaker}
use Rattle.data_theory.specs.declared.ids.TermId.{TermId}
use Rattle.data_theory.specs.Provable.{Equation}
use Rattle.data_theory.specs.Signature.{Sig}
use Rattle.data_theory.specs.Terms.{Term}
use Rattle.data_theory.specs.IdTrees.{Tree}
use Rattle.data_theory.specs.IdTerms.{term_under, IsTreeWithin}
use Rattle.term_pool.specs.Pools.{Extends}
use Rattle.process_terms.specs.PlainProcesses.{PlainAction}
use Rattle.lps_core.specs.PlainLinears.{PlainSummand}
use Rattle.lps_core.proofs.PoolTrees.{extends_itself, extends_on, tree_kept}
use Rattle.data_rewriter.specs.Standing.{IsTerm, term_at}
use Rattle.lps_constelm.specs.Simplified.{IsSimplerTerm}
use Rattle.lps_constelm.specs.Runs.{AreTerms, IsActionWithin, IsSummandWithin, TermBecomes, ActionBecomes, NextBecomes, both_end, both_go_on, SummandBecomes, Runs, Makes}

-- ---- what stays as the pool grows
pub record IsStable (B : Type 0) (Fine : Sig → List Tree → B → Type 0) (Rel : Sig → List Equation → (Term → Type 0) → List Tree → List Tree → B → B → Type 0) : Type 1 where
  pub fine_kept : (g : Sig) (ts us : List Tree) (x : B) → Extends ts us → Fine g ts x → Fine g us x
  pub later : (g : Sig) (own : List Equation) (P : Term → Type 0) (ts us vs : List Tree) (x y : B) → Extends us vs → Rel g own P ts us x y → Rel g own P ts vs x y
  pub sooner : (g : Sig) (own : List Equation) (P : Term → Type 0) (ts us vs : List Tree) (x y : B) → Fine g ts x → Extends ts us → Rel g own P us vs x y → Rel g own P ts vs x y
  pub alike : (g : Sig) (own : List Equation) (P Q : Term → Type 0) (ts us : List Tree) (x y : B) → ((t : Term) → P t → Q t) → Rel g own P ts us x y → Rel g own Q ts us x y

pub zip_weaker : {A B : Type 0} (R S : A → B → Type 0) → ((x : A) (y : B) → R x y → S x y) → (xs : List A) (ys : List B) → AllZip R xs ys → AllZip S xs ys
zip_weaker R S w [] [] h = tt
zip_weaker R S w [] (y ∷ ys) h = absurd h
zip_weaker R S w (x ∷ xs) [] h = absurd h
zip_weaker R S w (x ∷ xs) (y ∷ ys) h = (w x y h.0, zip_weaker R S w xs ys h.1)

-- where it holds of the left ones, too
pub zip_weaker_fine : {A B : Type 0} (P : A → Type 0) (R S : A → B → Type 0) → ((x : A) (y : B) → P x → R x y → S x y) → (xs : List A) (ys : List B) → All P xs → AllZip R xs ys → AllZip S xs ys
zip_weaker_fine P R S w [] [] k h = tt
zip_weaker_fine P R S w [] (y ∷ ys) k h = absurd h
zip_weaker_fine P R S w (x ∷ xs) [] k h = absurd h
zip_weaker_fine P R S w (x ∷ xs) (y ∷ ys) k h = (w x y (All-head P x xs k) h.0, zip_weaker_fine P R S w xs ys (All-tail P x xs k) h.1)

pub both_ways : {A B C : Type 0} → (A ↔ B) → (B ↔ C) → (A ↔ C)
both_ways p q = (λ a. q.0 (p.0 a), λ c. p.1 (q.1 c))

pub record Along (B : Type 0) (Fine : Sig → List Tree → B → Type 0) (Rel : Sig → List Equation → (Term → Type 0) → List Tree → List Tree → B → B → Type 0) (fits fits' : Sig → List Equation → List Tree → Type 0) (simple simple' : Sig → List Equation → Term → Type 0) (old now : List Tree) (all : List B) (i : ℕ) (made : List B) : Type 0 where
  pub runs : Runs fits fits' simple simple' (λ g. All (Fine g old) all) old now
  pub makes : Makes fits simple (λ g. All (Fine g old) all) old (λ g own P. AllZip (Rel g own P old now) (take i all) made)

pub runs_nowhere : (fits : Sig → List Equation → List Tree → Type 0) (simple : Sig → List Equation → Term → Type 0) (IsFine : Sig → Type 0) (ts : List Tree) → Runs fits fits simple simple IsFine ts ts
runs_nowhere fits simple IsFine ts = record { kept = extends_itself ts; fitting = λ g own f h. f; same = λ g own t. (λ k. k, λ k. k) }

-- one run after another
pub runs_on : (f0 f1 f2 : Sig → List Equation → List Tree → Type 0) (s0 s1 s2 : Sig → List Equation → Term → Type 0) (A B C : Sig → Type 0) (ts us vs : List Tree) → Runs f0 f1 s0 s1 A ts us → Runs f1 f2 s1 s2 B us vs → ((g : Sig) → C g → A g) → ((g : Sig) → C g → B g) → Runs f0 f2 s0 s2 C ts vs
runs_on f0 f1 f2 s0 s1 s2 A B C ts us vs p q a b = record {
  kept = extends_on ts us vs p.kept q.kept;
  fitting = λ g own f h. q.fitting g own (p.fitting g own f (a g h)) (b g h);
  same = λ g own t. both_ways (q.same g own t) (p.same g own t);
}

module _ (B : Type 0) (Fine : Sig → List Tree → B → Type 0) (Rel : Sig → List Equation → (Term → Type 0) → List Tree → List Tree → B → B → Type 0) (stable : IsStable B Fine Rel) where
  pub along_none : (fits : Sig → List Equation → List Tree → Type 0) (simple : Sig → List Equation → Term → Type 0) (ts : List Tree) (all made : List B) → made ≡ [] → Along B Fine Rel fits fits simple simple ts ts all 0 made
  along_none fits simple ts all made e = subst (λ z. Along B Fine Rel fits fits simple simple ts ts all 0 z) (sym e) (record { runs = runs_nowhere fits simple (λ g. All (Fine g ts) all) ts; makes = λ g own f w h. tt })

  -- with the next one, whatever came of it
  pub along_fails : (f0 f1 f2 : Sig → List Equation → List Tree → Type 0) (s0 s1 s2 : Sig → List Equation → Term → Type 0) (old now new : List Tree) (all : List B) (i : ℕ) (made : List B) (x : B) → Along B Fine Rel f0 f1 s0 s1 old now all i made → i < length all → x ≡ get_or all i x
      → Runs f1 f2 s1 s2 (λ g. Fine g now x) now new → Runs f0 f2 s0 s2 (λ g. All (Fine g old) all) old new
  along_fails f0 f1 f2 s0 s1 s2 old now new all i made x a l e step =
      runs_on f0 f1 f2 s0 s1 s2 (λ g. All (Fine g old) all) (λ g. Fine g now x) (λ g. All (Fine g old) all) old now new a.runs step (λ g h. h)
      (λ g h. stable.fine_kept g old now x a.runs.kept (subst (λ z. Fine g old z) (sym e) (All-get_or (Fine g old) all i x l h)))

  pub along_more : (f0 f1 f2 : Sig → List Equation → List Tree → Type 0) (s0 s1 s2 : Sig → List Equation → Term → Type 0) (old now new : List Tree) (all : List B) (i : ℕ) (made after : List B) (x y : B) → Along B Fine Rel f0 f1 s0 s1 old now all i made → i < length all → x ≡ get_or all i x
      → Runs f1 f2 s1 s2 (λ g. Fine g now x) now new → Makes f1 s1 (λ g. Fine g now x) now (λ g own P. Rel g own P now new x y) → after ≡ made ++ y ∷ [] → Along B Fine Rel f0 f2 s0 s2 old new all (i + 1) after
  along_more f0 f1 f2 s0 s1 s2 old now new all i made after x y a l e step makes q = subst (λ z. Along B Fine Rel f0 f2 s0 s2 old new all (i + 1) z) (sym q) (record {
    runs = along_fails f0 f1 f2 s0 s1 s2 old now new all i made x a l e step;
    makes = λ g own f w h.
        let fine = subst (λ z. Fine g old z) (sym e) (All-get_or (Fine g old) all i x l h) in
        let before = zip_weaker (Rel g own (s0 g own) old now) (Rel g own (s0 g own) old new) (λ u v k. stable.later g own (s0 g own) old now new u v step.kept k) (take i all) made (a.makes g own f w h) in
        let one = stable.alike g own (s1 g own) (s0 g own) old new x y (λ t k. (a.runs.same g own t).0 k)
        (stable.sooner g own (s1 g own) old now new x y fine a.runs.kept (makes g own (a.runs.fitting g own f h) w (stable.fine_kept g old now x a.runs.kept fine))) in
        subst (λ z. AllZip (Rel g own (s0 g own) old new) z (made ++ y ∷ [])) (ap (λ z. take i all ++ z ∷ []) e ∙ sym (take_more all i x l)) (AllZip-push (Rel g own (s0 g own) old new) (take i all) made x y before one);
  })

  pub along_all : (f0 f1 : Sig → List Equation → List Tree → Type 0) (s0 s1 : Sig → List Equation → Term → Type 0) (old now : List Tree) (all : List B) (i : ℕ) (made : List B) → Along B Fine Rel f0 f1 s0 s1 old now all i made → length all ≤ i
      → Makes f0 s0 (λ g. All (Fine g old) all) old (λ g own P. AllZip (Rel g own P old now) all made)
  along_all f0 f1 s0 s1 old now all i made a l g own f w h = subst (λ z. AllZip (Rel g own (s0 g own) old now) z made) (take_all i all l) (a.makes g own f w h)

-- ---- terms
pub term_kept : (g : Sig) (ts us : List Tree) (id : TermId) → Extends ts us → IsTerm g ts id → IsTerm g us id
term_kept g ts us id e h = let k = tree_kept ts us id e h.inside in record { inside = k.1; within = subst (λ t. IsTreeWithin g t) (sym k.0) h.within }

pub meaning_kept : (g : Sig) (ts us : List Tree) (id : TermId) → Extends ts us → IsTerm g ts id → term_at g us id ≡ term_at g ts id
meaning_kept g ts us id e h = ap (term_under g) (tree_kept ts us id e h.inside).0

term_later : (g : Sig) (own : List Equation) (P : Term → Type 0) (ts us vs : List Tree) (t u : TermId) → Extends us vs → TermBecomes g own P ts us t u → TermBecomes g own P ts vs t u
term_later g own P ts us vs t u e h = record { within = term_kept g us vs u e h.within; simpler = subst (λ z. IsSimplerTerm g own P (term_at g ts t) z) (sym (meaning_kept g us vs u e h.within)) h.simpler }

term_sooner : (g : Sig) (own : List Equation) (P : Term → Type 0) (ts us vs : List Tree) (t u : TermId) → IsTerm g ts t → Extends ts us → TermBecomes g own P us vs t u → TermBecomes g own P ts vs t u
term_sooner g own P ts us vs t u f e h = record { within = h.within; simpler = subst (λ z. IsSimplerTerm g own P z (term_at g vs u)) (meaning_kept g ts us t e f) h.simpler }

term_alike : (g : Sig) (own : List Equation) (P Q : Term → Type 0) (ts us : List Tree) (t u : TermId) → ((z : Term) → P z → Q z) → TermBecomes g own P ts us t u → TermBecomes g own Q ts us t u
term_alike g own P Q ts us t u w h = record { within = h.within; simpler = record { simple = w _ h.simpler.simple; variables = h.simpler.variables; sort = h.simpler.sort; equal = h.simpler.equal } }

pub terms_stable : IsStable TermId IsTerm TermBecomes
terms_stable = record { fine_kept = term_kept; later = term_later; sooner = term_sooner; alike = term_alike }

-- ---- actions
action_fine_kept : (g : Sig) (ts us : List Tree) (a : PlainAction) → Extends ts us → IsActionWithin g ts a → IsActionWithin g us a
action_fine_kept g ts us a e h = All-weaker (IsTerm g ts) (IsTerm g us) (λ id k. term_kept g ts us id e k) a.args h

action_later : (g : Sig) (own : List Equation) (P : Term → Type 0) (ts us vs : List Tree) (a b : PlainAction) → Extends us vs → ActionBecomes g own P ts us a b → ActionBecomes g own P ts vs a b
action_later g own P ts us vs a b e h = record { act = h.act; args = zip_weaker (TermBecomes g own P ts us) (TermBecomes g own P ts vs) (λ t u k. term_later g own P ts us vs t u e k) a.args b.args h.args }

action_sooner : (g : Sig) (own : List Equation) (P : Term → Type 0) (ts us vs : List Tree) (a b : PlainAction) → IsActionWithin g ts a → Extends ts us → ActionBecomes g own P us vs a b → ActionBecomes g own P ts vs a b
action_sooner g own P ts us vs a b f e h = record { act = h.act; args = zip_weaker_fine (IsTerm g ts) (TermBecomes g own P us vs) (TermBecomes g own P ts vs) (λ t u i k. term_sooner g own P ts us vs t u i e k) a.args b.args f h.args }

action_alike : (g : Sig) (own : List Equation) (P Q : Term → Type 0) (ts us : List Tree) (a b : PlainAction) → ((z : Term) → P z → Q z) → ActionBecomes g own P ts us a b → ActionBecomes g own Q ts us a b
action_alike g own P Q ts us a b w h = record { act = h.act; args = zip_weaker (TermBecomes g own P ts us) (TermBecomes g own Q ts us) (λ t u k. term_alike g own P Q ts us t u w k) a.args b.args h.args }

pub actions_stable : IsStable PlainAction IsActionWithin ActionBecomes
actions_stable = record { fine_kept = action_fine_kept; later = action_later; sooner = action_sooner; alike = action_alike }

-- ---- summands
pub next_fine_kept : (g : Sig) (ts us : List Tree) (next : Option (List TermId)) → Extends ts us → IfSome next (AreTerms g ts) → IfSome next (AreTerms g us)
next_fine_kept g ts us None e h = h
next_fine_kept g ts us (Some ids) e h = All-weaker (IsTerm g ts) (IsTerm g us) (λ id k. term_kept g ts us id e k) ids h

pub label_fine_kept : (g : Sig) (ts us : List Tree) (m : List PlainAction) → Extends ts us → All (IsActionWithin g ts) m → All (IsActionWithin g us) m
label_fine_kept g ts us m e h = All-weaker (IsActionWithin g ts) (IsActionWithin g us) (λ a k. action_fine_kept g ts us a e k) m h

pub summand_fine_kept : (g : Sig) (ts us : List Tree) (s : PlainSummand) → Extends ts us → IsSummandWithin g ts s → IsSummandWithin g us s
summand_fine_kept g ts us s e h = record { condition = term_kept g ts us s.condition e h.condition; label = label_fine_kept g ts us s.label e h.label; next = next_fine_kept g ts us s.next e h.next }

pub next_later : (g : Sig) (own : List Equation) (P : Term → Type 0) (ts us vs : List Tree) {o p : Option (List TermId)} → Extends us vs → NextBecomes g own P ts us o p → NextBecomes g own P ts vs o p
next_later g own P ts us vs e both_end = both_end
next_later g own P ts us vs e (both_go_on {xs = xs} {ys = ys} h) = both_go_on (zip_weaker (TermBecomes g own P ts us) (TermBecomes g own P ts vs) (λ t u k. term_later g own P ts us vs t u e k) xs ys h)

pub next_sooner : (g : Sig) (own : List Equation) (P : Term → Type 0) (ts us vs : List Tree) {o p : Option (List TermId)} → IfSome o (AreTerms g ts) → Extends ts us → NextBecomes g own P us vs o p → NextBecomes g own P ts vs o p
next_sooner g own P ts us vs f e both_end = both_end
next_sooner g own P ts us vs f e (both_go_on {xs = xs} {ys = ys} h) = both_go_on (zip_weaker_fine (IsTerm g ts) (TermBecomes g own P us vs) (TermBecomes g own P ts vs) (λ t u i k. term_sooner g own P ts us vs t u i e k) xs ys f h)

pub next_alike : (g : Sig) (own : List Equation) (P Q : Term → Type 0) (ts us : List Tree) {o p : Option (List TermId)} → ((z : Term) → P z → Q z) → NextBecomes g own P ts us o p → NextBecomes g own Q ts us o p
next_alike g own P Q ts us w both_end = both_end
next_alike g own P Q ts us w (both_go_on {xs = xs} {ys = ys} h) = both_go_on (zip_weaker (TermBecomes g own P ts us) (TermBecomes g own Q ts us) (λ t u k. term_alike g own P Q ts us t u w k) xs ys h)

pub label_later : (g : Sig) (own : List Equation) (P : Term → Type 0) (ts us vs : List Tree) (m n : List PlainAction) → Extends us vs → AllZip (ActionBecomes g own P ts us) m n → AllZip (ActionBecomes g own P ts vs) m n
label_later g own P ts us vs m n e h = zip_weaker (ActionBecomes g own P ts us) (ActionBecomes g own P ts vs) (λ a b k. action_later g own P ts us vs a b e k) m n h

pub label_sooner : (g : Sig) (own : List Equation) (P : Term → Type 0) (ts us vs : List Tree) (m n : List PlainAction) → All (IsActionWithin g ts) m → Extends ts us → AllZip (ActionBecomes g own P us vs) m n → AllZip (ActionBecomes g own P ts vs) m n
label_sooner g own P ts us vs m n f e h = zip_weaker_fine (IsActionWithin g ts) (ActionBecomes g own P us vs) (ActionBecomes g own P ts vs) (λ a b i k. action_sooner g own P ts us vs a b i e k) m n f h

pub label_alike : (g : Sig) (own : List Equation) (P Q : Term → Type 0) (ts us : List Tree) (m n : List PlainAction) → ((z : Term) → P z → Q z) → AllZip (ActionBecomes g own P ts us) m n → AllZip (ActionBecomes g own Q ts us) m n
label_alike g own P Q ts us m n w h = zip_weaker (ActionBecomes g own P ts us) (ActionBecomes g own Q ts us) (λ a b k. action_alike g own P Q ts us a b w k) m n h

summand_later : (g : Sig) (own : List Equation) (P : Term → Type 0) (ts us vs : List Tree) (s t : PlainSummand) → Extends us vs → SummandBecomes g own P ts us s t → SummandBecomes g own P ts vs s t
summand_later g own P ts us vs s t e h = record { sums = h.sums; condition = term_later g own P ts us vs s.condition t.condition e h.condition; label = label_later g own P ts us vs s.label t.label e h.label; next = next_later g own P ts us vs e h.next }

summand_sooner : (g : Sig) (own : List Equation) (P : Term → Type 0) (ts us vs : List Tree) (s t : PlainSummand) → IsSummandWithin g ts s → Extends ts us → SummandBecomes g own P us vs s t → SummandBecomes g own P ts vs s t
summand_sooner g own P ts us vs s t f e h = record {
  sums = h.sums;
  condition = term_sooner g own P ts us vs s.condition t.condition f.condition e h.condition;
  label = label_sooner g own P ts us vs s.label t.label f.label e h.label;
  next = next_sooner g own P ts us vs f.next e h.next;
}

summand_alike : (g : Sig) (own : List Equation) (P Q : Term → Type 0) (ts us : List Tree) (s t : PlainSummand) → ((z : Term) → P z → Q z) → SummandBecomes g own P ts us s t → SummandBecomes g own Q ts us s t
summand_alike g own P Q ts us s t w h = record { sums = h.sums; condition = term_alike g own P Q ts us s.condition t.condition w h.condition; label = label_alike g own P Q ts us s.label t.label w h.label; next = next_alike g own P Q ts us w h.next }

pub summands_stable : IsStable PlainSummand IsSummandWithin SummandBecomes
summands_stable = record { fine_kept = summand_fine_kept; later = summand_later; sooner = summand_sooner; alike = summand_alike }
