-- One combination after another: what is made of a summand is an answer, and some answers more.
use Rattle.std.proofs.Common.{◌≡◌, ◌<◌, ℕ, suc, Bool, true, false, List, [], ◌∷◌, ◌++◌, map, length, refl, sym, ap, ap₂, ◌∙◌, subst, append_assoc, append-nil, Option, Some, None}
use Rattle.std.specs.Prelude.{IfSome, option_map, slice_get}
use Rattle.std.specs.Option.{option_or}
use Rattle.std.specs.List.{All, AllZip, zip}
use Rattle.std.proofs.lemmas.List.{map-append}
use Rattle.std.proofs.lemmas.List.Elements.{All-nil, All-cons, All-head, All-tail, All-append, All-weaker}
use Rattle.std.proofs.lemmas.Slice.Zip.{all_zipped_more}
use Rattle.data_theory.specs.declared.ids.ActId.{ActId}
use Rattle.data_theory.specs.declared.ids.VarId.{VarId}
use Rattle.data_theory.specs.declared.ids.TermId.{TermId}
use Rattle.data_theory.specs.Terms.{Sort, Term, put}
use Rattle.data_theory.specs.Declarations.{HaveSorts}
use Rattle.data_theory.specs.Environments.{Environment, term_in, bound, terms_of}
use Rattle.data_theory.specs.Provable.{Equation}
use Rattle.data_theory.specs.Rewriting.{Decision, yes_decided, no_decided, IsDecided}
use Rattle.data_theory.specs.Signature.{Sig}
use Rattle.data_theory.specs.WholeSignatures.{IsSignature}
use Rattle.data_theory.specs.IdData.{data_meant}
use Rattle.data_theory.specs.IdTrees.{Tree}
use Rattle.data_theory.specs.IdTerms.{sort_under, variable_sorts}
use Rattle.data_theory.proofs.IdDataLemmas.{meant_data_are_data}
use Rattle.term_pool.specs.Bindings.{listed_terms}
use Rattle.term_pool.specs.HeadTrees.{IsIn, AreIn}
use Rattle.term_pool.specs.Pools.{Extends}
use Rattle.data_rewriter.specs.Simplifying.{AreWellFormed}
use Rattle.data_rewriter.specs.Standing as standing
use Rattle.data_rewriter.specs.Standing.{IsTerm}
use Rattle.data_rewriter.proofs.Standings.{term_kept, term_stays}
use Rattle.process_terms.specs.PlainProcesses.{PlainAction}
use Rattle.process_terms.specs.Labels.{Action, Label, put_label, put_action}
use Rattle.process_terms.specs.Meanings.{bound_at, term_at, action_at, action_of, label_of}
use Rattle.process_terms.specs.SignatureEntries.{entries_of, action_entry}
use Rattle.bisim_laws.specs.LinearProcesses.{Summand, variables, sorts, LabelIsSorted, action_sorted, NextIsSorted, next_sorted, put_next}
use Rattle.lps_core.specs.Fitting.{AreTermsOf, IsActionOf, IsVariable, sort_of_variable, SummandFits, Fits}
use Rattle.lps_core.specs.PlainLinears.{PlainSummand, PlainLinear, summand_of, linear_of}
use Rattle.lps_core.specs.TreeSummands.{numbers_of}
use Rattle.lps_core.proofs.MeantTrees.{numbers_meant}
use Rattle.lps_core.proofs.Staying.{term_is, terms_are, action_is, sorts_of_variables}
use Rattle.lps_simulator.specs.Rewritten.{IsRewritten, ActionIsRewritten, LabelIsRewritten, NextIsRewritten, both_end, both_go_on, environment_of, IsActionOver, IsRewrittenTerm, IsRewrittenAction, IsRewrittenNext, no_next, next_terms}
use Rattle.lps_simulator.specs.SumValues.{IsClosedTerm}
use Rattle.lps_simulator.specs.Options.{Answer, it_does, it_does_nothing, it_is_open, IsAnswer, open_decision, environment_at, moves_of, first_open}
use Rattle.lps_simulator.specs.OptionsInCode.{PlainMove, IsState, IsMove, meant_move, terms_at}
use Rattle.lps_simulator.specs.Trying.{IsSummandOver, IsMade, TriesWith, with_move, without_move, left_open, SumsAreTried}
use Rattle.lps_simulator.proofs.Bindings.{environment_kept, next_stays_over, terms_stay, both_mean}
use Rattle.lps_simulator.proofs.RewrittenTerms.{actions_from, next_from}
use Rattle.lps_simulator.proofs.RewrittenClosed.{label_sorts_kept, next_sorts_kept}
use Rattle.lps_simulator.proofs.ClosedInstances.{IsInstance}
use Rattle.lps_simulator.proofs.FittingSummands.{terms_back, key_within, sorts_within, moves_stay, moves_mean}

-- ---- over a later pool and over the first one
pub summand_stays_over : (g : Sig) (ts us : List Tree) → Extends ts us → (s : PlainSummand) → IsSummandOver g ts s → IsSummandOver g us s
summand_stays_over g ts us e s h = record {
  condition = term_stays g ts us e s.condition h.condition;
  label = All-weaker (IsActionOver g ts) (IsActionOver g us) (λ a k. record { key = k.key; stands = k.stands; args = terms_stay g ts us a.args e k.args }) s.label h.label;
  next = next_stays_over g ts us s.next e h.next;
}

module _ (g : Sig) (own : List Equation) (fuel : ℕ) (ts us : List Tree) (by : List (VarId × TermId)) (grows : Extends ts us) (over : All (IsTerm g ts) (listed_terms by)) (s : PlainSummand) (stands : IsSummandOver g ts s) where
  decided_from : (d : Decision) → IsDecided (data_meant g) own fuel (put (term_in (environment_of g us by)) (standing.term_at g us s.condition)) d → IsDecided (data_meant g) own fuel (put (term_in (environment_of g ts by)) (standing.term_at g ts s.condition)) d
  decided_from d h =
      subst (λ z. IsDecided (data_meant g) own fuel (put (term_in (environment_of g ts by)) z) d) (term_kept g ts us s.condition grows stands.condition.inside)
      (subst (λ e. IsDecided (data_meant g) own fuel (put (term_in e) (standing.term_at g us s.condition)) d) (environment_kept g ts us by grows over) h)

  pub made_from : (vs : List Tree) (k : ℕ) (m : PlainMove) → IsMade g own fuel (environment_of g us by) us vs k s m → IsMade g own fuel (environment_of g ts by) ts vs k s m
  made_from vs k m made = record {
    summand = made.summand;
    label = actions_from g own fuel ts us by grows over vs s.label m.label stands.label made.label;
    next = next_from g own fuel ts us by grows over vs stands.next made.next;
  }

  pub tries_from : (vs : List Tree) (k : ℕ) (old new : List PlainMove) (why : Option Bool) → TriesWith g own fuel (environment_of g us by) us vs k s old new why → TriesWith g own fuel (environment_of g ts by) ts vs k s old new why
  tries_from vs k old new _ (with_move m d made e) =
      with_move m (decided_from yes_decided d) (made_from vs k m made) e
  tries_from vs k old new _ (without_move d e) = without_move (decided_from no_decided d) e
  tries_from vs k old new _ (left_open b d e) = left_open b (decided_from (open_decision b) d) e

-- ---- the answer for a combination
pub record Answered (g : Sig) (own : List Equation) (fuel : ℕ) (s : Summand) (e : Environment) (us : List Tree) (params : List VarId) (k : ℕ) (old new : List PlainMove) (why : Option Bool) : Type 0 where
  pub answer : Answer
  pub is : IsAnswer (data_meant g) own fuel s e answer
  pub made : List PlainMove
  pub added : new ≡ old ++ made
  pub stand : All (IsMove g us params) made
  pub moves : map (meant_move g us) made ≡ moves_of k (answer ∷ [])
  pub open_is : why ≡ first_open (answer ∷ [])

-- ---- rewritten terms mean rewritten terms
module _ (g : Sig) (own : List Equation) (fuel : ℕ) (e : Environment) (ts vs : List Tree) where
  term_means : (t u : TermId) → IsIn ts t → IsRewrittenTerm g own fuel e ts vs t u → IsRewritten (data_meant g) own fuel (put (term_in e) (term_at (entries_of g ts) t)) (term_at (entries_of g vs) u)
  term_means t u i h =
      subst (λ z. IsRewritten (data_meant g) own fuel (put (term_in e) z) (term_at (entries_of g vs) u)) (sym (term_is g ts t i))
      (subst (λ z. IsRewritten (data_meant g) own fuel (put (term_in e) (standing.term_at g ts t)) z) (sym (term_is g vs u h.term.inside)) h.becomes)

  args_mean : (xs ys : List TermId) → All (IsTerm g ts) xs → AllZip (IsRewrittenTerm g own fuel e ts vs) xs ys → AllZip (IsRewritten (data_meant g) own fuel) (map (put (term_in e)) (terms_at g ts xs)) (terms_at g vs ys)
  args_mean [] [] h k = tt
  args_mean [] (y ∷ ys) h k = absurd k
  args_mean (x ∷ xs) [] h k = absurd k
  args_mean (x ∷ xs) (y ∷ ys) h k = (term_means x y (All-head (IsTerm g ts) x xs h).inside k.0, args_mean xs ys (All-tail (IsTerm g ts) x xs h) k.1)

  label_means : (m n : List PlainAction) → All (IsActionOver g ts) m → AllZip (IsRewrittenAction g own fuel e ts vs) m n → LabelIsRewritten (data_meant g) own fuel (put_label e (label_of (entries_of g ts) m)) (label_of (entries_of g vs) n)
  label_means [] [] h k = tt
  label_means [] (b ∷ n) h k = absurd k
  label_means (a ∷ m) [] h k = absurd k
  label_means (a ∷ m) (b ∷ n) h k = (
    record {
      name = ap (λ x. (action_at (entries_of g ts) x).name) k.0.act;
      sorts = ap (λ x. (action_at (entries_of g ts) x).sorts) k.0.act;
      args = args_mean a.args b.args (All-head (IsActionOver g ts) a m h).args k.0.args;
    },
    label_means m n (All-tail (IsActionOver g ts) a m h) k.1,
  )

  next_means : {o q : Option (List TermId)} → IfSome o (All (IsTerm g ts)) → IsRewrittenNext g own fuel e ts vs o q → NextIsRewritten (data_meant g) own fuel (put_next e (option_map (terms_at g ts) o)) (option_map (terms_at g vs) q)
  next_means h no_next = both_end
  next_means h (next_terms {ids = ids} {made = made} k) = both_go_on (args_mean ids made h k)

  -- what is made stands in the new pool
  made_over : (xs ys : List TermId) → AllZip (IsRewrittenTerm g own fuel e ts vs) xs ys → All (IsTerm g vs) ys
  made_over [] [] k = All-nil (IsTerm g vs)
  made_over [] (y ∷ ys) k = absurd k
  made_over (x ∷ xs) [] k = absurd k
  made_over (x ∷ xs) (y ∷ ys) k = All-cons (IsTerm g vs) y ys k.0.term (made_over xs ys k.1)

  module _ (stands : IsSignature g) where
    actions_stand : (m n : List PlainAction) → All (IsActionOf g ts) m → AllZip (IsRewrittenAction g own fuel e ts vs) m n → LabelIsSorted (data_meant g) [] (label_of (entries_of g vs) n) → All (IsActionOf g vs) n
    actions_stand [] [] h k c = All-nil (IsActionOf g vs)
    actions_stand [] (b ∷ n) h k c = absurd k
    actions_stand (a ∷ m) [] h k c = absurd k
    actions_stand (a ∷ m) (b ∷ n) h k (action_sorted c cs) =
        let o = All-head (IsActionOf g ts) a m h in
        let same : (action_at (entries_of g vs) b.act).sorts ≡ map (sort_under g) o.key.sorts = ap (λ x. (action_at (entries_of g ts) x).sorts) k.0.act ∙ ap (λ z. z.sorts) (action_is g ts a o) in
        All-cons (IsActionOf g vs) b n
        (record {
          key = o.key;
          stands = ap (λ (x : ActId). slice_get g.actions x.0) k.0.act ∙ o.stands;
          args = terms_back g stands vs o.key.sorts b.args (made_over a.args b.args k.0.args) (key_within g stands vs o.key a.act.0 o.stands) (subst (λ ss. HaveSorts (data_meant g) [] (terms_of (terms_at g vs b.args)) ss) same c);
        })
        (actions_stand m n (All-tail (IsActionOf g ts) a m h) k.1 cs)

    next_stands : (ps : List VarId) → All (IsVariable g) ps → {o q : Option (List TermId)} → IsRewrittenNext g own fuel e ts vs o q → NextIsSorted (data_meant g) [] (sorts (map (bound_at (entries_of g ts)) ps)) (option_map (terms_at g vs) q) → IfSome q (IsState g vs ps)
    next_stands ps vars no_next h = tt
    next_stands ps vars (next_terms {ids = ids} {made = made} k) (next_sorted h) = record {
      terms = terms_back g stands vs (map (sort_of_variable g) ps) made (made_over ids made k) (sorts_within g stands vs ps vars) (subst (λ ss. HaveSorts (data_meant g) [] (terms_of (terms_at g vs made)) ss) (sorts_of_variables g ts ps vars) h);
      closed = h;
    }

-- ---- one combination
module _
    (g : Sig) (stands : IsSignature g) (own : List Equation) (fine : AreWellFormed g own) (fuel : ℕ) (ts vs : List Tree) (l : PlainLinear) (fits : Fits g ts l) (s : PlainSummand) (fit : SummandFits g ts l.params s) (over : IsSummandOver g ts s)
    (e : Environment) (state c : List Term) (is_env : e ≡ environment_at (linear_of (entries_of g ts) l) (summand_of (entries_of g ts) s) state c) (instance : IsInstance (data_meant g) (linear_of (entries_of g ts) l) (summand_of (entries_of g ts) s) state c) where
  condition_means : (d : Decision) → IsDecided (data_meant g) own fuel (put (term_in e) (standing.term_at g ts s.condition)) d → IsDecided (data_meant g) own fuel (put (term_in e) (summand_of (entries_of g ts) s).condition) d
  condition_means d h = subst (λ z. IsDecided (data_meant g) own fuel (put (term_in e) z) d) (sym (term_is g ts s.condition over.condition.inside)) h

  answer_with : (m : PlainMove) (k : ℕ) (old new : List PlainMove) → IsDecided (data_meant g) own fuel (put (term_in e) (standing.term_at g ts s.condition)) yes_decided → IsMade g own fuel e ts vs k s m → new ≡ old ++ m ∷ []
      → Answered g own fuel (summand_of (entries_of g ts) s) e vs l.params k old new None
  answer_with m k old new d made q =
      let formed = meant_data_are_data g stands.table stands.roles in
      let label = label_means g own fuel e ts vs s.label m.label over.label made.label in
      let next = next_means g own fuel e ts vs over.next made.next in
      let label_closed : LabelIsSorted (data_meant g) [] (label_of (entries_of g vs) m.label) =
      label_sorts_kept (data_meant g) own formed fine fuel (put_label e (label_of (entries_of g ts) s.label)) (label_of (entries_of g vs) m.label)
      (subst (λ d. LabelIsSorted (data_meant g) [] (put_label d (label_of (entries_of g ts) s.label))) (sym is_env) instance.label) label in
      let next_closed : NextIsSorted (data_meant g) [] (sorts (map (bound_at (entries_of g ts)) l.params)) (option_map (terms_at g vs) m.next) =
      next_sorts_kept (data_meant g) own formed fine fuel (sorts (map (bound_at (entries_of g ts)) l.params))
      (subst (λ d. NextIsSorted (data_meant g) [] (sorts (map (bound_at (entries_of g ts)) l.params)) (put_next d (summand_of (entries_of g ts) s).next)) (sym is_env) instance.next) next in
      record {
        answer = it_does (label_of (entries_of g vs) m.label) (option_map (terms_at g vs) m.next);
        is = (condition_means yes_decided d, label, next);
        made = m ∷ [];
        added = q;
        stand = All-cons (IsMove g vs l.params) m []
            (record {
              label = actions_stand g own fuel e ts vs stands s.label m.label fit.label made.label label_closed;
              closed = label_closed;
              next = next_stands g own fuel e ts vs stands l.params fits.params made.next next_closed;
            })
            (All-nil (IsMove g vs l.params));
        moves = ap (λ n. record { summand = n; label = label_of (entries_of g vs) m.label; next = option_map (terms_at g vs) m.next } ∷ []) made.summand;
        open_is = refl;
      }

  pub answered : (k : ℕ) (old new : List PlainMove) (why : Option Bool) → TriesWith g own fuel e ts vs k s old new why → Answered g own fuel (summand_of (entries_of g ts) s) e vs l.params k old new why
  answered k old new _ (with_move m d made q) = answer_with m k old new d made q
  answered k old new _ (without_move d q) = record {
    answer = it_does_nothing;
    is = condition_means no_decided d;
    made = [];
    added = q ∙ sym (append-nil old);
    stand = All-nil (IsMove g vs l.params);
    moves = refl;
    open_is = refl;
  }
  answered k old new _ (left_open b d q) = record {
    answer = it_is_open b;
    is = condition_means (open_decision b) d;
    made = [];
    added = q ∙ sym (append-nil old);
    stand = All-nil (IsMove g vs l.params);
    moves = refl;
    open_is = refl;
  }

-- ---- answers one after another
moves_append : (k : ℕ) (olds bs : List Answer) → moves_of k (olds ++ bs) ≡ moves_of k olds ++ moves_of k bs
moves_append k [] bs = refl
moves_append k (it_does m next ∷ olds) bs = ap (λ z. record { summand = k; label = m; next = next } ∷ z) (moves_append k olds bs)
moves_append k (it_does_nothing ∷ olds) bs = moves_append k olds bs
moves_append k (it_is_open b ∷ olds) bs = moves_append k olds bs

open_append : (olds bs : List Answer) → first_open (olds ++ bs) ≡ option_or (first_open olds) (first_open bs)
open_append [] bs = refl
open_append (it_does m next ∷ olds) bs = open_append olds bs
open_append (it_does_nothing ∷ olds) bs = open_append olds bs
open_append (it_is_open b ∷ olds) bs = refl

module _ (g : Sig) (own : List Equation) (fuel : ℕ) (ts : List Tree) (l : PlainLinear) (state : List TermId) (k : ℕ) (s : PlainSummand) (all : List (List TermId)) (old : List PlainMove) where
  pub tried_none : SumsAreTried g own fuel ts ts l state k s all all old old None
  tried_none = record { done = []; split = refl; answers = []; each = tt; made = []; added = sym (append-nil old); stand = All-nil (IsMove g ts l.params); moves = refl; open_is = refl }

  pub tried_more : (us vs : List Tree) → Extends us vs → (c : List TermId) (left : List (List TermId)) (mid new : List PlainMove) (before more why : Option Bool) → SumsAreTried g own fuel ts us l state k s all (c ∷ left) old mid before
      → Answered g own fuel (summand_of (entries_of g ts) s) (environment_at (linear_of (entries_of g ts) l) (summand_of (entries_of g ts) s) (terms_at g ts state) (map (standing.term_at g ts) c)) vs l.params k mid new why → more ≡ option_or before why
      → SumsAreTried g own fuel ts vs l state k s all left old new more
  tried_more us vs grows c left mid new before more why h a q = record {
    done = h.done ++ c ∷ [];
    split = h.split ∙ sym (append_assoc h.done (c ∷ []) left);
    answers = h.answers ++ a.answer ∷ [];
    each = all_zipped_more (λ (c : List TermId). IsAnswer (data_meant g) own fuel (summand_of (entries_of g ts) s) (environment_at (linear_of (entries_of g ts) l) (summand_of (entries_of g ts) s) (terms_at g ts state) (map (standing.term_at g ts) c))) h.done h.answers c a.answer h.each a.is;
    made = h.made ++ a.made;
    added = a.added ∙ ap (λ z. z ++ a.made) h.added ∙ append_assoc old h.made a.made;
    stand = All-append (IsMove g vs l.params) h.made a.made (moves_stay g us vs grows l.params h.made h.stand) a.stand;
    moves =
        map-append (meant_move g vs) h.made a.made
        ∙ ap₂ (λ x y. x ++ y) (moves_mean g us vs grows l.params h.made h.stand ∙ h.moves) a.moves
        ∙ sym (moves_append k h.answers (a.answer ∷ []));
    open_is = q ∙ ap₂ option_or h.open_is a.open_is ∙ sym (open_append h.answers (a.answer ∷ []));
  }
