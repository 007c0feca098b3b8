-- Sorts are found without terms.
use Rattle.std.proofs.Common.{◌≡◌, Bool, true, false, cond, ◌&&◌, ◌||◌, List, [], ◌∷◌, ◌++◌, map, refl, sym, ap, ◌∙◌}
use Rattle.std.specs.Prelude.{Option, Some, None, is_some, option_map, option_and_then, option_to_list, pos}
use Rattle.std.specs.Option.{option_or}
use Rattle.data_theory.specs.Terms.{Sort, list, Symbol, empty, cons, Term, Terms, apply}
use Rattle.data_theory.specs.Terms as terms
use Rattle.sort_table.specs.Expressions.{Name, Expressions, numeral, listed, word, none, more}
use Rattle.data_typing.specs.Typings.{sort_eq, upcast_to, wider, widest_from, widest, Inferred, Typing, embedded, flexible, exactly, checked, all_at, Signature, applied, first_exact, first_fitting, first_of, Place, elements, over, read_off, Scheme, scheme_at, candidates, first_candidate, by_result, Meaning, bound, functions, call_infers, call_by_sort, list_of, list_by_sort, list_infers, word_typing, least_sort, typings}
use Rattle.data_typing.specs.Plans.{TellAll}
use Rattle.data_typing.specs.Sortings.{Sorting, Profile, profile, any_profile, is_at, fits_in, all_same, all_check, result_where, first_exact_sort, first_fitting_sort, result_over, first_told, first_candidate_sort, checks_over, checks_by_result, call_sort, may_check, sorting, widest_sort_from, widest_sort, each_checks, each_checks_at, list_sorting, word_sorting, sortings_of, Tells, SortsGoBeforeTerms}

abbrev pub sort_in : Option Inferred → Option Sort
sort_in o = option_map (λ (i : Inferred). i.sort) o

-- ---- options
pub both_there : {A B C : Type 0} (f : A → B → C) (o : Option A) (p : Option B) → is_some o && is_some p ≡ is_some (option_and_then (λ u. option_map (f u) p) o)
both_there f None p = refl
both_there f (Some x) None = refl
both_there f (Some x) (Some y) = refl

pub there_if : {A : Type 0} (b : Bool) (x : A) → b ≡ is_some (cond b (Some x) None)
there_if true x = refl
there_if false x = refl

map_or : {A B : Type 0} (f : A → B) (o p : Option A) → option_map f (option_or o p) ≡ option_or (option_map f o) (option_map f p)
map_or f None p = refl
map_or f (Some x) p = refl

or_there : {A : Type 0} (o p : Option A) → cond (is_some o) true (is_some p) ≡ is_some (option_or o p)
or_there None p = refl
or_there (Some x) p = refl

sort_made : {A : Type 0} (f : A → Term) (r : Sort) (o : Option A) → cond (is_some o) (Some r) None ≡ sort_in (option_map (λ x. record { term = f x; sort = r }) o)
sort_made f r None = refl
sort_made f r (Some x) = refl

pub first_behind : {A B : Type 0} (f : A → Option B) (o : Option A) (xs : List A) → first_of f (option_to_list o ++ xs) ≡ option_or (option_and_then f o) (first_of f xs)
first_behind f None xs = refl
first_behind f (Some x) xs = refl

pub still_there : {A B : Type 0} (f : A → B) (o : Option A) → is_some o ≡ is_some (option_map f o)
still_there f None = refl
still_there f (Some x) = refl

-- ---- arguments
at_told : (r : Sort) (o : Option Inferred) → is_at r (sort_in o) ≡ is_some (option_and_then (λ i. cond (sort_eq i.sort r) (Some i.term) None) o)
at_told r None = refl
at_told r (Some i) = there_if (sort_eq i.sort r) i.term

embedded_there : (b : Bool) (t : Term) (f : Symbol → Term) (o : Option Symbol) → b || is_some o ≡ is_some (cond b (Some t) (option_map f o))
embedded_there true t f o = refl
embedded_there false t f o = still_there f o

fits_told : (r : Sort) (o : Option Inferred) → fits_in r (sort_in o) ≡ is_some (option_and_then (embedded r) o)
fits_told r None = refl
fits_told r (Some i) = embedded_there (sort_eq i.sort r) i.term (λ f. apply f (terms.more i.term terms.none)) (upcast_to i.sort r)

pub all_same_told : (rs : List Sort) (ss : List Sorting) (ts : List Typing) → TellAll ss ts → all_same rs ss ≡ is_some (all_at exactly rs ts)
all_same_told [] [] [] h = refl
all_same_told [] (s ∷ ss) (t ∷ ts) h = refl
all_same_told (r ∷ rs) [] [] h = refl
all_same_told (r ∷ rs) (s ∷ ss) (t ∷ ts) h =
    ap (λ b. b && all_same rs ss) (ap (is_at r) h.0.infers ∙ at_told r t.infers)
    ∙ ap (λ b. is_some (exactly r t) && b) (all_same_told rs ss ts h.1)
    ∙ both_there terms.more (exactly r t) (all_at exactly rs ts)
all_same_told rs [] (t ∷ ts) h = absurd h
all_same_told rs (s ∷ ss) [] h = absurd h

pub all_check_told : (rs : List Sort) (ss : List Sorting) (ts : List Typing) → TellAll ss ts → all_check rs ss ≡ is_some (all_at checked rs ts)
all_check_told [] [] [] h = refl
all_check_told [] (s ∷ ss) (t ∷ ts) h = refl
all_check_told (r ∷ rs) [] [] h = refl
all_check_told (r ∷ rs) (s ∷ ss) (t ∷ ts) h =
    ap (λ b. b && all_check rs ss) (h.0.checks r)
    ∙ ap (λ b. is_some (checked r t) && b) (all_check_told rs ss ts h.1)
    ∙ both_there terms.more (checked r t) (all_at checked rs ts)
all_check_told rs [] (t ∷ ts) h = absurd h
all_check_told rs (s ∷ ss) [] h = absurd h

-- ---- calls
first_result_told : (how : Sort → Typing → Option Term) (test : Profile → Bool) (ts : List Typing)
    → ((f : Signature) → test (profile f) ≡ is_some (all_at how f.arguments ts)) → (fs : List Signature)
    → first_of (result_where test) (map profile fs) ≡ sort_in (first_of (applied how ts) fs)
first_result_told how test ts k [] = refl
first_result_told how test ts k (f ∷ fs) =
    let first : result_where test (profile f) ≡ sort_in (applied how ts f) =
    ap (λ b. cond b (Some f.result) None) (k f) ∙ sort_made (apply f.symbol) f.result (all_at how f.arguments ts) in
    ap (λ o. option_or o (first_of (result_where test) (map profile fs))) first
    ∙ ap (option_or (sort_in (applied how ts f))) (first_result_told how test ts k fs)
    ∙ sym (map_or (λ (i : Inferred). i.sort) (applied how ts f) (first_of (applied how ts) fs))

pub first_exact_told : (ss : List Sorting) (ts : List Typing) → TellAll ss ts → (fs : List Signature) → first_exact_sort ss (map profile fs) ≡ sort_in (first_exact ts fs)
first_exact_told ss ts h = first_result_told exactly (λ f. all_same f.arguments ss) ts (λ f. all_same_told f.arguments ss ts h)

first_fitting_told : (ss : List Sorting) (ts : List Typing) → TellAll ss ts → (fs : List Signature) → first_fitting_sort ss (map profile fs) ≡ sort_in (first_fitting ts fs)
first_fitting_told ss ts h = first_result_told checked (λ f. all_check f.arguments ss) ts (λ f. all_check_told f.arguments ss ts h)

result_over_told : (ss : List Sorting) (ts : List Typing) → TellAll ss ts → (c : Scheme) (r : Sort) → result_over ss (any_profile c) r ≡ sort_in (applied checked ts (scheme_at c r))
result_over_told ss ts h c r =
    ap (λ b. cond b (Some (over r c.result)) None) (all_check_told (map (over r) c.arguments) ss ts h)
    ∙ sort_made (apply (c.symbol r)) (over r c.result) (all_at checked (map (over r) c.arguments) ts)

result_by_told : (ss : List Sorting) (ts : List Typing) → TellAll ss ts → (c : Scheme) (p : Place) (o : Option Inferred)
    → option_and_then (λ s. option_and_then (result_over ss (any_profile c)) (read_off s p)) (sort_in o) ≡ sort_in (option_and_then (λ s. applied checked ts (scheme_at c s)) (option_and_then (λ i. read_off i.sort p) o))
result_by_told ss ts h c p None = refl
result_by_told ss ts h c p (Some i) = by_read (read_off i.sort p)
  where
    by_read : (o : Option Sort) → option_and_then (result_over ss (any_profile c)) o ≡ sort_in (option_and_then (λ s. applied checked ts (scheme_at c s)) o)
    by_read None = refl
    by_read (Some r) = result_over_told ss ts h c r

first_told_told : (all : List Sorting) (ws : List Typing) → TellAll all ws → (c : Scheme) (ps : List Place) (ss : List Sorting) (ts : List Typing) → TellAll ss ts
    → first_told all (any_profile c) ps ss ≡ sort_in (first_of (λ s. applied checked ws (scheme_at c s)) (candidates ps ts))
first_told_told all ws k c (p ∷ ps) (s ∷ ss) (t ∷ ts) h =
    let F : Sort → Option Inferred = λ r. applied checked ws (scheme_at c r) in
    let o : Option Sort = option_and_then (λ i. read_off i.sort p) t.infers in
    ap (λ x. option_or (option_and_then (λ r. option_and_then (result_over all (any_profile c)) (read_off r p)) x) (first_told all (any_profile c) ps ss)) h.0.infers
    ∙ ap (λ x. option_or x (first_told all (any_profile c) ps ss)) (result_by_told all ws k c p t.infers)
    ∙ ap (option_or (sort_in (option_and_then F o))) (first_told_told all ws k c ps ss ts h.1)
    ∙ sym (map_or (λ (i : Inferred). i.sort) (option_and_then F o) (first_of F (candidates ps ts)))
    ∙ ap sort_in (sym (first_behind F o (candidates ps ts)))
first_told_told all ws k c (p ∷ ps) [] [] h = refl
first_told_told all ws k c [] [] [] h = refl
first_told_told all ws k c [] (s ∷ ss) (t ∷ ts) h = refl
first_told_told all ws k c ps [] (t ∷ ts) h = absurd h
first_told_told all ws k c ps (s ∷ ss) [] h = absurd h

pub call_sort_told : (ss : List Sorting) (ts : List Typing) → TellAll ss ts → (fs : List Signature) (c : Option Scheme) → call_sort (map profile fs) (option_map any_profile c) ss ≡ sort_in (call_infers fs c ts)
call_sort_told ss ts h fs c =
    ap (λ o. option_or o (option_or (option_and_then (first_candidate_sort ss) (option_map any_profile c)) (first_fitting_sort ss (map profile fs)))) (first_exact_told ss ts h fs)
    ∙ ap (λ o. option_or (sort_in (first_exact ts fs)) (option_or o (first_fitting_sort ss (map profile fs)))) (by_scheme c)
    ∙ ap (λ o. option_or (sort_in (first_exact ts fs)) (option_or (sort_in (option_and_then (first_candidate ts) c)) o)) (first_fitting_told ss ts h fs)
    ∙ ap (option_or (sort_in (first_exact ts fs))) (sym (map_or (λ (i : Inferred). i.sort) (option_and_then (first_candidate ts) c) (first_fitting ts fs)))
    ∙ sym (map_or (λ (i : Inferred). i.sort) (first_exact ts fs) (option_or (option_and_then (first_candidate ts) c) (first_fitting ts fs)))
  where
    by_scheme : (o : Option Scheme) → option_and_then (first_candidate_sort ss) (option_map any_profile o) ≡ sort_in (option_and_then (first_candidate ts) o)
    by_scheme None = refl
    by_scheme (Some k) = first_told_told ss ts h k k.arguments ss ts h

pub by_result_told : (ss : List Sorting) (ts : List Typing) → TellAll ss ts → (c : Scheme) (s : Sort) → checks_by_result ss (any_profile c) s ≡ is_some (by_result ts c s)
by_result_told ss ts h c s = by_flag c.by_result (read_off s c.result)
  where
    by_flag : (b : Bool) (o : Option Sort) → b && checks_over ss (any_profile c) o ≡ is_some (cond b (option_and_then (λ r. option_map (λ (i : Inferred). i.term) (applied checked ts (scheme_at c r))) o) None)
    by_flag false o = refl
    by_flag true None = refl
    by_flag true (Some r) =
        all_check_told (map (over r) c.arguments) ss ts h
        ∙ still_there (λ us. record { term = apply (c.symbol r) us; sort = over r c.result }) (all_at checked (map (over r) c.arguments) ts)
        ∙ still_there (λ (i : Inferred). i.term) (applied checked ts (scheme_at c r))

pub call_checks_told : (ss : List Sorting) (ts : List Typing) → TellAll ss ts → (fs : List Signature) (c : Option Scheme) (s : Sort)
    → cond (is_some (first_exact_sort ss (map profile fs))) false (may_check ss (option_map any_profile c) s) ≡ is_some (call_by_sort fs c ts s)
call_checks_told ss ts h fs c s =
    ap (λ o. cond (is_some o) false (may_check ss (option_map any_profile c) s)) (first_exact_told ss ts h fs)
    ∙ ap (λ b. cond b false (may_check ss (option_map any_profile c) s)) (sym (still_there (λ (i : Inferred). i.sort) (first_exact ts fs)))
    ∙ by_flag (is_some (first_exact ts fs)) c
  where
    by_flag : (b : Bool) (o : Option Scheme) → cond b false (may_check ss (option_map any_profile o) s) ≡ is_some (cond b None (option_and_then (λ (k : Scheme). by_result ts k s) o))
    by_flag true o = refl
    by_flag false None = refl
    by_flag false (Some k) = by_result_told ss ts h k s

pub flexible_told : (b : Sort → Bool) (o : Option Sort) (by : Sort → Option Term) (i : Option Inferred) → ((s : Sort) → b s ≡ is_some (by s)) → o ≡ sort_in i → Tells (sorting b o) (flexible by i)
flexible_told b o by i k e = record {
  infers = e;
  checks = λ s. ap (λ x. cond x true (fits_in s o)) (k s) ∙ ap (λ x. cond (is_some (by s)) true (fits_in s x)) e ∙ ap (cond (is_some (by s)) true) (fits_told s i) ∙ or_there (by s) (option_and_then (embedded s) i);
}

-- ---- lists
widest_by_told : (ss : List Sorting) (ts : List Typing) → ((r : Sort) → widest_sort_from r ss ≡ widest_from r ts) → (o : Option Sort) → option_and_then (λ r. widest_sort_from r ss) o ≡ option_and_then (λ r. widest_from r ts) o
widest_by_told ss ts k None = refl
widest_by_told ss ts k (Some r) = k r

widest_behind_told : (s : Sort) (ss : List Sorting) (ts : List Typing) → ((r : Sort) → widest_sort_from r ss ≡ widest_from r ts) → (o : Option Inferred)
    → option_and_then (λ i. option_and_then (λ r. widest_sort_from r ss) (wider s i)) (sort_in o) ≡ option_and_then (λ (i : Inferred). option_and_then (λ r. widest_from r ts) (wider s i.sort)) o
widest_behind_told s ss ts k None = refl
widest_behind_told s ss ts k (Some i) = widest_by_told ss ts k (wider s i.sort)

widest_from_told : (s : Sort) (ss : List Sorting) (ts : List Typing) → TellAll ss ts → widest_sort_from s ss ≡ widest_from s ts
widest_from_told s [] [] h = refl
widest_from_told s (a ∷ ss) (t ∷ ts) h =
    ap (option_and_then (λ i. option_and_then (λ r. widest_sort_from r ss) (wider s i))) h.0.infers
    ∙ widest_behind_told s ss ts (λ r. widest_from_told r ss ts h.1) t.infers
widest_from_told s [] (t ∷ ts) h = absurd h
widest_from_told s (a ∷ ss) [] h = absurd h

pub widest_told : (ss : List Sorting) (ts : List Typing) → TellAll ss ts → widest_sort ss ≡ widest ts
widest_told [] [] h = refl
widest_told (a ∷ ss) (t ∷ ts) h = ap (option_and_then (λ i. widest_sort_from i ss)) h.0.infers ∙ by_inferred t.infers
  where
    by_inferred : (o : Option Inferred) → option_and_then (λ i. widest_sort_from i ss) (sort_in o) ≡ option_and_then (λ (i : Inferred). widest_from i.sort ts) o
    by_inferred None = refl
    by_inferred (Some i) = widest_from_told i.sort ss ts h.1
widest_told [] (t ∷ ts) h = absurd h
widest_told (a ∷ ss) [] h = absurd h

pub each_checks_told : (ss : List Sorting) (ts : List Typing) → TellAll ss ts → (s : Sort) → each_checks ss s ≡ is_some (list_of ts s)
each_checks_told [] [] h s = refl
each_checks_told (a ∷ ss) (t ∷ ts) h s =
    ap (λ b. b && each_checks ss s) (h.0.checks s)
    ∙ ap (λ b. is_some (t.checks s) && b) (each_checks_told ss ts h.1 s)
    ∙ both_there (λ u us. apply (cons s) (terms.more u (terms.more us terms.none))) (t.checks s) (list_of ts s)
each_checks_told [] (t ∷ ts) h s = absurd h
each_checks_told (a ∷ ss) [] h s = absurd h

pub list_told : (ss : List Sorting) (ts : List Typing) → TellAll ss ts → Tells (list_sorting ss) (flexible (list_by_sort ts) (list_infers ts))
list_told ss ts h =
    flexible_told (λ s. each_checks_at ss (read_off s elements)) (option_and_then (λ s. cond (each_checks ss s) (Some (list s)) None) (widest_sort ss)) (list_by_sort ts) (list_infers ts)
    (λ s. by_read (read_off s elements))
    (ap (option_and_then (λ s. cond (each_checks ss s) (Some (list s)) None)) (widest_told ss ts h) ∙ by_widest (widest ts))
  where
    by_read : (o : Option Sort) → each_checks_at ss o ≡ is_some (option_and_then (list_of ts) o)
    by_read None = refl
    by_read (Some r) = each_checks_told ss ts h r

    by_widest : (o : Option Sort) → option_and_then (λ s. cond (each_checks ss s) (Some (list s)) None) o ≡ sort_in (option_and_then (λ s. option_map (λ t. record { term = t; sort = list s }) (list_of ts s)) o)
    by_widest None = refl
    by_widest (Some s) = ap (λ b. cond b (Some (list s)) None) (each_checks_told ss ts h s) ∙ sort_made (λ t. t) (list s) (list_of ts s)

-- ---- expressions
pub by_meaning : (k : Meaning) (ss : List Sorting) (ts : List Typing) → TellAll ss ts → Tells (word_sorting k ss) (word_typing k ts)
by_meaning (bound v s) [] [] h = flexible_told (λ r. false) (Some s) (λ r. None) (Some (record { term = terms.variable v; sort = s })) (λ r. refl) refl
by_meaning (bound v s) (a ∷ ss) (t ∷ ts) h = record { infers = refl; checks = λ r. refl }
by_meaning (bound v s) [] (t ∷ ts) h = absurd h
by_meaning (bound v s) (a ∷ ss) [] h = absurd h
by_meaning (functions fs c) ss ts h = flexible_told (λ s. cond (is_some (first_exact_sort ss (map profile fs))) false (may_check ss (option_map any_profile c) s)) (call_sort (map profile fs) (option_map any_profile c) ss) (call_by_sort fs c ts) (call_infers fs c ts) (call_checks_told ss ts h fs c) (call_sort_told ss ts h fs c)

mutual
  pub sorts_go_before_terms : SortsGoBeforeTerms
  sorts_go_before_terms m (numeral n) = flexible_told (λ s. false) (Some (least_sort n)) (λ s. None) (Some (record { term = terms.numeral (least_sort n) (pos n); sort = least_sort n })) (λ s. refl) refl
  sorts_go_before_terms m (listed es) = list_told (sortings_of m es) (typings m es) (they_go_before_terms m es)
  sorts_go_before_terms m (word f es) = by_meaning (m f) (sortings_of m es) (typings m es) (they_go_before_terms m es)

  pub they_go_before_terms : (m : Name → Meaning) (es : Expressions) → TellAll (sortings_of m es) (typings m es)
  they_go_before_terms m none = tt
  they_go_before_terms m (more e es) = (sorts_go_before_terms m e, they_go_before_terms m es)
