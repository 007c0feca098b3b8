-- The heads of a body are made of what the body writes.
use Rattle.std.proofs.Common.{◌≡◌, ⊎_elim, ℕ, true, cond, List, [], ◌∷◌, ◌++◌, map, length, Some, refl, sym, ap, ◌∙◌, subst}
use Rattle.std.specs.Prelude.{Contains, slice_get}
use Rattle.std.specs.List.{AllByRecursion, flat_map}
use Rattle.std.proofs.lemmas.Bool.Decides.{eqb_tells}
use Rattle.std.proofs.lemmas.List.{length-map}
use Rattle.std.proofs.lemmas.List.Elements.{Contains-append_left, Contains-append_right}
use Rattle.data_theory.specs.Terms.{Sort, Term, variable, put}
use Rattle.data_theory.specs.Equations.{ !ᵗ◌}
use Rattle.data_theory.specs.Declarations.{Data, Declares, HasSort, HaveSorts}
use Rattle.data_theory.specs.Environments.{Environment, term_in, bound, bound_variables, terms_of, IsOver, AreOver}
use Rattle.data_theory.proofs.EnvironmentLemmas.{contains_nothing, contains_cases, bound_are_the_parameters}
use Rattle.process_terms.specs.Labels.{Action, Label, put_label}
use Rattle.process_terms.specs.Processes.{Bound, Body, written_delta, written_act, written_choice, written_seq, written_cond, written_sum, written_call, written_merge, written_starting, written_around}
use Rattle.bisim_laws.specs.LinearProcesses.{variables, sorts, LabelIsOver, no_action_left, action_over, AreDeclared, reading}
use Rattle.bisim_laws.specs.BaseStates.{Piece}
use Rattle.bisim_laws.proofs.Firing.{contains_first, contains_later, contains_none, contains_cases as bound_cases}
use Rattle.lps_core.specs.MadeTerms.{Written, written_in, StackSort, Origin, IsMade, a_variable, of_a_call, AreMade, none_made, more_made, IsInstance, an_instance, the_whole, IsActionArgument, action_argument, as_written, against_a_written_one, plain_part, HasPlainParts, AreWrittenSums, HasActionArguments}
use Rattle.lps_core.proofs.Members.{In, here, there, in_append, in_map}
use Rattle.lps_core.proofs.SortedTerms.{one_sort, HaveTheirSorts, puts_sorted, columns_long}
use Rattle.greibach.specs.Places.{Path, Factor, factors, Text, IsSortedBody}
use Rattle.greibach.specs.Unfolding.{PlaceCall, Head, summed, guarded, followed, rest_call, onward_call, onward, HasPiece, has_piece, HasOnwardPiece, HasPieces, Unfolds, un_delta, un_act, un_choice, un_seq, un_cond, un_sum, un_call}
use Rattle.greibach.specs.UnfoldedForms.{HasDefinitions}
use Rattle.greibach.proofs.Situations.{factors_sorted}
use Rattle.greibach.proofs.Under.{sorted_more, within_first}
use Rattle.greibach.proofs.PlainParts.{parts_are_plain}
use Rattle.greibach.proofs.WrittenParts.{on_left, on_right, IsWritten, AreWritten, under_sum, under_condition, against_condition, more_written}

-- ---- environments
-- made terms for declared variables, of their sorts
pub record HasMadeTerms (o : Origin) (ps all : List Bound) (e : Environment) : Type 0 where
  pub vars : List Bound
  pub terms : List Term
  pub is : e ≡ bound (variables vars) terms
  pub declared : AreDeclared o.variable_sorts vars
  pub sorted : HaveSorts o.declared o.variable_sorts (terms_of terms) (sorts vars)
  pub made : AreMade o ps all terms

-- the terms that are bound have the sorts of their variables
bound_sorted : (g : Data) (vs : List Sort) (xs : List Bound) (us : List Term) → AreDeclared vs xs → HaveSorts g vs (terms_of us) (sorts xs) → HaveTheirSorts g vs vs (term_in (bound (variables xs) us))
bound_sorted g vs [] us d h v s k = k
bound_sorted g vs (x ∷ xs) [] d h v s k = k
bound_sorted g vs (x ∷ xs) (u ∷ us) d h v s k = ⊎_elim
    (λ q. subst (λ b. HasSort g vs (cond b u (term_in (bound (variables xs) us) v)) s) (sym q.0)
    (subst (λ r. HasSort g vs u r) (one_sort vs v x.sort s (subst (λ z. Declares vs z x.sort) q.1 (d x (contains_first x xs))) k) h.0))
    (λ q. subst (λ b. HasSort g vs (cond b u (term_in (bound (variables xs) us) v)) s) (sym q.0)
    (bound_sorted g vs xs us (λ y i. d y (contains_later x y xs i)) h.1 v s k))
    (eqb_tells x.var v)

module _ (o : Origin) (ps all : List Bound) where
  bound_made : (ns : List ℕ) (us : List Term) → AreMade o ps all us → (v : ℕ) → Contains (bound_variables (bound ns us)) v → IsMade o ps all (term_in (bound ns us) v)
  bound_made [] us m v i = absurd (contains_nothing v i)
  bound_made (n ∷ ns) _ none_made v i = absurd (contains_nothing v i)
  bound_made (n ∷ ns) _ (more_made {t = u} {ts = us} m ms) v i = ⊎_elim
      (λ q. subst (λ b. IsMade o ps all (cond b u (term_in (bound ns us) v))) (sym q.0) m)
      (λ q. subst (λ b. IsMade o ps all (cond b u (term_in (bound ns us) v))) (sym q.0) (bound_made ns us ms v (⊎_elim (λ r. absurd (q.1 r)) (λ j. j) (contains_cases n v (bound_variables (bound ns us)) i))))
      (eqb_tells n v)

  module _ (e : Environment) (k : HasMadeTerms o ps all e) where
    as_many : length k.terms ≡ length (variables k.vars)
    as_many = columns_long o.declared o.variable_sorts k.terms k.vars k.sorted ∙ sym (length-map k.vars (λ (z : Bound). z.var))

    pub are_bound : bound_variables e ≡ variables k.vars
    are_bound = ap bound_variables k.is ∙ bound_are_the_parameters (variables k.vars) k.terms as_many

    have_sorts : HaveTheirSorts o.declared o.variable_sorts o.variable_sorts (term_in e)
    have_sorts = subst (λ z. HaveTheirSorts o.declared o.variable_sorts o.variable_sorts (term_in z)) (sym k.is) (bound_sorted o.declared o.variable_sorts k.vars k.terms k.declared k.sorted)

    instance_of : (t : Term) → IsOver (bound_variables e) t → IsInstance o ps all t (put (term_in e) t)
    instance_of t over = subst (λ z. IsInstance o ps all t (put (term_in z) t)) (sym k.is) (an_instance k.vars k.terms (subst (λ l. IsOver l t) are_bound over) k.declared k.sorted k.made)

    made_at : (v : ℕ) → Contains (bound_variables e) v → IsMade o ps all (term_in e v)
    made_at v i = subst (λ z. IsMade o ps all (term_in z v)) (sym k.is) (bound_made (variables k.vars) k.terms k.made v (subst (λ z. Contains (bound_variables z) v) k.is i))

    reading_made : (ns : List ℕ) → ((v : ℕ) → Contains ns v → Contains (bound_variables e) v) → AreMade o ps all (reading e ns)
    reading_made [] w = none_made
    reading_made (n ∷ ns) w = more_made (made_at n (w n (contains_first n ns))) (reading_made ns (λ v i. w v (contains_later n v ns i)))

    calls_made : (ts : List Term) → AreOver (bound_variables e) (terms_of ts) → ((t : Term) → Contains ts t → Contains o.written.call_arguments t) → AreMade o ps all (map (put (term_in e)) ts)
    calls_made [] h f = none_made
    calls_made (t ∷ ts) h f = more_made (of_a_call (f t (contains_first t ts)) (instance_of t h.0)) (calls_made ts h.1 (λ u i. f u (contains_later t u ts i)))

    arguments_made : (ts : List Term) → AreOver (bound_variables e) (terms_of ts) → ((t : Term) → Contains ts t → Contains o.written.action_arguments t) → AllByRecursion (IsActionArgument o ps all) (map (put (term_in e)) ts)
    arguments_made [] h f = tt
    arguments_made (t ∷ ts) h f = (action_argument (f t (contains_first t ts)) (instance_of t h.0), arguments_made ts h.1 (λ u i. f u (contains_later t u ts i)))

    label_made : (m : Label) → LabelIsOver (bound_variables e) m → ((t : Term) → Contains (flat_map (λ (a : Action). a.args) m) t → Contains o.written.action_arguments t) → HasActionArguments o ps all (put_label e m)
    label_made _ no_action_left f = tt
    label_made _ (action_over {a = a} {m = m} h r) f =
        let behind = flat_map (λ (b : Action). b.args) m in
        (arguments_made a.args h (λ t i. f t (Contains-append_left a.args behind t i)), label_made m r (λ t i. f t (Contains-append_right a.args behind t i)))

-- ---- heads
pub record HeadIsPlain (o : Origin) (ps all : List Bound) (h : Head) : Type 0 where
  pub sums : AreWrittenSums o h.sums
  pub conditions : AllByRecursion (HasPlainParts o [] ps all) h.conditions
  pub label : HasActionArguments o ps all h.label
  pub next : (c : PlaceCall) → In c h.next → AreMade o ps all c.args

-- the sums of a head are among these variables, and declared
abbrev pub SumsAreAmong : List Sort → List Bound → List Bound → Type 0
SumsAreAmong vs all xs = (x : Bound) → Contains xs x → Contains all x × Declares vs x.var x.sort

-- a body under way: it is sorted and written, and its rest too, and its variables have made terms
pub record IsUnderWay (o : Origin) (t : Text) (ps all : List Bound) (e : Environment) (b : Body) (rest : List Factor) : Type 0 where
  pub made : HasMadeTerms o ps all e
  pub sorted_body : IsSortedBody o.declared t (bound_variables e) b
  pub sorted_rest : (r : Factor) → In r rest → IsSortedBody o.declared t (bound_variables e) r.body
  pub written : IsWritten o.written b
  pub written_rest : AreWritten o.written rest

guarded_plain : (o : Origin) (ps all : List Bound) (c : Term) (h : Head) → HasPlainParts o [] ps all c → HeadIsPlain o ps all h → HeadIsPlain o ps all (guarded c h)
guarded_plain o ps all c h k p = record { sums = p.sums; conditions = (k, p.conditions); label = p.label; next = p.next }

summed_plain : (o : Origin) (ps all : List Bound) (x : Bound) (h : Head) → Contains o.written.sums x.sort → HeadIsPlain o ps all h → HeadIsPlain o ps all (summed x h)
summed_plain o ps all x h k p = record {
  sums = λ y i. ⊎_elim (λ q. subst (λ z. Contains o.written.sums z.sort) q k) (λ j. p.sums y j) (bound_cases x y h.sums i);
  conditions = p.conditions;
  label = p.label;
  next = p.next;
}

followed_plain : (o : Origin) (ps all : List Bound) (calls : List PlaceCall) (h : Head) → ((c : PlaceCall) → In c calls → AreMade o ps all c.args) → HeadIsPlain o ps all h → HeadIsPlain o ps all (followed calls h)
followed_plain o ps all calls h k p = record { sums = p.sums; conditions = p.conditions; label = p.label; next = λ c i. ⊎_elim (λ j. p.next c j) (λ j. k c j) (in_append h.next calls i) }

module _ (g : Data) (t : Text) (w : Written) (answered : Term → Type 0) (stacks : List StackSort) (ps all : List Bound) (definitions : HasDefinitions g t) (written : (x : ℕ) (f : Piece) → slice_get t.definitions x ≡ Some f → IsWritten w f.body) where
  abbrev o : Origin
  o = record { declared = g; variable_sorts = t.variables; written = w; WasAnswered = answered; stacks = stacks }

  -- ---- calls of rests
  rest_made : (own : ℕ) (e : Environment) → HasMadeTerms o ps all e → (rest : List Factor) → HasPiece t own (bound_variables e) rest → (c : PlaceCall) → In c (rest_call t own e rest) → AreMade o ps all c.args
  rest_made own e k [] h c i = elim i [ ]
  rest_made own e k (f ∷ fs) (has_piece _ _ b n) _ here = reading_made o ps all e k (variables (t.piece (record { owner = own; path = f.path })).params) n
  rest_made own e k (f ∷ fs) h c (there i) = elim i [ ]

  onward_made : (own : ℕ) (e : Environment) → HasMadeTerms o ps all e → (f : Factor) (b : Body) (fs : List Factor) → IsSortedBody g t (bound_variables e) b → IsWritten w b → HasOnwardPiece t own (bound_variables e) f b fs
      → (c : PlaceCall) → In c (onward_call t own e f b fs) → AreMade o ps all c.args
  onward_made own e k f (written_call x ts) fs s v h _ here = calls_made o ps all e k ts s.0 v.call_arguments
  onward_made own e k f (written_call x ts) fs s v h c (there i) = rest_made own e k fs h c i
  onward_made own e k f written_delta fs s v h c i = rest_made own e k (f ∷ fs) h c i
  onward_made own e k f (written_act m) fs s v h c i = rest_made own e k (f ∷ fs) h c i
  onward_made own e k f (written_choice p q) fs s v h c i = rest_made own e k (f ∷ fs) h c i
  onward_made own e k f (written_seq p q) fs s v h c i = rest_made own e k (f ∷ fs) h c i
  onward_made own e k f (written_cond d p q) fs s v h c i = rest_made own e k (f ∷ fs) h c i
  onward_made own e k f (written_sum x p) fs s v h c i = rest_made own e k (f ∷ fs) h c i
  onward_made own e k f (written_merge p q) fs s v h c i = rest_made own e k (f ∷ fs) h c i
  onward_made own e k f (written_starting start p q) fs s v h c i = rest_made own e k (f ∷ fs) h c i
  onward_made own e k f (written_around d p) fs s v h c i = rest_made own e k (f ∷ fs) h c i

  pieces_made : (own : ℕ) (e : Environment) → HasMadeTerms o ps all e → (rest : List Factor) → ((r : Factor) → In r rest → IsSortedBody g t (bound_variables e) r.body) → AreWritten w rest → HasPieces t own (bound_variables e) rest
      → (c : PlaceCall) → In c (onward t own e rest) → AreMade o ps all c.args
  pieces_made own e k [] s v h c i = elim i [ ]
  pieces_made own e k (f ∷ fs) s v h c i = onward_made own e k f f.body fs (s f here) (v f here) h c i

  -- ---- further in
  first_of_two : {e : Environment} {p q : Body} {rest : List Factor} (path : Path) → IsUnderWay o t ps all e (written_seq p q) rest → IsUnderWay o t ps all e p (factors path q ++ rest)
  first_of_two {e} {p} {q} {rest} path s = record {
    made = s.made;
    sorted_body = s.sorted_body.0;
    sorted_rest = λ r i. ⊎_elim (λ j. factors_sorted g t (bound_variables e) path q s.sorted_body.1 r j) (λ j. s.sorted_rest r j) (in_append (factors path q) rest i);
    written = on_left (written_in p) (written_in q) w s.written;
    written_rest = more_written w path q rest (on_right (written_in p) (written_in q) w s.written) s.written_rest;
  }

  inside_sum : {e : Environment} {x : Bound} {p : Body} {rest : List Factor} (y : ℕ) → Contains all (record { var = y; sort = x.sort }) → Declares t.variables y x.sort → IsUnderWay o t ps all e (written_sum x p) rest
      → IsUnderWay o t ps all (record { var = x.var; term = variable y } ∷ e) p rest
  inside_sum {e} {x} {p} {rest} y i d s = record {
    made = record {
      vars = x ∷ s.made.vars;
      terms = variable y ∷ s.made.terms;
      is = ap (λ l. record { var = x.var; term = variable y } ∷ l) s.made.is;
      declared = λ z j. ⊎_elim (λ q. subst (λ b. Declares t.variables b.var b.sort) q s.sorted_body.0) (λ r. s.made.declared z r) (bound_cases x z s.made.vars j);
      sorted = (d, s.made.sorted);
      made = more_made (a_variable {x = record { var = y; sort = x.sort }} i) s.made.made;
    };
    sorted_body = s.sorted_body.1;
    sorted_rest = λ r j. sorted_more g t (bound_variables e) (x.var ∷ bound_variables e) (within_first x.var (bound_variables e)) r.body (s.sorted_rest r j);
    written = under_sum w x p s.written;
    written_rest = s.written_rest;
  }

  inside_call : {e : Environment} {x : ℕ} {ts : List Term} {rest : List Factor} (f : Piece) → slice_get t.definitions x ≡ Some f → IsUnderWay o t ps all e (written_call x ts) rest
      → IsUnderWay o t ps all (bound (variables f.params) (map (put (term_in e)) ts)) f.body []
  inside_call {e} {x} {ts} {rest} f at s =
      let k = s.sorted_body.1 in
      let same : k.0 ≡ f = cc in
      let found = definitions x f at k.3 in
      let made : HasMadeTerms o ps all (bound (variables f.params) (map (put (term_in e)) ts)) = record {
        vars = f.params;
        terms = map (put (term_in e)) ts;
        is = refl;
        declared = found.2;
        sorted = puts_sorted g t.variables t.variables (term_in e) (have_sorts o ps all e s.made) ts (sorts f.params) (subst (λ z. HaveSorts g t.variables (terms_of ts) (sorts z.params)) same k.2);
        made = calls_made o ps all e s.made ts s.sorted_body.0 s.written.call_arguments;
      } in
      record {
        made = made;
        sorted_body = subst (λ l. IsSortedBody g t l f.body) (sym (are_bound o ps all (bound (variables f.params) (map (put (term_in e)) ts)) made)) found.1;
        sorted_rest = λ r i. elim i [ ];
        written = written x f at;
        written_rest = λ r i. elim i [ ];
      }

  written_plain : (e : Environment) (k : HasMadeTerms o ps all e) (c : Term) → IsOver (bound_variables e) c → Contains w.conditions c → HasPlainParts o [] ps all (put (term_in e) c)
  written_plain e k c over i = parts_are_plain o [] ps all (put (term_in e) c) (plain_part (as_written i (instance_of o ps all e k c over)) the_whole)

  against_plain : (e : Environment) (k : HasMadeTerms o ps all e) (c : Term) → IsOver (bound_variables e) c → Contains w.conditions c → HasPlainParts o [] ps all (!ᵗ put (term_in e) c)
  against_plain e k c over i = parts_are_plain o [] ps all (!ᵗ put (term_in e) c) (plain_part (against_a_written_one i (instance_of o ps all e k c over)) the_whole)

  -- ---- all heads
  pub heads_plain : {over : List ℕ} {own : ℕ} {e : Environment} {path : Path} {b : Body} {rest : List Factor} {hs : List Head} → Unfolds t over own e path b rest hs → IsUnderWay o t ps all e b rest
      → (h : Head) → In h hs → SumsAreAmong t.variables all h.sums → HeadIsPlain o ps all h
  heads_plain un_delta s h i a = elim i [ ]
  heads_plain (un_act {o = own} {e = e} {m = m} {rest = rest} n) s _ here a = record {
    sums = λ x i. absurd (contains_none x i);
    conditions = tt;
    label = label_made o ps all e s.made m s.sorted_body s.written.action_arguments;
    next = pieces_made own e s.made rest s.sorted_rest s.written_rest n;
  }
  heads_plain (un_act n) s h (there i) a = elim i [ ]
  heads_plain (un_choice {p = p} {q = q} {hs = hs} {ks = ks} u v) s h i a = ⊎_elim
      (λ j. heads_plain u (record { made = s.made; sorted_body = s.sorted_body.0; sorted_rest = s.sorted_rest; written = on_left (written_in p) (written_in q) w s.written; written_rest = s.written_rest }) h j a)
      (λ j. heads_plain v (record { made = s.made; sorted_body = s.sorted_body.1; sorted_rest = s.sorted_rest; written = on_right (written_in p) (written_in q) w s.written; written_rest = s.written_rest }) h j a)
      (in_append hs ks i)
  heads_plain (un_seq {path = path} u) s h i a = heads_plain u (first_of_two (path ++ true ∷ []) s) h i a
  heads_plain (un_cond {e = e} {c = c} {p = p} {q = q} {hs = hs} {ks = ks} u v) s h i a =
      let is_written : Contains w.conditions c = s.written.conditions c (contains_first c _) in
      ⊎_elim
      (λ j.
      let r = in_map (guarded (put (term_in e) c)) hs j in
      subst (λ z. HeadIsPlain o ps all z) (sym r.2)
      (guarded_plain o ps all (put (term_in e) c) r.0 (written_plain e s.made c s.sorted_body.0 is_written)
      (heads_plain u (record { made = s.made; sorted_body = s.sorted_body.2; sorted_rest = s.sorted_rest; written = under_condition w c p q s.written; written_rest = s.written_rest }) r.0 r.1 (subst (λ z. SumsAreAmong t.variables all z.sums) r.2 a))))
      (λ j.
      let r = in_map (guarded (!ᵗ put (term_in e) c)) ks j in
      subst (λ z. HeadIsPlain o ps all z) (sym r.2)
      (guarded_plain o ps all (!ᵗ put (term_in e) c) r.0 (against_plain e s.made c s.sorted_body.0 is_written)
      (heads_plain v (record { made = s.made; sorted_body = s.sorted_body.3; sorted_rest = s.sorted_rest; written = against_condition w c p q s.written; written_rest = s.written_rest }) r.0 r.1 (subst (λ z. SumsAreAmong t.variables all z.sums) r.2 a))))
      (in_append (map (guarded (put (term_in e) c)) hs) (map (guarded (!ᵗ put (term_in e) c)) ks) i)
  heads_plain (un_sum {x = x} {p = p} {hs = hs} y n1 n2 u) s h i a =
      let b : Bound = record { var = y; sort = x.sort } in
      let r = in_map (summed b) hs i in
      let among : SumsAreAmong t.variables all (b ∷ r.0.sums) = subst (λ z. SumsAreAmong t.variables all z.sums) r.2 a in
      let first = among b (contains_first b r.0.sums) in
      subst (λ z. HeadIsPlain o ps all z) (sym r.2)
      (summed_plain o ps all b r.0 (s.written.sums x.sort (contains_first x.sort _)) (heads_plain u (inside_sum y first.0 first.1 s) r.0 r.1 (λ z j. among z (contains_later b z r.0.sums j))))
  heads_plain (un_call {o = own} {e = e} {rest = rest} {hs = hs} f at piece u) s h i a =
      let r = in_map (followed (rest_call t own e rest)) hs i in
      subst (λ z. HeadIsPlain o ps all z) (sym r.2)
      (followed_plain o ps all (rest_call t own e rest) r.0 (rest_made own e s.made rest piece) (heads_plain u (inside_call f at s) r.0 r.1 (subst (λ z. SumsAreAmong t.variables all z.sums) r.2 a)))
