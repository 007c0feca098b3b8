-- The parts of what is read, one after another.
use Rattle.std.proofs.Common.{◌≡◌, ◌<◌, ◌≤◌, ◌+◌, ◌-◌, ◌==◌, ◌||◌, eqb, Bool, true, false, ◌⊎◌, inl, inr, ⊎_elim, ℕ, zero, suc, List, [], ◌∷◌, ◌++◌, map, length, get_or, take, refl, sym, ap, ◌∙◌, subst, arith, append_assoc, Option, None, Some, Vec}
use Rattle.std.specs.Prelude.{◌↔◌, IfSome, IfOk, OnOk, MatchOption, Result, Ok, Err, slice_get}
use Rattle.std.specs.List.{All, AllByRecursion, IsDistinct, Contains, list_any}
use Rattle.std.proofs.lemmas.Bool.Decides.{Decides-eqb}
use Rattle.std.proofs.lemmas.Map.Steps.{length-le_from_distinct_below}
use Rattle.std.proofs.lemmas.Option.{slice_get_within, slice_get-get_or}
use Rattle.data_theory.proofs.PlaceLemmas.{read_front, read_last}
use Rattle.std.proofs.lemmas.List.{take_more, length-append, length-map}
use Rattle.std.proofs.Math.Seq.{take-append-add}
use Rattle.std.proofs.lemmas.List.Elements.{All-nil, All-push, All-append, All-head, All-tail, All-weaker, All-contains, Contains-append_left, Contains-append_right, Contains-push, Contains-push_cases, Contains-append_cases}
use Rattle.data_theory.specs.declared.ids.ProcId.{ProcId}
use Rattle.data_theory.specs.declared.ids.VarId.{VarId}
use Rattle.data_theory.specs.declared.ids.TermId.{TermId}
use Rattle.data_theory.specs.Complete.{BeginsWith}
use Rattle.data_theory.specs.Signature.{Sig}
use Rattle.data_theory.specs.Table.{bool_sort}
use Rattle.data_theory.specs.IdTrees.{Tree}
use Rattle.term_pool.proofs.Lists.{contains_none, contains_head, contains_tail}
use Rattle.std.specs.Global.{Global, Box}
use Rattle.process_terms.specs.declared.processes.Proc.{Proc}
use Rattle.process_terms.specs.declared.processes.Proc.TheVariants as procs
use Rattle.process_terms.specs.PlainProcesses.{PlainDefinition, PlainProcess, processes_of, plain_process, PlainComponent, call_of, term_of, plain_definition}
use Rattle.process_terms.specs.declared.definitions.ProcDef.{ProcDef}
use Rattle.process_terms.specs.PlainProcesses.{cond as cond_of, sum as sum_of}
use Rattle.proc_unfold.proofs.ProcessSteps.{choice_step, seq_step, cond_step, sum_step, merge_step, sync_step}
use Rattle.lps_core.specs.Fitting.{IsVariable}
use Rattle.lps_core.proofs.Members.{all_from}
use Rattle.proc_unfold.specs.FittingModels.{TermFits, ProcessFits, ProcessesFit}
use Rattle.greibach.specs.PlacesInCode.{choice, cond, sum, whole, PlainPlace, PlainEntry, PlainPlaces}
use Rattle.greibach.specs.OccurringVariables.{those_among, params_at, rest_params}
use Rattle.greibach.specs.FittingPlaces.{AreAmong, IsThere, PlaceFits, EntryFits, FitsInScope, FitInScope, ReadsFittingly, HasRead, StartsAt}
use Rattle.greibach.specs.Readings.{IsPushed, AreNeeded, HasBegun}
use Rattle.greibach.proofs.AddedVariables.{kept_among}
use Rattle.greibach.proofs.ReadPlaces.{begins_itself, begins_then, still_read, from_members, to_members, among_front, term_narrowed, there_grown, there_narrowed, params_are, rest_wider, place_grown, read_pushed, read_needed, fewer_variables}

-- ---- parts of process terms
module _ (g : Sig) (ts : List Tree) (ds : List PlainDefinition) (scope : List VarId) where
  pub choice_fits : (p : Proc) (parts : Vec Proc Global) (items : List Proc) → p ≡ procs.Choice parts → items ≡ parts.items → FitsInScope g ts ds scope (plain_process p) → FitInScope g ts ds scope (processes_of (map plain_process items))
  choice_fits p parts items is e h = record {
    variables = h.variables;
    among = h.among;
    fit = subst (λ l. ProcessesFit g ts ds h.variables (processes_of (map plain_process l))) (sym e) (subst (ProcessFits g ts ds h.variables) (ap plain_process is ∙ choice_step parts) h.fits);
  }

  pub seq_fits : (p : Proc) (parts : Vec Proc Global) (items : List Proc) → p ≡ procs.Seq parts → items ≡ parts.items → FitsInScope g ts ds scope (plain_process p) → FitInScope g ts ds scope (processes_of (map plain_process items))
  seq_fits p parts items is e h = record {
    variables = h.variables;
    among = h.among;
    fit = subst (λ l. ProcessesFit g ts ds h.variables (processes_of (map plain_process l))) (sym e) (subst (ProcessFits g ts ds h.variables) (ap plain_process is ∙ seq_step parts) h.fits);
  }

  pub merge_fits : (p : Proc) (parts : Vec Proc Global) (items : List Proc) → p ≡ procs.Merge parts → items ≡ parts.items → FitsInScope g ts ds scope (plain_process p) → FitInScope g ts ds scope (processes_of (map plain_process items))
  merge_fits p parts items is e h = record {
    variables = h.variables;
    among = h.among;
    fit = subst (λ l. ProcessesFit g ts ds h.variables (processes_of (map plain_process l))) (sym e) (subst (ProcessFits g ts ds h.variables) (ap plain_process is ∙ merge_step parts) h.fits);
  }

  pub sync_fits : (p : Proc) (parts : Vec Proc Global) (items : List Proc) → p ≡ procs.Sync parts → items ≡ parts.items → FitsInScope g ts ds scope (plain_process p) → FitInScope g ts ds scope (processes_of (map plain_process items))
  sync_fits p parts items is e h = record {
    variables = h.variables;
    among = h.among;
    fit = subst (λ l. ProcessesFit g ts ds h.variables (processes_of (map plain_process l))) (sym e) (subst (ProcessFits g ts ds h.variables) (ap plain_process is ∙ sync_step parts) h.fits);
  }

  pub cond_fits : (p q r : Proc) (c : TermId) (then other : Box Proc) → p ≡ procs.Cond c then other → q ≡ then.value → r ≡ other.value → FitsInScope g ts ds scope (plain_process p) → FitsInScope g ts ds scope (cond_of c (plain_process q) (plain_process r))
  cond_fits p q r c then other is e f h =
      let k : ProcessFits g ts ds h.variables (cond_of c (plain_process then.value) (plain_process other.value)) = subst (ProcessFits g ts ds h.variables) (ap plain_process is ∙ cond_step c then other) h.fits in
      record {
        variables = h.variables;
        among = h.among;
        fits = (k.0, subst (λ z. ProcessFits g ts ds h.variables (plain_process z)) (sym e) k.1, subst (λ z. ProcessFits g ts ds h.variables (plain_process z)) (sym f) k.2);
      }

  pub sum_fits : (p q : Proc) (xs : Vec VarId Global) (items : List VarId) (part : Box Proc) → p ≡ procs.Sum xs part → items ≡ xs.items → q ≡ part.value → FitsInScope g ts ds scope (plain_process p) → FitsInScope g ts ds scope (sum_of items (plain_process q))
  sum_fits p q xs items part is e f h =
      let k : ProcessFits g ts ds h.variables (sum_of xs.items (plain_process part.value)) = subst (ProcessFits g ts ds h.variables) (ap plain_process is ∙ sum_step xs part) h.fits in
      record {
        variables = h.variables;
        among = h.among;
        fits = subst (λ l. ProcessFits g ts ds h.variables (sum_of l (plain_process q))) (sym e) (subst (λ z. ProcessFits g ts ds h.variables (sum_of xs.items (plain_process z))) (sym f) k);
      }

  pub part_fits : (ps : List Proc) (k : ℕ) (p : Proc) → k < length ps → p ≡ get_or ps k p → FitInScope g ts ds scope (processes_of (map plain_process ps)) → FitsInScope g ts ds scope (plain_process p)
  part_fits ps k p l e h = record { variables = h.variables; among = h.among; fits = at ps k l e h.fit }
    where
      at : (qs : List Proc) (i : ℕ) → i < length qs → p ≡ get_or qs i p → ProcessesFit g ts ds h.variables (processes_of (map plain_process qs)) → ProcessFits g ts ds h.variables (plain_process p)
      at [] i m q f = absurd (omega (arith, m))
      at (x ∷ qs) zero m q f = subst (λ z. ProcessFits g ts ds h.variables (plain_process z)) (sym q) f.0
      at (x ∷ qs) (suc i) m q f = at qs i (omega (arith, m)) q f.1

  -- the operand of a sum, with its variables in scope
  pub inside_fits : (xs : List VarId) (p : PlainProcess) (inner : List VarId) → inner ≡ scope ++ xs → FitsInScope g ts ds scope (sum_of xs p) → FitsInScope g ts ds inner p
  inside_fits xs p inner e h = record {
    variables = xs ++ h.variables;
    among = subst (AreAmong (xs ++ h.variables)) (sym e) (from_members (xs ++ h.variables) (scope ++ xs) (λ x i. ⊎_elim (λ j. Contains-append_right scope xs x j) (λ j. Contains-append_left scope xs x (to_members h.variables scope h.among x j)) (Contains-append_cases xs h.variables x i)));
    fits = h.fits.1;
  }

-- ---- the larger of two numbers
abbrev pub larger : ℕ → ℕ → ℕ
larger zero b = b
larger (suc a) zero = suc a
larger (suc a) (suc b) = suc (larger a b)

pub larger_left : (a b : ℕ) → a ≤ larger a b
larger_left zero b = omega arith
larger_left (suc a) zero = omega arith
larger_left (suc a) (suc b) = let r = larger_left a b in omega (arith, r)

pub larger_right : (a b : ℕ) → b ≤ larger a b
larger_right zero b = omega arith
larger_right (suc a) zero = omega arith
larger_right (suc a) (suc b) = let r = larger_right a b in omega (arith, r)

pub larger_below : (a b c : ℕ) → a < c → b < c → larger a b < c
larger_below zero b c l k = k
larger_below (suc a) zero c l k = l
larger_below (suc a) (suc b) zero l k = absurd (omega (arith, l))
larger_below (suc a) (suc b) (suc c) l k = let r = larger_below a b c (omega (arith, l)) (omega (arith, k)) in omega (arith, r)

-- ---- lists that are cut
pub taken_front : {A : Type 0} (xs ys : List A) (n k : ℕ) → n ≡ length xs → take (n + k) (xs ++ ys) ≡ xs ++ take k ys
taken_front xs ys n k e = ap (λ m. take (m + k) (xs ++ ys)) e ∙ take-append-add xs ys k

pub taken_again : {A : Type 0} (k n : ℕ) (xs : List A) → k ≤ n → take k (take n xs) ≡ take k xs
taken_again zero n xs l = refl
taken_again (suc k) zero xs l = absurd (omega (arith, l))
taken_again (suc k) (suc n) [] l = refl
taken_again (suc k) (suc n) (x ∷ xs) l = ap (λ z. x ∷ z) (taken_again k n xs (omega (arith, l)))

rest_stays : (ps qs : List PlainPlace) (scope : List VarId) (rest : Option ℕ) → BeginsWith ps qs → IfSome rest (IsThere ps scope) → rest_params qs rest ≡ rest_params ps rest
rest_stays ps qs scope None b h = refl
rest_stays ps qs scope (Some n) b h = params_are qs scope n (there_grown ps qs scope n b h) ∙ sym (params_are ps scope n h)

-- a place whose parameters are all needed
pub record IsNeededThere (ps : List PlainPlace) (scope keys : List VarId) (n : ℕ) : Type 0 where
  pub there : IsThere ps scope n
  pub needed : (v : VarId) → Contains there.place.params v → Contains keys v

needed_later : (ps qs : List PlainPlace) (scope keys more : List VarId) (n : ℕ) → BeginsWith ps qs → ((v : VarId) → Contains keys v → Contains more v) → IsNeededThere ps scope keys n → IsNeededThere qs scope more n
needed_later ps qs scope keys more n b w h = record { there = there_grown ps qs scope n b h.there; needed = λ v i. w v (h.needed v i) }

needed_now : (ps : List PlainPlace) (scope keys more : List VarId) (n : ℕ) → IsThere ps scope n → ((v : VarId) → Contains more v ↔ (Contains keys v ⊎ Contains (params_at ps n) v)) → IsNeededThere ps scope more n
needed_now ps scope keys more n h w = record { there = h; needed = λ v i. (w v).1 (inr (subst (λ l. Contains l v) (sym (params_are ps scope n h)) i)) }

narrowed : (ps : List PlainPlace) (scope keys : List VarId) (n : ℕ) → IsNeededThere ps scope keys n → IsThere ps (those_among scope keys) n
narrowed ps scope keys n h = there_narrowed ps scope keys n h.there h.needed

module _ (g : Sig) (ts : List Tree) (ds : List PlainDefinition) where
  -- ---- the operands of a `+`
  pub record IsChoosing (ps qs : List PlainPlace) (old reached : List ProcId) (scope : List VarId) (rest : Option ℕ) (keys : List VarId) (operands : List ℕ) : Type 0 where
    pub places_begin : BeginsWith ps qs
    pub reached_begin : BeginsWith old reached
    pub fits : ReadsFittingly g ts ds qs reached scope
    pub rest_needed : (v : VarId) → Contains (rest_params ps rest) v → Contains keys v
    pub operands_needed : All (IsNeededThere qs scope keys) operands

  pub choosing_none : (ps : List PlainPlace) (old : List ProcId) (scope : List VarId) (rest : Option ℕ) (terms : List TermId) (keys : List VarId) (operands : List ℕ) → ReadsFittingly g ts ds ps old scope → AreNeeded ts terms ps rest keys → operands ≡ []
      → IsChoosing ps ps old old scope rest keys operands
  choosing_none ps old scope rest terms keys operands h needed e = record {
    places_begin = begins_itself ps;
    reached_begin = begins_itself old;
    fits = h;
    rest_needed = λ v i. (needed v).1 (inr i);
    operands_needed = subst (All (IsNeededThere ps scope keys)) (sym e) (All-nil (IsNeededThere ps scope keys));
  }

  pub choosing_more : (ps qs us : List PlainPlace) (old mid reached : List ProcId) (scope : List VarId) (rest : Option ℕ) (keys more : List VarId) (operands new : List ℕ) (n : ℕ) → IsChoosing ps qs old mid scope rest keys operands → HasRead g ts ds qs us mid reached scope n
      → ((v : VarId) → Contains more v ↔ (Contains keys v ⊎ Contains (params_at us n) v)) → new ≡ operands ++ n ∷ [] → IsChoosing ps us old reached scope rest more new
  choosing_more ps qs us old mid reached scope rest keys more operands new n h k w e = record {
    places_begin = begins_then ps qs us h.places_begin k.places_begin;
    reached_begin = begins_then old mid reached h.reached_begin k.reached_begin;
    fits = k.fits;
    rest_needed = λ v i. (w v).1 (inl (h.rest_needed v i));
    operands_needed = subst (All (IsNeededThere us scope more)) (sym e) (All-push (IsNeededThere us scope more) operands n
        (All-weaker (IsNeededThere qs scope keys) (IsNeededThere us scope more) (λ m i. needed_later qs us scope keys more m k.places_begin (λ v j. (w v).1 (inl j)) i) operands h.operands_needed)
        (needed_now us scope keys more n k.there w));
  }

  pub choosing_all : (ps qs us : List PlainPlace) (old reached : List ProcId) (scope : List VarId) (rest : Option ℕ) (keys : List VarId) (operands : List ℕ) (n : ℕ) → IsChoosing ps qs old reached scope rest keys operands → IfSome rest (IsThere ps scope)
      → IsPushed qs (choice operands) rest (those_among scope keys) us n → HasRead g ts ds ps us old reached scope n
  choosing_all ps qs us old reached scope rest keys operands n h there pushed =
      let b = h.places_begin in
      let last = read_needed g ts ds qs reached reached scope keys (choice operands) rest us n h.fits (begins_itself reached) h.fits.known (rest_wider ps qs scope scope rest b (λ v i. i) there)
      (λ v i. h.rest_needed v (subst (λ l. Contains l v) (rest_stays ps qs scope rest b there) i))
      (All-weaker (IsNeededThere qs scope keys) (IsThere qs (those_among scope keys)) (λ m k. narrowed qs scope keys m k) operands h.operands_needed) pushed in
      record { places_begin = begins_then ps qs us b last.places_begin; reached_begin = h.reached_begin; fits = last.fits; there = last.there }

  -- ---- the operands of a condition
  pub cond_read : (ps qs us vs : List PlainPlace) (old mid reached : List ProcId) (scope vars : List VarId) (rest : Option ℕ) (c : TermId) (first second n : ℕ) (keys more most : List VarId) → TermFits g ts vars bool_sort c → AreAmong vars scope → IfSome rest (IsThere ps scope)
      → HasRead g ts ds ps qs old mid scope first → HasRead g ts ds qs us mid reached scope second → AreNeeded ts (c ∷ []) us rest keys → ((v : VarId) → Contains more v ↔ (Contains keys v ⊎ Contains (params_at us first) v))
      → ((v : VarId) → Contains most v ↔ (Contains more v ⊎ Contains (params_at us second) v)) → IsPushed us (cond c first second) rest (those_among scope most) vs n → HasRead g ts ds ps vs old reached scope n
  cond_read ps qs us vs old mid reached scope vars rest c first second n keys more most fits among there h k needed one two pushed =
      let b = begins_then ps qs us h.places_begin k.places_begin in
      let all : (v : VarId) → Contains keys v → Contains most v = λ v i. (two v).1 (inl ((one v).1 (inl i))) in
      let first_there : IsThere us scope first = there_grown qs us scope first k.places_begin h.there in
      let last = read_needed g ts ds us reached reached scope most (cond c first second) rest vs n k.fits (begins_itself reached) k.fits.known (rest_wider ps us scope scope rest b (λ v i. i) there)
      (λ v i. all v ((needed v).1 (inr i))) (
        term_narrowed g ts vars scope most among bool_sort c (λ v i. all v ((needed v).1 (inl i))) fits,
        there_narrowed us scope most first first_there (λ v i. (two v).1 (inl ((one v).1 (inr (subst (λ l. Contains l v) (sym (params_are us scope first first_there)) i))))),
        there_narrowed us scope most second k.there (λ v i. (two v).1 (inr (subst (λ l. Contains l v) (sym (params_are us scope second k.there)) i))),
      ) pushed in
      record { places_begin = begins_then ps us vs b last.places_begin; reached_begin = begins_then old mid reached h.reached_begin k.reached_begin; fits = last.fits; there = last.there }

  -- ---- the variables of a sum, from the last one on
  pub sum_read : (ps qs us : List PlainPlace) (old reached : List ProcId) (outer scope full : List VarId) (rest : Option ℕ) (x : VarId) (place n : ℕ) (terms : List TermId) (keys more : List VarId) → HasRead g ts ds ps qs old reached full place → full ≡ scope ++ x ∷ []
      → AreAmong outer scope → IfSome rest (IsThere ps outer) → AreNeeded ts terms qs rest keys → ((v : VarId) → Contains more v ↔ (Contains keys v ⊎ Contains (params_at qs place) v)) → IsPushed qs (sum x place) rest (those_among scope more) us n
      → HasRead g ts ds ps us old reached scope n
  sum_read ps qs us old reached outer scope full rest x place n terms keys more h e within there needed one pushed =
      let inner : (v : VarId) → Contains scope v → Contains full v = λ v i. subst (λ l. Contains l v) (sym e) (Contains-append_left scope (x ∷ []) v i) in
      let so_far : ReadsFittingly g ts ds qs reached scope = fewer_variables g ts ds qs reached full scope inner h.fits in
      let own : IsVariable g x = All-contains (IsVariable g) full x h.fits.variables (subst (λ l. Contains l x) (sym e) (Contains-push scope x)) in
      let at = h.there in
      let operand : IsThere qs (x ∷ those_among scope more) place = record {
        place = at.place;
        stands = at.stands;
        among = from_members at.place.params (x ∷ those_among scope more) (λ y i. ⊎_elim
            (λ j. contains_tail x y (those_among scope more) (kept_among scope more y j ((one y).1 (inr (subst (λ l. Contains l y) (sym (params_are qs full place at)) i)))))
            (λ j. subst (Contains (x ∷ those_among scope more)) j (contains_head x (those_among scope more)))
            (Contains-push_cases scope x y (subst (λ l. Contains l y) e (to_members at.place.params full at.among y i))));
      } in
      let last = read_needed g ts ds qs reached reached scope more (sum x place) rest us n so_far (begins_itself reached) so_far.known (rest_wider ps qs outer scope rest h.places_begin within there)
      (λ v i. (one v).1 (inl ((needed v).1 (inr i)))) (own, operand) pushed in
      record { places_begin = begins_then ps qs us h.places_begin last.places_begin; reached_begin = h.reached_begin; fits = last.fits; there = last.there }

  -- ---- with what a push answers
  pub choice_ok : {E : Type 0} (r : Result ℕ E) (ps qs us : List PlainPlace) (old mid reached : List ProcId) (scope inner : List VarId) (rest : Option ℕ) (keys : List VarId) (operands : List ℕ) → IsChoosing ps qs old mid scope rest keys operands → IfSome rest (IsThere ps scope) → inner ≡ scope
      → OnOk r (reached ≡ mid) → IfOk r (λ n. IsPushed qs (choice operands) rest (those_among inner keys) us n) → IfOk r (λ n. HasRead g ts ds ps us old reached scope n)
  choice_ok (Err e) ps qs us old mid reached scope inner rest keys operands h there e2 same pushed = tt
  choice_ok (Ok n) ps qs us old mid reached scope inner rest keys operands h there e same pushed =
      subst (λ l. HasRead g ts ds ps us old l scope n) (sym same) (choosing_all ps qs us old mid scope rest keys operands n h there (subst (λ z. IsPushed qs (choice operands) rest (those_among z keys) us n) e pushed))

  pub cond_ok : {E : Type 0} (r : Result ℕ E) (ps qs us vs : List PlainPlace) (old mid last reached : List ProcId) (scope one_scope two_scope vars : List VarId) (rest : Option ℕ) (c : TermId) (first second : ℕ) (keys more most : List VarId) → TermFits g ts vars bool_sort c → AreAmong vars scope → IfSome rest (IsThere ps scope)
      → HasRead g ts ds ps qs old mid scope first → one_scope ≡ scope → HasRead g ts ds qs us mid last one_scope second → two_scope ≡ one_scope → AreNeeded ts (c ∷ []) us rest keys → ((v : VarId) → Contains more v ↔ (Contains keys v ⊎ Contains (params_at us first) v))
      → ((v : VarId) → Contains most v ↔ (Contains more v ⊎ Contains (params_at us second) v)) → OnOk r (reached ≡ last) → IfOk r (λ n. IsPushed us (cond c first second) rest (those_among two_scope most) vs n) → IfOk r (λ n. HasRead g ts ds ps vs old reached scope n)
  cond_ok (Err e) ps qs us vs old mid last reached scope one_scope two_scope vars rest c first second keys more most fits among there h e1 k e2 needed one two same pushed = tt
  cond_ok (Ok n) ps qs us vs old mid last reached scope one_scope two_scope vars rest c first second keys more most fits among there h e1 k e2 needed one two same pushed =
      subst (λ l. HasRead g ts ds ps vs old l scope n) (sym same)
      (cond_read ps qs us vs old mid last scope vars rest c first second n keys more most fits among there h (subst (λ z. HasRead g ts ds qs us mid last z second) e1 k) needed one two
      (subst (λ z. IsPushed us (cond c first second) rest (those_among z most) vs n) (e2 ∙ e1) pushed))

  pub more_variables : (ps : List PlainPlace) (reached : List ProcId) (scope xs inner : List VarId) → ReadsFittingly g ts ds ps reached scope → All (IsVariable g) xs → inner ≡ scope ++ xs → ReadsFittingly g ts ds ps reached inner
  more_variables ps reached scope xs inner h k e = record { places = h.places; variables = subst (All (IsVariable g)) (sym e) (All-append (IsVariable g) scope xs h.variables k); known = h.known }

  -- one variable further out
  pub sum_on : (ps qs us : List PlainPlace) (old mid reached : List ProcId) (outer vars cut : List VarId) (rest : Option ℕ) (left : ℕ) (d : VarId) (place n : ℕ) (keys more : List VarId) → HasRead g ts ds ps qs old mid (outer ++ take left vars) place → 0 < left → left ≤ length vars
      → cut ≡ outer ++ take (left - 1) vars → IfSome rest (IsThere ps outer) → AreNeeded ts [] qs rest keys → ((v : VarId) → Contains more v ↔ (Contains keys v ⊎ Contains (params_at qs place) v)) → reached ≡ mid
      → IsPushed qs (sum (get_or vars (left - 1) d) place) rest (those_among cut more) us n → HasRead g ts ds ps us old reached (outer ++ take (left - 1) vars) n
  sum_on ps qs us old mid reached outer vars cut rest left d place n keys more h some most e there needed one same pushed =
      let back : (left - 1) + 1 ≡ left = omega (arith, some) in
      let step : take left vars ≡ take (left - 1) vars ++ get_or vars (left - 1) d ∷ [] = ap (λ m. take m vars) (sym back) ∙ take_more vars (left - 1) d (omega (arith, some, most)) in
      let full : outer ++ take left vars ≡ (outer ++ take (left - 1) vars) ++ get_or vars (left - 1) d ∷ [] = ap (λ z. outer ++ z) step ∙ sym (append_assoc outer (take (left - 1) vars) (get_or vars (left - 1) d ∷ [])) in
      subst (λ l. HasRead g ts ds ps us old l (outer ++ take (left - 1) vars) n) (sym same)
      (sum_read ps qs us old mid outer (outer ++ take (left - 1) vars) (outer ++ take left vars) rest (get_or vars (left - 1) d) place n [] keys more h full (among_front outer (take (left - 1) vars)) there needed one
      (subst (λ z. IsPushed qs (sum (get_or vars (left - 1) d) place) rest (those_among z more) us n) e pushed))

  -- ---- definitions, and what is reached
  pub definition_read : (ps qs us : List PlainPlace) (old reached : List ProcId) (params first second : List VarId) (body n : ℕ) → first ≡ params → second ≡ params → All (IsVariable g) params → HasRead g ts ds ps qs old reached first body
      → us ≡ qs ++ record { part = whole body; rest = None; params = second } ∷ [] → n ≡ length qs → HasRead g ts ds ps us old reached first n
  definition_read ps qs us old reached params first second body n e f vs h is long =
      let p : PlainPlace = record { part = whole body; rest = None; params = second } in
      let same : second ≡ first = f ∙ sym e in
      let last = read_pushed g ts ds qs reached reached first p us n h.fits (begins_itself reached) h.fits.known
      (record { params = subst (All (IsVariable g)) (sym f) vs; part = subst (λ l. IsThere qs l body) (sym same) h.there; rest = tt }) (subst (λ l. AreAmong l first) (sym same) (λ v i. i)) is long in
      record { places_begin = begins_then ps qs us h.places_begin last.places_begin; reached_begin = h.reached_begin; fits = last.fits; there = last.there }

  pub reached_reading : (ps : List PlainPlace) (old reached : List ProcId) (scope : List VarId) (x : ProcId) → ReadsFittingly g ts ds ps old scope → BeginsWith old reached → ((y : ProcId) → Contains reached y → Contains old y ⊎ (x ≡ y)) → x.0 < length ds → ReadsFittingly g ts ds ps reached scope
  reached_reading ps old reached scope x h b only l = record {
    places = All-weaker (PlaceFits g ts ds old ps) (PlaceFits g ts ds reached ps) (λ q k. place_grown g ts ds old reached b ps ps (begins_itself ps) q k) ps h.places;
    variables = h.variables;
    known = all_from (λ (y : ProcId). y.0 < length ds) reached (λ y i. ⊎_elim (λ j. All-contains (λ (z : ProcId). z.0 < length ds) old y h.known j) (λ e. subst (λ (z : ProcId). z.0 < length ds) e l) (only y i));
  }

pub first_reached : (old reached : List ProcId) (x : ProcId) (k : ℕ) → old ≡ [] → slice_get reached k ≡ Some x → ((y : ProcId) → Contains reached y → Contains old y ⊎ (x ≡ y)) → slice_get reached 0 ≡ Some x
first_reached old [] x k e at only = cc
first_reached old (y ∷ ys) x k e at only = ⊎_elim (λ i. absurd (contains_none y (subst (λ l. Contains l y) e i))) (λ q. ap (λ z. Some z) (sym q)) (only y (contains_head y ys))

-- ---- no more processes are reached than there are
apart_numbers : (x : ProcId) (xs : List ProcId) → AllByRecursion (λ (y : ProcId). (x.0 == y.0) ≡ false) xs → AllByRecursion (λ n. eqb x.0 n ≡ false) (map (λ (y : ProcId). y.0) xs)
apart_numbers x [] h = tt
apart_numbers x (y ∷ xs) h = (h.0, apart_numbers x xs h.1)

distinct_numbers : (xs : List ProcId) → IsDistinct (λ (x y : ProcId). x.0 == y.0) xs → IsDistinct eqb (map (λ (x : ProcId). x.0) xs)
unfolding IsDistinct
distinct_numbers [] h = tt
distinct_numbers (x ∷ xs) h = (apart_numbers x xs h.0, distinct_numbers xs h.1)

any_below : (n : ℕ) (xs : List ProcId) (q : ℕ) → All (λ (x : ProcId). x.0 < n) xs → list_any (eqb q) (map (λ (x : ProcId). x.0) xs) ≡ true → q < n
any_below n [] q all e = cc
any_below n (x ∷ xs) q all e = by_test (eqb q x.0) refl (any_below n xs q (All-tail (λ (x : ProcId). x.0 < n) x xs all)) e
  where
    by_test : (b : Bool) → eqb q x.0 ≡ b → (list_any (eqb q) (map (λ (x : ProcId). x.0) xs) ≡ true → q < n) → (b || list_any (eqb q) (map (λ (x : ProcId). x.0) xs)) ≡ true → q < n
    by_test true same rest h = let equal = (Decides-eqb q x.0).0 same in let within = All-head (λ (x : ProcId). x.0 < n) x xs all in omega (arith, equal, within)
    by_test false same rest h = rest h

pub few_reached : (n : ℕ) (xs : List ProcId) → IsDistinct (λ (x y : ProcId). x.0 == y.0) xs → All (λ (x : ProcId). x.0 < n) xs → length xs ≤ n
few_reached n xs different all =
    let bound = length-le_from_distinct_below (map (λ (x : ProcId). x.0) xs) n (distinct_numbers xs different) (λ q h. any_below n xs q all h) in
    omega (arith, bound, length-map xs (λ (x : ProcId). x.0))

-- ---- the entries of the reached processes
abbrev pub EntriesSoFar : Sig → List PlainDefinition → List PlainPlace → List ProcId → List PlainEntry → Type 0
EntriesSoFar g ds ps reached es = (k : ℕ) (x : ProcId) → k < length es → slice_get reached k ≡ Some x → (e : PlainEntry) × (slice_get es k ≡ Some e) × EntryFits g ds ps x e

pub entries_none : (g : Sig) (ds : List PlainDefinition) (ps : List PlainPlace) (reached : List ProcId) (es : List PlainEntry) → es ≡ [] → EntriesSoFar g ds ps reached es
entries_none g ds ps reached es e k x l at = absurd (no (subst (λ z. k < length z) e l))
  where
    no : k < 0 → ⊥
    no m = absurd (omega (arith, m))

one_process : {A : Type 0} {x y : A} → Some x ≡ Some y → x ≡ y
one_process e = cc

pub entries_more : (g : Sig) (ds : List PlainDefinition) (ps us : List PlainPlace) (old reached : List ProcId) (es new : List PlainEntry) (x : ProcId) (e : PlainEntry) → EntriesSoFar g ds ps old es → BeginsWith ps us → BeginsWith old reached → slice_get old (length es) ≡ Some x → EntryFits g ds us x e
    → new ≡ es ++ e ∷ [] → EntriesSoFar g ds us reached new
entries_more g ds ps us old reached es new x e h b r at fits is k y l there =
    let range = slice_get_within old (length es) x at in
    let long : length new ≡ length es + 1 = ap length is ∙ length-append es (e ∷ []) in
    ⊎_elim
    (λ m.
    let o : slice_get old k ≡ Some (get_or old k x) = slice_get-get_or old k x (omega (arith, m, range)) in
    let same : get_or old k x ≡ y = one_process (sym (still_read old reached k (get_or old k x) r o) ∙ there) in
    let q = h k y m (o ∙ ap (λ z. Some z) same) in
    let f = q.2 in
    (q.0, subst (λ z. slice_get z k ≡ Some q.0) (sym is) (read_front es (e ∷ []) k q.0 q.1), record { definition = f.definition; stands = f.stands; params = f.params; variables = f.variables; place = f.place; at = still_read ps us q.0.place f.place b f.at; all = f.all }))
    (λ m.
    let same : x ≡ y = one_process (sym (still_read old reached (length es) x r at) ∙ ap (slice_get reached) (sym m) ∙ there) in
    (e, subst (λ z. slice_get z k ≡ Some e) (sym is) (subst (λ n. slice_get (es ++ e ∷ []) n ≡ Some e) (sym m) (read_last es e)), subst (λ z. EntryFits g ds us z e) same fits))
    (below_or_there k (length es) (subst (λ n. k < n) long l))
  where
    below_or_there : (a c : ℕ) → a < c + 1 → (a < c) ⊎ (a ≡ c)
    below_or_there zero zero m = inr refl
    below_or_there zero (suc c) m = inl (omega arith)
    below_or_there (suc a) zero m = absurd (omega (arith, m))
    below_or_there (suc a) (suc c) m = ⊎_elim (λ k. inl (omega (arith, k))) (λ k. inr (ap suc k)) (below_or_there a c (omega (arith, m)))

pub begun_later : (ps us : List PlainPlace) (old reached : List ProcId) (c : PlainComponent) (own : Option ℕ) → BeginsWith ps us → BeginsWith old reached → HasBegun ps old c own → HasBegun us reached c own
begun_later ps us old reached (call_of x ids) own b r h = (h.0, still_read old reached 0 x r h.1)
begun_later ps us old reached (term_of p) own b r h = (h.0, h.1, there_grown ps us [] h.0 b h.2)

pub definition_holds : (P : PlainDefinition → Type 0) (items : List ProcDef) (i : ℕ) (d : ProcDef) → i < length items → d ≡ get_or items i d → All P (map plain_definition items) → P (plain_definition d)
definition_holds P [] i d l e h = absurd (omega (arith, l))
definition_holds P (x ∷ items) zero d l e h = subst (λ (z : ProcDef). P (plain_definition z)) (sym e) (All-head P (plain_definition x) (map plain_definition items) h)
definition_holds P (x ∷ items) (suc i) d l e h = definition_holds P items i d (omega (arith, l)) e (All-tail P (plain_definition x) (map plain_definition items) h)

pub definition_stands : (items : List ProcDef) (i : ℕ) (d : ProcDef) → i < length items → d ≡ get_or items i d → slice_get (map plain_definition items) i ≡ Some (plain_definition d)
definition_stands [] i d l e = absurd (omega (arith, l))
definition_stands (x ∷ items) zero d l e = ap (λ (z : ProcDef). Some (plain_definition z)) (sym e)
definition_stands (x ∷ items) (suc i) d l e = definition_stands items i d (omega (arith, l)) e

pub starts_at : (g : Sig) (ds : List PlainDefinition) (t : PlainPlaces) (reached : List ProcId) (c : PlainComponent) (own : Option ℕ) → HasBegun t.places reached c own
    → ((k : ℕ) (x : ProcId) → slice_get reached k ≡ Some x → (e : PlainEntry) × (slice_get t.entries k ≡ Some e) × EntryFits g ds t.places x e)
    → MatchOption own ((e : PlainEntry) → slice_get t.entries 0 ≡ Some e → t.start ≡ e.place) (λ n. t.start ≡ n) → StartsAt ds c t
starts_at g ds t reached (call_of x ids) own h entries m =
    let q = entries 0 x h.1 in
    let first : (e : PlainEntry) → slice_get t.entries 0 ≡ Some e → t.start ≡ e.place = subst (λ o. MatchOption o ((e : PlainEntry) → slice_get t.entries 0 ≡ Some e → t.start ≡ e.place) (λ n. t.start ≡ n)) h.0 m in
    (q.2.definition, q.2.stands, q.2.place, ap (slice_get t.places) (first q.0 q.1) ∙ q.2.at, q.2.all ∙ q.2.params)
starts_at g ds t reached (term_of p) own h entries m =
    let same : t.start ≡ h.0 = subst (λ o. MatchOption o ((e : PlainEntry) → slice_get t.entries 0 ≡ Some e → t.start ≡ e.place) (λ n. t.start ≡ n)) h.1 m in
    subst (IsThere t.places []) (sym same) h.2
