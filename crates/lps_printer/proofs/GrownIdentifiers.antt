-- Names stay identifiers as structs, constants and actions are added.
use Rattle.std.proofs.Common.{◌≡◌, ◌<◌, ◌+◌, ℕ, zero, suc, List, [], ◌∷◌, ◌++◌, length, map, get_or, sym, ap, ◌∙◌, subst, arith, Option, Some}
use Rattle.std.specs.Prelude.{slice_get, option_map}
use Rattle.std.specs.List.{All}
use Rattle.std.proofs.lemmas.List.Elements.{All-nil, All-cons, All-append, All-contains, All-head, All-tail}
use Rattle.std.proofs.lemmas.Option.{slice_get-map}
use Rattle.data_theory.specs.declared.ids.FunId.{FunId}
use Rattle.data_theory.specs.declared.ids.NameId.{NameId}
use Rattle.data_theory.specs.declared.ids.SortId.{SortId}
use Rattle.data_theory.specs.declared.ids.VarId.{VarId}
use Rattle.data_theory.specs.declared.signature.Variable.{Variable}
use Rattle.data_theory.specs.Complete.{IsFunctionWithin}
use Rattle.data_theory.specs.Functions.{Function, declared_function}
use Rattle.data_theory.specs.IdTerms.{IsGrown}
use Rattle.data_theory.specs.Keys.{Key, key}
use Rattle.data_theory.specs.Signature.{Sig}
use Rattle.data_theory.specs.Structs.{numbers_from}
use Rattle.data_theory.specs.Terms.{Sort, boolean, positive, natural, integer, list, named as declared_sort}
use Rattle.data_theory.specs.WholeSignatures.{IsSignature}
use Rattle.data_theory.proofs.IdSortLemmas.{read_within}
use Rattle.data_theory.proofs.IdSymbolLemmas.{holds_at}
use Rattle.data_theory.proofs.PlaceLemmas.{read_behind}
use Rattle.term_pool.proofs.DeclaredConstants.{still_read}
use Rattle.sort_table.specs.SignatureVocabularies.{text_under, function_name_of}
use Rattle.sort_table.proofs.Growing.{front_entry}
use Rattle.lps_core.specs.Fitting.{IsVariable}
use Rattle.lps_core.specs.Naming.{name_of}
use Rattle.lps_printer.specs.DataLayout.{IsIdentifier}
use Rattle.lps_printer.specs.FittingLinears.{HasIdentifier}
use Rattle.lps_printer.specs.GrownIdentifiers.{FunctionNamed, DeclaresIdentifiers, DeclaredStayIdentifiers, NamesStayIdentifiers, WrittenSortsRead}
use Rattle.lps_printer.specs.GrowingByAdditions.{GrowsByStruct, nothing_added, then_constants, then_struct, then_action}
use Rattle.lps_printer.proofs.GrowingByAdditions.{still_stands, additions_grow}
use Rattle.lps_printer.proofs.GrownStructs.{bare, first, fs, it_is_grown, declared_are, actions_are}
use Rattle.lps_printer.specs.GrowingByActions.{GrowsByAction}
use Rattle.lps_printer.specs.GrowingByConstants.{SortsAreNamed, GrowsByConstants}
use Rattle.lps_printer.specs.NamedSummands.{IsNamed}
use Rattle.lps_printer.specs.WrittenProcesses.{TextNames, sort_written}
use Rattle.lps_printer.proofs.SortsBack.{sort_back}

-- ---- the constants by which a signature has grown
abbrev constant_of : NameId × SortId → Function
constant_of c = declared_function c.0 [] c.1

pub constant_there : (g h : Sig) (w : GrowsByConstants g h) (i : ℕ) (c : NameId × SortId) → slice_get w.constants i ≡ Some c → slice_get h.functions (length g.functions + i) ≡ Some (constant_of c)
constant_there g h w i c at =
    ap (λ (fs : List Function). slice_get fs (length g.functions + i)) w.functions
    ∙ read_behind g.functions (map constant_of w.constants) i (constant_of c) (slice_get-map constant_of w.constants i ∙ ap (option_map constant_of) at)

-- ---- names that were there
text_still : (g h : Sig) → IsGrown g h → (n : NameId) → n.0 < length g.texts → text_under h n ≡ text_under g n
text_still g h w n l = ap (λ ts. get_or ts n.0 []) w.texts ∙ front_entry g.texts w.new_texts n.0 [] l

module _ (g h : Sig) (before : IsSignature g) (w : IsGrown g h) where
  pub identifier_still : (n : NameId) → n.0 < length g.texts → IsIdentifier (text_under g n) → IsIdentifier (text_under h n)
  identifier_still n l i = subst IsIdentifier (sym (text_still g h w n l)) i

  variable_still : (x : VarId) → IsVariable g x → HasIdentifier g x → HasIdentifier h x
  variable_still x l i =
      let none : Variable = record { name = record { 0 = 0 }; sort = record { 0 = 0 } } in
      let same : name_of h x ≡ name_of g x = ap (λ (vs : List Variable). (get_or vs x.0 none).name) w.variables ∙ ap (λ (v : Variable). v.name) (front_entry g.variables w.new_variables x.0 none l) in
      subst (λ (n : NameId). IsIdentifier (text_under h n)) (sym same) (identifier_still (name_of g x) (before.complete.within.variables x.0 none l).0 i)

  variables_still : (xs : List VarId) → All (IsVariable g) xs → All (HasIdentifier g) xs → All (HasIdentifier h) xs
  variables_still xs there named = λ i d l. variable_still (get_or xs i d) (there i d l) (named i d l)

  pub function_still : (f : FunId) → f.0 < length g.functions → FunctionNamed g f → FunctionNamed h f
  function_still f l i =
      let e = read_within g.functions f.0 l in
      let old : IsIdentifier (text_under g e.0.name) = subst (λ (o : Option Function). IsIdentifier (function_name_of g o)) e.1 i in
      subst (λ (o : Option Function). IsIdentifier (function_name_of h o)) (sym (still_read g.functions h.functions w.new_functions w.functions f.0 e.0 e.1))
      (identifier_still e.0.name (holds_at (IsFunctionWithin (length g.texts) (length g.sorts) (length g.functions)) g.functions f.0 e.0 before.complete.within.functions_within e.1).named old)

numbers_named : (h : Sig) (n m : ℕ) → ((i : ℕ) → i < m → FunctionNamed h (record { 0 = n + i })) → All (FunctionNamed h) (numbers_from n m)
numbers_named h n zero all = All-nil (FunctionNamed h)
numbers_named h n (suc m) all =
    let z : n + 0 ≡ n = omega arith in
    All-cons (FunctionNamed h) (record { 0 = n }) (numbers_from (n + 1) m) (subst (λ (k : ℕ). FunctionNamed h (record { 0 = k })) z (all 0 (omega arith)))
    (numbers_named h (n + 1) m (λ i l. let e : n + suc i ≡ n + 1 + i = omega arith in subst (λ (k : ℕ). FunctionNamed h (record { 0 = k })) e (all (suc i) (omega (arith, l)))))

pub constants_are_named : (g h : Sig) (w : GrowsByConstants g h) → All (λ (c : NameId × SortId). IsIdentifier (text_under h c.0)) w.constants → All (FunctionNamed h) (numbers_from (length g.functions) (length w.constants))
constants_are_named g h w named = numbers_named h (length g.functions) (length w.constants) (λ i l.
    let c = read_within w.constants i l in
    subst (λ (o : Option Function). IsIdentifier (function_name_of h o)) (sym (constant_there g h w i c.0 c.1)) (holds_at (λ (e : NameId × SortId). IsIdentifier (text_under h e.0)) w.constants i c.0 named c.1))

-- the first names of sorts are, where all are
pub sorts_are_named : (g : Sig) → IsSignature g → All (λ (e : NameId × SortId). IsIdentifier (text_under g e.0)) g.sort_names → SortsAreNamed g
sorts_are_named g sg named = λ d s n at first.
    let among = sg.first_names_lead d s n at first in (
      (All-contains (λ (e : NameId × SortId). (e.0.0 < length g.texts) × (e.1.0 < length g.sorts)) g.sort_names (n, d) sg.complete.within.sort_names among).0,
      All-contains (λ (e : NameId × SortId). IsIdentifier (text_under g e.0)) g.sort_names (n, d) named among,
    )

-- where constants are added
with_constants : (g h : Sig) → IsSignature g → GrowsByConstants g h → DeclaresIdentifiers g → DeclaresIdentifiers h
with_constants g h before b named =
    let w = b.grown in
    record {
      functions = subst (All (FunctionNamed h)) (sym b.declared)
          (All-append (FunctionNamed h) g.declared (numbers_from (length g.functions) (length b.constants))
          (λ i d k. function_still g h before w (get_or g.declared i d) (before.complete.within.declared i d k) (named.functions i d k))
          (constants_are_named g h b (b.named (sorts_are_named g before named.sorts))));
      sorts = subst (All (λ (e : NameId × SortId). IsIdentifier (text_under h e.0))) (sym b.sort_names)
          (λ i d k. identifier_still g h before w (get_or g.sort_names i d).0 (before.complete.within.sort_names i d k).0 (named.sorts i d k));
      actions = subst (All (λ (a : Key). IsIdentifier (text_under h a.name))) (sym b.actions)
          (λ i d k. identifier_still g h before w (get_or g.actions i d).name (before.complete.within.actions i d k).named (named.actions i d k));
    }

-- where a struct is added
with_struct : (g h : Sig) → IsSignature g → GrowsByStruct g h → DeclaresIdentifiers g → DeclaresIdentifiers h
with_struct g h before b named =
    let w = it_is_grown g h before b in
    let start = first g h before b in
    let new = fs g h before b in
    let IsNamedId = λ (n : NameId). IsIdentifier (text_under h n) in
    let stand : (i : ℕ) (f : Function) → slice_get new i ≡ Some f → slice_get h.functions (start + i) ≡ Some f = λ i f at. ap (λ (x : Sig). slice_get x.functions (start + i)) b.is ∙ read_behind (bare g h before b).functions new i f at in
    let its : (i : ℕ) → i < length new → FunctionNamed h (record { 0 = start + i }) = λ i l. (
    let f = read_within new i l in
    let name = holds_at IsNamedId (map (λ (e : Function). e.name) new) i f.0.name (All-tail IsNamedId b.declared.0 (map (λ (e : Function). e.name) new) b.identifiers) (slice_get-map (λ (e : Function). e.name) new i ∙ ap (option_map (λ (e : Function). e.name)) f.1) in
    subst (λ (o : Option Function). IsIdentifier (function_name_of h o)) (sym (stand i f.0 f.1)) name) in
    record {
      functions = subst (All (FunctionNamed h)) (sym (declared_are g h before b))
          (All-append (FunctionNamed h) g.declared (numbers_from start (length new))
          (λ i d k. function_still g h before w (get_or g.declared i d) (before.complete.within.declared i d k) (named.functions i d k)) (numbers_named h start (length new) its));
      sorts = subst (All (λ (e : NameId × SortId). IsIdentifier (text_under h e.0))) (sym (ap (λ (x : Sig). x.sort_names) b.is ∙ ap (λ ns. ns ++ (b.declared.0, record { 0 = length b.named.sorts }) ∷ []) b.by_names.sort_names))
          (All-append (λ (e : NameId × SortId). IsIdentifier (text_under h e.0)) g.sort_names ((b.declared.0, record { 0 = length b.named.sorts }) ∷ [])
          (λ i d k. identifier_still g h before w (get_or g.sort_names i d).0 (before.complete.within.sort_names i d k).0 (named.sorts i d k))
          (All-cons (λ (e : NameId × SortId). IsIdentifier (text_under h e.0)) (b.declared.0, record { 0 = length b.named.sorts }) [] (All-head IsNamedId b.declared.0 (map (λ (e : Function). e.name) new) b.identifiers) (All-nil (λ (e : NameId × SortId). IsIdentifier (text_under h e.0)))));
      actions = subst (All (λ (a : Key). IsIdentifier (text_under h a.name))) (sym (actions_are g h before b))
          (λ i d k. identifier_still g h before w (get_or g.actions i d).name (before.complete.within.actions i d k).named (named.actions i d k));
    }

-- where an action is added
with_action : (g h : Sig) → IsSignature g → GrowsByAction g h → DeclaresIdentifiers g → DeclaresIdentifiers h
with_action g h before b named =
    let w = b.grown in
    let HasName = λ (a : Key). IsIdentifier (text_under h a.name) in
    record {
      functions = subst (All (FunctionNamed h)) (sym b.declared) (λ i d k. function_still g h before w (get_or g.declared i d) (before.complete.within.declared i d k) (named.functions i d k));
      sorts = subst (All (λ (e : NameId × SortId). IsIdentifier (text_under h e.0))) (sym b.sort_names)
          (λ i d k. identifier_still g h before w (get_or g.sort_names i d).0 (before.complete.within.sort_names i d k).0 (named.sorts i d k));
      actions = subst (All HasName) (sym b.actions)
          (All-append HasName g.actions (key b.name [] ∷ []) (λ i d k. identifier_still g h before w (get_or g.actions i d).name (before.complete.within.actions i d k).named (named.actions i d k))
          (All-cons HasName (key b.name []) [] b.identifier (All-nil HasName)));
    }

pub declared_still : DeclaredStayIdentifiers
declared_still g _ before nothing_added named = named
declared_still g k before (then_constants {h = j} earlier by after) named = with_constants j k (still_stands g before earlier) by (declared_still g j before earlier named)
declared_still g k before (then_struct {h = j} earlier by after) named = with_struct j k (still_stands g before earlier) by (declared_still g j before earlier named)
declared_still g k before (then_action {h = j} earlier by after) named = with_action j k (still_stands g before earlier) by (declared_still g j before earlier named)

pub names_still : NamesStayIdentifiers
names_still g h ts l before fits b named =
    let w = additions_grow g before b in
    let declares = declared_still g h before b (record { functions = named.functions; sorts = named.sorts; actions = named.actions }) in
    record {
      params = variables_still g h before w l.params fits.params named.params;
      sums = λ i d k. variables_still g h before w (get_or l.summands i d).sums (fits.summands i d k).sums (named.sums i d k);
      functions = declares.functions;
      sorts = declares.sorts;
      actions = declares.actions;
    }

-- ---- what is printed for sorts
pub sort_named : (n : TextNames) → ((d : ℕ) → IsIdentifier (n.sort d)) → (s : Sort) → IsNamed (sort_written n s)
sort_named n all boolean = tt
sort_named n all positive = tt
sort_named n all natural = tt
sort_named n all integer = tt
sort_named n all (list s) = sort_named n all s
sort_named n all (declared_sort d) = all d

pub written_sorts_read : WrittenSortsRead
written_sorts_read h x s stands is = sort_back h stands x s is
