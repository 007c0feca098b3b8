-- What the entry of a text's functions and actions needs, from its identifiers and its sort expressions.
use Rattle.std.proofs.Common.{◌≡◌, zero, suc, Bool, true, false, cond, List, [], ◌∷◌, ◌++◌, map, refl, ap, sym, ◌∙◌, subst, arith}
use Rattle.std.specs.Prelude.{Option, Some, None, ◌&&◌}
use Rattle.std.specs.List.{Contains, AllByRecursion, flat_map}
use Rattle.std.proofs.lemmas.Grind.{flat_map-append}
use Rattle.mcrl2_syntax.specs.Words.{PlainWord}
use Rattle.mcrl2_syntax.specs.declared.declaration.SectionWord.{SectionWord}
use Rattle.mcrl2_syntax.specs.declared.declaration.SectionWord.TheVariants.{Sort, Cons, Map, Var, Eqn, Act, Proc, Init}
use Rattle.mcrl2_syntax.specs.SortTrees.{PlainSort}
use Rattle.mcrl2_syntax.specs.Declarations as trees
use Rattle.mcrl2_syntax.specs.Declarations.{PlainField, PlainConstructor, PlainDecl, PlainSection}
use Rattle.mcrl2_syntax.specs.Copied.{is_copied, word_is_copied, has_declarations}
use Rattle.data_theory.specs.Signature.{Sig}
use Rattle.sort_table.specs.Expressions.{Name}
use Rattle.sort_table.specs.BareSorts.{SortExpression, bare_sort}
use Rattle.sort_table.specs.BareProcesses.{bare_names}
use Rattle.sort_table.specs.BareDeclarations.{Field, Declaration, bare_word, bare_field, bare_constructor, bare_declaration, bare_section, declarations_in}
use Rattle.sort_table.specs.Identifiers.{name_where, in_sort, in_sorts, in_field, in_constructor, in_declaration, in_section, copied_in}
use Rattle.sort_table.specs.Built.{expressions_in, sorts_of_constructor}
use Rattle.sort_table.specs.NamedSorts.{IsNamed}
use Rattle.sort_table.specs.EnteredFunctions.{IsReadable, IsKnownName, IsKnownOption, IsReadyField, IsReadyConstructor}
use Rattle.sort_table.specs.EnteredActions.{IsReadyAction}
use Rattle.sort_table.specs.FunctionStates.{struct_name, structs_in, IsReadyDeclaration}
use Rattle.sort_table.specs.PlacedSections.{word_of_declaration, IsPlacedSection}
use Rattle.sort_table.proofs.Growing.{contains_behind, contains_after}
use Rattle.mcrl2_syntax.proofs.Lists.{all_both}

all_from : {A : Type 0} (P : A → Type 0) (xs : List A) → ((x : A) → Contains xs x → P x) → AllByRecursion P xs
all_from P [] each = tt
all_from P (x ∷ xs) each = (each x (zero, omega arith, refl), all_from P xs (λ y c. each y (suc c.0, (let low = c.1 in omega (arith, low)), c.2)))

here : {A : Type 0} (x : A) (xs : List A) → Contains (x ∷ xs) x
here x xs = (zero, omega arith, refl)

later : {A : Type 0} (x y : A) (xs : List A) → Contains xs y → Contains (x ∷ xs) y
later x y xs c = (suc c.0, (let low = c.1 in omega (arith, low)), c.2)

-- ---- sections and their declarations
always : (w : SectionWord) (ss : List PlainSection) → word_is_copied w [] ≡ true → word_is_copied w ss ≡ true
always Sort ss is = refl
always Cons ss is = refl
always Map ss is = refl
always Var ss is = let no_way : false ≡ true = is in cc
always Eqn ss is = refl
always Act ss is = refl
always Proc ss is = is
always Init ss is = is

pub copied_section : (s : PlainSection) (ss : List PlainSection) (d : PlainDecl) → word_is_copied s.word [] ≡ true → Contains s.declarations d → is_copied (s ∷ ss) ≡ true
copied_section s ss d is among = (λ i. has_some s.declarations among i && always s.word ss is i)
  where
    has_some : (ds : List PlainDecl) → Contains ds d → has_declarations (record s { declarations = ds }) ≡ true
    has_some [] c = absurd (omega (arith, c.1))
    has_some (x ∷ ds) c = refl

pub among_all : (ds : List PlainDecl) (d : PlainDecl) (n : Name) → Contains ds d → Contains (in_declaration d) n → Contains (flat_map in_declaration ds) n
among_all [] d n c m = absurd (omega (arith, c.1))
among_all (x ∷ ds) d n (zero, l, e) m = contains_behind (in_declaration x) (flat_map in_declaration ds) n (subst (λ y. Contains (in_declaration y) n) (sym e) m)
among_all (x ∷ ds) d n (suc k, l, e) m = contains_after (in_declaration x) (flat_map in_declaration ds) n (among_all ds d n (k, omega (arith, l), e) m)

among_written : {B : Type 0} (f : Declaration → List B) (ds : List PlainDecl) (d : PlainDecl) (e : B) → Contains ds d → Contains (f (bare_declaration d)) e → Contains (flat_map f (map bare_declaration ds)) e
among_written f [] d e c m = absurd (omega (arith, c.1))
among_written f (x ∷ ds) d e (zero, l, same) m = contains_behind (f (bare_declaration x)) (flat_map f (map bare_declaration ds)) e (subst (λ y. Contains (f (bare_declaration y)) e) (sym same) m)
among_written f (x ∷ ds) d e (suc k, l, same) m = contains_after (f (bare_declaration x)) (flat_map f (map bare_declaration ds)) e (among_written f ds d e (k, omega (arith, l), same) m)

pub its_word : (s : PlainSection) (ds : List PlainDecl) (d : PlainDecl) → AllByRecursion (λ (x : PlainDecl). word_of_declaration x ≡ s.word) ds → Contains ds d → word_of_declaration d ≡ s.word
its_word s [] d all c = absurd (omega (arith, c.1))
its_word s (x ∷ ds) d all (zero, l, e) = subst (λ (y : PlainDecl). word_of_declaration y ≡ s.word) e all.0
its_word s (x ∷ ds) d all (suc k, l, e) = its_word s ds d all.1 (k, omega (arith, l), e)

module _ (g : Sig) where
  abbrev AreKnown : List Name → Type 0
  AreKnown ns = (n : Name) → Contains ns n → IsKnownName g n

  abbrev AreReadable : List SortExpression → Type 0
  AreReadable es = (e : SortExpression) → Contains es e → IsReadable g e

  ready_option : (o : Option PlainWord) → AreKnown (name_where o) → IsKnownOption g (bare_word o)
  ready_option None known = tt
  ready_option (Some w) known = known w.bytes (here w.bytes [])

  ready_fields : (fs : List PlainField) → AreKnown (flat_map in_field fs) → AreReadable (map (λ (f : trees.PlainField). bare_sort f.sort) fs) → AllByRecursion (IsReadyField g) (map bare_field fs)
  ready_fields [] known readable = tt
  ready_fields (f ∷ fs) known readable = (
    (ready_option f.name (λ n c. known n (contains_behind (in_field f) (flat_map in_field fs) n (contains_behind (name_where f.name) (in_sort f.sort) n c))), readable (bare_sort f.sort) (here (bare_sort f.sort) (map (λ (x : trees.PlainField). bare_sort x.sort) fs))),
    ready_fields fs (λ n c. known n (contains_after (in_field f) (flat_map in_field fs) n c)) (λ e c. readable e (later (bare_sort f.sort) e (map (λ (x : trees.PlainField). bare_sort x.sort) fs) c)),
  )

  sorts_of_fields : (fs : List PlainField) → map (λ (f : trees.PlainField). bare_sort f.sort) fs ≡ map (λ (f : Field). f.sort) (map bare_field fs)
  sorts_of_fields [] = refl
  sorts_of_fields (f ∷ fs) = ap (λ es. bare_sort f.sort ∷ es) (sorts_of_fields fs)

  ready_constructor : (c : PlainConstructor) → AreKnown (in_constructor c) → AreReadable (sorts_of_constructor (bare_constructor c)) → IsReadyConstructor g (bare_constructor c)
  ready_constructor c known readable =
      let fields : List Name = flat_map in_field c.fields in
      record {
        name = known c.name.bytes (here c.name.bytes (fields ++ name_where c.recogniser));
        fields = ready_fields c.fields (λ n m. known n (later c.name.bytes n (fields ++ name_where c.recogniser) (contains_behind fields (name_where c.recogniser) n m))) (λ e m. readable e (subst (λ es. Contains es e) (sorts_of_fields c.fields) m));
        recogniser = ready_option c.recogniser (λ n m. known n (later c.name.bytes n (fields ++ name_where c.recogniser) (contains_after fields (name_where c.recogniser) n m)));
      }

  ready_constructors : (cs : List PlainConstructor) → AreKnown (flat_map in_constructor cs) → AreReadable (flat_map sorts_of_constructor (map bare_constructor cs)) → AllByRecursion (IsReadyConstructor g) (map bare_constructor cs)
  ready_constructors [] known readable = tt
  ready_constructors (c ∷ cs) known readable = (
    ready_constructor c (λ n m. known n (contains_behind (in_constructor c) (flat_map in_constructor cs) n m)) (λ e m. readable e (contains_behind (sorts_of_constructor (bare_constructor c)) (flat_map sorts_of_constructor (map bare_constructor cs)) e m)),
    ready_constructors cs (λ n m. known n (contains_after (in_constructor c) (flat_map in_constructor cs) n m)) (λ e m. readable e (contains_after (sorts_of_constructor (bare_constructor c)) (flat_map sorts_of_constructor (map bare_constructor cs)) e m)),
  )

  -- ---- one declaration
  abbrev IsNeeded : Declaration → Type 0
  IsNeeded d = IsReadyDeclaration g d × IsReadyAction g d

  of_type : (ns : List PlainWord) (ss : List PlainSort) (to : PlainSort) → AreKnown (bare_names ns ++ (in_sorts ss ++ in_sort to)) → AreReadable (map bare_sort ss ++ bare_sort to ∷ [])
      → AllByRecursion (IsKnownName g) (bare_names ns) × AllByRecursion (IsReadable g) (map bare_sort ss) × IsReadable g (bare_sort to)
  of_type ns ss to known readable = (
    all_from (IsKnownName g) (bare_names ns) (λ n c. known n (contains_behind (bare_names ns) (in_sorts ss ++ in_sort to) n c)),
    all_from (IsReadable g) (map bare_sort ss) (λ e c. readable e (contains_behind (map bare_sort ss) (bare_sort to ∷ []) e c)),
    readable (bare_sort to) (contains_after (map bare_sort ss) (bare_sort to ∷ []) (bare_sort to) (here (bare_sort to) [])),
  )

  needed_one : (d : PlainDecl) → AreKnown (in_declaration d) → AreReadable (expressions_in (bare_declaration d)) → ((n : Name) → Contains (struct_name (bare_declaration d)) n → IsNamed g n) → IsNeeded (bare_declaration d)
  needed_one (trees.sorts_decl span ns) known readable named = (tt, tt)
  needed_one (trees.alias_decl span n s) known readable named = (tt, tt)
  needed_one (trees.struct_decl span n cs) known readable named = ((named n.bytes (here n.bytes []), ready_constructors cs (λ m c. known m (later n.bytes m (flat_map in_constructor cs) c)) readable), tt)
  needed_one (trees.cons_decl span ns ss to) known readable named = (of_type ns ss to known readable, tt)
  needed_one (trees.map_decl span ns ss to) known readable named = (of_type ns ss to known readable, tt)
  needed_one (trees.vars_decl span gs) known readable named = (tt, tt)
  needed_one (trees.equation_decl span c l r) known readable named = (tt, tt)
  needed_one (trees.act_decl span ns ss) known readable named = (tt, (all_from (IsKnownName g) (bare_names ns) (λ n c. known n (contains_behind (bare_names ns) (in_sorts ss) n c)), all_from (IsReadable g) (map bare_sort ss) readable))
  needed_one (trees.proc_decl span p gs body) known readable named = (tt, tt)
  needed_one (trees.init_decl span body) known readable named = (tt, tt)

  -- what stands in a section that isn't copied needs nothing
  needs_nothing : (d : PlainDecl) → word_is_copied (word_of_declaration d) [] ≡ false → IsNeeded (bare_declaration d)
  needs_nothing (trees.sorts_decl span ns) never = (tt, tt)
  needs_nothing (trees.alias_decl span n s) never = (tt, tt)
  needs_nothing (trees.struct_decl span n cs) never = let no_way : true ≡ false = never in cc
  needs_nothing (trees.cons_decl span ns ss to) never = let no_way : true ≡ false = never in cc
  needs_nothing (trees.map_decl span ns ss to) never = let no_way : true ≡ false = never in cc
  needs_nothing (trees.vars_decl span gs) never = (tt, tt)
  needs_nothing (trees.equation_decl span c l r) never = (tt, tt)
  needs_nothing (trees.act_decl span ns ss) never = let no_way : true ≡ false = never in cc
  needs_nothing (trees.proc_decl span p gs body) never = (tt, tt)
  needs_nothing (trees.init_decl span body) never = (tt, tt)

  -- ---- sections
  needed_all : (ds : List PlainDecl) → ((d : PlainDecl) → Contains ds d → IsNeeded (bare_declaration d)) → AllByRecursion IsNeeded (map bare_declaration ds)
  needed_all [] each = tt
  needed_all (d ∷ ds) each = (each d (here d ds), needed_all ds (λ e c. each e (later d e ds c)))

  rest_known : (s : PlainSection) (ss : List PlainSection) → AreKnown (copied_in (s ∷ ss)) → AreKnown (copied_in ss)
  rest_known s ss known = by_test (is_copied (s ∷ ss)) known
    where
      by_test : (b : Bool) → AreKnown (cond b (in_section s ++ copied_in ss) (copied_in ss)) → AreKnown (copied_in ss)
      by_test true all n c = all n (contains_after (in_section s) (copied_in ss) n c)
      by_test false all n c = all n c

  section_known : (s : PlainSection) (ss : List PlainSection) → AreKnown (copied_in (s ∷ ss)) → is_copied (s ∷ ss) ≡ true → AreKnown (in_section s)
  section_known s ss known is n c =
      let all : AreKnown (in_section s ++ copied_in ss) = subst (λ (b : Bool). AreKnown (cond b (in_section s ++ copied_in ss) (copied_in ss))) is known in
      all n (contains_behind (in_section s) (copied_in ss) n c)

  needed_in : (ss : List PlainSection) → AreKnown (copied_in ss) → AreReadable (flat_map expressions_in (declarations_in (map bare_section ss))) → ((n : Name) → Contains (structs_in (declarations_in (map bare_section ss))) n → IsNamed g n)
      → AllByRecursion IsPlacedSection ss → AllByRecursion IsNeeded (declarations_in (map bare_section ss))
  needed_in [] known readable named placed = tt
  needed_in (s ∷ ss) known readable named placed =
      all_both IsNeeded (map bare_declaration s.declarations) (declarations_in (map bare_section ss)) (needed_all s.declarations of_one)
      (needed_in ss (rest_known s ss known) (λ e c. readable e (both_after expressions_in e c)) (λ n c. named n (both_after struct_name n c)) placed.1)
    where
      both : {B : Type 0} (f : Declaration → List B) → flat_map f (declarations_in (map bare_section (s ∷ ss))) ≡ flat_map f (map bare_declaration s.declarations) ++ flat_map f (declarations_in (map bare_section ss))
      both f = flat_map-append f (map bare_declaration s.declarations) (declarations_in (map bare_section ss))

      both_after : {B : Type 0} (f : Declaration → List B) (e : B) → Contains (flat_map f (declarations_in (map bare_section ss))) e → Contains (flat_map f (declarations_in (map bare_section (s ∷ ss)))) e
      both_after f e c = subst (λ xs. Contains xs e) (sym (both f)) (contains_after (flat_map f (map bare_declaration s.declarations)) (flat_map f (declarations_in (map bare_section ss))) e c)

      both_front : {B : Type 0} (f : Declaration → List B) (e : B) → Contains (flat_map f (map bare_declaration s.declarations)) e → Contains (flat_map f (declarations_in (map bare_section (s ∷ ss)))) e
      both_front f e c = subst (λ xs. Contains xs e) (sym (both f)) (contains_behind (flat_map f (map bare_declaration s.declarations)) (flat_map f (declarations_in (map bare_section ss))) e c)

      of_one : (d : PlainDecl) → Contains s.declarations d → IsNeeded (bare_declaration d)
      of_one d among = by_word (word_is_copied s.word []) refl
        where
          word : word_of_declaration d ≡ s.word
          word = its_word s s.declarations d placed.0 among

          by_word : (b : Bool) → word_is_copied s.word [] ≡ b → IsNeeded (bare_declaration d)
          by_word false is = needs_nothing d (ap (λ w. word_is_copied w []) word ∙ is)
          by_word true is =
              needed_one d (λ n c. section_known s ss known (copied_section s ss d is among) n (among_all s.declarations d n among c))
              (λ e c. readable e (both_front expressions_in e (among_written expressions_in s.declarations d e among c)))
              (λ n c. named n (both_front struct_name n (among_written struct_name s.declarations d n among c)))

  firsts : (ds : List Declaration) → AllByRecursion IsNeeded ds → AllByRecursion (IsReadyDeclaration g) ds
  firsts [] all = tt
  firsts (d ∷ ds) all = (all.0.0, firsts ds all.1)

  seconds : (ds : List Declaration) → AllByRecursion IsNeeded ds → AllByRecursion (IsReadyAction g) ds
  seconds [] all = tt
  seconds (d ∷ ds) all = (all.0.1, seconds ds all.1)

  -- the functions and actions of a text are ready, where the identifiers of what is copied are known and its expressions have sorts
  module _ (ss : List PlainSection) (known : (n : Name) → Contains (copied_in ss) n → IsKnownName g n) (readable : (e : SortExpression) → Contains (flat_map expressions_in (declarations_in (map bare_section ss))) e → IsReadable g e)
      (named : (n : Name) → Contains (structs_in (declarations_in (map bare_section ss))) n → IsNamed g n) (placed : AllByRecursion IsPlacedSection ss) where
    pub functions_ready : AllByRecursion (IsReadyDeclaration g) (declarations_in (map bare_section ss))
    functions_ready = firsts (declarations_in (map bare_section ss)) (needed_in ss known readable named placed)

    pub actions_ready : AllByRecursion (IsReadyAction g) (declarations_in (map bare_section ss))
    actions_ready = seconds (declarations_in (map bare_section ss)) (needed_in ss known readable named placed)
