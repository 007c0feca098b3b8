-- As many functions and actions are in a vocabulary as its text declares.
use Rattle.std.proofs.Common.{◌≡◌, ◌+◌, ◌<◌, ℕ, zero, suc, Bool, true, false, cond, List, [], ◌∷◌, ◌++◌, length, map, drop, Option, Some, None, refl, sym, ap, ap₂, ◌∙◌, subst, arith, length-append}
use Rattle.std.specs.Prelude.{bytes_eq}
use Rattle.std.specs.List.{All, Contains, flat_map}
use Rattle.std.proofs.lemmas.List.Elements.{All-drop, Contains-append_right}
use Rattle.std.proofs.Math.Seq.{drop-append_seam}
use Rattle.std.proofs.lemmas.List.{drop-drop, drop-map, length-map}
use Rattle.std.proofs.lemmas.Grind.{flat_map-append}
use Rattle.std.proofs.lemmas.Slice.Eq.{bytes_eq-Decides}
use Rattle.mcrl2_syntax.specs.Words.{PlainWord}
use Rattle.mcrl2_syntax.specs.Declarations as trees
use Rattle.mcrl2_syntax.specs.Declarations.{PlainField, PlainConstructor, PlainDecl, PlainSection, PlainSpec}
use Rattle.data_theory.specs.declared.ids.FunId.{FunId}
use Rattle.data_theory.specs.Keys.{Key}
use Rattle.data_theory.specs.Signature.{Sig}
use Rattle.sort_table.specs.Expressions.{Name}
use Rattle.sort_table.specs.NamedLists.{all_named}
use Rattle.sort_table.specs.BareProcesses.{bare_name, bare_names}
use Rattle.sort_table.specs.BareSorts.{SortExpression, truth_values, a_name, bare_sort}
use Rattle.sort_table.specs.BareDeclarations.{Constructor, Declaration, bare_word, bare_field, bare_constructor, bare_declaration, bare_section, bare_sections, declarations_in}
use Rattle.sort_table.specs.TextFunctions.{TextRole, Named, recogniser, where_named, fields_of, projections_from, functions_by, functions_in}
use Rattle.sort_table.specs.TextFunctions as text
use Rattle.sort_table.specs.SignatureVocabularies.{function_names_from, action_under, vocabulary_of}
use Rattle.sort_table.specs.SortMeanings.{actions_by, actions_in, under_names}
use Rattle.sort_table.specs.Vocabularies.{IsFunction, AreSortsOf, IsVocabularyOf}
use Rattle.sort_table.proofs.EnteringStructs.{as_many}
use Rattle.lps_printer.specs.AddedDeclarations.{behind_name, behind_all, behind_field, behind_constructor, behind_declaration, behind_section, added_functions, behind_acts, behind_acts_of, added_actions_of}

-- ---- how many functions a declaration passes
-- a list without so many in front
record Drops {B : Type 0} (behind : List B → List B) (k : ℕ) : Type 0 where
  is : (ys : List B) → behind ys ≡ drop k ys

drops_none : {B : Type 0} → Drops {B = B} (λ ys. ys) 0
drops_none = record { is = λ ys. refl }

drops_both : {B : Type 0} (f g : List B → List B) (j k : ℕ) → Drops f j → Drops g k → Drops (λ ys. g (f ys)) (j + k)
drops_both f g j k p q = record { is = λ ys. q.is (f ys) ∙ ap (drop k) (p.is ys) ∙ drop-drop k j ys }

drops_as_many : {B : Type 0} (f : List B → List B) (j k : ℕ) → j ≡ k → Drops f j → Drops f k
drops_as_many f j k e p = record { is = λ ys. p.is ys ∙ ap (λ (n : ℕ). drop n ys) e }

abbrev total : {A : Type 0} → (A → ℕ) → List A → ℕ
total count [] = 0
total count (x ∷ xs) = count x + total count xs

drops_all : {A B : Type 0} (behind : A → List B → List B) (count : A → ℕ) → ((x : A) → Drops (behind x) (count x)) → (xs : List A) → Drops (behind_all behind xs) (total count xs)
drops_all behind count each [] = drops_none
drops_all behind count each (x ∷ xs) = drops_both (behind x) (behind_all behind xs) (count x) (total count xs) (each x) (drops_all behind count each xs)

abbrev name_count : Option PlainWord → ℕ
name_count None = 0
name_count (Some w) = 1

drops_name : (o : Option PlainWord) → Drops (behind_name o) (name_count o)
drops_name None = record { is = λ fs. refl }
drops_name (Some w) = record { is = λ fs. refl }

abbrev field_count : PlainField → ℕ
field_count f = name_count f.name

abbrev constructor_count : PlainConstructor → ℕ
constructor_count c = (1 + total field_count c.fields) + name_count c.recogniser

drops_constructor : (c : PlainConstructor) → Drops (behind_constructor c) (constructor_count c)
drops_constructor c =
    drops_both (λ fs. behind_all behind_field c.fields (drop 1 fs)) (behind_name c.recogniser) (1 + total field_count c.fields) (name_count c.recogniser)
    (drops_both (λ fs. drop 1 fs) (behind_all behind_field c.fields) 1 (total field_count c.fields) (record { is = λ fs. refl }) (drops_all behind_field field_count (λ f. drops_name f.name) c.fields))
    (drops_name c.recogniser)

-- ---- as many are declared
named_long : (e to : SortExpression) (r : TextRole) (o : Option PlainWord) → length (where_named e to r (bare_word o)) ≡ name_count o
named_long e to r None = refl
named_long e to r (Some w) = refl

projections_long : (e : SortExpression) (c : Constructor) (i : ℕ) (fs : List PlainField) → length (projections_from e c i (map bare_field fs)) ≡ total field_count fs
projections_long e c i [] = refl
projections_long e c i (f ∷ fs) =
    let x = bare_field f in
    length-append (where_named e x.sort (text.projection c.name (fields_of c) i) x.name) (projections_from e c (suc i) (map bare_field fs)) ∙ ap₂ (λ (j k : ℕ). j + k) (named_long e x.sort (text.projection c.name (fields_of c) i) f.name) (projections_long e c (suc i) fs)

abbrev projections_of : SortExpression → Constructor → List Named
projections_of e c = projections_from e c 0 c.fields

abbrev recognisers_of : SortExpression → Constructor → List Named
recognisers_of e c = where_named e truth_values (recogniser c.name (fields_of c)) c.recogniser

constructors_long : (e : SortExpression) (cs : List PlainConstructor) → length cs + (length (flat_map (projections_of e) (map bare_constructor cs)) + length (flat_map (recognisers_of e) (map bare_constructor cs))) ≡ total constructor_count cs
constructors_long e [] = refl
constructors_long e (c ∷ cs) =
    let d = bare_constructor c in
    let ps = flat_map (projections_of e) (map bare_constructor cs) in
    let rs = flat_map (recognisers_of e) (map bare_constructor cs) in
    let p : length (projections_of e d ++ ps) ≡ total field_count c.fields + length ps = length-append (projections_of e d) ps ∙ ap (λ (k : ℕ). k + length ps) (projections_long e d 0 c.fields) in
    let r : length (recognisers_of e d ++ rs) ≡ name_count c.recogniser + length rs = length-append (recognisers_of e d) rs ∙ ap (λ (k : ℕ). k + length rs) (named_long e truth_values (recogniser d.name (fields_of d)) c.recogniser) in
    let more = constructors_long e cs in
    put_together (length cs) (length (projections_of e d ++ ps)) (length (recognisers_of e d ++ rs)) (length ps) (length rs) (total field_count c.fields) (name_count c.recogniser) (total constructor_count cs) p r more
  where
    put_together : (l a b p r f n t : ℕ) → a ≡ f + p → b ≡ n + r → l + (p + r) ≡ t → suc l + (a + b) ≡ ((1 + f) + n) + t
    put_together l a b p r f n t h k m = omega arith

plain_drops : (to : Name → Named) (ws : List PlainWord) → Drops {B = FunId} (λ fs. drop (length ws) fs) (length (map to (bare_names ws)))
plain_drops to ws = record { is = λ fs. ap (λ (n : ℕ). drop n fs) (sym (length-map (bare_names ws) to ∙ length-map ws bare_name)) }

declaration_drops : (d : PlainDecl) → Drops (behind_declaration d) (length (functions_by (bare_declaration d)))
declaration_drops (trees.sorts_decl span ws) = drops_none
declaration_drops (trees.alias_decl span w s) = drops_none
declaration_drops (trees.struct_decl span w cs) =
    let e = a_name w.bytes in
    let bs = map bare_constructor cs in
    let ps = flat_map (projections_of e) bs in
    let rs = flat_map (recognisers_of e) bs in
    let fs = map (λ (c : Constructor). text.declared (fields_of c) e text.struct_constructor c.name) bs in
    let long : length (fs ++ (ps ++ rs)) ≡ length cs + (length ps + length rs)
    = length-append fs (ps ++ rs) ∙ ap₂ (λ (j k : ℕ). j + k) (length-map bs (λ (c : Constructor). text.declared (fields_of c) e text.struct_constructor c.name) ∙ length-map cs bare_constructor) (length-append ps rs) in
    drops_as_many (behind_all behind_constructor cs) (total constructor_count cs) (length (fs ++ (ps ++ rs))) (sym (long ∙ constructors_long e cs)) (drops_all behind_constructor constructor_count drops_constructor cs)
declaration_drops (trees.cons_decl span ws ss to) = plain_drops (text.declared (map bare_sort ss) (bare_sort to) text.declared_constructor) ws
declaration_drops (trees.map_decl span ws ss to) = plain_drops (text.declared (map bare_sort ss) (bare_sort to) text.mapping) ws
declaration_drops (trees.vars_decl span gs) = drops_none
declaration_drops (trees.equation_decl span c l r) = drops_none
declaration_drops (trees.act_decl span ws ss) = drops_none
declaration_drops (trees.proc_decl span w gs p) = drops_none
declaration_drops (trees.init_decl span p) = drops_none

declarations_drop : (ds : List PlainDecl) → Drops (behind_all behind_declaration ds) (length (functions_in (map bare_declaration ds)))
declarations_drop [] = drops_none
declarations_drop (d ∷ ds) =
    let one = functions_by (bare_declaration d) in
    let more = functions_in (map bare_declaration ds) in
    drops_as_many (λ fs. behind_all behind_declaration ds (behind_declaration d fs)) (length one + length more) (length (one ++ more)) (sym (length-append one more))
    (drops_both (behind_declaration d) (behind_all behind_declaration ds) (length one) (length more) (declaration_drops d) (declarations_drop ds))

sections_drop : (ss : List PlainSection) → Drops (behind_all behind_section ss) (length (functions_in (declarations_in (map bare_section ss))))
sections_drop [] = drops_none
sections_drop (s ∷ ss) =
    let own : List Declaration = map bare_declaration s.declarations in
    let others : List Declaration = declarations_in (map bare_section ss) in
    let long : length (functions_in (own ++ others)) ≡ length (functions_in own) + length (functions_in others) = ap length (flat_map-append functions_by own others) ∙ length-append (functions_in own) (functions_in others) in
    drops_as_many (λ fs. behind_all behind_section ss (behind_section s fs)) (length (functions_in own) + length (functions_in others)) (length (functions_in (own ++ others))) (sym long)
    (drops_both (behind_section s) (behind_all behind_section ss) (length (functions_in own)) (length (functions_in others)) (declarations_drop s.declarations) (sections_drop ss))

-- ---- and how many actions
acts_drop : {B : Type 0} (d : PlainDecl) → Drops {B = B} (behind_acts d) (length (actions_by (bare_declaration d)))
acts_drop (trees.sorts_decl span ws) = drops_none
acts_drop (trees.alias_decl span w s) = drops_none
acts_drop (trees.struct_decl span w cs) = drops_none
acts_drop (trees.cons_decl span ws ss to) = drops_none
acts_drop (trees.map_decl span ws ss to) = drops_none
acts_drop (trees.vars_decl span gs) = drops_none
acts_drop (trees.equation_decl span c l r) = drops_none
acts_drop (trees.act_decl span ws ss) = record { is = λ ys. ap (λ (n : ℕ). drop n ys) (sym (length-map (bare_names ws) (λ (a : Name). (a, map bare_sort ss)) ∙ length-map ws bare_name)) }
acts_drop (trees.proc_decl span w gs p) = drops_none
acts_drop (trees.init_decl span p) = drops_none

declared_acts_drop : {B : Type 0} (ds : List PlainDecl) → Drops {B = B} (behind_all behind_acts ds) (length (actions_in (map bare_declaration ds)))
declared_acts_drop [] = drops_none
declared_acts_drop (d ∷ ds) =
    let one = actions_by (bare_declaration d) in
    let more = actions_in (map bare_declaration ds) in
    drops_as_many (λ ys. behind_all behind_acts ds (behind_acts d ys)) (length one + length more) (length (one ++ more)) (sym (length-append one more))
    (drops_both (behind_acts d) (behind_all behind_acts ds) (length one) (length more) (acts_drop d) (declared_acts_drop ds))

all_acts_drop : {B : Type 0} (ss : List PlainSection) → Drops {B = B} (behind_all behind_acts_of ss) (length (actions_in (declarations_in (map bare_section ss))))
all_acts_drop [] = drops_none
all_acts_drop (s ∷ ss) =
    let own : List Declaration = map bare_declaration s.declarations in
    let others : List Declaration = declarations_in (map bare_section ss) in
    let long : length (actions_in (own ++ others)) ≡ length (actions_in own) + length (actions_in others) = ap length (flat_map-append actions_by own others) ∙ length-append (actions_in own) (actions_in others) in
    drops_as_many (λ ys. behind_all behind_acts_of ss (behind_acts_of s ys)) (length (actions_in own) + length (actions_in others)) (length (actions_in (own ++ others))) (sym long)
    (drops_both (behind_acts_of s) (behind_all behind_acts_of ss) (length (actions_in own)) (length (actions_in others)) (declared_acts_drop s.declarations) (all_acts_drop ss))

-- what holds of all of them holds of those behind
pub acts_behind : {B : Type 0} (P : B → Type 0) (ss : List PlainSection) (ys : List B) → All P ys → All P (behind_all behind_acts_of ss ys)
acts_behind P ss ys all = let d = all_acts_drop ss in subst (All P) (sym (d.is ys)) (All-drop P (length (actions_in (declarations_in (map bare_section ss)))) ys all)

-- they may be mapped first
pub acts_mapped : {A B : Type 0} (f : A → B) (ss : List PlainSection) (xs : List A) → behind_all behind_acts_of ss (map f xs) ≡ map f (behind_all behind_acts_of ss xs)
acts_mapped f ss xs =
    let d = all_acts_drop ss in
    let e = all_acts_drop ss in
    d.is (map f xs) ∙ drop-map f (length (actions_in (declarations_in (map bare_section ss)))) xs ∙ sym (ap (map f) (e.is xs))

-- ---- lists that have as many under each name
abbrev hit : Bool → ℕ
hit true = 1
hit false = 0

one_more : {A : Type 0} (b : Bool) (x : A) (xs : List A) → length (cond b (x ∷ xs) xs) ≡ hit b + length xs
one_more true x xs = omega arith
one_more false x xs = omega arith

first_count : {A : Type 0} (f : Name) (y : Name × A) (ys : List (Name × A)) → length (all_named f (y ∷ ys)) ≡ hit (bytes_eq y.0 f) + length (all_named f ys)
first_count f y ys = one_more (bytes_eq y.0 f) y.1 (all_named f ys)

-- without the first of this name
abbrev without : {A : Type 0} → Name → List (Name × A) → List (Name × A)
without n [] = []
without n (y ∷ ys) = cond (bytes_eq y.0 n) ys (y ∷ without n ys)

not_first : {A : Type 0} (n : Name) (y : Name × A) (ys : List (Name × A)) → bytes_eq y.0 n ≡ false → 0 < length (all_named n (y ∷ ys)) → 0 < length (all_named n ys)
not_first n y ys e h = let c = first_count n y ys in let none : hit (bytes_eq y.0 n) ≡ 0 = ap hit e in omega (arith, c, none, h)

without_count : {A : Type 0} (n f : Name) (ys : List (Name × A)) → 0 < length (all_named n ys) → length (all_named f ys) ≡ hit (bytes_eq n f) + length (all_named f (without n ys))
without_count n f [] h = absurd (omega (arith, h))
without_count {A = A} n f (y ∷ ys) h = by_test (bytes_eq y.0 n) refl (λ r. without_count n f ys r)
  where
    by_test : (b : Bool) → bytes_eq y.0 n ≡ b → (0 < length (all_named n ys) → length (all_named f ys) ≡ hit (bytes_eq n f) + length (all_named f (without n ys))) → length (all_named f (y ∷ ys)) ≡ hit (bytes_eq n f) + length (all_named f (cond b ys (y ∷ without n ys)))
    by_test true e others = first_count f y ys ∙ ap (λ (m : Name). hit (bytes_eq m f) + length (all_named f ys)) ((bytes_eq-Decides y.0 n).0 e)
    by_test false e others =
        let i = others (not_first n y ys e h) in
        let a = first_count f y ys in
        let c = first_count f y (without n ys) in
        omega (arith, a, c, i)

without_long : {A : Type 0} (n : Name) (ys : List (Name × A)) → 0 < length (all_named n ys) → length ys ≡ suc (length (without n ys))
without_long n [] h = absurd (omega (arith, h))
without_long n (y ∷ ys) h = by_test (bytes_eq y.0 n) refl (λ r. without_long n ys r)
  where
    by_test : (b : Bool) → bytes_eq y.0 n ≡ b → (0 < length (all_named n ys) → length ys ≡ suc (length (without n ys))) → suc (length ys) ≡ suc (length (cond b ys (y ∷ without n ys)))
    by_test true e others = refl
    by_test false e others = ap suc (others (not_first n y ys e h))

same_length : {A B : Type 0} (xs : List (Name × A)) (ys : List (Name × B)) → ((f : Name) → length (all_named f xs) ≡ length (all_named f ys)) → length xs ≡ length ys
same_length [] [] h = refl
same_length [] (y ∷ ys) h =
    let c = first_count y.0 y ys in
    let one : hit (bytes_eq y.0 y.0) ≡ 1 = ap hit ((bytes_eq-Decides y.0 y.0).1 refl) in
    let e = h y.0 in
    absurd (omega (arith, c, one, e))
same_length (x ∷ xs) ys h =
    let a = first_count x.0 x xs in
    let one : hit (bytes_eq x.0 x.0) ≡ 1 = ap hit ((bytes_eq-Decides x.0 x.0).1 refl) in
    let e = h x.0 in
    let there : 0 < length (all_named x.0 ys) = omega (arith, a, one, e) in
    let same : (f : Name) → length (all_named f xs) ≡ length (all_named f (without x.0 ys)) = λ f. let c = first_count f x xs in let d = without_count x.0 f ys there in let k = h f in omega (arith, c, d, k) in
    let i = same_length xs (without x.0 ys) same in
    let l = without_long x.0 ys there in
    ap suc i ∙ sym l

-- ---- the functions behind those of the text
names_long : (g : Sig) (k : ℕ) (is : List FunId) → length (function_names_from g k is) ≡ length is
names_long g k [] = refl
names_long g k (i ∷ is) = ap suc (names_long g (suc k) is)

declared_long : (spec : PlainSpec) (g : Sig) → IsVocabularyOf (under_names (declarations_in (bare_sections spec))) (vocabulary_of g) → length (functions_in (declarations_in (bare_sections spec))) ≡ length g.declared
declared_long spec g is =
    let ds = declarations_in (bare_sections spec) in
    same_length (functions_in ds) (function_names_from g 0 g.declared) (λ f. as_many (IsFunction (under_names ds) (vocabulary_of g)) (all_named f (functions_in ds)) (all_named f (function_names_from g 0 g.declared)) (is.functions.each f))
    ∙ names_long g 0 g.declared

-- of a signature that goes on from one with the declarations of the text
pub added_are : (spec : PlainSpec) (g h : Sig) (new : List FunId) → IsVocabularyOf (under_names (declarations_in (bare_sections spec))) (vocabulary_of g) → h.declared ≡ g.declared ++ new → added_functions spec h ≡ new
added_are spec g h new is e =
    let d = sections_drop spec.sections in
    d.is h.declared ∙ ap₂ (λ (n : ℕ) (fs : List FunId). drop n fs) (declared_long spec g is) e ∙ drop-append_seam g.declared new

-- and the actions
actions_long : (spec : PlainSpec) (g : Sig) → IsVocabularyOf (under_names (declarations_in (bare_sections spec))) (vocabulary_of g) → length (actions_in (declarations_in (bare_sections spec))) ≡ length g.actions
actions_long spec g is =
    let ds = declarations_in (bare_sections spec) in
    let own = map (action_under g) g.actions in
    same_length (actions_in ds) own (λ a. as_many (AreSortsOf (vocabulary_of g)) (all_named a (actions_in ds)) (all_named a own) (is.actions a)) ∙ length-map g.actions (action_under g)

pub added_actions_are : (spec : PlainSpec) (g h : Sig) (new : List Key) → IsVocabularyOf (under_names (declarations_in (bare_sections spec))) (vocabulary_of g) → h.actions ≡ g.actions ++ new → added_actions_of spec h ≡ map (λ (a : Key). a.name) new
added_actions_are spec g h new is e =
    let d = all_acts_drop spec.sections in
    ap (map (λ (a : Key). a.name)) (d.is h.actions ∙ ap₂ (λ (n : ℕ) (as_ : List Key). drop n as_) (actions_long spec g is) e ∙ drop-append_seam g.actions new)

in_dropped : {A : Type 0} (k : ℕ) (xs : List A) (x : A) → Contains (drop k xs) x → Contains xs x
in_dropped zero xs x c = c
in_dropped (suc k) [] x c = c
in_dropped (suc k) (y ∷ xs) x c = Contains-append_right (y ∷ []) xs x (in_dropped k xs x c)

-- they are declared
pub added_are_declared : (spec : PlainSpec) (h : Sig) (f : FunId) → Contains (added_functions spec h) f → Contains h.declared f
added_are_declared spec h f c = let d = sections_drop spec.sections in in_dropped _ h.declared f (subst (λ fs. Contains fs f) (d.is h.declared) c)
