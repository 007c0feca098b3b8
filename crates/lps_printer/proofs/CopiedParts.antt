-- What is copied of a text has its data and its equations.
use Rattle.std.proofs.Common.{◌≡◌, ◌&&◌, ◌⊎◌, inl, inr, ⊎_elim, Bool, true, false, cond, List, [], ◌∷◌, ◌++◌, map, refl, sym, ap, ap₂, subst, ◌∙◌, append_assoc}
use Rattle.std.specs.List.{AllByRecursion, flat_map}
use Rattle.mcrl2_syntax.specs.declared.declaration.SectionWord.{SectionWord}
use Rattle.mcrl2_syntax.specs.declared.declaration.SectionWord.TheVariants.{Sort, Cons, Map, Var, Eqn, Act, Proc, Init}
use Rattle.mcrl2_syntax.specs.Declarations as trees
use Rattle.mcrl2_syntax.specs.Declarations.{PlainDecl, PlainSection}
use Rattle.mcrl2_syntax.specs.Copied.{is_some_list, is_equations, gives_scope, word_is_copied, is_copied}
use Rattle.sort_table.specs.BareProcesses.{Variables}
use Rattle.sort_table.specs.BareDeclarations.{Declaration, bare_declaration, bare_section, declarations_in}
use Rattle.sort_table.specs.PlacedSections.{word_of_declaration, IsPlacedSection}
use Rattle.sort_checker.specs.Elaborations.{WrittenEquation}
use Rattle.sort_checker.specs.Parts.{ScopedDeclaration, variables_by, scoped_behind}
use Rattle.sort_checker.specs.Systems.{equation_under}
use Rattle.lps_printer.specs.CopiedSections.{kept_sections}
use Rattle.lps_printer.specs.CopiedParts.{data_by, data_in, WhatIsCopiedHasAllParts}

pub flat_append : {A B : Type 0} (f : A → List B) (xs ys : List A) → flat_map f (xs ++ ys) ≡ flat_map f xs ++ flat_map f ys
flat_append f [] ys = refl
flat_append f (x ∷ xs) ys = ap (λ zs. f x ++ zs) (flat_append f xs ys) ∙ sym (append_assoc (f x) (flat_map f xs) (flat_map f ys))

-- ---- what stands in a section of a word
abbrev is_data : SectionWord → Bool
is_data Sort = true
is_data Cons = true
is_data Map = true
is_data Act = true
is_data Var = false
is_data Eqn = false
is_data Proc = false
is_data Init = false

abbrev is_var : SectionWord → Bool
is_var Var = true
is_var Sort = false
is_var Cons = false
is_var Map = false
is_var Act = false
is_var Eqn = false
is_var Proc = false
is_var Init = false

abbrev pub Placed : SectionWord → List PlainDecl → Type 0
Placed w ds = AllByRecursion (λ (d : PlainDecl). word_of_declaration d ≡ w) ds

abbrev pub data_of : List PlainDecl → List Declaration
data_of ds = flat_map data_by (map bare_declaration ds)

abbrev pub vars_of : List PlainDecl → Variables
vars_of ds = flat_map variables_by (map bare_declaration ds)

abbrev pub under : ScopedDeclaration → List WrittenEquation
under d = equation_under d.variables d.declaration

abbrev pub eqs_of : Variables → List PlainDecl → List WrittenEquation
eqs_of xs ds = flat_map under (map (λ (d : Declaration). record { variables = xs; declaration = d }) (map bare_declaration ds))

other_word : (f : SectionWord → Bool) (v w : SectionWord) → v ≡ w → f w ≡ false → f v ≡ true → ⊥
other_word f v w h k l = let e : f v ≡ false = subst (λ z. f z ≡ false) (sym h) k in let never : true ≡ false = sym l ∙ e in cc

no_data_by : (d : PlainDecl) (w : SectionWord) → word_of_declaration d ≡ w → is_data w ≡ false → data_by (bare_declaration d) ≡ []
no_data_by (trees.sorts_decl span ns) w h k = absurd (other_word is_data Sort w h k refl)
no_data_by (trees.alias_decl span n s) w h k = absurd (other_word is_data Sort w h k refl)
no_data_by (trees.struct_decl span n cs) w h k = absurd (other_word is_data Sort w h k refl)
no_data_by (trees.cons_decl span ns ss to) w h k = absurd (other_word is_data Cons w h k refl)
no_data_by (trees.map_decl span ns ss to) w h k = absurd (other_word is_data Map w h k refl)
no_data_by (trees.vars_decl span gs) w h k = refl
no_data_by (trees.equation_decl span c l r) w h k = refl
no_data_by (trees.act_decl span ns ss) w h k = absurd (other_word is_data Act w h k refl)
no_data_by (trees.proc_decl span p gs body) w h k = refl
no_data_by (trees.init_decl span body) w h k = refl

no_data : (ds : List PlainDecl) (w : SectionWord) → Placed w ds → is_data w ≡ false → data_of ds ≡ []
no_data [] w h k = refl
no_data (d ∷ ds) w h k = ap₂ (λ xs ys. xs ++ ys) (no_data_by d w h.0 k) (no_data ds w h.1 k)

no_vars_by : (d : PlainDecl) (w : SectionWord) → word_of_declaration d ≡ w → is_var w ≡ false → variables_by (bare_declaration d) ≡ []
no_vars_by (trees.sorts_decl span ns) w h k = refl
no_vars_by (trees.alias_decl span n s) w h k = refl
no_vars_by (trees.struct_decl span n cs) w h k = refl
no_vars_by (trees.cons_decl span ns ss to) w h k = refl
no_vars_by (trees.map_decl span ns ss to) w h k = refl
no_vars_by (trees.vars_decl span gs) w h k = absurd (other_word is_var Var w h k refl)
no_vars_by (trees.equation_decl span c l r) w h k = refl
no_vars_by (trees.act_decl span ns ss) w h k = refl
no_vars_by (trees.proc_decl span p gs body) w h k = refl
no_vars_by (trees.init_decl span body) w h k = refl

no_vars : (ds : List PlainDecl) (w : SectionWord) → Placed w ds → is_var w ≡ false → vars_of ds ≡ []
no_vars [] w h k = refl
no_vars (d ∷ ds) w h k = ap₂ (λ xs ys. xs ++ ys) (no_vars_by d w h.0 k) (no_vars ds w h.1 k)

no_eqs_by : (xs : Variables) (d : PlainDecl) (w : SectionWord) → word_of_declaration d ≡ w → is_equations w ≡ false → equation_under xs (bare_declaration d) ≡ []
no_eqs_by xs (trees.sorts_decl span ns) w h k = refl
no_eqs_by xs (trees.alias_decl span n s) w h k = refl
no_eqs_by xs (trees.struct_decl span n cs) w h k = refl
no_eqs_by xs (trees.cons_decl span ns ss to) w h k = refl
no_eqs_by xs (trees.map_decl span ns ss to) w h k = refl
no_eqs_by xs (trees.vars_decl span gs) w h k = refl
no_eqs_by xs (trees.equation_decl span c l r) w h k = absurd (other_word is_equations Eqn w h k refl)
no_eqs_by xs (trees.act_decl span ns ss) w h k = refl
no_eqs_by xs (trees.proc_decl span p gs body) w h k = refl
no_eqs_by xs (trees.init_decl span body) w h k = refl

no_eqs : (xs : Variables) (ds : List PlainDecl) (w : SectionWord) → Placed w ds → is_equations w ≡ false → eqs_of xs ds ≡ []
no_eqs xs [] w h k = refl
no_eqs xs (d ∷ ds) w h k = ap₂ (λ ys zs. ys ++ zs) (no_eqs_by xs d w h.0 k) (no_eqs xs ds w h.1 k)

-- ---- a section that isn't copied, and one that is
pub record Dropped (w : SectionWord) (ds : List PlainDecl) (behind : List PlainSection) : Type 0 where
  pub no_data_there : data_of ds ≡ []
  pub no_eqs_there : (ys : Variables) → eqs_of ys ds ≡ []
  pub no_vars_there : gives_scope behind ≡ true → vars_of ds ≡ []
  pub no_scope : (is_equations w && is_some_list ds) ≡ true → ⊥

pub second_true : (a b : Bool) → (a && b) ≡ true → b ≡ true
second_true true b h = h
second_true false b h = cc

pub dropped : (w : SectionWord) (ds : List PlainDecl) (behind : List PlainSection) → Placed w ds → (is_some_list ds && word_is_copied w behind) ≡ false → Dropped w ds behind
dropped w [] behind h k = record { no_data_there = refl; no_eqs_there = λ ys. refl; no_vars_there = λ g. refl; no_scope = λ g. let never : false ≡ true = second_true (is_equations w) false g in cc }
dropped Sort (d ∷ ds) behind h k = absurd cc
dropped Cons (d ∷ ds) behind h k = absurd cc
dropped Map (d ∷ ds) behind h k = absurd cc
dropped Eqn (d ∷ ds) behind h k = absurd cc
dropped Act (d ∷ ds) behind h k = absurd cc
dropped Var (d ∷ ds) behind h k = record {
  no_data_there = no_data (d ∷ ds) Var h refl;
  no_eqs_there = λ ys. no_eqs ys (d ∷ ds) Var h refl;
  no_vars_there = λ g. let never : true ≡ false = sym g ∙ k in absurd cc;
  no_scope = λ g. cc;
}
dropped Proc (d ∷ ds) behind h k = record { no_data_there = no_data (d ∷ ds) Proc h refl; no_eqs_there = λ ys. no_eqs ys (d ∷ ds) Proc h refl; no_vars_there = λ g. no_vars (d ∷ ds) Proc h refl; no_scope = λ g. cc }
dropped Init (d ∷ ds) behind h k = record { no_data_there = no_data (d ∷ ds) Init h refl; no_eqs_there = λ ys. no_eqs ys (d ∷ ds) Init h refl; no_vars_there = λ g. no_vars (d ∷ ds) Init h refl; no_scope = λ g. cc }

pub record Kept (w : SectionWord) (ds : List PlainDecl) (behind : List PlainSection) : Type 0 where
  pub same_eqs : (xs ys : Variables) → ((is_equations w && is_some_list ds) ≡ true → xs ≡ ys) → eqs_of xs ds ≡ eqs_of ys ds
  pub vars_or_scope : (vars_of ds ≡ []) ⊎ (gives_scope behind ≡ true)

without_eqs : (w : SectionWord) (ds : List PlainDecl) (xs ys : Variables) → Placed w ds → is_equations w ≡ false → eqs_of xs ds ≡ eqs_of ys ds
without_eqs w ds xs ys h k = no_eqs xs ds w h k ∙ sym (no_eqs ys ds w h k)

first_true : (a b : Bool) → (a && b) ≡ true → a ≡ true
first_true true b h = refl
first_true false b h = cc

pub kept : (w : SectionWord) (ds : List PlainDecl) (behind : List PlainSection) → Placed w ds → (is_some_list ds && word_is_copied w behind) ≡ true → Kept w ds behind
kept Sort ds behind h k = record { same_eqs = λ xs ys e. without_eqs Sort ds xs ys h refl; vars_or_scope = inl (no_vars ds Sort h refl) }
kept Cons ds behind h k = record { same_eqs = λ xs ys e. without_eqs Cons ds xs ys h refl; vars_or_scope = inl (no_vars ds Cons h refl) }
kept Map ds behind h k = record { same_eqs = λ xs ys e. without_eqs Map ds xs ys h refl; vars_or_scope = inl (no_vars ds Map h refl) }
kept Act ds behind h k = record { same_eqs = λ xs ys e. without_eqs Act ds xs ys h refl; vars_or_scope = inl (no_vars ds Act h refl) }
kept Proc ds behind h k = record { same_eqs = λ xs ys e. without_eqs Proc ds xs ys h refl; vars_or_scope = inl (no_vars ds Proc h refl) }
kept Init ds behind h k = record { same_eqs = λ xs ys e. without_eqs Init ds xs ys h refl; vars_or_scope = inl (no_vars ds Init h refl) }
kept Var ds behind h k = record { same_eqs = λ xs ys e. without_eqs Var ds xs ys h refl; vars_or_scope = inr (second_true (is_some_list ds) (gives_scope behind) k) }
kept Eqn ds behind h k = record { same_eqs = λ xs ys e. ap (λ zs. eqs_of zs ds) (e (first_true (is_some_list ds) true k)); vars_or_scope = inl (no_vars ds Eqn h refl) }

-- ---- sections
data_kept : (ss : List PlainSection) → AllByRecursion IsPlacedSection ss → data_in (map bare_section (kept_sections ss)) ≡ data_in (map bare_section ss)
data_kept [] h = refl
data_kept (s ∷ ss) h = by_test (is_copied (s ∷ ss)) refl (data_kept ss h.1)
  where
    by_test : (b : Bool) → is_copied (s ∷ ss) ≡ b → data_in (map bare_section (kept_sections ss)) ≡ data_in (map bare_section ss) → data_in (map bare_section (cond b (s ∷ kept_sections ss) (kept_sections ss))) ≡ data_in (map bare_section (s ∷ ss))
    by_test true e rest =
        flat_append data_by (map bare_declaration s.declarations) (declarations_in (map bare_section (kept_sections ss)))
        ∙ ap (λ zs. data_of s.declarations ++ zs) rest
        ∙ sym (flat_append data_by (map bare_declaration s.declarations) (declarations_in (map bare_section ss)))
    by_test false e rest =
        rest ∙ sym (flat_append data_by (map bare_declaration s.declarations) (declarations_in (map bare_section ss)) ∙ ap (λ zs. zs ++ data_in (map bare_section ss)) (dropped s.word s.declarations ss h.0 e).no_data_there)

-- the equations of sections behind these variables
abbrev eqs_behind : Variables → List PlainSection → List WrittenEquation
eqs_behind xs ss = flat_map under (scoped_behind xs (map bare_section ss))

eqs_first : (xs : Variables) (s : PlainSection) (ss : List PlainSection) → eqs_behind xs (s ∷ ss) ≡ eqs_of xs s.declarations ++ eqs_behind (vars_of s.declarations) ss
eqs_first xs s ss = flat_append under (map (λ (d : Declaration). record { variables = xs; declaration = d }) (map bare_declaration s.declarations)) (scoped_behind (vars_of s.declarations) (map bare_section ss))

-- The variables in scope at the first section, of all sections and of the copied ones: they are the same where that section gives them
-- scope, and of the copied ones there are none where it doesn't.
record Meet (xs ys : Variables) (ss : List PlainSection) : Type 0 where
  same : gives_scope ss ≡ true → xs ≡ ys
  none_or : (xs ≡ []) ⊎ (gives_scope ss ≡ true)

eqs_kept : (ss : List PlainSection) → AllByRecursion IsPlacedSection ss → (xs ys : Variables) → Meet xs ys ss → eqs_behind xs (kept_sections ss) ≡ eqs_behind ys ss
eqs_kept [] h xs ys m = refl
eqs_kept (s ∷ ss) h xs ys m = by_test (is_copied (s ∷ ss)) refl (λ us vs n. eqs_kept ss h.1 us vs n)
  where
    by_test : (b : Bool) → is_copied (s ∷ ss) ≡ b → ((us vs : Variables) → Meet us vs ss → eqs_behind us (kept_sections ss) ≡ eqs_behind vs ss) → eqs_behind xs (cond b (s ∷ kept_sections ss) (kept_sections ss)) ≡ eqs_behind ys (s ∷ ss)
    by_test true e rest =
        let k = kept s.word s.declarations ss h.0 e in
        eqs_first xs s (kept_sections ss)
        ∙ ap₂ (λ us vs. us ++ vs) (k.same_eqs xs ys m.same) (rest (vars_of s.declarations) (vars_of s.declarations) (record { same = λ g. refl; none_or = k.vars_or_scope }))
        ∙ sym (eqs_first ys s ss)
    by_test false e rest =
        let k = dropped s.word s.declarations ss h.0 e in
        let none : xs ≡ [] = ⊎_elim (λ q. q) (λ g. absurd (k.no_scope g)) m.none_or in
        rest xs (vars_of s.declarations) (record { same = λ g. none ∙ sym (k.no_vars_there g); none_or = inl none })
        ∙ sym (eqs_first ys s ss ∙ ap (λ us. us ++ eqs_behind (vars_of s.declarations) ss) (k.no_eqs_there ys))

pub what_is_copied_has_all_parts : WhatIsCopiedHasAllParts
what_is_copied_has_all_parts ss h = record { data_stays = data_kept ss h; equations_stay = eqs_kept ss h [] [] (record { same = λ g. refl; none_or = inl refl }) }
