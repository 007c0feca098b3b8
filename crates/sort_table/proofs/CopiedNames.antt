-- Identifiers of copied sections.
use Rattle.std.proofs.Common.{◌≡◌, inl, inr, zero, suc, Bool, true, false, cond, List, [], ◌∷◌, ◌++◌, map, refl, ap, sym, ◌∙◌, subst, arith}
use Rattle.std.specs.List.{Contains, AllByRecursion, flat_map}
use Rattle.std.proofs.lemmas.Grind.{flat_map-append}
use Rattle.mcrl2_syntax.specs.declared.declaration.SectionWord.TheVariants.{Sort}
use Rattle.mcrl2_syntax.specs.Copied.{is_copied, word_is_copied}
use Rattle.mcrl2_syntax.specs.Declarations as trees
use Rattle.mcrl2_syntax.specs.Declarations.{PlainDecl, PlainSection}
use Rattle.mcrl2_syntax.specs.Words.{PlainWord}
use Rattle.mcrl2_syntax.proofs.Lists.{all_front, all_back, all_both}
use Rattle.sort_table.specs.Expressions.{Name}
use Rattle.sort_table.specs.BareProcesses.{bare_names}
use Rattle.sort_table.specs.BareDeclarations.{bare_declaration, bare_section, declarations_in}
use Rattle.sort_table.specs.SortMeanings.{Kind, kinds_by, kinds_in}
use Rattle.sort_table.specs.Identifiers.{in_declaration, in_section, copied_in}
use Rattle.sort_table.specs.PlacedSections.{word_of_declaration, IsPlacedSection}
use Rattle.sort_table.proofs.Growing.{contains_behind, contains_after, in_either}
use Rattle.sort_table.proofs.ReadySections.{copied_section, among_all, its_word}

-- ---- they are identifiers of the text
pub copied_among : (ss : List PlainSection) (n : Name) → Contains (copied_in ss) n → Contains (flat_map in_section ss) n
copied_among [] n c = c
copied_among (s ∷ ss) n c = by_test (copied_among ss n) (is_copied (s ∷ ss)) c
  where
    by_test : (Contains (copied_in ss) n → Contains (flat_map in_section ss) n) → (b : Bool) → Contains (cond b (in_section s ++ copied_in ss) (copied_in ss)) n → Contains (in_section s ++ flat_map in_section ss) n
    by_test later true d = elim (in_either (in_section s) (copied_in ss) n d) [ inl here ↦ contains_behind (in_section s) (flat_map in_section ss) n here | inr rest ↦ contains_after (in_section s) (flat_map in_section ss) n (later rest) ]
    by_test later false d = contains_after (in_section s) (flat_map in_section ss) n (later d)

pub copied_hold : (P : Name → Type 0) (ss : List PlainSection) → AllByRecursion P (flat_map in_section ss) → AllByRecursion P (copied_in ss)
copied_hold P [] all = tt
copied_hold P (s ∷ ss) all = by_test (copied_hold P ss (all_back P (in_section s) (flat_map in_section ss) all)) (is_copied (s ∷ ss))
  where
    by_test : AllByRecursion P (copied_in ss) → (b : Bool) → AllByRecursion P (cond b (in_section s ++ copied_in ss) (copied_in ss))
    by_test later true = all_both P (in_section s) (copied_in ss) (all_front P (in_section s) (flat_map in_section ss) all) later
    by_test later false = later

-- ---- declared sort names are among them
names_alone : (ns : List PlainWord) (k : Kind) (r : Name × Kind) → Contains (map (λ n. (n, k)) (bare_names ns)) r → Contains (bare_names ns) r.0
names_alone [] k r (i, l, e) = absurd (omega (arith, l))
names_alone (n ∷ ns) k r (zero, l, e) = (zero, omega arith, ap (λ (x : Name × Kind). x.0) e)
names_alone (n ∷ ns) k r (suc i, l, e) = (let c = names_alone ns k r (i, omega (arith, l), e) in let low = c.1 in (suc c.0, omega (arith, low), c.2))

nothing_among : {A B : Type 0} (x : A) → Contains [] x → B
nothing_among x c = absurd (let low = c.1 in omega (arith, low))

-- a declaration of a sort name is one of sorts, and has the name
name_of_kind : (d : PlainDecl) (r : Name × Kind) → Contains (kinds_by (bare_declaration d)) r → (word_of_declaration d ≡ Sort) × Contains (in_declaration d) r.0
name_of_kind (trees.sorts_decl span ns) r c = (refl, names_alone ns _ r c)
name_of_kind (trees.alias_decl span n s) r (zero, l, e) = (refl, (zero, omega arith, ap (λ (x : Name × Kind). x.0) e))
name_of_kind (trees.alias_decl span n s) r (suc i, l, e) = absurd (omega (arith, l))
name_of_kind (trees.struct_decl span n cs) r (zero, l, e) = (refl, (zero, omega arith, ap (λ (x : Name × Kind). x.0) e))
name_of_kind (trees.struct_decl span n cs) r (suc i, l, e) = absurd (omega (arith, l))
name_of_kind (trees.cons_decl span ns ss to) r c = nothing_among r c
name_of_kind (trees.map_decl span ns ss to) r c = nothing_among r c
name_of_kind (trees.vars_decl span gs) r c = nothing_among r c
name_of_kind (trees.equation_decl span c l r) q d = nothing_among q d
name_of_kind (trees.act_decl span ns ss) r c = nothing_among r c
name_of_kind (trees.proc_decl span p gs body) r c = nothing_among r c
name_of_kind (trees.init_decl span body) r c = nothing_among r c

-- a name of a kind stands in a section that is copied
kinds_in_section : (ds : List PlainDecl) (r : Name × Kind) → Contains (kinds_in (map bare_declaration ds)) r → (d : PlainDecl) × Contains ds d × Contains (kinds_by (bare_declaration d)) r
kinds_in_section [] r c = nothing_among r c
kinds_in_section (d ∷ ds) r c = elim (in_either (kinds_by (bare_declaration d)) (kinds_in (map bare_declaration ds)) r c) [
  | inl here ↦ (d, (zero, omega arith, refl), here)
  | inr later ↦ (let q = kinds_in_section ds r later in let low = q.1.1 in (q.0, (suc q.1.0, omega (arith, low), q.1.2), q.2))
]

pub kinds_copied : (ss : List PlainSection) → AllByRecursion IsPlacedSection ss → (r : Name × Kind) → Contains (kinds_in (declarations_in (map bare_section ss))) r → Contains (copied_in ss) r.0
kinds_copied [] placed r c = nothing_among r c
kinds_copied (s ∷ ss) placed r c =
    elim (in_either (kinds_in (map bare_declaration s.declarations)) (kinds_in (declarations_in (map bare_section ss))) r (subst (λ ks. Contains ks r) (flat_map-append kinds_by (map bare_declaration s.declarations) (declarations_in (map bare_section ss))) c)) [
      | inl here ↦ of_section (kinds_in_section s.declarations r here)
      | inr later ↦ by_test (is_copied (s ∷ ss)) (kinds_copied ss placed.1 r later)
    ]
  where
    by_test : (b : Bool) → Contains (copied_in ss) r.0 → Contains (cond b (in_section s ++ copied_in ss) (copied_in ss)) r.0
    by_test true later = contains_after (in_section s) (copied_in ss) r.0 later
    by_test false later = later

    of_section : (d : PlainDecl) × Contains s.declarations d × Contains (kinds_by (bare_declaration d)) r → Contains (copied_in (s ∷ ss)) r.0
    of_section (d, among, kind) =
        let its = name_of_kind d r kind in
        let word : s.word ≡ Sort = sym (its_word s s.declarations d placed.0 among) ∙ its.0 in
        let is : is_copied (s ∷ ss) ≡ true = copied_section s ss d (ap (λ w. word_is_copied w []) word) among in
        subst (λ (b : Bool). Contains (cond b (in_section s ++ copied_in ss) (copied_in ss)) r.0) (sym is) (contains_behind (in_section s) (copied_in ss) r.0 (among_all s.declarations d r.0 among its.1))
