-- What is declared twice, by marks.
use Rattle.std.proofs.Common.{◌≡◌, ◌<◌, ◌+◌, ◌⊎◌, inl, inr, ℕ, suc, true, List, [], ◌∷◌, ◌++◌, length, map, take, get_or, refl, ap, sym, ◌∙◌, subst, arith, append_assoc}
use Rattle.std.specs.Prelude.{Option, Some, None, MatchOption, slice_get}
use Rattle.std.specs.List.{Contains}
use Rattle.std.proofs.lemmas.List.{append-nil, length-map, length-take-le, take_more, map-append}
use denote.Ref.{Bor}
use Rattle.mcrl2_syntax.specs.declared.declaration.Decl.{Decl}
use Rattle.mcrl2_syntax.specs.declared.declaration.Section as trees
use Rattle.mcrl2_syntax.specs.Declarations.{plain_decl, section_of}
use Rattle.sort_table.specs.declared.flat_sorts.FlatSort.{FlatSort}
use Rattle.sort_table.specs.Expressions.{Name}
use Rattle.sort_table.specs.BareSorts.{SortExpression}
use Rattle.sort_table.specs.BareDeclarations.{Declaration, Section, bare_declaration, bare_section, declarations_in}
use Rattle.sort_table.specs.SortMeanings.{Kind, kinds_in, under_names, StandForEach}
use Rattle.sort_table.specs.DeclarationTrees.{declaration_of}
use Rattle.sort_table.specs.Duplicates.{Item, a_function, items_of, all_items, SameSorts, IsAgain, sort_again, function_again, action_again, process_again, process_as_action, action_as_process, variable_again, IsBuiltIn, DeclaresAgain, two_of_them, within_one, built_in, its_variables, IsDuplicate, NothingAgain}
use Rattle.sort_table.specs.FlatSorts.{AreFlat, flats_in, sorts_only, AllAreSettled}
use Rattle.sort_table.specs.Domains.{Domains, domain_in, TellsApart, domains_in, HasNumber, HaveNumbers}
use Rattle.sort_table.specs.Repeats.{Mark, Meets, IsLeastPair, IsLesser}
use Rattle.sort_table.specs.BuiltInTests.{is_built_in}
use Rattle.sort_table.specs.ItemMarks.{items_marks, marks_from}
use Rattle.sort_table.specs.RepeatedVariables.{VariableAgain}
use Rattle.sort_table.specs.PlacedDeclarations.{placed_items, all_placed, section_items}
use Rattle.sort_table.proofs.FlatSortLemmas.{HaveFlats, flats_of_standing, flats_of_read, numbers_of_same, same_of_numbers, each_stands_by_sorts}
use Rattle.sort_table.proofs.MeetingMarks.{joined, least_by}
use Rattle.sort_table.proofs.MarkedItems.{In, in_of_contains, contains_of_in, before_of_reads, reads_of_before, Tag, sort_tag, function_tag, action_tag, action_name_tag, process_tag, variable_tag, LeavesTag, sort_leaves, function_leaves, action_leaves, action_leaves_name, process_leaves, variable_leaves, MeetsTag, sort_meets, function_meets, action_meets, action_meets_process, process_meets, process_meets_action, variable_meets, Share, RepeatsItself, Again, again_of_meets, meets_of_again}
use Rattle.sort_table.proofs.OneSort.{one_sorts}
use Rattle.data_theory.proofs.PlaceLemmas.{contains_read}
use Rattle.sort_table.proofs.DomainLemmas.{some_there, ReadsDomain, domain_read, read_domain, ItsDomainHasNumber, items_have_numbers}
use Rattle.sort_table.proofs.BuiltInLemmas.{tested_is_built_in, built_in_is_tested}

-- the sorts of two lists of sort expressions are those that their domains have
module _ (ds : List Declaration) (table : List FlatSort) (all : AllAreSettled (kinds_in ds) table) (by : List FlatSort → Option ℕ) (apart : TellsApart by) where
  abbrev domain : Domains
  domain = domain_in by (kinds_in ds) table

  same_sorts_there : (es fs : List SortExpression) → SameSorts (sorts_only (kinds_in ds)) es fs → SameSorts (under_names ds) es fs
  same_sorts_there es fs (ss, h, k) = (ss, each_stands_by_sorts (sorts_only (kinds_in ds)) (under_names ds) (λ n. refl) es ss h, each_stands_by_sorts (sorts_only (kinds_in ds)) (under_names ds) (λ n. refl) fs ss k)

  same_sorts_here : (es fs : List SortExpression) → SameSorts (under_names ds) es fs → SameSorts (sorts_only (kinds_in ds)) es fs
  same_sorts_here es fs (ss, h, k) = (ss, each_stands_by_sorts (under_names ds) (sorts_only (kinds_in ds)) (λ n. refl) es ss h, each_stands_by_sorts (under_names ds) (sorts_only (kinds_in ds)) (λ n. refl) fs ss k)

  same_of_domains : (es fs : List SortExpression) (k : ℕ) (ss ts : List FlatSort) → domain es ≡ Some (k, ss) → domain fs ≡ Some (k, ts) → SameSorts (under_names ds) es fs
  same_of_domains es fs k ss ts q r =
      let a : ReadsDomain by (kinds_in ds) table es k ss = domain_read by (kinds_in ds) table es k ss q in
      let b : ReadsDomain by (kinds_in ds) table fs k ts = domain_read by (kinds_in ds) table fs k ts r in
      let same : ss ≡ ts = apart ss ts k a.number b.number in
      same_sorts_there es fs (same_of_numbers (kinds_in ds) table all es fs ts (subst (λ (l : List FlatSort). flats_in (kinds_in ds) table es ≡ Some l) same a.flats) b.flats)

  by_tags : (x y : Item) (t : Tag) → LeavesTag domain x t → MeetsTag domain y t → IsAgain (under_names ds) x y
  by_tags _ _ _ (sort_leaves n) (sort_meets _) = sort_again n
  by_tags _ _ _ (function_leaves f es k ss q) (function_meets _ fs _ ts r) = function_again f es fs (same_of_domains es fs k ss ts q r)
  by_tags _ _ _ (action_leaves a es k ss q) (action_meets _ fs _ ts r) = action_again a es fs (same_of_domains es fs k ss ts q r)
  by_tags _ _ _ (action_leaves_name a es) (process_meets_action _) = action_as_process a es
  by_tags _ _ _ (process_leaves p) (process_meets _) = process_again p
  by_tags _ _ _ (process_leaves p) (action_meets_process _ es) = process_as_action p es
  by_tags _ _ _ (variable_leaves k x) (variable_meets _ _) = variable_again k x

  again_of_share : (x y : Item) → Share domain x y → IsAgain (under_names ds) x y
  again_of_share x y (t, l, m) = by_tags x y t l m

  -- the domain of what has a number
  domains_of_same : (es fs : List SortExpression) → HasNumber by (flats_in (kinds_in ds) table) es → SameSorts (under_names ds) es fs
      → (k : ℕ) × (ss : List FlatSort) × (domain es ≡ Some (k, ss)) × (domain fs ≡ Some (k, ss))
  domains_of_same es fs has same =
      let n = numbers_of_same (kinds_in ds) table all es fs (same_sorts_here es fs same) in
      let k = some_there (by n.0) (has n.0 n.1) in
      (k.0, n.0, read_domain by (kinds_in ds) table es k.0 n.0 n.1 k.1, read_domain by (kinds_in ds) table fs k.0 n.0 n.2 k.1)

  share_of_again : (x y : Item) → ItsDomainHasNumber by (flats_in (kinds_in ds) table) x → IsAgain (under_names ds) x y → Share domain x y
  share_of_again _ _ has (sort_again n) = (sort_tag n, sort_leaves n, sort_meets n)
  share_of_again _ _ has (function_again f es fs same) =
      let d = domains_of_same es fs has same in
      (function_tag d.0 f, function_leaves f es d.0 d.1 d.2, function_meets f fs d.0 d.1 d.3)
  share_of_again _ _ has (action_again a es fs same) =
      let d = domains_of_same es fs has same in
      (action_tag d.0 a, action_leaves a es d.0 d.1 d.2, action_meets a fs d.0 d.1 d.3)
  share_of_again _ _ has (process_again p) = (process_tag p, process_leaves p, process_meets p)
  share_of_again _ _ has (process_as_action n es) = (process_tag n, process_leaves n, action_meets_process n es)
  share_of_again _ _ has (action_as_process n es) = (action_name_tag n, action_leaves_name n es, process_meets_action n)
  share_of_again _ _ has (variable_again k x) = (variable_tag k x, variable_leaves k x, variable_meets k x)

  built_of_item : (f : Name) (es : List SortExpression) (ss : List FlatSort) → flats_in (kinds_in ds) table es ≡ Some ss → is_built_in f ss ≡ true → (rs : List SortExpression) × StandForEach (under_names ds) es rs × IsBuiltIn f rs
  built_of_item f es ss q t =
      let h : HaveFlats (kinds_in ds) table es = flats_of_read (kinds_in ds) table all es ss q in
      let same : h.sorts ≡ ss = same_some h.sorts ss (sym h.read ∙ q) in
      (h.meanings, each_stands_by_sorts (sorts_only (kinds_in ds)) (under_names ds) (λ n. refl) es h.meanings h.stand, tested_is_built_in (kinds_in ds) f ss h.meanings (subst (λ ts. AreFlat (kinds_in ds) ts h.meanings) same h.flat) t)
    where
      same_some : (a b : List FlatSort) → Some a ≡ Some b → a ≡ b
      same_some a b e = cc

  item_of_built : (f : Name) (es rs : List SortExpression) → HasNumber by (flats_in (kinds_in ds) table) es → StandForEach (under_names ds) es rs → IsBuiltIn f rs
      → (k : ℕ) × (ss : List FlatSort) × (domain es ≡ Some (k, ss)) × (is_built_in f ss ≡ true)
  item_of_built f es rs has h b =
      let k : StandForEach (sorts_only (kinds_in ds)) es rs = each_stands_by_sorts (under_names ds) (sorts_only (kinds_in ds)) (λ n. refl) es rs h in
      let n : HaveFlats (kinds_in ds) table es = flats_of_standing (kinds_in ds) table all es rs k in
      let same : n.meanings ≡ rs = one_sorts (sorts_only (kinds_in ds)) es n.meanings rs n.stand k in
      let k = some_there (by n.sorts) (has n.sorts n.read) in
      (k.0, n.sorts, read_domain by (kinds_in ds) table es k.0 n.sorts n.read k.1, built_in_is_tested (kinds_in ds) f n.sorts n.meanings n.flat (subst (IsBuiltIn f) (sym same) b))

suc_of : (a : ℕ) → 1 + a ≡ suc a
suc_of a = omega arith

module _ (ss : List Section) (table : List FlatSort) (all : AllAreSettled (kinds_in (declarations_in ss)) table) (by : List FlatSort → Option ℕ) (apart : TellsApart by)
    (have : HaveNumbers by (flats_in (kinds_in (declarations_in ss)) table) (domains_in (declarations_in ss))) where
  abbrev its_domain : Domains
  its_domain = domain_in by (kinds_in (declarations_in ss)) table

  has_number : (i : ℕ) (xs : List Item) (x : Item) → slice_get (all_items 0 ss) i ≡ Some xs → Contains xs x → ItsDomainHasNumber by (flats_in (kinds_in (declarations_in ss)) table) x
  has_number i xs x at there = items_have_numbers by (flats_in (kinds_in (declarations_in ss)) table) 0 ss have i xs x at there

  again_declared : (i j : ℕ) → Again its_domain 1 (all_items 0 ss) i j → DeclaresAgain ss i j
  again_declared i j (inl o) = by_repeat o.repeats
    where
      at_place : DeclaresAgain ss (suc o.a) (suc o.a) → DeclaresAgain ss i j
      at_place d = subst (λ (k : ℕ). DeclaresAgain ss k j) (sym (o.first ∙ suc_of o.a)) (subst (λ (k : ℕ). DeclaresAgain ss (suc o.a) k) (sym (o.second ∙ suc_of o.a)) d)

      by_repeat : RepeatsItself its_domain o.xs → DeclaresAgain ss i j
      by_repeat (inl (x, y, before, share)) =
          let at = reads_of_before o.xs x y before in
          at_place (within_one o.a at.0 at.1 o.xs x y o.its_list at.2 at.3 at.4 (again_of_share (declarations_in ss) table all by apart x y share))
      by_repeat (inr (x, there, (f, es, k, fs, e, q, t))) =
          let read : ReadsDomain by (kinds_in (declarations_in ss)) table es k fs = domain_read by (kinds_in (declarations_in ss)) table es k fs q in
          let b = built_of_item (declarations_in ss) table all by apart f es fs read.flats t in
          at_place (built_in o.a o.xs f es b.0 o.its_list (contains_of_in o.xs (a_function f es) (subst (In o.xs) e there)) b.1 b.2)
  again_declared i j (inr t) =
      subst (λ (k : ℕ). DeclaresAgain ss k j) (sym (t.first ∙ suc_of t.a)) (subst (λ (k : ℕ). DeclaresAgain ss (suc t.a) k) (sym (t.second ∙ suc_of t.b))
      (two_of_them t.a t.b t.xs t.ys t.x t.y t.less t.first_list t.second_list (contains_of_in t.xs t.x t.first_item) (contains_of_in t.ys t.y t.second_item) (again_of_share (declarations_in ss) table all by apart t.x t.y t.share)))

  variable_declared : (i j : ℕ) → VariableAgain (declarations_in ss) i j → DeclaresAgain ss i j
  variable_declared i j (k, d, vs, at, there, twice, first, second) =
      subst (λ (n : ℕ). DeclaresAgain ss n j) (sym first) (subst (λ (n : ℕ). DeclaresAgain ss (suc k) n) (sym second) (its_variables k d vs at there twice))

  declared_cases : (i j : ℕ) → DeclaresAgain ss i j → Again its_domain 1 (all_items 0 ss) i j ⊎ VariableAgain (declarations_in ss) i j
  declared_cases _ _ (two_of_them i j xs ys x y less at_i at_j in_x in_y again) = inl (inr (record {
    a = i;
    b = j;
    xs = xs;
    ys = ys;
    x = x;
    y = y;
    less = less;
    first_list = at_i;
    second_list = at_j;
    first_item = in_of_contains xs x in_x;
    second_item = in_of_contains ys y in_y;
    share = share_of_again (declarations_in ss) table all by apart x y (has_number i xs x at_i in_x) again;
    first = sym (suc_of i);
    second = sym (suc_of j);
  }))
  declared_cases _ _ (within_one i k l xs x y at less at_k at_l again) = inl (inl (record {
    a = i;
    xs = xs;
    its_list = at;
    repeats = inl (x, y, before_of_reads xs k l x y less at_k at_l, share_of_again (declarations_in ss) table all by apart x y (has_number i xs x at (contains_read xs k x at_k)) again);
    first = sym (suc_of i);
    second = sym (suc_of i);
  }))
  declared_cases _ _ (built_in i xs f es rs at there stand built) =
      let b = item_of_built (declarations_in ss) table all by apart f es rs (has_number i xs (a_function f es) at there) stand built in
      inl (inl (record {
        a = i;
        xs = xs;
        its_list = at;
        repeats = inr (a_function f es, in_of_contains xs (a_function f es) there, (f, es, b.0, b.1, refl, b.2, b.3));
        first = sym (suc_of i);
        second = sym (suc_of i);
      }))
  declared_cases _ _ (its_variables i d vs at there twice) = inr (i, d, vs, at, there, twice, refl, refl)

  least_declared : (a b r : Option (ℕ × ℕ)) → IsLeastPair (Again its_domain 1 (all_items 0 ss)) a → IsLeastPair (VariableAgain (declarations_in ss)) b → IsLesser a b r → IsLeastPair (DeclaresAgain ss) r
  least_declared a b r least other lesser =
      joined (Again its_domain 1 (all_items 0 ss)) (VariableAgain (declarations_in ss)) (DeclaresAgain ss) a b r least other lesser again_declared variable_declared declared_cases

duplicate_is : (ss : List Section) (r : Option (ℕ × ℕ)) → IsLeastPair (DeclaresAgain ss) r → MatchOption r (NothingAgain ss) (λ f. IsDuplicate ss f.0 f.1)
duplicate_is ss None h = h
duplicate_is ss (Some p) h = record { again = h.0; least_second = h.1; least_first = h.2 }

pub first_declared_again : (ss : List Section) (ks : List (Name × Kind)) (table : List FlatSort) (by : List FlatSort → Option ℕ) (ms : List Mark) (n : ℕ) (a b r : Option (ℕ × ℕ)) → ks ≡ kinds_in (declarations_in ss) → AllAreSettled ks table
    → TellsApart by → HaveNumbers by (flats_in ks table) (domains_in (declarations_in ss))
    → ms ≡ marks_from (domain_in by ks table) 1 (all_items 0 ss) → n ≡ length ms → IsLeastPair (Meets ms n) a → IsLeastPair (VariableAgain (declarations_in ss)) b → IsLesser a b r → MatchOption r (NothingAgain ss) (λ f. IsDuplicate ss f.0 f.1)
first_declared_again ss ks table by ms n a b r kinds all apart have marks size least other lesser =
    let qs : List (Name × Kind) = kinds_in (declarations_in ss) in
    let domain : Domains = domain_in by qs table in
    let settled : AllAreSettled qs table = subst (λ (rs : List (Name × Kind)). AllAreSettled rs table) kinds all in
    let numbers : HaveNumbers by (flats_in qs table) (domains_in (declarations_in ss)) = subst (λ (rs : List (Name × Kind)). HaveNumbers by (flats_in rs table) (domains_in (declarations_in ss))) kinds have in
    let same : ms ≡ marks_from domain 1 (all_items 0 ss) = marks ∙ ap (λ (rs : List (Name × Kind)). marks_from (domain_in by rs table) 1 (all_items 0 ss)) kinds in
    let there : IsLeastPair (Meets (marks_from domain 1 (all_items 0 ss)) (length (marks_from domain 1 (all_items 0 ss)))) a =
    subst (λ (ns : List Mark). IsLeastPair (Meets ns (length ns)) a) same (subst (λ (k : ℕ). IsLeastPair (Meets ms k) a) size least) in
    duplicate_is ss r (least_declared ss table settled by apart numbers a b r
    (least_by (Meets (marks_from domain 1 (all_items 0 ss)) (length (marks_from domain 1 (all_items 0 ss)))) (Again domain 1 (all_items 0 ss)) a (again_of_meets domain (all_items 0 ss)) (meets_of_again domain (all_items 0 ss)) there)
    other lesser)

-- ---- declarations one after the other
marks_more : (domain : Domains) (n : ℕ) (xss : List (List Item)) (xs : List Item) → marks_from domain n (xss ++ xs ∷ []) ≡ marks_from domain n xss ++ items_marks domain (n + length xss) xs
marks_more domain n [] xs = append-nil (items_marks domain n xs) ∙ ap (λ (i : ℕ). items_marks domain i xs) (omega arith)
marks_more domain n (zs ∷ xss) xs =
    let further : suc n + length xss ≡ n + suc (length xss) = omega arith in
    ap (λ ms. items_marks domain n zs ++ ms) (marks_more domain (suc n) xss xs)
    ∙ (sym (append_assoc (items_marks domain n zs) (marks_from domain (suc n) xss) (items_marks domain (suc n + length xss) xs))
    ∙ ap (λ (i : ℕ). marks_from domain n (zs ∷ xss) ++ items_marks domain i xs) further)

pub marks_further : (domain : Domains) (ps : List (ℕ × Bor Decl)) (i number : ℕ) (p : ℕ × Bor Decl) (cur new : List Mark) → i < length ps → p ≡ get_or ps i p → number ≡ i
    → cur ≡ marks_from domain 1 (all_placed (take i ps)) → new ≡ cur ++ items_marks domain (number + 1) (placed_items p) → new ≡ marks_from domain 1 (all_placed (take (i + 1) ps))
marks_further domain ps i number p cur new l e counted so one =
    let size : length (all_placed (take i ps)) ≡ i = length-map (take i ps) placed_items ∙ length-take-le i ps (omega (arith, l)) in
    let place : number + 1 ≡ 1 + length (all_placed (take i ps)) = omega (arith, size, counted) in
    one ∙ (ap (λ ms. ms ++ items_marks domain (number + 1) (placed_items p)) so
    ∙ (ap (λ (k : ℕ). marks_from domain 1 (all_placed (take i ps)) ++ items_marks domain k (placed_items p)) place
    ∙ (sym (marks_more domain 1 (all_placed (take i ps)) (placed_items p))
    ∙ ap (marks_from domain 1) (sym (ap all_placed (take_more ps i p l) ∙ (map-append placed_items (take i ps) (get_or ps i p ∷ []) ∙ ap (λ q. all_placed (take i ps) ++ placed_items q ∷ []) (sym e)))))))

items_more : (n : ℕ) (ss : List Section) (s : Section) → all_items n (ss ++ s ∷ []) ≡ all_items n ss ++ map (items_of (n + length ss)) s.declarations
items_more n [] s = append-nil (map (items_of n) s.declarations) ∙ ap (λ (k : ℕ). map (items_of k) s.declarations) (omega arith)
items_more n (z ∷ ss) s =
    let further : suc n + length ss ≡ n + suc (length ss) = omega arith in
    ap (λ is. map (items_of n) z.declarations ++ is) (items_more (suc n) ss s)
    ∙ (sym (append_assoc (map (items_of n) z.declarations) (all_items (suc n) ss) (map (items_of (suc n + length ss)) s.declarations))
    ∙ ap (λ (k : ℕ). all_items n (z ∷ ss) ++ map (items_of k) s.declarations) further)

abbrev bare : List trees.Section → List Section
bare ss = map bare_section (map section_of ss)

bare_size : (ss : List trees.Section) → length (bare ss) ≡ length ss
bare_size [] = refl
bare_size (s ∷ ss) = ap suc (bare_size ss)

bare_behind : (ss ts : List trees.Section) → bare (ss ++ ts) ≡ bare ss ++ bare ts
bare_behind [] ts = refl
bare_behind (s ∷ ss) ts = ap (λ l. bare_section (section_of s) ∷ l) (bare_behind ss ts)

its_items : (k : ℕ) (ds : List Decl) → map (items_of k) (map bare_declaration (map plain_decl ds)) ≡ section_items k ds
its_items k [] = refl
its_items k (d ∷ ds) = ap (λ l. items_of k (declaration_of d) ∷ l) (its_items k ds)

pub items_further : (ss : List trees.Section) (i number : ℕ) (s : trees.Section) (cur new : List (List Item)) → i < length ss → s ≡ get_or ss i s → number ≡ i
    → cur ≡ all_items 0 (bare (take i ss)) → new ≡ cur ++ section_items number s.declarations.items → new ≡ all_items 0 (bare (take (i + 1) ss))
items_further ss i number s cur new l e counted so one =
    let size : length (bare (take i ss)) ≡ i = bare_size (take i ss) ∙ length-take-le i ss (omega (arith, l)) in
    let place : number ≡ 0 + length (bare (take i ss)) = omega (arith, size, counted) in
    one ∙ (ap (λ is. is ++ section_items number s.declarations.items) so
    ∙ (ap (λ (k : ℕ). all_items 0 (bare (take i ss)) ++ section_items k s.declarations.items) place
    ∙ (ap (λ is. all_items 0 (bare (take i ss)) ++ is) (sym (its_items (0 + length (bare (take i ss))) s.declarations.items))
    ∙ (sym (items_more 0 (bare (take i ss)) (bare_section (section_of s)))
    ∙ ap (all_items 0) (sym (ap bare (take_more ss i s l) ∙ (bare_behind (take i ss) (get_or ss i s ∷ []) ∙ ap (λ t. bare (take i ss) ++ bare_section (section_of t) ∷ []) (sym e))))))))
