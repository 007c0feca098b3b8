-- The names of the structs and constants that are added differ, and weren't taken. Those of the actions differ, and no action had them. So actions may
-- stand in front of structs, and structs in front of constants, whatever came first.
use Rattle.std.proofs.Common.{◌≡◌, ◌≢◌, ◌⊎◌, inl, inr, ⊎_elim, zero, suc, ◌<◌, Bool, true, false, cond, List, [], ◌∷◌, ◌++◌, length, map, refl, sym, ap, ap₂, ◌∙◌, subst, arith, append-nil, append_assoc}
use Rattle.std.specs.Prelude.{Some, bytes_eq, slice_get}
use Rattle.std.specs.List.{AllByRecursion, Contains, flat_map}
use Rattle.std.proofs.lemmas.List.{map-append}
use Rattle.std.proofs.lemmas.List.Elements.{All-contains, Contains-append_left, Contains-append_right}
use Rattle.std.proofs.lemmas.Option.{slice_get-get_or}
use Rattle.std.proofs.lemmas.Slice.Eq.{bytes_eq-Decides}
use Rattle.mcrl2_syntax.proofs.Lists.{all_both}
use Rattle.data_theory.specs.declared.ids.NameId.{NameId}
use Rattle.data_theory.specs.declared.ids.SortId.{SortId}
use Rattle.data_theory.specs.Complete.{IsActionWithin}
use Rattle.data_theory.specs.Functions.{Function}
use Rattle.data_theory.specs.Keys.{Key, key}
use Rattle.data_theory.specs.Signature.{Sig, IsTaken}
use Rattle.data_theory.specs.IdTerms.{sort_under, IsGrown}
use Rattle.data_theory.specs.WholeSignatures.{IsSignature}
use Rattle.data_theory.proofs.IdGrowthLemmas.{growth_after_growth_is_growth}
use Rattle.data_theory.proofs.PlaceLemmas.{read_front}
use Rattle.data_theory.proofs.StructGrowthLemmas.{with_a_struct_sort_it_is_grown}
use Rattle.lps_core.specs.SealedTrees.{IsNoAction}
use Rattle.lps_core.proofs.Members.{map_contains}
use Rattle.sort_table.specs.Expressions.{Name}
use Rattle.sort_table.specs.NamedLists.{all_named, first_named}
use Rattle.sort_table.specs.BareDeclarations.{Declaration, struct}
use Rattle.sort_table.specs.Duplicates.{function_item}
use Rattle.sort_table.specs.SortMeanings.{kinds_by, kinds_in, actions_by, actions_in, under_names}
use Rattle.sort_table.specs.SignatureVocabularies.{text_under}
use Rattle.sort_table.specs.TextFunctions.{TextFunction, Named, mapping, functions_by, functions_in}
use Rattle.sort_table.specs.Vocabularies.{EachPair}
use Rattle.sort_table.specs.EnteredFunctions.{IsEntryOf}
use Rattle.sort_table.proofs.AddedStructs.{all_contained}
use Rattle.sort_table.proofs.Growing.{in_either, all_behind}
use Rattle.sort_table.proofs.GrowingTexts.{flat_behind}
use Rattle.sort_table.proofs.NamedSignatures.{text_of_id}
use Rattle.lps_printer.specs.AddedDeclarations.{action_declared}
use Rattle.lps_printer.specs.DeclaredAdditions.{constructor_declared, declaration_of}
use Rattle.lps_printer.specs.GrowingByAdditions.{Struct, functions_of_struct, names_of_struct, GrowsByStruct, GrowsByAdditions, nothing_added, then_constants, then_struct, then_action, added_structs, added_constants, added_actions}
use Rattle.lps_printer.specs.GrownTexts.{mapping_declared}
use Rattle.lps_printer.specs.LinearBack.{EachTwo}
use Rattle.lps_printer.specs.SignatureNames.{text_names_under}
use Rattle.lps_printer.specs.WrittenProcesses.{TextNames, sort_written}
use Rattle.lps_printer.proofs.ActionVocabularies.{action_within}
use Rattle.lps_printer.proofs.AddedVocabularies.{flat_ones, flat_none, constant_within, constructors_at, struct_within, in_growth}
use Rattle.lps_printer.proofs.GrowingByAdditions.{still_stands, additions_grow, actions_grow}
use Rattle.lps_printer.proofs.GrowingByConstants.{two_by, still_taken, constants_are_taken}
use Rattle.lps_printer.proofs.GrownSorts.{text_still}
use Rattle.lps_printer.proofs.GrownStructs.{name_within, it_is_grown, text_is, struct_entries_are}
use Rattle.lps_printer.proofs.TextItems.{fixed_by, name_of}
use Rattle.lps_printer.proofs.TwoOfLists.{in_mapped, all_from, all_weaker, all_mapped, all_unmapped, two_both, two_mapped}

-- ---- names of lists
none_named : {A : Type 0} (f : Name) (rs : List (Name × A)) → AllByRecursion (λ (r : Name × A). r.0 ≢ f) rs → all_named f rs ≡ []
none_named f [] all = refl
none_named f (r ∷ rs) all = by_test (bytes_eq r.0 f) refl (none_named f rs all.1)
  where
    by_test : (b : Bool) → bytes_eq r.0 f ≡ b → all_named f rs ≡ [] → cond b (r.1 ∷ all_named f rs) (all_named f rs) ≡ []
    by_test true e rest = absurd (all.0 ((bytes_eq-Decides r.0 f).0 e))
    by_test false e rest = rest

-- one of them has the name, or none
any_named : {A : Type 0} (P : Name → Type 0) (f : Name) (rs : List (Name × A)) → AllByRecursion (λ (r : Name × A). P r.0) rs → P f ⊎ (all_named f rs ≡ [])
any_named P f [] all = inr refl
any_named P f (r ∷ rs) all = by_test (bytes_eq r.0 f) refl (any_named P f rs all.1)
  where
    by_test : (b : Bool) → bytes_eq r.0 f ≡ b → P f ⊎ (all_named f rs ≡ []) → P f ⊎ (cond b (r.1 ∷ all_named f rs) (all_named f rs) ≡ [])
    by_test true e rest = inl (subst P ((bytes_eq-Decides r.0 f).0 e) all.0)
    by_test false e rest = rest

-- where names of the one list have a property that those of the other one don't have
either_order : {A : Type 0} (P : Name → Type 0) (f : Name) (rs qs : List (Name × A)) → AllByRecursion (λ (r : Name × A). P r.0) rs → AllByRecursion (λ (r : Name × A). ¬ (P r.0)) qs
    → all_named f rs ++ all_named f qs ≡ all_named f qs ++ all_named f rs
either_order {A} P f rs qs all none = ⊎_elim
    (λ has. (let e = none_named f qs (all_weaker (λ (r : Name × A). ¬ (P r.0)) (λ (r : Name × A). r.0 ≢ f) (λ r no q. no (subst P (sym q) has)) qs none) in (λ i. all_named f rs ++ e i) ∙ append-nil (all_named f rs) ∙ (λ i. sym e i ++ all_named f rs)))
    (λ e. (λ i. e i ++ all_named f qs) ∙ sym (append-nil (all_named f qs)) ∙ (λ i. all_named f qs ++ sym e i))
    (any_named P f rs all)

-- ---- the names of items
abbrev pub item_names : Declaration → List Name
item_names d = map name_of (fixed_by d)

entry_names : (k : Sig) (xs : List Named) (ys : List Function) → EachPair (IsEntryOf k) xs ys → map name_of (map function_item xs) ≡ map (text_under k) (map (λ (f : Function). f.name) ys)
entry_names k [] [] all = refl
entry_names k [] (y ∷ ys) all = absurd all
entry_names k (x ∷ xs) [] all = absurd all
entry_names k (x ∷ xs) (y ∷ ys) all =
    let here = sym (text_of_id k y.name x.0 all.0.name) in
    let rest = entry_names k xs ys all.1 in
    λ i. here i ∷ rest i

abbrev pub Other : Name → Name → Type 0
Other a b = a ≢ b

-- ---- one struct
module _ (j k h : Sig) (before : IsSignature j) (after : IsSignature k) (grown : IsGrown k h) (x : Name) (w : GrowsByStruct j k) where
  abbrev n : TextNames
  n = text_names_under h x

  abbrev names : List NameId
  names = names_of_struct w.named w.declared

  pub its_names : item_names (declaration_of h n w.declared) ≡ map (text_under k) names
  its_names =
      let cs = map (constructor_declared h n) w.declared.1 in
      let low = subst (λ ts. w.declared.0.0 < length ts) (sym (ap (λ (y : Sig). y.texts) w.is)) (name_within j k before w) in
      let rest = entry_names k (functions_by (struct (text_under k w.declared.0) cs)) (functions_of_struct w.named w.declared) (struct_entries_are j k before w cs (constructors_at k h after grown x w.declared.1 (struct_within j k before w))) in
      ap (λ y. item_names (struct y cs)) (text_still k h after grown x w.declared.0 low) ∙ (λ i. text_under k w.declared.0 ∷ rest i)

  of_names : (P : Name → Type 0) → ((i : NameId) → Contains names i → P (text_under k i)) → AllByRecursion P (item_names (declaration_of h n w.declared))
  of_names P each = subst (AllByRecursion P) (sym its_names) (all_mapped P (text_under k) names (all_from (λ i. P (text_under k i)) names each))

  pub struct_new : AllByRecursion (λ (t : Name). ¬ (IsTaken j t)) (item_names (declaration_of h n w.declared))
  struct_new = of_names (λ t. ¬ (IsTaken j t)) (λ i c. All-contains (λ (m : NameId). ¬ (IsTaken j (text_under k m))) names i w.new c)

  names_there : (i : NameId) → Contains names i → Contains w.named.taken i
  names_there i (zero, l, e) = subst (Contains w.named.taken) e w.sort_taken_now
  names_there i (suc p, l, e) =
      let fs = functions_of_struct w.named w.declared in
      let r = in_mapped (λ (f : Function). f.name) fs i (p, omega (arith, l), e) in
      subst (Contains w.named.taken) r.2 (All-contains (λ (f : Function). Contains w.named.taken f.name) fs r.0 w.taken_now r.1)

  pub struct_taken : AllByRecursion (IsTaken k) (item_names (declaration_of h n w.declared))
  struct_taken = of_names (IsTaken k) (λ i c.
      let there = names_there i c in
      let low = All-contains (λ (m : NameId). m.0 < length w.named.texts) w.named.taken i w.by_names.stands.complete.within.taken there in
      let text : text_under w.named i ≡ text_under k i = sym (text_is j k before w i) in
      still_taken w.named k (text_under k i) (subst (IsGrown w.named) (sym w.is) (with_a_struct_sort_it_is_grown w.named w.declared.0 w.declared.1)) (i, slice_get-get_or w.named.texts i.0 [] low ∙ ap Some text, there))

  pub struct_differ : EachTwo Other (item_names (declaration_of h n w.declared))
  struct_differ = subst (EachTwo Other) (sym its_names) (two_mapped Other (text_under k) names w.differ)

-- ---- any number of them
pub record Apart (g k : Sig) (structs constants : List Name) : Type 0 where
  pub structs_taken : AllByRecursion (IsTaken k) structs
  pub constants_taken : AllByRecursion (IsTaken k) constants
  pub structs_new : AllByRecursion (λ (t : Name). ¬ (IsTaken g t)) structs
  pub constants_new : AllByRecursion (λ (t : Name). ¬ (IsTaken g t)) constants
  pub structs_differ : EachTwo Other structs
  pub constants_differ : EachTwo Other constants
  pub across : (a b : Name) → Contains structs a → Contains constants b → a ≢ b

pub record ActionsApart (g : Sig) (names : List Name) : Type 0 where
  pub new : AllByRecursion (IsNoAction g) names
  pub differ : EachTwo Other names

-- what is no action of a signature was none before it grew
no_action_before : (g j : Sig) → IsGrown g j → (t : Name) → IsNoAction j t → IsNoAction g t
no_action_before g j w t absent i k text among named =
    absent i k (ap (λ ts. slice_get ts i.0) w.texts ∙ read_front g.texts w.new_texts i.0 t text) (subst (λ ks. Contains ks k) (sym w.actions) (Contains-append_left g.actions w.new_actions k among)) named

module _ (g : Sig) (stands : IsSignature g) (h : Sig) (x : Name) where
  abbrev m : TextNames
  m = text_names_under h x

  abbrev pub structs_in : {k : Sig} → GrowsByAdditions g k → List Declaration
  structs_in w = map (declaration_of h m) (added_structs w)

  abbrev pub mappings_in : {k : Sig} → GrowsByAdditions g k → List Declaration
  mappings_in w = map (mapping_declared h m) (added_constants w)

  abbrev pub struct_names : {k : Sig} → GrowsByAdditions g k → List Name
  struct_names w = flat_map item_names (structs_in w)

  abbrev name : NameId × SortId → Name
  name c = text_under h c.0

  abbrev pub constant_names : {k : Sig} → GrowsByAdditions g k → List Name
  constant_names w = map name (added_constants w)

  abbrev pub acts_in : {k : Sig} → GrowsByAdditions g k → List Declaration
  acts_in w = map (action_declared h) (added_actions w)

  abbrev pub action_names : {k : Sig} → GrowsByAdditions g k → List Name
  action_names w = map (text_under h) (added_actions w)

  -- what was taken and what wasn't
  not_both : (P : Name → Type 0) (xs ys : List Name) → AllByRecursion P xs → AllByRecursion (λ (t : Name). ¬ (P t)) ys → (a b : Name) → Contains xs a → Contains ys b → a ≢ b
  not_both P xs ys all none a b c d e = all_contained (λ (t : Name). ¬ (P t)) ys b none d (subst P e (all_contained P xs a all c))

  pub names_apart : {k : Sig} (w : GrowsByAdditions g k) → IsGrown k h → Apart g k (struct_names w) (constant_names w)
  names_apart nothing_added grown = record { structs_taken = tt; constants_taken = tt; structs_new = tt; constants_new = tt; structs_differ = tt; constants_differ = tt; across = λ a b c d. absurd (omega (arith, c.1)) }
  names_apart (then_constants {h = j} {k = k} before by after) grown =
      let r = names_apart before (growth_after_growth_is_growth j k h by.grown grown) in
      let news = map name by.constants in
      let olds = constant_names before in
      let both : constant_names (then_constants before by after) ≡ olds ++ news = map-append name (added_constants before) by.constants in
      let text : (c : NameId × SortId) → Contains by.constants c → text_under h c.0 ≡ text_under k c.0 = λ c i. text_still k h after grown x c.0 (constant_within j k after by c i).0 in
      let new : AllByRecursion (λ (t : Name). ¬ (IsTaken j t)) news =
      all_mapped (λ (t : Name). ¬ (IsTaken j t)) name by.constants (all_from (λ c. ¬ (IsTaken j (name c))) by.constants (λ c i k_. All-contains (λ (d : NameId × SortId). ¬ (IsTaken j (text_under k d.0))) by.constants c by.taken i (subst (IsTaken j) (text c i) k_))) in
      let taken : AllByRecursion (IsTaken k) news = all_mapped (IsTaken k) name by.constants (all_from (λ c. IsTaken k (name c)) by.constants (λ c i. subst (IsTaken k) (sym (text c i)) (constants_are_taken j k after by c i))) in
      let differ : EachTwo Other news =
      two_mapped Other name by.constants (two_by (λ (c d : NameId × SortId). text_under k c.0 ≢ text_under k d.0) (λ (c d : NameId × SortId). name c ≢ name d) by.constants (λ c d i l no q. no (sym (text c i) ∙ q ∙ text d l)) by.differ) in
      let still : (ts : List Name) → AllByRecursion (IsTaken j) ts → AllByRecursion (IsTaken k) ts = all_weaker (IsTaken j) (IsTaken k) (λ t l. still_taken j k t by.grown l) in
      let unknown : (ts : List Name) → AllByRecursion (λ (t : Name). ¬ (IsTaken j t)) ts → AllByRecursion (λ (t : Name). ¬ (IsTaken g t)) ts = all_weaker (λ (t : Name). ¬ (IsTaken j t)) (λ (t : Name). ¬ (IsTaken g t)) (λ t no l. no (still_taken g j t (additions_grow g stands before) l)) in
      subst (Apart g k (struct_names before)) (sym both)
      (record {
        structs_taken = still (struct_names before) r.structs_taken;
        constants_taken = all_both (IsTaken k) olds news (still olds r.constants_taken) taken;
        structs_new = r.structs_new;
        constants_new = all_both (λ (t : Name). ¬ (IsTaken g t)) olds news r.constants_new (unknown news new);
        structs_differ = r.structs_differ;
        constants_differ = two_both Other olds news r.constants_differ differ (not_both (IsTaken j) olds news r.constants_taken new);
        across = λ a b c d. ⊎_elim (λ old. r.across a b c old) (λ late. not_both (IsTaken j) (struct_names before) news r.structs_taken new a b c late) (in_either olds news b d);
      })
  names_apart (then_struct {h = j} {k = k} before by after) grown =
      let its = still_stands g stands before in
      let step = it_is_grown j k its by in
      let r = names_apart before (growth_after_growth_is_growth j k h step grown) in
      let news = item_names (declaration_of h m by.declared) in
      let olds = struct_names before in
      let both : struct_names (then_struct before by after) ≡ olds ++ news =
      ap (flat_map item_names) (map-append (declaration_of h m) (added_structs before) (by.declared ∷ [])) ∙ flat_behind item_names (structs_in before) (declaration_of h m by.declared ∷ []) ∙ ap (λ ts. olds ++ ts) (append-nil news) in
      let new = struct_new j k h its after grown x by in
      let still : (ts : List Name) → AllByRecursion (IsTaken j) ts → AllByRecursion (IsTaken k) ts = all_weaker (IsTaken j) (IsTaken k) (λ t l. still_taken j k t step l) in
      let unknown : (ts : List Name) → AllByRecursion (λ (t : Name). ¬ (IsTaken j t)) ts → AllByRecursion (λ (t : Name). ¬ (IsTaken g t)) ts = all_weaker (λ (t : Name). ¬ (IsTaken j t)) (λ (t : Name). ¬ (IsTaken g t)) (λ t no l. no (still_taken g j t (additions_grow g stands before) l)) in
      subst (λ ts. Apart g k ts (constant_names before)) (sym both)
      (record {
        structs_taken = all_both (IsTaken k) olds news (still olds r.structs_taken) (struct_taken j k h its after grown x by);
        constants_taken = still (constant_names before) r.constants_taken;
        structs_new = all_both (λ (t : Name). ¬ (IsTaken g t)) olds news r.structs_new (unknown news new);
        constants_new = r.constants_new;
        structs_differ = two_both Other olds news r.structs_differ (struct_differ j k h its after grown x by) (not_both (IsTaken j) olds news r.structs_taken new);
        constants_differ = r.constants_differ;
        across = λ a b c d. ⊎_elim (λ old. r.across a b old d) (λ late e. not_both (IsTaken j) (constant_names before) news r.constants_taken new b a d late (sym e)) (in_either olds news a c);
      })
  names_apart (then_action {h = j} {k = k} before by after) grown =
      let r = names_apart before (growth_after_growth_is_growth j k h by.grown grown) in
      let still : (ts : List Name) → AllByRecursion (IsTaken j) ts → AllByRecursion (IsTaken k) ts = all_weaker (IsTaken j) (IsTaken k) (λ t l. still_taken j k t by.grown l) in
      record {
        structs_taken = still (struct_names before) r.structs_taken;
        constants_taken = still (constant_names before) r.constants_taken;
        structs_new = r.structs_new;
        constants_new = r.constants_new;
        structs_differ = r.structs_differ;
        constants_differ = r.constants_differ;
        across = r.across;
      }

  -- the actions that were added are actions
  never_added : {j : Sig} (w : GrowsByAdditions g j) → IsGrown j h → (t : Name) → IsNoAction j t → (a : Name) → Contains (action_names w) a → a ≢ t
  never_added {j = j} w grown t absent a c e =
      let its = still_stands g stands w in
      let r = in_mapped (text_under h) (added_actions w) a c in
      let own = key r.0 [] in
      let among : Contains j.actions own = subst (λ (ks : List Key). Contains ks own) (sym (actions_grow g stands w))
      (Contains-append_right g.actions (map (λ (i : NameId). key i []) (added_actions w)) own (map_contains (λ (i : NameId). key i []) (added_actions w) r.0 r.1)) in
      let low : r.0.0 < length j.texts = (All-contains (IsActionWithin (length j.texts) (length j.sorts)) j.actions own its.complete.within.actions among).named in
      absent r.0 own (slice_get-get_or j.texts r.0.0 [] low ∙ ap Some (sym (text_still j h its grown x r.0 low) ∙ r.2 ∙ e)) among refl

  pub actions_apart : {k : Sig} (w : GrowsByAdditions g k) → IsGrown k h → ActionsApart g (action_names w)
  actions_apart nothing_added grown = record { new = tt; differ = tt }
  actions_apart (then_constants {h = j} {k = k} before by after) grown = actions_apart before (growth_after_growth_is_growth j k h by.grown grown)
  actions_apart (then_struct {h = j} {k = k} before by after) grown = actions_apart before (growth_after_growth_is_growth j k h (it_is_grown j k (still_stands g stands before) by) grown)
  actions_apart (then_action {h = j} {k = k} before by after) grown =
      let earlier = growth_after_growth_is_growth j k h by.grown grown in
      let r = actions_apart before earlier in
      let olds = action_names before in
      let n = text_under h by.name in
      let text : n ≡ text_under k by.name = text_still k h after grown x by.name (action_within j k after by) in
      let both : action_names (then_action before by after) ≡ olds ++ n ∷ [] = map-append (text_under h) (added_actions before) (by.name ∷ []) in
      let new : IsNoAction j n = subst (IsNoAction j) (sym text) by.new in
      subst (ActionsApart g) (sym both)
      (record {
        new = all_both (IsNoAction g) olds (n ∷ []) r.new (no_action_before g j (additions_grow g stands before) n new, tt);
        differ = two_both Other olds (n ∷ []) r.differ (tt, tt) (λ a b c d e. never_added before earlier n new a c (e ∙ all_contained (λ (t : Name). t ≡ n) (n ∷ []) b (refl, tt) d));
      })

  -- ---- actions in front, and structs behind them
  same_kinds : {k : Sig} (w : GrowsByAdditions g k) → kinds_in (in_growth g stands h x w) ≡ kinds_in (structs_in w)
  same_kinds nothing_added = refl
  same_kinds (then_constants before by after) =
      flat_behind kinds_by (in_growth g stands h x before) (map (mapping_declared h m) by.constants) ∙ ap₂ (λ xs ys. xs ++ ys) (same_kinds before) (flat_none kinds_by (mapping_declared h m) (λ c. refl) by.constants) ∙ append-nil (kinds_in (structs_in before))
  same_kinds (then_struct before by after) =
      flat_behind kinds_by (in_growth g stands h x before) (declaration_of h m by.declared ∷ []) ∙ ap (λ xs. xs ++ kinds_in (declaration_of h m by.declared ∷ [])) (same_kinds before)
      ∙ sym (ap kinds_in (map-append (declaration_of h m) (added_structs before) (by.declared ∷ [])) ∙ flat_behind kinds_by (structs_in before) (declaration_of h m by.declared ∷ []))
  same_kinds (then_action before by after) = flat_behind kinds_by (in_growth g stands h x before) (action_declared h by.name ∷ []) ∙ append-nil (kinds_in (in_growth g stands h x before)) ∙ same_kinds before

  none_in_structs : (ss : List Struct) → actions_in (map (declaration_of h m) ss) ≡ []
  none_in_structs ss = flat_none actions_by (declaration_of h m) (λ s. refl) ss

  none_in_mappings : (cs : List (NameId × SortId)) → actions_in (map (mapping_declared h m) cs) ≡ []
  none_in_mappings cs = flat_none actions_by (mapping_declared h m) (λ c. refl) cs

  same_actions : {k : Sig} (w : GrowsByAdditions g k) → actions_in (in_growth g stands h x w) ≡ actions_in (acts_in w)
  same_actions nothing_added = refl
  same_actions (then_constants before by after) =
      flat_behind actions_by (in_growth g stands h x before) (map (mapping_declared h m) by.constants) ∙ ap₂ (λ xs ys. xs ++ ys) (same_actions before) (none_in_mappings by.constants) ∙ append-nil (actions_in (acts_in before))
  same_actions (then_struct before by after) =
      flat_behind actions_by (in_growth g stands h x before) (declaration_of h m by.declared ∷ []) ∙ ap (λ xs. xs ++ []) (same_actions before) ∙ append-nil (actions_in (acts_in before))
  same_actions (then_action before by after) =
      let own = action_declared h by.name ∷ [] in
      flat_behind actions_by (in_growth g stands h x before) own ∙ ap (λ xs. xs ++ actions_in own) (same_actions before)
      ∙ sym (ap actions_in (map-append (action_declared h) (added_actions before) (by.name ∷ [])) ∙ flat_behind actions_by (acts_in before) own)

  abbrev A : Name → List Declaration → List TextFunction
  A f ds = all_named f (functions_in ds)

  behind : (f : Name) (ds es : List Declaration) → A f (ds ++ es) ≡ A f ds ++ A f es
  behind f ds es = ap (all_named f) (flat_behind functions_by ds es) ∙ all_behind f (functions_in ds) (functions_in es)

  same_functions : (f : Name) {k : Sig} (w : GrowsByAdditions g k) → IsGrown k h → A f (in_growth g stands h x w) ≡ A f (structs_in w) ++ A f (mappings_in w)
  same_functions f nothing_added grown = refl
  same_functions f (then_constants {h = j} {k = k} before by after) grown =
      let rest = same_functions f before (growth_after_growth_is_growth j k h by.grown grown) in
      let M = map (mapping_declared h m) by.constants in
      behind f (in_growth g stands h x before) M ∙ ap (λ xs. xs ++ A f M) rest ∙ append_assoc (A f (structs_in before)) (A f (mappings_in before)) (A f M)
      ∙ ap (λ xs. A f (structs_in before) ++ xs) (sym (ap (A f) (map-append (mapping_declared h m) (added_constants before) by.constants) ∙ behind f (mappings_in before) M))
  same_functions f (then_struct {h = j} {k = k} before by after) grown =
      let its = still_stands g stands before in
      let earlier = growth_after_growth_is_growth j k h (it_is_grown j k its by) grown in
      let rest = same_functions f before earlier in
      let d = declaration_of h m by.declared in
      let S = d ∷ [] in
      let taken : AllByRecursion (λ (r : Named). IsTaken j r.0) (functions_in (mappings_in before)) =
      subst (AllByRecursion (λ (r : Named). IsTaken j r.0)) (sym (flat_ones functions_by (mapping_declared h m) (λ c. named_mapping c) (λ c. refl) (added_constants before)))
      (all_mapped (λ (r : Named). IsTaken j r.0) named_mapping (added_constants before) (all_unmapped (IsTaken j) name (added_constants before) (names_apart before earlier).constants_taken)) in
      let new : AllByRecursion (λ (r : Named). ¬ (IsTaken j r.0)) (functions_in S) =
      subst (AllByRecursion (λ (r : Named). ¬ (IsTaken j r.0))) (sym (append-nil (functions_by d)))
      (all_unmapped (λ y. ¬ (IsTaken j (name_of y))) function_item (functions_by d) (all_unmapped (λ (t : Name). ¬ (IsTaken j t)) name_of (map function_item (functions_by d)) (struct_new j k h its after grown x by).1)) in
      behind f (in_growth g stands h x before) S ∙ ap (λ xs. xs ++ A f S) rest ∙ append_assoc (A f (structs_in before)) (A f (mappings_in before)) (A f S)
      ∙ ap (λ xs. A f (structs_in before) ++ xs) (either_order (IsTaken j) f (functions_in (mappings_in before)) (functions_in S) taken new)
      ∙ sym (append_assoc (A f (structs_in before)) (A f S) (A f (mappings_in before)))
      ∙ ap (λ xs. xs ++ A f (mappings_in before)) (sym (ap (A f) (map-append (declaration_of h m) (added_structs before) (by.declared ∷ [])) ∙ behind f (structs_in before) S))
    where
      named_mapping : NameId × SortId → Named
      named_mapping c = (text_under h c.0, record { arguments = []; result = sort_written m (sort_under h c.1); role = mapping })
  same_functions f (then_action {h = j} {k = k} before by after) grown =
      behind f (in_growth g stands h x before) (action_declared h by.name ∷ []) ∙ append-nil (A f (in_growth g stands h x before)) ∙ same_functions f before (growth_after_growth_is_growth j k h by.grown grown)

  -- under their names the declarations stand in either order
  pub structs_in_front : (D : List Declaration) {k : Sig} (w : GrowsByAdditions g k) → IsGrown k h → under_names (D ++ in_growth g stands h x w) ≡ under_names (D ++ (acts_in w ++ (structs_in w ++ mappings_in w)))
  structs_in_front D w grown =
      let G = in_growth g stands h x w in
      let N = acts_in w in
      let S = structs_in w in
      let M = mappings_in w in
      let kinds_behind : kinds_in (N ++ (S ++ M)) ≡ kinds_in S =
      flat_behind kinds_by N (S ++ M) ∙ ap₂ (λ ks ls. ks ++ ls) (flat_none kinds_by (action_declared h) (λ a. refl) (added_actions w))
      (flat_behind kinds_by S M ∙ ap (λ ks. kinds_in S ++ ks) (flat_none kinds_by (mapping_declared h m) (λ c. refl) (added_constants w)) ∙ append-nil (kinds_in S)) in
      let kinds : kinds_in (D ++ G) ≡ kinds_in (D ++ (N ++ (S ++ M))) = flat_behind kinds_by D G ∙ ap (λ ks. kinds_in D ++ ks) (same_kinds w ∙ sym kinds_behind) ∙ sym (flat_behind kinds_by D (N ++ (S ++ M))) in
      let acts_behind : actions_in (N ++ (S ++ M)) ≡ actions_in N =
      flat_behind actions_by N (S ++ M) ∙ ap (λ ks. actions_in N ++ ks) (flat_behind actions_by S M ∙ ap₂ (λ ks ls. ks ++ ls) (none_in_structs (added_structs w)) (none_in_mappings (added_constants w))) ∙ append-nil (actions_in N) in
      let acts : actions_in (D ++ G) ≡ actions_in (D ++ (N ++ (S ++ M))) = flat_behind actions_by D G ∙ ap (λ ks. actions_in D ++ ks) (same_actions w ∙ sym acts_behind) ∙ sym (flat_behind actions_by D (N ++ (S ++ M))) in
      let functions_behind : (f : Name) → A f (N ++ (S ++ M)) ≡ A f S ++ A f M =
      λ f. behind f N (S ++ M) ∙ ap₂ (λ xs ys. xs ++ ys) (ap (all_named f) (flat_none functions_by (action_declared h) (λ a. refl) (added_actions w))) (behind f S M) in
      let each : (f : Name) → A f (D ++ G) ≡ A f (D ++ (N ++ (S ++ M))) =
      λ f. behind f D G ∙ ap (λ xs. A f D ++ xs) (same_functions f w grown ∙ sym (functions_behind f)) ∙ sym (behind f D (N ++ (S ++ M))) in
      λ i. record { sort = λ n_. first_named n_ (kinds i); functions = λ f. each f i; actions = λ a. all_named a (acts i) }
