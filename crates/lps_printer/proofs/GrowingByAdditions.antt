-- Growing by structs, by constants and by actions, step by step.
use Rattle.std.proofs.Common.{◌≡◌, List, [], ◌∷◌, ◌++◌, length, map, refl, sym, ap, ◌∙◌, arith, append-nil, append_assoc, length-append}
use Rattle.std.proofs.lemmas.List.{map-append}
use Rattle.data_theory.specs.declared.ids.FunId.{FunId}
use Rattle.data_theory.specs.declared.ids.NameId.{NameId}
use Rattle.data_theory.specs.Keys.{Key, key}
use Rattle.data_theory.specs.Structs.{numbers_from}
use Rattle.data_theory.specs.Signature.{Sig, with_sort}
use Rattle.data_theory.specs.IdTerms.{IsGrown}
use Rattle.data_theory.specs.WholeSignatures.{IsSignature}
use Rattle.data_theory.proofs.IdGrowthLemmas.{growth_after_growth_is_growth}
use Rattle.term_pool.proofs.DeclaredConstants.{grown_itself}
use Rattle.lps_printer.specs.GrowingByConstants.{GrowsByConstants}
use Rattle.lps_printer.specs.GrowingByAdditions.{functions_of_struct, GrowsByAdditions, nothing_added, then_constants, then_struct, then_action, added_actions, AdditionsFollowEachOther, ConstantsAreAdditions}
use Rattle.lps_printer.proofs.GrownStructs.{it_is_grown, declared_are, actions_are}

pub additions_follow : AdditionsFollowEachOther
additions_follow g h _ before nothing_added = before
additions_follow g h k before (then_constants rest by stands) = then_constants (additions_follow g h _ before rest) by stands
additions_follow g h k before (then_struct rest by stands) = then_struct (additions_follow g h _ before rest) by stands
additions_follow g h k before (then_action rest by stands) = then_action (additions_follow g h _ before rest) by stands

pub constants_are_additions : ConstantsAreAdditions
constants_are_additions g h by stands = then_constants nothing_added by stands

-- ---- where no actions are added
pub constants_add_no_actions : (g h : Sig) (by : GrowsByConstants g h) (stands : IsSignature h) → added_actions (constants_are_additions g h by stands) ≡ []
unfolding constants_are_additions
constants_add_no_actions g h by stands = refl

pub no_actions_follow : (g h k : Sig) (before : GrowsByAdditions g h) (rest : GrowsByAdditions h k) → added_actions before ≡ [] → added_actions rest ≡ [] → added_actions (additions_follow g h k before rest) ≡ []
unfolding additions_follow
no_actions_follow g h _ before nothing_added none none_behind = none
no_actions_follow g h k before (then_constants rest by stands) none none_behind = no_actions_follow g h _ before rest none none_behind
no_actions_follow g h k before (then_struct rest by stands) none none_behind = no_actions_follow g h _ before rest none none_behind
no_actions_follow g h k before (then_action rest by stands) none none_behind =
    let long = length-append (added_actions rest) (by.name ∷ []) in
    let empty : length (added_actions rest ++ by.name ∷ []) ≡ 0 = ap length none_behind in
    absurd (omega (arith, long, empty))

module _ (g : Sig) (stands : IsSignature g) where
  pub still_stands : {h : Sig} → GrowsByAdditions g h → IsSignature h
  still_stands nothing_added = stands
  still_stands (then_constants before by after) = after
  still_stands (then_struct before by after) = after
  still_stands (then_action before by after) = after

  pub additions_grow : {h : Sig} → GrowsByAdditions g h → IsGrown g h
  additions_grow nothing_added = grown_itself g
  additions_grow (then_constants {h = m} {k = k} before by after) = growth_after_growth_is_growth g m k (additions_grow before) by.grown
  additions_grow (then_struct {h = m} {k = k} before by after) = growth_after_growth_is_growth g m k (additions_grow before) (it_is_grown m k (still_stands before) by)
  additions_grow (then_action {h = m} {k = k} before by after) = growth_after_growth_is_growth g m k (additions_grow before) by.grown

  abbrev without_arguments : NameId → Key
  without_arguments a = key a []

  -- the added actions come behind the others
  pub actions_grow : {h : Sig} (w : GrowsByAdditions g h) → h.actions ≡ g.actions ++ map without_arguments (added_actions w)
  actions_grow nothing_added = sym (append-nil g.actions)
  actions_grow (then_constants before by after) = by.actions ∙ actions_grow before
  actions_grow (then_struct {h = m} {k = k} before by after) = actions_are m k (still_stands before) by ∙ actions_grow before
  actions_grow (then_action before by after) =
      let olds = map without_arguments (added_actions before) in
      by.actions ∙ ap (λ as_. as_ ++ key by.name [] ∷ []) (actions_grow before) ∙ append_assoc g.actions olds (key by.name [] ∷ []) ∙ ap (λ as_. g.actions ++ as_) (sym (map-append without_arguments (added_actions before) (by.name ∷ [])))

  pub same_actions : {h : Sig} (w : GrowsByAdditions g h) → added_actions w ≡ [] → h.actions ≡ g.actions
  same_actions w none = actions_grow w ∙ ap (λ as_. g.actions ++ map without_arguments as_) none ∙ append-nil g.actions

  -- the numbers of the functions that are added, in their order
  abbrev pub added_numbers : {h : Sig} → GrowsByAdditions g h → List FunId
  added_numbers nothing_added = []
  added_numbers (then_constants {h = m} before by after) = added_numbers before ++ numbers_from (length m.functions) (length by.constants)
  added_numbers (then_struct before by after) = added_numbers before ++ numbers_from (length (with_sort by.named by.declared.0).functions) (length (functions_of_struct by.named by.declared))
  added_numbers (then_action before by after) = added_numbers before

  pub numbers_are : {h : Sig} (w : GrowsByAdditions g h) → h.declared ≡ g.declared ++ added_numbers w
  numbers_are nothing_added = sym (append-nil g.declared)
  numbers_are (then_constants {h = m} before by after) =
      let new = numbers_from (length m.functions) (length by.constants) in
      by.declared ∙ ap (λ is. is ++ new) (numbers_are before) ∙ append_assoc g.declared (added_numbers before) new
  numbers_are (then_struct {h = m} {k = k} before by after) =
      let new = numbers_from (length (with_sort by.named by.declared.0).functions) (length (functions_of_struct by.named by.declared)) in
      declared_are m k (still_stands before) by ∙ ap (λ is. is ++ new) (numbers_are before) ∙ append_assoc g.declared (added_numbers before) new
  numbers_are (then_action before by after) = by.declared ∙ numbers_are before
