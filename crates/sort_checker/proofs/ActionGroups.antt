-- The actions of a signature by name, and what is told by them.
use Rattle.std.proofs.Common.{◌≡◌, ◌<◌, ◌≤◌, ◌+◌, ◌-◌, ℕ, zero, suc, Bool, true, false, not, cond, ◌&&◌, ◌||◌, List, [], ◌∷◌, ◌++◌, length, map, take, drop, get_or, refl, sym, ap, ap₂, ◌∙◌, subst, arith}
use Rattle.std.specs.Prelude.{Option, Some, None, is_some, bytes_eq, slice_get, MatchOption, Vec}
use Rattle.std.specs.Global.{Global}
use Rattle.std.specs.List.{All, AllByRecursion, Contains, flat_map, list_any, list_all}
use Rattle.std.proofs.lemmas.List.{map-append, take_more}
use Rattle.std.proofs.lemmas.List.Elements.{All-contains}
use Rattle.std.proofs.lemmas.Simd.{map-map}
use Rattle.std.proofs.lemmas.Slice.Eq.{bytes_eq-Decides}
use Rattle.std.proofs.Math.Seq.{drop-cons}
use denote.Ref.{Bor}
use Rattle.mcrl2_syntax.specs.declared.process_tree.CommRule.{CommRule}
use Rattle.mcrl2_syntax.specs.declared.word.Word.{Word}
use Rattle.mcrl2_syntax.specs.Words.{PlainWord, word_of}
use Rattle.mcrl2_syntax.specs.ProcessParts.{PlainCommRule, comm_rule_of}
use Rattle.process_terms.specs.Communication.{Rule}
use Rattle.process_terms.specs.Processes.{comm}
use Rattle.sort_table.specs.Vocabularies.{Vocabulary}
use Rattle.data_theory.specs.declared.actions.ActEntry.{ActEntry}
use Rattle.data_theory.specs.declared.ids.ActId.{ActId}
use Rattle.data_theory.specs.declared.ids.SortId.{SortId}
use Rattle.data_theory.specs.Actions.{actions_of}
use Rattle.data_theory.specs.Complete.{IsActionWithin}
use Rattle.data_theory.specs.Keys.{Key, key}
use Rattle.data_theory.specs.Signature.{Sig}
use Rattle.data_theory.specs.Terms.{Sort}
use Rattle.data_theory.specs.IdTerms.{sort_under}
use Rattle.data_theory.specs.WholeSignatures.{IsSignature}
use Rattle.data_theory.proofs.PlaceLemmas.{contains_read}
use Rattle.sort_table.specs.Expressions.{Name}
use Rattle.sort_table.specs.NamedLists.{all_named}
use Rattle.sort_table.specs.BareProcesses.{bare_names}
use Rattle.sort_table.specs.SignatureVocabularies.{text_under, action_under, vocabulary_of}
use Rattle.sort_checker.specs.declared.name_numbers.NameNumbers.{NameNumbers}
use Rattle.sort_checker.specs.NameNumbers.{has_name, AddsNames}
use Rattle.sort_checker.specs.Operators.{stands_in, rule_of, has_action, share_a_name, are_apart, rule_fits, has_comm_fault}
use Rattle.sort_checker.specs.LeftTrees.{names_of_words}
use Rattle.sort_checker.specs.ActionTables.{key_of, keys_of, actions_named}
use Rattle.sort_checker.specs.CommTrees.{rule_at, rules_at, left_names, fault_at, fault_along}
use Rattle.sort_checker.specs.Stops.{operators_by}
use Rattle.sort_checker.specs.StopTrees.{stop_of, stops_of}
use Rattle.sort_checker.specs.declared.stops.PartTree.TheVariants.{Comm}
use Rattle.sort_checker.specs.declared.stops.StopTree.{StopTree}
use Rattle.sort_checker.specs.declared.stops.StopTree.TheVariants.{At}
use Rattle.sort_checker.proofs.NumberedActions.{all_by}
use Rattle.sort_checker.proofs.NameLists.{action_holds, all_mapped, one_fails, any_append}
use Rattle.sort_checker.proofs.CommRules.{named_actions, among_actions, sorts_at, named_sorts, none_declared, is_declared, isn_t_declared, apart_with}

-- ---- entries of a signature
pub entry_within : (g : Sig) → IsSignature g → (es : List ActEntry) → actions_of es ≡ g.actions → (i : ℕ) (e : ActEntry) → i < length es → e ≡ get_or es i e → IsActionWithin (length g.texts) (length g.sorts) (key e.name e.sorts.items)
entry_within g is es all i e l q =
    action_holds (IsActionWithin (length g.texts) (length g.sorts)) es (subst (AllByRecursion (IsActionWithin (length g.texts) (length g.sorts))) (sym all) (all_by (IsActionWithin (length g.texts) (length g.sorts)) g.actions is.complete.within.actions)) i e l q

-- ---- one more action
more_named : (g : Sig) (x : Name) (as_ bs : List Key) → actions_named g x (as_ ++ bs) ≡ actions_named g x as_ ++ actions_named g x bs
more_named g x [] bs = refl
more_named g x (a ∷ as_) bs = by_test (bytes_eq (text_under g a.name) x) (more_named g x as_ bs)
  where
    by_test : (b : Bool) → actions_named g x (as_ ++ bs) ≡ actions_named g x as_ ++ actions_named g x bs
        → cond b (a ∷ actions_named g x (as_ ++ bs)) (actions_named g x (as_ ++ bs)) ≡ cond b (a ∷ actions_named g x as_) (actions_named g x as_) ++ actions_named g x bs
    by_test true h = ap (λ (ks : List Key). a ∷ ks) h
    by_test false h = h

nothing_more : {A : Type 0} (xs : List A) → xs ≡ xs ++ []
nothing_more [] = refl
nothing_more (x ∷ xs) = ap (λ ys. x ∷ ys) (nothing_more xs)

-- what stands under each name, once the entry is put behind those of its name
pub grouped_more : (g : Sig) (es : List ActEntry) (i : ℕ) (e : ActEntry) → i < length es → e ≡ get_or es i e → (name : Name) → name ≡ text_under g e.name
    → (old middle new : Name → Option (Vec (Bor ActEntry) Global)) (v : Vec (Bor ActEntry) Global)
    → ((y : Name) → middle y ≡ cond (bytes_eq name y) None (old y)) → ((y : Name) → new y ≡ cond (bytes_eq name y) (Some v) (middle y)) → map key_of v.items ≡ keys_of (old name) ++ key e.name e.sorts.items ∷ []
    → ((y : Name) → keys_of (old y) ≡ actions_named g y (actions_of (take i es))) → (y : Name) → keys_of (new y) ≡ actions_named g y (actions_of (take (i + 1) es))
grouped_more g es i e l q name text old middle new v taken put pushed before y =
    by_test (bytes_eq name y) refl ∙ sym (ap (actions_named g y) (ap actions_of (take_more es i e l) ∙ (map-append (λ (x : ActEntry). key x.name x.sorts.items) (take i es) (get_or es i e ∷ []) ∙ ap (λ (x : ActEntry). actions_of (take i es) ++ key x.name x.sorts.items ∷ []) (sym q)))
    ∙ more_named g y (actions_of (take i es)) (key e.name e.sorts.items ∷ []))
  where
    by_test : (b : Bool) → bytes_eq name y ≡ b → keys_of (new y) ≡ actions_named g y (actions_of (take i es)) ++ actions_named g y (key e.name e.sorts.items ∷ [])
    by_test true p =
        let same : name ≡ y = (bytes_eq-Decides name y).0 p in
        ap keys_of (put y ∙ ap (λ (b : Bool). cond b (Some v) (middle y)) p)
        ∙ (pushed ∙ (ap (λ (ks : List Key). ks ++ key e.name e.sorts.items ∷ []) (ap (λ (n : Name). keys_of (old n)) same ∙ before y)
        ∙ ap (λ (b : Bool). actions_named g y (actions_of (take i es)) ++ cond b (key e.name e.sorts.items ∷ []) []) (sym (ap (λ (n : Name). bytes_eq n y) (sym text) ∙ p))))
    by_test false p =
        ap keys_of (put y ∙ (ap (λ (b : Bool). cond b (Some v) (middle y)) p ∙ (taken y ∙ ap (λ (b : Bool). cond b None (old y)) p)))
        ∙ (before y ∙ (nothing_more (actions_named g y (actions_of (take i es)))
        ∙ ap (λ (b : Bool). actions_named g y (actions_of (take i es)) ++ cond b (key e.name e.sorts.items ∷ []) []) (sym (ap (λ (n : Name). bytes_eq n y) (sym text) ∙ p))))

-- ---- what stands under one name
pub absent_in : (g : Sig) (x : Name) (ss : List Sort) (ks : List Key) → ks ≡ actions_named g x g.actions → ks ≡ [] → false ≡ has_action (vocabulary_of g) x ss
absent_in g x ss ks h e = sym (none_declared g x ss (sym h ∙ e))

pub absent_fits : (g : Sig) (x : Name) (p : List Sort → Bool) (ks : List Key) → ks ≡ actions_named g x g.actions → ks ≡ [] → true ≡ list_all p (all_named x (vocabulary_of g).actions)
absent_fits g x p ks h e = sym (ap (list_all p) (named_sorts g x g.actions ∙ ap (map (sorts_at g)) (sym h ∙ e)))

pub no_entries : (l : List (Bor ActEntry)) → length l < 1 → map key_of l ≡ []
no_entries [] h = refl
no_entries (e ∷ l) h = let never : ⊥ = omega (arith, h) in absurd never

entry_holds : (P : Key → Type 0) (l : List (Bor ActEntry)) → AllByRecursion P (map key_of l) → (i : ℕ) (e : Bor ActEntry) → i < length l → e ≡ get_or l i e → P (key_of e)
entry_holds P [] h i e k q = let never : ⊥ = omega (arith, k) in absurd never
entry_holds P (x ∷ l) h zero e k q = subst (λ (y : Bor ActEntry). P (key_of y)) (sym q) h.0
entry_holds P (x ∷ l) h (suc i) e k q = entry_holds P l h.1 i e (omega (arith, k)) q

module _ (g : Sig) (is : IsSignature g) (x : Name) (l : List (Bor ActEntry)) (under : map key_of l ≡ actions_named g x g.actions) (i : ℕ) (e : Bor ActEntry) (within : i < length l) (at : e ≡ get_or l i e) where
  entry_among : Contains g.actions (key_of e)
  entry_among = entry_holds (Contains g.actions) l (subst (AllByRecursion (Contains g.actions)) (sym under) (among_actions g x g.actions)) i e within at

  entry_named : text_under g e.now.name ≡ x
  entry_named = entry_holds (λ (a : Key). text_under g a.name ≡ x) l (subst (AllByRecursion (λ (a : Key). text_under g a.name ≡ x)) (sym under) (named_actions g x g.actions)) i e within at

  pub entry_sorts : All (λ (s : SortId). s.0 < length g.sorts) e.now.sorts.items
  entry_sorts = (All-contains (IsActionWithin (length g.texts) (length g.sorts)) g.actions (key_of e) is.complete.within.actions entry_among).takes

  pub declared_told : (ids : List SortId) → All (λ s. s.0 < length g.sorts) ids → (o : Option ActId) → MatchOption o (¬ (Contains g.actions (key e.now.name ids))) (λ (act : ActId). slice_get g.actions act.0 ≡ Some (key e.now.name ids))
      → is_some o ≡ has_action (vocabulary_of g) x (map (sort_under g) ids)
  declared_told ids inside None h = sym (isn_t_declared g is x ids inside (key_of e) entry_among entry_named h)
  declared_told ids inside (Some act) h = sym (is_declared g is x ids inside (key_of e) entry_among entry_named (contains_read g.actions act.0 (key e.now.name ids) h))

  pub entry_fails : (p : List Sort → Bool) → p (map (sort_under g) e.now.sorts.items) ≡ false → false ≡ list_all p (all_named x (vocabulary_of g).actions)
  entry_fails p h =
      sym (ap (list_all p) (named_sorts g x g.actions ∙ ap (map (sorts_at g)) (sym under))
      ∙ (all_mapped p (sorts_at g) (map key_of l) ∙ (all_mapped (λ (a : Key). p (sorts_at g a)) key_of l ∙ one_fails (λ (y : Bor ActEntry). p (sorts_at g (key_of y))) l i e within at h)))

take_beyond : {A : Type 0} (xs : List A) (n : ℕ) → length xs ≤ n → take n xs ≡ xs
take_beyond [] zero h = refl
take_beyond [] (suc n) h = refl
take_beyond (x ∷ xs) zero h = let never : ⊥ = omega (arith, h) in absurd never
take_beyond (x ∷ xs) (suc n) h = ap (λ ys. x ∷ ys) (take_beyond xs n (omega (arith, h)))

pub all_fit : (g : Sig) (x : Name) (p : List Sort → Bool) (l : List (Bor ActEntry)) → map key_of l ≡ actions_named g x g.actions → (n : ℕ) → length l ≤ n → list_all p (map (sorts_at g) (map key_of (take n l))) ≡ true
    → true ≡ list_all p (all_named x (vocabulary_of g).actions)
all_fit g x p l under n far h =
    sym (ap (list_all p) (named_sorts g x g.actions ∙ ap (map (sorts_at g)) (sym under ∙ ap (map key_of) (sym (take_beyond l n far)))) ∙ h)

-- among all actions
pub one_action_fails : (g : Sig) (p : List Sort → Bool) (es : List ActEntry) → actions_of es ≡ g.actions → (i : ℕ) (e : ActEntry) → i < length es → e ≡ get_or es i e → p (map (sort_under g) e.sorts.items) ≡ false
    → false ≡ list_all (λ (a : Name × List Sort). p a.1) (vocabulary_of g).actions
one_action_fails g p es all i e l q h =
    sym (all_mapped (λ (a : Name × List Sort). p a.1) (action_under g) g.actions
    ∙ (ap (list_all (λ (a : Key). p (map (sort_under g) a.sorts))) (sym all)
    ∙ (all_mapped (λ (a : Key). p (map (sort_under g) a.sorts)) (λ (x : ActEntry). key x.name x.sorts.items) es ∙ one_fails (λ (x : ActEntry). p (map (sort_under g) x.sorts.items)) es i e l q h)))

-- ---- left sides from the last to the first
and_false : (b : Bool) → (b && false) ≡ false
and_false true = refl
and_false false = refl

pub not_apart : (rules : List CommRule) (n : ℕ) → are_apart (rules_at (drop n rules)) ≡ false → false ≡ are_apart (rules_at rules)
not_apart rules zero h = sym h
not_apart [] (suc n) h = sym h
not_apart (r ∷ rules) (suc n) h =
    let shared : Bool = not (list_any (share_a_name (rule_at r)) (rules_at rules)) in sym (ap (λ (b : Bool). shared && b) (sym (not_apart rules n h)) ∙ and_false shared)

module _ (rules : List CommRule) (left : ℕ) (some : 0 < left) (inside : left ≤ length rules) (r : CommRule) (at : r ≡ get_or rules (left - 1) r) where
  pub cut : drop (left - 1) rules ≡ r ∷ drop left rules
  cut =
      let l : left - 1 < length rules = omega (arith, some, inside) in
      let next : suc (left - 1) ≡ left = omega (arith, some) in
      drop-cons rules (left - 1) r l ∙ ap₂ (λ (x : CommRule) (n : ℕ). x ∷ drop n rules) (sym at) next

  pub apart_now : (m : NameNumbers) → ((n : Name) → has_name m n ≡ stands_in n (left_names (rules_at (drop left rules)))) → (b : Bool) → b ≡ list_any (has_name m) (bare_names (map word_of r.names.items)) → are_apart (rules_at (drop left rules)) ≡ true
      → are_apart (rules_at (drop (left - 1) rules)) ≡ not b
  apart_now m known b told apart =
      ap (λ (rs : List CommRule). are_apart (rules_at rs)) cut
      ∙ (apart_with (has_name m) (rule_at r) (rules_at (drop left rules)) known ∙ (ap₂ (λ (x y : Bool). not x && y) (sym told) apart ∙ and_true (not b)))
    where
      and_true : (c : Bool) → (c && true) ≡ c
      and_true true = refl
      and_true false = refl

  pub known_now : (m k : NameNumbers) (ws : List Word) → ws ≡ r.names.items → ((n : Name) → has_name m n ≡ stands_in n (left_names (rules_at (drop left rules)))) → AddsNames m k (names_of_words ws)
      → (n : Name) → has_name k n ≡ stands_in n (left_names (rules_at (drop (left - 1) rules)))
  known_now m k ws is known more n =
      more n
      ∙ (ap₂ (λ (a b : Bool). a || b) (known n) (ap (λ (vs : List Word). stands_in n (names_of_words vs)) is ∙ ap (stands_in n) (sym (map-map (λ (w : PlainWord). w.bytes) word_of r.names.items)))
      ∙ (or_swap (stands_in n (left_names (rules_at (drop left rules)))) (stands_in n (bare_names (map word_of r.names.items)))
      ∙ (sym (any_append (λ y. bytes_eq y n) (bare_names (map word_of r.names.items)) (left_names (rules_at (drop left rules)))) ∙ ap (λ (rs : List CommRule). stands_in n (left_names (rules_at rs))) (sym cut))))
    where
      or_swap : (a b : Bool) → (a || b) ≡ (b || a)
      or_swap true true = refl
      or_swap true false = refl
      or_swap false true = refl
      or_swap false false = refl

-- ---- along the stops
pub fault_by_stops : (v : Vocabulary) (ss : List StopTree) → fault_along v ss ≡ list_any (fault_at v) ss
fault_by_stops v [] = refl
fault_by_stops v (s ∷ ss) = any_append (has_comm_fault v) (operators_by (stop_of s)) (flat_map operators_by (stops_of ss)) ∙ ap (λ (b : Bool). fault_at v s || b) (fault_by_stops v ss)

pub fault_of_rules : (v : Vocabulary) (rules : Bor (List CommRule)) (b : Bool) → b ≡ (are_apart (rules_at rules.now) && list_all (rule_fits v) (rules_at rules.now)) → not b ≡ fault_at v (At (Comm rules))
fault_of_rules v rules b h =
    ap not h
    ∙ (ap (λ (cs : List Rule). not (are_apart cs && list_all (rule_fits v) cs))
    (sym (map-map rule_of (λ (r : PlainCommRule). (bare_names r.names, r.outcome.bytes)) (map comm_rule_of rules.now) ∙ map-map (λ (r : PlainCommRule). rule_of (bare_names r.names, r.outcome.bytes)) comm_rule_of rules.now))
    ∙ or_no (has_comm_fault v (comm (map rule_of (map (λ (r : PlainCommRule). (bare_names r.names, r.outcome.bytes)) (map comm_rule_of rules.now))))))
  where
    or_no : (a : Bool) → a ≡ (a || false)
    or_no true = refl
    or_no false = refl
