-- Names of operators stand among the texts, and their numbers stand for them.
use Rattle.std.proofs.Common.{◌≡◌, ◌<◌, Bool, true, false, cond, List, [], ◌∷◌, map, length, get_or, refl, sym, subst, ap, ap₂, ◌∙◌}
use Rattle.std.specs.Prelude.{Option, Some, is_some, bytes_eq, Contains}
use Rattle.std.specs.List.{All, AllByRecursion}
use Rattle.std.proofs.lemmas.Option.{slice_get_within}
use Rattle.std.proofs.lemmas.Slice.Eq.{bytes_eq-Decides}
use Rattle.std.proofs.lemmas.List.Elements.{All-nil, All-cons, All-head, All-tail}
use Rattle.std.proofs.lemmas.Simd.{map-map}
use Rattle.mcrl2_syntax.specs.declared.process_tree.NameSet.{NameSet}
use Rattle.mcrl2_syntax.specs.declared.process_tree.Renaming as code
use Rattle.mcrl2_syntax.specs.declared.process_tree.CommRule.{CommRule}
use Rattle.mcrl2_syntax.proofs.Lists.{all_front, all_back}
use Rattle.data_theory.specs.declared.ids.NameId.{NameId}
use Rattle.data_theory.specs.Keys.{Key}
use Rattle.data_theory.specs.Terms.{Sort}
use Rattle.data_theory.specs.Signature.{Sig}
use Rattle.data_theory.specs.Complete.{IsActionWithin}
use Rattle.data_theory.specs.WholeSignatures.{IsSignature}
use Rattle.data_theory.specs.IdTerms.{sort_under}
use Rattle.term_pool.specs.Pools.{PoolContents}
use Rattle.process_terms.specs.Communication.{Rule}
use Rattle.process_terms.specs.Processes as written
use Rattle.process_terms.specs.Processes.{Renaming}
use Rattle.process_terms.specs.PlainProcesses as plain
use Rattle.process_terms.specs.PlainProcesses.{PlainRule}
use Rattle.process_terms.specs.Meanings.{name_at, HasName, HasRenaming, HasRule}
use Rattle.process_terms.specs.Meanings as meant
use Rattle.process_terms.specs.SignatureEntries.{entries_of}
use Rattle.sort_table.specs.Expressions.{Name}
use Rattle.sort_table.specs.NamedLists.{first_named}
use Rattle.sort_table.specs.SignatureVocabularies.{text_under, action_under, vocabulary_of}
use Rattle.sort_table.specs.Vocabularies.{EachPair}
use Rattle.sort_checker.specs.Operators.{renaming_of, rule_of, names_of}
use Rattle.sort_checker.specs.Faults.{is_action}
use Rattle.sort_checker.specs.CommTrees.{rule_at}
use Rattle.sort_checker.specs.NumberedWords.{set_names, renaming_pair, rule_pair, renaming_names, rule_names, written_renaming, StandIn, IsNumberOf, AreNumbersOf, AreSetsOf, IsRenamingOf, AreRenamingsOf, IsRuleOf, AreRulesOf}
use Rattle.sort_checker.specs.Additions.{GoesOn}
use Rattle.sort_checker.specs.ElaboratedParts.{IsAround}
use Rattle.sort_checker.proofs.Adding.{texts_stay}
use Rattle.sort_checker.proofs.Binding.{read_text}
use Rattle.sort_checker.proofs.NamedNumbers.{text_contained}

-- ---- among the texts
action_stands : (g : Sig) → IsSignature g → (x : Name) → is_action (vocabulary_of g) x ≡ true → Contains g.texts x
action_stands g signature x h = by_list g.actions signature.complete.within.actions h
  where
    by_test : (a : Key) → a.name.0 < length g.texts → (o : Option (List Sort)) → (is_some o ≡ true → Contains g.texts x) → (b : Bool) → bytes_eq (text_under g a.name) x ≡ b → is_some (cond b (Some (map (sort_under g) a.sorts)) o) ≡ true → Contains g.texts x
    by_test a l o further true e k = subst (Contains g.texts) ((bytes_eq-Decides (text_under g a.name) x).0 e) (text_contained g.texts a.name.0 l)
    by_test a l o further false e k = further k

    by_list : (as_ : List Key) → All (IsActionWithin (length g.texts) (length g.sorts)) as_ → is_some (first_named x (map (action_under g) as_)) ≡ true → Contains g.texts x
    by_list [] all k = let never : false ≡ true = k in cc
    by_list (a ∷ as_) all k =
        by_test a (All-head (IsActionWithin (length g.texts) (length g.sorts)) a as_ all).named (first_named x (map (action_under g) as_)) (λ m. by_list as_ (All-tail (IsActionWithin (length g.texts) (length g.sorts)) a as_ all) m)
        (bytes_eq (text_under g a.name) x) refl k

pub actions_stand : (g : Sig) → IsSignature g → (xs : List Name) → AllByRecursion (λ x. is_action (vocabulary_of g) x ≡ true) xs → StandIn g xs
actions_stand g signature [] all = tt
actions_stand g signature (x ∷ xs) all = (action_stands g signature x all.0, actions_stand g signature xs all.1)

pub sets_stand : (g : Sig) (sets : List NameSet) → StandIn g (names_of (written.allow (map set_names sets))) → AllByRecursion (λ (s : NameSet). StandIn g (set_names s)) sets
sets_stand g [] all = tt
sets_stand g (s ∷ sets) all =
    (all_front (Contains g.texts) (set_names s) (names_of (written.allow (map set_names sets))) all, sets_stand g sets (all_back (Contains g.texts) (set_names s) (names_of (written.allow (map set_names sets))) all))

pub renamings_stand : (g : Sig) (rs : List code.Renaming) → StandIn g (names_of (written.rename (map renaming_of (map renaming_pair rs)))) → AllByRecursion (λ (r : code.Renaming). StandIn g (renaming_names r)) rs
renamings_stand g [] all = tt
renamings_stand g (r ∷ rs) all = ((all.0, (all.1.0, tt)), renamings_stand g rs all.1.1)

pub rules_stand : (g : Sig) (rs : List CommRule) → StandIn g (names_of (written.comm (map rule_of (map rule_pair rs)))) → AllByRecursion (λ (r : CommRule). StandIn g (rule_names r)) rs
rules_stand g [] all = tt
rules_stand g (r ∷ rs) all = (
  all_front (Contains g.texts) (rule_names r) (names_of (written.comm (map rule_of (map rule_pair rs)))) all,
  rules_stand g rs (all_back (Contains g.texts) (rule_names r) (names_of (written.comm (map rule_of (map rule_pair rs)))) all),
)

-- ---- pairs
pairs_read : {A B : Type 0} (Q : A → B → Type 0) (f : B → A) → ((x : A) (y : B) → Q x y → f y ≡ x) → (xs : List A) (ys : List B) → EachPair Q xs ys → map f ys ≡ xs
pairs_read Q f same [] [] all = refl
pairs_read Q f same [] (y ∷ ys) all = absurd all
pairs_read Q f same (x ∷ xs) [] all = absurd all
pairs_read Q f same (x ∷ xs) (y ∷ ys) all = ap₂ (λ z zs. z ∷ zs) (same x y all.0) (pairs_read Q f same xs ys all.1)

seconds_hold : {A B : Type 0} (Q : A → B → Type 0) (P : B → Type 0) → ((x : A) (y : B) → Q x y → P y) → (xs : List A) (ys : List B) → EachPair Q xs ys → All P ys
seconds_hold Q P holds [] [] all = All-nil P
seconds_hold Q P holds [] (y ∷ ys) all = absurd all
seconds_hold Q P holds (x ∷ xs) [] all = absurd all
seconds_hold Q P holds (x ∷ xs) (y ∷ ys) all = All-cons P y ys (holds x y all.0) (seconds_hold Q P holds xs ys all.1)

-- ---- numbers
module _ (g : Sig) (signature : IsSignature g) (h : Sig) (p q : PoolContents) (on : GoesOn g p h q) where
  name_there : (x : Name) (n : NameId) → IsNumberOf g x n → HasName (entries_of h q.trees) n
  name_there x n is = subst (λ (ts : List Name). n.0 < length ts) (sym (texts_stay g h signature on.added)) (slice_get_within g.texts n.0 x is)

  name_means : (x : Name) (n : NameId) → IsNumberOf g x n → name_at (entries_of h q.trees) n ≡ x
  name_means x n is = ap (λ (ts : List Name). get_or ts n.0 []) (texts_stay g h signature on.added) ∙ read_text g.texts n.0 x is

  names_there : (xs : List Name) (ns : List NameId) → AreNumbersOf g xs ns → All (HasName (entries_of h q.trees)) ns
  names_there xs ns are = seconds_hold (IsNumberOf g) (HasName (entries_of h q.trees)) name_there xs ns are

  names_mean : (xs : List Name) (ns : List NameId) → AreNumbersOf g xs ns → map (name_at (entries_of h q.trees)) ns ≡ xs
  names_mean xs ns are = pairs_read (IsNumberOf g) (name_at (entries_of h q.trees)) name_means xs ns are

  renaming_means : (x : Renaming) (r : NameId × NameId) → IsRenamingOf g x r → meant.renaming_of (entries_of h q.trees) r ≡ x
  renaming_means x r is = ap₂ (λ (y z : Name). record { from = y; to = z }) (name_means x.from r.0 is.0) (name_means x.to r.1 is.1)

  rule_means : (x : Rule) (c : PlainRule) → IsRuleOf g x c → meant.rule_of (entries_of h q.trees) c ≡ x
  rule_means x c is = ap₂ (λ (ys : List Name) (z : Name). record { left = ys; result = z }) (names_mean x.left c.left is.0) (name_means x.result c.result is.1)

-- ---- operators
module _ (g : Sig) (signature : IsSignature g) where
  pub allow_is : (names : List (List Name)) (sets : List (List NameId)) → AreSetsOf g names sets → IsAround g (plain.allow sets) (written.allow names)
  allow_is names sets are = record {
    there = λ h p q on. seconds_hold (AreNumbersOf g) (All (HasName (entries_of h q.trees))) (names_there g signature h p q on) names sets are;
    means = λ h p q on. ap written.allow (pairs_read (AreNumbersOf g) (map (name_at (entries_of h q.trees))) (names_mean g signature h p q on) names sets are);
  }

  pub block_is : (names : List Name) (ns : List NameId) → AreNumbersOf g names ns → IsAround g (plain.block ns) (written.block names)
  block_is names ns are = record { there = λ h p q on. names_there g signature h p q on names ns are; means = λ h p q on. ap written.block (names_mean g signature h p q on names ns are) }

  pub hide_is : (names : List Name) (ns : List NameId) → AreNumbersOf g names ns → IsAround g (plain.hide ns) (written.hide names)
  hide_is names ns are = record { there = λ h p q on. names_there g signature h p q on names ns are; means = λ h p q on. ap written.hide (names_mean g signature h p q on names ns are) }

  pub rename_is : (rs : List code.Renaming) (ns : List (NameId × NameId)) → AreRenamingsOf g (map written_renaming rs) ns → IsAround g (plain.rename ns) (written.rename (map renaming_of (map renaming_pair rs)))
  rename_is rs ns are = record {
    there = λ h p q on. seconds_hold (IsRenamingOf g) (HasRenaming (entries_of h q.trees)) (λ x r is. (name_there g signature h p q on x.from r.0 is.0, name_there g signature h p q on x.to r.1 is.1)) (map written_renaming rs) ns are;
    means = λ h p q on. ap written.rename (pairs_read (IsRenamingOf g) (meant.renaming_of (entries_of h q.trees)) (renaming_means g signature h p q on) (map written_renaming rs) ns are ∙ sym (map-map renaming_of renaming_pair rs));
  }

  pub comm_is : (rs : List CommRule) (cs : List PlainRule) → AreRulesOf g (map rule_at rs) cs → IsAround g (plain.comm cs) (written.comm (map rule_of (map rule_pair rs)))
  comm_is rs cs are = record {
    there = λ h p q on. seconds_hold (IsRuleOf g) (HasRule (entries_of h q.trees)) (λ x c is. (names_there g signature h p q on x.left c.left is.0, name_there g signature h p q on x.result c.result is.1)) (map rule_at rs) cs are;
    means = λ h p q on. ap written.comm (pairs_read (IsRuleOf g) (meant.rule_of (entries_of h q.trees)) (rule_means g signature h p q on) (map rule_at rs) cs are ∙ sym (map-map rule_of rule_pair rs));
  }
