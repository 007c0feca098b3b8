-- Variables of one sort that come into scope one after the other.
use Rattle.std.proofs.Common.{◌≡◌, ◌<◌, ◌+◌, ℕ, List, [], ◌∷◌, ◌++◌, map, length, take, get_or, sym, subst, ap, ◌∙◌, arith, length-append, append_assoc}
use Rattle.std.specs.Prelude.{Some, Contains}
use Rattle.std.proofs.lemmas.List.{take_more, append-nil}
use Rattle.mcrl2_syntax.specs.declared.word.Word.{Word}
use Rattle.mcrl2_syntax.specs.declared.process_tree.VarGroup.{VarGroup}
use Rattle.mcrl2_syntax.specs.Words.{PlainWord, word_of}
use Rattle.mcrl2_syntax.specs.ProcessParts.{var_group_of}
use Rattle.data_theory.specs.declared.ids.SortId.{SortId}
use Rattle.data_theory.specs.declared.ids.VarId.{VarId}
use Rattle.data_theory.specs.Signature.{Sig}
use Rattle.data_theory.specs.WholeSignatures.{IsSignature}
use Rattle.data_theory.specs.IdTerms.{sort_under}
use Rattle.data_theory.proofs.IdSortLemmas.{growth_keeps_meant_sorts}
use Rattle.term_pool.specs.Pools.{PoolContents}
use Rattle.sort_table.specs.Expressions.{Name}
use Rattle.sort_table.specs.BareSorts.{SortExpression}
use Rattle.sort_table.specs.BareProcesses.{Variables, bare_group, bare_variables}
use Rattle.sort_table.specs.NamedSorts.{sort_names_of}
use Rattle.sort_table.specs.Vocabularies.{Vocabulary, sort_in}
use Rattle.sort_table.proofs.KeptFunctions.{one_more_read}
use Rattle.data_typing.specs.declared.scope.Bound.{Bound}
use Rattle.sort_checker.specs.Additions.{GoesOn}
use Rattle.sort_checker.specs.CodeContexts.{words_at, EnterBehind}
use Rattle.sort_checker.proofs.Adding.{it_is_grown, vocabulary_stays, texts_stay}
use Rattle.sort_checker.proofs.Binding.{enter_then}

module _ (g : Sig) (signature : IsSignature g) (p : PoolContents) (h : Sig) (on : GoesOn g p h p) where
  pub sort_within : (s : SortId) → s.0 < length g.sorts → s.0 < length h.sorts
  sort_within s l =
      let grown = it_is_grown g h signature on.added in
      let long = length-append g.sorts grown.new_sorts in
      let same : length h.sorts ≡ length (g.sorts ++ grown.new_sorts) = ap length grown.sorts in
      omega (arith, l, long, same)

  pub sort_still : (s : SortId) → s.0 < length g.sorts → (e : SortExpression) → sort_in (sort_names_of g) e ≡ Some (sort_under g s) → sort_in (sort_names_of h) e ≡ Some (sort_under h s)
  sort_still s l e has =
      ap (λ (v : Vocabulary). sort_in v.sort_names e) (vocabulary_stays g h signature on.added) ∙ (has ∙ ap Some (sym (growth_keeps_meant_sorts g h (it_is_grown g h signature on.added) s l)))

  pub text_still : (x : Name) → Contains g.texts x → Contains h.texts x
  text_still x there = subst (λ (ts : List Name). Contains ts x) (sym (texts_stay g h signature on.added)) there

  -- one more variable
  pub next_word : (k : Sig) → GoesOn h p k p → (bs cs ds : List Bound) (ids js ks : List VarId) (e : SortExpression) (ws : List Word) (i : ℕ) (w : Word) → i < length ws → w ≡ get_or ws i w
      → EnterBehind g bs ids (words_at e (take i ws)) h cs js → EnterBehind h cs js ((w.bytes.items, e) ∷ []) k ds ks → EnterBehind g bs ids (words_at e (take (i + 1) ws)) k ds ks
  next_word k then bs cs ds ids js ks e ws i w l is so_far one =
      subst (λ (xs : Variables). EnterBehind g bs ids xs k ds ks) (sym (one_more_read word_of (λ (v : PlainWord). (v.bytes, e)) ws i w l is))
      (enter_then g signature p h k on then bs cs ds ids js ks (words_at e (take i ws)) ((w.bytes.items, e) ∷ []) so_far one)

  -- one more group
  pub next_group : (k : Sig) → GoesOn h p k p → (bs cs ds : List Bound) (ids js ks : List VarId) (gs : List VarGroup) (i : ℕ) (x : VarGroup) → i < length gs → x ≡ get_or gs i x
      → EnterBehind g bs ids (bare_variables (map var_group_of (take i gs))) h cs js → EnterBehind h cs js (bare_group (var_group_of x)) k ds ks → EnterBehind g bs ids (bare_variables (map var_group_of (take (i + 1) gs))) k ds ks
  next_group k then bs cs ds ids js ks gs i x l is so_far one =
      subst (λ (xs : Variables). EnterBehind g bs ids xs k ds ks) (sym (groups_more gs i x l is))
      (enter_then g signature p h k on then bs cs ds ids js ks (bare_variables (map var_group_of (take i gs))) (bare_group (var_group_of x)) so_far one)
    where
      behind : (xs : List VarGroup) (y : VarGroup) → bare_variables (map var_group_of (xs ++ y ∷ [])) ≡ bare_variables (map var_group_of xs) ++ bare_group (var_group_of y)
      behind [] y = append-nil (bare_group (var_group_of y))
      behind (z ∷ xs) y = ap (λ vs. bare_group (var_group_of z) ++ vs) (behind xs y) ∙ sym (append_assoc (bare_group (var_group_of z)) (bare_variables (map var_group_of xs)) (bare_group (var_group_of y)))

      groups_more : (xs : List VarGroup) (n : ℕ) (y : VarGroup) → n < length xs → y ≡ get_or xs n y → bare_variables (map var_group_of (take (n + 1) xs)) ≡ bare_variables (map var_group_of (take n xs)) ++ bare_group (var_group_of y)
      groups_more xs n y m e = ap (λ zs. bare_variables (map var_group_of zs)) (take_more xs n y m) ∙ (behind (take n xs) (get_or xs n y) ∙ ap (λ z. bare_variables (map var_group_of (take n xs)) ++ bare_group (var_group_of z)) (sym e))
