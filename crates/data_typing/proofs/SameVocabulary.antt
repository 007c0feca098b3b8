-- List sorts change nothing in the vocabulary of a signature.
use Rattle.std.proofs.Common.{◌≡◌, ℕ, suc, List, [], ◌∷◌, ◌++◌, length, refl, sym, ap, ◌∙◌, arith, length-append, append-nil}
use Rattle.std.proofs.lemmas.List.{length-map}
use Rattle.data_theory.specs.declared.ids.FunId.{FunId}
use Rattle.data_theory.specs.Signature.{Sig}
use Rattle.data_theory.specs.IdSymbols.{declared_from}
use Rattle.data_theory.specs.IdData.{function_meant}
use Rattle.sort_table.specs.Vocabularies.{Vocabulary}
use Rattle.sort_table.specs.Growth.{More, with_more}
use Rattle.sort_table.specs.NamedSorts.{AddsLists, no_lists, one_list}
use Rattle.sort_table.specs.SignatureVocabularies.{sort_name_under, function_names_from, action_under, vocabulary_of}
use Rattle.sort_table.proofs.KeptFunctions.{lists_stand}
use Rattle.sort_table.proofs.DeclaringLemmas.{same_ids, same_count}
use Rattle.sort_table.proofs.GrowingSignatures.{grown_signatures_have_more}
use Rattle.data_typing.specs.ContextLaws.{ListSortsKeepTheVocabulary}
use Rattle.data_typing.proofs.TableLemmas.{lists_grow}

same_actions : (g h : Sig) → AddsLists g h → h.actions ≡ g.actions
same_actions g _ no_lists = refl
same_actions g _ (one_list h e l absent a) = same_actions g h a

same_declared : (g h : Sig) → AddsLists g h → h.declared ≡ g.declared
same_declared g _ no_lists = refl
same_declared g _ (one_list h e l absent a) = same_declared g h a

names_long : (g : Sig) (k : ℕ) (is : List FunId) → length (function_names_from g k is) ≡ length is
names_long g k [] = refl
names_long g k (i ∷ is) = ap suc (names_long g (suc k) is)

-- what comes behind as many as there are is nothing
nothing_more : {A : Type 0} (xs ys more : List A) → ys ≡ xs ++ more → length ys ≡ length xs → more ≡ []
nothing_more xs ys [] e same = refl
nothing_more xs ys (m ∷ more) e same = let long = length-append xs (m ∷ more) in let all : length ys ≡ length (xs ++ m ∷ more) = ap length e in absurd (omega (arith, long, all, same))

nothing_behind : (v w : Vocabulary) (m : More) → w ≡ with_more v m → m.sorts ≡ [] → m.functions ≡ [] → m.sort_names ≡ [] → m.function_names ≡ [] → m.actions ≡ [] → w ≡ v
nothing_behind v w m e a b c d f =
    let sorts = ap (λ l. v.tables.sorts ++ l) a ∙ append-nil v.tables.sorts in
    let functions = ap (λ l. v.tables.functions ++ l) b ∙ append-nil v.tables.functions in
    let sort_names = ap (λ l. v.sort_names ++ l) c ∙ append-nil v.sort_names in
    let function_names = ap (λ l. v.function_names ++ l) d ∙ append-nil v.function_names in
    let actions = ap (λ l. v.actions ++ l) f ∙ append-nil v.actions in
    e ∙ (λ i. record { tables = record { sorts = sorts i; functions = functions i }; sort_names = sort_names i; function_names = function_names i; actions = actions i })

pub list_sorts_keep_the_vocabulary : ListSortsKeepTheVocabulary
list_sorts_keep_the_vocabulary g h stands a =
    let after = lists_stand g h stands a in
    let (m, e, _) = grown_signatures_have_more g h stands.complete stands.table stands.roles after.roles (lists_grow g h a) in
    let v : Vocabulary = vocabulary_of g in
    let w : Vocabulary = vocabulary_of h in
    let listed : length (declared_from 0 h.functions) ≡ length (declared_from 0 g.functions) = ap length (sym after.table.listed ∙ same_declared g h a ∙ stands.table.listed) in
    nothing_behind v w m e
    (nothing_more v.tables.sorts w.tables.sorts m.sorts (ap (λ (u : Vocabulary). u.tables.sorts) e) (same_count g h a))
    (nothing_more v.tables.functions w.tables.functions m.functions (ap (λ (u : Vocabulary). u.tables.functions) e) (length-map (declared_from 0 h.functions) (function_meant h) ∙ listed ∙ sym (length-map (declared_from 0 g.functions) (function_meant g))))
    (nothing_more v.sort_names w.sort_names m.sort_names (ap (λ (u : Vocabulary). u.sort_names) e) (length-map h.sort_names (sort_name_under h) ∙ ap length (same_ids g h a) ∙ sym (length-map g.sort_names (sort_name_under g))))
    (nothing_more v.function_names w.function_names m.function_names (ap (λ (u : Vocabulary). u.function_names) e) (names_long h 0 h.declared ∙ ap length (same_declared g h a) ∙ sym (names_long g 0 g.declared)))
    (nothing_more v.actions w.actions m.actions (ap (λ (u : Vocabulary). u.actions) e) (length-map h.actions (action_under h) ∙ ap length (same_actions g h a) ∙ sym (length-map g.actions (action_under g))))
