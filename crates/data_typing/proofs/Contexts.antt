-- What holds of a signature stays where variables and list sorts are added.
use Rattle.std.proofs.Common.{◌≡◌, ◌<◌, ◌≤◌, ◌+◌, ℕ, List, [], ◌∷◌, ◌++◌, map, length, refl, sym, subst, ap, ◌∙◌, arith, length-append}
use Rattle.std.specs.Prelude.{option_map}
use Rattle.std.specs.List.{AllByRecursion}
use Rattle.std.proofs.lemmas.List.Elements.{All-weaker}
use Rattle.data_theory.specs.declared.ids.SortId.{SortId}
use Rattle.data_theory.specs.Terms.{Sort}
use Rattle.data_theory.specs.Signature.{Sig}
use Rattle.data_theory.specs.IdSorts.{constructions, meanings_behind, sort_meant}
use Rattle.data_theory.specs.IdTables.{IsTable}
use Rattle.data_theory.specs.IdTerms.{symbol_under, IsGrown}
use Rattle.data_theory.proofs.IdSymbolLemmas.{growth_keeps_meant_symbols}
use Rattle.sort_table.specs.NamedSorts.{sort_count}
use Rattle.data_typing.specs.declared.flat_sorts.FlatSort.{FlatSort}
use Rattle.data_typing.specs.declared.nodes.Callee.{Callee}
use Rattle.data_typing.specs.declared.nodes.Callee.TheVariants as callees
use Rattle.data_typing.specs.declared.nodes.Overload as code
use Rattle.data_typing.specs.declared.nodes.Kind.{Kind}
use Rattle.data_typing.specs.declared.nodes.Kind.TheVariants as kinds
use Rattle.data_typing.specs.declared.nodes.Node.{Node}
use Rattle.data_typing.specs.declared.nodes.Reading.{Reading}
use Rattle.data_typing.specs.declared.scope.Bound.{Bound}
use Rattle.data_typing.specs.declared.sort_tables.SortTables.{SortTables}
use Rattle.data_typing.specs.declared.steps.Wanted.{Wanted}
use Rattle.data_typing.specs.declared.steps.Wanted.TheVariants as wanted
use Rattle.data_typing.specs.Typings.{Typing, untyped, functions, word_typing}
use Rattle.data_typing.specs.FlatSorts.{flat_sort}
use Rattle.data_typing.specs.Nodes.{values_at, values_behind}
use Rattle.data_typing.specs.NodeTypings.{callee_symbol, signature_of, scheme_of, kind_typing, node_typings, typing_at}
use Rattle.data_typing.specs.NamedSorts.{AreNamedFrom, AreNamedSorts}
use Rattle.data_typing.specs.Within.{IsCallee, IsOverloadWithin, IsKindWithin, AreNodesWithin}
use Rattle.data_typing.specs.Contexts.{AreTablesOf, IsBoundOver, IsScopeOver, IsFlatOver, IsWantedOver, IsReadOver, IsReadingOf}
use Rattle.data_typing.proofs.TableLemmas.{constructions_both}
use Rattle.data_typing.proofs.WithinLemmas.{flat_more, nodes_more}

-- ---- tables
named_same : (g h : Sig) → h.sorts ≡ g.sorts → (d : ℕ) (ss : List SortId) → AreNamedFrom g d ss → AreNamedFrom h d ss
named_same g h e d [] all = tt
named_same g h e d (s ∷ ss) all = ((subst (λ xs. s.0 < length xs) (sym e) all.0.0, ap (λ xs. sort_meant xs s) e ∙ all.0.1), named_same g h e (d + 1) ss all.1)

all_named_same : (g h : Sig) → h.sorts ≡ g.sorts → (ss : List SortId) → AreNamedSorts g ss → AreNamedSorts h ss
unfolding AreNamedSorts
all_named_same g h e ss all = named_same g h e 0 ss all

-- where the sorts are the same
pub tables_stay : (g h : Sig) (t : SortTables) → h.sorts ≡ g.sorts → AreTablesOf g t → AreTablesOf h t
tables_stay g h t e are = record {
  flats = are.flats ∙ ap (meanings_behind [] 0) (sym e);
  named = all_named_same g h e t.named.items are.named;
  all_named = are.all_named ∙ ap (λ ss. length (constructions ss)) (sym e);
}

-- ---- scopes
sorts_no_fewer : (g h : Sig) → IsGrown g h → sort_count g ≤ sort_count h
sorts_no_fewer g h grown =
    let both : constructions h.sorts ≡ constructions g.sorts ++ constructions grown.new_sorts = ap constructions grown.sorts ∙ constructions_both g.sorts grown.new_sorts in
    let long = length-append (constructions g.sorts) (constructions grown.new_sorts) in
    let same : length (constructions h.sorts) ≡ length (constructions g.sorts ++ constructions grown.new_sorts) = ap length both in
    omega (arith, long, same)

texts_no_fewer : (g h : Sig) → IsGrown g h → length g.texts ≤ length h.texts
texts_no_fewer g h grown = let long = length-append g.texts grown.new_texts in let same : length h.texts ≡ length (g.texts ++ grown.new_texts) = ap length grown.texts in omega (arith, long, same)

functions_no_fewer : (g h : Sig) → IsGrown g h → length g.functions ≤ length h.functions
functions_no_fewer g h grown = let long = length-append g.functions grown.new_functions in let same : length h.functions ≡ length (g.functions ++ grown.new_functions) = ap length grown.functions in omega (arith, long, same)

pub flat_stays : (g h : Sig) → IsGrown g h → (f : FlatSort) → IsFlatOver g f → IsFlatOver h f
flat_stays g h grown f is = flat_more (sort_count g) (sort_count h) (sorts_no_fewer g h grown) f is

pub scope_stays : (g h : Sig) (bs : List Bound) → IsGrown g h → IsScopeOver g bs → IsScopeOver h bs
scope_stays g h bs grown all = All-weaker (IsBoundOver g) (IsBoundOver h) (λ b is. (let more = texts_no_fewer g h grown in let less = is.0 in omega (arith, more, less), flat_stays g h grown b.sort is.1)) bs all

pub wanted_stays : (g h : Sig) (w : Wanted) → IsGrown g h → IsWantedOver g w → IsWantedOver h w
wanted_stays g h wanted.Inferred grown is = tt
wanted_stays g h (wanted.At s) grown is = flat_stays g h grown s is

-- ---- what was read
module _ (g h : Sig) (table : IsTable g) (grown : IsGrown g h) where
  callee_stays : (n c : ℕ) → c ≤ length g.functions → (k : Callee) (ss : List Sort) (to : Sort) → IsCallee c k ss to → callee_symbol (symbol_under h) k ss to ≡ callee_symbol (symbol_under g) k ss to
  callee_stays n c le (callees.Declared i) ss to is = growth_keeps_meant_symbols g h table grown i (omega (arith, le, is))
  callee_stays n c le (callees.BuiltIn w) ss to is = refl

  signature_stays : (n : ℕ) (f : code.Overload) → IsOverloadWithin n (length g.functions) f → signature_of (symbol_under h) f ≡ signature_of (symbol_under g) f
  signature_stays n f is =
      let same = callee_stays n (length g.functions) (omega arith) f.callee (map flat_sort f.arguments.items) (flat_sort f.result) is.callee in
      λ i. record { symbol = same i; arguments = map flat_sort f.arguments.items; result = flat_sort f.result }

  signatures_stay : (n : ℕ) (fs : List code.Overload) → AllByRecursion (IsOverloadWithin n (length g.functions)) fs → map (signature_of (symbol_under h)) fs ≡ map (signature_of (symbol_under g)) fs
  signatures_stay n [] all = refl
  signatures_stay n (f ∷ fs) all = ap (λ s. s ∷ map (signature_of (symbol_under h)) fs) (signature_stays n f all.0) ∙ ap (λ ss. signature_of (symbol_under g) f ∷ ss) (signatures_stay n fs all.1)

  kind_stays : (n : ℕ) (k : Kind) → IsKindWithin n (length g.functions) k → (ts : List Typing) → kind_typing (symbol_under h) k ts ≡ kind_typing (symbol_under g) k ts
  kind_stays n (kinds.Variable v s) is ts = refl
  kind_stays n (kinds.Numeral k) is ts = refl
  kind_stays n (kinds.Call fs) is ts = ap (λ ss. word_typing (functions ss (option_map scheme_of fs.value.any)) ts) (signatures_stay n fs.value.signatures.items is.signatures)
  kind_stays n kinds.List is ts = refl

  typings_stay : (n : ℕ) (ns : List Node) → AreNodesWithin n (length g.functions) ns → (ts : List Typing) → values_behind untyped (kind_typing (symbol_under h)) ts ns ≡ values_behind untyped (kind_typing (symbol_under g)) ts ns
  typings_stay n [] all ts = refl
  typings_stay n (k ∷ ns) all ts =
      typings_stay n ns all.1 (ts ++ kind_typing (symbol_under h) k.kind (values_at untyped ts k.arguments.items) ∷ [])
      ∙ ap (λ t. values_behind untyped (kind_typing (symbol_under g)) (ts ++ t ∷ []) ns) (kind_stays n k.kind all.0 (values_at untyped ts k.arguments.items))

  node_typings_stay : (n : ℕ) (ns : List Node) → AreNodesWithin n (length g.functions) ns → node_typings (symbol_under h) ns ≡ node_typings (symbol_under g) ns
  unfolding node_typings
  node_typings_stay n ns all = typings_stay n ns all []

  pub read_stays : (r : Reading) → IsReadOver g r → IsReadOver h r
  read_stays r over = record { read = over.read; within = nodes_more (sort_count g) (sort_count h) (length g.functions) (length h.functions) (sorts_no_fewer g h grown) (functions_no_fewer g h grown) r.nodes.items over.within }

  pub reading_stays : (r : Reading) (t : Typing) → IsReadingOf g r t → IsReadingOf h r t
  reading_stays r t is = record {
    over = read_stays r is.over;
    typing = ap (λ ts. typing_at ts r.at) (node_typings_stay (sort_count g) r.nodes.items is.over.within) ∙ is.typing;
  }
