-- What stays ready as variables come into scope.
use Rattle.std.proofs.Common.{◌≡◌, ◌<◌, List, [], ◌∷◌, ◌++◌, length, refl, sym, subst, arith, length-append}
use Rattle.std.specs.Prelude.{Some, slice_get}
use Rattle.std.specs.List.{All}
use Rattle.std.proofs.lemmas.Option.{slice_get_within}
use Rattle.std.proofs.lemmas.List.Elements.{All-append, All-nil, All-cons}
use Rattle.mcrl2_lexer.specs.declared.kind.Kind.TheVariants.{Identifier}
use Rattle.mcrl2_lexer.specs.Tokens.{IsToken}
use Rattle.data_theory.specs.declared.ids.SortId.{SortId}
use Rattle.data_theory.specs.declared.ids.VarId.{VarId}
use Rattle.data_theory.specs.Signature.{Sig, with_variable}
use Rattle.data_theory.specs.IdTerms.{sort_under}
use Rattle.data_theory.proofs.IdGrowthLemmas.{with_a_variable_it_is_grown}
use Rattle.term_pool.specs.Pools.{PoolContents}
use Rattle.sort_table.specs.Expressions.{Name}
use Rattle.sort_table.specs.BareSorts.{SortExpression}
use Rattle.sort_table.specs.NamedSorts.{sort_names_of}
use Rattle.sort_table.specs.Vocabularies.{sort_in}
use Rattle.data_typing.specs.declared.scope.Bound.{Bound}
use Rattle.data_typing.specs.declared.sort_tables.SortTables.{SortTables}
use Rattle.data_typing.specs.FlatSorts.{flat_sort}
use Rattle.data_typing.specs.Contexts.{IsBoundOver, IsScopeOver, IsFlatOver}
use Rattle.data_typing.proofs.Contexts.{tables_stay, flat_stays}
use Rattle.data_typing.proofs.TreesWithin.{kept_over_growth}
use Rattle.sort_checker.specs.Additions.{nothing, one_variable, GoesOn}
use Rattle.sort_checker.specs.CodeContexts.{IsNumbered, IsReady, AreBound, EnterBehind}
use Rattle.sort_checker.proofs.WhatStays.{ready_on}
use Rattle.sort_checker.proofs.Binding.{variable_goes_on, bound_one}

-- one variable: the signature with it, and the scope with it as the innermost one
module _ (g : Sig) (p : PoolContents) (t : SortTables) (bs : List Bound) (ready : IsReady g p t bs) (x : Name) (c : Bound) (s : SortId) (text : slice_get g.texts c.name.0 ≡ Some x) (named : IsToken x Identifier) (sort : s.0 < length g.sorts) (h : Sig) (added : h ≡ with_variable g (record { name = c.name; sort = s })) where
  name_within : c.name.0 < length g.texts
  name_within = slice_get_within g.texts c.name.0 x text

  pub one_goes_on : GoesOn g p h p
  one_goes_on = subst (λ k. GoesOn g p k p) (sym added) (variable_goes_on g ready.signature (record { name = c.name; sort = s }) name_within sort (x, text, named) p)

  module _ (number : c.var.0 ≡ length g.variables) (cs : List Bound) (entered : cs ≡ bs ++ c ∷ []) where
    pub ready_with : IsFlatOver g c.sort → IsReady h p t cs
    ready_with flat =
        let k : Sig = with_variable g (record { name = c.name; sort = s }) in
        let grown = with_a_variable_it_is_grown g (record { name = c.name; sort = s }) in
        let before : IsReady k p t bs = ready_on g p t bs k p t ready (one_variable g (record { name = c.name; sort = s }) name_within (x, text, named) sort nothing) (tables_stay g k t refl ready.tables) (kept_over_growth g k grown p.trees) in
        let long = length-append g.variables (record { name = c.name; sort = s } ∷ []) in
        let less : c.var.0 < length k.variables = omega (arith, long, number) in
        subst (λ r. IsReady r p t cs) (sym added)
        (record {
          signature = before.signature;
          tables = before.tables;
          trees = before.trees;
          scope = subst (IsScopeOver k) (sym entered) (All-append (IsBoundOver k) bs (c ∷ []) before.scope (All-cons (IsBoundOver k) c [] (name_within, flat_stays g k grown c.sort flat) (All-nil (IsBoundOver k))));
          numbers = subst (All (IsNumbered k)) (sym entered) (All-append (IsNumbered k) bs (c ∷ []) before.numbers (All-cons (IsNumbered k) c [] less (All-nil (IsNumbered k))));
        })

    pub entered_one : flat_sort c.sort ≡ sort_under g s → (e : SortExpression) → sort_in (sort_names_of g) e ≡ Some (sort_under g s) → (ids js : List VarId) → js ≡ ids ++ c.var ∷ [] → EnterBehind g bs ids ((x, e) ∷ []) h cs js
    entered_one flat e has ids js pushed = (
      c.var ∷ [],
      pushed,
      subst (λ r. AreBound g bs ((x, e) ∷ []) r cs (c.var ∷ [])) (sym added) (subst (λ ds. AreBound g bs ((x, e) ∷ []) (with_variable g (record { name = c.name; sort = s })) ds (c.var ∷ [])) (sym entered)
          (bound_one g ready.signature bs ready.numbers x c s text name_within sort number flat e has)),
    )
