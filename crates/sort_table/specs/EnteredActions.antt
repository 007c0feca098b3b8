-- Actions of a text that a signature has.
use Rattle.std.specs.Prelude.{◌≡◌, List, [], ◌∷◌, ◌++◌, map}
use Rattle.std.specs.List.{Contains, AllByRecursion}
use Rattle.mcrl2_syntax.specs.declared.word.Word.{Word}
use Rattle.data_theory.specs.declared.ids.NameId.{NameId}
use Rattle.data_theory.specs.declared.ids.SortId.{SortId}
use Rattle.data_theory.specs.Keys.{Key, key}
use Rattle.data_theory.specs.Signature.{Sig}
use Rattle.sort_table.specs.Expressions.{Name}
use Rattle.sort_table.specs.BareSorts.{SortExpression}
use Rattle.sort_table.specs.BareDeclarations.{Declaration, actions}
use Rattle.sort_table.specs.NamedFunctions.{names_of}
use Rattle.sort_table.specs.EnteredFunctions.{HaveSortsOf, IsNameId, IsReadable, IsKnownName, Keeps}

-- the signature without its actions
abbrev pub no_actions : Sig → Sig
no_actions g = record g { actions = [] }

-- an action has this name and the sorts of these expressions
pub record IsActionAs (g : Sig) (a : Name) (es : List SortExpression) (k : Key) : Type 0 where
  pub name : IsNameId g a k.name
  pub sorts : HaveSortsOf g es k.sorts

-- Of actions in the order of a text each is there in front, or comes next.
pub data ComeNext (g : Sig) : List Key → List (Name × List SortExpression) → List Key → Type 0 where
  no_actions_left : (front : List Key) → ComeNext g front [] []
  one_there : (front : List Key) (a : Name) (es : List SortExpression) (k : Key) (new : List (Name × List SortExpression)) (ks : List Key) → Contains front k → IsActionAs g a es k → ComeNext g front new ks → ComeNext g front ((a, es) ∷ new) ks
  one_next : (front : List Key) (a : Name) (es : List SortExpression) (k : Key) (new : List (Name × List SortExpression)) (ks : List Key) → IsActionAs g a es k → ComeNext g (front ++ k ∷ []) new ks → ComeNext g front ((a, es) ∷ new) (k ∷ ks)

-- These actions are added in their order, where they aren't there, and no others.
pub record AddsActions (new : List (Name × List SortExpression)) (g h : Sig) : Type 0 where
  pub keeps : Keeps (no_actions g) (no_actions h)
  pub declared : h.declared ≡ g.declared
  pub sorts : h.sorts ≡ g.sorts
  pub added : List Key
  pub behind : h.actions ≡ g.actions ++ added
  pub in_order : ComeNext h g.actions new added

-- an action of a name and sorts is there, or comes behind the others
pub data EntersAct (n : Name) (ss : List SortId) (g : Sig) : Sig → Type 0 where
  was_there : (i : NameId) → IsNameId g n i → Contains g.actions (key i ss) → EntersAct n ss g g
  is_new : (i : NameId) → IsNameId g n i → EntersAct n ss g (record g { actions = g.actions ++ key i ss ∷ [] })

abbrev pub actions_named : List SortExpression → List Word → List (Name × List SortExpression)
actions_named es ws = map (λ a. (a, es)) (names_of ws)

-- what the entry of a declaration's actions needs
abbrev pub IsReadyAction : Sig → Declaration → Type 0
IsReadyAction g (actions as_ es) = AllByRecursion (IsKnownName g) as_ × AllByRecursion (IsReadable g) es
IsReadyAction g _ = Unit {0}
