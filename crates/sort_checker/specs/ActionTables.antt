-- The actions of a signature by name, in code.
use Rattle.std.specs.Prelude.{◌≡◌, List, [], Vec, map, Option, Some, None}
use Rattle.std.specs.Global.{Global}
use Rattle.std.specs.BTreeMap.{BTreeMap, get_by}
use Rattle.std.specs.Cmp.Lexicographic.{slice_cmp}
use Rattle.std.specs.Ordering.{nat_cmp}
use denote.Ref.{Bor}
use Rattle.data_theory.specs.declared.actions.ActEntry.{ActEntry}
use Rattle.data_theory.specs.Keys.{Key, key}
use Rattle.data_theory.specs.Signature.{Sig}
use Rattle.sort_table.specs.Expressions.{Name}
use Rattle.sort_table.specs.NamedLists.{all_named}
use Rattle.sort_table.specs.SignatureVocabularies.{text_under}

abbrev pub key_of : Bor ActEntry → Key
key_of e = key e.now.name e.now.sorts.items

abbrev pub keys_of : Option (Vec (Bor ActEntry) Global) → List Key
keys_of None = []
keys_of (Some v) = map key_of v.items

-- what stands under a name
abbrev pub keys_in : BTreeMap (Bor Name) (Vec (Bor ActEntry) Global) → Name → List Key
keys_in groups x = keys_of (get_by (λ (k : Bor Name). slice_cmp nat_cmp x k.now) groups)

abbrev pub named_key : Sig → Key → Name × Key
named_key g a = (text_under g a.name, a)

-- those of these actions that have the name
abbrev pub actions_named : Sig → Name → List Key → List Key
actions_named g x as_ = all_named x (map (named_key g) as_)

-- under each name stand its actions, in their order
abbrev pub GroupsActions : Sig → List Key → BTreeMap (Bor Name) (Vec (Bor ActEntry) Global) → Type 0
GroupsActions g as_ groups = (x : Name) → keys_in groups x ≡ actions_named g x as_
