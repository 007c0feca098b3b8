-- Graphs of calls.
use Rattle.std.proofs.Common.{◌≡◌, ◌<◌, ◌+◌, ◌↔◌, inl, inr, ⊎_elim, Bool, true, false, ℕ, zero, suc, List, [], ◌∷◌, ◌++◌, map, take, length, get_or, refl, sym, ap, ◌∙◌, subst, Some, arith, Vec}
use Rattle.std.specs.Prelude.{slice_get}
use Rattle.std.specs.Global.{Global}
use Rattle.std.specs.List.{Contains}
use Rattle.std.proofs.lemmas.List.{map-append, take_more, length-map}
use Rattle.graphs.specs.Graphs.{successors, HasEdge, IsGraph, IsReached, AreReached}
use Rattle.graphs.proofs.Ranking.{path_map}
use Rattle.process_terms.specs.Processes.{Definition, Table}
use Rattle.process_terms.specs.declared.definitions.ProcDef.{ProcDef}
use Rattle.process_terms.specs.PlainProcesses.{PlainModel, plain_definition, plain_process}
use Rattle.process_terms.specs.Meanings.{Entries, table_of, body_of, definition_of}
use Rattle.guard_check.specs.declared.calls.Extent.{Extent}
use Rattle.guard_check.specs.declared.calls.Extent.TheVariants.{Everywhere}
use Rattle.guard_check.specs.Calls.{calls, Calls, Reaches}
use Rattle.guard_check.specs.Guards.{HasDeclaredCalls}
use Rattle.guard_check.specs.CallGraphs.{call_table, AreCallLists, IsCallGraph}
use Rattle.guard_check.proofs.GuardLemmas.{link_is_call}

-- ---- edges are calls
edges_at : (edges : List (Vec ℕ Global)) (a : ℕ) → successors edges a ≡ get_or (map (λ (v : Vec ℕ Global). v.items) edges) a []
edges_at [] a = refl
edges_at (v ∷ vs) zero = refl
edges_at (v ∷ vs) (suc a) = edges_at vs a

called_at : (n : Extent) (d : Table) (a b : ℕ) → Contains (get_or (call_table n d) a []) b → Calls n d a b
called_at n [] a b h = let l : h.0 < 0 = h.1 in absurd (omega (arith, l))
called_at n (f ∷ d) zero b h = (f, refl, h)
called_at n (f ∷ d) (suc a) b h = called_at n d a b h

at_called : (n : Extent) (d : Table) (a b : ℕ) → Calls n d a b → Contains (get_or (call_table n d) a []) b
at_called n [] a b h = let e : slice_get [] a ≡ Some h.0 = h.1 in let no : ⊥ = cc in absurd no
at_called n (f ∷ d) zero b h = let k : Some f ≡ Some h.0 = h.1 in let e : f ≡ h.0 = cc in subst (λ k. Contains (calls n k.body) b) (sym e) h.2
at_called n (f ∷ d) (suc a) b h = at_called n d a b h

module _ (n : Extent) (d : Table) (edges : List (Vec ℕ Global)) (are : map (λ (v : Vec ℕ Global). v.items) edges ≡ call_table n d) where
  pub edge_to_call : (a b : ℕ) → HasEdge edges a b → Calls n d a b
  edge_to_call a b h = called_at n d a b (subst (λ l. Contains l b) (edges_at edges a ∙ ap (λ ls. get_or ls a []) are) h)

  pub call_to_edge : (a b : ℕ) → Calls n d a b → HasEdge edges a b
  call_to_edge a b h = subst (λ l. Contains l b) (sym (edges_at edges a ∙ ap (λ ls. get_or ls a []) are)) (at_called n d a b h)

  pub same_size : length edges ≡ length d
  same_size = sym (length-map edges (λ (v : Vec ℕ Global). v.items)) ∙ (ap length are ∙ length-map d (λ (f : Definition). calls n f.body))

-- ---- the lists of calls
abbrev list_of : Extent → Entries → ProcDef → List ℕ
list_of n g c = calls n (body_of g (plain_process c.body))

table_lists : (n : Extent) (g : Entries) (cs : List ProcDef) → call_table n (table_of g (map plain_definition cs)) ≡ map (list_of n g) cs
table_lists n g [] = refl
table_lists n g (c ∷ cs) = ap (λ r. list_of n g c ∷ r) (table_lists n g cs)

pub lists_more : (n : Extent) (ds : List ProcDef) (k : ℕ) (d : ProcDef) (ls ms : Vec (Vec ℕ Global) Global) (v : Vec ℕ Global) → k < length ds → d ≡ get_or ds k d → AreCallLists n (take k ds) ls
    → ((g : Entries) → v.items ≡ calls n (body_of g (plain_process d.body))) → ms.items ≡ ls.items ++ v ∷ [] → AreCallLists n (take (k + 1) ds) ms
lists_more n ds k d ls ms v l e h i f = record {
  lists_are = λ g.
      ap (map (λ (w : Vec ℕ Global). w.items)) f ∙ (map-append (λ (w : Vec ℕ Global). w.items) ls.items (v ∷ [])
      ∙ ((λ j. (h.lists_are g ∙ table_lists n g (take k ds)) j ++ i g j ∷ [])
      ∙ ((λ j. map (list_of n g) (take k ds) ++ list_of n g (e j) ∷ [])
      ∙ (sym (map-append (list_of n g) (take k ds) (get_or ds k d ∷ []))
      ∙ (ap (map (list_of n g)) (sym (take_more ds k d l)) ∙ sym (table_lists n g (take (k + 1) ds)))))));
}

any_entries : Entries
any_entries = record { texts = []; actions = []; variables = []; terms = [] }

-- ---- the graph of a model
module _ (m : PlainModel) (declared : HasDeclaredCalls m) where
  abbrev pub table : Entries → Table
  table g = table_of g m.definitions

  size_is : (n : Extent) (edges : List (Vec ℕ Global)) → ((g : Entries) → map (λ (v : Vec ℕ Global). v.items) edges ≡ call_table n (table g)) → length edges ≡ length m.definitions
  size_is n edges are = same_size n (table any_entries) edges (are any_entries) ∙ length-map m.definitions (definition_of any_entries)

  pub is_graph : (n : Extent) (edges : List (Vec ℕ Global)) → ((g : Entries) → map (λ (v : Vec ℕ Global). v.items) edges ≡ call_table n (table g)) → IsGraph edges
  is_graph n edges are a b edge =
      let d : Table = table any_entries in
      subst (λ k. b < k) (sym (same_size n d edges (are any_entries))) ((declared any_entries).bodies a b (link_is_call n d a b (edge_to_call n d edges (are any_entries) a b edge)))

  pub starts_within : (start : List ℕ) (edges : List (Vec ℕ Global)) → ((g : Entries) → map (λ (v : Vec ℕ Global). v.items) edges ≡ call_table Everywhere (table g)) → ((g : Entries) → start ≡ calls Everywhere (body_of g m.init)) → (a : ℕ) → Contains start a → a < length edges
  starts_within start edges are starts a h =
      subst (λ k. a < k) (sym (same_size Everywhere (table any_entries) edges (are any_entries))) ((declared any_entries).start a (subst (λ l. Contains l a) (starts any_entries) h))

  reached_of : (g : Entries) (start : List ℕ) (edges : List (Vec ℕ Global)) → map (λ (v : Vec ℕ Global). v.items) edges ≡ call_table Everywhere (table g) → start ≡ calls Everywhere (body_of g m.init) → (x : ℕ) → IsReached edges start x ↔ Reaches (table g) (body_of g m.init) x
  reached_of g start edges are starts x = (
    λ h. ⊎_elim (λ i. inl (subst (λ l. Contains l x) starts i)) (λ i. inr (i.0, subst (λ l. Contains l i.0) starts i.2, (i.1, path_map (HasEdge edges) (Calls Everywhere (table g)) (edge_to_call Everywhere (table g) edges are) i.0 i.1 x i.3))) h,
    λ h. ⊎_elim (λ i. inl (subst (λ l. Contains l x) (sym starts) i)) (λ i. inr (i.0, i.2.0, subst (λ l. Contains l i.0) (sym starts) i.1, path_map (Calls Everywhere (table g)) (HasEdge edges) (call_to_edge Everywhere (table g) edges are) i.0 i.2.0 x i.2.1)) h,
  )

  pub is_call_graph : (n : Extent) (all edges : List (Vec ℕ Global)) (start : List ℕ) (reached : List Bool) → ((g : Entries) → map (λ (v : Vec ℕ Global). v.items) all ≡ call_table Everywhere (table g)) → ((g : Entries) → map (λ (v : Vec ℕ Global). v.items) edges ≡ call_table n (table g))
      → ((g : Entries) → start ≡ calls Everywhere (body_of g m.init)) → AreReached all start reached → IsCallGraph n m edges reached
  is_call_graph n all edges start reached are are' starts so = record {
    size = size_is n edges are';
    marks = so.size ∙ (size_is Everywhere all are ∙ sym (size_is n edges are'));
    graph = is_graph n edges are';
    edges_are = λ g x y. (edge_to_call n (table g) edges (are' g) x y, call_to_edge n (table g) edges (are' g) x y);
    reached_are = λ g x. (λ marked. (reached_of g start all (are g) (starts g) x).0 ((so.exact x).0 marked), λ r. (so.exact x).1 ((reached_of g start all (are g) (starts g) x).1 r));
  }

-- ---- the test of declared calls
pub calls_declared : (m : PlainModel) (edges : List (Vec ℕ Global)) (start : List ℕ) → ((g : Entries) → map (λ (v : Vec ℕ Global). v.items) edges ≡ call_table Everywhere (table_of g m.definitions)) → ((g : Entries) → start ≡ calls Everywhere (body_of g m.init))
    → IsGraph edges → ((a : ℕ) → Contains start a → a < length edges) → HasDeclaredCalls m
calls_declared m edges start are starts graph within g = record {
  start = λ x called. subst (λ k. x < k) (same_size Everywhere (table_of g m.definitions) edges (are g)) (within x (subst (λ l. Contains l x) (sym (starts g)) called));
  bodies = λ x y link. subst (λ k. y < k) (same_size Everywhere (table_of g m.definitions) edges (are g)) (graph x y (call_to_edge Everywhere (table_of g m.definitions) edges (are g) x y link));
}

pub not_told : (b : Bool) → b ≡ false → b ≡ true → ⊥
not_told true e f = cc
not_told false e f = cc
