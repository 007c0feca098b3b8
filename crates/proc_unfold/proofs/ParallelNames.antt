-- Names that have or reach a parallel operator, and calls among them.
use Rattle.std.proofs.Common.{◌≡◌, ◌<◌, ◌≤◌, ◌+◌, ◌↔◌, inl, inr, Bool, ℕ, zero, suc, List, [], ◌∷◌, ◌++◌, map, length, get_or, refl, sym, ◌∙◌, subst, Some, arith, Vec}
use Rattle.std.specs.Prelude.{slice_get, slice_index}
use Rattle.std.specs.Global.{Global}
use Rattle.std.specs.List.{Contains}
use Rattle.std.proofs.lemmas.List.Elements.{Contains-append_left, Contains-append_right, Contains-append_cases}
use Rattle.graphs.specs.Graphs.{HasEdge, HasEdgeAmong, IsMarked, IsPath, IsReversed, IsReached, AreReached, AreRanks}
use Rattle.graphs.specs.Cycles.{IsFirstCycle}
use Rattle.graphs.proofs.Marks.{contains_last, only_one, same_or_not, marked_below}
use Rattle.graphs.proofs.Paths.{first_cycle_map, cycle_below}
use Rattle.graphs.proofs.Ranking.{path_map}
use Rattle.graphs.proofs.Searches.{path_on}
use Rattle.process_terms.specs.Processes.{Table}
use Rattle.process_terms.specs.declared.definitions.ProcDef.{ProcDef}
use Rattle.process_terms.specs.PlainProcesses.{PlainModel, plain_definition, plain_process}
use Rattle.process_terms.specs.Meanings.{Entries, table_of, body_of}
use Rattle.data_theory.specs.declared.ids.NameId.{NameId}
use Rattle.guard_check.specs.declared.calls.Extent.TheVariants.{Everywhere}
use Rattle.guard_check.specs.Calls.{Calls, By, Reaches, FromReached}
use Rattle.guard_check.specs.Guards.{FallAlong, AreNamesOf, AreOfFirstCycle}
use Rattle.guard_check.specs.CallGraphs.{IsCallGraph}
use Rattle.guard_check.proofs.GuardLemmas.{reaches_on}
use Rattle.proc_unfold.specs.Parallel.{HasParallel, HasParallelBody, IsParallelName, ParallelCalls}
use Rattle.proc_unfold.specs.ParallelTests.{has_parallel}
use Rattle.proc_unfold.specs.ParallelMarks.{AreParallelNames, MarksBoth}
use Rattle.proc_unfold.specs.Parallelism.{HasNoParallelRecursion, IsParallelismOf}
use Rattle.proc_unfold.proofs.ParallelLemmas.{parallel_tells, parallel_told}

-- ---- paths of a graph turned round
back_again : (edges back : List (Vec ℕ Global)) → IsReversed edges back → IsReversed back edges
back_again edges back turned = record { size = sym turned.size; exact = λ a b. ((turned.exact b a).1, (turned.exact b a).0) }

path_back : (edges back : List (Vec ℕ Global)) → IsReversed edges back → (a : ℕ) (xs : List ℕ) (b : ℕ) → IsPath (HasEdge back) a xs b → By (HasEdge edges) b a
path_back edges back turned a [] b edge = ([], (turned.exact b a).0 edge)
path_back edges back turned a (x ∷ xs) b path =
    let rest = path_back edges back turned x xs b path.1 in
    (rest.0 ++ x ∷ [], path_on (HasEdge edges) b rest.0 x a rest.1 ((turned.exact x a).0 path.0))

-- ---- definitions with a parallel operator
abbrev pub body_marks : List ProcDef → List Bool
body_marks ds = map (λ (d : ProcDef). has_parallel (plain_process d.body)) ds

marked_body : (g : Entries) (ds : List ProcDef) (x : ℕ) → IsMarked (body_marks ds) x → HasParallelBody (table_of g (map plain_definition ds)) x
marked_body g [] x marked = let no : ⊥ = cc in absurd no
marked_body g (d ∷ ds) zero marked = (_, refl, parallel_tells g (plain_process d.body) marked)
marked_body g (d ∷ ds) (suc x) marked = marked_body g ds x marked

body_marked : (g : Entries) (ds : List ProcDef) (x : ℕ) → HasParallelBody (table_of g (map plain_definition ds)) x → IsMarked (body_marks ds) x
body_marked g [] x has = let e : slice_get [] x ≡ Some has.0 = has.1 in let no : ⊥ = cc in absurd no
body_marked g (d ∷ ds) zero has =
    let same : Some (record { params = _; body = body_of g (plain_process d.body) }) ≡ Some has.0 = has.1 in
    let is : body_of g (plain_process d.body) ≡ has.0.body = cc in
    parallel_told g (plain_process d.body) (subst HasParallel (sym is) has.2)
body_marked g (d ∷ ds) (suc x) has = body_marked g ds x has

-- ---- the parallel names
module _ (ds : List ProcDef) (m : PlainModel) (same : m.definitions ≡ map plain_definition ds) (edges back : List (Vec ℕ Global)) (reached parallel : List Bool) (so : IsCallGraph Everywhere m edges reached) (turned : IsReversed edges back)
    (starts : List ℕ) (begins : (x : ℕ) → Contains starts x ↔ IsMarked (body_marks ds) x) (are : AreReached back starts parallel) where
  marked_parallel : (g : Entries) (x : ℕ) → IsReached back starts x → IsParallelName (table_of g m.definitions) x
  marked_parallel g x (inl stands) = inl (subst (λ c. HasParallelBody (table_of g c) x) (sym same) (marked_body g ds x ((begins x).0 stands)))
  marked_parallel g x (inr (a, xs, stands, path)) =
      let back_path = path_back edges back turned a xs x path in
      inr (a, (back_path.0, path_map (HasEdge edges) (Calls Everywhere (table_of g m.definitions)) (λ b c. (so.edges_are g b c).0) x back_path.0 a back_path.1), subst (λ c. HasParallelBody (table_of g c) a) (sym same) (marked_body g ds a ((begins a).0 stands)))

  parallel_marked : (g : Entries) (x : ℕ) → IsParallelName (table_of g m.definitions) x → IsReached back starts x
  parallel_marked g x (inl has) = inl ((begins x).1 (body_marked g ds x (subst (λ c. HasParallelBody (table_of g c) x) same has)))
  parallel_marked g x (inr (y, path, has)) =
      let edge_path : IsPath (HasEdge edges) x path.0 y = path_map (Calls Everywhere (table_of g m.definitions)) (HasEdge edges) (λ b c. (so.edges_are g b c).1) x path.0 y path.1 in
      let back_path = path_back back edges (back_again edges back turned) x path.0 y edge_path in
      inr (y, back_path.0, (begins y).1 (body_marked g ds y (subst (λ c. HasParallelBody (table_of g c) y) same has)), back_path.1)

  pub are_parallel_names : AreParallelNames m parallel
  are_parallel_names = record {
    size = are.size ∙ (turned.size ∙ so.size);
    exact = λ g x. (λ marked. marked_parallel g x ((are.exact x).0 marked), λ is. (are.exact x).1 (parallel_marked g x is));
  }

-- ---- calls among the reached parallel names
called_parallel : (d : Table) (x y : ℕ) → Calls Everywhere d x y → IsParallelName d y → IsParallelName d x
called_parallel d x y link (inl has) = inr (y, ([], link), has)
called_parallel d x y link (inr (z, path, has)) = inr (z, (y ∷ path.0, (link, path.1)), has)

path_parallel : (d : Table) (x : ℕ) (xs : List ℕ) (y : ℕ) → IsPath (Calls Everywhere d) x xs y → IsParallelName d y → IsPath (ParallelCalls d) x xs y × IsParallelName d x
path_parallel d x [] y link is = ((link, called_parallel d x y link is, is), called_parallel d x y link is)
path_parallel d x (z ∷ xs) y path is =
    let rest = path_parallel d z xs y path.1 is in
    let here = called_parallel d x z path.0 rest.1 in
    (((path.0, here, rest.1), rest.0), here)

falls_on : (d : Table) (p : _) (ranks : List ℕ) → FallAlong d p (ParallelCalls d) ranks → (x : ℕ) (xs : List ℕ) (y : ℕ) → Reaches d p x → IsPath (ParallelCalls d) x xs y → get_or ranks y 0 < get_or ranks x 0
falls_on d p ranks f x [] y r h = f x y r h
falls_on d p ranks f x (z ∷ xs) y r h =
    let a : get_or ranks z 0 < get_or ranks x 0 = f x z r h.0 in
    let b : get_or ranks y 0 < get_or ranks z 0 = falls_on d p ranks f z xs y (reaches_on Everywhere d p x z r h.0.0) h.1 in
    omega (arith, a, b)

-- where numbers fall, no reached parallel name reaches itself
pub no_recursion : (d : Table) (p : _) (ranks : List ℕ) → FallAlong d p (ParallelCalls d) ranks → (x : ℕ) → Reaches d p x → IsParallelName d x → By (Calls Everywhere d) x x → ⊥
no_recursion d p ranks f x r is path =
    let a : get_or ranks x 0 < get_or ranks x 0 = falls_on d p ranks f x path.0 x r (path_parallel d x path.0 x path.1 is).0 in
    omega (arith, a)

module _ (m : PlainModel) (edges : List (Vec ℕ Global)) (reached parallel among : List Bool) (so : IsCallGraph Everywhere m edges reached) (are : AreParallelNames m parallel) (both : MarksBoth reached parallel (length reached) among) where
  edge_link : (g : Entries) (x y : ℕ) → HasEdgeAmong edges among x y → FromReached (table_of g m.definitions) (body_of g m.init) (ParallelCalls (table_of g m.definitions)) x y
  edge_link g x y edge =
      let at_x = (both.exact x).0 edge.0 in
      let at_y = (both.exact y).0 edge.2 in
      ((so.reached_are g x).0 at_x.1, ((so.edges_are g x y).0 edge.1, (are.exact g x).0 at_x.2, (are.exact g y).0 at_y.2))

  link_edge : (g : Entries) (x y : ℕ) → FromReached (table_of g m.definitions) (body_of g m.init) (ParallelCalls (table_of g m.definitions)) x y → HasEdgeAmong edges among x y
  link_edge g x y link =
      let at_x = (so.reached_are g x).1 link.0 in
      let at_y = (so.reached_are g y).1 (reaches_on Everywhere (table_of g m.definitions) (body_of g m.init) x y link.0 link.1.0) in
      ((both.exact x).1 (marked_below reached x at_x, at_x, (are.exact g x).1 link.1.1), (so.edges_are g x y).1 link.1.0, (both.exact y).1 (marked_below reached y at_y, at_y, (are.exact g y).1 link.1.2))

  pub has_no_recursion : (ranks : List ℕ) → AreRanks edges among ranks → HasNoParallelRecursion m ranks
  has_no_recursion ranks r = record { size = r.size ∙ so.size; falls = λ g x y h link. r.smaller x y (link_edge g x y (h, link)) }

  pub names_of_first : (cycle : List ℕ) (names : List NameId) → IsFirstCycle (HasEdgeAmong edges among) cycle → AreNamesOf m.definitions cycle names → AreOfFirstCycle m ParallelCalls names
  names_of_first cycle names first named = record { cycle = cycle; first = λ g. first_cycle_map _ _ (edge_link g) (link_edge g) cycle first; named = named }

  pub on_cycle : (cycle : List ℕ) → IsFirstCycle (HasEdgeAmong edges among) cycle → (x : ℕ) → Contains cycle x → x < length m.definitions
  on_cycle cycle first x stands = subst (λ k. x < k) so.size (cycle_below edges among cycle first x stands)

  pub parallelism_is : (ranks : List ℕ) → AreRanks edges among ranks → IsParallelismOf m reached parallel ranks
  parallelism_is ranks r = record { sizes = (so.marks ∙ so.size, are.size); reached_are = so.reached_are; parallel_are = are.exact; no_recursion = has_no_recursion ranks r; ranks_below = λ x l. subst (λ n. slice_index ranks x < n) so.size (r.below x (subst (λ n. x < n) (sym so.size) l)) }

-- ---- the places of marks
pub places_more : (marks : List Bool) (k : ℕ) (places places' : List ℕ) → ((x : ℕ) → Contains places x ↔ ((x < k) × IsMarked marks x)) → IsMarked marks k → places' ≡ places ++ k ∷ [] → (x : ℕ) → Contains places' x ↔ ((x < k + 1) × IsMarked marks x)
places_more marks k places places' so marked push_is x = subst (λ (l : List ℕ). Contains l x ↔ ((x < k + 1) × IsMarked marks x)) (sym push_is) (
  λ stands. elim (Contains-append_cases places (k ∷ []) x stands) [
    | inl before ↦ let was = (so x).0 before in (omega (arith, was.0), was.1)
    | inr last ↦ let is : x ≡ k = only_one k x last in (omega arith, subst (IsMarked marks) (sym is) marked)
  ],
  λ both. elim (same_or_not x k) [
    | inl is ↦ Contains-append_right places (k ∷ []) x (subst (Contains (k ∷ [])) (sym is) (contains_last k))
    | inr differs ↦ Contains-append_left places (k ∷ []) x ((so x).1 (omega (arith, both.0), both.1))
  ],
)

pub places_same : (marks : List Bool) (k : ℕ) (places : List ℕ) → ((x : ℕ) → Contains places x ↔ ((x < k) × IsMarked marks x)) → (IsMarked marks k → ⊥) → (x : ℕ) → Contains places x ↔ ((x < k + 1) × IsMarked marks x)
places_same marks k places so unmarked x = (
  λ stands. let was = (so x).0 stands in (omega (arith, was.0), was.1),
  λ both. elim (same_or_not x k) [
    | inl is ↦ absurd (unmarked (subst (IsMarked marks) is both.1))
    | inr differs ↦ (so x).1 (omega (arith, both.0), both.1)
  ],
)

pub places_all : (marks : List Bool) (k : ℕ) (places : List ℕ) → length marks ≤ k → ((x : ℕ) → Contains places x ↔ ((x < k) × IsMarked marks x)) → (x : ℕ) → Contains places x ↔ IsMarked marks x
places_all marks k places all so x = (λ stands. ((so x).0 stands).1, λ marked. (so x).1 (let below = marked_below marks x marked in omega (arith, below, all), marked))
