-- The names of a fault have texts.
use Rattle.std.proofs.Common.{◌≡◌, ◌≢◌, ◌<◌, ℕ, zero, suc, List, [], ◌∷◌, Some, map, length, slice_get, sym, ap, subst, ◌∙◌, arith, length-append}
use Rattle.std.specs.Prelude.{slice_index}
use Rattle.std.proofs.lemmas.Option.{none-some}
use Rattle.std.specs.List.{AllByRecursion}
use Rattle.data_theory.specs.declared.ids.NameId.{NameId}
use Rattle.data_theory.specs.Complete.{BeginsWith}
use Rattle.data_theory.specs.Signature.{Sig}
use Rattle.graphs.specs.Graphs.{IsPath}
use Rattle.graphs.specs.Cycles.{IsFirstCycle}
use Rattle.process_terms.specs.PlainProcesses.{PlainDefinition, PlainModel}
use Rattle.process_terms.specs.Processes.{Table}
use Rattle.process_terms.specs.Meanings.{Entries, table_of, body_of}
use Rattle.process_terms.specs.SignatureEntries.{entries_of}
use Rattle.guard_check.specs.declared.calls.Extent.{Extent}
use Rattle.guard_check.specs.declared.calls.Extent.TheVariants.{Everywhere, BeforeActions}
use Rattle.guard_check.specs.declared.checking.GuardFault.TheVariants as guard
use Rattle.guard_check.specs.Calls.{Calls, Leads, FromReached}
use Rattle.guard_check.specs.Guards.{AreNamesOf, AreOfFirstCycle}
use Rattle.proc_unfold.specs.declared.faults.NetFault.TheVariants as net
use Rattle.proc_unfold.specs.Parallel.{ParallelCalls}
use Rattle.sort_table.specs.declared.building.SortFault.TheVariants as sort
use Rattle.sort_table.specs.Vocabularies.{EachPair}
use Rattle.sort_checker.specs.FullVocabularies.{Written}
use Rattle.sort_checker.specs.TextModels.{IsNamedAs}
use Rattle.sort_checker.specs.declared.elaborating.TypeFault.TheVariants as type
use Rattle.lin_driver.specs.declared.fault.LinFault.{LinFault}
use Rattle.lin_driver.specs.declared.fault.LinFault.TheVariants as lin
use Rattle.lin_driver.specs.Refusals.{IsRefusedWith}
use Rattle.lin_refusals.specs.Lines.{AreNamed, names_of_fault}

within : {A : Type 0} (xs : List A) (i : ℕ) (x : A) → slice_get xs i ≡ Some x → i < length xs
within [] i x is = cc
within (y ∷ xs) zero x is = omega arith
within (y ∷ xs) (suc i) x is = let inside = within xs i x is in omega (arith, inside)

each_within : (texts : List (List ℕ)) (ids : List NameId) (ns : List (List ℕ)) → map (λ (i : NameId). slice_get texts i.0) ids ≡ map (λ n. Some n) ns → AreNamed texts ids
each_within texts [] ns are = tt
each_within texts (i ∷ ids) [] are = cc
each_within texts (i ∷ ids) (n ∷ ns) are = (within texts i.0 n cc, each_within texts ids ns cc)

named_by_texts : (texts its_texts : List (List ℕ)) (name : NameId) (x : List ℕ) → its_texts ≡ texts → slice_get its_texts name.0 ≡ Some x → name.0 < length texts
named_by_texts texts its_texts name x same is = within texts name.0 x (rw (sym same) is)

-- ---- the names of a cycle
-- each definition's name has a text
abbrev HasText : List (List ℕ) → PlainDefinition → Type 0
HasText texts d = d.name.0 < length texts

definitions_named : (g : Sig) (texts : List (List ℕ)) → BeginsWith g.texts texts → (ws : List (ℕ × Written)) (ds : List PlainDefinition) → EachPair (IsNamedAs g) ws ds → AllByRecursion (HasText texts) ds
definitions_named g texts begins [] [] all = tt
definitions_named g texts begins [] (d ∷ ds) all = absurd all
definitions_named g texts begins (w ∷ ws) [] all = absurd all
definitions_named g texts begins (w ∷ ws) (d ∷ ds) all =
    let inside = within g.texts d.name.0 w.1.name all.0.0 in
    let long = ap length begins.1 ∙ length-append g.texts begins.0 in
    (let l : d.name.0 < length texts = omega (arith, inside, long) in l, definitions_named g texts begins ws ds all.1)

-- what is called from there is a definition
called : (e : Entries) (ds : List PlainDefinition) (n : Extent) (x y : ℕ) → Calls n (table_of e ds) x y → x < length ds
called e [] n x y c = absurd (none-some c.0 c.1)
called e (d ∷ ds) n zero y c = omega arith
called e (d ∷ ds) n (suc x) y c = let inside = called e ds n x y c in omega (arith, inside)

-- each node of a path is one from which an edge goes
sources : (Edge : ℕ → ℕ → Type 0) (P : ℕ → Type 0) → ((x y : ℕ) → Edge x y → P x) → (a : ℕ) (xs : List ℕ) (b : ℕ) → IsPath Edge a xs b → AllByRecursion P (a ∷ xs)
sources Edge P w a [] b path = (w a b path, tt)
sources Edge P w a (x ∷ xs) b path = (w a x path.0, sources Edge P w x xs b path.1)

cycle_within : (Edge : ℕ → ℕ → Type 0) (P : ℕ → Type 0) → ((x y : ℕ) → Edge x y → P x) → (xs : List ℕ) → IsFirstCycle Edge xs → AllByRecursion P xs
cycle_within Edge P w [] first = absurd first
cycle_within Edge P w (x ∷ xs) first = sources Edge P w x xs x first.0.path

read_name : (texts : List (List ℕ)) (ds : List PlainDefinition) → AllByRecursion (HasText texts) ds → (x : ℕ) → x < length ds → slice_index (map (λ (d : PlainDefinition). d.name.0) ds) x < length texts
read_name texts [] all x l = absurd (omega (arith, l))
read_name texts (d ∷ ds) all zero l = all.0
read_name texts (d ∷ ds) all (suc x) l = read_name texts ds all.1 x (omega (arith, l))

names_read : (texts : List (List ℕ)) (ds : List PlainDefinition) → AllByRecursion (HasText texts) ds → (xs : List ℕ) (names : List NameId) → AllByRecursion (λ (x : ℕ). x < length ds) xs → AreNamesOf ds xs names → AreNamed texts names
names_read texts ds all xs [] inside are = tt
names_read texts ds all [] (n ∷ names) inside are = cc
names_read texts ds all (x ∷ xs) (n ∷ names) inside are =
    let first : n.0 ≡ slice_index (map (λ (d : PlainDefinition). d.name.0) ds) x = cc in
    let rest : AreNamesOf ds xs names = cc in
    (subst (λ (k : ℕ). k < length texts) (sym first) (read_name texts ds all x inside.0), names_read texts ds all xs names inside.1 rest)

cycle_named : (texts : List (List ℕ)) (g : Sig) (e : Entries) (m : PlainModel) (Link : Table → ℕ → ℕ → Type 0) (names : List NameId) → ((x y : ℕ) → Link (table_of e m.definitions) x y → x < length m.definitions) → AllByRecursion (HasText texts) m.definitions → AreOfFirstCycle m Link names → AreNamed texts names
cycle_named texts g e m Link names w all are =
    names_read texts m.definitions all are.cycle names (cycle_within (FromReached (table_of e m.definitions) (body_of e m.init) (Link (table_of e m.definitions))) (λ (x : ℕ). x < length m.definitions) (λ x y edge. w x y edge.1) are.cycle (are.first e)) are.named

pub are_named : (text : List ℕ) (texts : List (List ℕ)) (fault : LinFault) → (fault ≢ lin.NoMemory → IsRefusedWith text texts fault) → AreNamed texts (names_of_fault fault)
are_named text texts (lin.Lex fault) refused = tt
are_named text texts (lin.Parse fault) refused = tt
are_named text texts (lin.Sort (sort.UnknownSort number name)) refused = let has = (refused (λ is. cc)).has_fault.0 in (within texts name.0 has.0 has.1, tt)
are_named text texts (lin.Sort (sort.SortCycle names)) refused = let has = (refused (λ is. cc)).has_fault.0 in each_within texts names.items has.0 has.1
are_named text texts (lin.Sort (sort.Duplicate first second)) refused = tt
are_named text texts (lin.Sort (sort.EmptySort name)) refused = let has = (refused (λ is. cc)).has_fault.0 in (within texts name.0 has.0 has.1, tt)
are_named text texts (lin.Sort sort.NoMemory) refused = tt
are_named text texts (lin.«Type» (type.UnknownName number name)) refused = let has = (refused (λ is. cc)).has_fault.0 in (named_by_texts texts has.signature.texts name has.has_fault.0 has.names has.has_fault.1, tt)
are_named text texts (lin.«Type» (type.Untyped number)) refused = tt
are_named text texts (lin.«Type» (type.FreeVariable number name)) refused = let has = (refused (λ is. cc)).has_fault.0 in (named_by_texts texts has.signature.texts name has.has_fault.0 has.names has.has_fault.1, tt)
are_named text texts (lin.«Type» (type.VariableLeft number)) refused = tt
are_named text texts (lin.«Type» (type.CommShape number)) refused = tt
are_named text texts (lin.«Type» (type.RenameTwice number name)) refused = let has = (refused (λ is. cc)).has_fault.0 in (named_by_texts texts has.signature.texts name has.has_fault.0 has.names has.has_fault.1, tt)
are_named text texts (lin.«Type» type.NoMemory) refused = tt
are_named text texts (lin.Net (net.ParallelRecursion names)) refused =
    let has = (refused (λ is. cc)).has_fault in
    let e = entries_of has.signature has.pool.trees in
    cycle_named texts has.signature e has.model ParallelCalls names.items (λ x y link. called e has.model.definitions Everywhere x y link.0) (definitions_named has.signature texts has.names _ has.model.definitions has.is_model.named) has.has_fault.0
are_named text texts (lin.Net (net.ParallelUnderSequential number)) refused = tt
are_named text texts (lin.Net net.NoMemory) refused = tt
are_named text texts (lin.Guard (guard.Unguarded names)) refused =
    let has = (refused (λ is. cc)).has_fault in
    let e = entries_of has.signature has.pool.trees in
    cycle_named texts has.signature e has.model Leads names.items (λ x y link. called e has.model.definitions BeforeActions x y link) (definitions_named has.signature texts has.names _ has.model.definitions has.is_model.named) has.has_fault.1
are_named text texts (lin.Guard guard.NoMemory) refused = tt
are_named text texts (lin.NotTail component summand) refused = tt
are_named text texts (lin.TerminateDeclared declaration) refused = tt
are_named text texts lin.NoMemory refused = tt
