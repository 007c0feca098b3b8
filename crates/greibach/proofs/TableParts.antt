-- The table of places grows by one body after another.
use Rattle.std.proofs.Common.{◌≡◌, ℕ, List, [], ◌∷◌, ◌++◌, length, Option, None, Some, sym, subst}
use Rattle.std.specs.Prelude.{MatchOption, slice_get}
use Rattle.data_theory.specs.declared.ids.ProcId.{ProcId}
use Rattle.data_theory.specs.Complete.{BeginsWith}
use Rattle.data_theory.specs.IdTrees.{Tree}
use Rattle.process_terms.specs.PlainProcesses.{PlainDefinition, PlainComponent, call_of, term_of}
use Rattle.greibach.specs.PlacesInCode.{PlainPlace, PlainEntry, PlainPlaces}
use Rattle.greibach.specs.Readings.{HasBegun}
use Rattle.greibach.specs.TablesRead.{ReadsWhole, ReadsTable, reads_called, reads_own, reads_entry, Begins, StartsFirst}

pub table_begins : (ts : List Tree) (ds : List PlainDefinition) (c : PlainComponent) (ps : List PlainPlace) (rs : List ProcId) (own : Option ℕ) (first : ℕ) → Begins ts c ps rs own → MatchOption own (Unit {0}) (λ n. first ≡ n) → ReadsTable ts ds c ps rs [] first
table_begins ts ds (call_of x ids) ps rs own first h fits = subst (λ l. ReadsTable ts ds (call_of x ids) l rs [] first) (sym h.1) (reads_called h.2 h.3 first)
table_begins ts ds (term_of p) ps rs own first h fits =
    let same : first ≡ h.0 = subst (λ o. MatchOption o (Unit {0}) (λ n. first ≡ n)) h.1 fits in
    subst (ReadsTable ts ds (term_of p) ps rs []) (sym same) (reads_own h.0 h.2)

pub table_more : (ts : List Tree) (ds : List PlainDefinition) (c : PlainComponent) (ps us : List PlainPlace) (rs ss : List ProcId) (es fs : List PlainEntry) (first : ℕ) (x : ProcId) (d : PlainDefinition) (e : PlainEntry) → ReadsTable ts ds c ps rs es first → slice_get rs (length es) ≡ Some x → slice_get ds x.0 ≡ Some d
    → BeginsWith ps us → BeginsWith rs ss → ReadsWhole ts ps us rs ss d.params d.body e.place → e.process ≡ x → e.params ≡ d.params → fs ≡ es ++ e ∷ [] → ReadsTable ts ds c us ss fs first
table_more ts ds c ps us rs ss es fs first x d e h at stands b r w process params is =
    let same : record { process = x; place = e.place; params = d.params } ≡ e = λ i. record { process = sym process i; place = e.place; params = sym params i } in
    subst (λ l. ReadsTable ts ds c us ss l first) (sym is) (subst (λ z. ReadsTable ts ds c us ss (es ++ z ∷ []) first) same (reads_entry x d e.place h at stands b r w))

pub own_fits : (A : Type 0) (own : Option ℕ) (first : ℕ) → MatchOption own A (λ n. first ≡ n) → MatchOption own (Unit {0}) (λ n. first ≡ n)
own_fits A None first h = tt
own_fits A (Some n) first h = h

pub starts_first : (c : PlainComponent) (t : PlainPlaces) (ps : List PlainPlace) (reached : List ProcId) (own : Option ℕ) → HasBegun ps reached c own → MatchOption own ((e : PlainEntry) → slice_get t.entries 0 ≡ Some e → t.start ≡ e.place) (λ n. t.start ≡ n) → StartsFirst c t
starts_first (call_of x ids) t ps reached own h m = subst (λ o. MatchOption o ((e : PlainEntry) → slice_get t.entries 0 ≡ Some e → t.start ≡ e.place) (λ n. t.start ≡ n)) h.0 m
starts_first (term_of p) t ps reached own h m = tt
