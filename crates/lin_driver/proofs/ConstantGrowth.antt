-- What the regular encoder adds to a signature are names, variables and constants.
use Rattle.std.proofs.Common.{ℕ, List, codes, Option}
use Rattle.data_theory.specs.declared.ids.NameId.{NameId}
use Rattle.data_theory.specs.declared.ids.SortId.{SortId}
use Rattle.data_theory.specs.declared.ids.VarId.{VarId}
use Rattle.data_theory.specs.declared.ids.TermId.{TermId}
use Rattle.data_theory.specs.declared.signature.Variable.{Variable}
use Rattle.data_theory.specs.Signature.{Sig, with_variable}
use Rattle.data_theory.specs.Table.{pos_sort}
use Rattle.term_pool.specs.Pools.{PoolContents}
use Rattle.lps_core.specs.PlainLinears.{PlainLinear}
use Rattle.greibach.specs.PlainForms.{PlainForm}
use Rattle.regular_encoder.specs.EncodedForms.{IsEncodedForm}
use Rattle.regular_encoder.specs.FormColumns.{IsOwnName, the_name, a_new_name, IsColumn, a_column, AreColumns, no_column, one_more_column, IsControl, no_control, a_control, IsFirstTerm, an_argument, a_closed_term, AreFirstTerms, no_first_term, one_more_first_term}
use Rattle.lps_printer.proofs.GrowingByConstants.{GrowsOn, on_itself, on_fresh, on_variable, on_declared, on_then}

on_name : {IsOne : NameId → Type 0} {g h : Sig} {n m : NameId} → IsOwnName IsOne g n h m → GrowsOn g h
on_name {g = g} (the_name k) = on_itself g
on_name {g = g} (a_new_name {h = h} {base = base} {name = name} i at f) = on_fresh g h base name f

on_column : {IsOne : NameId → Type 0} {g h : Sig} {k : NameId × SortId} {c : VarId} → IsColumn IsOne g k h c → GrowsOn g h
on_column {g = g} {k = k} (a_column {h = h} {name = name} n) =
    let x : Variable = record { name = name; sort = k.1 } in
    on_then g h (with_variable h x) (on_name n) (on_variable h x)

pub on_columns : {g h : Sig} {ks : List (NameId × SortId)} {cs : List VarId} → AreColumns g ks h cs → GrowsOn g h
on_columns {g = g} no_column = on_itself g
on_columns {g = g} (one_more_column {h = h} {i = i} a k) = on_then g h i (on_columns a) (on_column k)

on_control : {g h : Sig} {n : ℕ} {c : Option VarId} → IsControl g n h c → GrowsOn g h
on_control {g = g} no_control = on_itself g
on_control {g = g} (a_control {h = h} {name = name} l f) =
    let x : Variable = record { name = name; sort = pos_sort } in
    on_then g h (with_variable h x) (on_fresh g h (codes "s") name f) (on_variable h x)

on_first : {place : List VarId} {args : List TermId} {g h : Sig} {p q : PoolContents} {c : VarId} {t : TermId} → IsFirstTerm place args g p c h q t → GrowsOn g h
on_first {g = g} (an_argument e) = on_itself g
on_first (a_closed_term e k) = on_declared k.declared

pub on_firsts : {place : List VarId} {args : List TermId} {g : Sig} {p : PoolContents} {cs : List VarId} {h : Sig} {q : PoolContents} {ts : List TermId} → AreFirstTerms place args g p cs h q ts → GrowsOn g h
on_firsts {g = g} no_first_term = on_itself g
on_firsts {g = g} (one_more_first_term {h = h} {i = i} a k) = on_then g h i (on_firsts a) (on_first k)

pub encoding_grows : (g h : Sig) (p q : PoolContents) (f : PlainForm) (l : PlainLinear) → IsEncodedForm g p h q f l → GrowsOn g h
encoding_grows g h p q f l e =
    let c = e.columns in
    on_then g c.with_control h (on_then g c.with_columns c.with_control (on_columns c.columns) (on_control c.control)) (on_firsts c.values)
