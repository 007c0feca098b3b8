use Rattle.std.proofs.Common.{◌≡◌, ◌≤◌, ℕ, Some, ◌∙◌, ap, sym, subst, arith, length}
use Rattle.std.specs.Prelude.{slice_get}
use Rattle.data_theory.specs.Sorts.{SortInfo, IsBare, IsListKind}
use Rattle.data_theory.specs.Structs.{cons_of}
use Rattle.data_theory.specs.SignatureView.{sig_of}
use Rattle.data_theory.specs.WholeSignatures.{IsSignature}
use Rattle.data_theory.specs.Signature.{Sig, with_sort}
use Rattle.data_theory.proofs.ListSortLemmas.{abstract_is_no_list, abstract_is_bare}
use Rattle.data_theory.proofs.WholeSignatureLemmas.{signature_as}
use Rattle.data_theory.proofs.StructWithin.{new_there, struct_sort_added, sort_forgotten, if_err, if_not_err}
use Rattle.data_theory.proofs.signature.Signature.add_struct.Goals as goal
use Rattle.data_theory.proofs.signature.Signature.add_struct.Goals.{After-truncate-then-is_err-3}

pub set_struct-requires-clause-bare : goal.set_struct-requires-clause-bare
set_struct-requires-clause-bare c =
    subst (λ (s : Sig). IsBare s.sorts c.in_ok-sort.sort) (sym c.in_ok-sort.ensures.added) (abstract_is_bare c.args.self.now.sorts c.args.name c.in_ok-sort.sort c.in_ok-sort.ensures.number)

pub set_struct-requires-clause-new : goal.set_struct-requires-clause-new
set_struct-requires-clause-new c = new_there c.args.self.now c.add_sort.new.self c.args.name c.in_ok-sort.sort (cons_of c.args.cons.items) c.in_ok-sort.ensures.added c.in_ok-sort.ensures.number c.requires.new

pub truncate-requires-then-is_err : goal.truncate-requires-then-is_err
truncate-requires-then-is_err c =
    let now : sig_of c.self-2.inside ≡ with_sort c.args.self.now c.args.name = c.self-2.view_is ∙ if_err c.set_struct.result (sym c.is_err.ensures.value ∙ c.if-is_err.true) c.set_struct.ensures.unchanged ∙ c.in_ok-sort.ensures.added in
    let front : c.len-sorts.result ≡ length c.args.self.now.sorts = c.len-sorts.ensures ∙ ap (λ (s : Sig). length s.sorts) c.self.view_is in
    subst (λ (s : Sig). (i : ℕ) (k : SortInfo) → c.len-sorts.result ≤ i → slice_get s.sorts i ≡ Some k → IsListKind k.kind → ⊥) (sym now) (abstract_is_no_list c.args.self.now.sorts c.args.name c.len-sorts.result front)

-- the fields as they are when the sort has gone again
forgotten : (c : After-truncate-then-is_err-3) → record (sig_of c.self-2.inside) { functions = c.truncate.new.self; sorts = c.truncate-then-is_err.new.self; sort_names = c.truncate-then-is_err-2.new.self; taken = c.truncate-then-is_err-3.new.self.keys } ≡ c.args.self.now
forgotten c =
    let now : sig_of c.self-2.inside ≡ with_sort c.args.self.now c.args.name = c.self-2.view_is ∙ if_err c.set_struct.result (sym c.is_err.ensures.value ∙ c.if-is_err.true) c.set_struct.ensures.unchanged ∙ c.in_ok-sort.ensures.added in
    let names : length c.self.inside.taken.keys ≡ length c.args.self.now.taken = ap (λ (s : Sig). length s.taken) c.self.view_is in
    sort_forgotten c.args.self.now (sig_of c.self-2.inside) c.args.name c.len-functions.result c.len-sorts.result c.len-names.result c.len-taken.result c.truncate.new.self c.truncate-then-is_err.new.self c.truncate-then-is_err-2.new.self c.truncate-then-is_err-3.new.self.keys now
    (c.len-functions.ensures ∙ ap (λ (s : Sig). length s.functions) c.self.view_is) (c.len-sorts.ensures ∙ ap (λ (s : Sig). length s.sorts) c.self.view_is) (c.len-names.ensures ∙ ap (λ (s : Sig). length s.sort_names) c.self.view_is) (omega (arith, c.len-taken.ensures.len, names))
    c.truncate.ensures c.truncate-then-is_err.ensures c.truncate-then-is_err-2.ensures c.truncate-then-is_err-3.ensures.keys

pub invariant_of-self : goal.invariant_of-self
invariant_of-self c = signature_as c.args.self.now _ (subst IsSignature c.self.view_is c.self.invariant) (forgotten c)

pub returns-then-is_err-clause-unchanged : goal.returns-then-is_err-clause-unchanged
returns-then-is_err-clause-unchanged c = forgotten c

pub returns-clause-added : goal.returns-clause-added
returns-clause-added c =
    struct_sort_added c.args.self.now c.add_sort.new.self c.set_struct.new.self c.args.name c.in_ok-sort.sort (cons_of c.args.cons.items) c.in_ok-sort.ensures.added c.in_ok-sort.ensures.number
    (if_not_err c.set_struct.result (sym c.is_err.ensures.value ∙ c.if-is_err.false) c.set_struct.ensures.set)
