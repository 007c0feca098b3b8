use Rattle.std.proofs.Common.{◌≡◌, ◌∙◌, ap, sym, subst, rules}
use Rattle.data_theory.specs.SortNames.{IsName}
use Rattle.data_theory.specs.Taken.{with_name}
use Rattle.data_theory.specs.SignatureView.{sig_of}
use Rattle.data_theory.specs.WholeSignatures.{IsSignature}
use Rattle.data_theory.specs.Signature.{Sig, with_sort}
use Rattle.data_theory.proofs.CompleteLemmas.{sort_rows_fit, sort_added}
use Rattle.data_theory.proofs.WholeSignatureLemmas.{signature_as, sort_stands}
use Rattle.data_theory.proofs.signature.Signature.add_sort.Goals as goal
use Rattle.data_theory.proofs.signature.Signature.add_sort.Goals.{After-insert}

pub add_rows-requires : goal.add_rows-requires
add_rows-requires c =
    let fit = sort_rows_fit (sig_of c.self.inside) c.self.invariant.complete c.len.result c.len.ensures c.sort_rows-rows.result c.sort_rows-rows.ensures in
    record { named = fit.0; new = fit.1 }

pub declare_sort-requires : goal.declare_sort-requires
declare_sort-requires c = subst (λ (s : Sig). IsName s.sort_names c.args.name → ⊥) (sym c.self.view_is) c.requires.absent

-- the fields as they are behind the call
added : (c : After-insert) → record (sig_of c.self.inside) { sorts = c.declare_sort.new.sorts; sort_names = c.declare_sort.new.names; functions = c.add_rows.new.functions; taken = c.insert.new.self.keys } ≡ with_sort c.args.self.now c.args.name
added c =
    let taken : c.insert.new.self.keys ≡ with_name c.self.inside.taken.keys c.args.name = search rules in
    sort_added (sig_of c.self.inside) c.args.name c.len.result c.sort_rows-rows.result c.in-Ok.sort c.declare_sort.new.sorts c.declare_sort.new.names c.add_rows.new.functions c.insert.new.self.keys c.len.ensures c.sort_rows-rows.ensures c.in-Ok.ensures.number
    c.in-Ok.ensures.sort c.in-Ok.ensures.named c.in_ok-add_rows.ensures.added taken
    ∙ ap (λ s. with_sort s c.args.name) c.self.view_is

pub invariant_of-self-2 : goal.invariant_of-self-2
invariant_of-self-2 c = signature_as (with_sort c.args.self.now c.args.name) _ (sort_stands c.args.self.now c.args.name (subst IsSignature c.self.view_is c.self.invariant) c.requires.name c.requires.absent) (added c)

pub returns-clause-added : goal.returns-clause-added
returns-clause-added c = added c
