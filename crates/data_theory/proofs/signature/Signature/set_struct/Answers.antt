use Rattle.std.proofs.Common.{◌∙◌, List, ap, sym, subst, arith, length}
use Rattle.std.proofs.lemmas.List.{length-map}
use Rattle.data_theory.specs.Functions.{AreNew}
use Rattle.data_theory.specs.Structs.{Con, con_of, cons_of, struct_functions}
use Rattle.data_theory.specs.SignatureView.{sig_of}
use Rattle.data_theory.specs.WholeSignatures.{IsSignature}
use Rattle.data_theory.specs.Signature.{Sig, with_struct}
use Rattle.data_theory.proofs.WholeSignatureLemmas.{signature_as, struct_stands}
use Rattle.data_theory.proofs.StructWithin.{struct_is_new, struct_added}
use Rattle.data_theory.proofs.signature.Signature.set_struct.Goals as goal

pub declare-requires : goal.declare-requires
declare-requires c =
    struct_is_new c.self.inside.functions c.reserve.new.self c.struct_entries.new.functions c.args.sort (cons_of c.args.cons.items) _ _ c.in_ok-reserve.ensures.kept c.in_ok-entries.ensures.kept (ap cons_of c.as_slice.ensures.value) c.in_ok-entries.ensures.entries
    (subst (λ (s : Sig). AreNew s.functions (struct_functions c.args.sort (length s.functions) (cons_of c.args.cons.items))) (sym c.self.view_is) c.requires.new)

pub invariant_of-self-2 : goal.invariant_of-self-2
invariant_of-self-2 c =
    let cs : List Con = cons_of c.args.cons.items in
    signature_as (with_struct c.args.self.now c.args.sort cs) _ (struct_stands c.args.self.now c.args.sort cs (subst IsSignature c.self.view_is c.self.invariant) c.requires.bare c.requires.within c.requires.new)
    (struct_added (sig_of c.self.inside) c.args.sort cs _ c.len-2.result c.len-3.result c.in_ok-numbers.numbers.items c.reserve.new.self c.struct_entries.new.functions c.declare.new.functions _ c.set_kind.new.self c.declare.new.declared.items c.declare.new.taken.keys
    c.in_ok-reserve.ensures.kept c.in_ok-entries.ensures.kept (ap cons_of c.as_slice.ensures.value) c.in_ok-entries.ensures.entries c.in_ok-declare.ensures.functions c.in_ok-declare.ensures.declared c.in_ok-declare.ensures.taken
    c.in_ok-numbers.ensures c.len-2.ensures (omega (arith, c.len-3.ensures, c.args.cons.ok.0, length-map c.args.cons.items con_of)) c.set_kind.ensures
    ∙ ap (λ s. with_struct s c.args.sort cs) c.self.view_is)
