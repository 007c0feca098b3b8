-- The name of the process stays as the signature grows.
use Rattle.std.proofs.Common.{◌≡◌, codes, sym, subst}
use Rattle.std.specs.Prelude.{Contains}
use Rattle.std.proofs.lemmas.List.Elements.{Contains-append_left}
use Rattle.data_theory.specs.declared.ids.NameId.{NameId}
use Rattle.data_theory.specs.Names.{place_in, with_text}
use Rattle.data_theory.specs.Signature.{Sig}
use Rattle.data_theory.specs.Fresh.{IsFreshIn}
use Rattle.data_theory.specs.IdTerms.{IsGrown}
use Rattle.data_theory.specs.WholeSignatures.{IsSignature}
use Rattle.data_theory.proofs.NameLemmas.{place_is}
use Rattle.term_pool.proofs.DeclaredConstants.{still_read}
use Rattle.lps_core.proofs.NamedSums.{with_name_has}
use Rattle.lps_core.proofs.NamingLoops.{fresh_names}
use Rattle.lin_driver.specs.ModelLinears.{IsProcessName}

pub process_name : (g a h : Sig) (x : NameId) → IsSignature g → IsFreshIn g (codes "P") x a → IsGrown a h → IsProcessName g h x
process_name g a h x s f w =
    let place : x ≡ place_in a.texts f.text = place_is a.texts f.text x.0 (fresh_names g a (codes "P") x s f).stands.table.different f.named in
    let has : Contains a.taken x = subst (λ z. Contains a.taken z) (sym place) (subst (λ (z : Sig). Contains z.taken (place_in z.texts f.text)) (sym f.taken) (with_name_has g.taken (place_in (with_text g.texts f.text) f.text))) in
    record {
      text = f.text;
      fresh = f.fresh;
      named = still_read a.texts h.texts w.new_texts w.texts x.0 f.text f.named;
      taken = subst (λ ns. Contains ns x) (sym w.taken) (Contains-append_left a.taken w.new_taken x has);
    }

pub name_stays : (g h k : Sig) (x : NameId) → IsProcessName g h x → IsGrown h k → IsProcessName g k x
name_stays g h k x n w = record {
  text = n.text;
  fresh = n.fresh;
  named = still_read h.texts k.texts w.new_texts w.texts x.0 n.text n.named;
  taken = subst (λ ns. Contains ns x) (sym w.taken) (Contains-append_left h.taken w.new_taken x n.taken);
}
