use Rattle.std.proofs.Common.{◌-◌, length, get_or, take, drop}
use Rattle.std.proofs.lemmas.Result.{on_ok_weaker}
use Rattle.lps_printer.proofs.CodeSummands.{parted}
use Rattle.lps_printer.proofs.AddedSections.{struct_added}
use Rattle.lps_printer.proofs.added_structs.push_struct.Goals as goal

pub returns : goal.returns
returns c =
    let fs = c.args.constructors.now in
    on_ok_weaker c.push_further_constructors.result (λ p n k. struct_added c.args.sig.now n c.args.sort (get_or fs 0 (record { 0 = 0 })) fs (take (length fs - 1) (drop 1 fs)) (parted fs (record { 0 = 0 }) c.requires.some)
    (c.in_ok-push_sort_name.ensures n k) c.in_ok-push_token.ensures c.in_ok-push_token-2.ensures (c.in_ok-push_constructor.ensures n k) (p n k)) c.push_further_constructors.ensures
