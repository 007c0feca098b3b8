use Rattle.std.proofs.Common.{refl}
use Rattle.process_terms.proofs.meanings.worked_meanings.Goals as goal

pub returns : goal.returns
returns c = record { chains = λ g p q r. (refl, refl, refl); short_chains = λ g p. (refl, refl, refl, refl, refl); sums = λ g x y p. refl; tau = λ g. refl }
