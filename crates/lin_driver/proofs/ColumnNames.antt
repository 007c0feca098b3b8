-- The parameters of an encoding have names of their own.
use Rattle.std.proofs.Common.{◌<◌, length, sym, subst}
use Rattle.data_theory.specs.Signature.{Sig}
use Rattle.data_theory.specs.WholeSignatures.{IsSignature}
use Rattle.term_pool.specs.Pools.{PoolContents}
use Rattle.lps_core.specs.PlainLinears.{PlainLinear}
use Rattle.lps_core.specs.Naming.{ParamsHaveOwnNames}
use Rattle.greibach.specs.FittingForms.{FormFits}
use Rattle.greibach.specs.PlainForms.{PlainForm}
use Rattle.regular_encoder.specs.EncodedForms.{IsEncodedForm}
use Rattle.regular_encoder.proofs.LaidOutForms.{what_is_laid_out_serves}

pub encoding_has_own_names : (d e : Sig) (p q : PoolContents) (f : PlainForm) (made : PlainLinear) → IsSignature d → IsSignature e → FormFits d p.trees f → length f.equations < 340282366920938463463374607431768211456
    → IsEncodedForm d p e q f made → ParamsHaveOwnNames e made.params
encoding_has_own_names d e p q f made sd se fits few k =
    let served = what_is_laid_out_serves d e p k.between f k.layout k.firsts sd se fits few k.columns in
    subst (ParamsHaveOwnNames e) (sym k.params) served.2
