use Rattle.std.proofs.Common.{◌≡◌, map, length, sym, ap, ◌∙◌, subst}
use Rattle.std.proofs.lemmas.List.{length-map}
use Rattle.std.proofs.lemmas.List.Elements.{All-weaker}
use Rattle.term_pool.specs.Pools.{Extends}
use Rattle.term_pool.proofs.DeclaredConstants.{grown_itself}
use Rattle.lps_core.specs.PlainLinears.{plain_summand}
use Rattle.lps_core.specs.TreeSummands.{trees_of_summand, IsSummandIn}
use Rattle.lps_core.proofs.KeptSummands.{summand_in_kept, summands_kept}
use Rattle.lps_core.proofs.PoolTrees.{extends_on, all_in_kept}
use Rattle.greibach.specs.PlainForms.{plain_equation, plain_form}
use Rattle.regular_encoder.specs.TreeEncoding.{plain_layout}
use Rattle.regular_encoder.specs.WholeEncoding.{trees_encoded_from}
use Rattle.regular_encoder.specs.EncodedForms.{AreEquationsFor}
use Rattle.regular_encoder.proofs.EncodedForms.{EncodingStands, encoded_long, encoded_along_pools, encoding_stands, laid_out_equations}
use Rattle.regular_encoder.proofs.EncodedPlainly.{stays_plain}
use Rattle.regular_encoder.proofs.KeptEquation.{one_equation_is_kept}
use Rattle.regular_encoder.proofs.linear.encode.Goals as goal

pub returns-in_err-check_tail-clause-grown : goal.returns-in_err-check_tail-clause-grown
returns-in_err-check_tail-clause-grown c = grown_itself c.args.sig.now

pub encode_equations-requires : goal.encode_equations-requires
encode_equations-requires c =
    subst (λ qs. AreEquationsFor c.lay_out.new.pool.trees (plain_layout c.in_ok-layout.layout) (map plain_equation qs)) (sym c.as_slice.ensures.value)
    (laid_out_equations c.args.sig.now c.lay_out.new.sig c.args.pool.now.trees c.lay_out.new.pool.trees (plain_form c.args.form.now) (plain_layout c.in_ok-layout.layout)
    c.signature_stands.ensures c.in_ok-layout.ensures.stands c.lay_out.ensures.grown c.lay_out.ensures.kept c.requires.form c.in_ok-layout.ensures.laid)

pub initial_terms-requires : goal.initial_terms-requires
initial_terms-requires c = all_in_kept c.lay_out.new.pool.trees c.encode_equations.new.pool.trees c.in_ok-layout.layout.firsts.items c.encode_equations.ensures.kept c.in_ok-layout.ensures.serves.terms.within

-- the summands over the last pool
kept : (c : goal.After-drop-layout-4) → Extends c.lay_out.new.pool.trees c.initial_terms.new.pool.trees
kept c = extends_on c.lay_out.new.pool.trees c.encode_equations.new.pool.trees c.initial_terms.new.pool.trees c.encode_equations.ensures.kept c.initial_terms.ensures.kept

summands : (c : goal.After-drop-layout-4) → map (trees_of_summand c.initial_terms.new.pool.trees) (map plain_summand c.in_ok-summands.summands.items) ≡ trees_encoded_from (plain_layout c.in_ok-layout.layout) 1 c.lay_out.new.pool.trees (map plain_equation c.args.form.now.equations.items)
summands c =
    summands_kept c.encode_equations.new.pool.trees c.initial_terms.new.pool.trees c.initial_terms.ensures.kept (map plain_summand c.in_ok-summands.summands.items) c.in_ok-summands.ensures.within
    ∙ c.in_ok-summands.ensures.summands ∙ ap (λ qs. trees_encoded_from (plain_layout c.in_ok-layout.layout) 1 c.lay_out.new.pool.trees (map plain_equation qs)) c.as_slice.ensures.value

stands : (c : goal.After-drop-layout-4) → EncodingStands c.lay_out.new.sig c.initial_terms.new.pool.trees (plain_form c.args.form.now) (plain_layout c.in_ok-layout.layout) c.in_ok-layout.layout.firsts.items
    (record { params = c.in_ok-params.params.items; init = c.in_ok-init.init.items; summands = map plain_summand c.in_ok-summands.summands.items })
stands c =
    encoding_stands c.args.sig.now c.lay_out.new.sig c.args.pool.now.trees c.lay_out.new.pool.trees c.initial_terms.new.pool.trees (plain_form c.args.form.now) (plain_layout c.in_ok-layout.layout) c.in_ok-layout.layout.firsts.items _
    c.signature_stands.ensures c.in_ok-layout.ensures.stands c.lay_out.ensures.grown c.lay_out.ensures.kept (kept c) c.requires.form c.in_ok-check_tail.ensures.tail c.in_ok-layout.ensures.laid c.in_ok-layout.ensures.serves
    c.in_ok-params.ensures c.in_ok-init.ensures.within c.in_ok-init.ensures.terms
    (All-weaker (IsSummandIn c.encode_equations.new.pool.trees) (IsSummandIn c.initial_terms.new.pool.trees) (summand_in_kept c.encode_equations.new.pool.trees c.initial_terms.new.pool.trees c.initial_terms.ensures.kept) (map plain_summand c.in_ok-summands.summands.items) c.in_ok-summands.ensures.within)
    (summands c)

pub returns-clause-encoded : goal.returns-clause-encoded
returns-clause-encoded c = record {
  layout = plain_layout c.in_ok-layout.layout;
  firsts = c.in_ok-layout.layout.firsts.items;
  between = c.lay_out.new.pool;
  columns = c.in_ok-layout.ensures.columns;
  kept = kept c;
  constants = c.initial_terms.ensures.constants ∙ c.encode_equations.ensures.constants;
  params = c.in_ok-params.ensures;
  init = c.in_ok-init.ensures.terms;
  summands = summands c
      ∙ encoded_along_pools c.args.sig.now c.lay_out.new.sig c.args.pool.now.trees c.lay_out.new.pool.trees (plain_form c.args.form.now) (plain_layout c.in_ok-layout.layout)
      c.signature_stands.ensures c.in_ok-layout.ensures.stands c.lay_out.ensures.grown c.lay_out.ensures.kept c.requires.form c.in_ok-layout.ensures.laid;
}

pub returns-clause-fits : goal.returns-clause-fits
returns-clause-fits c = (stands c).fits

pub returns-clause-bisimilar : goal.returns-clause-bisimilar
returns-clause-bisimilar c = (stands c).good

pub returns-clause-summands : goal.returns-clause-summands
returns-clause-summands c =
    sym (length-map (map plain_summand c.in_ok-summands.summands.items) (trees_of_summand c.initial_terms.new.pool.trees)) ∙ ap length (summands c)
    ∙ encoded_long (plain_layout c.in_ok-layout.layout) 1 c.lay_out.new.pool.trees (map plain_equation c.args.form.now.equations.items)

pub returns-clause-one_equation : goal.returns-clause-one_equation
returns-clause-one_equation c =
    one_equation_is_kept c.args.sig.now c.lay_out.new.sig c.args.pool.now c.initial_terms.new.pool (plain_form c.args.form.now) _ c.signature_stands.ensures c.in_ok-layout.ensures.stands c.requires.form (returns-clause-encoded c)

pub returns-clause-plain : goal.returns-clause-plain
unfolding returns-clause-encoded
returns-clause-plain c = stays_plain c.args.sig.now c.lay_out.new.sig c.args.pool.now c.initial_terms.new.pool (plain_form c.args.form.now) _ (returns-clause-encoded c) c.in_ok-layout.ensures.stands (stands c).means
