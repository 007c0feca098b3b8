use Rattle.lin_driver.specs.declared.ending.Ending.TheVariants.{End}
use Rattle.lin_driver.proofs.ReadTexts.{linear_text_that_may_end, linearised_text, made_of_text}
use Rattle.lin_driver.proofs.linearising.linearise.Goals as goal

pub returns-clause-linear : goal.returns-clause-linear
returns-clause-linear c = linear_text_that_may_end c.may_end.result c.args.method c.args.text.now c.may_end.ensures.parsed c.may_end.ensures.made

pub returns-clause-made : goal.returns-clause-made
returns-clause-made c = made_of_text End c.args.method c.may_end.result c.args.text.now (linear_text_that_may_end c.may_end.result c.args.method c.args.text.now c.may_end.ensures.parsed c.may_end.ensures.made)

pub returns-clause-linearised : goal.returns-clause-linearised
returns-clause-linearised c = linearised_text End c.args.method c.may_end.result c.args.text.now (linear_text_that_may_end c.may_end.result c.args.method c.args.text.now c.may_end.ensures.parsed c.may_end.ensures.made)

pub returns-clause-by : goal.returns-clause-by
returns-clause-by c = c.may_end.ensures.by End
