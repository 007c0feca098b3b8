use Rattle.number_rules.proofs.magnitudes.+power.Given as goal

abbrev pub decreases-power : goal.decreases-power
decreases-power l = l.exponent
