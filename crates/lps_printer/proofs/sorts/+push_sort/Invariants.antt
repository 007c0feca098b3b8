use Rattle.lps_printer.proofs.sorts.+push_sort.Given as goal

abbrev pub decreases-push_sort : goal.decreases-push_sort
decreases-push_sort l = l.sort.0
