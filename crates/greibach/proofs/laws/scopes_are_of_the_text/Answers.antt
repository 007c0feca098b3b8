use Rattle.greibach.proofs.WhateverStands.{sequential_bodies, bound_once}
use Rattle.greibach.proofs.laws.scopes_are_of_the_text.Goals as goal

pub returns-clause-sequential : goal.returns-clause-sequential
returns-clause-sequential c = sequential_bodies

pub returns-clause-bound : goal.returns-clause-bound
returns-clause-bound c = bound_once
