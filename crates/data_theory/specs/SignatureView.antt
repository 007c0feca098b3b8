-- A signature as the record of its tables.
use Rattle.data_theory.specs.declared.signature.Signature.TheInside.{Inside}
use Rattle.data_theory.specs.Signature.{Sig}

abbrev pub sig_of : Inside → Sig
sig_of s = record { texts = s.names; taken = s.taken.keys; sorts = s.sorts; sort_names = s.sort_names; functions = s.functions; declared = s.declared.items; actions = s.actions; variables = s.variables.items }
