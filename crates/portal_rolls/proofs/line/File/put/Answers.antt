use Rattle.portal_rolls.proofs.Base.{rules, append-nil}
use Rattle.std.proofs.lemmas.List.Elements.{filter_map-append}
use Rattle.portal_rolls.proofs.line.File.put.Goals as goal

pub returns-in_ok-push-in-Lecturer-clause-ok : goal.returns-in_ok-push-in-Lecturer-clause-ok
returns-in_ok-push-in-Lecturer-clause-ok c lines e = search (rules, filter_map-append, append-nil)

pub returns-in_ok-push-in-Project-clause-ok : goal.returns-in_ok-push-in-Project-clause-ok
returns-in_ok-push-in-Project-clause-ok c lines e = search (rules, filter_map-append, append-nil)

pub returns-in_ok-push-in-Student-clause-ok : goal.returns-in_ok-push-in-Student-clause-ok
returns-in_ok-push-in-Student-clause-ok c lines e = search (rules, filter_map-append, append-nil)

pub returns-in_ok-push-in-Pair-clause-ok : goal.returns-in_ok-push-in-Pair-clause-ok
returns-in_ok-push-in-Pair-clause-ok c lines e = search (rules, filter_map-append, append-nil)
