use Rattle.portal_list.proofs.Base.{rules}
use Rattle.portal_list.proofs.Faultless.{only_memory}
use Rattle.portal_list.proofs.Exact.{none_before_memory, only_meant}
use Rattle.portal_list.proofs.instance.instance_among.Goals as goal

pub returns-in-Ok-clause-instance : goal.returns-in-Ok-clause-instance
returns-in-Ok-clause-instance c w has sound = let built = c.in-Ok.ensures.ok in search (rules, only_meant)

pub returns-in_default-clause-refused : goal.returns-in_default-clause-refused
returns-in_default-clause-refused c e w has sound ranked = search (rules, only_memory, none_before_memory)
