use Rattle.portal_rules.proofs.Base.{◌≡◌, take, drop, first_wrong, wrong_choice, choice_fault, texts_of}
use Rattle.portal_deciding.proofs.lists.checked_choices.Given as goal

-- the keys so far are those texts, and the rest has the fault of the whole
abbrev pub invariant-loop-text : goal.invariant-loop-text
invariant-loop-text l = record {
  keys : l.keys.items ≡ texts_of (take l.text-index l.list);
  rest : first_wrong (wrong_choice l.catalogue) l.keys.items (texts_of (drop l.text-index l.list))
      ≡ choice_fault l.catalogue (texts_of l.list);
}
