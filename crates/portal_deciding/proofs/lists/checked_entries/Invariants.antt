use Rattle.portal_rules.proofs.Base.{◌≡◌, take, drop, [], first_wrong, wrong_rank, texts_of, HasTexts}
use Rattle.portal_deciding.proofs.lists.checked_entries.Given as goal

-- the keys so far are those texts, and the rest has the fault of the whole
abbrev pub invariant-loop-text : goal.invariant-loop-text
invariant-loop-text l = record {
  keys : l.keys.items ≡ texts_of (take l.text-index l.list);
  texts : HasTexts l.keys.items l.texts;
  rest : first_wrong (wrong_rank l.applicants) l.keys.items (texts_of (drop l.text-index l.list))
      ≡ first_wrong (wrong_rank l.applicants) [] (texts_of l.list);
}
