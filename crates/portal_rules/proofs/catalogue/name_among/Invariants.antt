use Rattle.portal_rules.proofs.Base.{◌≡◌, map, drop}
use Rattle.portal_rules.specs.inner.Offers.{name_of}
use Rattle.portal_rules.proofs.catalogue.name_among.Given as goal

abbrev pub invariant-loop-lecturer : goal.invariant-loop-lecturer
invariant-loop-lecturer g l = name_of (map g.L.HasLecturerRow.row_of (drop l.lecturer-index l.lecturers)) l.key
    ≡ name_of (map g.L.HasLecturerRow.row_of l.lecturers) l.key
