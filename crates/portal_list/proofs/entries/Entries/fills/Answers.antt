use Rattle.portal_list.proofs.Base.{◌≡◌, List, map, filter, Key, Lecturer, is_waiting, applicant_keys, World, rules}
use Rattle.portal_list.proofs.Base.{fill_missing}
use Rattle.portal_list.proofs.Rising.{map_map}
use Rattle.portal_list.proofs.Parted.{applicants_are}
use Rattle.portal_list.proofs.Waiting.{waiting_lecturers}
use Rattle.portal_list.proofs.entries.Entries.fills.Goals as goal

-- The rankings that a fill would put, from the keys of the lecturers that wait.
fills_are : (w : World) (keys : List Key) (made : List (Key × List Key))
    → keys ≡ map (λ (l : Lecturer). l.row.key) (filter (is_waiting w.students w.projects) w.lecturers)
    → made ≡ map (λ k. (k, applicant_keys w.projects w.students k)) keys → made ≡ fill_missing w
fills_are w keys made are is = search (rules, applicants_are, waiting_lecturers, map_map)

pub returns : goal.returns
returns c = search (rules, fills_are)
