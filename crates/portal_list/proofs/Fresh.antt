-- The empty world is good.
use Rattle.portal_list.proofs.Base.{◌≡◌, true, [], Key, Setup, First, rules, is_code, Good}

pub fresh_good : (office : Key) → is_code office ≡ true
    → Good (record { round = First; phase = Setup; office = office; lecturers = []; projects = []; students = [] })
fresh_good office form = search rules
