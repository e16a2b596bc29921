use Rattle.spa_student.proofs.Base.{get_or_read, rules, count_by-le-length}
use Rattle.spa_student.proofs.cuts.Progress.place.Goals as goal

pub overflow_add-index_mut : goal.overflow_add-index_mut
overflow_add-index_mut c = search (rules, get_or_read, count_by-le-length)

pub overflow_add-index_mut-2 : goal.overflow_add-index_mut-2
overflow_add-index_mut-2 c = search (rules, get_or_read, count_by-le-length)
