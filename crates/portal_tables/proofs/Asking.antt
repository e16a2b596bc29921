-- A query before a change: what the change is, begun where the query began.
use Rattle.portal_tables.proofs.Base.{sym, subst, ◌∙◌, Database, State, HasCleanDisk, IsUnchanged, Commits, IsCommitted}

-- nothing was done
module _ (old mid new : State) (C D : Database → Database → Type 0)
    (more : HasCleanDisk mid → (after : Database) → C old.now after → D old.now after) where
  pub commits_asked : HasCleanDisk mid → IsUnchanged old mid → Commits C mid new → Commits D old new
  commits_asked clean same done = record {
    was_open = same.0.was_open;
    is_open = done.is_open;
    settled = done.settled;
    changed = more clean new.now (subst (λ d. C d new.now) same.0.now_is done.changed);
  }

-- nothing is to be done
pub commits_none : (old new : State) (D : Database → Database → Type 0) → IsCommitted old → IsUnchanged old new
    → D old.now old.now → Commits D old new
commits_none old new D settled same did = record {
  was_open = same.0.was_open;
  is_open = same.0.is_open;
  settled = same.0.committed_is ∙ sym (settled same.0.was_open) ∙ sym same.0.now_is;
  changed = subst (D old.now) (sym same.0.now_is) did;
}
