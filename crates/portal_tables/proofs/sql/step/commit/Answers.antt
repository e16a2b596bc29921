use Rattle.portal_tables.proofs.Base.{◌≡◌, rules, arith, IsTrue, subst, HasCleanDisk, Survives, Held, state, Commits}
use Rattle.portal_tables.proofs.Base.{IsAfter, Stays}
use Rattle.portal_tables.proofs.Queries.{on_err}
use Rattle.portal_tables.proofs.Runs.{ended_well, ended_crash, ended_badly}
use Rattle.portal_tables.proofs.sql.step.commit.Goals as goal

pub returns-clause-ok : goal.returns-clause-ok
returns-clause-ok g c clean =
    let C = g.T.TableChange.makes c.args.step in
    let same : c.commit.new.self.0 ≡ c.conn-2-1.given.0 = search rules in
    let P = λ (h : Held _). HasCleanDisk (state g.S.Store h) → Commits C (state g.S.Store c.args.conn.now) (state g.S.Store h) in
    subst P same (λ clean.
    let mid : HasCleanDisk (state g.S.Store c.take.new.tx.conn.now) = omega (arith, clean, c.commit.ensures.survives.clean) in
    ended_well g.S.Store C c.args.conn.now c.transaction-tx.result.conn.now c.take.new.tx.conn.now c.commit.new.self.0
    c.transaction-tx.ensures.begun (c.take.ensures.kept mid) (c.in_ok-take.ensures.done mid) (c.in_ok-commit.ensures.ok clean).1) clean

pub returns-clause-crash : goal.returns-clause-crash
returns-clause-crash g c =
    let C = g.T.TableChange.makes c.args.step in
    let same : c.commit.new.self.0 ≡ c.conn-2-1.given.0 = search rules in
    subst (λ h. Survives (state g.S.Store c.args.conn.now) (state g.S.Store h) (IsAfter C (state g.S.Store c.args.conn.now))) same
    (ended_crash g.S.Store C c.args.conn.now c.transaction-tx.result.conn.now c.take.new.tx.conn.now c.commit.new.self.0
    c.transaction-tx.ensures.begun c.take.ensures.survives c.in_ok-take.ensures.done c.commit.ensures.survives)

pub returns-in_err-commit-clause-crash : goal.returns-in_err-commit-clause-crash
returns-in_err-commit-clause-crash g c =
    let C = g.T.TableChange.makes c.args.step in
    let same : c.commit.new.self.0 ≡ c.conn-2-1.given.0 = search rules in
    subst (λ h. Survives (state g.S.Store c.args.conn.now) (state g.S.Store h) (IsAfter C (state g.S.Store c.args.conn.now))) same
    (ended_crash g.S.Store C c.args.conn.now c.transaction-tx.result.conn.now c.take.new.tx.conn.now c.commit.new.self.0
    c.transaction-tx.ensures.begun c.take.ensures.survives c.in_ok-take.ensures.done c.commit.ensures.survives)

pub returns-in_err-commit-clause-err : goal.returns-in_err-commit-clause-err
returns-in_err-commit-clause-err g c clean on =
    let C = g.T.TableChange.makes c.args.step in
    let same : c.commit.new.self.0 ≡ c.conn-2-1.given.0 = search rules in
    let P = λ (h : Held _). HasCleanDisk (state g.S.Store h) → IsTrue (state g.S.Store h).is_open
    → Stays (state g.S.Store c.args.conn.now) (state g.S.Store h) in
    on_err _ _ (subst P same (λ clean on.
    let mid : HasCleanDisk (state g.S.Store c.take.new.tx.conn.now) = omega (arith, clean, c.commit.ensures.survives.clean) in
    ended_badly g.S.Store C c.args.conn.now c.transaction-tx.result.conn.now c.take.new.tx.conn.now c.commit.new.self.0
    c.transaction-tx.ensures.begun c.in_err-commit.field-0.0 c.outside_transaction.ensures.committed
    (c.take.ensures.kept mid) (c.in_ok-take.ensures.done mid) (c.in_err-commit.ensures.err clean) on) clean on)
