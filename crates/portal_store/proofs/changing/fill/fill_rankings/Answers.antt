use Rattle.portal_store.proofs.Base.{◌∙◌, HasCleanDisk, IsConsistentIn, IsCurrentSchema, Key, List, Sound, TurnsAll, ap}
use Rattle.portal_store.proofs.Base.{arith, fill_missing, map, state, subst, sym, world_in, world_of}
use Rattle.portal_store.proofs.Ended.{ends_asked, ends_refused}
use Rattle.portal_store.proofs.Rounds.{world_told}
use Rattle.portal_store.proofs.FillTurns.{fill_turns}
use Rattle.portal_store.proofs.changing.fill.fill_rankings.Goals as goal

pub returns-in_err-read-clause-ends : goal.returns-in_err-read-clause-ends
returns-in_err-read-clause-ends g c =
    ends_refused c.from_residual.ensures.0 c.outside_transaction.ensures.committed c.in_err-read.ensures

pub returns-in_err-rankings-clause-ends : goal.returns-in_err-rankings-clause-ends
returns-in_err-rankings-clause-ends g c =
    ends_refused c.from_residual-in_err-rankings.ensures.0 c.outside_transaction.ensures.committed c.in_ok-read.ensures

pub returns-clause-ends : goal.returns-clause-ends
returns-clause-ends g c =
    let old = state g.S.Store c.args.conn.now in
    let mid = state g.S.Store c.load_entries.new.conn in
    let fs : List (Key × List Key) = map (λ f. (f.0, f.1.items)) c.deref.result.now in
    let are =
    λ (own : IsCurrentSchema old.now.schema) (clean : HasCleanDisk mid) (holds : IsConsistentIn c.args.round old.now)
    (sound : Sound (world_in c.args.round old.now.trees)).
    let told = world_told c.args.round old.now.trees holds.second in
    ap (map {B = Key × List Key} (λ f. (f.0, f.1.items))) c.deref.ensures.value
    ∙ c.in_ok-rankings.ensures (world_of old.now.trees) (c.in_ok-read.ensures.told own holds.sound clean (subst Sound (sym told) sound))
    ∙ ap fill_missing told in
    ends_asked (TurnsAll c.args.round fs) c.commit.ensures.idle c.commit.ensures.ok c.commit.ensures.err c.commit.ensures.durable
    c.commit.ensures.crash
    c.in_ok-read.ensures (λ own clean after. fill_turns c.args.round fs old.now after (are own clean))

pub returns-clause-entries : goal.returns-clause-entries
returns-clause-entries g c own holds good clean was =
    let early : HasCleanDisk (state g.S.Store c.load_entries.new.conn) = omega (arith, clean, c.commit.ensures.crash.clean) in
    c.in_ok-read.ensures.told own holds.1.sound early good.sound
