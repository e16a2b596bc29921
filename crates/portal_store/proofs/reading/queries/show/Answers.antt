use Rattle.portal_tables.proofs.InTurn.{its_own}
use Rattle.portal_store.proofs.Base.{◌∙◌, ◌≡◌, if◌then◌else◌, Good, IsCacheOf, IsNow, Key, OfficeCaller, MatchResult-weaker, reads_handed}
use Rattle.portal_store.proofs.Base.{ap, caller_among, equals, false, has_round, lecturer_with, reads_as, reads_of}
use Rattle.portal_store.proofs.Base.{reads_open, reads_then_of, reads_wide, sight_of, state, student_with, subst, sym}
use Rattle.portal_store.proofs.Base.{true, world_in, view, RemembersIn}
use Rattle.portal_store.proofs.Rounds.{now_in, world_told}
use Rattle.portal_store.proofs.reading.queries.show.Goals as goal

pub returns-then-eq : goal.returns-then-eq
returns-then-eq g c =
    let r = c.show_office.result in
    let round = c.in_ok-round.round in
    let office = c.in_ok-round.office in
    let code = c.args.code.now in
    let db = (state g.S.Store c.args.conn.now).now in
    let w = world_in round db.trees in
    let own : equals office.code code ≡ true = sym (ap (λ (k : Key). equals k code) c.as_bytes.ensures.bytes) ∙ sym c.eq.ensures
    ∙ c.if-eq.true in
    reads_as (its_own _ r)
    (reads_then_of {Known = λ db. RemembersIn round c.args.cache.now db × IsNow (world_in round db.trees) round office}
    (λ own on right told. let it = now_in db round office right.0 told in
    ((it.0, subst (IsCacheOf c.args.cache.now) it.1 right.1), it.2))
    (reads_of (λ own. own) (λ own right. right.0.1.sound) c.in_ok-round.ensures) (reads_wide (has_round round _) c.show_office.ensures))
    (λ no. no)
    (λ _ right told.
    let it = now_in db round office right.0 told.0 in
    let mine : equals w.office code ≡ true = subst (λ k. equals k code ≡ true) (sym it.2.code_is) own in (
      subst (IsCacheOf c.show_office.new.cache) (sym it.1) told.1.0,
      MatchResult-weaker r told.1.1 (λ v is good. is
          ∙ sym (ap (λ b. sight_of w (if b then OfficeCaller else caller_among (lecturer_with w code) (student_with w code))) mine)
          ∙ ap (λ w. view w code) (sym it.1)) (λ fault no damaged good. no damaged (subst Good it.1 good)),
    ))

pub returns-in_err-round : goal.returns-in_err-round
returns-in_err-round g c =
    let db = (state g.S.Store c.args.conn.now).now in
    reads_handed c.from_residual.ensures.1 (reads_of (λ own. own) (λ own right. right.0.1.sound) c.in_err-round.ensures)
    (λ own right told. (
      right.1,
      λ damaged good.
          let holds = right.0.1 in
          told right.0.0 damaged (record {
            office = holds.office;
            second = holds.second;
            whole = holds.whole;
            good = subst Good (world_told right.0.0 db.trees holds.second) good;
          }),
    ))

pub returns : goal.returns
returns g c =
    let r = c.show_person.result in
    let round = c.in_ok-round.round in
    let office = c.in_ok-round.office in
    let code = c.args.code.now in
    let db = (state g.S.Store c.args.conn.now).now in
    let other : equals office.code code ≡ false = sym (ap (λ (k : Key). equals k code) c.as_bytes.ensures.bytes) ∙ sym c.eq.ensures
    ∙ c.if-eq.false in
    reads_as (its_own _ r)
    (reads_then_of {Known = RemembersIn round c.args.cache.now}
    (λ own on right told. let it = now_in db round office right.0 told in (it.0, subst (IsCacheOf c.args.cache.now) it.1 right.1))
    (reads_of (λ own. own) (λ own right. right.0.1.sound) c.in_ok-round.ensures)
    (reads_open (reads_wide (has_round round _) c.show_person.ensures))) (λ no. no)
    (λ _ right told.
    let it = now_in db round office right.0 told.0 in (
      subst (IsCacheOf c.show_person.new.cache) (sym it.1) told.1.0,
      MatchResult-weaker r told.1.1 (λ v is good. is (sym it.2.phase_is) (subst (λ k. equals k code ≡ false) (sym it.2.code_is) other)
          (subst Good it.1 good) ∙ ap (λ w. view w code) (sym it.1)) (λ fault no damaged good. no damaged (subst Good it.1 good)),
    ))
