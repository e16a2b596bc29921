use Rattle.portal_desk.proofs.Base.{◌∙◌, refl, rules, sym, request_content}
use Rattle.portal_desk.proofs.Failing.{calm_before}
use Rattle.portal_desk.proofs.Sent.{broke_store, broke_unread}
use Rattle.portal_desk.proofs.Taking.{none_taken, follows_taken, missed_taken, ended_taken, cut_taken, cut_held}
use Rattle.portal_desk.proofs.Telling.{so_far_none, missed, end_known, bad_known, cut_known, closes_known, more_known}
use Rattle.portal_desk.proofs.Telling.{broke_known, goes_on, still_failed}
use Rattle.portal_desk.proofs.Moving.{worked_none, worked_more}
use Rattle.portal_desk.proofs.desk.Desk.serve.Goals as goal

pub returns-in-Err-clause-serves : goal.returns-in-Err-clause-serves
returns-in-Err-clause-serves g c =
    let x = c.loop-found.invariant in
    let failed = c.in-Err.ensures.err in
    record {
      worked = x.worked;
      served = rw (c.serve_fault.ensures.cause, c.serve_fault.ensures.requests)
          (missed x.told _ _ c.in-Err.cause _ failed.causes failed.left c.in-Err.ensures.none);
      taken = missed_taken _ _ x.bound x.held x.taken failed.taken;
      stays = let causes = failed.causes in search rules;
      settles = let causes = failed.causes in search rules;
    }

pub returns-in-End-clause-serves : goal.returns-in-End-clause-serves
returns-in-End-clause-serves g c =
    let x = c.loop-found.invariant in
    record {
      worked = x.worked;
      served = rw (c.served_result.ensures.requests, c.served_result.ensures.ending)
          (end_known x.told _ _ (rw c.in-End.is at c.in-Ok.ensures.follows));
      taken = ended_taken x.bound c.in-Ok.ensures.held x.taken c.in-Ok.ensures.follows;
      stays = search rules;
      settles = search rules;
    }

pub returns-in-Bad-clause-serves : goal.returns-in-Bad-clause-serves
returns-in-Bad-clause-serves g c =
    let x = c.loop-found.invariant in
    record {
      worked = x.worked;
      served = rw (c.served_result-in-Bad.ensures.requests, c.served_result-in-Bad.ensures.ending)
          (bad_known x.told _ _ _ c.in-Bad.refusal c.in-Bad.head_only
          (rw c.in-Bad.is at c.in-Ok.ensures.follows) c.in-Ok-send_refusal.ensures.writes);
      taken = ended_taken x.bound c.in-Ok.ensures.held x.taken c.in-Ok.ensures.follows;
      stays = search rules;
      settles = search rules;
    }

pub returns-in-Err-send_refusal-clause-serves : goal.returns-in-Err-send_refusal-clause-serves
returns-in-Err-send_refusal-clause-serves g c =
    let x = c.loop-found.invariant in
    record {
      worked = x.worked;
      served = rw (c.serve_fault-in-Err-send_refusal.ensures.cause, c.serve_fault-in-Err-send_refusal.ensures.requests)
          (cut_known x.told _ _ _ c.in-Bad.refusal c.in-Bad.head_only
          (rw c.in-Bad.is at c.in-Ok.ensures.follows) c.in-Err-send_refusal.cause _ _ c.in-Err-send_refusal.ensures.writes);
      taken = ended_taken x.bound c.in-Ok.ensures.held x.taken c.in-Ok.ensures.follows;
      stays = search rules;
      settles = search rules;
    }

pub returns-in-Err-answer-clause-serves : goal.returns-in-Err-answer-clause-serves
returns-in-Err-answer-clause-serves g c =
    let x = c.loop-found.invariant in
    let unread = broke_unread c.in-Err-answer.cause _ _ _ _ _ _ c.in-Err-answer.ensures.err.2 in
    let store = broke_store c.in-Err-answer.cause _ _ _ _ _ _ c.in-Err-answer.ensures.err.2 in
    record {
      worked = worked_more _ _ _ _ _ _ x.worked c.in-Err-answer.ensures.err.1 c.answer.ensures.counts;
      served = rw (c.serve_fault-in-Err-answer.ensures.cause, c.serve_fault-in-Err-answer.ensures.requests)
          (broke_known x.told _ _ _ _ c.in-Request.request c.in-Request.used c.closes_now-closes.result
          (rw c.in-Request.is at c.in-Ok.ensures.follows) c.closes_now-closes.ensures
          c.in-Err-answer.cause _ _ c.in-Err-answer.ensures.err);
      taken = ended_taken x.bound c.in-Ok.ensures.held x.taken c.in-Ok.ensures.follows;
      stays = search rules;
      settles = search rules;
    }

pub returns-in-Err-answer-clause-blames : goal.returns-in-Err-answer-clause-blames
returns-in-Err-answer-clause-blames g c =
    let unread = broke_unread c.in-Err-answer.cause _ _ _ _ _ _ c.in-Err-answer.ensures.err.2 in
    search rules

pub returns-in-Err-answer-clause-spared_source : goal.returns-in-Err-answer-clause-spared_source
returns-in-Err-answer-clause-spared_source g c =
    let unread = broke_unread c.in-Err-answer.cause _ _ _ _ _ _ c.in-Err-answer.ensures.err.2 in
    search rules

pub returns-then-closes-clause-serves : goal.returns-then-closes-clause-serves
returns-then-closes-clause-serves g c =
    let x = c.loop-found.invariant in
    record {
      worked = worked_more _ _ _ _ _ _ x.worked c.in-Ok-answer.ensures.ok.1 c.answer.ensures.counts;
      served = rw (c.served_result-then-closes.ensures.requests, c.served_result-then-closes.ensures.ending, c.ending_of.ensures)
          (closes_known x.told _ _ _ _ c.in-Request.request c.in-Request.used c.closes_now-closes.result
          (rw c.in-Request.is at c.in-Ok.ensures.follows) c.closes_now-closes.ensures
          (c.in-Ok-answer.ensures.ok.0, c.in-Ok-answer.ensures.ok.1, c.in-Ok-answer.ensures.ok.2.1) c.if-closes.true);
      taken = ended_taken x.bound c.in-Ok.ensures.held x.taken c.in-Ok.ensures.follows;
      stays = λ f. absurd (still_failed _ _ _ (λ e. (x.waits e).1) c.answer.ensures.stays c.in-Ok-answer.ensures.ok.2.0 f);
      settles = search rules;
    }

pub loop-found-init : goal.loop-found-init
loop-found-init g c = record {
  bound = search rules;
  reader = refl;
  writer = refl;
  source = refl;
  sink = refl;
  calm = refl;
  waits = search rules;
  held = search rules;
  taken = none_taken _ _;
  worked = worked_none _ _;
  told = so_far_none _ _ _ _ _ c.new-buffer.ensures.items;
}

pub loop-found-preserved : goal.loop-found-preserved
loop-found-preserved g c =
    let x = c.loop-found.invariant in
    record {
      bound = goes_on c.loop-found.done (request_content c.in-Request.request) c.closes_now-closes.result x.bound
          c.if-closes.false c.closes_now-closes.ensures;
      reader = c.in-Ok.ensures.failures ∙ x.reader;
      writer = c.in-Ok-answer.ensures.failures ∙ x.writer;
      source = c.in-Ok.ensures.same_device ∙ x.source;
      sink = c.in-Ok-answer.ensures.same_device ∙ x.sink;
      calm = c.in-Ok-answer.ensures.ok.2.0 ∙ sym (calm_before _ _ _ _ c.answer.ensures.counts c.in-Ok-answer.ensures.ok.2.0) ∙ x.calm;
      waits = λ f. absurd (still_failed _ _ _ (λ e. (x.waits e).1) c.answer.ensures.stays c.in-Ok-answer.ensures.ok.2.0 f);
      held = cut_held c.in-Request.used _ _ c.cut_front.ensures c.in-Ok.ensures.held;
      taken = cut_taken c.in-Request.used _ _ (rw c.in-Request.is at c.in-Ok.ensures.follows).within.1 c.cut_front.ensures
          (follows_taken x.taken c.in-Ok.ensures.follows);
      worked = worked_more _ _ _ _ _ _ x.worked c.in-Ok-answer.ensures.ok.1 c.answer.ensures.counts;
      told = more_known x.told _ _ _ _ c.in-Request.request c.in-Request.used c.closes_now-closes.result
          (rw c.in-Request.is at c.in-Ok.ensures.follows)
          c.closes_now-closes.ensures c.cut_front.new.buffer.items
          (c.in-Ok-answer.ensures.ok.0, c.in-Ok-answer.ensures.ok.1, c.in-Ok-answer.ensures.ok.2.1)
          c.if-closes.false c.cut_front.ensures;
    }

pub unreachable-requires : goal.unreachable-requires
unreachable-requires g c = c.in-Ok.ensures.follows.whole c.in-Need.is
