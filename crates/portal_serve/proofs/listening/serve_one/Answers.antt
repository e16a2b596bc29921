use Rattle.portal_serve.proofs.Base.{None}
use Rattle.portal_serve.proofs.Turns.{turns_one}
use Rattle.portal_serve.proofs.listening.serve_one.Goals as goal

pub returns-clause-turn : goal.returns-clause-turn
returns-clause-turn g c =
    turns_one _ c.args.desk.now c.serve_stream-ended.new.desk None None
    (record {
      source = _;
      left = _;
      before = _;
      after = _;
      outcome = record { ended = c.serve_stream-ended.result; failed = c.failed-failed.result };
    })
    tt c.serve_stream-ended.ensures c.failed-failed.ensures.failed
