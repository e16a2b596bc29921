use Rattle.portal_serve.proofs.Base.{◌≡◌, rules, subst, ServesStream}
use Rattle.portal_serve.proofs.Dropping.{stream_closed}
use Rattle.portal_serve.proofs.listening.serve_timed.Goals as goal

-- the same of the halves that the loans give back
given_back : {A B : Type 0} (P : A → B → Type 0) (x y : A) (u v : B) → P x u → x ≡ y → u ≡ v → P y v
given_back P x y u v h same alike = subst (λ r. P r v) same (subst (P x) alike h)

pub returns : goal.returns
returns g c = given_back (λ (r : g.row.R.Denot) w. ServesStream g.K.Keeper.state c.serve-ended.result c.args.desk.now
    c.serve-ended.new.self (g.R.TimedRead.remaining c.args.reader.now)
    (g.R.TimedRead.remaining r) (g.W.TimedWrite.contents c.args.writer.now) (g.W.TimedWrite.contents w))
    c.close_after.new.reader.stream.now _ c.close_after.new.writer.stream.now _
    (stream_closed _ _ _ _ _ (g.R.TimedRead.remaining c.serve-ended.new.source.stream.now) _ _
    (g.W.TimedWrite.contents c.serve-ended.new.sink.stream.now) _ c.serve-ended.ensures.serves
    c.close_after.ensures.drops c.close_after.ensures.keeps)
    (search rules) (search rules)
