use Rattle.portal_desk.proofs.Base.{◌≡◌, rules, subst, ServesOne}
use Rattle.portal_desk.proofs.serving.pipe.Goals as goal

-- the same of the reader and of the writer that the loans give back
given_back : {A B : Type 0} (P : A → B → Type 0) (x y : A) (u v : B) → P x u → x ≡ y → u ≡ v → P y v
given_back P x y u v h same alike = subst (λ r. P r v) same (subst (P x) alike h)

pub returns : goal.returns
returns g c = record {
  serves = given_back (λ (r : g.row.R.Denot) w. ServesOne g.K.Keeper.state c.serve.result c.args.desk.now c.serve.new.self
      (g.R.Read.remaining c.args.reader.now) (g.R.Read.remaining r)
      (g.W.Write.contents c.args.writer.now) (g.W.Write.contents w))
      c.serve.new.source.device.now _ c.serve.new.sink.device.now _
      (rw (c.new-source.ensures.device, c.new-sink.ensures.device) at c.serve.ensures.serves) (search rules) (search rules);
}
