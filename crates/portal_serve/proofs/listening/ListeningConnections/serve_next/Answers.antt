use Rattle.portal_serve.proofs.listening.ListeningConnections.serve_next.Goals as goal

pub returns-clause-serves : goal.returns-clause-serves
returns-clause-serves g c = c.serve_one.ensures.turn
