use Rattle.portal_file.proofs.job.run_closing.Goals as goal

pub returns-clause-runs : goal.returns-clause-runs
returns-clause-runs g c found opened = record {
  first = c.args.conn;
  last = c.run-done.result.1;
  opened = opened;
  works = c.run-done.ensures.works;
  closes = c.close_files.ensures.closes;
}
