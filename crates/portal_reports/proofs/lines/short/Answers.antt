use Rattle.portal_reports.proofs.Keys.{key-short}
use Rattle.portal_reports.proofs.lines.short.Goals as goal

pub returns-clause-short : goal.returns-clause-short
returns-clause-short c = key-short c.args.key.now c.as_bytes.ensures.form
