use Rattle.std.proofs.Common.{rules}
use Rattle.portal_tables.proofs.Compared.{fits_current, fits_own}
use Rattle.portal_tables.proofs.writing.schema.PortalSchema.fits.Goals as goal

pub returns-clause-current : goal.returns-clause-current
returns-clause-current g c = fits_current c.is_same_schema.result c.schema-all.result.now c.args.conn.now.schema (search rules)
    (search rules)

pub returns-clause-own : goal.returns-clause-own
returns-clause-own g c = fits_own c.is_same_schema.result c.schema-all.result.now c.args.conn.now.schema (search rules) (search rules)
