use Rattle.std.proofs.Common.{rules}
use Rattle.portal_tables.proofs.Compared.{fits_first, fits_first_own, nine_indexes, six_tables}
use Rattle.portal_tables.proofs.writing.schema.PortalSchema.fits_first.Goals as goal

pub slice_bounds-is_same_schema-end : goal.slice_bounds-is_same_schema-end
slice_bounds-is_same_schema-end g c = six_tables c.as_slice.result.now c.schema-all.result.now (search rules) (search rules)

pub slice_bounds-is_same_schema-end-2 : goal.slice_bounds-is_same_schema-end-2
slice_bounds-is_same_schema-end-2 g c = nine_indexes c.as_slice-2.result.now c.schema-all.result.now (search rules) (search rules)

pub returns-clause-first : goal.returns-clause-first
returns-clause-first g c = fits_first c.is_same_schema.result c.schema-all.result.now c.args.conn.now.schema (search rules) (search rules)

pub returns-clause-own : goal.returns-clause-own
returns-clause-own g c = fits_first_own c.is_same_schema.result c.schema-all.result.now c.args.conn.now.schema (search rules) (search rules)
