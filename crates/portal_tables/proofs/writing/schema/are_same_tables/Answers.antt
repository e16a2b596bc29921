use Rattle.portal_tables.proofs.Base.{sym, subst₂, take, AllZip, arith}
use Rattle.portal_tables.specs.inner.Comparing.{SameParts}
use Rattle.std.proofs.lemmas.Slice.Zip.{all_zipped_more}
use Rattle.portal_tables.proofs.InTurn.{next_item}
use Rattle.portal_tables.proofs.writing.schema.are_same_tables.Goals as goal

pub loop-i-preserved : goal.loop-i-preserved
loop-i-preserved c =
    let a = c.args.a.now in
    let b = c.args.b.now in
    let i = c.loop-i.i in
    let here = next_item a i c.index-a-i.result c.index-a-i.is c.loop-i-test.true in
    let there = next_item b i c.index-b-i.result c.index-b-i.is (omega arith) in
    record {
      so_far = subst₂ (AllZip SameParts) (sym here) (sym there)
          (all_zipped_more SameParts (take i a) (take i b) _ _ c.loop-i.invariant.so_far
          (c.is_same_table.ensures.0 c.if-not-is_same_table.false));
      lengths = c.loop-i.invariant.lengths;
    }
