use Rattle.std.proofs.Common.{◌≡◌, ◌||◌, Bool, true, false, not, IsTrue, inl, inr, refl, sym, ap, subst, ◌∙◌, arith}
use Rattle.std.proofs.Math.Logic.{∥∥₁_map}
use Rattle.sqlite_wal.specs.Files.{outcomes}
use Rattle.sqlite_wal.specs.Reads.{AreClean}
use Rattle.sqlite_trees.specs.Tree.{Trees}
use Rattle.sqlite_trees.specs.View.{View, IsClean}
use Rattle.sqlite_trees.proofs.Doubt.{no_doubt}
use Rattle.sqlite_pool.proofs.StateLemmas.{clean_is, may_leave_is}
use Rattle.sqlite_store.specs.FileStore.{recovers, view}
use Rattle.sqlite.specs.Files.{HoldsDatabase}
use Rattle.sqlite.proofs.Theorems.{opens_again}
use Rattle.portal_file.proofs.closing.close_store.Goals as goal

-- of a test for the first or not the second that fails
second_by : (a b : Bool) → (a || not b) ≡ false → IsTrue b
second_by true b e = absurd (cc)
second_by false true e = refl
second_by false false e = absurd (cc)

not_so : (a : Bool) → IsTrue (not a) → a ≡ false
not_so true off = absurd (let e : false ≡ true = off in cc)
not_so false so = refl

pub returns-in-Ok : goal.returns-in-Ok
returns-in-Ok g c =
    let last = c.checkpoint.new.self in
    let q = c.checkpoint.ensures.quiet in
    let clean : AreClean g.D.Disk c.close-in-Ok.result.log c.close-in-Ok.result.db → IsClean (view last) =
    λ honest. no_doubt _ (clean_is last.pool ∙ subst (λ p. AreClean g.D.Disk p.0 p.1) c.close-in-Ok.ensures honest) in
    record {
      clean = λ honest. let now = clean honest in omega (arith, now, q.clean);
      left = λ honest numbered sound image may.
          let now = clean honest in
          let sure_now = subst (λ p. AreClean g.D.Disk p.0 p.1) c.close-in-Ok.ensures honest in
          let same = c.checkpoint.ensures.same (c.in-Ok.ensures.open now) in
          ∥∥₁_map (opens_again last (subst (λ (v : View). IsTrue v.is_numbered) (sym same) numbered)
          (λ db found. sound db (q.outcomes db found)) image
          (may_leave_is last.pool image sure_now (subst (λ p. outcomes g.D.Disk p.0 p.1 image) c.close-in-Ok.ensures may)))
          (λ h. let r : (db : Trees) × recovers c.args.store db × HoldsDatabase image db = (h.0, q.outcomes h.0 h.1, h.2) in r);
      untouched = λ none. absurd (let e : false ≡ true = sym none ∙ c.is_to_copy.ensures.copies c.if-not-is_to_copy.false in cc);
      copied = λ copies. inr (last, c.close-in-Ok.ensures, c.in-Ok.ensures.moved);
      failed = tt;
    }

pub returns-then-not-is_to_copy : goal.returns-then-not-is_to_copy
returns-then-not-is_to_copy g c =
    let store = c.args.store in
    record {
      clean = λ honest. no_doubt _ (clean_is store.pool ∙ subst (λ p. AreClean g.D.Disk p.0 p.1) c.close.ensures honest);
      left = λ honest numbered sound image may.
          opens_again store numbered sound image
          (may_leave_is store.pool image (subst (λ p. AreClean g.D.Disk p.0 p.1) c.close.ensures honest)
          (subst (λ p. outcomes g.D.Disk p.0 p.1 image) c.close.ensures may));
      untouched = λ none. c.close.ensures;
      copied = λ copies. inl (c.is_to_copy.ensures.broken c.if-not-is_to_copy.true copies);
      failed = tt;
    }

pub returns-in-Err : goal.returns-in-Err
returns-in-Err g c =
    let store = c.args.store in
    let last = c.checkpoint.new.self in
    let q = c.checkpoint.ensures.quiet in
    let broken = c.is_broken-stands in
    let clean : AreClean g.D.Disk c.close-in-Err.result.log c.close-in-Err.result.db → IsClean (view last) =
    λ honest. no_doubt _ (clean_is last.pool ∙ subst (λ p. AreClean g.D.Disk p.0 p.1) c.close-in-Err.ensures honest) in
    record {
      clean = λ stands honest. let now = clean honest in omega (arith, now, q.clean);
      left = λ stands honest numbered sound image may.
          let now = clean honest in
          let sure_now = subst (λ p. AreClean g.D.Disk p.0 p.1) c.close-in-Err.ensures honest in
          let on : IsTrue (view last).is_open = second_by last.has_failed (view last).is_open
          (sym (broken.ensures.shown now) ∙ not_so broken.result stands) in
          let same = c.checkpoint.ensures.same on in
          ∥∥₁_map (opens_again last (subst (λ (v : View). IsTrue v.is_numbered) (sym same) numbered)
          (λ db found. sound db (q.outcomes db found)) image
          (may_leave_is last.pool image sure_now (subst (λ p. outcomes g.D.Disk p.0 p.1 image) c.close-in-Err.ensures may)))
          (λ h. let r : (db : Trees) × recovers store db × HoldsDatabase image db = (h.0, q.outcomes h.0 h.1, h.2) in r);
      untouched = λ none. absurd (let e : false ≡ true = sym none ∙ c.is_to_copy.ensures.copies c.if-not-is_to_copy.false in cc);
      copied = λ copies. tt;
      failed = (
        last,
        record {
          files_are = c.close-in-Err.ensures;
          cause = λ now. c.in-Err.ensures.cause now;
          shut = λ now shut.
              let before : IsClean (view store) = omega (arith, now, q.clean) in
              let first : (view store).is_broken ≡ false = c.is_to_copy.ensures.stands c.if-not-is_to_copy.false before in
              let was : IsTrue (view store).is_open = second_by store.has_failed (view store).is_open first in
              elim (q.closes now was) [
                | inl on ↦
                    let still : broken.result ≡ false = broken.ensures.shown now
                    ∙ ap (λ (v : View). v.is_broken) (c.checkpoint.ensures.same on) ∙ first in
                    let yes : not broken.result ≡ true = ap not still in
                    absurd (let no = sym yes ∙ shut in cc)
                | inr more ↦ more
              ];
        },
      );
    }
