use Rattle.std.proofs.Common.{◌≡◌, List, IfOk, OnOk, refl, rules, subst}
use Rattle.std.specs.Prelude.{IfErr}
use Rattle.sqlite_wal.specs.Files.{image_at}
use Rattle.portal_wire.specs.Conversation.{Exchange}
use Rattle.portal_file.specs.Jobs.{ServesRequests}
use Rattle.portal_file.proofs.Base.{if_ok, if_untold, on_told}
use Rattle.portal_file.proofs.Carried.{serves}
use Rattle.portal_file.proofs.Held.{over_files_with}
use Rattle.portal_file.proofs.serving.serve_file.Goals as goal

pub returns-clause-serves : goal.returns-clause-serves
returns-clause-serves g c =
    over_files_with _ (image_at g.S.Start) (λ was is r. ServesRequests r (g.L.Service.told was is)) (λ was is. serves _)
    c.args.service.now c.args.service.now _ _ refl (search rules) c.over_file.result c.over_file.ensures.runs

pub returns-clause-told : goal.returns-clause-told
returns-clause-told g c =
    subst (λ v. IfOk c.over_file.result (λ r. OnOk r.0 ((es : List Exchange) × g.L.Service.told c.args.service.now v es)))
    (search rules)
    (if_ok c.over_file.result _ _ (λ r done. on_told r.0 _ _ done.1) c.over_file.ensures.becomes)

pub returns-clause-refused : goal.returns-clause-refused
returns-clause-refused g c =
    subst (λ v. IfOk c.over_file.result (λ r. IfErr r.0 (λ _. v ≡ c.args.service.now))) (search rules)
    (if_ok c.over_file.result _ _ (λ r done. if_untold r.0 _ _ done.1) c.over_file.ensures.becomes)
