use Rattle.portal_run.proofs.Base.{◌≡◌, ◌<◌, ◌≤◌, ◌==◌, false, length, refl}
use Rattle.std.specs.List.{before_first}
use Rattle.portal_rules.specs.Words.{is_code}
use Rattle.portal_run.specs.Databases.{first_line}
use Rattle.portal_run.proofs.FirstLine.{long_in, told_in}
use Rattle.portal_run.proofs.init.code_of.Goals as goal

pub returns-in_default-clause-reads : goal.returns-in_default-clause-reads
returns-in_default-clause-reads g c =
    let long : 64 ≤ length (before_first (λ b. b == 10) c.in-Ok.bytes.items) = rw c.deref.ensures.value at c.in_default.ensures in
    long_in _ _ c.in-Ok.bytes.items c.in-Ok.ensures.front long

pub returns-in-Ok-parse-clause-reads : goal.returns-in-Ok-parse-clause-reads
returns-in-Ok-parse-clause-reads g c =
    let is : (c.in-Some.line.now ≡ first_line c.in-Ok.bytes.items) × (length (before_first (λ b. b == 10) c.in-Ok.bytes.items) < 64) =
    rw c.deref.ensures.value at c.in-Some.ensures in
    told_in _ _ c.in-Ok.bytes.items c.in-Some.line.now (λ x. c.in-Ok-parse.code ≡ x) c.in-Ok.ensures.front is c.in-Ok-parse.ensures.ok

pub returns-in-Err-BadCode-clause-reads : goal.returns-in-Err-BadCode-clause-reads
returns-in-Err-BadCode-clause-reads g c =
    let is : (c.in-Some.line.now ≡ first_line c.in-Ok.bytes.items) × (length (before_first (λ b. b == 10) c.in-Ok.bytes.items) < 64) =
    rw c.deref.ensures.value at c.in-Some.ensures in
    told_in _ _ c.in-Ok.bytes.items c.in-Some.line.now (λ x. is_code x ≡ false) c.in-Ok.ensures.front is
    (c.in-Err-BadCode.ensures.bad (rw c.in-Err-BadCode.field-0-is refl))
