-- Refutes what a command might say of its work over a database: success after a refusal, another fault's line, another
-- first line than the input's as the code, another command's work, made-up reports and counts, a line after the replies.
use Rattle.std.proofs.Common.{◌≡◌, ◌≢◌, ◌∙◌, ◌<◌, ◌≤◌, ◌++◌, ◌==◌, ℕ, List, [], Some, None, Ok, Err, Option, Result, inl, inr}
use Rattle.std.proofs.Common.{refl, sym, ap, subst, arith, take, get_or, cond, codes}
use Rattle.std.proofs.lemmas.List.{append_cancel_left}
use Rattle.std.proofs.lemmas.List.Sums.{sum_by-append, sum_by-take-le}
use Rattle.std.specs.List.{count_by}
use Rattle.std.specs.Fmt.{decimal, digits}
use Rattle.std.specs.Prelude.{IsSomeAnd, OnOk, Vec}
use Rattle.std.specs.declared.alloc.Global.{Global}
use Rattle.sqlite.specs.Effect.{Database}
use Rattle.sqlite.specs.Tree.{Trees}
use Rattle.portal_rules.specs.Words.{Key}
use Rattle.portal_rules.specs.World.{World}
use Rattle.portal_rules.specs.View.{office_sees}
use Rattle.portal_rules.specs.declared.keeper.KeepFault.{KeepFault}
use Rattle.portal_wire.specs.Conversation.{Exchange}
use Rattle.portal_answer.specs.Answer.{Text, Output}
use Rattle.portal_desk.specs.Session.{Stream}
use Rattle.portal_desk.specs.declared.served.Cause.{Cause}
use Rattle.portal_desk.specs.declared.served.Cause.TheVariants as cause
use Rattle.portal_desk.specs.declared.served.Served.{Served}
use Rattle.portal_desk.specs.declared.served.ServeFault.{ServeFault}
use Rattle.portal_serve.specs.Hall.{office_report}
use Rattle.portal_serve.specs.declared.server.Hall.{Hall}
use Rattle.portal_serve.specs.declared.server.Ended.{Ended}
use Rattle.portal_serve.specs.declared.server.Ended.TheVariants.{Full, StoreFault, ListenFault}
use Rattle.portal_tables.specs.Tables.{no_schema, version}
use Rattle.portal_store.specs.World.{first_world}
use Rattle.portal_store.specs.Crash.{ShowsVersion, as_upgrading}
use Rattle.portal_store.specs.declared.store.OpenFault.{OpenFault}
use Rattle.portal_store.specs.declared.store.CreateFault.{CreateFault}
use Rattle.portal_store.specs.declared.store.UpgradeFault.{UpgradeFault}
use Rattle.portal_store.specs.declared.store.UpgradeFault.TheVariants as upgrading
use Rattle.portal_file.specs.Tables.{StandsCurrent, FileEffect, opened_over}
use Rattle.portal_file.specs.Jobs.{Devices, MakesTables, PipesStream, ReportsWorld, UpgradesTables}
use Rattle.portal_run.specs.declared.place.Place.TheVariants.{Database as IsDatabase}
use Rattle.portal_run.specs.Lines.{Says, bad_code, fault, hall_line, listening_line, refusal, success}
use Rattle.portal_run.specs.Databases.{CountsUpTo, Inits, Known, Listens, Performs, PerformsNamed, after, create_refusal, cause_of}
use Rattle.portal_run.specs.Databases.{end_said, first_line, hall_said, making, piping, report_said, reporting, said_of, serving}
use Rattle.portal_run.specs.Databases.{stream_said, upgrading as to_upgrade}
use Rattle.portal_refuted.proofs.PortalFile.{another_report_is_refuted, made_of_a_database_with_a_table_is_refuted, over}
use Rattle.portal_refuted.proofs.PortalFile.{streaming}
use Rattle.portal_refuted.proofs.PortalFile.{refused_tables_that_change_are_refuted, tables_without_version_2_are_not_opened}

-- databases over each of which only this work was done
abbrev only : FileEffect → Known
only work = record { stands = λ path place. Unit {0}; over = λ path Does. Does work }

-- ---- a status of success

fault_status : (cause : Cause) → 0 < (fault cause).status
fault_status cause.Read = omega arith
fault_status cause.Write = omega arith
fault_status cause.Memory = omega arith
fault_status cause.Store = omega arith

refusal_status : (why : UpgradeFault) → 0 < (refusal why).status
refusal_status upgrading.NotPortal = omega arith
refusal_status upgrading.OtherVersion = omega arith
refusal_status upgrading.Damaged = omega arith
refusal_status upgrading.Exists = omega arith
refusal_status upgrading.Store = omega arith
refusal_status upgrading.Memory = omega arith

not_zero : (t : Output) (old new : Option Text) → 0 < t.status → Says t 0 old new → ⊥
not_zero t old new some (inl h) = absurd (omega (arith, h.0, some))
not_zero t old new some (inr f) = absurd (omega (arith, f.status_is))

no_refusal : (why : UpgradeFault) (old new : Option Text) → Says (refusal why) 0 old new → ⊥
no_refusal why old new = not_zero (refusal why) old new (refusal_status why)

-- after work that upgraded nothing, whatever is printed: `upgraded`, or the refusal's own line
pub success_of_a_refused_upgrade_is_refuted : (work : FileEffect) (path : Text) (old new : Option Text)
    → ((x : Unit {0}) → UpgradesTables (Ok x) work → ⊥) → Performs (only work) path (to_upgrade {A = Unit {0}} old) 0 old new → ⊥
success_of_a_refused_upgrade_is_refuted work path old new none (inl stopped) = no_refusal stopped.0 old new stopped.2
success_of_a_refused_upgrade_is_refuted work path old new none (inr works) = of works.result works.did works.says
  where
    of : (r : Result (Unit {0}) UpgradeFault) → UpgradesTables r work
        → Says (said_of (λ _. success (codes "upgraded\n")) (λ why. why) r) 0 old new → ⊥
    of (Ok x) did says = none x did
    of (Err why) did says = no_refusal why old new says

-- after work that upgraded the tables
pub success_of_an_upgrade_is_right : (work : FileEffect) (path : Text) → UpgradesTables {A = Unit {0}} (Ok tt) work
    → Performs (only work) path (to_upgrade {A = Unit {0}} (Some [])) 0 (Some []) (Some (codes "upgraded\n"))
success_of_an_upgrade_is_right work path did =
    inr (record { place = IsDatabase; stands = tt; taken = refl; result = Ok tt; did = did; says = inl (refl, refl) })

-- `made` of a database that has a table
pub success_after_exists_is_refuted : (office : Key) (path : Text) (db : Database) (left : Trees) (old new : Option Text)
    → db.schema ≢ no_schema
    → Performs (only (over db left)) path (making {A = Unit {0}} office old) 0 old new → ⊥
success_after_exists_is_refuted office path db left old new some (inl stopped) = no_refusal stopped.0 old new stopped.2
success_after_exists_is_refuted office path db left old new some (inr works) = of works.result works.did works.says
  where
    of : (r : Result (Unit {0}) CreateFault) → MakesTables office r (over db left)
        → Says (said_of (λ _. success (codes "made\n")) create_refusal r) 0 old new → ⊥
    of (Ok x) did says = made_of_a_database_with_a_table_is_refuted office x db left some did
    of (Err why) did says = no_refusal (create_refusal why) old new says

-- ---- the office's code

-- work that leaves the empty world with this code
abbrev made_with : Key → FileEffect
made_with office = record {
  finds = λ version w. ⊥;
  is_new = Unit {0};
  begins = λ Kind. Unit {0};
  ends = λ Comes. Unit {0};
  leaves = λ version Kind. Kind (first_world office);
  serves = λ visit. Unit {0};
}

-- the tables are made with another code than the first line of the input
pub another_code_made_is_refuted : (input : Text) (other : Key) (path : Text) (old new : Option Text) → other ≢ first_line input
    → Inits (only (made_with other)) path (Some input) 0 old new → ⊥
another_code_made_is_refuted input other path old new differs (inl (office, is, inl stopped)) = no_refusal stopped.0 old new stopped.2
another_code_made_is_refuted input other path old new differs (inl (office, is, inr works)) = of works.result works.did works.says
  where
    of : (r : Result (Unit {0}) CreateFault) → MakesTables office r (made_with other)
        → Says (said_of (λ _. success (codes "made\n")) create_refusal r) 0 old new → ⊥
    of (Ok x) did says = differs (ap (λ (w : World). w.office) did.made.1 ∙ is)
    of (Err why) did says = no_refusal (create_refusal why) old new says
another_code_made_is_refuted input other path old new differs (inr (inl bad)) = not_zero bad_code old new (omega arith) bad.1
another_code_made_is_refuted input other path old new differs (inr (inr (inl says))) =
    not_zero (fault cause.Read) old new (omega arith) says
another_code_made_is_refuted input other path old new differs (inr (inr (inr says))) =
    not_zero (fault cause.Memory) old new (omega arith) says

-- the first line is what stands before the line feed, without a carriage return
pub first_line_is_the_code : first_line (codes "office-1\r\nrest\n") ≡ codes "office-1"
first_line_is_the_code = refl

-- ---- another command

abbrev first_byte : Text → ℕ
first_byte text = get_or text 0 0

-- for `report`, the tables of version 1 are upgraded
pub upgrade_for_a_report_is_refuted : (db : Database) (left : Trees) (path : Text) (ends : Devices)
    → (ShowsVersion version (opened_over db) → ⊥) → left ≢ db.trees
    → PerformsNamed {V = Text} Some (only (over db left)) ends 0 (codes "report") path → ⊥
upgrade_for_a_report_is_refuted db left path ends none changed (inl h) =
    let e : 114 ≡ 105 = ap first_byte h.0 in omega (arith, e)
upgrade_for_a_report_is_refuted db left path ends none changed (inr (inl h)) =
    let e : 114 ≡ 112 = ap first_byte h.0 in omega (arith, e)
upgrade_for_a_report_is_refuted db left path ends none changed (inr (inr (inl (is, inl stopped)))) =
    no_refusal stopped.0 ends.before ends.after stopped.2
upgrade_for_a_report_is_refuted db left path ends none changed (inr (inr (inl (is, inr works)))) = of works.result works.did
  where
    of : (r : Result (Result (Vec ℕ Global) KeepFault) OpenFault) → ReportsWorld r (over db left) → ⊥
    of (Ok told) did = tables_without_version_2_are_not_opened told db left none did.opens
    of (Err found) did = refused_tables_that_change_are_refuted found db left changed did.opens
upgrade_for_a_report_is_refuted db left path ends none changed (inr (inr (inr h))) =
    let e : 114 ≡ 117 = ap first_byte h.0 in omega (arith, e)

-- ---- faults

-- `fault memory` for a fault of the store: no part of the lines `fault store` and `fault write` has an m
pub fault_of_memory_told_of_the_store_is_refuted : Says (fault cause.Store) 3 (Some []) (Some (codes "fault memory\n")) → ⊥
fault_of_memory_told_of_the_store_is_refuted (inl h) =
    let e : 2 ≡ 0 = ap (count_by (λ b. b == 109)) h.1 in omega (arith, e)
fault_of_memory_told_of_the_store_is_refuted (inr f) =
    let m : ℕ → ℕ = λ b. cond (b == 109) 1 0 in
    let e : 2 ≡ count_by (λ b. b == 109) (take f.front (codes "fault store\n") ++ take f.fault (codes "fault write\n")) =
    ap (count_by (λ b. b == 109)) f.written in
    let both = sum_by-append m (take f.front (codes "fault store\n")) (take f.fault (codes "fault write\n")) in
    let store : count_by (λ b. b == 109) (take f.front (codes "fault store\n")) ≤ 0 = sum_by-take-le m (codes "fault store\n") f.front in
    let write : count_by (λ b. b == 109) (take f.fault (codes "fault write\n")) ≤ 0 = sum_by-take-le m (codes "fault write\n") f.fault in
    omega (arith, e, both, store, write)

pub fault_of_the_store_is_told : Says (fault cause.Store) 3 (Some []) (Some (codes "fault store\n"))
fault_of_the_store_is_told = inl (refl, refl)

-- ---- the report

-- another text than the report on the world that was found
pub made_up_report_is_refuted : (db : Database) (left : Trees) (w : World) (path text : Text) → StandsCurrent db w
    → text ≢ office_report (office_sees w)
    → Performs (only (over db left)) path (reporting (Some [])) 0 (Some []) (Some text) → ⊥
made_up_report_is_refuted db left w path text stands other (inl stopped) = no_refusal stopped.0 _ _ stopped.2
made_up_report_is_refuted db left w path text stands other (inr works) = of works.result works.did works.says
  where
    of : (r : Result (Result (Vec ℕ Global) KeepFault) OpenFault) → ReportsWorld r (over db left)
        → Says (said_of report_said as_upgrading r) 0 (Some []) (Some text) → ⊥
    of (Ok (Ok told)) did (inl says) =
        another_report_is_refuted told db left w stands (λ e. other (says.1 ∙ e)) did
    of (Ok (Ok told)) did (inr f) = absurd (omega (arith, f.status_is))
    of (Ok (Err found)) did says = not_zero (fault (cause_of found)) _ _ (fault_status (cause_of found)) says
    of (Err found) did says = no_refusal (as_upgrading found) _ _ says

-- ---- replies

abbrev ends_of : Text → Text → Devices
ends_of bytes written = record { remaining = Some bytes; left = Some []; before = Some []; after = Some written }

-- a line after the replies
pub line_after_the_replies_is_refuted : (es : List Exchange) (stream : Stream) (db : Database) (path bytes more : Text) → more ≢ []
    → Performs (only (streaming es stream db)) path (piping {V = Text} Some (ends_of bytes (stream.written ++ more))) 0
    (Some []) (Some (stream.written ++ more)) → ⊥
line_after_the_replies_is_refuted es stream db path bytes more some (inl stopped) = no_refusal stopped.0 _ _ stopped.2
line_after_the_replies_is_refuted es stream db path bytes more some (inr works) = of works.result.0 works.result.1 works.did works.says
  where
    of : (r : Result (Result Served ServeFault) OpenFault) (held : Text)
        → PipesStream r (record (ends_of bytes (stream.written ++ more)) { after = Some held }) (streaming es stream db)
        → Says (said_of stream_said as_upgrading r) 0 (after (Some []) r (Some held)) (Some (stream.written ++ more)) → ⊥
    of (Ok (Ok served)) held did (inl says) =
        let (v, (same, known), reports) = did.serves in
        let told = reports.known bytes [] held refl refl refl in
        let is : IsSomeAnd (Some stream) (λ t. (t.bytes ≡ bytes) × (held ≡ [] ++ t.written)) =
        subst (λ (o : Option Stream). IsSomeAnd o (λ t. (t.bytes ≡ bytes) × (held ≡ [] ++ t.written))) known told in
        let whole : stream.written ++ more ≡ stream.written ++ [] = says.1 ∙ ap (λ (l : Text). l ++ []) is.1 in
        some (append_cancel_left stream.written more [] whole)
    of (Ok (Ok served)) held did (inr f) = absurd (omega (arith, f.status_is))
    of (Ok (Err found)) held did says = not_zero (fault found.cause) _ _ (fault_status found.cause) says
    of (Err found) held did says = no_refusal (as_upgrading found) _ _ says

-- ---- connections served

-- another last line than that of a hall which counts as many connections as were asked for
pub another_last_line_is_refuted : (work : FileEffect) (path line : Text) (port most : ℕ)
    → ((hall : Hall) → hall.accepted ≡ most → line ≢ hall_line hall)
    → Performs (only work) path (serving port most (Some [])) 0 (Some []) (Some (listening_line port ++ line)) → ⊥
another_last_line_is_refuted work path line port most none (inl stopped) = no_refusal stopped.0 _ _ stopped.2
another_last_line_is_refuted work path line port most none (inr works) =
    of works.result.opened works.result.held works.result.ended works.result.listens works.says
  where
    full : (ended : Ended) (hall counted : Hall) (held : Text) → hall.ended ≡ ended → hall ≡ counted → CountsUpTo most counted
        → held ≡ listening_line port
        → Says (hall_said ended (hall_line hall)) 0 (Some held) (Some (listening_line port ++ line)) → ⊥
    full Full hall counted held is same counts begun (inl says) =
        let most_is : hall.accepted ≡ most = ap (λ (h : Hall). h.accepted) same
        ∙ counts.full (sym (ap (λ (h : Hall). h.ended) same) ∙ is) in
        none hall most_is (append_cancel_left (listening_line port) line (hall_line hall)
        (says.1 ∙ ap (λ (l : Text). l ++ hall_line hall) begun))
    full Full hall counted held is same counts begun (inr f) = absurd (omega (arith, f.status_is))
    full StoreFault hall counted held is same counts begun says = not_zero (fault cause.Store) _ _ (omega arith) says
    full ListenFault hall counted held is same counts begun says = not_zero (fault cause.Read) _ _ (omega arith) says

    heard : (held : Option Text) (ended : Result Hall Cause) → Listens port most (Some []) held ended
        → Says (end_said ended) 0 held (Some (listening_line port ++ line)) → ⊥
    heard held (Err found) listens says = not_zero (fault found) _ _ (fault_status found) says
    heard held (Ok hall) (inr h) says = absurd h.2
    heard None (Ok hall) (inl h) says = absurd h.0
    heard (Some held) (Ok hall) (inl h) says = full hall.ended hall h.1 held refl h.3 h.2 h.0 says

    of : (opened : Result (Unit {0}) OpenFault) (held : Option Text) (ended : Result Hall Cause)
        → OnOk opened (Listens port most (Some []) held ended)
        → Says (said_of (λ _. end_said ended) as_upgrading opened) 0 (after (Some []) opened held) (Some (listening_line port ++ line)) → ⊥
    of (Ok x) held ended listens says = heard held ended listens says
    of (Err found) held ended listens says = no_refusal (as_upgrading found) _ _ says

-- such as this one where two connections were asked for
pub one_connection_is_not_the_line_of_two : (hall : Hall) → hall.accepted ≡ 2 → codes "served 1 faults 0\n" ≢ hall_line hall
unfolding digits
one_connection_is_not_the_line_of_two hall two e =
    let line : codes "served 1 faults 0\n" ≡ codes "served " ++ (decimal 2 ++ (codes " faults " ++ (decimal hall.faults ++ codes "\n"))) =
    e ∙ ap (λ n. codes "served " ++ (decimal n ++ (codes " faults " ++ (decimal hall.faults ++ codes "\n")))) two in
    let at : 49 ≡ 50 = ap (λ (l : Text). get_or l 7 0) line in
    omega (arith, at)
