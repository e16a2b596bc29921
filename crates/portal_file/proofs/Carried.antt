-- What each command promises of work over a connection, it promises of the work over the files.
use Rattle.std.proofs.Common.{List, Result}
use Rattle.std.specs.Prelude.{Vec}
use Rattle.std.specs.declared.alloc.Global.{Global}
use Rattle.portal_rules.specs.Words.{Key}
use Rattle.portal_rules.specs.declared.keeper.KeepFault.{KeepFault}
use Rattle.portal_wire.specs.Conversation.{Exchange}
use Rattle.portal_desk.specs.declared.served.Served.{Served}
use Rattle.portal_desk.specs.declared.served.ServeFault.{ServeFault}
use Rattle.portal_store.specs.declared.store.CreateFault.{CreateFault}
use Rattle.portal_store.specs.declared.store.OpenFault.{OpenFault}
use Rattle.portal_store.specs.declared.store.UpgradeFault.{UpgradeFault}
use Rattle.portal_file.specs.Tables.{FileEffect, First, Current, Either, idle}
use Rattle.portal_file.specs.Jobs.{Devices, MakesTables, OpensTables, PipesStream, ReportsWorld, ServesRequests}
use Rattle.portal_file.specs.Jobs.{UpgradesTables}
use Rattle.portal_file.proofs.Base.{on_ok, if_ok, if_err}
use Rattle.portal_file.proofs.Held.{Carries}

pub makes : {A : Type 0} (office : Key) (r : Result A CreateFault) (a b : FileEffect) → Carries a b → MakesTables office r a
    → MakesTables office r b
makes office r a b on is = record {
  serves = on.serves idle is.serves;
  made = on_ok r (λ made. (made.0, on.leaves Current _ made.1)) is.made;
  lasting = on_ok r (λ lasting. on.ends _ lasting) is.lasting;
  none = on_ok r (λ none w finds. none w (on.finds Either w finds)) is.none;
  judged = on.begins _ is.judged;
  exists = λ exists new. is.exists exists (on.is_new new);
  kept = if_err r _ _ (λ fault kept. on.ends _ kept) is.kept;
}

pub upgrades : {A : Type 0} (r : Result A UpgradeFault) (a b : FileEffect) → Carries a b → UpgradesTables r a
    → UpgradesTables r b
upgrades r a b on is = record {
  serves = on.serves idle is.serves;
  upgraded = on_ok r (λ upgraded w finds. on.leaves Current _ (upgraded w (on.finds First w finds))) is.upgraded;
  lasting = on_ok r (λ lasting. on.ends _ lasting) is.lasting;
  none = on_ok r (λ none w finds. none w (on.finds Current w finds)) is.none;
  judged = on.begins _ is.judged;
  stood = on_ok r (λ stood. on.begins _ stood) is.stood;
  refused = if_err r _ _ (λ fault refused w finds. refused w (on.finds First w finds)) is.refused;
  kept = if_err r _ _ (λ fault kept. on.ends _ kept) is.kept;
}

opens : {A : Type 0} (r : Result A OpenFault) (a b : FileEffect) → Carries a b → OpensTables r a → OpensTables r b
opens r a b on is = record {
  judged = on.begins _ is.judged;
  stood = on_ok r (λ stood. on.begins _ stood) is.stood;
  refused = if_err r _ _ (λ fault refused w finds. refused w (on.finds Current w finds)) is.refused;
  lasting = on_ok r (λ lasting. on.ends _ lasting) is.lasting;
  kept = if_err r _ _ (λ fault kept. on.ends _ kept) is.kept;
}

pub reports : (r : Result (Result (Vec _ Global) KeepFault) OpenFault) (a b : FileEffect) → Carries a b → ReportsWorld r a
    → ReportsWorld r b
reports r a b on is = record {
  serves = on.serves idle is.serves;
  opens = opens r a b on is.opens;
  text = if_ok r _ _ (λ told. if_ok told _ _ (λ text of w finds. of w (on.finds Either w finds))) is.text;
}

pub serves : {A : Type 0} (Told : List Exchange → Type 0) (r : Result A OpenFault) (a b : FileEffect) → Carries a b
    → ServesRequests r Told a → ServesRequests r Told b
serves Told r a b on is = record {
  serves = let s = is.serves in (s.0, on.serves _ s.1, s.2);
  opens = opens r a b on is.opens;
}

pub pipes : (ends : Devices) (r : Result (Result Served ServeFault) OpenFault) (a b : FileEffect) → Carries a b
    → PipesStream r ends a → PipesStream r ends b
pipes ends r a b on is = record {
  serves = let s = is.serves in (s.0, on.serves s.0 s.1, s.2);
  opens = opens r a b on is.opens;
}
