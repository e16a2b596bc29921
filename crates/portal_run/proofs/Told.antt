-- What a command over a database says of what came of its work.
use Rattle.portal_run.proofs.Base.{◌≡◌, ℕ, Option, None, Result, Ok, Err, IfOk, IfErr, OnOk, MatchResult, refl, subst, inl, inr}
use Rattle.portal_run.proofs.Base.{◌⊎◌, Text, Output, Says, refusal}
use Rattle.std.proofs.Common.{List}
use Rattle.std.proofs.lemmas.Result.{IfErr-weaker, IfOk-weaker, on_ok_weaker}
use Rattle.portal_wire.specs.Conversation.{Exchange}
use Rattle.sqlite.specs.declared.error.Error.{Error}
use Rattle.sqlite.specs.declared.error.Error.TheVariants.{SqliteFailure}
use Rattle.sqlite.specs.declared.error.ErrorCode.TheVariants.{OutOfMemory}
use Rattle.portal_store.specs.declared.store.UpgradeFault.{UpgradeFault}
use Rattle.portal_store.specs.declared.store.UpgradeFault.TheVariants.{Store, Memory}
use Rattle.portal_file.specs.Tables.{FileEffect}
use Rattle.portal_run.specs.declared.place.Place.{Place}
use Rattle.portal_store.specs.Crash.{as_upgrading}
use Rattle.portal_store.specs.declared.store.OpenFault.{OpenFault}
use Rattle.portal_desk.specs.declared.served.Cause.{Cause}
use Rattle.portal_desk.specs.declared.served.Cause.TheVariants as cause
use Rattle.portal_desk.specs.declared.served.Served.{Served}
use Rattle.portal_desk.specs.declared.served.ServeFault.{ServeFault}
use Rattle.portal_serve.specs.declared.server.Hall.{Hall}
use Rattle.portal_serve.specs.declared.server.Ended.TheVariants.{Full}
use Rattle.portal_file.specs.Jobs.{Devices, PipesStream, ServesRequests}
use Rattle.portal_words.specs.Line.{TakesDatabase}
use Rattle.portal_words.specs.declared.command.Command.{Command}
use Rattle.portal_words.specs.declared.command.Command.TheVariants as command
use Rattle.portal_words.specs.inner.Asks.{IsOverDatabase}
use Rattle.portal_run.specs.Databases.{Known, known, Inits, IsEndOf, Listens, Performs, PerformsCommand, PerformsNamed, after, said_of}
use Rattle.portal_run.specs.Databases.{end_said, piping, reporting, serving, stream_said, unless_database, upgrading}
use Rattle.portal_run.specs.inner.Input.{SaysEnd, connect_refusal}

connect_stops : (error : Error) → (connect_refusal error ≡ Store) ⊎ (connect_refusal error ≡ Memory)
connect_stops (SqliteFailure OutOfMemory) = inr refl
connect_stops _ = inl refl

-- some result of the work, of which this holds, is told; or that no file was opened
abbrev pub IsTold : {A E C : Type 0} → (Result A E → C → Type 0) → (A → Output) → (E → UpgradeFault) → ℕ → (old mid new : Option Text)
    → Type 0
IsTold {A} {E} {C} P line why status old mid new =
    ((r : Result A E) × (closed : C) × P r closed × Says (said_of line why r) status (after old r mid) new)
    ⊎ ((w : UpgradeFault) × ((w ≡ Store) ⊎ (w ≡ Memory)) × Says (refusal w) status old new)

-- the call of a command's work, what came of it, and what was said of that
pub record Tells {A E C : Type 0} (P : Result A E → C → Type 0) (line : A → Output) (why : E → UpgradeFault) (status : ℕ)
    (old mid new : Option Text) (call : Result (Result A E × C) Error) (done : Result A UpgradeFault) : Type 0 where
  pub ok : IfOk call (λ r. IfOk r.0 (λ x. done ≡ Ok x))
  pub refused : IfOk call (λ r. IfErr r.0 (λ found. done ≡ Err (why found)))
  pub closed : IfErr call (λ error. done ≡ Err (connect_refusal error))
  pub did : IfOk call (λ r. P r.0 r.1)
  pub kept : IfOk call (λ r. IfErr r.0 (λ _. mid ≡ old))
  pub same : IfErr call (λ _. mid ≡ old)
  pub says : MatchResult done (λ x. Says (line x) status mid new) (λ w. Says (refusal w) status mid new)

abbrev SaysDone : {A : Type 0} → (A → Output) → ℕ → (mid new : Option Text) → Result A UpgradeFault → Type 0
SaysDone line status mid new done = MatchResult done (λ x. Says (line x) status mid new) (λ w. Says (refusal w) status mid new)

one_told : {A E C : Type 0} (P : Result A E → C → Type 0) (line : A → Output) (why : E → UpgradeFault) (status : ℕ)
    (old mid new : Option Text)
    (r : Result A E) (c : C) (done : Result A UpgradeFault) → IfOk r (λ x. done ≡ Ok x) → IfErr r (λ found. done ≡ Err (why found)) → P r c
    → IfErr r (λ _. mid ≡ old) → SaysDone line status mid new done
    → IsTold P line why status old mid new
one_told P line why status old mid new (Ok x) c done ok refused did kept says =
    inl (Ok x, c, did, subst (SaysDone line status mid new) ok says)
one_told P line why status old mid new (Err found) c done ok refused did kept says =
    let told : Says (refusal (why found)) status mid new = subst (SaysDone line status mid new) refused says in
    inl (Err found, c, did, subst (λ o. Says (refusal (why found)) status o new) kept told)

pub is_told : {A E C : Type 0} (P : Result A E → C → Type 0) (line : A → Output) (why : E → UpgradeFault) (status : ℕ)
    (old mid new : Option Text)
    (call : Result (Result A E × C) Error) (done : Result A UpgradeFault) → Tells P line why status old mid new call done
    → IsTold P line why status old mid new
is_told P line why status old mid new (Ok r) done tells =
    one_told P line why status old mid new r.0 r.1 done tells.ok tells.refused tells.did tells.kept tells.says
is_told P line why status old mid new (Err error) done tells =
    let told : Says (refusal (connect_refusal error)) status mid new = subst (SaysDone line status mid new) tells.closed tells.says in
    inr (connect_refusal error, connect_stops error, subst (λ o. Says (refusal (connect_refusal error)) status o new) tells.same told)

after_same : {A E : Type 0} (old : Option Text) (r : Result A E) → after old r old ≡ old
after_same old (Ok x) = refl
after_same old (Err found) = refl

-- a call of work that writes nothing
pub kept_none : {A E C : Type 0} (old : Option Text) (call : Result (Result A E × C) Error) → IfOk call (λ r. IfErr r.0 (λ _. old ≡ old))
kept_none old (Ok (Ok x, closed)) = tt
kept_none old (Ok (Err found, closed)) = refl
kept_none old (Err error) = tt

pub same_none : {A : Type 0} (old : Option Text) (call : Result A Error) → IfErr call (λ _. old ≡ old)
same_none old (Ok r) = tt
same_none old (Err error) = refl

-- what was said of a call's success, or of its refusal
pub done_said : {A : Type 0} (line : A → Output) (status : ℕ) (mid new : Option Text) (done : Result A UpgradeFault)
    → IfOk done (λ x. Says (line x) status mid new) → IfErr done (λ w. Says (refusal w) status mid new) → SaysDone line status mid new done
done_said line status mid new (Ok x) ok err = ok
done_said line status mid new (Err w) ok err = err

-- a command whose work writes nothing
pub performed : {F C A E : Type 0} (stands : F → Text → Place → Type 0) (over : F → Text → C → (FileEffect → Type 0) → Type 0) (files : F)
    (path : Text)
    (refuses : Place → Option UpgradeFault) (does : Result A E → FileEffect → Type 0) (line : A → Output) (why : E → UpgradeFault)
    (status : ℕ) (old new : Option Text)
    (call : Result (Result A E × C) Error) (done : Result A UpgradeFault)
    → (place : Place) × stands files path place × (refuses place ≡ None)
    → Tells (λ r closed. over files path closed (does r)) line why status old old new call done
    → Performs (known stands over files) path
    (record { refuses = refuses; does = does; held = λ _. old; says = said_of line why }) status old new
performed stands over files path refuses does line why status old new call done found tells =
    elim (is_told _ line why status old old new call done tells) [
      | inl h ↦ inr (record {
        place = found.0;
        stands = found.1;
        taken = found.2;
        result = h.0;
        did = (h.1, h.2);
        says = subst (λ o. Says (said_of line why h.0) status o new) (after_same old h.0) h.3;
      })
      | inr h ↦ inl (h.0, inl h.1, h.2)
    ]

-- `pipe`
pub piped : {F C V : Type 0} (stands : F → Text → Place → Type 0) (over : F → Text → C → (FileEffect → Type 0) → Type 0) (files : F)
    (path : Text)
    (held : V → Option Text) (ends : Devices) (status : ℕ) (mid : V) (call : Result (Result (Result Served ServeFault) OpenFault × C) Error)
    (done : Result (Result Served ServeFault) UpgradeFault)
    → (place : Place) × stands files path place × (unless_database place ≡ None)
    → Tells (λ r closed. over files path closed (PipesStream r (record ends { after = held mid }))) stream_said as_upgrading status
    ends.before (held mid) ends.after call done
    → Performs (known stands over files) path (piping held ends) status ends.before ends.after
piped stands over files path held ends status mid call done found tells =
    elim (is_told _ stream_said as_upgrading status ends.before (held mid) ends.after call done tells) [
      | inl h ↦ inr (record {
        place = found.0;
        stands = found.1;
        taken = found.2;
        result = (h.0, mid);
        did = (h.1, h.2);
        says = h.3;
      })
      | inr h ↦ inl (h.0, inl h.1, h.2)
    ]

-- what holds of a call's success
pub on_call : {A E C P Q : Type 0} (call : Result (Result A E × C) Error) → IfOk call (λ r. OnOk r.0 P) → (P → Q)
    → IfOk call (λ r. OnOk r.0 Q)
on_call call h f = IfOk-weaker call _ _ (λ r k. on_ok_weaker r.0 f k) h

-- a value that stays has what it had
pub kept_by : {A E C V : Type 0} (mid old : Option Text) (a b : V) (call : Result (Result A E × C) Error)
    → IfOk call (λ r. IfErr r.0 (λ _. b ≡ a)) → (b ≡ a → mid ≡ old) → IfOk call (λ r. IfErr r.0 (λ _. mid ≡ old))
kept_by mid old a b call same f = IfOk-weaker call _ _ (λ r k. IfErr-weaker r.0 _ _ (λ _ e. f e) k) same

pub same_by : {A V : Type 0} (mid old : Option Text) (a b : V) (call : Result A Error) → IfErr call (λ _. b ≡ a) → (b ≡ a → mid ≡ old)
    → IfErr call (λ _. mid ≡ old)
same_by mid old a b call same f = IfErr-weaker call _ _ (λ _ e. f e) same

-- a name that stays, whatever came of the call
pub name_stays : {A E C V N : Type 0} (L : Type 0) (n m : N) (a b : V) (call : Result (Result A E × C) Error)
    → IfOk call (λ r. OnOk r.0 ((es : List Exchange) × ((m ≡ n) × L))) → IfOk call (λ r. IfErr r.0 (λ _. b ≡ a)) → IfErr call (λ _. b ≡ a)
    → (b ≡ a → m ≡ n) → m ≡ n
name_stays L n m a b (Ok (Ok x, closed)) told refused lost f = told.1.0
name_stays L n m a b (Ok (Err found, closed)) told refused lost f = f refused
name_stays L n m a b (Err error) told refused lost f = f lost

both : {A E : Type 0} (P Q : A → Type 0) (call : Result A E) → IfOk call P → IfOk call Q → IfOk call (λ r. P r × Q r)
both P Q (Ok r) p q = (p, q)
both P Q (Err error) p q = tt

-- memory ran out for the line of a full hall
no_line : (port most : ℕ) (old mid : Option Text) (ended : Result Hall Cause) (hall : Hall) → ended ≡ Ok hall → hall.ended ≡ Full
    → Listens port most old mid ended → Listens port most old mid (Err cause.Memory)
no_line port most old mid ended hall is full (inl h) =
    let same : hall ≡ h.1 = subst (IsEndOf h.1) is h.3 in
    inl (h.0, h.1, h.2, subst (λ (x : Hall). x.ended ≡ Full) same full)
no_line port most old mid ended hall is full (inr h) = inr (h.0, h.1, tt)

-- what is known of the call of `serve`, what came of it, and what was said of that
pub record Heard {C : Type 0} (Did : Result (Unit {0}) OpenFault → C → Type 0) (port most : ℕ) (old mid new : Option Text)
    (ended : Result Hall Cause) (status : ℕ) (call : Result (Result (Unit {0}) OpenFault × C) Error)
    (done : Result (Unit {0}) UpgradeFault) : Type 0 where
  pub ok : IfOk call (λ r. IfOk r.0 (λ x. done ≡ Ok x))
  pub refused : IfOk call (λ r. IfErr r.0 (λ found. done ≡ Err (as_upgrading found)))
  pub closed : IfErr call (λ error. done ≡ Err (connect_refusal error))
  pub did : IfOk call (λ r. Did r.0 r.1)
  pub listens : IfOk call (λ r. OnOk r.0 (Listens port most old mid ended))
  pub kept : IfOk call (λ r. IfErr r.0 (λ _. mid ≡ old))
  pub same : IfErr call (λ _. mid ≡ old)

module _ {F C : Type 0} (stands : F → Text → Place → Type 0) (over : F → Text → C → (FileEffect → Type 0) → Type 0) (files : F)
    (path : Text)
    (port most : ℕ) (old mid new : Option Text) (status : ℕ) (call : Result (Result (Unit {0}) OpenFault × C) Error)
    (done : Result (Unit {0}) UpgradeFault) (found : (place : Place) × stands files path place × (unless_database place ≡ None)) where
  -- `serve`, where this end of listening is told
  served_as : (ended end : Result Hall Cause)
      → Heard (λ r closed. over files path closed (ServesRequests r (λ _. Unit {0}))) port most old mid new ended status call done
      → IfOk call (λ r. OnOk r.0 (Listens port most old mid end)) → SaysDone (λ _. end_said end) status mid new done
      → Performs (known stands over files) path (serving port most old) status old new
  served_as ended end heard listens says =
      elim (is_told (λ r closed. over files path closed (ServesRequests r (λ _. Unit {0})) × OnOk r (Listens port most old mid end))
      (λ _. end_said end) as_upgrading status old mid new call done (record {
        ok = heard.ok;
        refused = heard.refused;
        closed = heard.closed;
        did = both _ _ call heard.did listens;
        kept = heard.kept;
        same = heard.same;
        says = says;
      })) [
        | inl h ↦ inr (record {
          place = found.0;
          stands = found.1;
          taken = found.2;
          result = record { opened = h.0; held = mid; ended = end; listens = h.2.1 };
          did = (h.1, h.2.0);
          says = h.3;
        })
        | inr h ↦ inl (h.0, inl h.1, h.2)
      ]

end_told : {F C : Type 0} (stands : F → Text → Place → Type 0) (over : F → Text → C → (FileEffect → Type 0) → Type 0) (files : F)
    (path : Text)
    (port most : ℕ) (old mid new : Option Text) (ended : Result Hall Cause) (status : ℕ)
    (call : Result (Result (Unit {0}) OpenFault × C) Error) (done : Result (Unit {0}) UpgradeFault)
    → (place : Place) × stands files path place × (unless_database place ≡ None)
    → MatchResult done (λ _. SaysEnd ended status mid new) (λ why. Says (refusal why) status mid new)
    → Heard (λ r closed. over files path closed (ServesRequests r (λ _. Unit {0}))) port most old mid new ended status call done
    → Performs (known stands over files) path (serving port most old) status old new
end_told stands over files path port most old mid new ended status call (Err why) found says heard =
    served_as stands over files path port most old mid new status call (Err why) found ended ended heard heard.listens says
end_told stands over files path port most old mid new ended status call (Ok x) found (inl says) heard =
    served_as stands over files path port most old mid new status call (Ok x) found ended ended heard heard.listens says
end_told stands over files path port most old mid new ended status call (Ok x) found (inr (hall, is, full, says)) heard =
    served_as stands over files path port most old mid new status call (Ok x) found ended (Err cause.Memory) heard
    (on_call call heard.listens (no_line port most old mid ended hall is full)) says

pub served : {F C V : Type 0} (stands : F → Text → Place → Type 0) (over : F → Text → C → (FileEffect → Type 0) → Type 0) (files : F)
    (path : Text)
    (port most : ℕ) (held : V → Option Text) (old : Option Text) (v w : V) (new : Option Text) (ended : Result Hall Cause) (status : ℕ)
    (call : Result (Result (Unit {0}) OpenFault × C) Error) (done : Result (Unit {0}) UpgradeFault)
    → (place : Place) × stands files path place × (unless_database place ≡ None)
    → MatchResult done (λ _. SaysEnd ended status (held w) new) (λ why. Says (refusal why) status (held w) new)
    → w ≡ v
    → Heard (λ r closed. over files path closed (ServesRequests r (λ _. Unit {0}))) port most old (held v) new ended status call done
    → Performs (known stands over files) path (serving port most old) status old new
served stands over files path port most held old v w new ended status call done found says is heard =
    end_told stands over files path port most old (held v) new ended status call done found
    (subst (λ x. MatchResult done (λ _. SaysEnd ended status (held x) new) (λ why. Says (refusal why) status (held x) new)) is says) heard

-- the command that the words name
pub named : {V : Type 0} (held : V → Option Text) (k : Known) (ends : Devices) (status : ℕ) (name db : Text) (asked : Command)
    → IsOverDatabase name db asked
    → PerformsCommand held k ends status asked → PerformsNamed held k ends status name db
named held k ends status name db (command.Init path) is does =
    inl (is.0, subst (λ d. Inits k d ends.remaining status ends.before ends.after) is.1 does)
named held k ends status name db (command.Pipe path) is does =
    inr (inl (is.0, subst (λ d. Performs k d (piping held ends) status ends.before ends.after) is.1 does))
named held k ends status name db (command.Report path) is does =
    inr (inr (inl (is.0, subst (λ d. Performs k d (reporting ends.before) status ends.before ends.after) is.1 does)))
named held k ends status name db (command.Upgrade path) is does =
    inr (inr (inr (
      is.0,
      subst (λ d. Performs {R = Result (Unit {0}) UpgradeFault} k d
          (upgrading ends.before) status ends.before ends.after) is.1 does,
    )))
named held k ends status name db _ is does = absurd is

-- words that cannot be
pub shown : {V : Type 0} (held : V → Option Text) (k : Known) (ends : Devices) (status : ℕ) (name db : Text) → ⊥
    → PerformsNamed held k ends status name db
shown held k ends status name db never = absurd never

-- no memory for the words
pub unread : {V : Type 0} (held : V → Option Text) (k : Known) (ends : Devices) (status : ℕ) (name db : Text) → TakesDatabase name
    → Says (refusal Memory) status ends.before ends.after → PerformsNamed held k ends status name db
unread held k ends status name db (inl e) says = inl (e, inr (inr (inr says)))
unread held k ends status name db (inr (inl e)) says = inr (inl (e, inl (Memory, inl (inr refl), says)))
unread held k ends status name db (inr (inr (inl e))) says = inr (inr (inl (e, inl (Memory, inl (inr refl), says))))
unread held k ends status name db (inr (inr (inr e))) says = inr (inr (inr (e, inl (Memory, inl (inr refl), says))))
