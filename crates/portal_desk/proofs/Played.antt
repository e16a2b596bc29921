-- What was decided in a good world may be done, and leaves a good world.
use Rattle.portal_desk.proofs.Base.{◌≡◌, List, sym, ◌∙◌, ap, subst, Key, World, pairs_by, AbstractCall, Nothing, Apply}
use Rattle.portal_desk.proofs.Base.{Decision, decision, Good, Step, view, is_setup, Placements, changed, instance}
use Rattle.portal_desk.proofs.Base.{matching_of, CanPublish, Act, Publish, Render, HasForm, StepLeaves, CanDo, IsSolved}
use Rattle.portal_desk.proofs.Base.{Result, Ok, Err, inl, inr, refl, Bool, Answer, RequestContent, Answers, Calls}
use Rattle.portal_desk.proofs.Base.{Serves}
use Rattle.portal_desk.proofs.Base.{Wanted, request_of, reply_model, unavailable, KeeperState, IsAlive, AfterCall, Looks}
use Rattle.portal_desk.proofs.Base.{Changes, MayLeave, Acted}
use Rattle.std.specs.Prelude.{IfOk, OnOk, OnErr, MatchResult}
use Rattle.portal_rules.specs.declared.keeper.KeepFault.{KeepFault}
use Rattle.portal_rules.specs.declared.decision.Reply.{Reply}
use Rattle.portal_wire.specs.Wish.{wish_of}
use Rattle.spa_model.specs.Spa.{Spa, IsBest}
use Rattle.portal_rules.proofs.Kept.{to_published}
use Rattle.portal_rules.proofs.Play.{can_apply, can_publish}
use Rattle.portal_rules.proofs.Published.{pairs_place}
use Rattle.portal_rules.proofs.Steps.{step_good}
use Rattle.portal_desk.proofs.InTurn.{uses_then}

-- the solved pairs place the students as the best matching does
pub solved_best : (w : World) (i : Spa) (pairs : List (Key × Key)) → Good w → i ≡ instance w → IsSolved i pairs
    → IsBest (instance w) (matching_of (changed w (Placements pairs)))
solved_best w i pairs g is solved =
    let best : IsBest (instance w) solved.0 = subst (λ j. IsBest j solved.0) is solved.1 in
    let by : pairs ≡ pairs_by (instance w).student_keys (instance w).project_keys solved.0 = solved.2
    ∙ ap (λ (j : Spa). pairs_by j.student_keys j.project_keys solved.0) is in
    subst (λ ps. IsBest (instance w) (matching_of (changed w (Placements ps)))) (sym by)
    (subst (IsBest (instance w)) (sym (pairs_place w solved.0 g.sound best.stable.matching)) best)

pub solved_good : (w : World) (i : Spa) (pairs : List (Key × Key)) → Good w → CanPublish w → i ≡ instance w
    → IsSolved i pairs → Good (changed w (Placements pairs))
solved_good w i pairs g ready is solved =
    to_published w pairs g (ap is_setup ready.phase) ready.all_ranked (solved_best w i pairs g is solved)

-- what was decided of a view, where it is known which view that is
pub of_shown : {T E V D A B : Type 0} (r : Result T E) (f : T → D) (h : V → D) (v u : V) → (A → B → v ≡ u)
    → IfOk r (λ d. f d ≡ h v)
    → IfOk r (λ d. A → B → f d ≡ h u)
of_shown (Ok d) f h v u shown decided = λ a b. decided ∙ ap h (shown a b)
of_shown (Err e) f h v u shown decided = tt

-- what was decided may be done
pub can_do : (w : World) (code : Key) (ask : AbstractCall) (d : Decision) → Good w → HasForm ask
    → d ≡ decision (view w code) ask → CanDo w d.act
can_do w code ask d g form is = go d.act (sym (ap (λ (e : Decision). e.act) is))
  where
    go : (a : Act) → (decision (view w code) ask).act ≡ a → CanDo w a
    go Nothing e = tt
    go (Apply change) e = can_apply w code ask change g form e
    go Publish e = can_publish w code ask e
    go (Render sheet) e = tt

pub stepped : (w v : World) (code : Key) (ask : AbstractCall) (d : Decision) → HasForm ask
    → d ≡ decision (view w code) ask → StepLeaves w d.act v → Step w code ask d.reply v
stepped w v code ask d form is left =
    record {
      form = form;
      told = ap (λ (e : Decision). e.reply) is;
      left = subst (λ (e : Decision). StepLeaves w e.act v) is left;
    }

pub good_after : (w v : World) (code : Key) (ask : AbstractCall) (d : Decision) → Good w → HasForm ask
    → d ≡ decision (view w code) ask → StepLeaves w d.act v → Good v
good_after w v code ask d g form is left = step_good w v code ask d.reply g (stepped w v code ask d form is left)

-- what publishing leaves
pub published : (w u v : World) (i : Spa) (pairs : List (Key × Key)) → Good w → i ≡ instance w → IsSolved i pairs
    → u ≡ w → v ≡ changed u (Placements pairs) → StepLeaves w Publish v
published w u v i pairs g is solved same made =
    let end : v ≡ changed w (Placements pairs) = made ∙ ap (λ x. changed x (Placements pairs)) same in
    (pairs, end, subst (λ x. IsBest (instance w) (matching_of x)) (sym end) (solved_best w i pairs g is solved))

-- what performing the act that was decided makes
pub performed : {A B : Type 0} (d : A) (r : Result B KeepFault) (old mid new : KeeperState) (code : Key) (ask : AbstractCall) (e : Decision)
    → HasForm ask → Looks (Ok d) old mid → IsAlive mid
    → (mid.clean → e ≡ decision (view old.world code) ask) → Changes r mid new (StepLeaves mid.world e.act)
    → AfterCall r old new (λ w. (old.broken → ⊥) × (old.clean → (reply : Answer) × Step old.world code ask reply w))
performed d r old mid new code ask e form looks alive decided changes =
    uses_then d r old mid new _ _ looks.uses changes.uses (λ disk w made.
    let before = (changes.uses.breaks disk).0 in (
      λ bad. alive before ((looks.uses.breaks before).2 bad),
      λ on.
          let up = (looks.uses.lasts before).1 on in
          (e.reply, stepped old.world w code ask e form (decided up) (subst (λ x. StepLeaves x e.act w) (looks.same up) (made up))),
    ))

-- what playing a call for a request does to a keeper
pub acted : (r : Result Reply KeepFault) (old new : KeeperState) (closes : Bool) (a : RequestContent) (code : Key) (ask : AbstractCall)
    (reply : Reply)
    → code ≡ a.code → wish_of a ≡ Calls ask
    → AfterCall r old new (λ w. (old.broken → ⊥) × (old.clean → (other : Answer) × Step old.world code ask other w)) → OnOk r (IsAlive new)
    → IfOk r (λ told. new.clean → Step old.world code ask (reply_model told) new.world) → OnErr r (new.clean → new.world ≡ old.world)
    → MatchResult r (λ told. reply ≡ told) (λ _. reply_model reply ≡ unavailable) → Acted old new (request_of closes a) (reply_model reply)
acted r old new closes a code ask reply own is uses alive step same told = go r uses alive step same told
  where
    answers : (other : Answer) (w : World) → Step old.world code ask other w
        → Serves old.world (request_of closes a) other w
    answers other w made = inl (subst (λ wish. Answers old.world (request_of closes a) wish other w) (sym is)
        (subst (λ c. Step old.world c ask other w) own made))

    may_leave : (w : World) → (new.broken → reply_model reply ≡ unavailable)
        → (old.broken → ⊥) × (old.clean → (other : Answer) × Step old.world code ask other w)
        → MayLeave old new (request_of closes a) (reply_model reply) w
    may_leave w untold (alive, made) = record { alive = alive; untold = untold; turned = λ on. let m = made on in (m.0, answers m.0 w m.1) }

    go : (r : Result Reply KeepFault)
        → AfterCall r old new (λ w. (old.broken → ⊥) × (old.clean → (other : Answer) × Step old.world code ask other w))
        → OnOk r (IsAlive new)
        → IfOk r (λ told. new.clean → Step old.world code ask (reply_model told) new.world) → OnErr r (new.clean → new.world ≡ old.world)
        → MatchResult r (λ told. reply ≡ told) (λ _. reply_model reply ≡ unavailable)
        → Acted old new (request_of closes a) (reply_model reply)
    go (Ok v) uses alive step same told = record {
      clean = uses.clean;
      serves = λ on. answers (reply_model reply) new.world
          (subst (λ x. Step old.world code ask (reply_model x) new.world) (sym told) (step on));
      lasts = λ other. uses.lasts;
      breaks = uses.breaks;
      broken = λ disk bad w. absurd (alive disk bad);
      settled = λ rest on. uses.settled on;
      leaves = λ disk w left. elim (uses.leaves disk w left) [
        | inl was ↦ inl was
        | inr so ↦ inr
            (may_leave w (λ bad. absurd (alive disk bad)) so)
      ];
    }
    go (Err e) uses alive step same told = record {
      clean = uses.clean;
      serves = λ on. inr (told, same on);
      lasts = λ other. absurd (other told);
      breaks = uses.breaks;
      broken = λ disk bad w. inr (told, refl);
      settled = λ rest on. uses.settled on;
      leaves = λ disk w left. elim (uses.leaves disk w left) [ inl was ↦ inl was | inr so ↦ inr (may_leave w (λ bad. told) so) ];
    }

-- a request that leaves the keeper alone
pub acted_none : (s : KeeperState) (r : Wanted) (reply : Answer) → ((w : World) → Serves w r reply w)
    → Acted s s r reply
acted_none s r reply serves = record {
  clean = λ on. on;
  serves = λ on. serves s.world;
  lasts = λ other disk. (disk, λ on. on);
  breaks = λ disk. (disk, λ on. inl on, λ bad. bad);
  broken = λ disk bad. serves;
  settled = λ rest on. rest;
  leaves = λ disk w left. inl left;
}
