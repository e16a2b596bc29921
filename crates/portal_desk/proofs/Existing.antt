-- A stream whose requests have replies is served in one way without a 503.
use Rattle.portal_desk.proofs.Base.{◌≡◌, ℕ, List, [], ◌∷◌, ◌++◌, refl, sym, ap, ◌∙◌, subst, arith, AllByRecursion, World}
use Rattle.portal_desk.proofs.Base.{Good, Answer, Request, Run, AllAnswered, Exchange, requests_of, replies_of, text}
use Rattle.portal_desk.proofs.Base.{Last, ServesAnswered}
use Rattle.portal_core.specs.Replies.{HasReply}
use Rattle.portal_core.proofs.Going.{run_there}
use Rattle.portal_rules.proofs.Only.{one_run}
use Rattle.portal_wire.specs.Conversation.{Requests, connection_limit}
use Rattle.portal_wire.proofs.Once.{once}

-- requests with their replies
abbrev together : List Request → List Answer → List Exchange
together (r ∷ rs) (a ∷ told) = record { request = r; reply = a } ∷ together rs told
together _ _ = []

paired : (w : World) (rs : List Request) (told : List Answer) (worlds : List World) → Run w rs told worlds
    → (requests_of (together rs told) ≡ rs) × (replies_of (together rs told) ≡ told)
paired w [] [] [] run = (refl, refl)
paired w (r ∷ rs) (a ∷ told) (v ∷ worlds) run =
    let rest = paired v rs told worlds run.1 in (ap (λ l. r ∷ l) rest.0, ap (λ l. a ∷ l) rest.1)
paired w rs told worlds run = grind arith

pub visit_there : (w : World) (bytes : List ℕ) (asked : List Request) (end : Last) (closing : List ℕ) → Good w
    → Requests bytes asked end closing → AllByRecursion (λ r. HasReply r.wish) asked
    → (es : List Exchange) × (written : List ℕ) × (worlds : List World) × ServesAnswered w bytes end es written worlds
visit_there w bytes asked end closing good requests all =
    let r = run_there w asked good all in
    let es : List Exchange = together asked r.0 in
    let p = paired w asked r.0 r.1 r.2 in (
      es,
      text es ++ closing,
      r.1,
      record {
        tells = (closing, subst (λ rs. Requests bytes rs end closing) (sym p.0) requests, refl);
        run = subst (λ rs. Run w rs (replies_of es) r.1) (sym p.0) (subst (λ as'. Run w asked as' r.1) (sym p.1) r.2);
        answered = subst AllAnswered (sym p.1) r.3;
      },
    )

-- exchanges are the same if their requests and replies are
same_pairs : (es fs : List Exchange) → requests_of es ≡ requests_of fs → replies_of es ≡ replies_of fs → es ≡ fs
same_pairs [] [] rs as' = refl
same_pairs [] (f ∷ fs) rs as' = cc
same_pairs (e ∷ es) [] rs as' = cc
same_pairs (e ∷ es) (f ∷ fs) rs as' =
    let request : e.request ≡ f.request = cc in
    let reply : e.reply ≡ f.reply = cc in
    let more : requests_of es ≡ requests_of fs = cc in
    let others : replies_of es ≡ replies_of fs = cc in
    let rest : es ≡ fs = same_pairs es fs more others in
    λ i. record { request = request i; reply = reply i } ∷ rest i

pub visit_once : (w : World) (bytes : List ℕ) (end last : Last) (es fs : List Exchange) (written other : List ℕ)
    (worlds later : List World)
    → ServesAnswered w bytes end es written worlds → ServesAnswered w bytes last fs other later
    → (end ≡ last) × (es ≡ fs) × (written ≡ other) × (worlds ≡ later)
visit_once w bytes end last es fs written other worlds later one two =
    let a = one.tells in
    let b = two.tells in
    let same = once connection_limit bytes (requests_of es) (requests_of fs) a.1.0 b.1.0 end last a.0 b.0 a.1.1 b.1.1 a.1.2 b.1.2 in
    let run : Run w (requests_of es) (replies_of fs) later = subst (λ rs. Run w rs (replies_of fs) later) (sym same.0) two.run in
    let told = one_run w (requests_of es) (replies_of es) (replies_of fs) worlds later one.run one.answered run two.answered in
    let exchanges : es ≡ fs = same_pairs es fs same.0 told.0 in
    (same.1, exchanges, a.2 ∙ (λ i. text (exchanges i) ++ same.2 i) ∙ sym b.2, told.1)
