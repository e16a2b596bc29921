-- The bytes of the replies to one caller.
use Rattle.portal_desk.proofs.Base.{◌≡◌, ℕ, inl, inr, Bool, true, false, List, [], ◌∷◌, ◌++◌, sym, ap, ◌∙◌}
use Rattle.portal_desk.proofs.Base.{if◌then◌else◌, Key, World, view, Answer, Run, AllAnswered, reply_text, Exchange}
use Rattle.portal_desk.proofs.Base.{requests_of, replies_of, exchange_text, AllZip, equals, Sight}
use Rattle.portal_desk.proofs.Base.{texts_to, AlikeTexts, IsLikeAll}
use Rattle.portal_rules.specs.Heard.{HeardItem, Asked, Sees, own_item, SeenIf, Heard, replies_to, SameUpToListOrder}
use Rattle.portal_rules.specs.Heard.{SameRequest, AlikeUntilPublished, shows_own_list, moves_to_published}
use Rattle.portal_rules.proofs.Hearing.{same_replies}
use Rattle.portal_rules.proofs.Disclosed.{places_unseen, unless_map}

-- the marks of the caller's own requests
marks : List HeardItem → List (Bool × Bool)
marks [] = []
marks (Asked head closes wish ∷ items) = (head, closes) ∷ marks items
marks (Sees v ∷ items) = marks items

-- replies written by such marks
texts_by : List (Bool × Bool) → List Answer → List (List ℕ)
texts_by [] answers = []
texts_by (m ∷ ms) [] = []
texts_by (m ∷ ms) (a ∷ answers) = reply_text a m.0 m.1 ∷ texts_by ms answers

unmarked : (b : Bool) (old new : Sight) (seen rest : List HeardItem) → SeenIf b old new seen
    → marks (seen ++ rest) ≡ marks rest
unfolding marks
unmarked true old new seen rest (inl x) = ap (λ s. marks (s ++ rest)) x.1
unmarked true old new seen rest (inr x) = ap (λ s. marks (s ++ rest)) x.1
unmarked false old new seen rest e = ap (λ s. marks (s ++ rest)) e

one : (b : Bool) (e : Exchange) (seen rest : List HeardItem) (texts : List (List ℕ)) (answers : List Answer)
    → marks (seen ++ rest) ≡ marks rest
    → texts ≡ texts_by (marks rest) answers
    → (if b then exchange_text e ∷ texts else texts)
    ≡ texts_by (marks (((if b then Asked e.request.head e.request.closes e.request.wish ∷ [] else []) ++ seen) ++ rest))
    (if b then e.reply ∷ answers else answers)
unfolding marks texts_by
one true e seen rest texts answers none same = ap (λ ts. exchange_text e ∷ ts) (same ∙ ap (λ ms. texts_by ms answers) (sym none))
one false e seen rest texts answers none same = same ∙ ap (λ ms. texts_by ms answers) (sym none)

texts_heard : (c : Key) (w : World) (es : List Exchange) (worlds : List World) (items : List HeardItem)
    → Run w (requests_of es) (replies_of es) worlds
    → Heard c w (requests_of es) worlds items → texts_to c es ≡ texts_by (marks items) (replies_to c (requests_of es) (replies_of es))
unfolding marks texts_by
texts_heard c w [] [] items run heard = ap (λ xs. texts_by (marks xs) []) (sym heard)
texts_heard c w (e ∷ es) (v ∷ worlds) items run (first, rest, (seen, see, is_first), later, all) =
    let none = unmarked _ (view w c) (view v c) seen rest see in
    let more = texts_heard c v es worlds rest run.1 later in
    let whole : items ≡ (own_item c e.request ++ seen) ++ rest = all ∙ ap (λ f. f ++ rest) is_first in
    one (equals e.request.code c) e seen rest (texts_to c es) (replies_to c (requests_of es) (replies_of es)) none more
    ∙ ap (λ xs. texts_by (marks xs) (replies_to c (requests_of (e ∷ es)) (replies_of (e ∷ es)))) (sym whole)
texts_heard c w _ _ items run heard = absurd run

-- the replies to a caller in two runs
pub like_all : (w : World) (es : List Exchange) (worlds : List World) → Run w (requests_of es) (replies_of es) worlds
    → IsLikeAll w es worlds
like_all w es worlds a v fs later b c items all also same heard listened =
    let told = same_replies c w v _ _ _ _ worlds later items a all heard b also listened same in
    let left = texts_heard c w es worlds items a heard in
    let right = texts_heard c v fs later items b listened in
    (left ∙ (ap (texts_by (marks items)) told.0 ∙ sym right), told.1)

text_same : (e f : Exchange) → SameRequest e.request f.request → e.reply ≡ f.reply → exchange_text e ≡ exchange_text f
text_same e f same equals =
    ap (λ a. reply_text a e.request.head e.request.closes) equals
    ∙ (ap (λ h. reply_text f.reply h e.request.closes) same.head ∙ ap (λ x. reply_text f.reply f.request.head x) same.closes)

alike : (es fs : List Exchange) → AllZip SameRequest (requests_of es) (requests_of fs)
    → AlikeUntilPublished (requests_of es) (replies_of es) (replies_of es) (replies_of fs) → AlikeTexts es fs
alike [] fs zip told = tt
alike (e ∷ es) [] zip told = tt
alike (e ∷ es) (f ∷ fs) zip told = (
  unless_map (shows_own_list e.request.wish) _ _ (text_same e f zip.0) told.0,
  unless_map (moves_to_published e.request.wish e.reply) _ _ (alike es fs zip.1) told.1,
)

pub same_places : (w v : World) (es fs : List Exchange) (worlds later : List World) → SameUpToListOrder w v
    → AllZip SameRequest (requests_of es) (requests_of fs)
    → Run w (requests_of es) (replies_of es) worlds → AllAnswered (replies_of es)
    → Run v (requests_of fs) (replies_of fs) later → AllAnswered (replies_of fs) → AlikeTexts es fs
same_places w v es fs worlds later same zip are all were also =
    alike es fs zip (places_unseen w v _ _ _ _ worlds later same zip are all were also)
