-- The bytes of a reply, the requests of a whole stream with its ending, and the replies to them.
use Rattle.std.specs.Prelude.{ℕ, Bool, if◌then◌else◌, ◌==◌, List, [], ◌∷◌, ◌++◌, length, codes, decimal, ◌≡◌, ◌-◌, true}
use Rattle.std.specs.Prelude.{false, ◌||◌, nat_le}
use Rattle.serde_json.specs.Written.{compact_text}
use Rattle.portal_rules.specs.Answer.{Answer, Said, Json, Csv, Plain, Unavailable}
use Rattle.std.specs.Bool.{MatchBool}
use Rattle.portal_rules.specs.World.{World}
use Rattle.portal_rules.specs.Run.{Request, Run, end_of}
use Rattle.portal_frame.specs.Stream.{RequestContent, RefusalContent, Whole, Faulty, Over, Opens, is_head}
use Rattle.portal_wire.specs.declared.Ending.{Ending}
use Rattle.portal_wire.specs.declared.Ending.TheVariants as ending
use Rattle.portal_wire.specs.Wish.{answer_to, wish_of}

-- the most requests of a connection
abbrev pub connection_limit : ℕ
connection_limit = 256

-- the reason phrase of a status; any status that is not here has that of 503
abbrev pub phrase_of : ℕ → List ℕ
phrase_of status =
    if status == 200 then codes "OK"
    else (if status == 400 then codes "Bad Request"
    else (if status == 403 then codes "Forbidden"
    else (if status == 404 then codes "Not Found"
    else (if status == 405 then codes "Method Not Allowed"
    else (if status == 409 then codes "Conflict"
    else (if status == 413 then codes "Content Too Large"
    else (if status == 422 then codes "Unprocessable Content"
    else (if status == 501 then codes "Not Implemented"
    else codes "Service Unavailable"))))))))

-- the content type of a body
abbrev pub type_of : Said → List ℕ
type_of (Csv bytes) = codes "text/csv; charset=utf-8"
type_of (Plain bytes) = codes "text/plain; charset=utf-8"
type_of _ = codes "application/json"

-- the body of the reply after a fault of memory or the store
unfoldable pub unavailable_body : List ℕ
unavailable_body = codes "{\"error\":\"unavailable\"}"

abbrev pub body_bytes : Said → List ℕ
body_bytes (Json d) = compact_text d
body_bytes (Csv bytes) = bytes
body_bytes (Plain bytes) = bytes
body_bytes Unavailable = unavailable_body

abbrev pub crlf : List ℕ
crlf = 13 ∷ 10 ∷ []

-- the Allow line, if the reply lists methods
abbrev pub allow_line : List ℕ → List ℕ
allow_line [] = []
allow_line (b ∷ allow) = codes "allow: " ++ (b ∷ allow) ++ crlf

abbrev pub close_line : Bool → List ℕ
close_line close = if close then codes "connection: close" ++ crlf else []

-- the status line and the header lines that every reply has
unfoldable pub common_lines : ℕ → Said → ℕ → List ℕ
common_lines status body length =
    codes "HTTP/1.1 " ++ (decimal status ++ (codes " " ++ (phrase_of status ++ (crlf
    ++ (codes "content-type: " ++ (type_of body ++ (crlf
    ++ (codes "content-length: " ++ (decimal length ++ crlf)))))))))

-- all header lines and the empty line after them
abbrev pub reply_lines : Answer → ℕ → Bool → List ℕ
reply_lines reply length close =
    common_lines reply.status reply.body length ++ allow_line reply.allow ++ close_line close ++ crlf

-- the lines, then the body; a reply to HEAD omits the body but gives its length
abbrev pub reply_text : Answer → Bool → Bool → List ℕ
reply_text reply head_only close =
    reply_lines reply (length (body_bytes reply.body)) close ++ (if head_only then [] else body_bytes reply.body)

-- the request of a run, with its marks for HEAD and for closing
abbrev pub request_of : Bool → RequestContent → Request
request_of closes a = record { code = a.code; head = is_head a.method; closes = closes; wish = wish_of a }

-- whether the reply closes; at most `left` requests may be read, this one included
abbrev pub closes_at : ℕ → RequestContent → Bool
closes_at left a = a.close || nat_le left 1

-- what the first requests leave: bytes, or a closed connection (true if a request asked to close)
pub data Rest : Type 0 where
  More : List ℕ → Rest
  Shut : Bool → Rest

-- the stream begins with these requests, at most `left` of them, and this rest follows
abbrev pub Leads : ℕ → List ℕ → List Request → Rest → Type 0
Leads left bytes [] rest = rest ≡ More bytes
Leads left bytes (r ∷ rs) rest =
    (a : RequestContent) × (after : List ℕ) × Opens bytes (Whole a after) × (r ≡ request_of (closes_at left a) a)
    × MatchBool (closes_at left a) ((rs ≡ []) × (rest ≡ Shut a.close)) (Leads (left - 1) after rs rest)

-- how the requests of a stream end; `Refused` has the error word, `Limit` is after the most requests
pub data Last : Type 0 where
  End : Last
  Closed : Last
  Refused : List ℕ → Last
  Limit : Last

abbrev pub last : Ending → Last
last ending.End = End
last ending.Closed = Closed
last (ending.Refused word) = Refused word.now
last ending.Limit = Limit

-- how a stream ends after its requests; `closing` is the text of the refusal, if it ends in one
abbrev pub Ends : Rest → Last → List ℕ → Type 0
Ends (More bytes) End closing = Opens bytes Over × (closing ≡ [])
Ends (More bytes) (Refused word) closing =
    (why : RefusalContent) × (head_only : Bool) × Opens bytes (Faulty why head_only) × (word ≡ why.word)
    × (closing ≡ reply_text (answer_to why) head_only true)
Ends (Shut true) Closed closing = closing ≡ []
Ends (Shut false) Limit closing = closing ≡ []
Ends _ _ closing = ⊥

-- the requests of a whole stream, its ending and its closing text
abbrev pub Requests : List ℕ → List Request → Last → List ℕ → Type 0
Requests bytes rs end closing = (rest : Rest) × Leads connection_limit bytes rs rest × Ends rest end closing

-- a request and its reply
pub record Exchange : Type 0 where
  pub request : Request
  pub reply : Answer

abbrev pub requests_of : List Exchange → List Request
requests_of [] = []
requests_of (e ∷ es) = e.request ∷ requests_of es

abbrev pub replies_of : List Exchange → List Answer
replies_of [] = []
replies_of (e ∷ es) = e.reply ∷ replies_of es

-- the text of a reply, as its request asks for it
abbrev pub exchange_text : Exchange → List ℕ
exchange_text e = reply_text e.reply e.request.head e.request.closes

-- the texts of the replies, one after another
abbrev pub text : List Exchange → List ℕ
text [] = []
text (e ∷ es) = exchange_text e ++ text es

-- the exchanges are a run, which ends in this world
abbrev pub Reaches : World → List Exchange → World → Type 0
Reaches old es new = (worlds : List World) × Run old (requests_of es) (replies_of es) worlds × (new ≡ end_of old worlds)
