-- What the lines of a request's head say, and the requests of a stream.
use Rattle.std.specs.Prelude.{ℕ, Bool, true, false, ◌&&◌, nat_lt, nat_le, ◌==◌, if◌then◌else◌, List, [], ◌∷◌, length}
use Rattle.std.specs.Prelude.{map, ◌||◌, codes, take, drop, ◌++◌, ◌≡◌, ◌<◌, ◌≤◌, ◌⊎◌, Option, None, Result, Ok, Err}
use Rattle.std.specs.Prelude.{IsTrue, IsFalse}
use Rattle.std.specs.List.{filter, list_all, list_any}
use Rattle.std.specs.Char.{to_ascii_lowercase, is_ascii_digit}
use Rattle.std.specs.Str.{bytes_eq}
use Rattle.httparse.specs.Grammar.{skip_ows, RequestHead, ReadsRequest, MayBecomeRequest, NeverHasRequest}
use Rattle.httparse.specs.Grammar.{print_request}
use Rattle.std.specs.Str.Parse.{digits_value}
use Rattle.httparse.specs.Spans.{RequestExceeds, name_and_value}
use Rattle.portal_frame.specs.declared.types.Request.{Request}
use Rattle.portal_frame.specs.declared.types.Refusal.{Refusal}
use Rattle.portal_frame.specs.declared.types.FramingFault.{FramingFault}
use Rattle.portal_frame.specs.declared.types.FramingFault.TheVariants.{BadHead, BadHost, CodedBody, BadLength, TooLarge}
use Rattle.portal_frame.specs.declared.types.Frame.{Frame}
use Rattle.portal_frame.specs.declared.types.Frame.TheVariants as frame

-- the most bytes of a head, with the empty lines before it, and the most header lines
abbrev pub head_limit : ℕ
head_limit = 16384

abbrev pub line_limit : ℕ
line_limit = 32

-- the most bytes of a body, and of a whole request
abbrev pub body_limit : ℕ
body_limit = 1048576

abbrev pub request_limit : ℕ
request_limit = 1064960

-- the names are equal, ignoring the case of ASCII letters
abbrev pub same_name : List ℕ → List ℕ → Bool
same_name a b = bytes_eq (map to_ascii_lowercase a) (map to_ascii_lowercase b)

-- the values of the lines with this name, in order
abbrev pub values_of : List ℕ → List (List ℕ × List ℕ) → List (List ℕ)
values_of name lines = map (λ line. line.1) (filter (λ line. same_name line.0 name) lines)

-- the value if there is exactly one, otherwise the empty text
abbrev pub only : List (List ℕ) → List ℕ
only [] = []
only (value ∷ []) = value
only (value ∷ other ∷ values) = []

abbrev pub is_empty : {X : Type 0} → List X → Bool
is_empty [] = true
is_empty (x ∷ xs) = false

-- bad values of Host: none in HTTP/1.1, or more than one
abbrev pub has_bad_host : ℕ → List (List ℕ) → Bool
has_bad_host minor [] = minor == 1
has_bad_host minor (value ∷ []) = false
has_bad_host minor (value ∷ other ∷ values) = true

-- 1 to 18 decimal digits
abbrev pub is_length : List ℕ → Bool
is_length value = nat_lt 0 (length value) && nat_le (length value) 18 && list_all is_ascii_digit value

-- the bytes before the first one that equals `end`, or all if none does
abbrev pub up_to : ℕ → List ℕ → List ℕ
up_to end [] = []
up_to end (b ∷ bytes) = if b == end then [] else b ∷ up_to end bytes

-- the target up to its first question mark
abbrev pub path_of : List ℕ → List ℕ
path_of target = up_to 63 target

-- the word `close` in any case, with blanks and tabs around it
abbrev pub is_close : List ℕ → Bool
is_close part = same_name (take 5 (skip_ows part)) (codes "close") && is_empty (skip_ows (drop 5 (skip_ows part)))

-- some part after a comma (44) is `close`
abbrev pub later_close : List ℕ → Bool
later_close [] = false
later_close (b ∷ bytes) = (b == 44 && is_close (up_to 44 bytes)) || later_close bytes

-- some part of the value, cut at commas, is `close`
abbrev pub has_close : List ℕ → Bool
has_close value = is_close (up_to 44 value) || later_close value

-- some value of Connection asks to close
abbrev pub asks_close : List (List ℕ) → Bool
asks_close values = list_any has_close values

-- the line is empty, or a CR alone
abbrev pub is_empty_line : List ℕ → Bool
is_empty_line [] = true
is_empty_line (b ∷ []) = b == 13
is_empty_line (b ∷ c ∷ line) = false

-- the lines of `line` and then the bytes; an LF ends each line, and a rest without LF is no line
abbrev pub lines_after : List ℕ → List ℕ → List (List ℕ)
lines_after line [] = []
lines_after line (b ∷ bytes) = if b == 10 then line ∷ lines_after [] bytes else lines_after (line ++ b ∷ []) bytes

-- the lines without the empty ones in front
abbrev pub without_leading : List (List ℕ) → List (List ℕ)
without_leading [] = []
without_leading (line ∷ lines) = if is_empty_line line then without_leading lines else line ∷ lines

-- the lines before the first empty one, or all if none is empty
abbrev pub before_empty : List (List ℕ) → List (List ℕ)
before_empty [] = []
before_empty (line ∷ lines) = if is_empty_line line then [] else line ∷ before_empty lines

-- the lines of the head at the front, whether it is complete or not
abbrev pub header_lines : List ℕ → List (List ℕ)
header_lines bytes = before_empty (without_leading (lines_after [] bytes))

-- 34 lines or more; a head has at most 33: the start line and 32 fields
abbrev pub is_overlong : List ℕ → Bool
is_overlong bytes = nat_le 34 (length (header_lines bytes))

-- the content of a request, without its place in memory
pub record RequestContent : Type 0 where
  pub method : List ℕ
  pub path : List ℕ
  pub code : List ℕ
  pub close : Bool
  pub body : List ℕ

abbrev pub request_content : Request → RequestContent
request_content r =
    record { method = r.method.items; path = r.path.items; code = r.code.items; close = r.close; body = r.body.items }

-- the content of a refusal; `allow` lists the methods of the path for a wrong method
pub record RefusalContent : Type 0 where
  pub status : ℕ
  pub word : List ℕ
  pub allow : List ℕ
  pub row : Option ℕ

abbrev pub refusal_content : Refusal → RefusalContent
refusal_content r = record { status = r.status; word = r.word.now; allow = r.allow.now; row = r.row }

-- a refusal with only a status and an error word
abbrev pub plain_refusal : ℕ → List ℕ → RefusalContent
plain_refusal status word = record { status = status; word = word; allow = []; row = None }

-- the five refusals of framing
unfoldable pub refusal_of_fault : FramingFault → RefusalContent
refusal_of_fault BadHead = plain_refusal 400 (codes "bad_head")
refusal_of_fault BadHost = plain_refusal 400 (codes "bad_host")
refusal_of_fault CodedBody = plain_refusal 501 (codes "coded_body")
refusal_of_fault BadLength = plain_refusal 400 (codes "bad_length")
refusal_of_fault TooLarge = plain_refusal 413 (codes "too_large")

-- the body length by the values of Content-Length, at most 1,048,576 bytes
abbrev pub length_of : List (List ℕ) → Result ℕ FramingFault
length_of [] = Ok 0
length_of (value ∷ []) =
    if is_length value
    then (if nat_lt body_limit (digits_value 10 value) then Err TooLarge else Ok (digits_value 10 value))
    else Err BadLength
length_of (value ∷ other ∷ values) = Err BadLength

-- the first fault of the header lines, or the body length
abbrev pub body_length : ℕ → List (List ℕ × List ℕ) → Result ℕ FramingFault
body_length minor lines =
    if has_bad_host minor (values_of (codes "host") lines) then Err BadHost
    else (if is_empty (values_of (codes "transfer-encoding") lines) then length_of (values_of (codes "content-length") lines)
    else Err CodedBody)

-- the bytes begin with this head, which is within the limits
pub record Takes (bytes : List ℕ) (h : RequestHead) (rest : List ℕ) : Type 0 where
  pub reads : ReadsRequest bytes h rest
  pub few : length h.fields ≤ line_limit
  pub short : length (print_request h) ≤ head_limit

-- the bytes begin with no head within the limits
abbrev pub HasNoHead : List ℕ → Type 0
HasNoHead bytes = (h : RequestHead) (rest : List ℕ) → ¬ (Takes bytes h rest)

-- the front of a stream: a request and the bytes after it, a fault (true for HEAD), or the end
pub data Item : Type 0 where
  Whole : RequestContent → List ℕ → Item
  Faulty : RefusalContent → Bool → Item
  Over : Item

abbrev pub fields_of : RequestHead → List (List ℕ × List ℕ)
fields_of h = map name_and_value h.fields

abbrev pub is_head : List ℕ → Bool
is_head method = bytes_eq method (codes "HEAD")

-- the reply closes the connection: by HTTP/1.0, or as a Connection line asks
abbrev pub closes_after : ℕ → List (List ℕ × List ℕ) → Bool
closes_after minor lines = minor == 0 || asks_close (values_of (codes "connection") lines)

abbrev pub asked_of : RequestHead → List ℕ → RequestContent
asked_of h body = record {
  method = h.method;
  path = path_of h.target;
  code = only (values_of (codes "portal-code") (fields_of h));
  close = closes_after h.minor (fields_of h);
  body = body;
}

-- the item for a head, its body length or fault, and all the bytes after the head
abbrev pub after_lines : RequestHead → Result ℕ FramingFault → List ℕ → Item
after_lines h (Err why) rest = Faulty (refusal_of_fault why) (is_head h.method)
after_lines h (Ok n) rest =
    if nat_le n (length rest) then Whole (asked_of h (take n rest)) (drop n rest)
    else Faulty (refusal_of_fault BadLength) (is_head h.method)

abbrev pub item_of : RequestHead → List ℕ → Item
item_of h rest = after_lines h (body_length h.minor (fields_of h)) rest

-- only empty lines, of which the last may lack its LF
abbrev pub is_blank : List ℕ → Bool
is_blank [] = true
is_blank (b ∷ []) = b == 10 || b == 13
is_blank (b ∷ c ∷ bytes) = if b == 10 then is_blank (c ∷ bytes) else (b == 13 && c == 10 && is_blank bytes)

-- the item of a stream without a head at its front
abbrev pub headless : List ℕ → Item
headless bytes = if is_blank bytes && nat_lt (length bytes) head_limit then Over else Faulty (refusal_of_fault BadHead) false

-- a complete rest of a stream begins with this item
abbrev pub Opens : List ℕ → Item → Type 0
Opens bytes item =
    ((h : RequestHead) × (rest : List ℕ) × Takes bytes h rest × (item ≡ item_of h rest))
    ⊎ (HasNoHead bytes × (item ≡ headless bytes))

-- no head is there yet, the parser does not rule one out, and no limit is passed
pub record WaitsForHead (bytes : List ℕ) : Type 0 where
  pub none : HasNoHead bytes
  pub may : MayBecomeRequest bytes ⊎ RequestExceeds line_limit bytes
  pub short : length bytes < head_limit
  pub lines : is_overlong bytes ≡ false

-- a head is there, but its body is not complete yet
abbrev pub WaitsForBody : List ℕ → Type 0
WaitsForBody bytes =
    (h : RequestHead) × (rest : List ℕ) × (n : ℕ) × Takes bytes h rest
    × (body_length h.minor (fields_of h) ≡ Ok n) × (length rest < n)

-- the answer for the bytes so far; a request or fault that is found holds for any continuation
abbrev pub Framed : List ℕ → Bool → Frame → Type 0
Framed bytes ended frame.Need = IsFalse ended × (WaitsForHead bytes ⊎ WaitsForBody bytes)
Framed bytes ended frame.End = IsTrue ended × Opens bytes Over
Framed bytes ended (frame.Request request used) =
    (more : List ℕ) → Opens (bytes ++ more) (Whole (request_content request) (drop used bytes ++ more))
Framed bytes ended (frame.Bad refusal head_only) =
    (more : List ℕ) → (IsTrue ended → more ≡ []) → Opens (bytes ++ more) (Faulty (refusal_content refusal) head_only)

-- a refusal comes only after its cause: a head, the end, a limit, or that no head can come
abbrev pub IsDue : List ℕ → Bool → Frame → Type 0
IsDue bytes ended (frame.Bad refusal head_only) =
    ((h : RequestHead) × (rest : List ℕ) × Takes bytes h rest)
    ⊎ (IsTrue ended
    ⊎ ((head_limit ≤ length bytes) ⊎ ((is_overlong bytes ≡ true) ⊎ NeverHasRequest (take head_limit bytes))))
IsDue bytes ended frame.Need = Unit {0}
IsDue bytes ended frame.End = Unit {0}
IsDue bytes ended (frame.Request request used) = Unit {0}

-- unfinished bytes and a request fit the limits
abbrev pub IsWithinLimits : List ℕ → Frame → Type 0
IsWithinLimits bytes frame.Need = length bytes < request_limit
IsWithinLimits bytes (frame.Request request used) = (0 < used) × (used ≤ length bytes) × (used ≤ request_limit)
IsWithinLimits bytes frame.End = length bytes < head_limit
IsWithinLimits bytes (frame.Bad refusal head_only) = Unit {0}
