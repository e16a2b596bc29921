-- What a request wants, by its route, method and JSON body, and the replies to refused requests.
use Rattle.std.specs.Prelude.{ℕ, ◌+◌, ◌==◌, List, [], ◌∷◌, codes, Option, Some, None, option_map, option_and_then}
use Rattle.std.specs.Prelude.{if◌then◌else◌, Result, Ok, Err}
use Rattle.std.specs.Option.{option_or}
use Rattle.std.specs.List.{find}
use Rattle.std.specs.Str.{bytes_eq, is_utf8}
use Rattle.serde_json.specs.Read.{read as read_text}
use Rattle.serde_json.specs.Find.{get_member, as_number, as_u64}
use Rattle.serde_json.specs.Data.{Data, string, array, object, item, no_items, member, no_members, Items, Members}
use Rattle.portal_rules.specs.World.{phase_word}
use Rattle.portal_rules.specs.declared.phase.Phase.{Phase}
use Rattle.portal_rules.specs.declared.phase.Phase.TheVariants.{Setup, Choosing, Ranking, Published}
use Rattle.portal_rules.specs.declared.phase.Round.{Round}
use Rattle.portal_rules.specs.declared.phase.Round.TheVariants.{First, Second}
use Rattle.portal_wire.specs.declared.routes.Method.{Method}
use Rattle.portal_wire.specs.declared.routes.Method.TheVariants.{Get, Put, Post, Other}
use Rattle.portal_wire.specs.declared.routes.Route.{Route}
use Rattle.portal_wire.specs.declared.routes.Route.TheVariants as route
use Rattle.portal_rules.specs.Bodies.{fault_body}
use Rattle.portal_rules.specs.Answer.{Answer, Json}
use Rattle.portal_rules.specs.Run.{unavailable, Wish, Calls, NoCall}
use Rattle.portal_frame.specs.Stream.{RefusalContent, plain_refusal, RequestContent}
use Rattle.portal_rules.specs.Calls.{AbstractCall}
use Rattle.portal_rolls.specs.declared.fault.RollFault.{RollFault}
use Rattle.portal_rolls.specs.declared.fault.RollFault.TheVariants as fault
use Rattle.portal_rolls.specs.Lines.{lecturers, projects, students}

-- the JSON value that a body is, if it is one
abbrev pub json_in : List ℕ → Option Data
json_in body = if is_utf8 body then read_text body else None

abbrev pub members_len : Members → ℕ
members_len no_members = 0
members_len (member k d ms) = members_len ms + 1

-- the value of this member, if the object has exactly `count` members
abbrev pub member_among : ℕ → List ℕ → Data → Option Data
member_among count name (object ms) = if members_len ms == count then get_member name ms else None
member_among count name _ = None

-- the texts of the items, if each item is a text
abbrev pub item_texts : Items → Option (List (List ℕ))
item_texts no_items = Some []
item_texts (item (string s) ds) = option_map (λ ts. s ∷ ts) (item_texts ds)
item_texts (item _ ds) = None

-- the texts of an array, if each item is a text
abbrev pub texts_in : Data → Option (List (List ℕ))
texts_in (array ds) = item_texts ds
texts_in _ = None

-- the phase that a word names
abbrev pub phase_of : List ℕ → Option Phase
phase_of word = find (λ p. bytes_eq word (phase_word p)) (Setup ∷ Choosing ∷ Ranking ∷ Published ∷ [])

abbrev pub phase_named : Data → Option Phase
phase_named (string word) = phase_of word
phase_named _ = None

-- the round with this number
abbrev pub round_numbered : ℕ → Option Round
round_numbered n = if n == 1 then Some First else (if n == 2 then Some Second else None)

abbrev pub round_named : Data → Option Round
round_named d = option_and_then round_numbered (option_and_then as_u64 (as_number d))

-- the phase, if the object has exactly `count` members
abbrev pub phase_among : ℕ → Data → Option Phase
phase_among count d = option_and_then phase_named (member_among count (codes "phase") d)

-- the phase and the round, if the object has exactly these two members
abbrev pub phase_and_round : Data → Option (Phase × Option Round)
phase_and_round d =
    option_and_then (λ phase. option_map (λ round. (phase, Some round))
    (option_and_then round_named (member_among 2 (codes "round") d))) (phase_among 2 d)

-- the phase and perhaps the round of a move: the object has `phase` alone, or `phase` and `round`
abbrev pub move_named : Data → Option (Phase × Option Round)
move_named d = option_or (option_map (λ phase. (phase, None)) (phase_among 1 d)) (phase_and_round d)

-- an object without members
abbrev pub empty_object : Data → Option (Unit {0})
empty_object (object no_members) = Some tt
empty_object _ = None

-- the texts in a body, an object whose only member has this name
abbrev pub listed_in : List ℕ → List ℕ → Option (List (List ℕ))
listed_in name body = option_and_then texts_in (option_and_then (member_among 1 name) (json_in body))

-- the move that a body names
abbrev pub move_in : List ℕ → Option (Phase × Option Round)
move_in body = option_and_then move_named (json_in body)

-- whether a body is an object without members
abbrev pub nothing_in : List ℕ → Option (Unit {0})
nothing_in body = option_and_then empty_object (json_in body)

-- HEAD asks what GET does
abbrev pub method_of : List ℕ → Method
method_of method =
    if bytes_eq method (codes "GET") then Get
    else (if bytes_eq method (codes "HEAD") then Get
    else (if bytes_eq method (codes "PUT") then Put
    else (if bytes_eq method (codes "POST") then Post
    else Other)))

-- each path with its route
unfoldable pub the_paths : List (List ℕ × Route)
the_paths =
    (codes "/allocation.csv", route.AllocationCsv) ∷
    (codes "/allocation", route.Allocation) ∷
    (codes "/applicants", route.Applicants) ∷
    (codes "/catalogue", route.Catalogue) ∷
    (codes "/choices", route.Choices) ∷
    (codes "/me", route.Me) ∷
    (codes "/phase", route.Phase) ∷
    (codes "/ranking/fill", route.Fill) ∷
    (codes "/ranking", route.Ranking) ∷
    (codes "/report", route.Report) ∷
    (codes "/result", route.Outcome) ∷
    (codes "/rolls/lecturers", route.Lecturers) ∷
    (codes "/rolls/projects", route.Projects) ∷
    (codes "/rolls/students", route.Students) ∷
    (codes "/status", route.Status) ∷
    []

-- the route of the first entry with this path
abbrev pub look_up : List ℕ → List (List ℕ × Route) → Option Route
look_up path [] = None
look_up path (p ∷ ps) = if bytes_eq p.0 path then Some p.1 else look_up path ps

-- the route of a path, which has to match byte for byte
unfoldable pub route_at : List ℕ → Option Route
route_at path = look_up path the_paths

-- the methods that a path takes, as the header Allow lists them
abbrev pub allow_of : Route → List ℕ
allow_of route.Choices = codes "GET, HEAD, PUT"
allow_of route.Ranking = codes "GET, HEAD, PUT"
allow_of route.Fill = codes "POST"
allow_of route.Lecturers = codes "POST"
allow_of route.Projects = codes "POST"
allow_of route.Students = codes "POST"
allow_of route.Phase = codes "POST"
allow_of _ = codes "GET, HEAD"

abbrev pub no_route : RefusalContent
no_route = plain_refusal 404 (codes "no_route")

-- the refusal of a method; `allow` lists those that the path takes
abbrev pub bad_method : List ℕ → RefusalContent
bad_method allow = record { status = 405; word = codes "bad_method"; allow = allow; row = None }

abbrev pub bad_body : RefusalContent
bad_body = plain_refusal 400 (codes "bad_body")

-- the refusal of a row of a roll, counted from 1
abbrev pub bad_row : ℕ → RefusalContent
bad_row row = record { status = 422; word = codes "bad_row"; allow = []; row = Some row }

abbrev pub roll_full_reply : RefusalContent
roll_full_reply = plain_refusal 422 (codes "roll_full")

abbrev pub no_memory : RefusalContent
no_memory = plain_refusal 503 (codes "unavailable")

-- the reply to a refusal
abbrev pub answer_to : RefusalContent → Answer
answer_to r =
    if r.status == 503 then unavailable
    else record { status = r.status; allow = r.allow; body = Json (fault_body r.word r.row) }

-- the request is refused without a call
abbrev pub turned_away : RefusalContent → Wish
turned_away why = NoCall (answer_to why)

-- the call of a JSON body that has its form
abbrev pub by_body : {X : Type 0} → (X → AbstractCall) → Option X → Wish
by_body ask (Some x) = Calls (ask x)
by_body ask None = turned_away bad_body

-- the refusal for each fault of a roll; `Memory` has no cause in the text
abbrev pub roll_refusal : RollFault → RefusalContent
roll_refusal fault.NoHeader = bad_body
roll_refusal fault.BadHeader = bad_body
roll_refusal (fault.FieldCount row) = bad_row row
roll_refusal (fault.NotText row) = bad_row row
roll_refusal (fault.BadField row column) = bad_row row
roll_refusal fault.TooMany = roll_full_reply
roll_refusal fault.Memory = no_memory

-- the call of a roll without a fault
abbrev pub by_roll : {X : Type 0} → (List X → AbstractCall) → Result (List X) RollFault → Wish
by_roll ask (Ok rows) = Calls (ask rows)
by_roll ask (Err fault) = turned_away (roll_refusal fault)

abbrev pub to_move : Phase × Option Round → AbstractCall
to_move m = AbstractCall.Move m.0 m.1

-- what a method asks of a route
abbrev pub wish_at : Route → Method → List ℕ → Wish
wish_at route.Me Get body = Calls AbstractCall.Me
wish_at route.Catalogue Get body = Calls AbstractCall.Catalogue
wish_at route.Choices Get body = Calls AbstractCall.ShowChoices
wish_at route.Choices Put body = by_body AbstractCall.SetChoices (listed_in (codes "projects") body)
wish_at route.Applicants Get body = Calls AbstractCall.Applicants
wish_at route.Ranking Get body = Calls AbstractCall.ShowRanking
wish_at route.Ranking Put body = by_body AbstractCall.SetRanking (listed_in (codes "students") body)
wish_at route.Outcome Get body = Calls AbstractCall.Result
wish_at route.Lecturers Post body = by_roll AbstractCall.AddLecturers (lecturers body)
wish_at route.Projects Post body = by_roll AbstractCall.AddProjects (projects body)
wish_at route.Students Post body = by_roll AbstractCall.AddStudents (students body)
wish_at route.Phase Post body = by_body to_move (move_in body)
wish_at route.Fill Post body = by_body (λ u. AbstractCall.FillRankings) (nothing_in body)
wish_at route.Status Get body = Calls AbstractCall.Status
wish_at route.Allocation Get body = Calls AbstractCall.Allocation
wish_at route.AllocationCsv Get body = Calls AbstractCall.AllocationCsv
wish_at route.Report Get body = Calls AbstractCall.Report
wish_at at method body = turned_away (bad_method (allow_of at))

abbrev pub wish_from : Option Route → RequestContent → Wish
wish_from None a = turned_away no_route
wish_from (Some at) a = wish_at at (method_of a.method) a.body

-- what a request wants: a call, or the refusal of its route, method or body
abbrev pub wish_of : RequestContent → Wish
wish_of a = wish_from (route_at a.path) a
