-- Refutes `frame` that lets a second Host line through, reads a body as the next request, keeps the
-- query in the path, waits for a line too many, or answers always Need or End.
use Rattle.std.proofs.Common.{◌≡◌, ℕ, zero, suc, ◌≤◌, inl, true, false, List, [], ◌∷◌, ◌++◌, length, refl, ap, arith}
use Rattle.std.proofs.Common.{replicate}
use Rattle.std.specs.Prelude.{codes, All}
use Rattle.std.specs.List.{flat_map}
use Rattle.std.specs.Str.{IsAscii}
use Rattle.std.proofs.lemmas.List.Sums.{AllPass-from_list_all}
use Rattle.std.proofs.lemmas.Str.{IsUtf8-from_ascii}
use Rattle.httparse.specs.Grammar.{Field, IsField, RequestHead, IsRequestHead, crlf, is_token_byte, is_uri_byte}
use Rattle.httparse.specs.Grammar.{is_value_byte, print_request, trim_ows}
use Rattle.portal_frame.proofs.Unique.{Opens-unique}
use Rattle.portal_frame.specs.declared.types.Frame.TheVariants as frame
use Rattle.portal_frame.specs.Stream.{Item, Opens, RefusalContent, RequestContent, plain_refusal, Framed}
use Rattle.portal_frame.specs.Stream.{WaitsForHead, asked_of, Faulty, item_of, Over, refusal_of_fault, Whole}
use Rattle.portal_frame.specs.Stream.{is_overlong}

-- a request of `/x` with this target and these header lines
abbrev pub head_of : List ℕ → ℕ → List Field → RequestHead
head_of target minor fields =
    record { blank = []; method = codes "GET"; target = target; minor = minor; line_end = crlf; fields = fields; last = crlf }

abbrev line : List ℕ → List ℕ → Field
line name value = record { name = name; raw = value; end = crlf }

-- a stream that begins with a head has its item
opens_with : (h : RequestHead) (rest : List ℕ) → IsRequestHead h → length h.fields ≤ 32
    → length (print_request h) ≤ 16384
    → Opens (print_request h ++ rest) (item_of h rest)
opens_with h rest is few short = inl (h, rest, record { reads = (is, refl); few = few; short = short }, refl)

ascii_x : IsAscii (codes "/x")
ascii_x zero = omega arith
ascii_x (suc zero) = omega arith
ascii_x (suc (suc k)) = omega arith

ascii_query : IsAscii (codes "/x?y")
ascii_query zero = omega arith
ascii_query (suc zero) = omega arith
ascii_query (suc (suc zero)) = omega arith
ascii_query (suc (suc (suc zero))) = omega arith
ascii_query (suc (suc (suc (suc k)))) = omega arith

-- ---- a request without header lines

abbrev pub plain : RequestHead
plain = head_of (codes "/x") 0 []

abbrev pub plain_bytes : List ℕ
plain_bytes = codes "GET /x HTTP/1.0\r\n\r\n"

abbrev pub plain_asked : RequestContent
plain_asked = asked_of plain []

pub plain_opens : Opens plain_bytes (Whole plain_asked [])
unfolding print_request is_token_byte
plain_opens = opens_with plain [] is_head (omega arith) (omega arith)
  where
    is_head : IsRequestHead plain
    is_head = record {
      method = (omega arith, AllPass-from_list_all is_token_byte (codes "GET") refl);
      target = (omega arith, AllPass-from_list_all is_uri_byte (codes "/x") refl);
      target_text = IsUtf8-from_ascii (codes "/x") ascii_x;
      minor = omega arith;
      fields = λ k d low. absurd (omega (arith, low));
    }

pub end_told_before_a_request_is_refuted : Framed plain_bytes true frame.End → ⊥
end_told_before_a_request_is_refuted (ended, opens) =
    let same = Opens-unique plain_bytes (Whole plain_asked []) Over plain_opens opens in cc

pub more_wanted_after_the_end_is_refuted : (bytes : List ℕ) → Framed bytes true frame.Need → ⊥
more_wanted_after_the_end_is_refuted bytes (not_ended, waits) = cc

-- ---- the query

abbrev query : RequestHead
query = head_of (codes "/x?y") 0 []

query_opens : Opens (print_request query ++ []) (Whole (asked_of query []) [])
unfolding print_request is_token_byte
query_opens = opens_with query [] is_head (omega arith) (omega arith)
  where
    is_head : IsRequestHead query
    is_head = record {
      method = (omega arith, AllPass-from_list_all is_token_byte (codes "GET") refl);
      target = (omega arith, AllPass-from_list_all is_uri_byte (codes "/x?y") refl);
      target_text = IsUtf8-from_ascii (codes "/x?y") ascii_query;
      minor = omega arith;
      fields = λ k d low. absurd (omega (arith, low));
    }

pub query_kept_in_the_path_is_refuted : (a : RequestContent) (after : List ℕ) → length a.path ≡ 4
    → Opens (print_request query ++ []) (Whole a after) → ⊥
query_kept_in_the_path_is_refuted a after long opens =
    let same : Whole a after ≡ Whole (asked_of query []) [] =
    Opens-unique (print_request query ++ []) (Whole a after) (Whole (asked_of query []) []) opens query_opens in
    omega (arith, long, ap path_length same)
  where
    path_length : Item → ℕ
    path_length (Whole b rest) = length b.path
    path_length item = 0

pub query_is_cut_off : (asked_of query []).path ≡ codes "/x"
query_is_cut_off = refl

-- ---- two Host lines

abbrev two_hosts : RequestHead
two_hosts = head_of (codes "/x") 1 (line (codes "host") (codes "a") ∷ line (codes "host") (codes "b") ∷ [])

two_hosts_is_head : IsRequestHead two_hosts
unfolding is_token_byte
two_hosts_is_head = record {
  method = (omega arith, AllPass-from_list_all is_token_byte (codes "GET") refl);
  target = (omega arith, AllPass-from_list_all is_uri_byte (codes "/x") refl);
  target_text = IsUtf8-from_ascii (codes "/x") ascii_x;
  minor = omega arith;
  fields = fields;
} where
  fields : All IsField two_hosts.fields
  fields zero d low = record {
    name = (omega arith, AllPass-from_list_all is_token_byte (codes "host") refl);
    raw = AllPass-from_list_all is_value_byte (codes "a") refl;
  }
  fields (suc zero) d low = record {
    name = (omega arith, AllPass-from_list_all is_token_byte (codes "host") refl);
    raw = AllPass-from_list_all is_value_byte (codes "b") refl;
  }
  fields (suc (suc k)) d low = absurd (omega (arith, low))

abbrev bad_host : RefusalContent
bad_host = plain_refusal 400 (codes "bad_host")

pub two_hosts_are_a_fault : Opens (print_request two_hosts ++ []) (Faulty bad_host false)
unfolding print_request refusal_of_fault
two_hosts_are_a_fault = opens_with two_hosts [] two_hosts_is_head (omega arith) (omega arith)

pub second_host_let_through_is_refuted : (a : RequestContent) (after : List ℕ)
    → Opens (print_request two_hosts ++ []) (Whole a after) → ⊥
second_host_let_through_is_refuted a after opens =
    let same = Opens-unique (print_request two_hosts ++ []) (Whole a after) (Faulty bad_host false) opens two_hosts_are_a_fault in cc

-- ---- a body

abbrev with_body : RequestHead
with_body = head_of (codes "/x") 0 (line (codes "content-length") (codes "1") ∷ [])

with_body_is_head : IsRequestHead with_body
unfolding is_token_byte
with_body_is_head = record {
  method = (omega arith, AllPass-from_list_all is_token_byte (codes "GET") refl);
  target = (omega arith, AllPass-from_list_all is_uri_byte (codes "/x") refl);
  target_text = IsUtf8-from_ascii (codes "/x") ascii_x;
  minor = omega arith;
  fields = fields;
} where
  fields : All IsField with_body.fields
  fields zero d low = record {
    name = (omega arith, AllPass-from_list_all is_token_byte (codes "content-length") refl);
    raw = AllPass-from_list_all is_value_byte (codes "1") refl;
  }
  fields (suc k) d low = absurd (omega (arith, low))

pub body_is_part_of_its_request : Opens (print_request with_body ++ codes "x")
    (Whole (asked_of with_body (codes "x")) [])
unfolding print_request trim_ows
body_is_part_of_its_request = opens_with with_body (codes "x") with_body_is_head (omega arith) (omega arith)

left_after : Item → ℕ
left_after (Whole b rest) = length rest
left_after item = 0

-- the body is left to be read as the next request
pub body_read_as_the_next_request_is_refuted : (a : RequestContent)
    → Opens (print_request with_body ++ codes "x") (Whole a (codes "x")) → ⊥
unfolding left_after
body_read_as_the_next_request_is_refuted a opens =
    omega (
      arith,
      ap left_after (Opens-unique (print_request with_body ++ codes "x") (Whole a (codes "x"))
          (Whole (asked_of with_body (codes "x")) []) opens body_is_part_of_its_request),
    )

-- ---- 34 lines

abbrev lines : ℕ → List ℕ
lines n = flat_map (λ b. b ∷ 10 ∷ []) (replicate n 97)

pub line_too_many_is_not_waited_for : WaitsForHead (lines 34) → ⊥
line_too_many_is_not_waited_for waits = cc (waits.lines)

pub one_line_fewer_is_not_too_many : is_overlong (lines 33) ≡ false
one_line_fewer_is_not_too_many = refl
