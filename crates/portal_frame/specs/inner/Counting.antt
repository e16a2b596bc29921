-- The lines of a head, counted by its bytes: words of private contracts.
use Rattle.std.specs.Prelude.{ℕ, ◌+◌, ◌==◌, if◌then◌else◌, Bool, false, List, [], ◌∷◌, ◌≡◌, ◌≤◌, length, codes}
use Rattle.std.specs.Prelude.{replicate, map, drop, All, refl, true, ◌++◌}
use Rattle.portal_frame.specs.declared.counting.At.{At}
use Rattle.portal_frame.specs.declared.counting.At.TheVariants.{Leading, LeadingCr, Fresh, FreshCr, Inside}
use Rattle.portal_frame.specs.declared.values.Found.{Found}
use Rattle.portal_frame.specs.declared.values.Found.TheVariants.{Nothing, One, Many}
use Rattle.std.specs.List.{flat_map}
use Rattle.httparse.specs.Grammar.{RequestHead, print_request}
use Rattle.httparse.specs.Spans.{span_bytes, header_bytes, IsWithin, IsHeaderWithin}
use Rattle.httparse.specs.declared.spans.HeaderSpan.{HeaderSpan}
use Rattle.httparse.specs.declared.spans.RequestSpans.{RequestSpans}
use Rattle.portal_frame.specs.Stream.{Takes, fields_of, header_lines, is_overlong}

-- the place in a line after one more byte that does not end the count
abbrev pub step : At → ℕ → At
step Leading b = if b == 10 then Leading else (if b == 13 then LeadingCr else Inside)
step LeadingCr b = if b == 10 then Leading else Inside
step Fresh b = if b == 13 then FreshCr else Inside
step FreshCr b = Inside
step Inside b = if b == 10 then Fresh else Inside

-- the byte ends an empty line
abbrev pub stops : At → ℕ → Bool
stops Fresh b = b == 10
stops FreshCr b = b == 10
stops _ b = false

-- the byte ends a line that is not empty
abbrev pub counts : At → ℕ → ℕ
counts Inside b = if b == 10 then 1 else 0
counts _ b = 0

-- how many whole lines stand there before the first empty one
abbrev pub lines_from : At → List ℕ → ℕ
lines_from at [] = 0
lines_from at (b ∷ bytes) = if stops at b then 0 else counts at b + lines_from (step at b) bytes

-- none, one, or more
abbrev pub IsFound : Found → List (List ℕ) → Type 0
IsFound Nothing values = values ≡ []
IsFound (One value) values = values ≡ value.now ∷ []
IsFound Many values = 2 ≤ length values

-- lines of one letter
abbrev lines_of_a : ℕ → List ℕ
lines_of_a n = flat_map {X = ℕ} (λ k. codes "a\n") (replicate n 0)

-- the spans are those of a head at the front of the bytes, whose text lies in the first of them
pub record IsHead (bytes front : List ℕ) (spans : RequestSpans) (headers : List HeaderSpan) (h : RequestHead) : Type 0 where
  pub takes : Takes bytes h (drop spans.len bytes)
  pub len_fits : spans.len ≤ length bytes
  pub len : spans.len ≡ length (print_request h)
  pub method : span_bytes front spans.method ≡ h.method
  pub path : span_bytes front spans.path ≡ h.target
  pub version : spans.version ≡ h.minor
  pub lines : map (header_bytes front) headers ≡ fields_of h
  pub method_within : IsWithin (length front) spans.method
  pub path_within : IsWithin (length front) spans.path
  pub headers_within : All (IsHeaderWithin (length front)) headers

-- empty lines in front, two lines, and the empty one after them
two_lines : header_lines (codes "\n\r\na\r\nb\n\nc\n") ≡ codes "a\r" ∷ codes "b" ∷ []
two_lines = refl

-- what no LF ends is no line
one_line : header_lines (codes "a\nb") ≡ codes "a" ∷ []
one_line = refl

-- 33 lines are not too many, 34 are
not_yet : is_overlong (codes "\n" ++ lines_of_a 33) ≡ false
not_yet = refl

too_many : is_overlong (codes "\n" ++ lines_of_a 34) ≡ true
too_many = refl
