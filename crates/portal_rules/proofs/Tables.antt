-- A table after one more text or row was put in.
use Rattle.portal_rules.proofs.Base.{◌≡◌, ℕ, ◌+◌, ◌<◌, Bool, true, List, [], ◌∷◌, ◌++◌, map, reverse, length, take}
use Rattle.portal_rules.proofs.Base.{get_or, Option, Some, refl, sym, ◌∙◌, ap, subst, append_assoc, append-nil, add-one}
use Rattle.portal_rules.proofs.Base.{reverse-append, list_any_more, ◌||◌, not, option_map, list_any, find, text_eq, Key}
use Rattle.portal_rules.proofs.Base.{equals, has, Person, is_assigned, placement_in, HasTexts, HasRows, HasKeys, arith}
use Rattle.portal_rules.proofs.Base.{Bor, or_assoc, map-append, map-id, is_some}
use Rattle.std.proofs.Math.Seq.{take-suc, take-length}
use Rattle.std.specs.HashMap as hash
use Rattle.std.specs.HashMap.{HashMap}
use Rattle.std.specs.HashSet as set
use Rattle.std.specs.HashSet.{HashSet}
use Rattle.portal_rules.proofs.Keys.{is_same}
use Rattle.portal_rules.proofs.AllLaws.{any_alike, is_sym}

any_between : {X : Type 0} (p : X → Bool) (front : List X) (x : X) (rest : List X)
    → list_any p (front ++ x ∷ rest) ≡ (p x || list_any p (front ++ rest))
any_between p [] x rest = refl
any_between p (y ∷ ys) x rest = grind (arith, any_between p ys x rest)

pub text_put : {S : Type 0} (front rest : List Key) (s t : HashSet (Bor Key) S) (k : Bor Key) (x : Key)
    → set.Updates text_eq s t k true → k.now ≡ x → HasTexts (front ++ rest) s → HasTexts (front ++ x ∷ rest) t
text_put front rest s t k x updates is_x was =
    λ q. grind (arith, updates.0 q, was q, is_x, is_sym k.now q.now, any_between (equals q.now) front x rest)

pub text_push : {S : Type 0} (texts : List Key) (s t : HashSet (Bor Key) S) (k : Bor Key) (x : Key)
    → set.Updates text_eq s t k true → k.now ≡ x → HasTexts texts s → HasTexts (texts ++ x ∷ []) t
text_push texts s t k x updates is_x was = text_put texts [] s t k x updates is_x (subst (λ ts. HasTexts ts s) (sym (append-nil texts)) was)

pub row_put : {X S : Type 0} (key : X → Key) (rows : List X) (s t : HashMap (Bor Key) (Bor X) S) (k : Bor Key) (v : Bor X)
    → hash.Updates text_eq s t k (Some v) → k.now ≡ key v.now → HasRows key rows s → HasRows key (v.now ∷ rows) t
row_put key rows s t k v updates is_key was = λ q. grind (arith, updates.0 q, was q, is_key)

-- the text of the next row was put in
module _ {X : Type 0} (xs : List X) (text : X → Key) where
  taken : (i : ℕ) (x : X) → i < length xs → x ≡ get_or xs i x
      → map text (take (i + 1) xs) ≡ map text (take i xs) ++ text x ∷ []
  taken i x low e =
      ap (λ n. map text (take n xs)) (add-one i) ∙ ap (map text) (take-suc xs i x low)
      ∙ ap (λ y. map text (take i xs ++ y ∷ [])) (sym e) ∙ map-append text (take i xs) (x ∷ [])

  pub text_more : {S : Type 0} (given : List Key) (s t : HashSet (Bor Key) S) (k : Bor Key) (i : ℕ) (x : X)
      → set.Updates text_eq s t k true → k.now ≡ text x → i < length xs → x ≡ get_or xs i x
      → HasTexts (given ++ map text (take i xs)) s → HasTexts (given ++ map text (take (i + 1) xs)) t
  text_more given s t k i x updates is_text low e was =
      subst (λ ts. HasTexts ts t) (append_assoc given (map text (take i xs)) (text x ∷ []) ∙ ap (λ ts. given ++ ts) (sym (taken i x low e)))
      (text_push (given ++ map text (take i xs)) s t k (text x) updates is_text was)

  -- the texts of all rows are in
  pub text_all : {S : Type 0} (s : HashSet (Bor Key) S) (i : ℕ) → i ≡ length xs → HasTexts (map text (take i xs)) s
      → HasTexts (map text xs) s
  text_all s i end was = subst (λ ys. HasTexts (map text ys) s) (ap (λ n. take n xs) end ∙ take-length xs) was

-- one more row before those that were seen
pub before_seen : {X : Type 0} (seen : List (Bor X)) (row : Bor X)
    → row.now ∷ reverse (map (λ r. r.now) seen) ≡ reverse (map (λ r. r.now) (seen ++ row ∷ []))
before_seen seen row = sym (ap reverse (map-append (λ r. r.now) seen (row ∷ [])) ∙ reverse-append (map (λ r. r.now) seen) (row.now ∷ []))

-- the project of the pair that was found
pub looked_up : {S : Type 0} (pairs : List (Key × Key)) (table : HashMap (Bor Key) (Bor (Key × Key)) S)
    → HasRows (λ pair. pair.0) pairs table
    → (q : Bor Key) (found : Option (Bor (Key × Key))) → found ≡ hash.get text_eq table q
    → option_map (λ (x : Key × Key). x.1) (option_map (λ row. row.now) found) ≡ placement_in pairs q.now
looked_up pairs table has_all q found got = ap (option_map (λ (x : Key × Key). x.1)) (ap (option_map (λ row. row.now)) got ∙ has_all q)

-- whether a row has the key
some_found : {X : Type 0} (p : X → Bool) (xs : List X) → is_some (find p xs) ≡ list_any p xs
some_found p [] = refl
some_found p (x ∷ xs) = grind (arith, some_found p xs)

some_mapped : {X Y : Type 0} (f : X → Y) (o : Option X) → is_some o ≡ is_some (option_map f o)
some_mapped f o = grind arith

-- whether the pairs give the student a project
pub is_placed : (pairs : List (Key × Key)) (k : Key) (project : Option (Bor Key))
    → option_map (λ p. p.now) project ≡ placement_in pairs k → is_some project ≡ is_assigned pairs k
is_placed pairs k project given =
    some_mapped (λ p. p.now) project ∙ ap is_some given ∙ sym (some_mapped (λ (x : Key × Key). x.1) (find (λ x. equals x.0 k) pairs))
    ∙ some_found (λ x. equals x.0 k) pairs

-- the key of one more text was put in
known_put : {S : Type 0} (known : Key → Bool) (s t : HashMap (Bor Key) (Bor Key) S) (k v : Bor Key) (x : Key)
    → hash.Updates text_eq s t k (Some v) → k.now ≡ x → v.now ≡ x → HasKeys known s
    → HasKeys (λ q. known q || equals x q) t
known_put known s t k v x updates is_x is_v was = λ q. grind (arith, updates.0 q, was q, is_same x q.now, is_x, is_v)

-- the same texts are known
pub known_alike : {S : Type 0} (f g : Key → Bool) (t : HashMap (Bor Key) (Bor Key) S) → ((k : Key) → f k ≡ g k)
    → HasKeys f t → HasKeys g t
known_alike f g t alike was = λ q. ((was q).0 ∙ alike q.now, (was q).1)

-- whom a table of texts leaves out
pub left_out : {S : Type 0} (ks : List Key) (table : HashSet (Bor Key) S) → HasTexts (map (λ k. k) ks) table
    → (persons : List Person)
    → list_any (λ s. not (set.contains_by (λ k. equals s.key k.now) table)) persons ≡ list_any (λ s. not (has ks s.key)) persons
left_out ks table texts persons = any_alike _ _
    (λ s. ap not (texts (record { ref_ptr = (0, 0); now = s.key }) ∙ ap (λ ts. has ts s.key) (map-id ks))) persons

-- the key of the next person was put in
module _ {S : Type 0} (known : Key → Bool) (persons : List Person) where
  abbrev KnownTo : ℕ → HashMap (Bor Key) (Bor Key) S → Type 0
  KnownTo n table = HasKeys (λ k. known k || list_any (λ s. equals s.key k) (take n persons)) table

  pub person_more : (s t : HashMap (Bor Key) (Bor Key) S) (k v : Bor Key) (i : ℕ) (x : Person)
      → hash.Updates text_eq s t k (Some v) → k.now ≡ x.key → v.now ≡ x.key → i < length persons
      → x ≡ get_or persons i x → KnownTo i s → KnownTo (i + 1) t
  person_more s t k v i x updates is_x is_v low e was =
      known_alike _ _ t
      (λ q. or_assoc (known q) (list_any (λ p. equals p.key q) (take i persons)) (equals x.key q)
      ∙ ap (λ b. known q || b) (ap (λ (y : Person). list_any (λ p. equals p.key q) (take i persons) || equals y.key q) e
      ∙ sym (list_any_more (λ p. equals p.key q) persons i x low)))
      (known_put (λ q. known q || list_any (λ p. equals p.key q) (take i persons)) s t k v x.key updates is_x is_v was)

  pub person_all : (s : HashMap (Bor Key) (Bor Key) S) (i : ℕ) → i ≡ length persons → KnownTo i s
      → HasKeys (λ k. known k || list_any (λ p. equals p.key k) persons) s
  person_all s i end was = known_alike _ _ s
      (λ q. ap (λ (ps : List Person). known q || list_any (λ p. equals p.key q) ps) (ap (λ n. take n persons) end ∙ take-length persons))
      was
