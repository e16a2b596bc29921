-- The numbers of the texts on a list.
use Rattle.spa_rows.proofs.Base.{◌≡◌, inl, inr, ℕ, ◌+◌, ◌<◌, ◌↔◌, List, length, get_or, All, Contains, sym, ◌∙◌, ap}
use Rattle.spa_rows.proofs.Base.{subst, arith, cases_lt, get_or-take, length-take, Text, IsEarlierKey}
use Rattle.spa_rows.proofs.Base.{IsKeyOf, NamesNone, Repeats, HasNumber, HaveNumbers, Differ, AreListNumbers, AllZip}
use Rattle.spa_rows.proofs.Base.{AllZip-long, Vec, Global, [], map, Option, Bool, true, false, IsTrue, IsAnyAnswer, eqb}
use Rattle.spa_rows.proofs.Base.{eqb-true, eq-eqb, false≢true, refl, ⊤, IsLeastOf, BadAt, Rows, HasNoneBefore}
use Rattle.spa_rows.proofs.Base.{NoSuchLecturer, KeyTwice, StudentWithList, ProjectWithLecturer}
use Rattle.spa_rows.proofs.Lists.{at_place, map_at, zip_at, zip_all, zip_weaker}
use Rattle.spa_rows.proofs.LeastRow.{alike}

module _ {X : Type 0} (lines : List X) (key : X → Text) where
  -- a line with the key was found, or none
  pub number_found : (text : Text) (n : ℕ) → n < length lines → ((d : X) → key (get_or lines n d) ≡ text)
      → HasNumber lines key text n
  number_found text n h at = record { bound = omega arith; known = λ _. at; unknown = λ past. absurd (omega arith) }

  pub number_none : (text : Text) (n : ℕ) → n ≡ length lines → (IsKeyOf lines key text → ⊥) → HasNumber lines key text n
  number_none text n past none = record { bound = omega arith; known = λ h. absurd (omega arith); unknown = λ _. none }

  -- a number below the count is that of a key
  pub number_known : (text : Text) (n : ℕ) → HasNumber lines key text n → n < length lines → IsKeyOf lines key text
  number_known text n has h = let row = at_place lines n h in (n, row.0, h, row.1, ap key (sym row.1) ∙ has.known h row.0)

  -- numbers are at most the count
  pub numbers_bounded : (texts : List Text) (numbers : List ℕ) → HaveNumbers lines key texts numbers
      → All (λ n. n < length lines + 1) numbers
  numbers_bounded texts numbers have = zip_all (HasNumber lines key) (λ n. n < length lines + 1) texts numbers
      (λ text n has. omega (arith, has.bound)) have

  -- a list has the number that no line has where it names none
  pub names_none_iff : (texts : List Text) (numbers : List ℕ) → HaveNumbers lines key texts numbers
      → Contains numbers (length lines) ↔ NamesNone lines key texts
  names_none_iff texts numbers have = (
    λ (k, h, at).
        let text = at_place texts k (omega (arith, h, long)) in
        let has : HasNumber lines key (get_or texts k text.0) (get_or numbers k (length lines)) =
        zip_at (HasNumber lines key) texts numbers k text.0 (length lines) (omega (arith, h, long)) have in (
          k,
          text.0,
          omega (arith, h, long),
          text.1,
          (subst (λ t. HasNumber lines key t (get_or numbers k (length lines))) text.1 has).unknown (omega (arith, at)),
        ),
    λ (k, text, h, at, none).
        let has : HasNumber lines key (get_or texts k text) (get_or numbers k (length lines)) =
        zip_at (HasNumber lines key) texts numbers k text (length lines) h have in
        let mine : HasNumber lines key text (get_or numbers k (length lines)) =
        subst (λ t. HasNumber lines key t (get_or numbers k (length lines))) at has in
        elim (cases_lt (get_or numbers k (length lines)) (length lines)) [
          | inl known ↦ absurd (none (number_known text _ mine known))
          | inr past ↦ (k, omega (arith, h, long), omega (arith, mine.bound))
        ],
  )
    where
      long : length numbers ≡ length texts
      long = AllZip-long (HasNumber lines key) texts numbers have

  module _ (apart : (n : ℕ) (x : X) → n < length lines → get_or lines n x ≡ x → IsEarlierKey lines key n (key x) → ⊥) where
    later : (text : Text) (m n : ℕ) → m < n → n < length lines → ((d : X) → key (get_or lines m d) ≡ text)
        → ((d : X) → key (get_or lines n d) ≡ text) → ⊥
    later text m n less h at_m at_n =
        let x = at_place lines m (omega arith) in
        let y = at_place lines n h in
        apart n y.0 h y.1 (
          m,
          x.0,
          omega (arith, length-take n lines),
          get_or-take n lines m x.0 less ∙ x.1,
          ap key (sym x.1) ∙ at_m x.0
              ∙ sym (ap key (sym y.1) ∙ at_n y.0),
        )

    -- a text has one number
    pub one_number : (text : Text) (m n : ℕ) → HasNumber lines key text m → HasNumber lines key text n → m ≡ n
    one_number text m n a b = elim (cases_lt m (length lines)) [
      | inl m_known ↦ elim (cases_lt n (length lines)) [
        | inl n_known ↦ elim (cases_lt m n) [
          | inl less ↦ absurd (later text m n less n_known (a.known m_known) (b.known n_known))
          | inr not ↦ elim (cases_lt n m) [
            | inl less ↦ absurd (later text n m less m_known (b.known n_known) (a.known m_known))
            | inr same ↦ omega arith
          ]
        ]
        | inr past ↦ absurd (b.unknown past (number_known text m a m_known))
      ]
      | inr past ↦ elim (cases_lt n (length lines)) [
        | inl n_known ↦ absurd (a.unknown past (number_known text n b n_known))
        | inr also ↦ omega (arith, a.bound, b.bound)
      ]
    ]

    -- where numbers differ, so do their texts
    pub texts_differ : (texts : List Text) (numbers : List ℕ) → HaveNumbers lines key texts numbers → Differ numbers
        → Repeats texts → ⊥
    texts_differ texts numbers have differ (j, text, h, at, (i, earlier, under, at_i, same)) =
        let less : i < j = omega (arith, under, length-take j texts) in
        let long : length numbers ≡ length texts = AllZip-long (HasNumber lines key) texts numbers have in
        let first : HasNumber lines key (get_or texts i earlier) (get_or numbers i 0) =
        zip_at (HasNumber lines key) texts numbers i earlier 0 (omega arith) have in
        let second : HasNumber lines key (get_or texts j text) (get_or numbers j 0) =
        zip_at (HasNumber lines key) texts numbers j text 0 h have in
        differ i j 0 less (omega (arith, h, long)) (one_number text _ _
        (subst (λ t. HasNumber lines key t (get_or numbers i 0)) (sym (get_or-take j texts i earlier less) ∙ at_i ∙ same) first)
        (subst (λ t. HasNumber lines key t (get_or numbers j 0)) at second))

  module _ {L : Type 0} (owners : List L) (list : L → List Text) (numbers : List (Vec ℕ Global))
      (are : AreListNumbers lines key list owners numbers) where
    -- the least row whose list names none
    pub unknown_least : (row : L → ℕ) (o : Option ℕ)
        → IsLeastOf (BadAt owners row (λ j _. Contains (get_or (map (λ own. own.items) numbers) j []) (length lines))) o
        → IsLeastOf (BadAt owners row (λ _ x. NamesNone lines key (list x))) o
    unknown_least row o least = alike owners row (λ _ _. ⊤) (λ j _. Contains (get_or (map (λ own. own.items) numbers) j []) (length lines))
        (λ _ x. NamesNone lines key (list x)) (length owners) o
        (λ j x below at.
        let own = at_place numbers j (omega (arith, AllZip-long (λ x own. HaveNumbers lines key (list x) own.items) owners numbers are)) in
        let have : HaveNumbers lines key (list (get_or owners j x)) (get_or numbers j own.0).items =
        zip_at (λ x own. HaveNumbers lines key (list x) own.items) owners numbers j x own.0 below are in
        let here : get_or (map (λ own. own.items) numbers) j []
        ≡ own.0.items = map_at (λ own. own.items) numbers j own.0 []
        (omega (arith, AllZip-long (λ x own. HaveNumbers lines key (list x) own.items) owners numbers are)) own.1 in
        rw here (names_none_iff (list x) own.0.items (rw (at, own.1) at have)))
        least

    -- all numbers are below one more than the count
    pub below_count : All (λ own. All (λ n. n < length lines + 1) own.items) numbers
    below_count = zip_all (λ x own. HaveNumbers lines key (list x) own.items)
        (λ own. All (λ n. n < length lines + 1) own.items) owners numbers (λ x own have. numbers_bounded (list x) own.items have) are

    -- where the numbers of a list differ, so do its texts
    pub lists_differ : ((n : ℕ) (x : X) → n < length lines → get_or lines n x ≡ x → IsEarlierKey lines key n (key x) → ⊥)
        → AllZip (λ x own. Differ own.items → Repeats (list x) → ⊥) owners numbers
    lists_differ apart = zip_weaker (λ x own. HaveNumbers lines key (list x) own.items)
        (λ x own. Differ own.items → Repeats (list x) → ⊥) owners numbers (λ x own have. texts_differ apart (list x) own.items have) are

-- what a search of a list answers
pub contains_answer : (xs : List ℕ) (x : ℕ) (r : Bool) → IsAnyAnswer (λ y b. eqb y x ≡ b) xs r
    → IsTrue r ↔ Contains xs x
contains_answer xs x true (k, h, at) = (λ _. (k, h, eqb-true (get_or xs k x) x (at x)), λ _. refl)
contains_answer xs x false none = (
  λ e. absurd (false≢true e),
  λ (k, h, at). absurd (false≢true (sym (none k x (omega arith) h) ∙ eq-eqb (get_or xs k x) x at)),
)

-- no line has the key of an earlier one
pub students_apart : (rows : Rows) → HasNoneBefore rows NoSuchLecturer → (n : ℕ) (x : StudentWithList)
    → n < length rows.students → get_or rows.students n x ≡ x → IsEarlierKey rows.students (λ y. y.key) n x.key → ⊥
students_apart rows none n x h at earlier = none KeyTwice (omega arith) x.row (inr (inr (n, x, h, h, at, refl, earlier)))

pub projects_apart : (rows : Rows) → HasNoneBefore rows NoSuchLecturer → (n : ℕ) (x : ProjectWithLecturer)
    → n < length rows.projects → get_or rows.projects n x ≡ x → IsEarlierKey rows.projects (λ y. y.key) n x.key → ⊥
projects_apart rows none n x h at earlier = none KeyTwice (omega arith) x.row (inr (inl (n, x, h, h, at, refl, earlier)))
