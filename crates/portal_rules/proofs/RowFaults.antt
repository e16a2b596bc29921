-- A roll taken row by row: what each row adds, and which row is refused first.
use Rattle.portal_rules.proofs.Base.{◌≡◌, [], ℕ, ◌+◌, ◌<◌, suc, Bool, true, false, List, ◌∷◌, ◌++◌, length, drop}
use Rattle.portal_rules.proofs.Base.{reverse, get_or, refl, sym, ◌∙◌, ap, subst, arith, append_assoc, add-one, Option}
use Rattle.portal_rules.proofs.Base.{None, nat_le, if◌then◌else◌, reverse-append, drop-cons, RollRules, RollRefusal}
use Rattle.portal_rules.proofs.Base.{Taken, Faulty, Took, Verdict, Present, New, Rejected, verdict_beside, verdict}
use Rattle.portal_rules.proofs.Base.{there_after, with_row, take_rows, with_new, IsFirstRefused}

-- a row with this verdict, and then the later rows
pub next_row : {X : Type 0} (rules : RollRules X) (at : ℕ) (there : List X) (row : X) (rows : List X) (v : Verdict)
    → verdict rules at there row ≡ v
    → take_rows rules at there (row ∷ rows) ≡ with_row row v (take_rows rules (at + 1) (there_after there row v) rows)
next_row rules at there row rows v is = ap (λ w. with_row row w (take_rows rules (at + 1) (there_after there row w) rows)) is

-- when a row is new
pub is_fresh : {X : Type 0} (rules : RollRules X) (at : ℕ) (o : Option X) (there : List X) (row : X)
    → verdict_beside rules at o there row ≡ New
    → (o ≡ None) × (rules.is_bad there row ≡ false) × (nat_le rules.limit (length there) ≡ false)
is_fresh rules at o there row e = grind arith

-- what a row adds to what is taken later
module _ {X : Type 0} (row : X) where
  pub took_present : (t : Taken X) (new : List X) (same : ℕ) → with_row row Present t ≡ Took new same
      → (m : ℕ) × (t ≡ Took new m)
  took_present (Took n m) new same e = (m, (let is : n ≡ new = cc in ap (λ l. Took l m) is))
  took_present (Faulty f) new same e = cc

  pub took_new : (t : Taken X) (new : List X) (same : ℕ) → with_row row New t ≡ Took new same
      → (n : List X) × (m : ℕ) × (new ≡ row ∷ n) × (t ≡ Took n m)
  took_new (Took n m) new same e = (n, m, cc, refl)
  took_new (Faulty f) new same e = cc

-- the first refused row

module _ {X : Type 0} (rules : RollRules X) (fault : RollRefusal) where
  abbrev FoundRow : ℕ → List X → List X → Type 0
  FoundRow at there rows =
      (front : List X) × (row : X) × (rest : List X) × (new : List X) × (same : ℕ) × (rows ≡ front ++ row ∷ rest)
      × (take_rows rules at there front ≡ Took new same)
      × (verdict rules (at + length front) (with_new new there) row ≡ Rejected fault)

  same_fault : (row : X) (t : Taken X) → with_row row Present t ≡ Faulty fault → t ≡ Faulty fault
  same_fault row t e = grind arith

  new_fault : (row : X) (t : Taken X) → with_row row New t ≡ Faulty fault → t ≡ Faulty fault
  new_fault row t e = grind arith

  one_fault : (f : RollRefusal) → ◌≡◌ {A = Taken X} (Faulty f) (Faulty fault) → f ≡ fault
  one_fault f e = cc

  found_row : (at : ℕ) (there rows : List X) → take_rows rules at there rows ≡ Faulty fault → FoundRow at there rows
  found_row at there [] e = cc
  found_row at there (r ∷ rs) e = go (λ t h. found_row (at + 1) t rs h) (verdict rules at there r) refl
    where
      go : ((t : List X) → take_rows rules (at + 1) t rs ≡ Faulty fault → FoundRow (at + 1) t rs) → (v : Verdict)
          → verdict rules at there r ≡ v → FoundRow at there (r ∷ rs)
      go again (Rejected f) is =
          let told = one_fault f (sym (next_row rules at there r rs (Rejected f) is) ∙ e) in
          ([], r, rs, [], 0, refl, refl, subst (λ n. verdict rules n there r ≡ Rejected fault) (omega arith) (is ∙ ap Rejected told))
      go again Present is =
          let (front, x, rest, new, n, parts, took, refused) =
          again there (same_fault r (take_rows rules (at + 1) there rs) (sym (next_row rules at there r rs Present is) ∙ e)) in (
            r ∷ front,
            x,
            rest,
            new,
            n + 1,
            ap (λ l. r ∷ l) parts,
            next_row rules at there r front Present is
                ∙ ap (with_row r Present) took,
            subst (λ m. verdict rules m (with_new new there) x ≡ Rejected fault) (omega arith) refused,
          )
      go again New is =
          let (front, x, rest, new, n, parts, took, refused) =
          again (r ∷ there) (new_fault r (take_rows rules (at + 1) (r ∷ there) rs) (sym (next_row rules at there r rs New is) ∙ e)) in (
            r ∷ front,
            x,
            rest,
            r ∷ new,
            n,
            ap (λ l. r ∷ l) parts,
            next_row rules at there r front New is
                ∙ ap (with_row r New) took,
            subst (λ m. verdict rules m (with_new new (r ∷ there)) x ≡ Rejected fault) (omega arith) refused,
          )

  pub row_first : (there rows : List X) → take_rows rules 1 there rows ≡ Faulty fault
      → IsFirstRefused rules there rows fault
  row_first there rows e =
      let (front, r, rest, new, same, parts, took, refused) = found_row 1 there rows e in
      record {
        front = front;
        row = r;
        rest = rest;
        parts = parts;
        new = new;
        same = same;
        taken = took;
        refused = subst (λ n. verdict rules n (with_new new there) r ≡ Rejected fault) (omega arith) refused;
      }

-- what is taken so far, and what the rest will add

-- what was taken before stands in front of what is taken later
abbrev pub before : {X : Type 0} → List X → ℕ → Taken X → Taken X
before new same (Faulty fault) = Faulty fault
before new same (Took more count) = Took (new ++ more) (same + count)

before_new : {X : Type 0} (new : List X) (same : ℕ) (x : X) (t : Taken X)
    → before new same (with_row x New t) ≡ before (new ++ x ∷ []) same t
before_new new same x t = grind (arith, append_assoc)

before_same : {X : Type 0} (new : List X) (same : ℕ) (x : X) (t : Taken X)
    → before new same (with_row x Present t) ≡ before new (same + 1) t
before_same new same x t = grind arith

drop_more : {X : Type 0} (xs : List X) (i : ℕ) (x : X) → i < length xs → x ≡ get_or xs i x
    → drop i xs ≡ x ∷ drop (i + 1) xs
drop_more xs i x low e = drop-cons xs i x low ∙ ap (λ y. y ∷ drop (suc i) xs) (sym e) ∙ ap (λ n. x ∷ drop n xs) (sym (add-one i))

-- the rows that are there after a new row
pub there_new : {X : Type 0} (on_roll new now : List X) (x : X) → now ≡ new ++ x ∷ []
    → x ∷ reverse new ++ on_roll ≡ reverse now ++ on_roll
there_new on_roll new now x is = ap (λ xs. xs ++ on_roll) (sym (ap reverse is ∙ reverse-append new (x ∷ [])))

module _ {X : Type 0} (rules : RollRules X) (at : ℕ) (on_roll rows new seen : List X) (same i : ℕ) (x : X) (whole : Taken X)
    (low : i < length rows) (e : x ≡ get_or rows i x) (new_ones : seen ≡ new)
    (so_far : whole ≡ before new same (take_rows rules at (reverse new ++ on_roll) (drop i rows)))
  where
    abbrev later : List X → Taken X
    later there = take_rows rules (at + 1) there (drop (i + 1) rows)

    next : (v : Verdict) → verdict rules at (reverse seen ++ on_roll) x ≡ v
        → whole ≡ before new same (with_row x v (later (there_after (reverse new ++ on_roll) x v)))
    next v is =
        so_far ∙ ap (λ xs. before new same (take_rows rules at (reverse new ++ on_roll) xs)) (drop_more rows i x low e)
        ∙ ap (before new same) (next_row rules at (reverse new ++ on_roll) x (drop (i + 1) rows) v
        (ap (λ zs. verdict rules at (reverse zs ++ on_roll) x) (sym new_ones) ∙ is))

    pub row_faulty : (fault : RollRefusal) → verdict rules at (reverse seen ++ on_roll) x ≡ Rejected fault
        → whole ≡ Faulty fault
    row_faulty fault is = next (Rejected fault) is

    pub row_same : (b : Bool) → b ≡ false → verdict rules at (reverse seen ++ on_roll) x ≡ (if b then New else Present)
        → (now : List X) (count : ℕ) → now ≡ new → count ≡ same + 1
        → whole ≡ before now count (later (reverse now ++ on_roll))
    row_same b old is now count f k =
        next Present (is ∙ ap (λ y. if y then New else Present) old) ∙ before_same new same x (later (reverse new ++ on_roll))
        ∙ (λ j. before (sym f j) (sym k j) (later (reverse (sym f j) ++ on_roll)))

    pub row_new : (b : Bool) → b ≡ true → verdict rules at (reverse seen ++ on_roll) x ≡ (if b then New else Present)
        → (now : List X) (count : ℕ) → now ≡ new ++ x ∷ [] → count ≡ same
        → whole ≡ before now count (later (reverse now ++ on_roll))
    row_new b added is now count f k =
        next New (is ∙ ap (λ y. if y then New else Present) added) ∙ before_new new same x (later (x ∷ reverse new ++ on_roll))
        ∙ (λ j. before (sym f j) (sym k j) (later (there_new on_roll new now x f j)))
