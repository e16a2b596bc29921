-- What is counted by bytes is the number of the lines of a head.
use Rattle.portal_frame.proofs.Base.{◌≡◌, ℕ, ◌+◌, true, false, inl, inr, List, [], ◌∷◌, ◌++◌, length, refl, sym, ap}
use Rattle.portal_frame.proofs.Base.{◌∙◌, arith, zero-add, ◌==◌, Leading, Fresh, Inside, lines_from, header_lines}
use Rattle.portal_frame.proofs.Base.{cases_Bool, LeadingCr, FreshCr, is_empty_line, lines_after, without_leading}
use Rattle.portal_frame.proofs.Base.{before_empty}

-- a line that is not empty stays so
longer : (line : List ℕ) (b : ℕ) → is_empty_line line ≡ false → is_empty_line (line ++ b ∷ []) ≡ false
longer [] b full = absurd (cc)
longer (x ∷ []) b full = refl
longer (x ∷ y ∷ line) b full = refl

-- behind a line that is not empty: at the start of a line, after its CR, and inside of one
pub record IsCounted (bytes : List ℕ) : Type 0 where
  pub fresh : lines_from Fresh bytes ≡ length (before_empty (lines_after [] bytes))
  pub fresh_cr : (b : ℕ) → (b == 13) ≡ true
      → lines_from FreshCr bytes ≡ length (before_empty (lines_after (b ∷ []) bytes))
  pub inside : (line : List ℕ) → is_empty_line line ≡ false
      → lines_from Inside bytes ≡ length (before_empty (lines_after line bytes))

counted : (bytes : List ℕ) → IsCounted bytes
counted [] = record { fresh = refl; fresh_cr = λ b cr. refl; inside = λ line full. refl }
counted (b ∷ bytes) =
    let rest = counted bytes in
    record {
      fresh = elim (cases_Bool (b == 10)) [
        | inl lf ↦ rw lf refl
        | inr other ↦ elim (cases_Bool (b == 13)) [
          | inl cr ↦ rw (other, cr) (zero-add _ ∙ rest.fresh_cr b cr)
          | inr plain ↦ rw (other, plain) (zero-add _ ∙ rest.inside (b ∷ []) plain)
        ]
      ];
      fresh_cr = λ x cr. elim (cases_Bool (b == 10)) [
        | inl lf ↦ rw (lf, cr) refl
        | inr other ↦ rw other (zero-add _ ∙ rest.inside (x ∷ b ∷ []) refl)
      ];
      inside = λ line full. elim (cases_Bool (b == 10)) [
        | inl lf ↦ rw (lf, full) (ap (λ n. 1 + n) rest.fresh ∙ omega arith)
        | inr other ↦ rw other (zero-add _ ∙ rest.inside (line ++ b ∷ []) (longer line b full))
      ];
    }

-- a line that is not empty is the first
kept : (line bytes : List ℕ) → is_empty_line line ≡ false
    → without_leading (lines_after line bytes) ≡ lines_after line bytes
kept line [] full = refl
kept line (b ∷ bytes) full = elim (cases_Bool (b == 10)) [
  | inl lf ↦ rw (lf, full) refl
  | inr other ↦ rw other (kept (line ++ b ∷ []) bytes (longer line b full))
]

first : (line bytes : List ℕ) → is_empty_line line ≡ false
    → lines_from Inside bytes ≡ length (before_empty (without_leading (lines_after line bytes)))
first line bytes full = (counted bytes).inside line full ∙ ap (λ lines. length (before_empty lines)) (sym (kept line bytes full))

-- before the first line that is not empty
pub record LeadsIn (bytes : List ℕ) : Type 0 where
  pub start : lines_from Leading bytes ≡ length (header_lines bytes)
  pub after_cr : (b : ℕ) → (b == 13) ≡ true
      → lines_from LeadingCr bytes ≡ length (before_empty (without_leading (lines_after (b ∷ []) bytes)))

leads : (bytes : List ℕ) → LeadsIn bytes
leads [] = record { start = refl; after_cr = λ b cr. refl }
leads (b ∷ bytes) =
    let rest = leads bytes in
    record {
      start = elim (cases_Bool (b == 10)) [
        | inl lf ↦ rw lf (zero-add _ ∙ rest.start)
        | inr other ↦ elim (cases_Bool (b == 13)) [
          | inl cr ↦ rw (other, cr) (zero-add _ ∙ rest.after_cr b cr)
          | inr plain ↦ rw (other, plain) (zero-add _ ∙ first (b ∷ []) bytes plain)
        ]
      ];
      after_cr = λ x cr. elim (cases_Bool (b == 10)) [
        | inl lf ↦ rw (lf, cr) (zero-add _ ∙ rest.start)
        | inr other ↦ rw other (zero-add _ ∙ first (x ∷ b ∷ []) bytes refl)
      ];
    }

pub counted_is : (bytes : List ℕ) → lines_from Leading bytes ≡ length (header_lines bytes)
counted_is bytes = (leads bytes).start
