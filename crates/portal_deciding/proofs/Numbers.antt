-- Each body is JSON with whole numbers, or a sheet.
use Rattle.portal_rules.proofs.Base.{◌≡◌, ℕ, Bool, false, List, [], ◌∷◌, refl, sym, subst, Option, Some, None, map}
use Rattle.portal_rules.proofs.Base.{codes, Data, string, Key, has_result, StudentSees}
use Rattle.portal_rules.proofs.Base.{LecturerSees, OfficeSees, AbstractCall, dictionary, several, person, phase_body}
use Rattle.portal_rules.proofs.Base.{Said, Act, Decision, to_student, to_lecturer, to_office, arith, items_of}
use Rattle.portal_rules.proofs.Base.{texts_or_null, text_or_null, members, listing, round_member, status_body}
use Rattle.portal_rules.proofs.Base.{applicants_body, placed_body, allocation_body, unwritten, emptied, HasWholeNumbers}
use Rattle.serde_json.specs.Written.{has_float, items_have_float, members_have_float}
use Rattle.portal_rules.specs.declared.phase.Phase.{Phase}
use Rattle.portal_rules.specs.declared.phase.Round.{Round}
use Rattle.portal_rules.specs.declared.rows.Person.{Person}

-- no body has a number that is not whole

none_of : {X : Type 0} (f : X → Data) → ((x : X) → has_float (f x) ≡ false) → (xs : List X)
    → items_have_float (items_of (map f xs)) ≡ false
none_of f each [] = refl
none_of f each (x ∷ xs) = rw (each x, none_of f each xs) refl

of_texts : (ks : List (List ℕ)) → items_have_float (items_of (map string ks)) ≡ false
of_texts ks = none_of string (λ k. refl) ks

of_option : (o : Option (List (List ℕ))) → has_float (texts_or_null o) ≡ false
of_option None = refl
of_option (Some ks) = of_texts ks

of_one : (o : Option (List ℕ)) → has_float (text_or_null o) ≡ false
of_one o = grind arith

-- nor has the round
round_whole : (r : Round) → members_have_float (members (round_member r)) ≡ false
round_whole r = grind arith

phase_whole : (r : Round) (phase : Phase) → has_float (phase_body r phase) ≡ false
phase_whole r phase = grind arith

student_whole : (v : StudentSees) (ask : AbstractCall) → HasWholeNumbers (to_student v ask).reply.body
student_whole v ask =
    let listed = none_of listing (λ l. refl) v.catalogue in
    grind (arith, listed, of_texts, of_one, round_whole)

with_applicants : Key × List Person → Data
with_applicants p = dictionary ((codes "applicants", several (map person p.1)) ∷ (codes "id", string p.0) ∷ [])

with_students : Key × List Person → Data
with_students p = dictionary ((codes "id", string p.0) ∷ (codes "students", several (map person p.1)) ∷ [])

applicants_whole : (ps : List (Key × List Person)) → has_float (applicants_body ps) ≡ false
unfolding with_applicants
applicants_whole ps = rw (none_of with_applicants (λ p. rw (none_of person (λ s. refl) p.1) refl) ps) refl

placed_whole : (ps : List (Key × List Person)) → has_float (placed_body ps) ≡ false
unfolding with_students
placed_whole ps = rw (none_of with_students (λ p. rw (none_of person (λ s. refl) p.1) refl) ps) refl

lecturer_whole : (v : LecturerSees) (ask : AbstractCall) → HasWholeNumbers (to_lecturer v ask).reply.body
lecturer_whole v ask =
    let listed = none_of listing (λ l. refl) v.catalogue in
    grind (arith, listed, of_texts, of_option v.ranking, applicants_whole v.applicants, placed_whole v.placed, round_whole)

status_whole : (v : OfficeSees) (r : Round) → v.round ≡ r → (b : Bool) → has_result v.round v.phase ≡ b
    → has_float (status_body v) ≡ false
status_whole v r f b e = grind (arith, of_texts)

as_pair : Key × Key → Data
as_pair x = dictionary ((codes "project", string x.1) ∷ (codes "student", string x.0) ∷ [])

pairs_whole : (xs : List (Key × Key)) → has_float (allocation_body xs) ≡ false
unfolding as_pair
pairs_whole xs = rw (none_of as_pair (λ x. refl) xs) refl

office_whole : (v : OfficeSees) (ask : AbstractCall) → HasWholeNumbers (to_office v ask).reply.body
office_whole v AbstractCall.Status = status_whole v v.round refl (has_result v.round v.phase) refl
office_whole v (AbstractCall.Move phase named) = grind (arith, of_texts, phase_whole)
office_whole v ask =
    let listed = none_of listing (λ l. refl) v.catalogue in
    grind (arith, listed, of_texts, round_whole, pairs_whole v.pairs)

unwritten_whole : (a : Act) (s : Said) → HasWholeNumbers s → HasWholeNumbers (unwritten a s)
unwritten_whole a s e = grind arith

-- what is decided for each role

pub whole_office : (v : OfficeSees) (ask : AbstractCall) (d : Decision) → d ≡ emptied (to_office v ask)
    → HasWholeNumbers d.reply.body
whole_office v ask d e = subst (λ (x : Decision). HasWholeNumbers x.reply.body) (sym e)
    (unwritten_whole (to_office v ask).act (to_office v ask).reply.body (office_whole v ask))

pub whole_lecturer : (v : LecturerSees) (ask : AbstractCall) (d : Decision) → d ≡ to_lecturer v ask
    → HasWholeNumbers d.reply.body
whole_lecturer v ask d e = subst (λ (x : Decision). HasWholeNumbers x.reply.body) (sym e) (lecturer_whole v ask)

pub whole_student : (v : StudentSees) (ask : AbstractCall) (d : Decision) → d ≡ to_student v ask
    → HasWholeNumbers d.reply.body
whole_student v ask d e = subst (λ (x : Decision). HasWholeNumbers x.reply.body) (sym e) (student_whole v ask)
