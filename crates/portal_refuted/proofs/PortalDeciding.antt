-- Refutes decisions that take a faulty list, keep none, add a row again, refuse to publish, tell the
-- result, or open a round too early.
use Rattle.std.proofs.Common.{◌≡◌, ℕ, List, [], ◌∷◌, length, Some, None, refl, ap, arith, take, ◌+◌, zero, suc}
use Rattle.std.proofs.Common.{get_or}
use Rattle.std.specs.Prelude.{codes}
use Rattle.portal_rules.specs.declared.phase.Phase.TheVariants.{Choosing, Ranking, Published}
use Rattle.portal_rules.specs.declared.rows.StudentRow.{StudentRow}
use Rattle.portal_rules.specs.declared.phase.Round.TheVariants.{First, Second}
use Rattle.portal_rules.specs.Answer.{Act, Decision, Nothing, Apply, Publish, applies, decision, emptied, refuses}
use Rattle.portal_rules.specs.Answer.{Said, Json, answered, still_to_rank, shows}
use Rattle.portal_rules.specs.Bodies.{students_body, projects_body, phase_body, catalogue_body}
use Rattle.serde_json.specs.Data.{Data, Items, no_items, item, Members, no_members, member, null, string, array}
use Rattle.serde_json.specs.Data.{object}
use Rattle.portal_rules.specs.Calls.{AbstractCall}
use Rattle.portal_rules.specs.View.{view, listings}
use Rattle.portal_rules.specs.Words.{Key}
use Rattle.portal_rules.specs.World.{World, Change, Choices, Ranks, Lecturers, Projects, Students, Placements}
use Rattle.portal_rules.specs.World.{SecondRound}
use Rattle.portal_rules.specs.examples.Worked.{listed, half_ranked, ranked, worked, again}
use Rattle.portal_refuted.proofs.Keepers.{choosing, cyr, dan}

abbrev office : Key
office = codes "office-code-0"

abbrev lee : Key
lee = codes "lee-code-01"

abbrev ann : Key
ann = codes "ann-code-1"

abbrev eve : StudentRow
eve = record { key = codes "S5"; name = codes "Eve"; code = codes "eve-code-5" }

-- what `decide` returns for the caller with this code
abbrev decided : World → Key → AbstractCall → Decision
decided w code ask = emptied (decision (view w code) ask)

abbrev status_of : Decision → ℕ
status_of d = d.reply.status

-- how many rows or keys a change brings
abbrev brings : Change → ℕ
brings (Choices key list) = length list
brings (Ranks key list) = length list
brings (Lecturers rows) = length rows
brings (Projects rows) = length rows
brings (Students rows) = length rows
brings (Placements pairs) = length pairs
brings _ = 0

-- the same of an act, and 1 for the change itself; 0 if it makes none
abbrev size_of : Act → ℕ
size_of (Apply change) = brings change + 1
size_of act = 0

abbrev is_publish : Act → ℕ
is_publish Publish = 1
is_publish act = 0

abbrev act_size : Decision → ℕ
act_size d = size_of d.act

abbrev pub members_in : Members → ℕ
members_in no_members = 0
members_in (member key value rest) = members_in rest + 1

-- how many members the object has that a body is
abbrev width : Said → ℕ
width (Json (object ms)) = members_in ms
width said = 0

-- the value of a body's first or second member
abbrev pub value_in : ℕ → Said → Data
value_in zero (Json (object (member key value rest))) = value
value_in (suc n) (Json (object (member key value (member other next rest)))) = next
value_in n said = null

abbrev pub items_in : Items → ℕ
items_in no_items = 0
items_in (item value rest) = items_in rest + 1

-- how many items a JSON array has
abbrev pub size_in : Data → ℕ
size_in (array them) = items_in them
size_in value = 0

-- the first byte of the first text in a JSON array
abbrev letter_in : Data → ℕ
letter_in (array (item (string text) rest)) = get_or text 0 0
letter_in value = 0

abbrev body_width : Decision → ℕ
body_width d = width d.reply.body

-- ---- any call

pub call_given_up_is_not_the_decision : (d : Decision) → d.reply.status ≡ 503
    → d ≡ decided listed lee AbstractCall.Me → ⊥
call_given_up_is_not_the_decision d says is = omega (arith, says, ap status_of is)

pub refusal_of_everything_is_not_the_decision : (d : Decision) → d.reply.status ≡ 403
    → d ≡ decided listed lee AbstractCall.Me → ⊥
refusal_of_everything_is_not_the_decision d says is = omega (arith, says, ap status_of is)

pub call_that_shows_is_answered : status_of (decided listed lee AbstractCall.Me) ≡ 200
call_that_shows_is_answered = refl

-- ---- lists

abbrev ranks : List Key → Decision
ranks list = decided listed lee (AbstractCall.SetRanking list)

pub ranking_without_an_applicant_is_not_taken : (d : Decision) → d.reply.status ≡ 200 → d ≡ ranks (codes "S2" ∷ [])
    → ⊥
ranking_without_an_applicant_is_not_taken d says is = omega (arith, says, ap status_of is)

pub refused_ranking_is_not_kept_in_part : (d : Decision) → d.act ≡ Apply (Ranks (codes "L1") (codes "S2" ∷ []))
    → d ≡ ranks (codes "S2" ∷ []) → ⊥
refused_ranking_is_not_kept_in_part d does is = omega (arith, ap size_of does, ap act_size is)

pub whole_ranking_is_taken : ranks (codes "S2" ∷ codes "S1" ∷ [])
    ≡ applies (students_body (Some (codes "S2" ∷ codes "S1" ∷ [])))
    (Ranks (codes "L1") (codes "S2" ∷ codes "S1" ∷ []))
whole_ranking_is_taken = refl

abbrev chooses : World → Decision
chooses w = decided w ann (AbstractCall.SetChoices (codes "P3" ∷ []))

pub answered_list_that_is_not_kept_is_refuted : (d : Decision) → d.act ≡ Apply (Choices (codes "S1") [])
    → d ≡ chooses choosing → ⊥
answered_list_that_is_not_kept_is_refuted d does is = omega (arith, ap size_of does, ap act_size is)

pub answered_list_without_a_change_is_refuted : (d : Decision) → d.act ≡ Nothing → d ≡ chooses choosing → ⊥
answered_list_without_a_change_is_refuted d does is = omega (arith, ap size_of does, ap act_size is)

pub list_is_kept : chooses choosing
    ≡ applies (projects_body (codes "P3" ∷ [])) (Choices (codes "S1") (codes "P3" ∷ []))
list_is_kept = refl

pub list_of_a_placed_student_is_not_taken : (d : Decision) → d.reply.status ≡ 200 → d ≡ chooses again → ⊥
list_of_a_placed_student_is_not_taken d says is = omega (arith, says, ap status_of is)

-- ---- rolls

abbrev adds : World → List StudentRow → Decision
adds w rows = decided w office (AbstractCall.AddStudents rows)

pub row_there_already_is_not_added_again : (d : Decision) → d.act ≡ Apply (Students (cyr ∷ []))
    → d ≡ adds choosing (cyr ∷ []) → ⊥
row_there_already_is_not_added_again d does is = omega (arith, ap size_of does, ap act_size is)

pub row_there_already_changes_nothing : (adds choosing (cyr ∷ [])).act ≡ Nothing
row_there_already_changes_nothing = refl

pub row_with_another_name_is_not_taken : (d : Decision) → d.reply.status ≡ 200
    → d ≡ adds choosing (record cyr { name = codes "Cyrus" } ∷ []) → ⊥
row_with_another_name_is_not_taken d says is = omega (arith, says, ap status_of is)

pub roll_without_its_last_row_is_refuted : (d : Decision) → d.act ≡ Apply (Students (dan ∷ []))
    → d ≡ adds choosing (dan ∷ eve ∷ []) → ⊥
roll_without_its_last_row_is_refuted d does is = omega (arith, ap size_of does, ap act_size is)

pub new_rows_are_added : (adds choosing (dan ∷ eve ∷ [])).act ≡ Apply (Students (dan ∷ eve ∷ []))
new_rows_are_added = refl

pub roll_in_the_second_round_is_not_taken : (d : Decision) → d.reply.status ≡ 200 → d ≡ adds again (dan ∷ []) → ⊥
roll_in_the_second_round_is_not_taken d says is = omega (arith, says, ap status_of is)

-- ---- moves

abbrev publishes : World → Decision
publishes w = decided w office (AbstractCall.Move Published None)

pub refusal_to_publish_is_refuted : (d : Decision) → d.reply.status ≡ 409 → d ≡ publishes ranked → ⊥
refusal_to_publish_is_refuted d says is = omega (arith, says, ap status_of is)

-- any reply with a member beside the phase, such as how many students are assigned
pub reply_that_tells_the_result_is_refuted : (d : Decision) → body_width d ≡ 2 → d ≡ publishes ranked → ⊥
reply_that_tells_the_result_is_refuted d tells is = omega (arith, tells, ap body_width is)

pub publication_that_acts_on_nothing_is_refuted : (d : Decision) → d.act ≡ Nothing → d ≡ publishes ranked → ⊥
publication_that_acts_on_nothing_is_refuted d does is = omega (arith, ap is_publish does, ap (λ (e : Decision). is_publish e.act) is)

pub publication_is_answered : publishes ranked
    ≡ record { reply = answered 200 (phase_body First Published); act = Publish }
publication_is_answered = refl

pub publication_before_all_have_ranked_is_refuted : (d : Decision) → d.reply.status ≡ 200 → d ≡ publishes half_ranked
    → ⊥
publication_before_all_have_ranked_is_refuted d says is = omega (arith, says, ap status_of is)

-- the student without a list in place of the lecturer who is still to rank
pub refusal_that_names_others_is_refuted : refuses (still_to_rank (codes "S3" ∷ [])) ≡ publishes half_ranked → ⊥
refusal_that_names_others_is_refuted is =
    omega (arith, ap (λ (d : Decision). letter_in (value_in 1 d.reply.body)) is)

pub refusal_names_who_is_still_to_rank : publishes half_ranked ≡ refuses (still_to_rank (codes "L2" ∷ []))
refusal_names_who_is_still_to_rank = refl

pub second_round_opened_without_its_name_is_refuted : (d : Decision) → d.reply.status ≡ 200
    → d ≡ decided worked office (AbstractCall.Move Choosing None) → ⊥
second_round_opened_without_its_name_is_refuted d says is = omega (arith, says, ap status_of is)

pub second_round_opens_by_its_name : decided worked office (AbstractCall.Move Choosing (Some Second))
    ≡ applies (phase_body Second Choosing) SecondRound
second_round_opens_by_its_name = refl

pub round_told_in_the_first_is_refuted : (d : Decision) → body_width d ≡ 2
    → d ≡ decided choosing office (AbstractCall.Move Ranking None) → ⊥
round_told_in_the_first_is_refuted d tells is = omega (arith, tells, ap body_width is)

-- ---- what is shown

pub catalogue_without_its_last_project_is_refuted : shows
    (catalogue_body (listings listed.lecturers (take 2 listed.projects)))
    ≡ decided listed ann AbstractCall.Catalogue → ⊥
catalogue_without_its_last_project_is_refuted is =
    omega (arith, ap (λ (d : Decision). size_in (value_in 0 d.reply.body)) is)

pub whole_catalogue_is_shown : shows (catalogue_body (listings listed.lecturers listed.projects))
    ≡ decided listed ann AbstractCall.Catalogue
whole_catalogue_is_shown = refl
