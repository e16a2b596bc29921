-- A small world, and what is answered in it: two lecturers, three projects and three students.
use Rattle.std.specs.Prelude.{◌≡◌, ℕ, List, [], ◌∷◌, ◌++◌, map, codes, Some, None}
use Rattle.serde_json.specs.Data.{Data, null, string}
use Rattle.portal_rules.specs.declared.phase.Phase.TheVariants.{Choosing, Ranking, Published}
use Rattle.portal_rules.specs.declared.phase.Round.TheVariants.{First, Second}
use Rattle.portal_rules.specs.declared.rows.ProjectRow.{ProjectRow}
use Rattle.portal_rules.specs.Words.{Key}
use Rattle.portal_rules.specs.World.{World, Student, Lecturer, Choices, Ranks, Placements, SecondRound, changed}
use Rattle.portal_rules.specs.World.{new_student, new_lecturer}
use Rattle.portal_rules.specs.View.{view}
use Rattle.portal_rules.specs.Calls.{AbstractCall}
use Rattle.portal_rules.specs.Bodies.{dictionary, several, texts, count}
use Rattle.portal_rules.specs.Answer.{Answer, Said, Csv, Plain, answer, answered}

abbrev pub lecturer : List ℕ → List ℕ → List ℕ → ℕ → Lecturer
lecturer key name code capacity = new_lecturer (record { key = key; name = name; code = code; capacity = capacity })

abbrev pub project : List ℕ → List ℕ → List ℕ → ProjectRow
project key lecturer title = record { key = key; lecturer = lecturer; title = title; capacity = 1 }

abbrev pub student : List ℕ → List ℕ → List ℕ → List Key → Student
student key name code list = record (new_student (record { key = key; name = name; code = code })) { choice = list }

-- in ranking, with the lists
abbrev pub listed : World
listed =
    record {
      round = First;
      phase = Ranking;
      office = codes "office-code-0";
      lecturers =
          lecturer (codes "L1") (codes "Lee") (codes "lee-code-01") 2
          ∷ lecturer (codes "L2") (codes "Moe") (codes "moe-code-02") 1
          ∷ [];
      projects =
          project (codes "P1") (codes "L1") (codes "Tides")
          ∷ project (codes "P2") (codes "L1") (codes "Kites")
          ∷ project (codes "P3") (codes "L2") (codes "Bells")
          ∷ [];
      students =
          student (codes "S1") (codes "Ann") (codes "ann-code-1") (codes "P1" ∷ codes "P2" ∷ [])
          ∷ student (codes "S2") (codes "Roe, Bea") (codes "bea-code-2") (codes "P1" ∷ codes "P3" ∷ [])
          ∷ student (codes "S3") (codes "Cyr") (codes "cyr-code-3") []
          ∷ [];
    }

-- with the first lecturer's ranking
abbrev pub half_ranked : World
half_ranked = changed listed (Ranks (codes "L1") (codes "S2" ∷ codes "S1" ∷ []))

-- with both
abbrev pub ranked : World
ranked = changed half_ranked (Ranks (codes "L2") (codes "S2" ∷ []))

-- published
abbrev pub worked : World
worked = changed ranked (Placements ((codes "S1", codes "P2") ∷ (codes "S2", codes "P1") ∷ []))

-- in the second round
abbrev pub again : World
again = changed worked SecondRound

-- what the world answers to the caller with this code
abbrev pub reply : World → List ℕ → AbstractCall → Answer
reply w code ask = answer (view w code) ask

abbrev pub body : List (List ℕ × Data) → Answer
body members = answered 200 (dictionary members)

abbrev pub refusal : ℕ → List ℕ → List (List ℕ × Data) → Answer
refusal status word members = answered status (dictionary ((codes "error", string word) ∷ members))

abbrev pub sheet : Said → Answer
sheet text = record { status = 200; allow = []; body = text }

abbrev pub worked_persons : List (List ℕ × List ℕ) → Data
worked_persons them = several (map (λ p. dictionary ((codes "key", string p.0) ∷ (codes "name", string p.1) ∷ [])) them)

-- a lecturer sees who listed each own project, and not where
pub record TellsApplicants : Type 0 where
  pub to_lee : reply listed (codes "lee-code-01") AbstractCall.Applicants ≡ body ((
    codes "projects",
    several (
        dictionary ((codes "applicants", worked_persons ((codes "S1", codes "Ann") ∷ (codes "S2", codes "Roe, Bea") ∷ []))
        ∷ (codes "id", string (codes "P1")) ∷ [])
        ∷ dictionary ((codes "applicants", worked_persons ((codes "S1", codes "Ann") ∷ []))
        ∷ (codes "id", string (codes "P2")) ∷ []) ∷ []),
  ) ∷ [])
  pub in_another_order : reply (changed listed (Choices (codes "S1") (codes "P2" ∷ codes "P1" ∷ [])))
      (codes "lee-code-01") AbstractCall.Applicants
      ≡ reply listed (codes "lee-code-01") AbstractCall.Applicants
  pub to_ann : reply listed (codes "ann-code-1") AbstractCall.Applicants ≡ refusal 403 (codes "not_yours") []
  pub to_nobody : reply listed [] AbstractCall.Applicants ≡ refusal 403 (codes "no_caller") []

-- the office publishes once each lecturer with applicants has ranked
pub record TellsMoves : Type 0 where
  pub too_early : reply half_ranked (codes "office-code-0") (AbstractCall.Move Published None)
      ≡ refusal 409 (codes "still_to_rank") ((codes "lecturers", texts (codes "L2" ∷ [])) ∷ [])
  pub published : reply ranked (codes "office-code-0") (AbstractCall.Move Published None)
      ≡ body ((codes "phase", string (codes "published")) ∷ [])

-- the result, as each sees it
pub record TellsResult : Type 0 where
  pub to_ann : reply worked (codes "ann-code-1") AbstractCall.Result
      ≡ body ((codes "project", string (codes "P2")) ∷ [])
  pub to_cyr : reply worked (codes "cyr-code-3") AbstractCall.Result ≡ body ((codes "project", null) ∷ [])
  pub csv : reply worked (codes "office-code-0") AbstractCall.AllocationCsv
      ≡ sheet (Csv (codes "student,name,project,title,lecturer\nS1,Ann,P2,Kites,L1\nS2,\"Roe, Bea\",P1,Tides,L1\nS3,Cyr,,,\n"))
  pub text : reply worked (codes "office-code-0") AbstractCall.Report ≡ sheet (Plain (
      codes "S1                P2                L1\nS2                P1                L1\nS3                (none)\n\n"
      ++ codes "P1                 1 of    1\nP2                 1 of    1\nP3                 0 of    1\n\nassigned 2 of 3\n"))

-- the second round has the students and the room that the first left
pub record TellsOpening : Type 0 where
  pub opened : reply worked (codes "office-code-0") (AbstractCall.Move Choosing (Some Second))
      ≡ body ((codes "phase", string (codes "choosing")) ∷ (codes "round", count 2) ∷ [])
  pub catalogue : reply again (codes "cyr-code-3") AbstractCall.Catalogue ≡ body ((
    codes "projects",
    several (
        dictionary ((codes "capacity", count 1)
        ∷ (codes "id", string (codes "P3")) ∷ (codes "lecturer", string (codes "L2"))
        ∷ (codes "lecturer_name", string (codes "Moe")) ∷ (codes "title", string (codes "Bells")) ∷ []) ∷ []),
  ) ∷ [])
  pub to_ann : reply again (codes "ann-code-1") (AbstractCall.SetChoices []) ≡ refusal 409 (codes "already_placed") []
  pub to_cyr : reply again (codes "cyr-code-3") (AbstractCall.SetChoices (codes "P3" ∷ []))
      ≡ body ((codes "projects", texts (codes "P3" ∷ [])) ∷ [])
