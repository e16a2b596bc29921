-- What a caller asks, and what each kind of caller sees.
use Rattle.portal_rules.specs.Base.{ℕ, List, Option, Phase, Round}
use Rattle.portal_rules.specs.World.{LecturerRow, ProjectRow, StudentRow, Person, Listing}
use Rattle.portal_rules.specs.Words.{Key}

pub data AbstractCall : Type 0 where
  Me : AbstractCall
  Catalogue : AbstractCall
  ShowChoices : AbstractCall
  SetChoices : List (List ℕ) → AbstractCall
  Applicants : AbstractCall
  ShowRanking : AbstractCall
  SetRanking : List (List ℕ) → AbstractCall
  Result : AbstractCall
  AddLecturers : List LecturerRow → AbstractCall
  AddProjects : List ProjectRow → AbstractCall
  AddStudents : List StudentRow → AbstractCall
  Move : Phase → Option Round → AbstractCall
  Status : AbstractCall
  Allocation : AbstractCall
  AllocationCsv : AbstractCall
  Report : AbstractCall
  FillRankings : AbstractCall

pub record StudentSees : Type 0 where
  pub round : Round
  pub phase : Phase
  pub me : Person
  pub catalogue : List Listing
  pub choices : List Key
  pub result : Option Key

pub record LecturerSees : Type 0 where
  pub round : Round
  pub phase : Phase
  pub me : Person
  pub capacity : ℕ
  pub catalogue : List Listing
  pub applicants : List (Key × List Person)
  pub ranking : Option (List Key)
  pub placed : List (Key × List Person)

pub record OfficeSees : Type 0 where
  pub round : Round
  pub phase : Phase
  pub office_code : Key
  pub lecturers : List LecturerRow
  pub projects : List ProjectRow
  pub students : List StudentRow
  pub catalogue : List Listing
  pub without_list : List Key
  pub still_to_rank : List Key
  pub pairs : List (Key × Key)
