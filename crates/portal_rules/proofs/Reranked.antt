-- A change that keeps lecturers' rows: whom a code names, the catalogue's names, and soundness.
use Rattle.portal_rules.proofs.Base.{◌≡◌, true, false, List, ◌∷◌, ◌++◌, length, sym, ◌∙◌, ap, subst, arith, map, Option}
use Rattle.portal_rules.proofs.Base.{None, option_map, IfSome, find, AllByRecursion, length-map, Key, equals, has, Rise}
use Rattle.portal_rules.proofs.Base.{AreDistinct, World, in_play, lecturer_key, student_key, applicants_of, is_ranking}
use Rattle.portal_rules.proofs.Base.{is_published, is_from_ranking, Phase, Caller, LecturerCaller, lecturer_with}
use Rattle.portal_rules.proofs.Base.{caller, name_in, project_keys, Sound, IsChoice, IsRanking, IsLecturer, ProjectRow}
use Rattle.portal_rules.proofs.Base.{is_second, is_still_to_rank, ◌≤◌}
use Rattle.portal_rules.specs.World as rows
use Rattle.portal_rules.proofs.Keys.{find_map}
use Rattle.portal_rules.proofs.AllLaws.{all_map, all_weaker, map_same}

abbrev pub re_called : (rows.Lecturer → rows.Lecturer) → Caller → Caller
re_called f (LecturerCaller l) = LecturerCaller (f l)
re_called f x = x

module _ (f : rows.Lecturer → rows.Lecturer) (keeps : (l : rows.Lecturer) → (f l).row ≡ l.row) where
  pub caller_kept : (w : World) (c : Key)
      → caller (record w { lecturers = map f w.lecturers }) c ≡ re_called f (caller w c)
  caller_kept w c =
      let found : find (λ (l : rows.Lecturer). equals l.row.code c) (map f w.lecturers) ≡ option_map f (lecturer_with w c)
      = find_map f (λ l. equals l.row.code c) (λ l. equals l.row.code c) (λ l. ap (λ r. equals r.code c) (keeps l)) w.lecturers in
      grind (arith, found)

  name_kept : (o : Option rows.Lecturer)
      → option_map (λ (l : rows.Lecturer). l.row.name) (option_map f o) ≡ option_map (λ (l : rows.Lecturer). l.row.name) o
  name_kept o = grind (arith, keeps)

  pub names_kept : (ls : List rows.Lecturer) (q : Key) → name_in (map f ls) q ≡ name_in ls q
  names_kept ls q =
      ap (option_map (λ (l : rows.Lecturer). l.row.name))
      (find_map f (λ l. equals l.row.key q) (λ l. equals l.row.key q) (λ l. ap (λ r. equals r.key q) (keeps l)) ls)
      ∙ name_kept (find (λ l. equals l.row.key q) ls)

  -- while rankings are made
  pub sound_kept : (w : World) → ((l : rows.Lecturer) → (f l).earlier_ranking ≡ l.earlier_ranking)
      → project_keys (in_play (record w { lecturers = map f w.lecturers })) ≡ project_keys (in_play w)
      → Sound w → is_ranking w.phase ≡ true → AllByRecursion
      (λ l. IfSome l.ranking (IsRanking (map student_key (applicants_of w l.row.key)))) (map f w.lecturers)
      → Sound (record w { lecturers = map f w.lecturers })
  sound_kept w earlier play g e ranked =
      let keys : map lecturer_key (map f w.lecturers)
      ≡ map lecturer_key w.lecturers = map_same lecturer_key f (λ l. ap (λ r. r.key) (keeps l)) w.lecturers in
      let codes : map (λ (l : rows.Lecturer). l.row.code) (map f w.lecturers)
      ≡ map (λ l. l.row.code) w.lecturers = map_same _ f (λ l. ap (λ r. r.code) (keeps l)) w.lecturers in
      let now : (is_from_ranking w.phase ≡ true) × (is_published w.phase ≡ false) = only_ranking w.phase e in
      let lecturers_rise = subst Rise (sym keys) g.lecturers_rise in
      let lecturer_forms = all_map (λ (l : rows.Lecturer). IsLecturer l.row) f w.lecturers
      (all_weaker _ _ (λ l h. subst IsLecturer (sym (keeps l)) h) w.lecturers g.lecturer_forms) in
      let few_lecturers : length (map f w.lecturers) ≤ 300 = omega (arith, g.few_lecturers, length-map w.lecturers f) in
      let apart = subst (λ cs. AreDistinct (w.office ∷ cs ++ map (λ (s : rows.Student). s.row.code) w.students)) (sym codes) g.codes in
      let lecturers_known = subst (λ ks. AllByRecursion (λ (p : ProjectRow). has ks p.lecturer ≡ true) w.projects)
      (sym keys) g.lecturers_known in
      let choices = subst (λ ks. AllByRecursion (λ (s : rows.Student). IsChoice ks s.choice) w.students) (sym play) g.choices in
      let no_rankings_yet : is_from_ranking w.phase ≡ false
      → AllByRecursion (λ (l : rows.Lecturer). l.ranking ≡ None) (map f w.lecturers) = λ h. cc in
      let all_ranked : is_published w.phase ≡ true
      → AllByRecursion (λ l. is_still_to_rank (record w { lecturers = map f w.lecturers }) l ≡ false) (map f w.lecturers) = λ h. cc in
      let no_earlier_rankings : is_second w.round ≡ false
      → AllByRecursion (λ (l : rows.Lecturer). l.earlier_ranking ≡ None) (map f w.lecturers)
      = λ h. all_map _ f w.lecturers (all_weaker _ _ (λ l e. earlier l ∙ e) w.lecturers (g.no_earlier_rankings h)) in
      assumption
    where
      only_ranking : (phase : Phase) → is_ranking phase ≡ true
          → (is_from_ranking phase ≡ true) × (is_published phase ≡ false)
      only_ranking phase e = grind arith
