use Rattle.portal_frame.proofs.Base.{◌∙◌, rules, sym}
use Rattle.portal_frame.proofs.Heads.{opens_full}
use Rattle.portal_frame.proofs.Overlong.{opens_overlong}
use Rattle.portal_frame.proofs.frame_open.Goals as goal
use Rattle.portal_frame.proofs.frame_open.Goals.{then-bytes-lt-LONGEST_HEAD+then-not-is_overlong_head+else-not-ended+else-is_all_blank}
use Rattle.portal_frame.proofs.frame_open.Goals.{else-bytes-lt-LONGEST_HEAD}
use Rattle.portal_frame.proofs.frame_open.Goals.{else-bytes-lt-LONGEST_HEAD-via-then-bytes-lt-LONGEST_HEAD+else-not-is_overlong_head}
use Rattle.portal_frame.proofs.frame_open.Goals.{else-bytes-lt-LONGEST_HEAD-via-else-bytes-lt-LONGEST_HEAD}

pub returns-clause-framed : goal.returns-clause-framed
returns-clause-framed c more last = elim c.if-bytes-lt-LONGEST_HEAD.branch [
  | then-bytes-lt-LONGEST_HEAD+then-not-is_overlong_head+else-not-ended+else-is_all_blank w ↦ search rules
  | else-bytes-lt-LONGEST_HEAD w ↦ rw c.refusal.ensures (elim w.else-bytes-lt-LONGEST_HEAD.branch [
    | else-bytes-lt-LONGEST_HEAD-via-then-bytes-lt-LONGEST_HEAD+else-not-is_overlong_head v ↦ opens_overlong c.args.bytes.now more
        (sym v.is_overlong_head.ensures ∙ v.if-not-is_overlong_head.false)
    | else-bytes-lt-LONGEST_HEAD-via-else-bytes-lt-LONGEST_HEAD v ↦ opens_full c.args.bytes.now more
        (c.requires.full v.if-bytes-lt-LONGEST_HEAD.false more) v.if-bytes-lt-LONGEST_HEAD.false
  ])
]
