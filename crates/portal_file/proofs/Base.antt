-- What a call that succeeded ensures.
use Rattle.std.proofs.Common.{Ok, Err, Result, OnOk, IfOk}
use Rattle.std.specs.Prelude.{IfErr, MatchResult}
pub use Rattle.std.proofs.lemmas.Result.{IfOk-weaker as if_ok, IfErr-weaker as if_err, on_ok_weaker as on_ok}
use Rattle.sqlite_disk.specs.declared.Files.{Files}
use Rattle.portal_file.specs.Closing.{IfStands}
use Rattle.portal_file.specs.declared.closing.NotCopied.{NotCopied}

pub if_ok_on : {A E : Type 0} (r : Result A E) (L : Type 0) (P Q : A → Type 0) → ((x : A) → L → P x → Q x) → OnOk r L
    → IfOk r P → IfOk r Q
if_ok_on (Ok x) L P Q more h k = more x h k
if_ok_on (Err e) L P Q more h k = tt

pub if_stands_both : {D : Type 0} (closed : Result (Files D) (NotCopied D)) (P Q R : Files D → Type 0)
    → ((files : Files D) → P files → Q files → R files)
    → IfStands closed P → IfStands closed Q → IfStands closed R
if_stands_both (Ok files) P Q R more h k = more files h k
if_stands_both (Err left) P Q R more h k = λ stands. more left.files (h stands) (k stands)

pub on_told : {A E : Type 0} (r : Result A E) (P Q : Type 0) → MatchResult r (λ _. P) (λ _. Q) → OnOk r P
on_told (Ok x) P Q h = h
on_told (Err e) P Q h = tt

pub if_untold : {A E : Type 0} (r : Result A E) (P Q : Type 0) → MatchResult r (λ _. P) (λ _. Q) → IfErr r (λ _. Q)
if_untold (Ok x) P Q h = tt
if_untold (Err e) P Q h = h
