-- What a writer of CSV in memory holds between two records.
use Rattle.std.specs.Prelude.{◌≡◌, ℕ, List, Some, Vec, false}
use Rattle.std.specs.Global.{Global}
use Rattle.csv.specs.Writing.{default_writer, writer_setup, fields_written, has_written, text_written}
use Rattle.csv.specs.declared.writer.Writer.{Writer}

-- it holds this text, and writes as the crate does by default
pub record HasWritten (w : Writer (Vec ℕ Global)) (text : List ℕ) : Type 0 where
  pub text_is : text_written (λ v. Some v.items) w ≡ Some text
  pub setup : writer_setup w ≡ default_writer
  pub fields : fields_written w ≡ 0
  pub wrote : has_written w ≡ false
