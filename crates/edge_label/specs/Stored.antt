-- How contracts hold books: labels are stored by their codes.
use Rattle.std.specs.Prelude.{ℕ, List}
use Rattle.std.specs.Coded.{Coded, code_by, coded_list, coded_ℕ}
use Rattle.csub_semantics.specs.Labels.{PointLabel}
use Rattle.label_code.specs.Codes.{point_code}
use Rattle.label_code.specs.Readers.{label_of}
use Rattle.label_code.specs.ReadBack.{label_of-point_code}

abbrev pub stored_labels : Coded (List PointLabel)
stored_labels = coded_list (code_by (List ℕ) (coded_list coded_ℕ) point_code label_of label_of-point_code)
