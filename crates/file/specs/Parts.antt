-- A file with one of its parts replaced. Assumes nothing.
use Rattle.std.specs.Prelude.{ℕ, List}
use Rattle.file.specs.declared.File.{File}

abbrev pub with_delivery : File → ℕ → File
with_delivery f d = record { delivery = d; threshold = f.threshold; pending = f.pending; enable = f.enable }

abbrev pub with_threshold : File → ℕ → File
with_threshold f t = record { delivery = f.delivery; threshold = t; pending = f.pending; enable = f.enable }

abbrev pub with_pending_set : File → List ℕ → File
with_pending_set f ws =
    record { delivery = f.delivery; threshold = f.threshold; pending = ws; enable = f.enable }

abbrev pub with_enable : File → List ℕ → File
with_enable f ws =
    record { delivery = f.delivery; threshold = f.threshold; pending = f.pending; enable = ws }
