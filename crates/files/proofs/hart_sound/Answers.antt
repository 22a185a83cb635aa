-- `files::hart_sound` meets its contract: five files in a row. Assumes nothing.
use Rattle.files.proofs.FilesLaws.{every-five}
use Rattle.files.proofs.hart_sound.Goals as goal

pub returns : goal.returns
returns c =
    every-five _ _ c.file_sound.ensures c.file_sound-2.ensures
    c.file_sound-3.ensures c.file_sound-4.ensures c.file_sound-5.ensures
