-- What files that note their reads hold.
use Rattle.std.specs.Prelude.{List}
use Rattle.esi_links.specs.declared.note.Note.{Note}
use Rattle.esi_links.specs.declared.noting_files.NotingFiles.{NotingFiles}

-- the files that they stand on
abbrev pub noted_files : {F : Type 0} → NotingFiles F → F
noted_files noting = noting.files

-- the reads so far
abbrev pub noted_reads : {F : Type 0} → NotingFiles F → List Note
noted_reads noting = noting.notes
