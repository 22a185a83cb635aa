-- Every count, size and place of the board's block, each by one name. 01, "The board", "Calls and their
-- refusals". Assumes nothing.
--   hart_count, hart_files, file_count  4 harts with five files each: machine 0, supervisor 1, guests from
--                                       first_guest on; 20 in all
--   domain_count                        two domains: the machine domain 0, the child 1
--   identities                          a file has the identities 1 to 255; definitions take the number n
--   source_count                        a domain has the sources 1 to 63
--   file_set_size, source_set_size      the words of a set of identities, and of a set of sources
--   ..Size                              how many words something takes: a file, the files, a delivery
--                                       structure, the four of a domain, a domain, the wired controller,
--                                       the block, the log; saved_size: the 64-bit numbers that a move saves
--   fields_size                         the words of a file's four fields, which stand first among its words
--   slot_count                          a domain has a word at each number 0 to 63, twice: number 0 is the
--                                       domain's own, the others are the sources'
--   ..Place, wired_end                  the first word of a part in what holds it; where that part ends
use Rattle.std.specs.Prelude.{ℕ, ◌+◌, ◌*◌}

-- ---- counts

-- [01 B1]
abbrev pub hart_count : ℕ
hart_count = 4

-- [01 B2]
abbrev pub hart_files : ℕ
hart_files = 5

-- [01 B2]
abbrev pub first_guest : ℕ
first_guest = 2

abbrev pub file_count : ℕ
file_count = hart_count * hart_files

-- [01 B5]
abbrev pub domain_count : ℕ
domain_count = 2

-- [01 B3]
abbrev pub identities : ℕ
identities = 255

-- [01 B4]
abbrev pub source_count : ℕ
source_count = 63

abbrev pub slot_count : ℕ
slot_count = 64

-- ---- a file

abbrev pub file_set_size : ℕ
file_set_size = 8

abbrev pub threshold_place : ℕ
threshold_place = 1

abbrev pub pending_place : ℕ
pending_place = 2

abbrev pub enable_place : ℕ
enable_place = pending_place + file_set_size

abbrev pub fields_size : ℕ
fields_size = enable_place + file_set_size

abbrev pub file_size : ℕ
file_size = fields_size

abbrev pub files_size : ℕ
files_size = file_count * file_size

-- ---- a domain

abbrev pub source_set_size : ℕ
source_set_size = 2

abbrev pub structure_size : ℕ
structure_size = 3

abbrev pub structures_size : ℕ
structures_size = hart_count * structure_size

abbrev pub targets_place : ℕ
targets_place = slot_count

abbrev pub pendings_place : ℕ
pendings_place = targets_place + slot_count

abbrev pub enables_place : ℕ
enables_place = pendings_place + source_set_size

abbrev pub structures_place : ℕ
structures_place = enables_place + source_set_size

abbrev pub domain_size : ℕ
domain_size = structures_place + structures_size

-- ---- the wired controller

abbrev pub machine_place : ℕ
machine_place = source_set_size

abbrev pub child_place : ℕ
child_place = machine_place + domain_size

abbrev pub wired_size : ℕ
wired_size = child_place + domain_size

-- ---- the board and what is lent beside it

abbrev pub wired_place : ℕ
wired_place = files_size

abbrev pub wired_end : ℕ
wired_end = wired_place + wired_size

-- [01 B7]
abbrev pub block_size : ℕ
block_size = wired_end

-- [01 B10]
abbrev pub log_size : ℕ
log_size = 63

-- [01 V3]
abbrev pub saved_size : ℕ
saved_size = 10
