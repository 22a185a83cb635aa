-- The calls that only read, and the calls of a run that do not. 01, "Calls and their refusals". Assumes
-- nothing.
--   claims_by r       a read of a register of a domain whose role is r stores: a claimi claims, the others do
--                     nothing
--   no_file, no_part  what a row of the table may change of the files, or of the wired controller, is nothing
--   only_reads c      c may change nothing: it is a page read, a top, the signals, a read of a register of a
--                     file, or a read of a word of a domain that is no claimi
--   storing ms        the calls of ms that do not only read, in order
use Rattle.std.specs.Prelude.{Bool, true, false, cond, not, ◌&&◌, List, [], ◌∷◌}
use Rattle.domain_region.specs.declared.role.Role.{Role}
use Rattle.domain_region.specs.declared.role.Role.TheVariants.{Claims, Configures, Generates, Plain}
use Rattle.domain_region.specs.Role.{role_of}
use Rattle.board_call.specs.declared.Call.{Call}
use Rattle.board_call.specs.Calls.{FilePart, NoFile, OneFile, EveryFile, WiredPart, Nothing, ByWire, ByRead}
use Rattle.board_call.specs.Calls.{ByWrite, ByAccess, Everything, row_of}
use Rattle.board_runs.specs.Runs.{Made}

unfoldable pub claims_by : Role → Bool
claims_by (Claims h) = true
claims_by (Configures i) = false
claims_by Generates = false
claims_by Plain = false

-- none of the files, and nothing of the wired controller, by a row of the table
abbrev pub no_file : FilePart → Bool
no_file NoFile = true
no_file (OneFile k) = false
no_file EveryFile = false

abbrev pub no_part : WiredPart → Bool
no_part Nothing = true
no_part (ByWire i) = false
no_part (ByRead c r) = not (claims_by (role_of r))
no_part (ByWrite c r v) = false
no_part (ByAccess h f n) = false
no_part Everything = false

-- 01, "Calls and their refusals"
unfoldable pub only_reads : Call → Bool
only_reads c = no_part (row_of c).wired && no_file (row_of c).files

unfoldable pub storing : List Made → List Made
storing [] = []
storing (m ∷ ms) = cond (only_reads m.call) (storing ms) (m ∷ storing ms)
