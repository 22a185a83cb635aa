-- Claims 150 to 154 and 156, on every call of the board: what it may change of each domain, what it sends,
-- and what it leaves of each file. The standard's 4.7 counts up all that changes a pending bit; 01, "The
-- board", "The wired controller".
--   touches call w c     what the call may change of the domain c of the wired controller w, before anything
--                        is sent: the tables of Claim-155; c says that the domain is the child
--   retargets .. w i     access n of a move is that of source i, and the child's target of it names old
--   touches_wire call j  the call may change wire j
--   may_send c           the call c may send: only a wire that is set, and a write to a domain
--   touches_file c k     the call c may change file number k, which is 5 h + f for file f of hart h, before
--                        its messages arrive
--   part..               the same of what a row of the table of the calls names
-- Premises: the call is not refused, `name_refusal call b ≡ 0`, but in Claim-151, which has none. Claims 150
-- and 156 have `BoardShaped b`, the lists have their lengths, as those of every block of 650 words have;
-- claims 152 and 154 have `Fit b`, a board that calls can be made on, as every accepted call leaves it
-- (Claim-86). No axioms.
use Rattle.std.specs.Prelude.{ℕ, ◌+◌, ◌*◌, ◌≤◌, ◌<◌, ◌≡◌, Bool, true, false, cond, not, ◌&&◌, ◌||◌, List, []}
use Rattle.std.specs.Prelude.{◌≢◌, eqb}
use Rattle.words.specs.Sets.{member}
use Rattle.files.specs.Files.{the_file}
use Rattle.files_laws.specs.Messages.{any_of}
use Rattle.source_mode.specs.Mode.{is_active}
use Rattle.source_target.specs.Target.{hart_of, guest_of, number_of}
use Rattle.domain.specs.Domain.{is_enabled, by_messages}
use Rattle.domain.specs.Slot.{source_at}
use Rattle.wired_state.specs.Wires.{Wired, domain_in}
use Rattle.board_block.specs.Block.{Board}
use Rattle.board_block_laws.specs.Shape.{BoardShaped}
use Rattle.board_call.specs.declared.Call.{Call}
use Rattle.board_call.specs.Calls.{FilePart, NoFile, OneFile, EveryFile, WiredPart, Nothing, ByWire, ByRead}
use Rattle.board_call.specs.Calls.{ByWrite, ByAccess, Everything, row_of}
use Rattle.board_call.specs.Refusal.{name_refusal}
use Rattle.board_call.specs.Change.{change}
use Rattle.board_call.specs.Outcome.{step}
use Rattle.board_call_laws.specs.Fit.{Fit}
use Rattle.claims_wired.specs.Kept.{Touch, none, sources, nothing, writes_in, reads_in, Spares}

-- ---- the wired controller, before anything is sent

abbrev pub all : ℕ → Bool
all i = true

abbrev pub everything : Touch
everything =
    record {
      pending = all;
      enabled = all;
      target = all;
      mode = all;
      domaincfg = true;
      genmsi = true;
      idelivery = all;
      iforce = all;
      ithreshold = all;
    }

abbrev pub retargets : ℕ → ℕ → ℕ → Wired → ℕ → Bool
retargets oh of n w i =
    let t = (source_at w.child i).target in
    eqb n (8 + i) && (eqb (hart_of t) oh && eqb (guest_of t + 1) of)

unfoldable pub part_touches : WiredPart → Wired → Bool → Touch
part_touches Nothing w c = nothing
part_touches (ByWire i) w c = sources (eqb i) none none none
part_touches (ByRead e r) w c = reads_in w e r c
part_touches (ByWrite e r v) w c = writes_in w e r v c
part_touches (ByAccess h f n) w c = cond c (sources none none (retargets h f n w) none) nothing
part_touches Everything w c = everything

abbrev pub touches : Call → Wired → Bool → Touch
touches call w c = part_touches (row_of call).wired w c

unfoldable pub part_wire : WiredPart → ℕ → Bool
part_wire Nothing j = false
part_wire (ByWire i) j = eqb i j
part_wire (ByRead c r) j = false
part_wire (ByWrite c r v) j = false
part_wire (ByAccess h f n) j = false
part_wire Everything j = true

abbrev pub touches_wire : Call → ℕ → Bool
touches_wire call j = part_wire (row_of call).wired j

-- before anything is sent, a call leaves of each domain, and of the wires, all that its table does not name
unfoldable pub Claim-150 : Type 0
Claim-150 =
    (b : Board) → BoardShaped b → (call : Call) → name_refusal call b ≡ 0 → (s : List ℕ)
    → let w = b.wired in
    let w' = (change call b s).board.wired in
    ((c : Bool) → Spares (touches call w c) (domain_in w c) (domain_in w' c))
    × ((j : ℕ) → touches_wire call j ≡ false → member w'.wires j ≡ member w.wires j)

-- ---- what is sent

-- the pass of messages after a change, in each domain (c says that it is the child): nothing but pending bits
-- changes, and no wire. A pending bit stays unless the domain has IE and DM and the source is active, pending
-- and enabled: then it is cleared, and a message with the hart, file and identity of its target is sent
-- [01 W45 W46 W48]
unfoldable pub Claim-151 : Type 0
Claim-151 =
    (call : Call) (b : Board) (s : List ℕ)
    → let changed = (change call b s).board.wired in
    let after = (step call b s).board.wired in
    (after.wires ≡ changed.wires)
    × ((c : Bool) → let d = domain_in changed c in
    let d' = domain_in after c in
    (d'.source ≡ d.source) × (d'.target ≡ d.target) × (d'.enable ≡ d.enable)
    × (d'.delivery ≡ d.delivery)
    × ((i : ℕ) → 1 ≤ i → i ≤ 63
    → let x = source_at d i in
    let t = x.target in
    let goes = is_enabled d && by_messages d && (is_active x.mode && x.pending && x.enabled) in
    ((source_at d' i).pending ≡ (x.pending && not goes))
    × (goes ≡ true
    → any_of (eqb (hart_of t * 2048 + cond c (guest_of t + 1) 0 * 256 + number_of t)) (step call b s).messages
    ≡ true)))

-- the same parts, and every pending bit
abbrev pub and_pendings : Touch → Touch
and_pendings t =
    record {
      pending = all;
      enabled = t.enabled;
      target = t.target;
      mode = t.mode;
      domaincfg = t.domaincfg;
      genmsi = t.genmsi;
      idelivery = t.idelivery;
      iforce = t.iforce;
      ithreshold = t.ithreshold;
    }

-- the whole call, with what it sends: a pending bit that the table does not name stays, unless its domain
-- has IE and DM and a message with the hart, file and identity of its target is sent, which clears it; and
-- every other part of a domain that the table does not name stays
unfoldable pub Claim-156 : Type 0
Claim-156 =
    (b : Board) → BoardShaped b → (call : Call) → name_refusal call b ≡ 0 → (s : List ℕ) (c : Bool)
    → let touched = touches call b.wired c in
    let d = domain_in b.wired c in
    let d' = domain_in (step call b s).board.wired c in
    Spares (and_pendings touched) d d'
    × ((i : ℕ) → 1 ≤ i → i ≤ 63 → touched.pending i ≡ false
    → (source_at d' i).pending ≢ (source_at d i).pending
    → let t = (source_at d' i).target in
    ((source_at d i).pending ≡ true) × ((source_at d' i).pending ≡ false)
    × (is_enabled d' ≡ true) × (by_messages d' ≡ true)
    × (any_of (eqb (hart_of t * 2048 + cond c (guest_of t + 1) 0 * 256 + number_of t))
    (step call b s).messages
    ≡ true))

abbrev pub part_sends : WiredPart → Bool
part_sends Nothing = false
part_sends (ByWire i) = true
part_sends (ByRead c r) = false
part_sends (ByWrite c r v) = true
part_sends (ByAccess h f n) = false
part_sends Everything = false

abbrev pub may_send : Call → Bool
may_send c = part_sends (row_of c).wired

-- a call that is neither a wire nor a write to a domain sends nothing, and leaves the board as its change did
-- [01 W52]
unfoldable pub Claim-154 : Type 0
Claim-154 =
    (b : Board) → Fit b → (c : Call) → name_refusal c b ≡ 0 → may_send c ≡ false → (s : List ℕ)
    → ((step c b s).messages ≡ []) × ((step c b s).board ≡ (change c b s).board)

-- ---- the files

-- the messages of a call reach the files that they name with the identities that they name, and nothing
-- else: identity i of file f of hart h is pending if it was, or if the message 2048 h + 256 f + i was sent.
-- Identity 0 stays, and so do delivery, threshold and enable bits
-- [01 B15 B17 W51]
unfoldable pub Claim-152 : Type 0
Claim-152 =
    (b : Board) → Fit b → (c : Call) → name_refusal c b ≡ 0 → (s : List ℕ) (h f : ℕ) → h < 4 → f < 5
    → let x = the_file (change c b s).board.files (5 * h + f) in
    let x' = the_file (step c b s).board.files (5 * h + f) in
    (x'.delivery ≡ x.delivery) × (x'.threshold ≡ x.threshold) × (x'.enable ≡ x.enable)
    × (member x'.pending 0 ≡ member x.pending 0)
    × ((i : ℕ) → 1 ≤ i → i ≤ 255
    → member x'.pending i
    ≡ (member x.pending i || any_of (eqb (2048 * h + 256 * f + i)) (step c b s).messages))

abbrev pub part_file : FilePart → ℕ → Bool
part_file NoFile k = false
part_file (OneFile j) k = eqb k j
part_file EveryFile k = true

abbrev pub touches_file : Call → ℕ → Bool
touches_file c k = part_file (row_of c).files k

-- before its messages arrive, a call leaves each file that it does not name
unfoldable pub Claim-153 : Type 0
Claim-153 =
    (b : Board) (c : Call) → name_refusal c b ≡ 0 → (s : List ℕ) (k : ℕ)
    → touches_file c k ≡ false → the_file (change c b s).board.files k ≡ the_file b.files k
