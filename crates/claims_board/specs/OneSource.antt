-- Claims 96 to 99: a wire concerns its own source and no other, and a write to a target its own. 01, "The
-- wired controller"; the standard 4.7, 4.9.
--   SentNone b x       the step x sends nothing and leaves the files of b
--   SentOne c i b x    it sends the message of source i of a domain, and this alone reaches its file
-- c says that the domain is the child.
-- Premises: `Sound w`, the lists have their lengths and the state rules hold, as in every block that is not
-- refused; and sources 1 to 63. No axioms.
use Rattle.std.specs.Prelude.{ℕ, ◌≤◌, ◌≡◌, Bool, true, false, cond, not, ◌&&◌, List, [], ◌∷◌, ◌≢◌, ◌⊎◌, eqb}
use Rattle.words.specs.Sets.{member}
use Rattle.source_target.specs.Target.{message_of}
use Rattle.source.specs.Pending.{with_pending, wire_changed, retargeted}
use Rattle.domain_region.specs.declared.Word.TheVariants.{Target}
use Rattle.domain.specs.Domain.{is_enabled, by_messages}
use Rattle.domain.specs.Slot.{source_at}
use Rattle.wired_state.specs.Wires.{Wired, domain_in, wire_set}
use Rattle.domain_sending.specs.Sending.{candidate}
use Rattle.wired.specs.Controller.{wire_call, write_call}
use Rattle.files.specs.Files.{reached}
use Rattle.board_block.specs.Block.{Board}
use Rattle.board_call.specs.declared.Call.TheVariants.{Wire}
use Rattle.board_call.specs.Outcome.{Stepped, step}
use Rattle.claims_registers.specs.Rules.{Sound}

-- a wire is set, and wire i stays at its level: source i stays as it was, and in a domain that sends it is
-- not to be sent. So a level source that was sent does not go out once more because its wire is still high
-- [01 M5]
unfoldable pub Claim-96 : Type 0
Claim-96 =
    (w : Wired) → Sound w → (j : ℕ) → 1 ≤ j → j ≤ 63 → (level : Bool)
    → (i : ℕ) → 1 ≤ i → i ≤ 63 → (i ≡ j → level ≡ member w.wires i)
    → (c : Bool) → let after = source_at (domain_in (wire_set w j level) c) i in
    let d = domain_in w c in
    (after ≡ source_at d i) × ((is_enabled d && by_messages d) ≡ true → candidate after ≡ false)

-- the call on wire i, with its messages: no other source changes, in either domain; source i is what the wire
-- makes of it, and where the domain sends it is then sent if it is to be. Its message is sent exactly then,
-- and no other
-- [01 W51]
unfoldable pub Claim-97 : Type 0
Claim-97 =
    (w : Wired) → Sound w → (i : ℕ) → 1 ≤ i → i ≤ 63 → (level : Bool)
    → let after = wire_call w i level in
    ((c : Bool) (j : ℕ) → j ≢ i → 1 ≤ j → j ≤ 63
    → source_at (domain_in after.wired c) j ≡ source_at (domain_in w c) j)
    × ((c : Bool) → let d = domain_in w c in
    let s = wire_changed (source_at d i) (by_messages d) (member w.wires i) level in
    ((is_enabled d && by_messages d) ≡ true
    → source_at (domain_in after.wired c) i ≡ cond (candidate s) (with_pending s false) s)
    × ((is_enabled d && by_messages d) ≡ false → source_at (domain_in after.wired c) i ≡ s))
    × ((c : Bool) → let d = domain_in w c in
    let s = wire_changed (source_at d i) (by_messages d) (member w.wires i) level in
    (is_enabled d && by_messages d) ≡ true → candidate s ≡ true
    → after.messages ≡ message_of c (source_at d i).target ∷ [])
    × (((c : Bool) → let d = domain_in w c in
    let s = wire_changed (source_at d i) (by_messages d) (member w.wires i) level in
    (is_enabled d && by_messages d && candidate s) ≡ false) → after.messages ≡ [])

-- a write to a target sends nothing, and changes its own source's target alone: neither the wires, nor the
-- other domain, nor any other source of its own
unfoldable pub Claim-98 : Type 0
Claim-98 =
    (w : Wired) → Sound w → (c : Bool) (i : ℕ) → 1 ≤ i → i ≤ 63 → (v : ℕ)
    → let after = write_call w c (Target i) v in
    let d = domain_in w c in
    (after.messages ≡ []) × (after.wired.wires ≡ w.wires)
    × (domain_in after.wired (not c) ≡ domain_in w (not c))
    × ((j : ℕ) → j ≢ i → source_at (domain_in after.wired c) j ≡ source_at d j)
    × (source_at (domain_in after.wired c) i ≡ retargeted (source_at d i) c (by_messages d) v)

-- ---- on the board

pub record SentNone (b : Board) (x : Stepped) : Type 0 where
  pub messages : x.messages ≡ []
  pub files : x.board.files ≡ b.files

pub record SentOne (c : Bool) (i : ℕ) (b : Board) (x : Stepped) : Type 0 where
  pub messages : x.messages ≡ message_of c (source_at (domain_in b.wired c) i).target ∷ []
  pub files : x.board.files
      ≡ reached b.files (message_of c (source_at (domain_in b.wired c) i).target)

-- a wire reaches no file, or the one that its source's target names, with that target's identity, once; which
-- of these it is, Claim-97 says
-- [01 B15]
unfoldable pub Claim-99 : Type 0
Claim-99 =
    (b : Board) → Sound b.wired → (i : ℕ) → 1 ≤ i → i ≤ 63 → (level : ℕ) (s : List ℕ)
    → let x = step (Wire i level) b s in
    let after = wire_call b.wired i (eqb level 1) in
    (x.board.wired ≡ after.wired) × (x.messages ≡ after.messages)
    × (SentNone b x ⊎ SentOne false i b x ⊎ SentOne true i b x)
