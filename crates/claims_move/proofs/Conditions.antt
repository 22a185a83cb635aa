-- Claims 112, 186 and 191, by the shifts that are given in full. Assumes nothing.
use Rattle.move_laws.specs.Shift.{with_move, without_move}
use Rattle.move_cases.proofs.ExampleShift.{example}
use Rattle.move_cases.proofs.NeededShifts.{pages-are, needs-all, needs-pages-new, needs-pages-old}
use Rattle.move_cases.proofs.NeededShifts.{needs-fresh, needs-messages, needs-guest-old, needs-guest-new}
use Rattle.move_cases.proofs.NeededShifts.{needs-log-long}
use Rattle.move_cases.proofs.HandedShifts.{needs-rules, needs-handed-on}
use Rattle.move_cases.proofs.BesidesShifts.{needs-no-claim-old, needs-no-claim-new, needs-no-write-old}
use Rattle.move_cases.proofs.BesidesShifts.{needs-no-write-new, needs-no-target, needs-no-domaincfg}
use Rattle.move_cases.proofs.BesidesShifts.{needs-no-other-move, needs-no-reset}
use Rattle.board_runs.specs.Runs.{handing}
use Rattle.board_runs.proofs.MadeEffects.{calls-handing, logs-handing, handed-handing}
use Rattle.move_laws.proofs.EndEffects.{small-with, small-without}
use Rattle.move_cases.specs.Board.{stations}
use Rattle.move_cases.specs.Example.{start, shift}
use Rattle.move_cases.specs.Needed.{NeedsAll, NeedsPagesNew, NeedsPagesOld, NeedsFresh, NeedsMessages}
use Rattle.move_cases.specs.Needed.{NeedsGuestOld, NeedsGuestNew, NeedsRules, NeedsLogLong, NeedsNoClaimOld}
use Rattle.move_cases.specs.Needed.{NeedsNoClaimNew, NeedsNoWriteOld, NeedsNoWriteNew, NeedsNoTarget}
use Rattle.move_cases.specs.Needed.{NeedsNoDomaincfg, NeedsNoOtherMove, NeedsNoReset}
use Rattle.move_cases.proofs.ExampleShift.{shift_small, start-ready}
use Rattle.claims_move.specs.Conditions.{Claim-112, Claim-186, Claim-191}

pub claim-112 : Claim-112
unfolding Claim-112 NeedsAll NeedsPagesNew NeedsPagesOld NeedsFresh NeedsMessages NeedsGuestOld NeedsGuestNew
    NeedsRules NeedsLogLong
claim-112 = (
  needs-all,
  needs-pages-new,
  needs-pages-old,
  pages-are,
  needs-fresh,
  needs-messages,
  needs-guest-old,
  needs-guest-new,
  needs-rules,
  needs-log-long,
  needs-handed-on,
)

pub claim-186 : Claim-186
unfolding Claim-186 NeedsNoClaimOld NeedsNoClaimNew NeedsNoWriteOld NeedsNoWriteNew NeedsNoTarget
    NeedsNoDomaincfg NeedsNoOtherMove NeedsNoReset
claim-186 = (
  needs-no-claim-old,
  needs-no-claim-new,
  needs-no-write-old,
  needs-no-write-new,
  needs-no-target,
  needs-no-domaincfg,
  needs-no-other-move,
  needs-no-reset,
)

pub claim-191 : Claim-191
unfolding Claim-191
claim-191 P =
    let p = example.premises in
    let with = with_move stations 0 shift in
    let without = without_move stations shift in (
      (
        (λ w m l s es ms ns q. w m l s es ms ns q.started q.guests q.messages q.fresh q.all
            q.pages q.calls),
        (λ w m l s es ms ns a b c d e f g. w m l s es ms ns
            (record {
              started = a;
              guests = b;
              messages = c;
              fresh = d;
              all = e;
              pages = f;
              calls = g;
            })),
      ),
      (λ w. w stations start.block start.saved shift (handing with start) (handing without start)
          p.started p.guests p.messages p.fresh p.all p.pages p.calls
          (record {
            calls = calls-handing with start;
            logs = logs-handing with start start-ready (small-with stations shift 0 shift_small);
          })
          (handed-handing with start)
          (record {
            calls = calls-handing without start;
            logs = logs-handing without start start-ready (small-without stations shift shift_small);
          })),
    )
