-- Claim 206: its runs, computed as those of Claim 163 are. Assumes nothing.
use mathlib.Core.List.{[], ◌∷◌, ◌++◌}
use Rattle.board_call.specs.declared.Call.TheVariants.{Wire, DomainRead, DomainWrite}
use Rattle.claims_cases.specs.Inputs.{moded_to, handed_on, Claim-206}
use Rattle.claims_cases.proofs.Runs.{step_on, board_run, answers_on, answers}

pub claim-206 : Claim-206
unfolding Claim-206 answers_on board_run step_on
claim-206 = (
  answers (moded_to 7 7) (DomainRead 0 0x1D00) (tt, tt),
  answers (moded_to 7 7) (DomainRead 0 0x1C00) (tt, tt),
  answers (moded_to 7 7 ++ Wire 7 1 ∷ []) (DomainRead 0 0x1D00) (tt, (tt, tt)),
  answers (moded_to 7 6) (DomainRead 0 0x1D00) (tt, tt),
  answers (moded_to 7 6 ++ Wire 7 1 ∷ []) (DomainRead 0 0x1D00) (tt, (tt, tt)),
  answers (moded_to 40 5) (DomainRead 0 0x1D04) (tt, tt),
  answers (moded_to 7 1 ++ Wire 7 1 ∷ []) (DomainRead 0 0x1D00) (tt, (tt, tt)),
  answers (Wire 7 1 ∷ []) (DomainRead 0 0x1D00) (tt, tt),
  answers (handed_on 7 7) (DomainRead 0 0x1D00) (tt, (tt, tt)),
  answers (handed_on 7 7) (DomainRead 1 0x1D00) (tt, (tt, tt)),
  answers (DomainWrite 0 0 4 ∷ []) (DomainRead 0 0x1D00) (tt, tt),
)
