-- The proofs of the three demands: each cites its claims. Assumes nothing.
use Rattle.claims_file.proofs.FileCalls.{claim-1, claim-2, claim-3, claim-4, claim-5, claim-6, claim-7}
use Rattle.claims_file.proofs.FileCalls.{claim-8, claim-9, claim-10, claim-11, claim-12, claim-13, claim-14}
use Rattle.claims_file.proofs.FileFacts.{claim-20, claim-21, claim-22, claim-23, claim-24, claim-25}
use Rattle.claims_file.proofs.FileFacts.{claim-26, claim-27, claim-28, claim-29, claim-30, claim-31}
use Rattle.claims_file.proofs.FileFacts.{claim-32, claim-33, claim-34}
use Rattle.claims_file.proofs.FileRegisters.{claim-120, claim-121, claim-122, claim-123, claim-124}
use Rattle.claims_file.proofs.FileRegisters.{claim-125}
use Rattle.claims_file.proofs.FileState.{claim-126, claim-127, claim-128, claim-129}
use Rattle.claims_domain.proofs.Causes.{claim-40, claim-41, claim-42}
use Rattle.claims_domain.proofs.Direct.{claim-43, claim-44, claim-45, claim-46, claim-47, claim-48, claim-49}
use Rattle.claims_domain.proofs.Sending.{claim-50, claim-51, claim-52, claim-53, claim-54}
use Rattle.claims_domain.proofs.Candidates.{claim-147}
use Rattle.claims_registers.proofs.Writes.{claim-55, claim-56, claim-57, claim-58}
use Rattle.claims_wired.proofs.Operations.{claim-59}
use Rattle.claims_wired.proofs.WiredCalls.{claim-60, claim-61, claim-62, claim-63, claim-64, claim-65}
use Rattle.claims_wired.proofs.WiredCalls.{claim-66, claim-67, claim-68, claim-69, claim-70, claim-71}
use Rattle.claims_registers.proofs.Rules.{claim-72, claim-73, claim-74, claim-75}
use Rattle.claims_wired.proofs.Controller.{claim-76, claim-77, claim-78, claim-79}
use Rattle.claims_registers.proofs.Modes.{claim-94, claim-95}
use Rattle.claims_domain.proofs.Region.{claim-130, claim-131}
use Rattle.claims_registers.proofs.Registers.{claim-132, claim-133, claim-139, claim-145}
use Rattle.claims_registers.proofs.Enables.{claim-134}
use Rattle.claims_registers.proofs.Settings.{claim-135, claim-136, claim-142}
use Rattle.claims_wired.proofs.Record.{claim-179}
use Rattle.claims_registers.proofs.Sourcecfg.{claim-137}
use Rattle.claims_registers.proofs.Accesses.{claim-138, claim-140}
use Rattle.claims_registers.proofs.Wires.{claim-141}
use Rattle.claims_wired.proofs.Effects.{claim-143, claim-144}
use Rattle.claims_domain.proofs.Fields.{claim-146}
use Rattle.claims_wired.proofs.KeptWired.{claim-155}
use Rattle.claims_board.proofs.OneSource.{claim-96, claim-97, claim-98, claim-99}
use Rattle.claims_board.proofs.Numbers.{claim-115, claim-116, claim-117}
use Rattle.claims_board.proofs.BoardRules.{claim-118}
use Rattle.claims_board.proofs.Closure.{claim-150}
use Rattle.claims_board.proofs.ClosureSent.{claim-151, claim-154}
use Rattle.claims_board.proofs.ClosureFiles.{claim-152, claim-153}
use Rattle.claims_board.proofs.ClosureCall.{claim-156}
use Rattle.claims_board.proofs.Rows.{claim-182}
use Rattle.claims_board.proofs.Start.{claim-160}
use Rattle.claims_board.proofs.Accepted.{claim-171, claim-172, claim-173, claim-174}
use Rattle.claims_board.proofs.Places.{claim-176}
use Rattle.claims_calls.proofs.BoardCalls.{claim-80, claim-81, claim-82, claim-83, claim-84, claim-85}
use Rattle.claims_calls.proofs.BoardCalls.{claim-86, claim-87, claim-88, claim-89, claim-90, claim-161}
use Rattle.claims_calls.proofs.BoardFacts.{claim-91, claim-92, claim-93, claim-162}
use Rattle.claims_calls.proofs.Asked.{claim-113, claim-114}
use Rattle.claims_calls.proofs.Answers.{claim-177}
use Rattle.claims_move.proofs.MoveCall.{claim-100, claim-101, claim-102, claim-103}
use Rattle.claims_move.proofs.Station.{claim-104, claim-105, claim-106, claim-107, claim-108, claim-109}
use Rattle.claims_move.proofs.Runs.{claim-183, claim-184}
use Rattle.claims_move.proofs.Premises.{claim-175, claim-178}
use Rattle.claims_move.proofs.Words.{claim-187, claim-188}
use Rattle.claims_move.proofs.Station.{claim-110, claim-180, claim-181, claim-185, claim-190}
use Rattle.claims_move.proofs.OneShift.{claim-111}
use Rattle.claims_move.proofs.Conditions.{claim-112, claim-186, claim-191}
use Rattle.claims_move.proofs.GivenUp.{claim-189}
use Rattle.claims_cases.proofs.Runs.{claim-163}
use Rattle.claims_cases.proofs.Table.{claim-170}
use Rattle.claims.specs.Demands.{Demand-1, Demand-2, Demand-3}

pub demand-1 : Demand-1
unfolding Demand-1
demand-1 = (
  claim-113,
  claim-114,
  claim-80,
  claim-81,
  claim-82,
  claim-90,
  claim-93,
  claim-100,
  claim-83,
  claim-162,
  claim-177,
  claim-88,
  claim-176,
  claim-84,
  claim-92,
  claim-115,
  claim-116,
  claim-117,
  claim-101,
  claim-8,
  claim-30,
  claim-31,
  claim-127,
  claim-12,
  claim-73,
  claim-72,
  claim-118,
  claim-85,
  claim-86,
  claim-104,
  claim-178,
  claim-160,
)

pub demand-2 : Demand-2
unfolding Demand-2
demand-2 = (
  claim-171,
  claim-172,
  claim-173,
  claim-87,
  claim-1,
  claim-2,
  claim-3,
  claim-4,
  claim-5,
  claim-6,
  claim-7,
  claim-9,
  claim-10,
  claim-11,
  claim-13,
  claim-14,
  claim-20,
  claim-21,
  claim-22,
  claim-23,
  claim-24,
  claim-25,
  claim-26,
  claim-27,
  claim-28,
  claim-29,
  claim-32,
  claim-33,
  claim-34,
  claim-120,
  claim-121,
  claim-122,
  claim-123,
  claim-124,
  claim-125,
  claim-126,
  claim-128,
  claim-129,
  claim-60,
  claim-61,
  claim-62,
  claim-63,
  claim-64,
  claim-65,
  claim-66,
  claim-67,
  claim-68,
  claim-69,
  claim-70,
  claim-71,
  claim-76,
  claim-130,
  claim-131,
  claim-132,
  claim-133,
  claim-134,
  claim-135,
  claim-136,
  claim-137,
  claim-138,
  claim-139,
  claim-140,
  claim-141,
  claim-143,
  claim-145,
  claim-146,
  claim-179,
  claim-40,
  claim-41,
  claim-42,
  claim-59,
  claim-144,
  claim-55,
  claim-56,
  claim-57,
  claim-58,
  claim-94,
  claim-95,
  claim-43,
  claim-44,
  claim-45,
  claim-46,
  claim-47,
  claim-48,
  claim-49,
  claim-142,
  claim-174,
  claim-50,
  claim-147,
  claim-51,
  claim-52,
  claim-53,
  claim-54,
  claim-77,
  claim-78,
  claim-96,
  claim-97,
  claim-98,
  claim-99,
  claim-74,
  claim-75,
  claim-79,
  claim-155,
  claim-150,
  claim-151,
  claim-156,
  claim-152,
  claim-153,
  claim-154,
  claim-182,
  claim-91,
  claim-89,
  claim-161,
  claim-170,
  claim-163,
)

pub demand-3 : Demand-3
unfolding Demand-3
demand-3 = (
  claim-102,
  claim-103,
  claim-105,
  claim-106,
  claim-107,
  claim-108,
  claim-109,
  claim-110,
  claim-180,
  claim-189,
  claim-185,
  claim-190,
  claim-181,
  claim-183,
  claim-184,
  claim-175,
  claim-111,
  claim-112,
  claim-186,
  claim-187,
  claim-188,
  claim-191,
)
