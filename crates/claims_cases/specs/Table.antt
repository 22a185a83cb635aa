-- The table cases of the paper, T1 to T11: what the definitions give, beside what the table says.
-- 01, "Table cases".
-- Premises: none. No axioms.
use Rattle.std.specs.Prelude.{ℕ, ◌≡◌, Bool, true, false, ◌&&◌, List, [], ◌∷◌, eqb, replicate}
use Rattle.file.specs.declared.File.{File}
use Rattle.file.specs.declared.register.Access.TheVariants.{Read}
use Rattle.file.specs.Reply.{reply_number, reply_value}
use Rattle.file.specs.Page.{page_written}
use Rattle.file.specs.Top.{top_of}
use Rattle.file.specs.Register.{accessed}
use Rattle.file_words.specs.Stored.{file_words}
use Rattle.words.specs.Parts.{packed}
use Rattle.source_target.specs.Target.{kept_target, message_of}
use Rattle.domain_region.specs.declared.Word.TheVariants.{Domaincfg}
use Rattle.domain_region.specs.declared.role.Role.{Role}
use Rattle.domain_region.specs.declared.role.Role.TheVariants.{Claims, Configures, Generates, Plain}
use Rattle.domain.specs.Domain.{Domain}
use Rattle.domain_domaincfg.specs.Domaincfg.{domaincfg_written}
use Rattle.domain_direct.specs.Direct.{topi_of}
use Rattle.domain_region.specs.Region.{word_at}
use Rattle.domain_region.specs.Role.{role_of}
use Rattle.domain_registers.specs.Read.{register_value as read_of}
use Rattle.board_call.specs.declared.Call.TheVariants.{DomainRead}
use Rattle.board_block.specs.Start.{start_board}
use Rattle.board_call.specs.Refusal.{name_refusal}

-- a row: the case's number, what the definitions give, what the table says
pub record Row : Type 0 where
  pub case : ℕ
  pub given : List ℕ
  pub says : List ℕ

-- the hart whose claimi a register is, if it is one
abbrev pub claim_harts : Role → List ℕ
claim_harts (Claims h) = h ∷ []
claim_harts (Configures i) = []
claim_harts Generates = []
claim_harts Plain = []

-- identities 5 and 9 pending and enabled: bits 5 and 9 of the first word
abbrev pub five_and_nine : ℕ → File
five_and_nine t =
    record { delivery = 1; threshold = t; pending = 0x220 ∷ replicate 7 0; enable = 0x220 ∷ replicate 7 0 }

abbrev pub empty : File
empty = record { delivery = 1; threshold = 0; pending = replicate 8 0; enable = replicate 8 0 }

-- the empty file with identity 5 pending
abbrev pub five : File
five = record { delivery = 1; threshold = 0; pending = 0x20 ∷ replicate 7 0; enable = replicate 8 0 }

-- a domain in direct mode in which every source is Detached, enabled and has priority 3 for hart 0, and those
-- of a set are pending
abbrev pub of_sources : List ℕ → Domain
of_sources pending =
    record {
      source = 0 ∷ replicate 63 1;
      target = 0 ∷ replicate 63 3;
      pending = pending;
      enable = 0xFFFFFFFE ∷ 0xFFFFFFFF ∷ [];
      delivery = replicate 12 0;
    }

-- a domain as after reset, and low wires
abbrev pub quiet : Domain
quiet =
    record {
      source = replicate 64 0;
      target = replicate 64 0;
      pending = replicate 2 0;
      enable = replicate 2 0;
      delivery = replicate 12 0;
    }

abbrev pub wires : List ℕ
wires = replicate 2 0

-- [01 T0]
unfoldable pub table : List Row
table =
    record { case = 1; given = top_of 255 (five_and_nine 0) ∷ []; says = 0x00050005 ∷ [] }
    ∷ record { case = 2; given = top_of 255 (five_and_nine 5) ∷ []; says = 0 ∷ [] }
    ∷ record { case = 3; given = top_of 255 (five_and_nine 6) ∷ []; says = 0x00050005 ∷ [] }
    ∷ record { case = 4; given = file_words (page_written 255 empty 0 256); says = file_words empty }
    ∷ record { case = 5; given = file_words (page_written 255 empty 4 0x05000000); says = file_words five }
    ∷ record { case = 6; given = topi_of (of_sources (0x80 ∷ 0 ∷ [])) 0 ∷ []; says = 0x00070003 ∷ [] }
    ∷ record { case = 7; given = topi_of (of_sources (0x180 ∷ 0 ∷ [])) 0 ∷ []; says = 0x00070003 ∷ [] }
    ∷ record {
      case = 8;
      given = kept_target true true (packed 2 18 (packed 1 12 40)) ∷ message_of true 0x00081028 ∷ [];
      says = 0x00081028 ∷ 4648 ∷ [];
    }
    ∷ record {
      case = 9;
      given = read_of (domaincfg_written quiet wires 0x104) wires Domaincfg ∷ [];
      says = 0x80000104 ∷ [];
    }
    ∷ record { case = 10; given = claim_harts (role_of (word_at 0x407C)); says = 3 ∷ [] }
    ∷ record { case = 10; given = name_refusal (DomainRead 0 0x5000) start_board ∷ []; says = 5 ∷ [] }
    ∷ record {
      case = 11;
      given = reply_number (accessed 255 true empty Read 0x81 0).answer ∷ [];
      says = 6 ∷ [];
    }
    ∷ record {
      case = 11;
      given =
          reply_number (accessed 255 true empty Read 0x71 0).answer ∷ reply_value
          (accessed 255 true empty Read 0x71 0).answer ∷ [];
      says = 0 ∷ 0 ∷ [];
    }
    ∷ []

unfoldable pub same : List ℕ → List ℕ → Bool
same [] [] = true
same [] (y ∷ ys) = false
same (x ∷ xs) [] = false
same (x ∷ xs) (y ∷ ys) = eqb x y && same xs ys

-- every row gives what it says
unfoldable pub holds : List Row → Bool
holds [] = true
holds (r ∷ rs) = same r.given r.says && holds rs

-- the table cases T1 to T11, by the definitions: every row gives what the paper says
-- [01 T0 T1 T2 T3 T4 T5 T6 T7 T8 T9 T10 T11]
unfoldable pub Claim-170 : Type 0
Claim-170 = holds table ≡ true
