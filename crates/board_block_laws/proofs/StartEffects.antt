-- The start has the board's shape and keeps every state rule. No contract cites this file. Assumes nothing.
use Prim.Native.Nat.{ℕ, ◌+◌}
use mathlib.Core.Path.{◌≡◌, refl}
use mathlib.Core.Bool.{true}
use Rattle.words.specs.Bits.{bit_of, has_bit}
use Rattle.words.specs.Sets.{member}
use Rattle.words.specs.Every.{every}
use Rattle.words.specs.Parts.{field_of, packed}
use Rattle.file_select.specs.Deliveries.{delivery_legal}
use Rattle.file.specs.Rules as file
use Rattle.file.specs.Shape.{Long}
use Rattle.files.specs.Files.{is_guest, the_file, sound_at, files_sound}
use Rattle.source_mode.specs.Mode.{is_active, is_level, kept_mode, source_word}
use Rattle.source_target.specs.Target.{hart_of, number_of}
use Rattle.source.specs.Pending.{candidate}
use Rattle.domain_genmsi.specs.Genmsi.{kept_genmsi}
use Rattle.domain_delivery.specs.Delivery.{delivery_sound}
use Rattle.domain.specs.Domain.{domaincfg_of, is_enabled, by_messages, genmsi_of}
use Rattle.domain.specs.Slot.{source_at}
use Rattle.domain.specs.Structure.{structure_at}
use Rattle.domain_laws.specs.Shape.{DomainShaped}
use Rattle.domain_domaincfg.specs.Domaincfg.{kept_domaincfg}
use Rattle.wired_state.specs.Wires.{is_delegated}
use Rattle.source_rules.specs.SourceRules.{mode_range, target_range, inactive_rule, level_rule, source_steady}
use Rattle.source_rules.specs.SourceRules.{sent_rule, source_sound}
use Rattle.wired_rules.specs.Rules.{domaincfg_range, genmsi_range, structure_range, source_zero_rule}
use Rattle.wired_rules.specs.Rules.{genmsi_rule}
use Rattle.wired_rules.specs.Rules.{source_rule, domain_sound, delegated_rule, wired_sound}
use Rattle.board_block.specs.Block.{board_sound}
use Rattle.board_block.specs.Start.{start_file, start_files_from, start_domain, start_board}
use Rattle.board_block.proofs.StartLaws.{the_file-start_files_from}
use Rattle.board_block_laws.specs.Shape.{BoardShaped}
use Rattle.sizes.specs.Sizes.{file_count}

-- every rule computes
start-files-sound : files_sound start_board.files ≡ true
unfolding start_board start_files_from start_file files_sound every sound_at the_file is_guest file.file_sound
    file.delivery_rule delivery_legal file.threshold_rule file.zero_rule member has_bit bit_of
start-files-sound = refl

start-wired-sound : wired_sound start_board.wired ≡ true
unfolding start_board start_domain wired_sound domain_sound domaincfg_range genmsi_range structure_range
    source_zero_rule genmsi_rule source_rule delegated_rule source_sound source_steady sent_rule candidate
    mode_range target_range inactive_rule level_rule is_delegated kept_domaincfg structure_at source_at
    domaincfg_of
    is_enabled by_messages genmsi_of delivery_sound kept_genmsi is_active is_level kept_mode source_word every
    member has_bit bit_of hart_of number_of field_of packed
start-wired-sound = refl

pub start-sound : board_sound start_board ≡ true
unfolding board_sound
start-sound = simp (start-files-sound, start-wired-sound)

pub start-shaped : BoardShaped start_board
unfolding start_board start_domain start_files_from
start-shaped =
    record {
      many = refl;
      long = λ k h. rw (the_file-start_files_from 0 file_count k h) (start-long (0 + k));
      wires = refl;
      machine = domain-shaped;
      child = domain-shaped;
    }
  where
    start-long : (k : ℕ) → Long (start_file k)
    start-long k = unfold start_file in record { pending_long = refl; enable_long = refl }

    domain-shaped : DomainShaped start_domain
    domain-shaped =
        unfold start_domain in
        record { sources = refl; targets = refl; pendings = refl; enables = refl; deliveries = refl }
